-- The row of each request that is one of the stack.
use Rattle.std.proofs.Common.{◌≡◌, ℕ, ◌+◌, length, if◌then◌else◌, ◌∙◌, ap, arith}
use Rattle.tc_book.specs.Acts.{row_approved}
use Rattle.tc_book.specs.Book.{Book}
use Rattle.tc_book.specs.Stacks.{is_in_stack, is_stack_approved}
use Rattle.tc_book.proofs.ApproveLemmas.{rows_more, row_requests, row_stays_approved, count_more, count_front, read_there}
use Rattle.tc_book.proofs.CountLemmas.{kept_on}
use Rattle.tc_book.proofs.records.Records.approve_rows.Goals as goal

pub approve_row-requires-clause-there : goal.approve_row-requires-clause-there
approve_row-requires-clause-there g c =
    let all : c.len-at-end.result ≡ length c.self.inside.requests.items = grind (arith, c.len-at-end.ensures) in
    (read_there _ _ _ _ c.loop-at.at c.len-at-end.result c.index-row.result.now c.self-in-loop-at.view_is c.loop-at.invariant.1 c.self.view_is all c.loop-at-test.true c.self-in-loop-at.invariant.0.requests c.index-row.ensures).2

pub approve_row-requires-clause-room : goal.approve_row-requires-clause-room
approve_row-requires-clause-room g c = λ is.
    let all : c.len-at-end.result ≡ length c.self.inside.requests.items = grind (arith, c.len-at-end.ensures) in
    let read = read_there _ _ _ _ c.loop-at.at c.len-at-end.result c.index-row.result.now c.self-in-loop-at.view_is c.loop-at.invariant.1 c.self.view_is all c.loop-at-test.true c.self-in-loop-at.invariant.0.requests c.index-row.ensures in
    let more = count_more c.args.name.now c.args.self.now.book.requests c.loop-at.at c.index-row.result.now read.0 read.1 in
    let one : ◌≡◌ {A = ℕ} (if is_in_stack c.args.name.now c.index-row.result.now then 1 else 0) 1 = ap (λ t. if t then 1 else 0) is in
    let most = count_front c.args.name.now c.args.self.now.book.requests (c.loop-at.at + 1) in
    let room = c.requires.room in
    let kept = c.loop-at.invariant.3.rows in
    let so_far = c.loop-at.invariant.4 in
    omega (arith, more, one, most, room, kept, so_far)

pub loop-at-preserved : goal.loop-at-preserved
loop-at-preserved g c =
    let all : c.len-at-end.result ≡ length c.self.inside.requests.items = grind (arith, c.len-at-end.ensures) in
    let read = read_there _ _ _ _ c.loop-at.at c.len-at-end.result c.index-row.result.now c.self-in-loop-at.view_is c.loop-at.invariant.1 c.self.view_is all c.loop-at-test.true c.self-in-loop-at.invariant.0.requests c.index-row.ensures in
    let more = count_more c.args.name.now c.args.self.now.book.requests c.loop-at.at c.index-row.result.now read.0 read.1 in
    let history = c.approve_row.ensures.rows in
    let history_before = c.loop-at.invariant.4 in (
      c.approve_row.ensures.becomes.book
          ∙ ap (λ (b : Book). if is_in_stack c.args.name.now c.index-row.result.now then row_approved c.args.stamp.now b c.index-row.result.now.number else b) c.loop-at.invariant.0
          ∙ rows_more c.args.stamp.now c.args.name.now c.args.self.now.book.requests c.args.self.now.book c.loop-at.at c.index-row.result.now read.0 read.1,
      ap (λ (b : Book). b.requests) c.approve_row.ensures.becomes.book
          ∙ row_requests c.args.stamp.now c.loop-at.self.book c.index-row.result.now.number (is_in_stack c.args.name.now c.index-row.result.now)
          ∙ c.loop-at.invariant.1,
      ap (λ (b : Book). is_stack_approved b c.args.name.now) c.approve_row.ensures.becomes.book
          ∙ row_stays_approved c.args.stamp.now c.loop-at.self.book c.index-row.result.now.number (is_in_stack c.args.name.now c.index-row.result.now) c.args.name.now c.loop-at.invariant.2,
      kept_on _ _ _ c.loop-at.invariant.3 c.approve_row.ensures.becomes.kept,
      omega (arith, history, history_before, more),
    )
