-- The next request has the next row, and of cargo the rows in front.
use Rattle.std.proofs.Common.{◌≡◌, true, [], ◌∷◌, ◌∙◌, length, length-append, true≢false, sym, arith}
use Rattle.std.proofs.lemmas.Bool.Decides.{nat_tests}
use Rattle.tc_book.specs.Known.{told_requests}
use Rattle.tc_book.proofs.CargoLemmas.{taken_rows, next_there, next_is, none_left, all_read, read_more}
use Rattle.tc_book.proofs.reopening.known.push_all.Goals as goal

pub returns-in_default-clause-bad : goal.returns-in_default-clause-bad
returns-in_default-clause-bad g c = λ _ taken.
    next_there c.args.rows.now c.args.cargo.now c.loop-row.row-index c.loop-row.requests.items c.loop-row.rest.now c.loop-row.invariant.0
    (told_requests c.args.cargo.now c.args.rows.now) taken.requests.good (taken_rows c.args.cargo.now c.args.rows.now taken)
    c.row-item.result c.loop-row-test.true c.row-item.is c.in_default.ensures

pub returns-then-not-may_follow-clause-bad : goal.returns-then-not-may_follow-clause-bad
returns-then-not-may_follow-clause-bad g c = λ _ taken.
    let next =
    next_is c.args.rows.now c.args.cargo.now c.loop-row.row-index c.loop-row.requests.items c.loop-row.rest.now c.loop-row.invariant.0
    (told_requests c.args.cargo.now c.args.rows.now) taken.requests.good (taken_rows c.args.cargo.now c.args.rows.now taken)
    c.row-item.result c.in-Some.joined.request c.in-Some.joined.rest.now c.loop-row-test.true c.row-item.is c.in-Some.ensures in
    absurd (true≢false (sym (c.may_follow.ensures.1 (rw c.deref.ensures.value next.0)) ∙ c.if-not-may_follow.true))

pub loop-row-preserved : goal.loop-row-preserved
loop-row-preserved g c =
    let one = length-append c.loop-row.requests.items (c.in-Some.joined.request ∷ []) in
    let longer = c.loop-row.invariant.5 in (
      rw c.push_known.ensures.requests
          (read_more c.args.rows.now c.args.cargo.now c.loop-row.row-index c.loop-row.requests.items c.loop-row.rest.now c.loop-row.invariant.0
          c.row-item.result c.in-Some.joined.request c.in-Some.joined.rest.now c.loop-row-test.true c.row-item.is c.in-Some.ensures),
      c.push_known.ensures.known,
      (let room = c.push_known.ensures.room in let kept = c.loop-row.invariant.2 in omega (arith, room, kept)),
      (let room = c.push_known.ensures.stack_room in let kept = c.loop-row.invariant.3 in omega (arith, room, kept)),
      c.push_known.ensures.counts ∙ c.loop-row.invariant.4,
      rw c.push_known.ensures.requests (omega (arith, one, longer)),
    )

pub returns-clause-requests : goal.returns-clause-requests
returns-clause-requests g c = λ is.
    let none : length c.loop-row.rest.now ≡ 0 = grind (arith, nat_tests, is, c.is_empty.ensures) in
    (all_read c.args.rows.now c.args.cargo.now c.loop-row.row-index c.loop-row.requests.items c.loop-row.rest.now c.loop-row.invariant.0 c.loop-row-test.false none c.loop-row.invariant.1.good).0

pub returns-clause-carried : goal.returns-clause-carried
returns-clause-carried g c = λ is.
    let none : length c.loop-row.rest.now ≡ 0 = grind (arith, nat_tests, is, c.is_empty.ensures) in
    (all_read c.args.rows.now c.args.cargo.now c.loop-row.row-index c.loop-row.requests.items c.loop-row.rest.now c.loop-row.invariant.0 c.loop-row-test.false none c.loop-row.invariant.1.good).1

pub returns-clause-bad : goal.returns-clause-bad
returns-clause-bad g c = λ is taken.
    let none =
    none_left c.args.rows.now c.args.cargo.now c.loop-row.row-index c.loop-row.requests.items c.loop-row.rest.now c.loop-row.invariant.0
    (told_requests c.args.cargo.now c.args.rows.now) taken.requests.good (taken_rows c.args.cargo.now c.args.rows.now taken) c.loop-row-test.false in
    let there : c.is_empty.result ≡ true = grind (arith, nat_tests, none, c.is_empty.ensures) in
    absurd (true≢false (sym there ∙ is))
