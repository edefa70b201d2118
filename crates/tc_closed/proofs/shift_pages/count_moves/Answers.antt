-- A page more was counted, or the last, behind which nothing is left.
use Rattle.std.proofs.Common.{◌≡◌, ◌∙◌, ◌++◌, sym, ap, arith, length}
use Rattle.std.proofs.lemmas.List.{append-nil, length-append}
use Rattle.tc_types.specs.History.{shift_rows}
use Rattle.tc_closed.specs.Closed.{OnlyReads}
use Rattle.tc_closed.proofs.ReadLemmas.{left_behind, left_none, reads_then, leaves_then}
use Rattle.tc_closed.proofs.shift_pages.count_moves.Goals as goal

pub pages-preserved : goal.pages-preserved
pages-preserved g c =
    let first = c.args.tables.now in
    let mid = c.pages.tables in
    let last = c.shift_page.new.self in
    let here : OnlyReads g.S.Store mid last = record { holds = λ clean version ledger held. c.in_ok-page.ensures.reads.same clean version ledger held; clean = c.shift_page.ensures.reads.clean } in (
      reads_then g.S.Store first mid last c.pages.invariant.0 here,
      leaves_then g.S.Store first mid last c.pages.invariant.0 c.pages.invariant.1 (record { holds = c.shift_page.ensures.reads.kept; crash = λ clean. c.shift_page.ensures.reads.crash; clean = c.shift_page.ensures.reads.clean }),
      λ clean version ledger held.
          let was = c.pages.invariant.2 (c.shift_page.ensures.reads.clean clean) version ledger held in
          let stood = c.pages.invariant.0.holds (c.shift_page.ensures.reads.clean clean) version ledger held in
          let goes = c.in_ok-page.ensures.moves clean version ledger stood was.0 was.2 in (
            was.0 ++ c.in_ok-page.page.moves.items,
            omega (arith, length-append was.0 c.in_ok-page.page.moves.items, was.1, c.len.ensures, c.in-Some.ensures),
            ap (λ l. (was.0 ++ c.in_ok-page.page.moves.items) ++ l) (sym (left_behind c.in_ok-page.page.next (shift_rows c.args.from c.args.to ledger.image.moves) c.is_none.result c.is_none.ensures c.if-is_none.false)) ∙ goes,
          ),
    )

pub returns-then-is_none : goal.returns-then-is_none
returns-then-is_none g c =
    let first = c.args.tables.now in
    let mid = c.pages.tables in
    let last = c.shift_page.new.self in
    let here : OnlyReads g.S.Store mid last = record { holds = λ clean version ledger held. c.in_ok-page.ensures.reads.same clean version ledger held; clean = c.shift_page.ensures.reads.clean } in
    record {
      told = λ clean version ledger held.
          let was = c.pages.invariant.2 (c.shift_page.ensures.reads.clean clean) version ledger held in
          let stood = c.pages.invariant.0.holds (c.shift_page.ensures.reads.clean clean) version ledger held in
          let goes = c.in_ok-page.ensures.moves clean version ledger stood was.0 was.2 in
          let all = shift_rows c.args.from c.args.to ledger.image.moves in
          let page = c.in_ok-page.page.moves.items in
          let whole : was.0 ++ page ≡ all = sym (append-nil (was.0 ++ page)) ∙ ap (λ l. (was.0 ++ page) ++ l) (sym (left_none c.in_ok-page.page.next all c.is_none.result c.is_none.ensures c.if-is_none.true)) ∙ goes in
          omega (arith, length-append was.0 page, was.1, c.len.ensures, c.in-Some.ensures, ap length whole);
      reads = reads_then g.S.Store first mid last c.pages.invariant.0 here;
      left = leaves_then g.S.Store first mid last c.pages.invariant.0 c.pages.invariant.1 (record { holds = c.shift_page.ensures.reads.kept; crash = λ clean. c.shift_page.ensures.reads.crash; clean = c.shift_page.ensures.reads.clean });
    }
