-- What is shown is the book's.
use Rattle.std.proofs.Common.{rules, ◌≡◌, ◌∙◌, true, drop, length, map, take, refl, ap, ap₂, subst, sym}
use Rattle.std.specs.Prelude.{vec_len}
use Rattle.std.specs.List.{AllByRecursion}
use Rattle.tc_urgent.specs.Folds.{folded}
use Rattle.tc_wall.specs.declared.walls.TheConstants.{MOST_LINES, MOST_OPEN}
use Rattle.tc_view.specs.Gathered.{AreTrailsOf, IsNumbered, IsOpenOf}
use Rattle.tc_view.specs.Urgents.{count_of, counts_of, row_of}
use Rattle.tc_view.specs.Ways.{AreWaysOf, is_open, open_of}
use Rattle.tc_view.proofs.OpenLemmas.{first_numbered, first_open}
use Rattle.tc_view.proofs.PageLemmas.{page_made}
use Rattle.tc_view.proofs.pages.page_of.Goals as goal

pub gather-requires : goal.gather-requires
gather-requires g c =
    let book = c.args.records.now.book in
    let found = subst (λ lines. IsOpenOf (open_of book lines) c.in_ok-found.found) c.deref-5.ensures.value c.in_ok-found.ensures in
    subst (AllByRecursion (IsNumbered (length book.requests))) (sym c.deref-6.ensures.value) (first_numbered book c.in_ok-lines.lines.items c.in_ok-found.found c.mark-mark.ensures.good.requests found)

pub trails_of-requires-clause-open : goal.trails_of-requires-clause-open
trails_of-requires-clause-open g c =
    let book = c.args.records.now.book in
    let found = subst (λ lines. IsOpenOf (open_of book lines) c.in_ok-found.found) c.deref-5.ensures.value c.in_ok-found.ensures in
    subst (AllByRecursion (λ r. is_open book r ≡ true)) (sym c.deref-7.ensures.value) (first_open book c.in_ok-lines.lines.items c.in_ok-found.found c.mark-mark.ensures.good.requests found)

pub returns-clause-page : goal.returns-clause-page
returns-clause-page g c =
    let book = c.args.records.now.book in
    let lines = c.in_ok-lines.lines.items in
    let shown = c.in_ok-shown.shown.items in
    let counted : vec_len c.in_ok-shown.shown ≡ length shown = search rules in
    let found = subst (λ l. IsOpenOf (open_of book l) c.in_ok-found.found) c.deref-5.ensures.value c.in_ok-found.ensures in
    let trails = subst (λ rs. AreTrailsOf book rs c.in_ok-trails.trails.items) (c.deref-7.ensures.value ∙ found.first) c.in_ok-trails.ensures in
    let ways = c.in_ok-ways.ensures book (take MOST_OPEN (open_of book lines)) (subst (λ ts. AreTrailsOf book (take MOST_OPEN (open_of book lines)) ts) (sym c.deref-8.ensures.value) trails) in
    page_made book c.args.stood c.args.scheduled.now c.args.opening _ c.wall_text.result _ c.wall_text.ensures.page (record {
      shown = shown;
      by_urgency = record {
        lines = lines;
        once = c.in_ok-lines.ensures.once;
        sorted = c.in_ok-lines.ensures.sorted;
        folds = c.in_ok-shown.ensures ∙ ap folded c.deref.ensures.value;
      };
      entered = c.count.ensures.count;
      counts = c.tallies-counts.ensures;
      urgent = c.deref-9.ensures.value ∙ c.in_ok-rows.ensures ∙ ap (λ l. map (row_of book) (take MOST_LINES l)) c.deref-2.ensures.value;
      lines = c.len.ensures ∙ counted;
      left = c.left_counts-left.ensures ∙ ap (λ l. counts_of (drop MOST_LINES l)) c.deref-3.ensures.value;
      failed = c.count_of-failed.ensures ∙ ap₂ count_of c.deref-4.ensures.value c.urgency-rank.ensures.value;
      ways = subst (λ ws. AreWaysOf book (take MOST_OPEN (open_of book lines)) ws) (sym c.deref-10.ensures.value) ways;
      opened = found.count;
      moves = c.rows-moves.ensures;
      moved = ap length c.rows-moves.ensures;
    }) refl refl
