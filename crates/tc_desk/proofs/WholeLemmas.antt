-- A desk stays whole exactly where as much came down and flies down as flew and was put.
use Rattle.std.proofs.Common.{◌≡◌, ℕ, ◌+◌, ◌==◌, inl, inr, Bool, true, false, ◌&&◌, List, [], ◌∷◌, ◌++◌, length, refl, sym, ◌∙◌, ap, arith}
use Rattle.std.proofs.lemmas.Bool.Decides.{nat_tests}
use Rattle.std.proofs.lemmas.List.{length-append, length-map}
use Rattle.tc_types.specs.declared.link.reports.Report.{Report}
use Rattle.tc_types.specs.declared.link.reports.Report.TheVariants as report
use Rattle.tc_types.specs.declared.acts.LinkAct.{LinkAct}
use Rattle.tc_types.specs.declared.acts.LinkAct.TheVariants as link_act
use Rattle.tc_types.specs.declared.acts.Act.{Act}
use Rattle.tc_types.specs.declared.acts.Act.TheVariants as act
use Rattle.tc_world.specs.declared.events.LinkIndication.{LinkIndication}
use Rattle.tc_world.specs.Links.{Kind}
use Rattle.tc_world.specs.Sublist.{IsSublist}
use Rattle.tc_world.proofs.Lists.{sublist_length}
use Rattle.tc_board.specs.Board.{work_reports}
use Rattle.tc_desk.specs.State.{State, DeskState}
use Rattle.tc_desk.specs.Asks.{taken_in, reports_after}
use Rattle.tc_desk.specs.Acts.{is_question}
use Rattle.tc_desk.specs.Parts.{IsPutCount, IsCounted, IsEven}
use Rattle.tc_desk.specs.Downlink.{came_down, ArePutInFlight, ArePut, MovesDown, KeepsWhole}

-- a list with as many items left in has none left out
sublist_whole : {X : Type 0} (xs ys : List X) → IsSublist xs ys → length xs ≡ length ys → xs ≡ ys
sublist_whole xs [] none same = none
sublist_whole xs (y ∷ ys) (inl out) same = let short = sublist_length xs ys out in absurd (omega (arith, short, same))
sublist_whole {X} xs (y ∷ ys) (inr on) same =
    let long : length xs ≡ length on.0 + 1 = ap length on.1 ∙ omega arith in
    let rest : length on.0 ≡ length ys = omega (arith, long, same) in
    on.1 ∙ ap (λ (l : List X). y ∷ l) (sublist_whole on.0 ys on.2 rest)

-- so many items are put
count_in_flight : {U D : Type 0} (at : State U D) (given : LinkAct) (all : List LinkIndication) (items : List Report) (count : ℕ) → ArePutInFlight at given all items → IsPutCount at given all count → count ≡ length items
count_in_flight at (link_act.Release n) all items count are counted = counted ∙ sym (ap length are)
count_in_flight at (link_act.Direct given) all items count are counted = counted ∙ sym (ap length are)
count_in_flight at link_act.Tick all items count are counted = counted ∙ sym (ap length are)
count_in_flight at link_act.Up all items count are counted = counted ∙ sym (ap length are ∙ length-map (reports_after (taken_in all)) report.Telemetry)
count_in_flight at (link_act.LoseUp place) all items count are counted = counted ∙ sym (ap length are)
count_in_flight at (link_act.LoseDown place) all items count are counted = counted ∙ sym (ap length are)
count_in_flight at link_act.Clcw all items count are counted = counted ∙ sym (ap length are.2)
count_in_flight at link_act.Down all items count are counted = counted ∙ sym (ap length are)
count_in_flight at link_act.Work all items count are counted = counted ∙ sym (ap length are ∙ length-map (work_reports at.board at.board.buffer) report.Telemetry)
count_in_flight at (link_act.Clock time) all items count are counted = counted are.0 are.1 ∙ sym (ap length are.2 ∙ length-map are.0 report.Telemetry)

count_put : {U D : Type 0} (at : State U D) (given : Act) (all : List LinkIndication) (items : List Report) (count : ℕ) → is_question given ≡ false → ArePut at given all items → IsCounted at given all count → count ≡ length items
count_put at (act.Book given) all items count asks are counted = counted ∙ sym (ap length are)
count_put at (act.Link given) all items count asks are counted = count_in_flight at given all items count are counted
count_put at (act.Step given) all items count asks are counted = counted ∙ sym (ap length are)
count_put at (act.Ask asked) all items count asks are counted = cc

-- by the counts: a desk that is whole stays so exactly where they are even
pub keeps_whole : {U D : Type 0} (down : Kind D Report) (given : Act) (old new : DeskState U D) (all : List LinkIndication) (kept : Bool)
    → is_question given ≡ false → MovesDown down given old.parts new.parts all → IsEven down old.parts given new.parts all kept → new.whole ≡ (old.whole && kept)
    → KeepsWhole down given old new all
keeps_whole down given old new all kept asks moves even whole =
    let flew : List Report = down.content old.parts.world.down in
    let flies : List Report = down.content new.parts.world.down in
    let came : List Report = came_down all in
    let long : length (flew ++ moves.put) ≡ length flew + even.put = length-append flew moves.put ∙ ap (λ n. length flew + n) (sym (count_put old.parts given all moves.put even.put asks moves.are even.counted)) in
    let short : length (came ++ flies) ≡ length came + length flies = length-append came flies in
    let same : new.whole ≡ (old.whole && (length flew + even.put == length came + length flies)) = whole ∙ ap (λ b. old.whole && b) even.even in
    record {
      put = moves.put;
      are = moves.are;
      exact = (
        λ h.
            let both = both_hold old.whole (length flew + even.put == length came + length flies) (sym same ∙ h) in
            let level : length flew + even.put ≡ length came + length flies = equal_counts (length flew + even.put) (length came + length flies) both.1 in
            (both.0, sym (sublist_whole (came ++ flies) (flew ++ moves.put) moves.rest (short ∙ sym level ∙ sym long))),
        λ h. same ∙ ap (λ b. b && (length flew + even.put == length came + length flies)) h.0 ∙ same_counts (length flew + even.put) (length came + length flies) (sym long ∙ ap length h.1 ∙ short),
      );
    }
  where
    both_hold : (a b : Bool) → (a && b) ≡ true → (a ≡ true) × (b ≡ true)
    both_hold true b e = (refl, e)
    both_hold false b e = cc

    equal_counts : (n m : ℕ) → (n == m) ≡ true → n ≡ m
    equal_counts n m e = grind (arith, nat_tests)

    same_counts : (n m : ℕ) → n ≡ m → (n == m) ≡ true
    same_counts n m e = grind (arith, nat_tests)
