-- What stands stays standing where requests leave the front of the Sent_Queue.
use Rattle.std.proofs.Common.{◌≡◌, ℕ, ◌+◌, ◌-◌, ◌%◌, ◌≤◌, true, false, List, map, length, drop, refl, sym, ◌∙◌, ap, subst, arith}
use Rattle.std.proofs.lemmas.Bool.{true≢false}
use Rattle.std.proofs.lemmas.List.{length-map, length-drop}
use Rattle.tc_fop.specs.declared.queues.Outstanding.{Outstanding}
use Rattle.tc_fop.specs.declared.signals.FopState.{FopState}
use Rattle.tc_fop.specs.declared.signals.FopState.TheVariants.{Active, RetransmitWithoutWait, RetransmitWithWait, InitialisingWithoutBc, InitialisingWithBc, Initial}
use Rattle.tc_fop.specs.Machine.{Machine}
use Rattle.tc_fop.specs.Calls.{is_taking}
use Rattle.tc_fop.specs.Queued.{held_of}
use Rattle.tc_fop.specs.Standing.{IsFop, AreNumbered, is_starting}
use Rattle.tc_fop.proofs.QueueLemmas.{held_unflagged, numbered_drop}

taking_is_not_starting : (s : FopState) → is_taking s ≡ true → is_starting s ≡ false
taking_is_not_starting Active t = refl
taking_is_not_starting RetransmitWithoutWait t = refl
taking_is_not_starting RetransmitWithWait t = refl
taking_is_not_starting InitialisingWithoutBc t = sym t
taking_is_not_starting InitialisingWithBc t = sym t
taking_is_not_starting Initial t = refl

pub removed_stands : (m : Machine) (q left : List Outstanding) (d count : ℕ) → m.sent ≡ map held_of q → left ≡ drop d q → d ≤ length q → is_taking m.state ≡ true → 1 ≤ count → count ≤ 255 → IsFop m → IsFop (record m { nn = (m.nn + d) % 256; sent = map held_of left; count = count })
removed_stands m q left d count e rest there t least most h =
    let whole : length m.sent ≡ length q = ap length e ∙ length-map q held_of in
    let fewer : length (map held_of left) ≡ length q - d = length-map left held_of ∙ ap length rest ∙ length-drop d q in
    let few : length m.sent ≤ 255 = h.few in
    let known : m.vs ≡ (m.nn + length m.sent) % 256 = h.next t in
    let numbered : AreNumbered m.nn (map held_of q) = subst (λ l. AreNumbered m.nn l) e h.numbered in
    record {
      few = omega (arith, fewer, whole, few);
      next = λ _. omega (arith, fewer, whole, known, there);
      numbered = subst (λ l. AreNumbered ((m.nn + d) % 256) (map held_of l)) (sym rest) (numbered_drop m.nn d q numbered);
      no_sent = λ f. absurd (true≢false (sym t ∙ f));
      no_waiting = h.no_waiting;
      starting = λ s. absurd (true≢false (sym s ∙ taking_is_not_starting m.state t));
      control = h.control;
      no_timer = h.no_timer;
      no_flag = held_unflagged left;
      vs = h.vs;
      nn = omega arith;
      k_least = h.k_least;
      k_most = h.k_most;
      t1_least = h.t1_least;
      t1_most = h.t1_most;
      timer_most = h.timer_most;
      limit_least = h.limit_least;
      limit_most = h.limit_most;
      count_least = least;
      count_most = most;
    }
