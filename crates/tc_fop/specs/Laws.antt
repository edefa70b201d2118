-- Of which calls a law speaks: P takes what is offered, the machine before and after, and the output.
use Rattle.std.specs.Prelude.{ℕ, Option, Ok, List, [], ◌∷◌}
use Rattle.tc_farm.specs.declared.clcws.Clcw.{Clcw}
use Rattle.tc_types.specs.declared.link.directives.Directive.{Directive}
use Rattle.tc_fop.specs.Machine.{Machine, Waiting, Out}
use Rattle.tc_fop.specs.Calls.{offered, directed, reported, ticked, Answers}
use Rattle.tc_fop.specs.Standing.{IsFop}

abbrev pub AtWords : (List ℕ → Machine → Machine → Out → Type 0) → Type 0
AtWords P =
    (m : Machine) (word : Option Clcw) (new : Machine) (out : Out)
    → IsFop m → IsFop new → Answers (reported m word) m new (Ok out) → P [] m new out

abbrev pub AtTicks : (List ℕ → Machine → Machine → Out → Type 0) → Type 0
AtTicks P =
    (m : Machine) (new : Machine) (out : Out)
    → IsFop m → IsFop new → Answers (ticked m) m new (Ok out) → P [] m new out

abbrev pub AtOffers : (List ℕ → Machine → Machine → Out → Type 0) → Type 0
AtOffers P =
    (m : Machine) (w : Waiting) (new : Machine) (out : Out)
    → IsFop m → IsFop new → Answers (offered m w) m new (Ok out) → P (w.request ∷ []) m new out

abbrev pub AtDirectives : (List ℕ → Machine → Machine → Out → Type 0) → Type 0
AtDirectives P =
    (m : Machine) (directive : Directive) (new : Machine) (out : Out)
    → IsFop m → IsFop new → Answers (directed m directive) m new (Ok out) → P [] m new out
