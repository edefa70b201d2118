-- A copy that was read while a checkpoint emptied the log.
use Rattle.std.proofs.Common.{◌≡◌, ◌≢◌, ℕ, List, [], ◌∷◌, Some, refl, arith}
use Rattle.std.specs.Prelude.{IfSome}
use Rattle.tc_copy.specs.declared.marks.Marks.{Marks}
use Rattle.tc_copy.specs.Marks.{head_of}
use Rattle.tc_copy.specs.Files.{Event, Files, Frame, emptied, filled}
use Rattle.tc_copy.specs.Copies.{Mixes}

-- page 1 in its new form
frame : Frame
frame = record { page = 1; content = 0 ∷ [] }

-- a desk whose log alone has it
desk : Marks → Files
desk marks = record { file = λ page. []; log = frame ∷ []; marks = marks }

-- what happens to it: page 1 is copied into the file, and the log is emptied
checkpoint : Marks → Marks → List Event
checkpoint between behind = filled 1 between ∷ emptied behind ∷ []

differ : (xs : List ℕ) (x : ℕ) → xs ≡ [] → xs ≡ x ∷ [] → ⊥
differ xs x empty full = grind arith

pub mixes : (before between behind : Marks) → head_of between.log ≡ head_of before.log → between ≢ before → behind ≢ before
    → IfSome (head_of behind.log) (λ head. head_of before.log ≢ Some head) → Mixes before behind
unfolding desk checkpoint frame
mixes before between behind same later last other =
    (desk before, checkpoint between behind, (λ page. []), 1, refl, ((refl, same, later), ((other, last), tt)), refl, (λ page none. refl), (λ alike. differ [] 0 refl alike))
