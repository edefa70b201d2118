-- Lines that are folded into one.
use Rattle.std.specs.Prelude.{ℕ, ◌+◌, ◌==◌, ◌&&◌, Bool, false, nat_lt, if◌then◌else◌, Option, Some, None, List, [], ◌∷◌, ◌++◌, fold}
use Rattle.tc_types.specs.Names.{is_same_name}
use Rattle.tc_urgent.specs.declared.lines.UrgentLine.{UrgentLine}
use Rattle.tc_urgent.specs.Kinds.{is_folded, is_folded_alone, is_same_kind}

-- two requests came with one stack; with none, whether lines of their kind are folded
abbrev pub is_same_stack : Bool → Option (List ℕ) → Option (List ℕ) → Bool
is_same_stack alone None None = alone
is_same_stack alone (Some a) (Some b) = is_same_name a b
is_same_stack alone a b = false

-- Of two lines the first takes the second in, if both are of one kind and of one stack, or of a kind that is folded without a stack. One line stands for 65,536 at most.
abbrev pub takes_in : UrgentLine → UrgentLine → Bool
takes_in line next = is_folded line.kind && is_same_kind line.kind next.kind && is_same_stack (is_folded_alone line.kind) line.stack next.stack && nat_lt (line.same + next.same) 65535

-- one line for both
abbrev pub both : UrgentLine → UrgentLine → UrgentLine
both line next = record line { same = line.same + 1 + next.same }

abbrev pub joined : UrgentLine → UrgentLine → List UrgentLine
joined line next = if takes_in line next then both line next ∷ [] else line ∷ next ∷ []

-- the lines with one more, which the last takes in if it may
abbrev pub with_next : List UrgentLine → UrgentLine → List UrgentLine
with_next [] next = next ∷ []
with_next (line ∷ []) next = joined line next
with_next (line ∷ second ∷ lines) next = line ∷ with_next (second ∷ lines) next

abbrev pub folded : List UrgentLine → List UrgentLine
folded lines = fold with_next [] lines

-- how many requests or executions a line stands for, and how many these do
abbrev pub stands_for : UrgentLine → ℕ
stands_for line = line.same + 1

abbrev pub total : List UrgentLine → ℕ
total [] = 0
total (line ∷ lines) = stands_for line + total lines
