-- The row of a line begins with the bytes that are written.
use Rattle.std.proofs.Common.{◌≡◌, ◌∙◌, ℕ, List, [], ◌∷◌, ◌++◌, codes, ap, sym, append_assoc, append-nil}
use Rattle.std.specs.Fmt.{decimal}
use Rattle.std.specs.Prelude.{OnOk, Result, Ok, Err}
use Rattle.tc_urgent.specs.declared.kinds.UrgentKind.{UrgentKind}
use Rattle.tc_wall.specs.Kinds.{kind_begins, kind_class, kind_letter}
use Rattle.tc_wall.specs.Parts.{Adds, Part, shown_all}
use Rattle.tc_wall.specs.Urgents.{subject_parts}

-- what was written is the parts, however it is put together
pub added_as : {E : Type 0} (r : Result (Unit {0}) E) (parts : List Part) (old new bytes : List ℕ) → bytes ≡ shown_all parts → OnOk r (new ≡ old ++ bytes) → OnOk r (Adds parts old new)
added_as (Ok done) parts old new bytes same is = record { bytes = is ∙ ap (λ l. old ++ l) same }
added_as (Err error) parts old new bytes same is = tt

six : (a b c d e f rest : List ℕ) → (a ++ b ++ c ++ d ++ e ++ f) ++ rest ≡ a ++ (b ++ (c ++ (d ++ (e ++ (f ++ rest)))))
six a b c d e f rest =
    append_assoc (a ++ b ++ c ++ d ++ e) f rest ∙ append_assoc (a ++ b ++ c ++ d) e (f ++ rest) ∙ append_assoc (a ++ b ++ c) d (e ++ (f ++ rest))
    ∙ append_assoc (a ++ b) c (d ++ (e ++ (f ++ rest))) ∙ append_assoc a b (c ++ (d ++ (e ++ (f ++ rest))))

pub subject_shown : (kind : UrgentKind) (n : ℕ)
    → codes "<tr id=\"" ++ (kind_letter kind ++ (decimal n ++ (codes "\" class=\"" ++ (kind_class kind ++ (codes "\">" ++ (kind_begins kind ++ decimal n)))))) ≡ shown_all (subject_parts kind n)
unfolding subject_parts
subject_shown kind n =
    ap (λ l. codes "<tr id=\"" ++ (kind_letter kind ++ (decimal n ++ (codes "\" class=\"" ++ (kind_class kind ++ (codes "\">" ++ (kind_begins kind ++ l))))))) (sym (append-nil (decimal n)))
    ∙ sym (six (codes "<tr id=\"") (kind_letter kind) (decimal n) (codes "\" class=\"") (kind_class kind) (codes "\">") (kind_begins kind ++ (decimal n ++ [])))
