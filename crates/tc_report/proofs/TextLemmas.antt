-- Lines as they are written.
use Rattle.std.proofs.Common.{◌≡◌, ℕ, List, [], ◌∷◌, ◌++◌, refl, sym, ap, ap₂, ◌∙◌, append_assoc}
use Rattle.std.proofs.lemmas.List.Folds.{list_all-append}
use Rattle.tc_types.specs.Words.{is_one_line}
use Rattle.tc_report.specs.Texts.{ended, AreLines}

pub ended-append : (xs ys : List (List ℕ)) → ended (xs ++ ys) ≡ ended xs ++ ended ys
ended-append [] ys = refl
ended-append (x ∷ xs) ys = ap (λ l. (x ++ 10 ∷ []) ++ l) (ended-append xs ys) ∙ sym (append_assoc (x ++ 10 ∷ []) (ended xs) (ended ys))

-- one line more
pub added : {mid new : List ℕ} (lines : List (List ℕ)) (line said : List ℕ) → mid ≡ ended lines → new ≡ mid ++ ended (said ∷ []) → said ≡ line → new ≡ ended (lines ++ line ∷ [])
added lines line said before now is = now ∙ ap₂ (λ m s. m ++ ended (s ∷ [])) before is ∙ sym (ended-append lines (line ∷ []))

-- lines behind lines
pub lines-append : (xs ys : List (List ℕ)) → AreLines xs → AreLines ys → AreLines (xs ++ ys)
lines-append xs ys first then = list_all-append is_one_line xs ys ∙ rw (first, then) refl
