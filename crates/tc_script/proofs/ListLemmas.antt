-- Lists of words.
use Rattle.std.proofs.Common.{◌≡◌, ◌∙◌, ℕ, ◌+◌, ◌<◌, Bool, false, cond, Some, List, length, get_or, drop, sym, ap, eqb}
use Rattle.std.specs.Prelude.{count_by}
use Rattle.std.specs.List.{find}
use Rattle.std.proofs.lemmas.List.{at_drop_more}
use Rattle.std.proofs.lemmas.List.Splits.{length-slice_split}
use Rattle.tc_script.specs.Slots.{parts}

-- there is one part more than there are semicolons
pub parts_counted : (word : List ℕ) (count : ℕ) → count ≡ count_by (λ byte. eqb byte 59) word → count + 1 ≡ length (parts word)
parts_counted word count is = ap (λ n. n + 1) is ∙ sym (length-slice_split (λ byte. eqb byte 59) word)

-- what is looked for is not the next of them
pub find_more : {X : Type 0} (p : X → Bool) (all xs : List X) (i : ℕ) (d : X) → i < length xs → p (get_or xs i d) ≡ false → find p all ≡ find p (drop i xs) → find p all ≡ find p (drop (i + 1) xs)
find_more {X} p all xs i d here other so =
    so ∙ (at_drop_more (find p) xs i d here ∙ ap (λ is. cond is (Some (get_or xs i d)) (find p (drop (i + 1) xs))) other)
