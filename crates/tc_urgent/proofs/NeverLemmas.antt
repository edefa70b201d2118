-- Locks that never open, one line further.
use Rattle.std.proofs.Common.{◌≡◌, ℕ, zero, suc, ◌-◌, ◌<◌, Bool, true, false, ◌||◌, Option, Some, None, refl, sym, ◌∙◌, ap, arith}
use Rattle.std.specs.Option.{option_map_or}
use Rattle.tc_book.specs.Book.{Book, stands}
use Rattle.tc_urgent.specs.Judging.{awaited, lost_places, never_opens}

never_step : (most : ℕ) (book : Book) (n : ℕ) → 0 < most → never_opens most book n ≡ option_map_or (λ m. stands book m lost_places || never_opens (most - 1) book m) (awaited book n) false
never_step zero book n some = absurd (omega (arith, some))
never_step (suc most) book n some = let less : suc most - 1 ≡ most = omega arith in rw less refl

pub never_none : (most : ℕ) (book : Book) (n : ℕ) → 0 < most → awaited book n ≡ None → false ≡ never_opens most book n
never_none most book n some none = sym (never_step most book n some ∙ ap (λ o. option_map_or (λ m. stands book m lost_places || never_opens (most - 1) book m) o false) none)

pub never_lost : (most : ℕ) (book : Book) (n before : ℕ) (s : Bool) → 0 < most → awaited book n ≡ Some before → s ≡ stands book before lost_places → s ≡ true → s ≡ never_opens most book n
never_lost most book n before s some one is lost =
    lost
    ∙ ap (λ t. t || never_opens (most - 1) book before) (sym lost ∙ is)
    ∙ sym (never_step most book n some ∙ ap (λ o. option_map_or (λ m. stands book m lost_places || never_opens (most - 1) book m) o false) one)

pub never_before : (most : ℕ) (book : Book) (n before : ℕ) (s r : Bool) → 0 < most → awaited book n ≡ Some before → s ≡ stands book before lost_places → s ≡ false → r ≡ never_opens (most - 1) book before → r ≡ never_opens most book n
never_before most book n before s r some one is stays rest =
    rest
    ∙ ap (λ t. t || never_opens (most - 1) book before) (sym stays ∙ is)
    ∙ sym (never_step most book n some ∙ ap (λ o. option_map_or (λ m. stands book m lost_places || never_opens (most - 1) book m) o false) one)
