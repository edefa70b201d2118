-- The bytes of a response.
use Rattle.std.proofs.Common.{◌≡◌, ◌∙◌, ◌-◌, ℕ, false, List, [], ◌∷◌, ◌++◌, length, map, min, refl, sym, ap, take}
use Rattle.std.proofs.lemmas.List.{append_assoc, take-map, take_min, length-map}
use Rattle.serde_json.specs.Data.{Data, Items}
use Rattle.serde_json.specs.Written.{has_float, items_have_float}
use Rattle.tc_api.specs.Responses.{body_data, reply_data, strings}

-- all pieces but the last, as the texts that they are
pub popped_lines : {X : Type 0} (text_of : X → List ℕ) (pieces left : List X) (n : ℕ) (lines : List (List ℕ)) → map text_of pieces ≡ lines → n ≡ length pieces → left ≡ take (n - 1) pieces
    → map text_of left ≡ take (length lines - 1) lines
popped_lines text_of pieces left n lines mapped counted rest =
    let long : length lines ≡ length pieces = ap length (sym mapped) ∙ length-map pieces text_of in
    rw (rest, counted, long, ← mapped) (sym (take-map text_of (length pieces - 1) pieces))

-- texts have no float
strings_lack_floats : (lines : List (List ℕ)) → items_have_float (strings lines) ≡ false
strings_lack_floats [] = refl
strings_lack_floats (line ∷ lines) = strings_lack_floats lines

reply_lacks_floats : (shown : List (List ℕ)) (more refusal : ℕ) → has_float (reply_data shown more refusal) ≡ false
reply_lacks_floats shown more refusal = rw (strings_lack_floats shown) refl

pub body_lacks_floats : (lines : List (List ℕ)) (refusal : ℕ) → has_float (body_data lines refusal) ≡ false
body_lacks_floats lines refusal = reply_lacks_floats (take 200 lines) (length lines - 200) refusal

-- the first 200 lines are shown, and the others are counted
pub body_said : {X : Type 0} (text_of : X → List ℕ) (lines : List X) (n more refusal : ℕ) (shown : Items) (value : Data)
    → n ≡ min 200 (length lines) → more ≡ length lines - 200 → shown ≡ strings (map text_of (take n lines))
    → ((texts : List (List ℕ)) → shown ≡ strings texts → value ≡ reply_data texts more refusal) → value ≡ body_data (map text_of lines) refusal
body_said text_of lines n more refusal shown value counted left are said =
    let first : map text_of (take n lines) ≡ take 200 (map text_of lines) = rw (counted, take_min) (sym (take-map text_of 200 lines)) in
    said (take 200 (map text_of lines)) (are ∙ ap strings first) ∙ ap (λ m. reply_data (take 200 (map text_of lines)) m refusal) (left ∙ ap (λ k. k - 200) (sym (length-map lines text_of)))

-- the head of a page, put together piece by piece
pub page_head_made : (status first lines size last sized made₀ made₁ made₂ made₃ made₄ : List ℕ) → made₀ ≡ status → made₁ ≡ made₀ ++ first → made₂ ≡ made₁ ++ lines → sized ≡ size
    → made₃ ≡ made₂ ++ sized → made₄ ≡ made₃ ++ last → made₄ ≡ status ++ (first ++ lines) ++ size ++ last
page_head_made status first lines size last sized made₀ made₁ made₂ made₃ made₄ begun ended titled counted told closed =
    let two : made₂ ≡ status ++ (first ++ lines) = titled ∙ (ap (λ t. t ++ lines) (ended ∙ ap (λ t. t ++ first) begun) ∙ append_assoc status first lines) in
    closed ∙ ap (λ t. t ++ last) (told ∙ (ap (λ t. t ++ sized) two ∙ ap (λ t. status ++ (first ++ lines) ++ t) counted))
