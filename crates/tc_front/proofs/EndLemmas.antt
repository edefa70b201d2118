-- The end of a head, found in a front, is found in the whole; and a search that goes on finds what one from the very front finds.
use Rattle.std.proofs.Common.{◌≡◌, ℕ, suc, ◌+◌, ap, sym, ◌∙◌, ◌==◌, ◌≤◌, ◌<◌, Bool, true, false, if◌then◌else◌, Option, Some, None, IfSome, List, [], ◌∷◌, ◌++◌, refl, arith, length, take, drop, get_or, take-append-drop, append_assoc, length-append, length-take}
use Rattle.std.specs.Option.{option_map, option_or}
use Rattle.std.proofs.lemmas.List.{append-nil, take_all, take_more, take-append-le}
use Rattle.tc_front.specs.Ends.{is_end, one_more, line_feed, empty_line, text_end, head_end, end_behind, end_next, Reaches, HasSearched}
use Rattle.tc_front.specs.declared.ends.Before.{Before}
use Rattle.tc_front.specs.declared.ends.HeadSearch.{HeadSearch}
use Rattle.tc_front.specs.declared.ends.Before.TheVariants as before

-- what is found stays
abbrev pub Stays : Option ℕ → Option ℕ → Type 0
Stays None new = Unit {0}
Stays (Some n) new = new ≡ Some n

stays_refl : (a : Option ℕ) → Stays a a
stays_refl None = tt
stays_refl (Some n) = refl

stays_more : (a b : Option ℕ) → Stays a b → Stays (one_more a) (one_more b)
stays_more None b s = tt
stays_more (Some n) b s = rw s refl

stays_if : (t : Bool) (a b c d : Option ℕ) → Stays a b → Stays c d → Stays (if t then a else c) (if t then b else d)
stays_if true a b c d s u = s
stays_if false a b c d s u = u

line_feed-append : (xs ys : List ℕ) → Stays (line_feed xs) (line_feed (xs ++ ys))
line_feed-append [] ys = tt
line_feed-append (x ∷ xs) ys = stays_refl (line_feed (x ∷ xs))

empty_line-append : (xs ys : List ℕ) → Stays (empty_line xs) (empty_line (xs ++ ys))
empty_line-append [] ys = tt
empty_line-append (x ∷ xs) ys =
    stays_if (x == 10) _ _ _ _ (stays_refl (Some 1)) (stays_if (x == 13) _ _ _ _ (stays_more _ _ (line_feed-append xs ys)) (stays_refl None))

-- ---- what is found in a front is found in the whole

stays_or : (e a b : Option ℕ) → Stays a b → Stays (option_or e a) (option_or e b)
stays_or None a b s = s
stays_or (Some n) a b s = refl

stays_single : (a b : Bool) (k l : Option ℕ) → Stays (option_or (if a then Some 1 else (if b then None else None)) (one_more (if a then None else None))) (option_or (if a then Some 1 else k) l)
stays_single true b k l = refl
stays_single false true k l = tt
stays_single false false k l = tt

stays_here : (rest ys : List ℕ) → Stays (text_end rest) (text_end (rest ++ ys))
    → Stays (option_or (empty_line rest) (text_end rest)) (option_or (empty_line (rest ++ ys)) (text_end (rest ++ ys)))
stays_here [] ys s = tt
stays_here (x ∷ []) ys s = stays_single (x == 10) (x == 13) _ _
stays_here (x ∷ y ∷ rest) ys s = stays_or (empty_line (x ∷ y ∷ rest)) _ _ s

text_end-append : (xs ys : List ℕ) → Stays (text_end xs) (text_end (xs ++ ys))
text_end-append [] ys = tt
text_end-append (x ∷ xs) ys = stays_more _ _ (stays_if (x == 10) _ _ _ _ (stays_here xs ys (text_end-append xs ys)) (text_end-append xs ys))

pub head_end-append : (xs ys : List ℕ) → Stays (head_end xs) (head_end (xs ++ ys))
head_end-append [] ys = tt
head_end-append (x ∷ xs) ys = stays_if (is_end x) _ _ _ _ (stays_more _ _ (head_end-append xs ys)) (text_end-append (x ∷ xs) ys)

-- ---- it lies in the text

abbrev pub Within : Option ℕ → ℕ → Type 0
Within found n = IfSome found (λ k. k ≤ n)

within_more : (a : Option ℕ) (n : ℕ) → Within a n → Within (one_more a) (suc n)
within_more None n w = tt
within_more (Some k) n w = omega arith

within_if : (t : Bool) (a b : Option ℕ) (n : ℕ) → Within a n → Within b n → Within (if t then a else b) n
within_if true a b n v w = v
within_if false a b n v w = w

within_or : (a b : Option ℕ) (n : ℕ) → Within a n → Within b n → Within (option_or a b) n
within_or None b n v w = w
within_or (Some k) b n v w = v

within_feed : (xs : List ℕ) → Within (line_feed xs) (length xs)
within_feed [] = tt
within_feed (x ∷ xs) = within_if (x == 10) _ _ _ (omega arith) tt

within_empty : (xs : List ℕ) → Within (empty_line xs) (length xs)
within_empty [] = tt
within_empty (x ∷ xs) = within_if (x == 10) _ _ _ (omega arith) (within_if (x == 13) _ _ _ (within_more _ (length xs) (within_feed xs)) tt)

within_text : (xs : List ℕ) → Within (text_end xs) (length xs)
within_text [] = tt
within_text (x ∷ xs) = within_more _ (length xs) (within_if (x == 10) _ _ _ (within_or _ _ _ (within_empty xs) (within_text xs)) (within_text xs))

pub head_end-within : (xs : List ℕ) → Within (head_end xs) (length xs)
head_end-within [] = tt
head_end-within (x ∷ xs) = within_if (is_end x) _ _ _ (within_more _ (length xs) (head_end-within xs)) (within_text (x ∷ xs))

-- ---- a search that goes on

or_more : (a b : Option ℕ) → option_or (one_more a) (one_more b) ≡ one_more (option_or a b)
or_more None b = refl
or_more (Some n) b = refl

no_shift : (found : Option ℕ) → found ≡ option_map (λ n. 0 + n) found
no_shift None = refl
no_shift (Some n) = ap Some (omega arith)

-- at the very front
pub reaches_nothing : Reaches [] before.Nothing
reaches_nothing = record { ends = λ rest. no_shift (head_end rest) }

shift_next : (found : Option ℕ) (n m : ℕ) → m ≡ n + 1 → option_map (λ k. n + k) (one_more found) ≡ option_map (λ k. m + k) found
shift_next None n m is = refl
shift_next (Some k) n m is = ap Some (omega arith)

-- what stands behind the next byte
next_byte : (text : List ℕ) (place : ℕ) → place < length text → (rest : List ℕ) → take (place + 1) text ++ rest ≡ take place text ++ get_or text place 0 ∷ rest
next_byte text place within rest =
    let more : take (place + 1) text ≡ take place text ++ get_or text place 0 ∷ [] = take_more text place 0 within in
    ap (λ xs. xs ++ rest) more ∙ append_assoc (take place text) (get_or text place 0 ∷ []) rest

-- the next byte is looked at
pub reaches_next : (text : List ℕ) (place : ℕ) (now next : Before) → place < length text → Reaches (take place text) now
    → ((rest : List ℕ) → end_behind now (get_or text place 0 ∷ rest) ≡ end_next (Some next) rest) → Reaches (take (place + 1) text) next
reaches_next text place now next within reached after = record {
  ends = λ rest.
      let a : length (take place text) ≡ place = omega (arith, length-take place text) in
      let b : length (take (place + 1) text) ≡ length (take place text) + 1 = omega (arith, a, length-take (place + 1) text) in
      ap head_end (next_byte text place within rest) ∙ reached.ends (get_or text place 0 ∷ rest) ∙ ap (option_map (λ n. length (take place text) + n)) (after rest) ∙ shift_next (end_behind next rest) _ _ b;
}

-- it ends the head
pub ends_here : (text : List ℕ) (place : ℕ) (now : Before) → place < length text → Reaches (take place text) now
    → ((rest : List ℕ) → end_behind now (get_or text place 0 ∷ rest) ≡ end_next None rest) → Some (place + 1) ≡ head_end text
ends_here text place now within reached after =
    let a : length (take place text) ≡ place = omega (arith, length-take place text) in
    let behind : List ℕ = drop (place + 1) text in
    let whole : text ≡ take place text ++ get_or text place 0 ∷ behind = sym (take-append-drop (place + 1) text) ∙ next_byte text place within behind in
    sym (ap head_end whole ∙ reached.ends (get_or text place 0 ∷ behind) ∙ ap (option_map (λ n. length (take place text) + n)) (after behind) ∙ ap (λ n. Some (n + 1)) a)

nothing_behind : (now : Before) → end_behind now [] ≡ None
nothing_behind before.Nothing = refl
nothing_behind before.Text = refl
nothing_behind before.Line = refl
nothing_behind before.Return = refl

-- all bytes were looked at
pub ends_nowhere : (text : List ℕ) (place : ℕ) (now : Before) → length text ≤ place → Reaches (take place text) now → None ≡ head_end text
ends_nowhere text place now all reached =
    sym (ap head_end (sym (append-nil text)) ∙ ap (λ xs. head_end (xs ++ [])) (sym (take_all place text all)) ∙ reached.ends [] ∙ ap (option_map (λ n. length (take place text) + n)) (nothing_behind now))

-- a search of a text goes on in a longer one
pub searched_more : (search : HeadSearch) (text more : List ℕ) → HasSearched search text → HasSearched search (text ++ more)
searched_more search text more searched = record {
  within = omega (arith, searched.within, length-append text more);
  reached = rw (take-append-le search.place text more searched.within) searched.reached;
}
