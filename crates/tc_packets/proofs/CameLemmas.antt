-- Octets that lie in frames that came, and what is still to come of packets.
use Rattle.std.proofs.Common.{◌≡◌, ℕ, zero, suc, ◌+◌, ◌-◌, ◌*◌, ◌/◌, ◌<◌, ◌≤◌, Bool, true, false, List, [], ◌∷◌, ◌++◌, length, get_or, refl, sym, ap}
use Rattle.std.proofs.Common.{◌∙◌, arith}
use Rattle.std.specs.Prelude.{◌&&◌, if◌then◌else◌}
use Rattle.std.proofs.lemmas.Bool.{and_from, and_left}
use Rattle.std.proofs.lemmas.Nat.{div-mul-add}
use Rattle.tc_packets.specs.LossLaws.{all_came, cons_if, that_came}

-- ---- octets of one frame, and of more

and_assoc : (a b c : Bool) → (a && b) && c ≡ a && (b && c)
and_assoc true b c = refl
and_assoc false b c = refl

all_split : (size : ℕ) (came : List Bool) (at n m : ℕ) → all_came size came at (n + m) ≡ (all_came size came at n && all_came size came (at + n) m)
all_split size came at zero m =
    let none : zero + m ≡ m = omega arith in
    let here : at ≡ at + zero = omega arith in
    ap (λ k. all_came size came at k) none ∙ ap (λ k. all_came size came k m) here
all_split size came at (suc n) m =
    let more : suc n + m ≡ suc (n + m) = omega arith in
    let there : at + 1 + n ≡ at + suc n = omega arith in
    let first : Bool = get_or came (at / size) false in
    ap (λ k. all_came size came at k) more
    ∙ ap (λ b. first && b) (all_split size came (at + 1) n m)
    ∙ sym (and_assoc first (all_came size came (at + 1) n) (all_came size came (at + 1 + n) m))
    ∙ ap (λ k. (first && all_came size came (at + 1) n) && all_came size came k m) there

place_in : (size i place : ℕ) → i * size ≤ place → place < i * size + size → place / size ≡ i
place_in size i place low high =
    let split : place ≡ i * size + (place - i * size) = omega arith in
    ap (λ k. k / size) split ∙ div-mul-add i size (place - i * size) (omega arith)

here_is : (size : ℕ) (came : List Bool) (i place : ℕ) (b : Bool) → i * size ≤ place → place < i * size + size → get_or came i false ≡ b
    → get_or came (place / size) false ≡ b
here_is size came i place b low high e = ap (λ k. get_or came k false) (place_in size i place low high) ∙ e

pub all_inside : (size : ℕ) (came : List Bool) (i at n : ℕ) → i * size ≤ at → at + n ≤ i * size + size → get_or came i false ≡ true
    → all_came size came at n ≡ true
all_inside size came i at zero low high e = refl
all_inside size came i at (suc n) low high e =
    and_from (get_or came (at / size) false) (all_came size came (at + 1) n) (here_is size came i at true low (omega arith) e)
    (all_inside size came i (at + 1) n (omega arith) (omega arith) e)

pub none_inside : (size : ℕ) (came : List Bool) (i at n : ℕ) → 0 < n → i * size ≤ at → at + n ≤ i * size + size → get_or came i false ≡ false
    → all_came size came at n ≡ false
none_inside size came i at zero some low high e = absurd (omega arith)
none_inside size came i at (suc n) some low high e =
    and_left (get_or came (at / size) false) (all_came size came (at + 1) n) (here_is size came i at false low (omega arith) e)

-- octets that go on after a frame that came, or was lost
pub came_on : (size : ℕ) (came : List Bool) (i at n m all : ℕ) → all ≡ n + m → i * size ≤ at → at + n ≤ i * size + size → get_or came i false ≡ true
    → all_came size came at all ≡ all_came size came (at + n) m
came_on size came i at n m all e low high b =
    ap (λ k. all_came size came at k) e
    ∙ all_split size came at n m
    ∙ ap (λ c. c && all_came size came (at + n) m) (all_inside size came i at n low high b)

pub lost_on : (size : ℕ) (came : List Bool) (i at n m all : ℕ) → 0 < n → all ≡ n + m → i * size ≤ at → at + n ≤ i * size + size
    → get_or came i false ≡ false
    → all_came size came at all ≡ false
lost_on size came i at n m all some e low high b =
    ap (λ k. all_came size came at k) e
    ∙ all_split size came at n m
    ∙ ap (λ c. c && all_came size came (at + n) m) (none_inside size came i at n some low high b)

-- ---- what is still to come, if all went well so far with the packet in progress, or not

abbrev pub live : Bool → List ℕ → List ℕ
live true part = part
live false part = []

abbrev pub chosen : Bool → List (List ℕ) → List (List ℕ)
chosen ok [] = []
chosen ok (first ∷ more) = if ok then first ∷ more else []

pub chosen_all : (packets : List (List ℕ)) → chosen true packets ≡ packets
chosen_all [] = refl
chosen_all (first ∷ more) = refl

pub chosen_none : (packets : List (List ℕ)) → chosen false packets ≡ []
chosen_none [] = refl
chosen_none (first ∷ more) = refl

abbrev pub expect_of : ℕ → List Bool → Bool → ℕ → List ℕ → List ℕ → List (List ℕ) → List (List ℕ)
expect_of size came ok at part [] rest = that_came size came at rest
expect_of size came ok at part (octet ∷ todo) rest =
    cons_if (ok && all_came size came at (length (octet ∷ todo))) (part ++ octet ∷ todo) (that_came size came (at + length (octet ∷ todo)) rest)

pub expect_within : (size : ℕ) (came : List Bool) (ok : Bool) (at : ℕ) (part todo : List ℕ) (rest : List (List ℕ)) → 0 < length todo
    → expect_of size came ok at part todo rest ≡ cons_if (ok && all_came size came at (length todo)) (part ++ todo)
    (that_came size came (at + length todo) rest)
expect_within size came ok at part [] rest h = absurd (omega arith)
expect_within size came ok at part (octet ∷ todo) rest h = refl

pub cons_came : (ok : Bool) (first : List ℕ) (inner more : List (List ℕ))
    → cons_if (ok && true) first (inner ++ more) ≡ (chosen ok (first ∷ []) ++ inner) ++ more
cons_came true first inner more = refl
cons_came false first inner more = refl

pub cons_lost : (ok : Bool) (first : List ℕ) (more : List (List ℕ)) → cons_if (ok && false) first more ≡ more
cons_lost true first more = refl
cons_lost false first more = refl
