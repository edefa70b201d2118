-- What the parameters of a match took from the path.
use Rattle.std.proofs.Common.{◌≡◌, ℕ, suc, ◌+◌, ◌-◌, ◌<◌, ◌≤◌, ◌==◌, ◌&&◌, ltb, leb, Bool, true, false, cond, List, [], ◌∷◌, ◌++◌, length, drop, get_or, refl, ap₂, ◌∙◌, arith, length-append}
use Rattle.std.proofs.lemmas.Bool.{and_parts, ltb-true, lt-ltb, le-ltb, le-leb}
use Rattle.std.proofs.Math.Seq.{drop_at, take_at, take-length, get_or-append_seam, drop-append-add}
use Rattle.matchit.specs.Rows.{param_token}
use Rattle.matchit.specs.Seek.{segment, has_slash, slash}
use Rattle.matchit.specs.Params.{walk, wild_from, wild_stop, part_of, after_token}
use Rattle.tc_front.proofs.SeekLaws.{segment_is}

-- all are bytes of ASCII
abbrev pub is_ascii : List ℕ → Bool
is_ascii [] = true
is_ascii (b ∷ text) = ltb b 128 && is_ascii text

-- over bytes the walk goes on byte by byte
over_bytes : (text pattern : List ℕ) (len token at : ℕ) → is_ascii text ≡ true → at + length text ≤ len
    → wild_from (text ++ pattern) len token at ≡ wild_from pattern len (token + length text) (at + length text)
over_bytes [] pattern len token at bytes within =
    let n : token ≡ token + 0 = omega arith in
    let m : at ≡ at + 0 = omega arith in
    ap₂ (λ i j. wild_from pattern len i j) n m
over_bytes (b ∷ text) pattern len token at bytes within =
    let parts = and_parts (ltb b 128) (is_ascii text) bytes in
    let small : b < 128 = ltb-true b 128 parts.0 in
    let byte : ltb b param_token ≡ true = lt-ltb b param_token (omega arith) in
    let some : ltb at len ≡ true = lt-ltb at len (omega arith) in
    let n : token + 1 + length text ≡ token + suc (length text) = omega arith in
    let m : at + 1 + length text ≡ at + suc (length text) = omega arith in
    let later : wild_from (text ++ pattern) len (token + 1) (at + 1) ≡ wild_from pattern len (token + 1 + length text) (at + 1 + length text) = over_bytes text pattern len (token + 1) (at + 1) parts.1 (omega arith) in
    rw (byte, some) (later ∙ rw (n, m) refl)

-- what stands behind a text is the part up to the end
part_behind : (text path : List ℕ) (at : ℕ) → length text ≡ at → part_of (text ++ path) at (length (text ++ path)) ≡ path
part_behind text path at is =
    let start : leb at (length (text ++ path)) ≡ true = le-leb at (length (text ++ path)) (omega (arith, length-append text path)) in
    let end : leb (length (text ++ path)) (length (text ++ path)) ≡ true = le-leb (length (text ++ path)) (length (text ++ path)) (omega arith) in
    let n : length (text ++ path) - at ≡ length path = omega (arith, length-append text path) in
    rw (start, end, n, drop_at text path at is) (take-length path)

-- what stands between two texts
part_between : (text part path : List ℕ) → part_of (text ++ (part ++ path)) (length text) (length text + length part) ≡ part
part_between text part path =
    let start : leb (length text) (length text + length part) ≡ true = le-leb (length text) (length text + length part) (omega arith) in
    let end : leb (length text + length part) (length (text ++ (part ++ path))) ≡ true = le-leb (length text + length part) (length (text ++ (part ++ path))) (omega (arith, length-append text (part ++ path), length-append part path)) in
    let n : length text + length part - length text ≡ length part = omega arith in
    rw (start, end, n, drop_at text (part ++ path) (length text) refl) (take_at part path (length part) refl)

-- the last parameter goes up to the end
last_stop : (pattern path : List ℕ) (token at : ℕ) → length pattern ≡ token + 1 → wild_stop pattern token path at ≡ length path
last_stop pattern path token at is =
    let none : ltb (token + 1) (length pattern) ≡ false = le-ltb (token + 1) (length pattern) (omega arith) in
    rw none (by (ltb token (length pattern)) (get_or pattern token 0 == param_token) (at + length (segment (drop at path)) - length (segment (drop (token + 1) pattern))))
  where
    by : (t u : Bool) (n : ℕ) → cond (t && u && false) n (length path) ≡ length path
    by true true n = refl
    by true false n = refl
    by false u n = refl

-- the place behind a text of bytes
from_text : (text pattern path : List ℕ) → is_ascii text ≡ true → wild_from (text ++ param_token ∷ pattern) (length (text ++ path)) 0 0 ≡ (length text, length text)
from_text text pattern path bytes =
    let n : 0 + length text ≡ length text = omega arith in
    over_bytes text (param_token ∷ pattern) (length (text ++ path)) 0 0 bytes (omega (arith, length-append text path)) ∙ ap₂ (λ i j. wild_from (param_token ∷ pattern) (length (text ++ path)) i j) n n

pub one_walk : (text written path : List ℕ) (name : ℕ × ℕ) → is_ascii text ≡ true → walk (text ++ param_token ∷ []) written (text ++ path) (name ∷ []) 0 0 ≡ (part_of written name.0 name.1, path) ∷ []
one_walk text written path name bytes =
    let stop : wild_stop (text ++ param_token ∷ []) (length text) (text ++ path) (length text) ≡ length (text ++ path) =
    last_stop (text ++ param_token ∷ []) (text ++ path) (length text) (length text) (length-append text (param_token ∷ [])) in
    rw (from_text text [] path bytes, stop, part_behind text path (length text) refl) refl

abbrev two_pattern : List ℕ → List ℕ
two_pattern text = text ++ param_token ∷ slash ∷ param_token ∷ []

-- a parameter leaves the slash behind it
first_stop : (text part path : List ℕ) → has_slash part ≡ false → wild_stop (two_pattern text) (length text) (text ++ (part ++ slash ∷ path)) (length text) ≡ length text + length part
first_stop text part path e =
    let long : length (two_pattern text) ≡ length text + 3 = length-append text (param_token ∷ slash ∷ param_token ∷ []) in
    let here : ltb (length text) (length (two_pattern text)) ≡ true = lt-ltb (length text) (length (two_pattern text)) (omega arith) in
    let more : ltb (length text + 1) (length (two_pattern text)) ≡ true = lt-ltb (length text + 1) (length (two_pattern text)) (omega arith) in
    let token : get_or (two_pattern text) (length text) 0 ≡ param_token = get_or-append_seam text param_token (slash ∷ param_token ∷ []) 0 in
    let rest : drop (length text + 1) (two_pattern text) ≡ slash ∷ param_token ∷ [] = drop-append-add text (param_token ∷ slash ∷ param_token ∷ []) 1 in
    let left : drop (length text) (text ++ (part ++ slash ∷ path)) ≡ part ++ slash ∷ path = drop_at text (part ++ slash ∷ path) (length text) refl in
    let n : length text + length (part ++ slash ∷ []) - 1 ≡ length text + length part = omega (arith, length-append part (slash ∷ [])) in
    rw (here, more, token, rest, left, segment_is part path e, n) refl

-- the place behind the first parameter and its slash
from_slash : (text part path : List ℕ) → wild_from (drop (length text + 1) (two_pattern text)) (length (text ++ (part ++ slash ∷ path))) (length text + 1) (length text + length part) ≡ (length text + 2, length text + length part + 1)
from_slash text part path =
    let rest : drop (length text + 1) (two_pattern text) ≡ slash ∷ param_token ∷ [] = drop-append-add text (param_token ∷ slash ∷ param_token ∷ []) 1 in
    let some : ltb (length text + length part) (length (text ++ (part ++ slash ∷ path))) ≡ true =
    lt-ltb (length text + length part) (length (text ++ (part ++ slash ∷ path))) (omega (arith, length-append text (part ++ slash ∷ path), length-append part (slash ∷ path))) in
    let n : length text + 1 + 1 ≡ length text + 2 = omega arith in
    rw (rest, some, n) refl

part_last : (text part path : List ℕ) → part_of (text ++ (part ++ slash ∷ path)) (length text + length part + 1) (length (text ++ (part ++ slash ∷ path))) ≡ path
part_last text part path =
    let all : length (text ++ (part ++ slash ∷ path)) ≡ length text + length part + 1 + length path = omega (arith, length-append text (part ++ slash ∷ path), length-append part (slash ∷ path)) in
    let start : leb (length text + length part + 1) (length (text ++ (part ++ slash ∷ path))) ≡ true = le-leb (length text + length part + 1) (length (text ++ (part ++ slash ∷ path))) (omega arith) in
    let end : leb (length (text ++ (part ++ slash ∷ path))) (length (text ++ (part ++ slash ∷ path))) ≡ true = le-leb (length (text ++ (part ++ slash ∷ path))) (length (text ++ (part ++ slash ∷ path))) (omega arith) in
    let n : length (text ++ (part ++ slash ∷ path)) - (length text + length part + 1) ≡ length path = omega arith in
    let m : length text + length part + 1 ≡ length text + (length part + 1) = omega arith in
    rw (start, end, n, m, drop-append-add text (part ++ slash ∷ path) (length part + 1), drop-append-add part (slash ∷ path) 1) (take-length path)

pub two_walk : (text written part path : List ℕ) (name other : ℕ × ℕ) → is_ascii text ≡ true → length text < 100 → has_slash part ≡ false
    → walk (two_pattern text) written (text ++ (part ++ slash ∷ path)) (name ∷ other ∷ []) 0 0
    ≡ (part_of written name.0 name.1, part) ∷ (part_of written other.0 other.1, path) ∷ []
two_walk text written part path name other bytes short e =
    let after : after_token (length text) ≡ length text + 1 = omega arith in
    let long : length (two_pattern text) ≡ length text + 2 + 1 = omega (arith, length-append text (param_token ∷ slash ∷ param_token ∷ [])) in
    rw (
      from_text text (slash ∷ param_token ∷ []) (part ++ slash ∷ path) bytes,
      first_stop text part path e,
      after,
      from_slash text part path,
      last_stop (two_pattern text) (text ++ (part ++ slash ∷ path)) (length text + 2) (length text + length part + 1) long,
      part_between text part (slash ∷ path),
      part_last text part path,
    ) refl
