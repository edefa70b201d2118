-- What is escaped.
use Rattle.std.proofs.Common.{◌≡◌, ◌≢◌, ℕ, ◌+◌, ◌<◌, ◌≤◌, ◌⊎◌, inl, inr, true, false, nat_eq, ◌==◌, if◌then◌else◌, cond, nat_lt, nat_le, ◌/◌, ◌%◌, List, [], ◌∷◌, ◌++◌, drop, get_or, refl, sym, subst, ap, ap₂, ◌∙◌, arith, append-nil, codes, length, lit≤}
use Rattle.std.proofs.lemmas.Bool.{ne_eqb, lt-ltb, le-ltb}
use Rattle.std.proofs.lemmas.Bool.Decides.{eqb_tells, leb_tells}
use Rattle.std.proofs.lemmas.Str.{encode_ascii, encodes-append}
use Rattle.std.specs.Char.{encode_utf8}
use Rattle.std.specs.Str.{encode_utf8_all}
use Rattle.std.specs.List.{starts_with}
use Rattle.tc_wall.proofs.ListLemmas.{flat_map-append}
use Rattle.tc_wall.specs.Escapes.{entity, escaped, is_plain}

-- a byte is one of the five, or none of them
record IsOther (byte : ℕ) : Type 0 where
  pub amp : (byte == 38) ≡ false
  pub lt : (byte == 60) ≡ false
  pub gt : (byte == 62) ≡ false
  pub quot : (byte == 34) ≡ false
  pub apos : (byte == 39) ≡ false
  pub amp_first : (38 == byte) ≡ false

data Which (byte : ℕ) : Type 0 where
  amp : byte ≡ 38 → Which byte
  lt : byte ≡ 60 → Which byte
  gt : byte ≡ 62 → Which byte
  quot : byte ≡ 34 → Which byte
  apos : byte ≡ 39 → Which byte
  other : IsOther byte → Which byte

which : (byte : ℕ) → Which byte
which byte = by_amp (eqb_tells byte 38)
  where
    by_apos : byte ≢ 38 → byte ≢ 60 → byte ≢ 62 → byte ≢ 34 → ((byte == 39 ≡ true) × (byte ≡ 39)) ⊎ ((byte == 39 ≡ false) × (byte ≢ 39)) → Which byte
    by_apos a b c d (inl is) = apos is.1
    by_apos a b c d (inr isnt) = other (record {
      amp = ne_eqb byte 38 a;
      lt = ne_eqb byte 60 b;
      gt = ne_eqb byte 62 c;
      quot = ne_eqb byte 34 d;
      apos = isnt.0;
      amp_first = ne_eqb 38 byte (λ is. a (sym is));
    })

    by_quot : byte ≢ 38 → byte ≢ 60 → byte ≢ 62 → ((byte == 34 ≡ true) × (byte ≡ 34)) ⊎ ((byte == 34 ≡ false) × (byte ≢ 34)) → Which byte
    by_quot a b c (inl is) = quot is.1
    by_quot a b c (inr isnt) = by_apos a b c isnt.1 (eqb_tells byte 39)

    by_gt : byte ≢ 38 → byte ≢ 60 → ((byte == 62 ≡ true) × (byte ≡ 62)) ⊎ ((byte == 62 ≡ false) × (byte ≢ 62)) → Which byte
    by_gt a b (inl is) = gt is.1
    by_gt a b (inr isnt) = by_quot a b isnt.1 (eqb_tells byte 34)

    by_lt : byte ≢ 38 → ((byte == 60 ≡ true) × (byte ≡ 60)) ⊎ ((byte == 60 ≡ false) × (byte ≢ 60)) → Which byte
    by_lt a (inl is) = lt is.1
    by_lt a (inr isnt) = by_gt a isnt.1 (eqb_tells byte 62)

    by_amp : ((byte == 38 ≡ true) × (byte ≡ 38)) ⊎ ((byte == 38 ≡ false) × (byte ≢ 38)) → Which byte
    by_amp (inl is) = amp is.1
    by_amp (inr isnt) = by_lt isnt.1 (eqb_tells byte 60)

-- any other byte stays as it is
other_stays : (byte : ℕ) → IsOther byte → entity byte ≡ byte ∷ []
other_stays byte o = rw (o.amp, o.lt, o.gt, o.quot, o.apos) refl

other_plain : (byte : ℕ) (others : List ℕ) → IsOther byte → is_plain others ≡ true → is_plain (byte ∷ others) ≡ true
other_plain byte others o h = rw (o.amp, o.lt, o.gt, o.quot, o.apos, h) refl

-- one byte more is plain
plain_more : (byte : ℕ) (others : List ℕ) → is_plain others ≡ true → is_plain (entity byte ++ others) ≡ true
plain_more byte others h = by (which byte)
  where
    by : Which byte → is_plain (entity byte ++ others) ≡ true
    by (amp is) = rw (is, h) refl
    by (lt is) = rw (is, h) refl
    by (gt is) = rw (is, h) refl
    by (quot is) = rw (is, h) refl
    by (apos is) = rw (is, h) refl
    by (other o) = subst (λ text. is_plain (text ++ others) ≡ true) (sym (other_stays byte o)) (other_plain byte others o h)

pub escaped_plain : (text : List ℕ) → is_plain (escaped text) ≡ true
escaped_plain [] = refl
escaped_plain (byte ∷ others) = plain_more byte (escaped others) (escaped_plain others)

-- how many bytes the first character of an escaped text takes, and which it is
width : List ℕ → ℕ
width text =
    if starts_with nat_eq text (codes "&amp;") then 5
    else (if starts_with nat_eq text (codes "&lt;") then 4
    else (if starts_with nat_eq text (codes "&gt;") then 4
    else (if starts_with nat_eq text (codes "&quot;") then 6
    else (if starts_with nat_eq text (codes "&#39;") then 5
    else 1))))

first : List ℕ → ℕ
first text =
    if starts_with nat_eq text (codes "&amp;") then 38
    else (if starts_with nat_eq text (codes "&lt;") then 60
    else (if starts_with nat_eq text (codes "&gt;") then 62
    else (if starts_with nat_eq text (codes "&quot;") then 34
    else (if starts_with nat_eq text (codes "&#39;") then 39
    else get_or text 0 0))))

Reads : ℕ → List ℕ → List ℕ → Type 0
Reads byte others text = (first text ≡ byte) × (drop (width text) text ≡ others)

other_reads : (byte : ℕ) (others : List ℕ) → IsOther byte → Reads byte others (byte ∷ others)
unfolding first width Reads
other_reads byte others o = rw o.amp_first (refl, refl)

reads : (byte : ℕ) (others : List ℕ) → Reads byte others (entity byte ++ others)
unfolding first width Reads
reads byte others = by (which byte)
  where
    by : Which byte → Reads byte others (entity byte ++ others)
    by (amp is) = rw is (refl, refl)
    by (lt is) = rw is (refl, refl)
    by (gt is) = rw is (refl, refl)
    by (quot is) = rw is (refl, refl)
    by (apos is) = rw is (refl, refl)
    by (other o) = subst (λ text. Reads byte others (text ++ others)) (sym (other_stays byte o)) (other_reads byte others o)

not_empty : (byte : ℕ) (others : List ℕ) → entity byte ++ others ≢ []
not_empty byte others = by (which byte)
  where
    by : Which byte → entity byte ++ others ≢ []
    by (amp is) = rw is (λ h. cc)
    by (lt is) = rw is (λ h. cc)
    by (gt is) = rw is (λ h. cc)
    by (quot is) = rw is (λ h. cc)
    by (apos is) = rw is (λ h. cc)
    by (other o) = rw (other_stays byte o) (λ h. cc)

-- two texts that are escaped alike are alike
pub escaped_alike : (a b : List ℕ) → escaped a ≡ escaped b → a ≡ b
unfolding Reads
escaped_alike [] [] h = refl
escaped_alike [] (y ∷ b) h = absurd (not_empty y (escaped b) (sym h))
escaped_alike (x ∷ a) [] h = absurd (not_empty x (escaped a) h)
escaped_alike (x ∷ a) (y ∷ b) h =
    let one = reads x (escaped a) in
    let two = reads y (escaped b) in
    ap₂ (λ byte others. byte ∷ others) (sym one.0 ∙ ap first h ∙ two.0) (escaped_alike a b (sym one.1 ∙ ap (λ text. drop (width text) text) h ∙ two.1))

-- a byte of a character that is not of ASCII
high_stays : (byte : ℕ) → 128 ≤ byte → entity byte ≡ byte ∷ []
high_stays byte high = other_stays byte (record {
  amp = ne_eqb byte 38 (λ is. omega arith);
  lt = ne_eqb byte 60 (λ is. omega arith);
  gt = ne_eqb byte 62 (λ is. omega arith);
  quot = ne_eqb byte 34 (λ is. omega arith);
  apos = ne_eqb byte 39 (λ is. omega arith);
  amp_first = ne_eqb 38 byte (λ is. omega arith);
})

AllHigh : List ℕ → Type 0
AllHigh [] = Unit {0}
AllHigh (byte ∷ others) = (128 ≤ byte) × AllHigh others

all_stay : (text : List ℕ) → AllHigh text → escaped text ≡ text
unfolding AllHigh
all_stay [] h = refl
all_stay (byte ∷ others) h = rw (high_stays byte h.0) (ap (λ l. byte ∷ l) (all_stay others h.1))

encode_high : (c : ℕ) → 128 ≤ c → AllHigh (encode_utf8 c)
unfolding encode_utf8 AllHigh
encode_high c high = rw (le-ltb c 128 high) (by_two (leb_tells 2048 c))
  where
    by_three : ((nat_le 65536 c ≡ true) × (65536 ≤ c)) ⊎ ((nat_le 65536 c ≡ false) × (c < 65536))
        → AllHigh (cond (nat_lt c 65536) ((224 + c / 4096) ∷ (128 + c / 64 % 64) ∷ (128 + c % 64) ∷ []) ((240 + c / 262144) ∷ (128 + c / 4096 % 64) ∷ (128 + c / 64 % 64) ∷ (128 + c % 64) ∷ []))
    by_three (inl large) = rw (le-ltb c 65536 large.1) (omega arith, (omega arith, (omega arith, (omega arith, tt))))
    by_three (inr small) = rw (lt-ltb c 65536 small.1) (omega arith, (omega arith, (omega arith, tt)))

    by_two : ((nat_le 2048 c ≡ true) × (2048 ≤ c)) ⊎ ((nat_le 2048 c ≡ false) × (c < 2048))
        → AllHigh (cond (nat_lt c 2048) ((192 + c / 64) ∷ (128 + c % 64) ∷ []) (cond (nat_lt c 65536) ((224 + c / 4096) ∷ (128 + c / 64 % 64) ∷ (128 + c % 64) ∷ []) ((240 + c / 262144) ∷ (128 + c / 4096 % 64) ∷ (128 + c / 64 % 64) ∷ (128 + c % 64) ∷ [])))
    by_two (inl large) = rw (le-ltb c 2048 large.1) (by_three (leb_tells 65536 c))
    by_two (inr small) = rw (lt-ltb c 2048 small.1) (omega arith, (omega arith, tt))

-- a character that is none of the five stays
pub plain_stays : (c : ℕ) → c ≢ 38 → c ≢ 60 → c ≢ 62 → c ≢ 34 → c ≢ 39 → escaped (encode_utf8 c) ≡ encode_utf8 c
plain_stays c a b d e f = by_size (leb_tells 128 c)
  where
    by_size : ((nat_le 128 c ≡ true) × (128 ≤ c)) ⊎ ((nat_le 128 c ≡ false) × (c < 128)) → escaped (encode_utf8 c) ≡ encode_utf8 c
    by_size (inr small) = rw (
      encode_ascii c small.1,
      other_stays c (record {
        amp = ne_eqb c 38 a;
        lt = ne_eqb c 60 b;
        gt = ne_eqb c 62 d;
        quot = ne_eqb c 34 e;
        apos = ne_eqb c 39 f;
        amp_first = ne_eqb 38 c (λ is. a (sym is));
      }),
    ) refl
    by_size (inl large) = all_stay (encode_utf8 c) (encode_high c large.1)

-- the name of one of the five
pub named : (c : ℕ) (name : List ℕ) → c < 128 → name ≡ entity c → name ≡ escaped (encode_utf8 c)
named c name small is = is ∙ sym (append-nil (entity c)) ∙ ap escaped (sym (encode_ascii c small))

-- one character more
pub escaped_more : (cs : List ℕ) (c : ℕ) (text : List ℕ) → text ≡ escaped (encode_utf8 c) → escaped (encode_utf8_all cs) ++ text ≡ escaped (encode_utf8_all (cs ++ c ∷ []))
escaped_more cs c text is =
    ap (λ l. escaped (encode_utf8_all cs) ++ l) is
    ∙ sym (flat_map-append entity (encode_utf8_all cs) (encode_utf8 c))
    ∙ ap escaped (ap (λ l. encode_utf8_all cs ++ l) (sym (append-nil (encode_utf8 c))) ∙ sym (encodes-append cs (c ∷ [])))

-- each byte takes at most six
pub entity_size : (byte : ℕ) → length (entity byte) ≤ 6
entity_size byte = by (which byte)
  where
    by : Which byte → length (entity byte) ≤ 6
    by (amp is) = rw is (lit≤ tt)
    by (lt is) = rw is (lit≤ tt)
    by (gt is) = rw is (lit≤ tt)
    by (quot is) = rw is (lit≤ tt)
    by (apos is) = rw is (lit≤ tt)
    by (other o) = rw (other_stays byte o) (lit≤ tt)
