-- Control words in flight, and the reports for which they fly.
use Rattle.std.proofs.Common.{◌≡◌, ℕ, ◌+◌, ◌*◌, ◌%◌, ◌<◌, inl, inr, List, [], ◌∷◌, ◌++◌, refl, sym, ◌∙◌, ap, subst, arith}
use Rattle.std.specs.Int.{from_bool}
use Rattle.tc_types.specs.declared.link.reports.Report.{Report}
use Rattle.tc_types.specs.declared.link.reports.Report.TheVariants.{Word, Telemetry}
use Rattle.tc_farm.specs.declared.clcws.Clcw.{Clcw}
use Rattle.tc_farm.specs.ControlWord.{word_of}
use Rattle.tc_world.specs.Sublist.{IsSublist, IsSublist-nil}
use Rattle.tc_world.specs.Abstraction.{report_value}
use Rattle.tc_world.specs.Kept.{Each, AreWords, AllReport, Sticks, AreOwnWords}

-- a number below 256 under multiples of 512
low_byte : (vc lockout wait retransmit farm_b report : ℕ) → report < 256
    → (16777216 + vc * 262144 + lockout * 8192 + wait * 4096 + retransmit * 2048 + farm_b * 512 + report) % 256 ≡ report
low_byte vc lockout wait retransmit farm_b report small = omega (arith, small)

-- the report value of a control word's 32 bits
pub value_of_word : (clcw : Clcw) → clcw.report < 256 → report_value (word_of clcw) ≡ clcw.report
value_of_word clcw small = low_byte clcw.vc (from_bool clcw.lockout) (from_bool clcw.wait) (from_bool clcw.retransmit) clcw.farm_b clcw.report small

-- words left out fly for the same reports left out
pub words_sub : (base : ℕ) (xs ys : List Report) (rs : List ℕ) → IsSublist xs ys → AreWords base ys rs
    → (qs : List ℕ) × IsSublist qs rs × AreWords base xs qs
words_sub base xs [] rs h a = ([], IsSublist-nil rs, subst (λ l. AreWords base l []) (sym h) refl)
words_sub base xs (Word word ∷ ys) rs h a =
    elim h [
      | inl k ↦
          let c = words_sub base xs ys a.1 k a.4 in
          (c.0, subst (λ l. IsSublist c.0 l) (sym a.2) (inl c.1), c.2)
      | inr k ↦
          let c = words_sub base k.0 ys a.1 k.2 a.4 in (
            a.0 ∷ c.0,
            subst (λ l. IsSublist (a.0 ∷ c.0) l) (sym a.2) (inr (c.0, refl, c.1)),
            subst (λ l. AreWords base l (a.0 ∷ c.0)) (sym k.1) (a.0, c.0, refl, a.3, c.2),
          )
    ]
words_sub base xs (Telemetry telemetry ∷ ys) rs h a =
    elim h [
      | inl k ↦ words_sub base xs ys rs k a
      | inr k ↦
          let c = words_sub base k.0 ys rs k.2 a in
          (c.0, c.1, subst (λ l. AreWords base l c.0) (sym k.1) c.2)
    ]

-- the words here and there fly for the reports here and there
pub words_append : (base : ℕ) (xs ys : List Report) (rs qs : List ℕ) → AreWords base xs rs → AreWords base ys qs → AreWords base (xs ++ ys) (rs ++ qs)
words_append base [] ys rs qs a b = subst (λ l. AreWords base ys (l ++ qs)) (sym a) b
words_append base (Word word ∷ xs) ys rs qs a b =
    (a.0, a.1 ++ qs, ap (λ l. l ++ qs) a.2, a.3, words_append base xs ys a.1 qs a.4 b)
words_append base (Telemetry telemetry ∷ xs) ys rs qs a b = words_append base xs ys rs qs a b

-- what flies behind a front
pub words_behind : (base : ℕ) (front xs : List Report) (rs : List ℕ) → AreWords base (front ++ xs) rs
    → (qs os : List ℕ) × (rs ≡ qs ++ os) × AreWords base front qs × AreWords base xs os
words_behind base [] xs rs a = ([], rs, refl, refl, a)
words_behind base (Word word ∷ front) xs rs a =
    let c = words_behind base front xs a.1 a.4 in
    (a.0 ∷ c.0, c.1, a.2 ∙ ap (λ l. a.0 ∷ l) c.2, (a.0, c.0, refl, a.3, c.3), c.4)
words_behind base (Telemetry telemetry ∷ front) xs rs a = words_behind base front xs rs a

-- words are left out
pub all_report_sub : (base : ℕ) (xs ys : List Report) → IsSublist xs ys → AllReport base ys → AllReport base xs
all_report_sub base xs [] h a = subst (λ l. AllReport base l) (sym h) tt
all_report_sub base xs (Word word ∷ ys) h a =
    elim h [
      | inl k ↦ all_report_sub base xs ys k a.1
      | inr k ↦ subst (λ l. AllReport base l) (sym k.1) (a.0, all_report_sub base k.0 ys k.2 a.1)
    ]
all_report_sub base xs (Telemetry telemetry ∷ ys) h a =
    elim h [
      | inl k ↦ all_report_sub base xs ys k a
      | inr k ↦ subst (λ l. AllReport base l) (sym k.1) (all_report_sub base k.0 ys k.2 a)
    ]

-- one more that reports the base is put behind
pub all_report_push : (base word : ℕ) (xs : List Report) → report_value word ≡ base → AllReport base xs → AllReport base (xs ++ Word word ∷ [])
all_report_push base word [] e a = (e, tt)
all_report_push base word (Word first ∷ xs) e a = (a.0, all_report_push base word xs e a.1)
all_report_push base word (Telemetry telemetry ∷ xs) e a = all_report_push base word xs e a

-- words are left out before the service begins
pub sticks_sub : (base vr : ℕ) (xs ys : List Report) → IsSublist xs ys → Sticks base vr ys → Sticks base vr xs
sticks_sub base vr xs [] h a = subst (λ l. Sticks base vr l) (sym h) tt
sticks_sub base vr xs (Word word ∷ ys) h a =
    elim h [
      | inl k ↦ sticks_sub base vr xs ys k a.1
      | inr k ↦
          subst (λ l. Sticks base vr l) (sym k.1) (
            (λ e. (all_report_sub base k.0 ys k.2 (a.0 e).0, (a.0 e).1)),
            sticks_sub base vr k.0 ys k.2 a.1,
          )
    ]
sticks_sub base vr xs (Telemetry telemetry ∷ ys) h a =
    elim h [
      | inl k ↦ sticks_sub base vr xs ys k a
      | inr k ↦ subst (λ l. Sticks base vr l) (sym k.1) (sticks_sub base vr k.0 ys k.2 a)
    ]

-- words behind a front
pub sticks_behind : (base vr : ℕ) (front xs : List Report) → Sticks base vr (front ++ xs) → Sticks base vr xs
sticks_behind base vr [] xs a = a
sticks_behind base vr (Word word ∷ front) xs a = sticks_behind base vr front xs a.1
sticks_behind base vr (Telemetry telemetry ∷ front) xs a = sticks_behind base vr front xs a

-- the FARM's own report value is put behind
pub sticks_push : (base vr word : ℕ) (xs : List Report) → report_value word ≡ vr → Sticks base vr xs → Sticks base vr (xs ++ Word word ∷ [])
sticks_push base vr word [] e a = ((λ h. (tt, sym e ∙ h)), tt)
sticks_push base vr word (Word first ∷ xs) e a =
    ((λ h. (all_report_push base word xs (e ∙ (a.0 h).1) (a.0 h).0, (a.0 h).1)), sticks_push base vr word xs e a.1)
sticks_push base vr word (Telemetry telemetry ∷ xs) e a = sticks_push base vr word xs e a

-- V(R) became the base
pub sticks_at_base : (base vr : ℕ) (xs : List Report) → Sticks base vr xs → Sticks base base xs
sticks_at_base base vr [] a = tt
sticks_at_base base vr (Word word ∷ xs) a = ((λ h. ((a.0 h).0, refl)), sticks_at_base base vr xs a.1)
sticks_at_base base vr (Telemetry telemetry ∷ xs) a = sticks_at_base base vr xs a

-- words that all report the base fly for 0
pub words_at_base : (base : ℕ) (xs : List Report) → base < 256 → AllReport base xs
    → (rs : List ℕ) × Each (λ (r : ℕ). r ≡ 0) rs × AreWords base xs rs
words_at_base base [] small a = ([], tt, refl)
words_at_base base (Word word ∷ xs) small a =
    let c = words_at_base base xs small a.1 in
    let whole : base ≡ (base + 0) % 256 = omega (arith, small) in
    (0 ∷ c.0, (refl, c.1), (0, c.0, refl, a.0 ∙ whole, c.2))
words_at_base base (Telemetry telemetry ∷ xs) small a = words_at_base base xs small a

-- words are left out, and the others are the FARM's
pub own_sub : (vc : ℕ) (xs ys : List Report) → IsSublist xs ys → AreOwnWords vc ys → AreOwnWords vc xs
own_sub vc xs [] h a = subst (λ l. AreOwnWords vc l) (sym h) tt
own_sub vc xs (Word word ∷ ys) h a =
    elim h [
      | inl k ↦ own_sub vc xs ys k a.1
      | inr k ↦ subst (λ l. AreOwnWords vc l) (sym k.1) (a.0, own_sub vc k.0 ys k.2 a.1)
    ]
own_sub vc xs (Telemetry telemetry ∷ ys) h a =
    elim h [
      | inl k ↦ own_sub vc xs ys k a
      | inr k ↦ subst (λ l. AreOwnWords vc l) (sym k.1) (own_sub vc k.0 ys k.2 a)
    ]

-- the FARM's words are put behind
pub own_append : (vc : ℕ) (xs ys : List Report) → AreOwnWords vc xs → AreOwnWords vc ys → AreOwnWords vc (xs ++ ys)
own_append vc [] ys a b = b
own_append vc (Word word ∷ xs) ys a b = (a.0, own_append vc xs ys a.1 b)
own_append vc (Telemetry telemetry ∷ xs) ys a b = own_append vc xs ys a b

-- the FARM's words behind a front
pub own_behind : (vc : ℕ) (front xs : List Report) → AreOwnWords vc (front ++ xs) → AreOwnWords vc xs
own_behind vc [] xs a = a
own_behind vc (Word word ∷ front) xs a = own_behind vc front xs a.1
own_behind vc (Telemetry telemetry ∷ front) xs a = own_behind vc front xs a
