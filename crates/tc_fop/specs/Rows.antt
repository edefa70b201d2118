-- The rows P1 to P16 of a control word, as a classification by the variables. A row that removes acknowledged requests
-- carries how many, d.
use Rattle.std.specs.Prelude.{◌≡◌, ℕ, ◌<◌, ◌≤◌, ◌==◌, nat_lt, Bool, true, false, not, if◌then◌else◌, Option, Some, None}
use Rattle.tc_farm.specs.declared.clcws.Clcw.{Clcw}
use Rattle.tc_farm.specs.Farm.{distance}
use Rattle.tc_fop.specs.declared.fop_rows.FopRow.{FopRow}
use Rattle.tc_fop.specs.declared.fop_rows.FopRow.TheVariants.{P1, P2, P3, P4, P5, P6, P7, P8, P9, P10, P11, P12, P13, P14, P15, P16}
use Rattle.tc_fop.specs.Machine.{Machine}

-- What a row is about: d = (N(R) - NN(R)) mod 256, w = (V(S) - NN(R)) mod 256, the flags, the limit and the count.
pub record Seen : Type 0 where
  pub d : ℕ
  pub w : ℕ
  pub lockout : Bool
  pub retransmit : Bool
  pub wait : Bool
  pub limit : ℕ
  pub count : ℕ

abbrev pub seen_in : Machine → Clcw → Seen
seen_in m word = record {
  d = distance word.report m.nn;
  w = distance m.vs m.nn;
  lockout = word.lockout;
  retransmit = word.retransmit;
  wait = word.wait;
  limit = m.limit;
  count = m.count;
}

-- When a row applies, as a reviewer reads it: one line a row. P16, P15 and P14 are tested first, so the others are
-- without Lockout and with d <= w.
abbrev pub When : FopRow → Seen → Type 0
When P1 s = (s.lockout ≡ false) × (s.d ≡ s.w) × (s.w ≡ 0) × (s.retransmit ≡ false) × (s.wait ≡ false)
When (P2 d) s = (s.lockout ≡ false) × (s.d ≡ d) × (s.d ≡ s.w) × (0 < s.w) × (s.retransmit ≡ false) × (s.wait ≡ false)
When P3 s = (s.lockout ≡ false) × (s.d ≡ s.w) × (s.retransmit ≡ false) × (s.wait ≡ true)
When P4 s = (s.lockout ≡ false) × (s.d ≡ s.w) × (s.retransmit ≡ true)
When P5 s = (s.lockout ≡ false) × (s.d ≡ 0) × (s.d < s.w) × (s.retransmit ≡ false) × (s.wait ≡ false)
When (P6 d) s = (s.lockout ≡ false) × (s.d ≡ d) × (0 < s.d) × (s.d < s.w) × (s.retransmit ≡ false) × (s.wait ≡ false)
When P7 s = (s.lockout ≡ false) × (s.d < s.w) × (s.retransmit ≡ false) × (s.wait ≡ true)
When (P8 d) s = (s.lockout ≡ false) × (s.d ≡ d) × (s.d < s.w) × (s.retransmit ≡ true) × (s.limit ≡ 1)
When (P9 d) s = (s.lockout ≡ false) × (s.d ≡ d) × (0 < s.d) × (s.d < s.w) × (s.retransmit ≡ true) × (s.wait ≡ false) × (1 < s.limit)
When (P10 d) s = (s.lockout ≡ false) × (s.d ≡ d) × (0 < s.d) × (s.d < s.w) × (s.retransmit ≡ true) × (s.wait ≡ true) × (1 < s.limit)
When P11 s = (s.lockout ≡ false) × (s.d ≡ 0) × (s.d < s.w) × (s.retransmit ≡ true) × (s.wait ≡ false) × (s.count < s.limit)
When P12 s = (s.lockout ≡ false) × (s.d ≡ 0) × (s.d < s.w) × (s.retransmit ≡ true) × (s.wait ≡ true) × (1 < s.limit)
When P13 s = (s.lockout ≡ false) × (s.d ≡ 0) × (s.d < s.w) × (s.retransmit ≡ true) × (s.wait ≡ false) × (s.limit ≤ s.count) × (1 < s.limit)
When P14 s = (s.lockout ≡ false) × (s.w < s.d)
When P15 s = s.lockout ≡ true
When P16 s = ⊥

-- the row of what is seen
abbrev pub row_seen : Seen → FopRow
row_seen s =
    if s.lockout then P15
    else if nat_lt s.w s.d then P14
    else if s.d == s.w then
    (if s.retransmit then P4 else if s.wait then P3 else if s.d == 0 then P1 else P2 s.d)
    else if not s.retransmit then
    (if s.wait then P7 else if s.d == 0 then P5 else P6 s.d)
    else if s.limit == 1 then P8 s.d
    else if nat_lt 0 s.d then
    (if s.wait then P10 s.d else P9 s.d)
    else if s.wait then P12
    else if nat_lt s.count s.limit then P11
    else P13

-- the row of a control word; P16 is one that is not valid
abbrev pub row_of : Machine → Option Clcw → FopRow
row_of m None = P16
row_of m (Some word) = row_seen (seen_in m word)
