-- A clock shows the date and the time of day of a moment.
use Rattle.std.proofs.Common.{◌≡◌, ℕ, ℤ, pos, negsuc, zero, suc, ◌+◌, ◌-◌, ◌/◌, ◌%◌, ◌<◌, ◌≤◌, ◌<ℤ◌, ◌≤ℤ◌, ◌*ℤ◌, min, false, nat_le, if◌then◌else◌, Some, refl, sym, ap, subst, ◌∙◌, arith}
use Rattle.std.proofs.lemmas.Bool.Decides.{nat_tests}
use Rattle.std.proofs.lemmas.Int.{by_lt_z}
use Rattle.jiff_core.specs.Calendar.{day_count, IsCivilDate, IsYear}
use Rattle.jiff_core.specs.declared.civil.datetime.DateTime.{DateTime}
use Rattle.jiff_core.specs.DateTime.{civil_nanos}
use Rattle.jiff_core.proofs.CalendarLemmas.{day_count-lt_year, day_count-lt_month, day_count-day, day_count-day_of_year, days_in_month_bounds, days_from_civil-day_count, day_count-epoch}
use Rattle.jiff_core.proofs.DateLemmas.{civil}
use Rattle.jiff_core.proofs.DateTimeLemmas.{civil_nanos-parts, time_nanos_bound}
use Rattle.jiff_core.proofs.MarchLemmas.{day_count-early}
use Rattle.jiff_core.proofs.SignedLemmas.{signed_arith}
use Rattle.jiff_fmt.specs.Text.{datetime_text}
use Rattle.tc_wall.specs.Clock.{begun, year_begins, month_begins, year_of, month_of, day_of, day_at, clock_text}

same_test : (a b c d : ℕ) → (c ≤ d → a ≤ b) → (d < c → b < a) → nat_le a b ≡ nat_le c d
same_test a b c d low high = grind (arith, nat_tests)

-- how many of the first n are at most j
one_more : (n j : ℕ) → min n (j + 1) + (if nat_le n j then 1 else 0) ≡ min (suc n) (j + 1)
one_more n j = grind (arith, nat_tests)

begun_min : (first_day : ℕ → ℕ) (day j n : ℕ) → ((k : ℕ) → k < n → nat_le (first_day k) day ≡ nat_le k j) → begun first_day day n ≡ min n (j + 1)
unfolding begun
begun_min first_day day j zero h = omega arith
begun_min first_day day j (suc n) h =
    let before : begun first_day day n ≡ min n (j + 1) = begun_min first_day day j n (λ k below. h k (omega arith)) in
    rw (before, h n (omega arith)) (one_more n j)

-- 1 January of a year
new_year : (k : ℕ) → k < 130 → IsCivilDate (pos (1970 + k)) 1 1
new_year k below = let days = days_in_month_bounds (pos (1970 + k)) 1 in ((omega (arith, signed_arith), omega (arith, signed_arith)), (omega arith, omega arith), (omega arith, omega arith))

-- the first of a month
first_of : (y : ℤ) (m : ℕ) → IsYear y → m < 12 → IsCivilDate y (m + 1) 1
first_of y m year below = let days = days_in_month_bounds y (m + 1) in (year, (omega arith, omega arith), (omega arith, omega arith))

later_year : (j k : ℕ) → j < k → pos (1970 + j) <ℤ pos (1970 + k)
later_year j k h = omega (arith, signed_arith)

year_test : (j m d day k : ℕ) → j < 130 → k < 130 → IsCivilDate (pos (1970 + j)) m d → day_count (pos (1970 + j)) m d ≡ day → nat_le (year_begins k) day ≡ nat_le k j
year_test j m d day k small below h is =
    same_test (year_begins k) day k j
    (λ le. by_same le)
    (λ lt. omega (arith, day_count-lt_year (pos (1970 + j)) m d (pos (1970 + k)) 1 1 h (omega arith) (later_year j k lt)))
  where
    from_january : day_count (pos (1970 + j)) 1 1 ≤ day
    from_january = omega (arith, day_count-day_of_year (pos (1970 + j)) m d h.2.0, h.2.0)

    by_same : k ≤ j → year_begins k ≤ day
    by_same le = grind (arith, day_count-lt_year (pos (1970 + k)) 1 1 (pos (1970 + j)) m d (new_year k below) h.2.0, later_year k j, from_january, le)

month_test : (y : ℤ) (m d day k : ℕ) → k < 12 → IsCivilDate y m d → day_count y m d ≡ day → nat_le (day_count y (k + 1) 1) day ≡ nat_le k (m - 1)
month_test y m d day k below h is =
    same_test (day_count y (k + 1) 1) day k (m - 1)
    (λ le. by_same le)
    (λ lt. omega (arith, day_count-lt_month y m d (k + 1) 1 h (omega arith) (omega (arith, h.1))))
  where
    from_first : day_count y m 1 ≤ day
    from_first = omega (arith, day_count-day y m d 1 h.2.0 (omega arith), h.2.0)

    by_same : k ≤ m - 1 → day_count y (k + 1) 1 ≤ day
    by_same le = grind (arith, day_count-lt_month y (k + 1) 1 m d (first_of y k h.0 below) h.2.0, from_first, le, h.1)

-- the date of a day
year_is : (j m d day : ℕ) → j < 130 → IsCivilDate (pos (1970 + j)) m d → day_count (pos (1970 + j)) m d ≡ day → year_of day ≡ 1970 + j
unfolding year_of
year_is j m d day small h is = omega (arith, begun_min year_begins day j 130 (λ k below. year_test j m d day k small below h is))

month_is : (year m d day : ℕ) → year_of day ≡ year → IsCivilDate (pos year) m d → day_count (pos year) m d ≡ day → month_of day ≡ m
unfolding month_of
month_is year m d day y h is =
    rw y (omega (arith, begun_min (month_begins year) day (m - 1) 12 (λ k below. month_test (pos year) m d day k below h is), h.1))

day_is : (year m d day : ℕ) → year_of day ≡ year → month_of day ≡ m → IsCivilDate (pos year) m d → day_count (pos year) m d ≡ day → day_of day ≡ d
unfolding day_of
day_is year m d day y month h is = rw (y, month) (omega (arith, day_count-day (pos year) m d 1 h.2.0 (omega arith), h.2.0))

-- a year from 1970 to 2099
year_pos : (y : ℤ) → pos 1970 ≤ℤ y → y <ℤ pos 2100 → (j : ℕ) × (j < 130) × (y ≡ pos (1970 + j))
year_pos (pos n) low high = (n - 1970, omega (arith, signed_arith), ap pos (omega (arith, signed_arith)))
year_pos (negsuc n) low high = absurd (omega (arith, signed_arith))

year_2100 : day_count (pos 2100) 1 1 ≡ 4419435
year_2100 = day_count-early _ 12099 1 1 refl (omega arith) (omega arith) (omega arith)

epoch_civil : IsCivilDate (pos 2100) 1 1
epoch_civil = let days = days_in_month_bounds (pos 2100) 1 in ((omega (arith, signed_arith), omega (arith, signed_arith)), (omega arith, omega arith), (omega arith, omega arith))

year_between : (y : ℤ) (m d : ℕ) → IsCivilDate y m d → 4371953 ≤ day_count y m d → day_count y m d < 4419435 → (pos 1970 ≤ℤ y) × (y <ℤ pos 2100)
year_between y m d h low high =
    (by_lt_z y (pos 1970) (λ lt. absurd (omega (arith, day_count-lt_year y m d (pos 1970) 1 1 h (omega arith) lt, day_count-epoch))) (λ le. le), by_lt_z y (pos 2100) (λ lt. lt) (λ le. absurd (later le)))
  where
    later : pos 2100 ≤ℤ y → ⊥
    later le = by_lt_z (pos 2100) y
        (λ lt. omega (arith, day_count-lt_year (pos 2100) 1 1 y m d epoch_civil h.2.0 lt, year_2100))
        (λ ge. let same : y ≡ pos 2100 = omega (arith, signed_arith) in omega (arith, ap (λ z. day_count z m d) same, year_2100, day_count-day_of_year (pos 2100) m d h.2.0, h.2.0))

record Parts (moment : ℕ) (dt : DateTime) : Type 0 where
  pub day : day_count dt.date.year dt.date.month dt.date.day ≡ moment / 86400 + 4371953
  pub hour : dt.time.hour ≡ moment % 86400 / 3600
  pub minute : dt.time.minute ≡ moment % 3600 / 60
  pub second : dt.time.second ≡ moment % 60

parts_of : (moment : ℕ) (dt : DateTime) → civil_nanos dt ≡ pos moment *ℤ pos 1000000000 → Parts moment dt
parts_of moment dt is = record {
  day = omega (arith, signed_arith, is, civil_nanos-parts dt, time_nanos_bound dt.time, days_from_civil-day_count dt.date.year dt.date.month dt.date.day);
  hour = omega (arith, signed_arith, is, civil_nanos-parts dt, time_nanos_bound dt.time);
  minute = omega (arith, signed_arith, is, civil_nanos-parts dt, time_nanos_bound dt.time);
  second = omega (arith, signed_arith, is, civil_nanos-parts dt, time_nanos_bound dt.time);
}

day_at-is : (moment : ℕ) → day_at moment ≡ moment / 86400 + 4371953
unfolding day_at
day_at-is moment = omega (arith, day_count-epoch)

text_is : (moment j : ℕ) (dt : DateTime) → Parts moment dt → dt.date.year ≡ pos (1970 + j) → year_of (day_at moment) ≡ 1970 + j → month_of (day_at moment) ≡ dt.date.month → day_of (day_at moment) ≡ dt.date.day
    → datetime_text false 32 (Some 0) dt ≡ clock_text moment
unfolding clock_text
text_is moment j dt parts y year month day = rw (y, year, month, day, parts.hour, parts.minute, parts.second) refl

in_year : (moment j : ℕ) (dt : DateTime) → Parts moment dt → j < 130 → dt.date.year ≡ pos (1970 + j) → datetime_text false 32 (Some 0) dt ≡ clock_text moment
in_year moment j dt parts small y =
    let date : IsCivilDate (pos (1970 + j)) dt.date.month dt.date.day = subst (λ z. IsCivilDate z dt.date.month dt.date.day) y (civil dt.date) in
    let count : day_count (pos (1970 + j)) dt.date.month dt.date.day ≡ day_at moment = ap (λ z. day_count z dt.date.month dt.date.day) (sym y) ∙ parts.day ∙ sym (day_at-is moment) in
    let year = year_is j dt.date.month dt.date.day (day_at moment) small date count in
    let month = month_is (1970 + j) dt.date.month dt.date.day (day_at moment) year date count in
    text_is moment j dt parts y year month (day_is (1970 + j) dt.date.month dt.date.day (day_at moment) year month date count)

-- what jiff writes of the date and the time that are so many seconds past 1970-01-01 00:00:00
pub clock_is : (moment : ℕ) (dt : DateTime) → moment ≤ 4102444799 → civil_nanos dt ≡ pos moment *ℤ pos 1000000000 → datetime_text false 32 (Some 0) dt ≡ clock_text moment
clock_is moment dt early is =
    let parts = parts_of moment dt is in
    let between = year_between dt.date.year dt.date.month dt.date.day (civil dt.date) (omega (arith, parts.day)) (omega (arith, parts.day)) in
    let year = year_pos dt.date.year between.0 between.1 in
    in_year moment year.0 dt parts year.1 year.2
