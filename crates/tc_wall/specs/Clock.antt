-- What a clock at UTC shows at a moment, by the calendar of the crate `jiff_core`.
use Rattle.std.specs.Prelude.{ℕ, suc, zero, ◌+◌, ◌-◌, ◌/◌, ◌%◌, nat_le, if◌then◌else◌, pos, List, ◌∷◌, ◌++◌}
use Rattle.jiff_core.specs.Calendar.{day_count}
use Rattle.jiff_fmt.specs.Text.{pad2, pad4}

-- how many of the first n begin on a day or before it
unfoldable pub begun : (ℕ → ℕ) → ℕ → ℕ → ℕ
begun first_day day zero = 0
begun first_day day (suc n) = begun first_day day n + (if nat_le (first_day n) day then 1 else 0)

-- the day on which a year begins that is so many after 1970; the day on which a month of a year begins that is so many after January
abbrev pub year_begins : ℕ → ℕ
year_begins n = day_count (pos (1970 + n)) 1 1

abbrev pub month_begins : ℕ → ℕ → ℕ
month_begins year n = day_count (pos year) (n + 1) 1

-- The year of a day: the last from 1970 to 2099 that begins on it or before it. Its month: the last of that year that does.
unfoldable pub year_of : ℕ → ℕ
year_of day = 1969 + begun year_begins day 130

unfoldable pub month_of : ℕ → ℕ
month_of day = begun (month_begins (year_of day)) day 12

-- its day in that month, from 1
unfoldable pub day_of : ℕ → ℕ
day_of day = day + 1 - day_count (pos (year_of day)) (month_of day) 1

-- the day of a moment
unfoldable pub day_at : ℕ → ℕ
day_at moment = day_count (pos 1970) 1 1 + moment / 86400

-- YYYY-MM-DD hh:mm:ss, of a moment up to the end of 2099
unfoldable pub clock_text : ℕ → List ℕ
clock_text moment =
    pad4 (year_of (day_at moment)) ++ 45 ∷ pad2 (month_of (day_at moment)) ++ 45 ∷ pad2 (day_of (day_at moment))
    ++ 32 ∷ pad2 (moment % 86400 / 3600) ++ 58 ∷ pad2 (moment % 3600 / 60) ++ 58 ∷ pad2 (moment % 60)
