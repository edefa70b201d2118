-- Tables of fields. A row says where a field lies, how it is shown, what it must be, and by which word a reader refuses another value.
use Rattle.std.specs.Prelude.{ℕ, ◌+◌, ◌*◌, ◌/◌, ◌%◌, ◌^◌, ◌-◌, ◌==◌, nat_le, nat_lt, ◌&&◌, ◌||◌, not, if◌then◌else◌, Bool, true, false, List, [], ◌∷◌}
use Rattle.std.specs.Prelude.{slice_index, drop, min, Option, Some, None}
use Rattle.std.specs.List.{list_any}
use Rattle.tc_octets.specs.Bits.{pair_at}
use Rattle.tc_packets.specs.OctetFields.{quad_at}
use Rattle.tc_decoded.specs.declared.names.Name.{Name}
use Rattle.tc_decoded.specs.declared.rows.Shown.{Shown}
use Rattle.tc_decoded.specs.declared.rows.Shown.TheVariants as shown
use Rattle.tc_decoded.specs.declared.rows.Fit.{Fit}
use Rattle.tc_decoded.specs.declared.rows.Fit.TheVariants as fit
use Rattle.tc_decoded.specs.declared.rows.Word.{Word}
use Rattle.tc_decoded.specs.declared.rows.Word.TheVariants as words
use Rattle.tc_decoded.specs.declared.rows.Span.{Span}
use Rattle.tc_decoded.specs.declared.rows.Source.{Source}
use Rattle.tc_decoded.specs.declared.rows.Source.TheVariants as sources
use Rattle.tc_decoded.specs.declared.rows.Row.{Row}
use Rattle.tc_decoded.specs.declared.places.Place.{Place}
use Rattle.tc_decoded.specs.declared.lines.Line.{Line}

-- ---- what a field has

-- the number that the octets are in which bits up to this one lie: one, two or four
abbrev pub window_of : List ℕ → ℕ → ℕ
window_of octets end = if nat_le end 8 then slice_index octets 0 else if nat_le end 16 then pair_at octets 0 else quad_at octets 0

-- how many bits of them come after this one
abbrev pub room_of : ℕ → ℕ
room_of end = if nat_le end 8 then 8 - end else if nat_le end 16 then 16 - end else 32 - end

-- the number in a field of up to 32 bits that begins in an octet, from 0
abbrev pub bits_in : List ℕ → ℕ → Span → ℕ
bits_in octets at span = window_of (drop at octets) (span.bit + span.bits) / 2 ^ room_of (span.bit + span.bits) % 2 ^ min span.bits 32

abbrev pub sourced : List ℕ → ℕ → Source → ℕ
sourced octets at (sources.Field span) = bits_in octets at span
sourced octets at (sources.Count number) = number

abbrev pub value_of : List ℕ → Row → ℕ
value_of octets row = sourced octets row.octet row.source

-- ---- what it must be

abbrev pub is_scheduled : ℕ → Bool
is_scheduled value = list_any (λ known. known == value) (1 ∷ 2 ∷ 3 ∷ 4 ∷ 5 ∷ 7 ∷ 15 ∷ 17 ∷ [])

abbrev pub fits : Fit → ℕ → Bool
fits fit.Any value = true
fits (fit.Is number) value = value == number
fits (fit.Between least most) value = nat_le least value && nat_le value most
fits (fit.Least least) value = nat_le least value
fits (fit.Most most) value = nat_le value most
fits (fit.Given octets field) value = value == field
fits fit.Scheduled value = is_scheduled value
fits (fit.Command command) value = command
fits fit.Ended value = false
fits fit.Refused value = false

-- ---- where it lies

-- The first octet that a field fills, of those in which it lies: 0 or 1. A field that fills none has the first.
abbrev pub filled : Source → ℕ
filled (sources.Field span) = if (span.bit == 0) || nat_lt (span.bit + span.bits) 16 then 0 else 1
filled (sources.Count number) = 0

-- An octet of a layer, from 0, as an octet of the whole, from 1. In a CLTU an octet of error control follows each seven.
abbrev pub place_of : Place → ℕ → ℕ
place_of place octet =
    place.start + (if place.coded then (place.skipped + octet) / 7 * 8 + (place.skipped + octet) % 7 else place.skipped + octet) + 1

-- ---- the lines of a table

abbrev pub word_code : Word → ℕ
word_code words.Length = 0
word_code words.Check = 1
word_code words.Version = 2
word_code words.Spacecraft = 3
word_code words.Channel = 4
word_code words.Kind = 5
word_code words.Content = 6
word_code words.Header = 7
word_code words.Subtype = 8
word_code words.Data = 9

-- A row is at fault if the reader refuses the layer by its word, and its value does not fit.
abbrev pub fails : Option Word → List ℕ → Row → Bool
fails None octets row = false
fails (Some word) octets row = (word_code word == word_code row.word) && not (fits row.fit (value_of octets row))

abbrev pub line_of : Place → Option Word → List ℕ → Row → Line
line_of place word octets row = record {
  at = place_of place (row.octet + filled row.source);
  name = row.name;
  value = value_of octets row;
  shown = row.shown;
  fault = if fails word octets row then Some row.fit else None;
}

-- A line for each row, up to the first that is at fault.
abbrev pub told : Place → Option Word → List ℕ → List Row → List Line
told place word octets [] = []
told place word octets (row ∷ rows) =
    line_of place word octets row ∷ (if fails word octets row then [] else told place word octets rows)

-- ---- rows

-- a field that begins at a bit of an octet, with what it must be; one that may have any value; a number that was counted
abbrev pub field : Name → ℕ → ℕ → ℕ → Shown → Word → Fit → Row
field name octet bit bits shown word fit = record {
  name = name;
  octet = octet;
  source = sources.Field (record { bit = bit; bits = bits });
  shown = shown;
  fit = fit;
  word = word;
}

abbrev pub plain : Name → ℕ → ℕ → ℕ → Shown → Row
plain name octet bit bits shown = field name octet bit bits shown words.Length fit.Any

abbrev pub counted : Name → ℕ → ℕ → Word → Fit → Row
counted name octet number word fit =
    record { name = name; octet = octet; source = sources.Count number; shown = shown.Octets; fit = fit; word = word }
