-- The lines of CLTUs (CCSDS 231.0-B), as a receiver finds them in octets.
use Rattle.std.specs.Prelude.{◌≡◌, ℕ, ◌+◌, ◌*◌, ◌/◌, ◌-◌, ◌==◌, ◌&&◌, if◌then◌else◌, Bool, false, List, [], ◌∷◌, ◌++◌, length, Option, Some, None}
use Rattle.tc_octets.specs.Bits.{pair_at}
use Rattle.tc_octets.specs.Cltus.{HasFrame, Place as Spot, received, searching}
use Rattle.tc_octets.specs.declared.codeblocks.Mode.{Mode}
use Rattle.tc_octets.specs.declared.codeblocks.Mode.TheVariants.{Detecting, Correcting}
use Rattle.tc_octets.specs.declared.profiles.Profile.{Profile}
use Rattle.tc_packets.specs.Uplinks.{front_in, plain_in}
use Rattle.tc_decoded.specs.declared.lines.Line.{Line}
use Rattle.tc_decoded.specs.declared.names.Name.{Name}
use Rattle.tc_decoded.specs.declared.names.Name.TheVariants as names
use Rattle.tc_decoded.specs.declared.rows.Shown.TheVariants as shown
use Rattle.tc_decoded.specs.declared.rows.Fit.TheVariants as fit
use Rattle.tc_decoded.specs.declared.rows.Word.TheVariants as words
use Rattle.tc_decoded.specs.declared.rows.Row.{Row}
use Rattle.tc_decoded.specs.declared.rows.Source.TheVariants as sources
use Rattle.tc_decoded.specs.Places.{coded_from, the_whole}
use Rattle.tc_decoded.specs.Rows.{counted, field, plain, told}
use Rattle.tc_decoded.specs.Tables.{refused}
use Rattle.tc_decoded.specs.TcFrameLines.{TcFrameTold}

-- how the spacecraft's decoder reads codeblocks
abbrev pub mode_of : Profile → Mode
mode_of profile = if profile.tc.correct then Correcting else Detecting

-- ---- the table

-- Where the start sequence stands, from 0, of a CLTU with so many octets of information that ended before an octet: before its codeblocks and the
-- block that ended it.
abbrev pub start_of : ℕ → ℕ → ℕ
start_of end information = end - 10 - information / 7 * 8

abbrev pub is_tail : List ℕ → ℕ → Bool
is_tail octets at =
    (pair_at octets at == 0xc5c5) && (pair_at octets (at + 2) == 0xc5c5) && (pair_at octets (at + 4) == 0xc5c5) && (pair_at octets (at + 6) == 0xc579)

abbrev pub end_name : Bool → Name
end_name tail = if tail then names.TailSequence else names.EndingBlock

abbrev pub codeblocks_row : ℕ → ℕ → Row
codeblocks_row at number = record {
  name = names.Codeblocks;
  octet = at;
  source = sources.Count number;
  shown = shown.Number;
  fit = fit.Any;
  word = words.Length;
}

-- the block that ended it
abbrev pub end_row : List ℕ → ℕ → Row
end_row octets at = counted (end_name (is_tail octets at)) at 8 words.Length fit.Any

abbrev pub cltu_rows : List ℕ → ℕ → ℕ → List Row
cltu_rows octets end information =
    plain names.StartSequence (start_of end information) 0 16 shown.Hexadecimal
    ∷ codeblocks_row (start_of end information + 2) (information / 7)
    ∷ end_row octets (end - 8)
    ∷ []

-- information at whose front no frame stands
abbrev pub no_frame_rows : List ℕ → List Row
no_frame_rows plain_octets =
    counted names.TransferFrame 0 (length plain_octets) words.Length (fit.Least 5)
    ∷ field names.FrameLength 2 6 10 shown.Number words.Length (fit.Given (length plain_octets) (length plain_octets - 1))
    ∷ refused (Some words.Length) names.TransferFrame 0 (length plain_octets)

-- ---- lines

-- what is told of the information of a CLTU whose codeblocks begin at an octet: the frame at its front, or that there is none
pub data InformationTold (at : ℕ) (profile : Profile) (information : List ℕ) (lines : List Line) : Type 0 where
  frame : HasFrame (plain_in profile information) → TcFrameTold (coded_from at) profile (front_in profile information) lines
      → InformationTold at profile information lines
  none : ¬ HasFrame (plain_in profile information)
      → lines ≡ told (coded_from at) (Some words.Length) (plain_in profile information) (no_frame_rows (plain_in profile information))
      → InformationTold at profile information lines

-- what is told of a CLTU that ended before an octet
pub record CltuTold (profile : Profile) (octets : List ℕ) (end : ℕ) (information : List ℕ) (lines : List Line) : Type 0 where
  pub inner : List Line
  pub frame : InformationTold (start_of end (length information) + 2) profile information inner
  pub all : lines ≡ told the_whole None octets (cltu_rows octets end (length information)) ++ inner

abbrev pub EndedTold : Profile → List ℕ → ℕ → Option (List ℕ) → List Line → Type 0
EndedTold profile octets end None lines = lines ≡ []
EndedTold profile octets end (Some information) lines = CltuTold profile octets end information lines

-- What is told of the octets that are left, after so many that brought a receiver to a place.
abbrev pub StreamTold : Profile → List ℕ → ℕ → Spot → List ℕ → List Line → Type 0
StreamTold profile octets at spot [] lines = lines ≡ []
StreamTold profile octets at spot (octet ∷ left) lines =
    (first : List Line) × (others : List Line) × EndedTold profile octets (at + 1) (received (mode_of profile) spot octet).ended first
    × StreamTold profile octets (at + 1) (received (mode_of profile) spot octet).place left others × (lines ≡ first ++ others)

-- a text in which no CLTU ends has a line that says so
abbrev pub or_none : List ℕ → List Line → List Line
or_none octets [] = told the_whole (Some words.Length) octets (counted names.Octets 0 (length octets) words.Length fit.Ended ∷ [])
or_none octets (line ∷ lines) = line ∷ lines

-- What is told of octets in which CLTUs are found.
pub record CltusTold (profile : Profile) (octets : List ℕ) (lines : List Line) : Type 0 where
  pub found : List Line
  pub stream : StreamTold profile octets 0 (searching false) octets found
  pub all : lines ≡ or_none octets found
