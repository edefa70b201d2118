-- Where faults are told: nowhere in the fields of a layer that its reader takes, and at one field, the last, of a layer that it refuses.
use Rattle.std.specs.Prelude.{◌≡◌, ◌≢◌, Bool, ℕ, ◌-◌, true, false, List, [], ◌∷◌, ◌++◌, length, Contains, Option, Some, None, Result, Err, ⊤, if◌then◌else◌}
use Rattle.std.specs.List.{list_any}
use Rattle.tc_octets.specs.TmFrames.{TmReads}
use Rattle.tc_octets.specs.declared.profiles.Profile.{Profile}
use Rattle.tc_octets.specs.declared.tm_frames.TmFault.{TmFault}
use Rattle.tc_octets.specs.declared.tm_frames.TmFrame.{TmFrame}
use Rattle.tc_decoded.specs.declared.decoding.Layer.{Layer}
use Rattle.tc_decoded.specs.declared.decoding.Layer.TheVariants as layers
use Rattle.tc_decoded.specs.declared.lines.Line.{Line}
use Rattle.tc_decoded.specs.declared.names.Name.TheVariants as names
use Rattle.tc_decoded.specs.declared.places.Place.{Place}
use Rattle.tc_decoded.specs.declared.rows.Row.{Row}
use Rattle.tc_decoded.specs.declared.rows.Fit.TheVariants as fit
use Rattle.tc_decoded.specs.declared.rows.Word.{Word}
use Rattle.tc_decoded.specs.declared.rows.Word.TheVariants as words
use Rattle.tc_decoded.specs.Decoded.{is_fault}
use Rattle.tc_decoded.specs.Places.{the_whole}
use Rattle.tc_decoded.specs.ReportLines as reports
use Rattle.tc_decoded.specs.Rows.{counted, fails, line_of}
use Rattle.tc_decoded.specs.Tables.{frame_check, packet_check, refused}
use Rattle.tc_decoded.specs.TcFrameLines as frames
use Rattle.tc_decoded.specs.Telecommands as telecommands
use Rattle.tc_decoded.specs.TmFrameLines.{tm_header_rows, tm_word}

-- The last line is a fault, and no other: the line of one of these rows that has the reader's word, and does not fit.
pub record EndsAt (place : Place) (word : Word) (octets : List ℕ) (rows : List Row) (lines : List Line) : Type 0 where
  pub before : List Line
  pub row : Row
  pub all : lines ≡ before ++ line_of place (Some word) octets row ∷ []
  pub sound : list_any is_fault before ≡ false
  pub one : Contains rows row
  pub fault : fails (Some word) octets row ≡ true

abbrev pub HasNone : List Line → Type 0
HasNone lines = list_any is_fault lines ≡ false

-- ---- the fields of a layer; none of them stands for no field, as the row `refused` does

abbrev pub frame_fields : Profile → List ℕ → List Row
frame_fields profile octets = frames.front_rows profile octets ++ frames.packet_rows profile octets ++ frame_check profile.tc.fecf octets

abbrev pub tm_fields : Profile → List ℕ → List Row
tm_fields profile octets = tm_header_rows profile octets ++ frame_check profile.tm.fecf octets

abbrev pub telecommand_fields : Profile → List ℕ → List Row
telecommand_fields profile octets = telecommands.headers profile octets ++ telecommands.data_rows profile octets ++ packet_check octets ∷ []

abbrev pub report_fields : Profile → List ℕ → List Row
report_fields profile octets = reports.secondary_rows profile ++ reports.source_rows profile octets ++ packet_check octets ∷ []

abbrev pub telemetry_fields : Profile → List ℕ → List Row
telemetry_fields profile octets =
    reports.primary_rows profile octets
    ++ (if reports.is_idle octets then counted names.IdleData 6 (length octets - 6) words.Length fit.Any ∷ [] else report_fields profile octets)

-- ---- faults of a layer

-- A telecommand frame that its reader refuses ends at a field; a control command that it takes has no fault.
pub record FrameFaults (profile : Profile) (octets : List ℕ) (lines : List Line) : Type 0 where
  pub word : Option Word
  pub judged : frames.Judged profile octets word
  pub ends : (fault : Word) → word ≡ Some fault → EndsAt the_whole fault octets (frame_fields profile octets) lines
  pub taken : word ≡ None → frames.is_control octets ≡ true → HasNone lines

-- A telemetry frame that its reader refuses ends at a field.
pub record TmFaults (profile : Profile) (octets : List ℕ) (lines : List Line) : Type 0 where
  pub read : Result TmFrame TmFault
  pub says : TmReads profile octets read
  pub ends : (fault : TmFault) → read ≡ Err fault → EndsAt the_whole (tm_word fault) octets (tm_fields profile octets) lines

-- A telecommand packet that its reader refuses for its headers or its check ends at a field. One that is refused for its data ends at a field or at a
-- row for all of them, and an insert whose data are refused has a fault in its last line. One that is taken has no fault, but for an insert.
pub record TelecommandFaults (profile : Profile) (octets : List ℕ) (lines : List Line) : Type 0 where
  pub word : Option Word
  pub judged : telecommands.Judged profile octets word
  pub ends : (fault : Word) → word ≡ Some fault → fault ≢ words.Data
      → EndsAt the_whole fault octets (telecommand_fields profile octets) lines
  pub contents : word ≡ Some words.Data → telecommands.is_insert word octets ≡ false
      → EndsAt the_whole words.Data octets
      (telecommand_fields profile octets ++ refused (Some words.Data) names.ApplicationData 11 (telecommands.data_length octets)) lines
  pub taken : word ≡ None → telecommands.is_insert word octets ≡ false → HasNone lines

-- A telemetry packet that its reader refuses for anything but its source data ends at a field; one that is taken has no fault.
pub record TelemetryFaults (profile : Profile) (octets : List ℕ) (lines : List Line) : Type 0 where
  pub word : Option Word
  pub judged : reports.Judged profile octets word
  pub ends : (fault : Word) → word ≡ Some fault → fault ≢ words.Data
      → EndsAt the_whole fault octets (telemetry_fields profile octets) lines
  pub contents : word ≡ Some words.Data → EndsAt the_whole words.Data octets (reports.telemetry_rows profile (Some words.Data) octets) lines
  pub taken : word ≡ None → HasNone lines

abbrev pub PacketFaultsAs : Bool → Profile → List ℕ → List Line → Type 0
PacketFaultsAs true = TelecommandFaults
PacketFaultsAs false = TelemetryFaults

-- Where the lines of a layer tell of faults. Each CLTU in octets has the lines of its own frame.
abbrev pub FaultsTold : Profile → Layer → List ℕ → List Line → Type 0
FaultsTold profile layers.Frame octets lines = FrameFaults profile octets lines
FaultsTold profile layers.Cltu octets lines = ⊤
FaultsTold profile layers.Packet octets lines = PacketFaultsAs (reports.is_request octets) profile octets lines
FaultsTold profile layers.Tm octets lines = TmFaults profile octets lines
