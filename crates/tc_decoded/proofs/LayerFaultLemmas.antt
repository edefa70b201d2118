-- Where the lines of a layer tell of faults.
use Rattle.std.proofs.Common.{◌≡◌, ◌-◌, ℕ, Bool, true, false, List, [], ◌∷◌, ◌++◌, length, refl, sym, ap, ◌∙◌, subst}
use Rattle.std.specs.Prelude.{◌≢◌, IfOk, Option, Some, None, Ok, Err, Result, Vec, not, if◌then◌else◌}
use Rattle.std.proofs.lemmas.List.{append_assoc, append-nil}
use Rattle.tc_octets.specs.TmFrames.{TmReads}
use Rattle.tc_octets.specs.declared.profiles.Profile.{Profile}
use Rattle.tc_octets.specs.declared.tm_frames.TmFault.{TmFault}
use Rattle.tc_octets.specs.declared.tm_frames.TmFrame.{TmFrame}
use Rattle.tc_decoded.specs.Decoded.{Decodes}
use Rattle.tc_decoded.specs.declared.decoding.Layer.{Layer}
use Rattle.tc_decoded.specs.declared.decoding.Layer.TheVariants as layers
use Rattle.tc_decoded.specs.declared.lines.Line.{Line}
use Rattle.tc_decoded.specs.declared.names.Name.TheVariants as names
use Rattle.tc_decoded.specs.declared.rows.Fit.TheVariants as fit
use Rattle.tc_decoded.specs.declared.rows.Row.{Row}
use Rattle.tc_decoded.specs.declared.rows.Word.{Word}
use Rattle.tc_decoded.specs.declared.rows.Word.TheVariants as words
use Rattle.tc_decoded.specs.Faults.{EndsAt, FaultsTold, FrameFaults, HasNone, PacketFaultsAs, TelecommandFaults, TelemetryFaults, TmFaults, frame_fields}
use Rattle.tc_decoded.specs.Faults.{report_fields, telecommand_fields, telemetry_fields, tm_fields}
use Rattle.tc_decoded.specs.Places.{the_whole}
use Rattle.tc_decoded.specs.ReportLines as reports
use Rattle.tc_decoded.specs.Rows.{counted, told}
use Rattle.tc_decoded.specs.Tables.{frame_check, packet_check, refused}
use Rattle.tc_decoded.specs.TcFrameLines as frames
use Rattle.tc_decoded.specs.Telecommands as telecommands
use Rattle.tc_decoded.specs.TmFrameLines.{TmFrameTold, tm_header_rows, tm_word, FieldsTold as TmFieldsTold}
use Rattle.tc_decoded.proofs.FaultLemmas.{AreOctets, HasFault, behind, ends_at, never_fits, taken}
use Rattle.tc_decoded.proofs.FieldFaultLemmas.{read_fault, read_packet_fault, tm_frame_fault}
use Rattle.tc_decoded.proofs.ContentFaultLemmas.{content_fault}
use Rattle.tc_decoded.proofs.TelemetryFaultLemmas.{telemetry_fault}

-- lines that are those of fields and of what comes after them
ends_in : (word : Word) (octets : List ℕ) (fields more all : List Row) (lines : List Line) → lines ≡ told the_whole (Some word) octets all
    → all ≡ fields ++ more → HasFault word octets fields → EndsAt the_whole word octets fields lines
ends_in word octets fields more all lines is same h =
    subst (λ (l : List Line). EndsAt the_whole word octets fields l) (sym (is ∙ ap (λ (l : List Row). told the_whole (Some word) octets l) same))
    (ends_at the_whole word octets fields more h)

none_in : (octets : List ℕ) (rows : List Row) (lines : List Line) → lines ≡ told the_whole None octets rows → HasNone lines
none_in octets rows lines is = subst (λ (l : List Line). HasNone l) (sym is) (taken the_whole octets rows)

-- ---- telecommand frames

frame_ends : (profile : Profile) (octets : List ℕ) (lines : List Line) → AreOctets octets → (all : frames.TcFrameTold the_whole profile octets lines)
    → (fault : Word) → all.word ≡ Some fault → EndsAt the_whole fault octets (frame_fields profile octets) lines
frame_ends profile octets lines are all fault e =
    let fields : lines ≡ told the_whole (Some fault) octets
    (frames.front_rows profile octets ++ frames.packet_rows profile octets ++ frames.closing_rows profile (Some fault) octets) =
    subst (λ (w : Option Word). frames.FieldsTold (frames.carries w octets) the_whole w profile octets lines) e all.fields in
    let read = read_fault profile octets fault all.judged.read are all.judged.says (sym e ∙ all.judged.is) (content_fault profile octets are) in
    let last : List Row = refused (Some fault) names.TransferFrame 0 (length octets) in
    ends_in fault octets (frame_fields profile octets) last
    (frames.front_rows profile octets ++ frames.packet_rows profile octets ++ frames.closing_rows profile (Some fault) octets) lines fields
    (sym (append_assoc (frames.front_rows profile octets ++ frames.packet_rows profile octets) (frame_check profile.tc.fecf octets) last)) read

frame_taken : (profile : Profile) (octets : List ℕ) (lines : List Line) → (all : frames.TcFrameTold the_whole profile octets lines)
    → all.word ≡ None → frames.is_control octets ≡ true → HasNone lines
frame_taken profile octets lines all e control =
    let fields : frames.FieldsTold (not (frames.is_control octets)) the_whole None profile octets lines =
    subst (λ (w : Option Word). frames.FieldsTold (frames.carries w octets) the_whole w profile octets lines) e all.fields in
    none_in octets (frames.front_rows profile octets ++ frames.packet_rows profile octets ++ frames.closing_rows profile None octets) lines
    (subst (λ (b : Bool). frames.FieldsTold (not b) the_whole None profile octets lines) control fields)

frame_faults : (profile : Profile) (octets : List ℕ) (lines : List Line) → AreOctets octets → frames.TcFrameTold the_whole profile octets lines
    → FrameFaults profile octets lines
frame_faults profile octets lines are all = record {
  word = all.word;
  judged = all.judged;
  ends = frame_ends profile octets lines are all;
  taken = frame_taken profile octets lines all;
}

-- ---- telemetry frames

tm_faults : (profile : Profile) (octets : List ℕ) (lines : List Line) → AreOctets octets → TmFrameTold the_whole profile octets lines
    → TmFaults profile octets lines
tm_faults profile octets lines are all = record {
  read = all.read;
  says = all.says;
  ends = λ fault e.
      let says = subst (λ (r : Result TmFrame TmFault). TmReads profile octets r) e all.says in
      let fields = subst (λ (r : Result TmFrame TmFault). TmFieldsTold the_whole profile octets r lines) e all.fields in
      let last : List Row = refused (Some (tm_word fault)) names.TransferFrame 0 (length octets) in
      ends_in (tm_word fault) octets (tm_fields profile octets) last
      (tm_header_rows profile octets ++ frame_check profile.tm.fecf octets ++ refused (Some (tm_word fault)) names.TransferFrame 0 (length octets)) lines
      fields refl
      (tm_frame_fault profile octets fault are says);
}

-- ---- telecommand packets

-- no header that is refused makes an insert
no_insert : (word : Word) (octets : List ℕ) → word ≢ words.Data → telecommands.is_insert (Some word) octets ≡ false
no_insert words.Data octets h = absurd (h refl)
no_insert words.Length octets h = refl
no_insert words.Check octets h = refl
no_insert words.Version octets h = refl
no_insert words.Spacecraft octets h = refl
no_insert words.Channel octets h = refl
no_insert words.Kind octets h = refl
no_insert words.Content octets h = refl
no_insert words.Header octets h = refl
no_insert words.Subtype octets h = refl

-- the lines of a packet that is no insert
plain_lines : (profile : Profile) (octets : List ℕ) (lines : List Line) (word : Option Word)
    → telecommands.FieldsTold (telecommands.is_insert word octets) the_whole word profile octets lines → telecommands.is_insert word octets ≡ false
    → lines ≡ told the_whole word octets
    (telecommands.headers profile octets ++ telecommands.data_rows profile octets ++ telecommands.closing_rows word octets)
plain_lines profile octets lines word fields plain_is =
    subst (λ (b : Bool). telecommands.FieldsTold b the_whole word profile octets lines) plain_is fields

-- the fields, and then the row `refused`
fields_then : (profile : Profile) (octets : List ℕ) (word : Option Word)
    → telecommands.headers profile octets ++ telecommands.data_rows profile octets ++ telecommands.closing_rows word octets
    ≡ telecommand_fields profile octets ++ refused word names.ApplicationData 11 (telecommands.data_length octets)
fields_then profile octets word =
    sym
    (append_assoc (telecommands.headers profile octets ++ telecommands.data_rows profile octets) (packet_check octets ∷ [])
    (refused word names.ApplicationData 11 (telecommands.data_length octets)))

telecommand_ends : (profile : Profile) (octets : List ℕ) (lines : List Line) → AreOctets octets
    → (all : telecommands.TelecommandTold the_whole profile octets lines)
    → (fault : Word) → all.word ≡ Some fault → fault ≢ words.Data → EndsAt the_whole fault octets (telecommand_fields profile octets) lines
telecommand_ends profile octets lines are all fault e not_data =
    let fields =
    subst (λ (w : Option Word). telecommands.FieldsTold (telecommands.is_insert w octets) the_whole w profile octets lines) e all.fields in
    ends_in fault octets (telecommand_fields profile octets) (refused (Some fault) names.ApplicationData 11 (telecommands.data_length octets))
    (telecommands.headers profile octets ++ telecommands.data_rows profile octets ++ telecommands.closing_rows (Some fault) octets) lines
    (plain_lines profile octets lines (Some fault) fields (no_insert fault octets not_data)) (fields_then profile octets (Some fault))
    (read_packet_fault profile octets fault all.judged.read are all.judged.says (sym e ∙ all.judged.is) not_data)

telecommand_contents : (profile : Profile) (octets : List ℕ) (lines : List Line) → (all : telecommands.TelecommandTold the_whole profile octets lines)
    → all.word ≡ Some words.Data → telecommands.is_insert all.word octets ≡ false
    → EndsAt the_whole words.Data octets
    (telecommand_fields profile octets ++ refused (Some words.Data) names.ApplicationData 11 (telecommands.data_length octets)) lines
telecommand_contents profile octets lines all e plain_is =
    let last : List Row = refused (Some words.Data) names.ApplicationData 11 (telecommands.data_length octets) in
    let rows : List Row = telecommand_fields profile octets ++ last in
    let fields =
    subst (λ (w : Option Word). telecommands.FieldsTold (telecommands.is_insert w octets) the_whole w profile octets lines) e all.fields in
    ends_in words.Data octets rows []
    (telecommands.headers profile octets ++ telecommands.data_rows profile octets ++ telecommands.closing_rows (Some words.Data) octets) lines
    (plain_lines profile octets lines (Some words.Data) fields (subst (λ (w : Option Word). telecommands.is_insert w octets ≡ false) e plain_is))
    (fields_then profile octets (Some words.Data) ∙ sym (append-nil rows))
    (behind words.Data octets (telecommand_fields profile octets) last
    (never_fits words.Data octets names.ApplicationData 11 (telecommands.data_length octets)))

telecommand_faults : (profile : Profile) (octets : List ℕ) (lines : List Line) → AreOctets octets
    → telecommands.TelecommandTold the_whole profile octets lines → TelecommandFaults profile octets lines
telecommand_faults profile octets lines are all = record {
  word = all.word;
  judged = all.judged;
  ends = telecommand_ends profile octets lines are all;
  contents = telecommand_contents profile octets lines all;
  taken = λ e plain_is. none_in octets (telecommands.headers profile octets ++ telecommands.data_rows profile octets ++ telecommands.closing_rows None octets)
      lines
      (plain_lines profile octets lines None
      (subst (λ (w : Option Word). telecommands.FieldsTold (telecommands.is_insert w octets) the_whole w profile octets lines) e all.fields)
      (subst (λ (w : Option Word). telecommands.is_insert w octets ≡ false) e plain_is));
}

-- ---- telemetry packets

-- the fields, and then the row `refused`, of an idle packet and of any other
abbrev last_of : Profile → Word → List ℕ → Bool → List Row
last_of profile word octets true = refused (Some word) names.Packet 0 (length octets)
last_of profile word octets false =
    refused (Some word) names.SourceData (reports.source_at profile) (reports.source_length profile octets)

telemetry_then : (profile : Profile) (octets : List ℕ) (word : Word) (idle : Bool) → reports.is_idle octets ≡ idle
    → reports.telemetry_rows profile (Some word) octets ≡ telemetry_fields profile octets ++ last_of profile word octets idle
telemetry_then profile octets word true e =
    let data_row : List Row = counted names.IdleData 6 (length octets - 6) words.Length fit.Any ∷ [] in
    ap (λ (b : Bool). reports.primary_rows profile octets
    ++ (if b then reports.idle_rows (Some word) octets else reports.report_rows profile (Some word) octets)) e
    ∙ sym (append_assoc (reports.primary_rows profile octets) data_row (last_of profile word octets true))
    ∙ ap (λ (b : Bool). (reports.primary_rows profile octets ++ (if b then data_row else report_fields profile octets))
    ++ last_of profile word octets true) (sym e)
telemetry_then profile octets word false e =
    let data_row : List Row = counted names.IdleData 6 (length octets - 6) words.Length fit.Any ∷ [] in
    ap (λ (b : Bool). reports.primary_rows profile octets
    ++ (if b then reports.idle_rows (Some word) octets else reports.report_rows profile (Some word) octets)) e
    ∙ ap (λ (l : List Row). reports.primary_rows profile octets ++ l)
    (sym (append_assoc (reports.secondary_rows profile ++ reports.source_rows profile octets) (packet_check octets ∷ [])
    (last_of profile word octets false)))
    ∙ sym (append_assoc (reports.primary_rows profile octets) (report_fields profile octets) (last_of profile word octets false))
    ∙ ap (λ (b : Bool). (reports.primary_rows profile octets ++ (if b then data_row else report_fields profile octets))
    ++ last_of profile word octets false) (sym e)

telemetry_ends : (profile : Profile) (octets : List ℕ) (lines : List Line) → AreOctets octets
    → (all : reports.TelemetryTold the_whole profile octets lines)
    → (fault : Word) → all.word ≡ Some fault → fault ≢ words.Data → EndsAt the_whole fault octets (telemetry_fields profile octets) lines
telemetry_ends profile octets lines are all fault e not_data =
    ends_in fault octets (telemetry_fields profile octets) (last_of profile fault octets (reports.is_idle octets))
    (reports.telemetry_rows profile (Some fault) octets) lines
    (all.fields ∙ ap (λ (w : Option Word). told the_whole w octets (reports.telemetry_rows profile w octets)) e)
    (telemetry_then profile octets fault (reports.is_idle octets) refl)
    (telemetry_fault profile octets fault all.judged.read are all.judged.says (sym e ∙ all.judged.is) not_data)

last_never : (profile : Profile) (octets : List ℕ) (idle : Bool) → HasFault words.Data octets (last_of profile words.Data octets idle)
last_never profile octets true = refl
last_never profile octets false = refl

telemetry_contents : (profile : Profile) (octets : List ℕ) (lines : List Line) → (all : reports.TelemetryTold the_whole profile octets lines)
    → all.word ≡ Some words.Data → EndsAt the_whole words.Data octets (reports.telemetry_rows profile (Some words.Data) octets) lines
telemetry_contents profile octets lines all e =
    let rows : List Row = reports.telemetry_rows profile (Some words.Data) octets in
    let last : List Row = last_of profile words.Data octets (reports.is_idle octets) in
    let never : HasFault words.Data octets rows =
    subst (λ (l : List Row). HasFault words.Data octets l) (sym (telemetry_then profile octets words.Data (reports.is_idle octets) refl))
    (behind words.Data octets (telemetry_fields profile octets) last (last_never profile octets (reports.is_idle octets))) in
    ends_in words.Data octets rows [] rows lines
    (all.fields ∙ ap (λ (w : Option Word). told the_whole w octets (reports.telemetry_rows profile w octets)) e) (sym (append-nil rows)) never

telemetry_faults : (profile : Profile) (octets : List ℕ) (lines : List Line) → AreOctets octets
    → reports.TelemetryTold the_whole profile octets lines → TelemetryFaults profile octets lines
telemetry_faults profile octets lines are all = record {
  word = all.word;
  judged = all.judged;
  ends = telemetry_ends profile octets lines are all;
  contents = telemetry_contents profile octets lines all;
  taken = λ e. none_in octets (reports.telemetry_rows profile None octets) lines
      (all.fields ∙ ap (λ (w : Option Word). told the_whole w octets (reports.telemetry_rows profile w octets)) e);
}

-- ---- each layer

packet_faults : (request : Bool) (profile : Profile) (octets : List ℕ) (lines : List Line) → AreOctets octets
    → reports.PacketToldAs request the_whole profile octets lines → PacketFaultsAs request profile octets lines
packet_faults true profile octets lines are all = telecommand_faults profile octets lines are all
packet_faults false profile octets lines are all = telemetry_faults profile octets lines are all

layer_faults : (profile : Profile) (layer : Layer) (octets : List ℕ) (lines : List Line) → AreOctets octets → Decodes profile layer octets lines
    → FaultsTold profile layer octets lines
layer_faults profile layers.Frame octets lines are all = frame_faults profile octets lines are all
layer_faults profile layers.Cltu octets lines are all = tt
layer_faults profile layers.Packet octets lines are all = packet_faults (reports.is_request octets) profile octets lines are all
layer_faults profile layers.Tm octets lines are all = tm_faults profile octets lines are all

if_known : {A E : Type 0} (profile : Profile) (layer : Layer) (octets : List ℕ) (read : Result (Vec Line A) E) → AreOctets octets
    → IfOk read (λ lines. Decodes profile layer octets lines.items) → IfOk read (λ lines. FaultsTold profile layer octets lines.items)
if_known profile layer octets (Ok lines) are all = layer_faults profile layer octets lines.items are all
if_known profile layer octets (Err error) are all = tt

pub if_faults : {A E : Type 0} (profile : Profile) (layer known : Layer) (octets : List ℕ) (read : Result (Vec Line A) E) → layer ≡ known
    → AreOctets octets → IfOk read (λ lines. Decodes profile known octets lines.items)
    → IfOk read (λ lines. FaultsTold profile layer octets lines.items)
if_faults profile layer known octets read e are all =
    subst (λ (l : Layer). IfOk read (λ lines. FaultsTold profile l octets lines.items)) (sym e) (if_known profile known octets read are all)
