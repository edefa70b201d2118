-- Lines that were added in parts.
use Rattle.std.proofs.Common.{◌≡◌, ℕ, zero, suc, ◌-◌, Bool, true, false, List, [], ◌∷◌, ◌++◌, take, drop, refl, sym, ap, ◌∙◌, subst, arith}
use Rattle.std.specs.Prelude.{Option, Some, slice_index}
use Rattle.std.proofs.lemmas.List.{append_assoc, append-nil}
use Rattle.tc_octets.specs.declared.profiles.Profile.{Profile}
use Rattle.tc_packets.specs.SpacePackets.{whole_length_in}
use Rattle.tc_packets.specs.Times.{time_length}
use Rattle.tc_decoded.specs.declared.lines.Line.{Line}
use Rattle.tc_decoded.specs.declared.places.Place.{Place}
use Rattle.tc_decoded.specs.declared.rows.Row.{Row}
use Rattle.tc_decoded.specs.declared.rows.Word.{Word}
use Rattle.tc_decoded.specs.declared.rows.Word.TheVariants as words
use Rattle.tc_decoded.specs.Added.{Added, Encloses}
use Rattle.tc_decoded.specs.Places.{later}
use Rattle.tc_decoded.specs.ReportLines.{TelemetryTold, telemetry_rows}
use Rattle.tc_decoded.specs.ReportLines as reports
use Rattle.tc_decoded.specs.Rows.{told}
use Rattle.tc_decoded.specs.Tables.{time_rows}
use Rattle.tc_decoded.specs.Telecommands.{ActivitiesTold, ActivityLines, ActivityTold, FieldsTold, Judged, TelecommandTold, activity_length, activity_packet}
use Rattle.tc_decoded.specs.Telecommands.{activity_packet_lines, closing_rows, cut_row, data_rows, headers, inserted, is_cut, is_insert}

-- two parts, and three
pub two : (before middle after a b : List Line) → middle ≡ before ++ a → after ≡ middle ++ b → after ≡ before ++ (a ++ b)
two before middle after a b first second = second ∙ ap (λ (l : List Line). l ++ b) first ∙ append_assoc before a b

pub three : (before middle later_lines after a b c : List Line) → middle ≡ before ++ a → later_lines ≡ middle ++ b → after ≡ later_lines ++ c
    → after ≡ before ++ (a ++ b ++ c)
three before middle later_lines after a b c first second third =
    two before later_lines after (a ++ b) c (two before middle later_lines a b first second) third

-- a layer around another
pub enclosed : (place : Place) (word : Option Word) (octets : List ℕ) (rows closing first last : List Row) (Told Inside : List Line → Type 0)
    (before middle later_lines after : List Line) → rows ≡ first → closing ≡ last → ((lines : List Line) → Told lines → Inside lines)
    → middle ≡ before ++ told place word octets rows → Added Told middle later_lines → after ≡ later_lines ++ told place word octets closing
    → Added (Encloses place word octets first Inside last) before after
enclosed place word octets rows closing first last Told Inside before middle later_lines after r c same begins inner ends =
    record {
      lines = told place word octets first ++ inner.lines ++ told place word octets last;
      after =
          three before middle later_lines after (told place word octets first) inner.lines (told place word octets last)
          (begins ∙ ap (λ (l : List Row). before ++ told place word octets l) r) inner.after
          (ends ∙ ap (λ (l : List Row). later_lines ++ told place word octets l) c);
      holds = (inner.lines, same inner.lines inner.holds, refl);
    }

-- ---- activities

pub activity : (place there : Place) (word inner : Option Word) (profile : Profile) (octets packet : List ℕ) (time number : ℕ)
    (before middle after : List Line) → time ≡ time_length profile → number ≡ activity_length profile octets
    → packet ≡ take (number - time) (drop time octets) → there ≡ later place time
    → Judged profile packet inner → middle ≡ before ++ told place word octets (time_rows profile 0)
    → after ≡ middle ++ activity_packet_lines there inner profile packet → Added (ActivityLines place word profile octets) before after
activity place there word inner profile octets packet time number before middle after t n p l judged first second =
    let size : number - time ≡ whole_length_in (drop (time_length profile) octets) = omega (arith, t, n) in
    let packet_is : packet ≡ activity_packet profile octets =
    p ∙ ap (λ (k : ℕ). take k (drop time octets)) size
    ∙ ap (λ (k : ℕ). take (whole_length_in (drop (time_length profile) octets)) (drop k octets)) t in
    let there_is : there ≡ later place (time_length profile) = l ∙ ap (λ (k : ℕ). later place k) t in
    let lines_are : activity_packet_lines there inner profile packet
    ≡ activity_packet_lines (later place (time_length profile)) inner profile (activity_packet profile octets) =
    ap (λ (q : Place). activity_packet_lines q inner profile packet) there_is
    ∙ ap (λ (o : List ℕ). activity_packet_lines (later place (time_length profile)) inner profile o) packet_is in
    record {
      lines = told place word octets (time_rows profile 0)
          ++ activity_packet_lines (later place (time_length profile)) inner profile (activity_packet profile octets);
      after =
          two before middle after (told place word octets (time_rows profile 0))
          (activity_packet_lines (later place (time_length profile)) inner profile (activity_packet profile octets)) first
          (second ∙ ap (λ (l : List Line). middle ++ l) lines_are);
      holds = record { inner = inner; judged = subst (λ (o : List ℕ). Judged profile o inner) packet_is judged; both = refl };
    }

-- ---- telemetry packets

pub telemetry : (place : Place) (word : Option Word) (profile : Profile) (octets : List ℕ) (rows : List Row) (before after : List Line)
    → reports.Judged profile octets word → rows ≡ [] ++ telemetry_rows profile word octets → after ≡ before ++ told place word octets rows
    → Added (TelemetryTold place profile octets) before after
telemetry place word profile octets rows before after judged same added =
    record {
      lines = told place word octets rows;
      after = added;
      holds = record { word = word; judged = judged; fields = ap (told place word octets) same };
    }

-- ---- so many activities

pub activities_none : (number : ℕ) (place : Place) (word : Option Word) (profile : Profile) (octets : List ℕ) (lines : List Line) → number ≡ 0
    → Added (ActivitiesTold number place word profile octets) lines lines
activities_none zero place word profile octets lines none = record { lines = []; after = sym (append-nil lines); holds = refl }
activities_none (suc number) place word profile octets lines none = absurd (omega (arith, none))

pub activities_cut : (number : ℕ) (place : Place) (word : Option Word) (profile : Profile) (octets : List ℕ) (before after : List Line)
    → (number ≡ 0 → ⊥) → is_cut profile octets ≡ true
    → after ≡ before ++ told place (Some words.Data) octets (cut_row profile octets ∷ [])
    → Added (ActivitiesTold number place word profile octets) before after
activities_cut zero place word profile octets before after some cut added = absurd (some refl)
activities_cut (suc number) place word profile octets before after some cut added =
    let Others : List Line → Type 0 =
    ActivitiesTold number (later place (activity_length profile octets)) word profile (drop (activity_length profile octets) octets) in
    let lines : List Line = told place (Some words.Data) octets (cut_row profile octets ∷ []) in
    record { lines = lines; after = added; holds = subst (λ (b : Bool). ActivityTold b place word profile octets Others lines) (sym cut) refl }

pub activities_more : (number : ℕ) (place there : Place) (word : Option Word) (profile : Profile) (octets rest : List ℕ)
    (before middle after : List Line) → (number ≡ 0 → ⊥) → is_cut profile octets ≡ false → there ≡ later place (activity_length profile octets)
    → rest ≡ drop (activity_length profile octets) octets → Added (ActivityLines place word profile octets) before middle
    → Added (ActivitiesTold (number - 1) there word profile rest) middle after
    → Added (ActivitiesTold number place word profile octets) before after
activities_more zero place there word profile octets rest before middle after some cut t r first others = absurd (some refl)
activities_more (suc number) place there word profile octets rest before middle after some cut t r first others =
    let Others : List Line → Type 0 =
    ActivitiesTold number (later place (activity_length profile octets)) word profile (drop (activity_length profile octets) octets) in
    let one_fewer : suc number - 1 ≡ number = omega arith in
    let told_others : Others others.lines =
    subst (λ (q : Place). ActivitiesTold number q word profile (drop (activity_length profile octets) octets) others.lines) t
    (subst (λ (o : List ℕ). ActivitiesTold number there word profile o others.lines) r
    (subst (λ (k : ℕ). ActivitiesTold k there word profile rest others.lines) one_fewer others.holds)) in
    record {
      lines = first.lines ++ others.lines;
      after = two before middle after first.lines others.lines first.after others.after;
      holds =
          subst (λ (b : Bool). ActivityTold b place word profile octets Others (first.lines ++ others.lines)) (sym cut)
          (first.lines, others.lines, first.holds, told_others, refl);
    }

-- ---- telecommand packets

pub inserted_told : (place there : Place) (word : Option Word) (profile : Profile) (octets inner : List ℕ) (number : ℕ) (rows closing : List Row)
    (before middle later_lines after : List Line) → rows ≡ headers profile octets ++ data_rows profile octets
    → number ≡ slice_index octets 11 → there ≡ later place 12 → inner ≡ inserted octets → closing ≡ closing_rows word octets
    → middle ≡ before ++ told place word octets rows → Added (ActivitiesTold number there word profile inner) middle later_lines
    → after ≡ later_lines ++ told place word octets closing → Added (FieldsTold true place word profile octets) before after
inserted_told place there word profile octets inner number rows closing before middle later_lines after r n t i c first activities last =
    enclosed place word octets rows closing (headers profile octets ++ data_rows profile octets) (closing_rows word octets)
    (ActivitiesTold number there word profile inner)
    (ActivitiesTold (slice_index octets 11) (later place 12) word profile (inserted octets))
    before middle later_lines after r c
    (λ lines holds. subst (λ (k : ℕ). ActivitiesTold k (later place 12) word profile (inserted octets) lines) n
    (subst (λ (q : Place). ActivitiesTold number q word profile (inserted octets) lines) t
    (subst (λ (o : List ℕ). ActivitiesTold number there word profile o lines) i holds)))
    first activities last

pub telecommand_told : (insert : Bool) (place : Place) (word : Option Word) (profile : Profile) (octets : List ℕ) (before after : List Line)
    → is_insert word octets ≡ insert → Judged profile octets word → Added (FieldsTold insert place word profile octets) before after
    → Added (TelecommandTold place profile octets) before after
telecommand_told insert place word profile octets before after is judged added =
    record {
      lines = added.lines;
      after = added.after;
      holds =
          record {
            word = word;
            judged = judged;
            fields = subst (λ (b : Bool). FieldsTold b place word profile octets added.lines) (sym is) added.holds;
          };
    }

pub fields_told : (place : Place) (word : Option Word) (profile : Profile) (octets : List ℕ) (before after : List Line)
    → after ≡ before ++ told place word octets (headers profile octets ++ data_rows profile octets ++ closing_rows word octets)
    → Added (FieldsTold false place word profile octets) before after
fields_told place word profile octets before after added =
    record {
      lines = told place word octets (headers profile octets ++ data_rows profile octets ++ closing_rows word octets);
      after = added;
      holds = refl;
    }

-- ---- any packet

pub packet_told : (request : Bool) (place : Place) (profile : Profile) (octets : List ℕ) (before after : List Line)
    → reports.is_request octets ≡ request → Added (reports.PacketToldAs request place profile octets) before after
    → Added (reports.PacketTold place profile octets) before after
packet_told request place profile octets before after is added =
    subst (λ (b : Bool). Added (reports.PacketToldAs b place profile octets) before after) (sym is) added
