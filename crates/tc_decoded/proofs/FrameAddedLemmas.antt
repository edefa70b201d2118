-- The lines of transfer frames, which were added in parts.
use Rattle.std.proofs.Common.{◌≡◌, ℕ, ◌+◌, true, List, ◌++◌, length, take, drop, ap, ◌∙◌, subst}
use Rattle.std.specs.Prelude.{None, Ok}
use Rattle.tc_octets.specs.TmFrames.{tm_parts}
use Rattle.tc_octets.specs.declared.profiles.Profile.{Profile}
use Rattle.tc_octets.specs.declared.tm_frames.TmFrame.{TmFrame}
use Rattle.tc_decoded.specs.declared.lines.Line.{Line}
use Rattle.tc_decoded.specs.declared.places.Place.{Place}
use Rattle.tc_decoded.specs.declared.rows.Row.{Row}
use Rattle.tc_decoded.specs.Added.{Added}
use Rattle.tc_decoded.specs.Places.{later, the_whole}
use Rattle.tc_decoded.specs.Rows.{told}
use Rattle.tc_decoded.specs.Tables.{frame_check}
use Rattle.tc_decoded.specs.TcFrameLines.{FieldsTold, closing_rows, front_rows, packet_at, packet_in, packet_length}
use Rattle.tc_decoded.specs.Telecommands.{TelecommandTold}
use Rattle.tc_decoded.specs.TmFrameLines as tm
use Rattle.tc_decoded.proofs.AddedLemmas.{enclosed}

-- ---- telecommand frames

pub carrier : (place there : Place) (profile : Profile) (octets packet : List ℕ) (begin number : ℕ) (rows closing : List Row)
    (before middle later_lines after : List Line) → rows ≡ front_rows profile octets → begin ≡ packet_at profile
    → number ≡ packet_length profile octets → packet ≡ take number (drop begin octets) → there ≡ later place begin
    → closing ≡ closing_rows profile None octets
    → middle ≡ before ++ told place None octets rows → Added (TelecommandTold there profile packet) middle later_lines
    → after ≡ later_lines ++ told place None octets closing → Added (FieldsTold true place None profile octets) before after
carrier place there profile octets packet begin number rows closing before middle later_lines after r b n p t c first inner last =
    let there_is : there ≡ later place (packet_at profile) = t ∙ ap (later place) b in
    let packet_is : packet ≡ packet_in profile octets =
    p ∙ ap (λ (k : ℕ). take k (drop begin octets)) n ∙ ap (λ (k : ℕ). take (packet_length profile octets) (drop k octets)) b in
    enclosed place None octets rows closing (front_rows profile octets) (closing_rows profile None octets) (TelecommandTold there profile packet)
    (TelecommandTold (later place (packet_at profile)) profile (packet_in profile octets))
    before middle later_lines after r c
    (λ lines holds. subst (λ (q : Place). TelecommandTold q profile (packet_in profile octets) lines) there_is
    (subst (λ (o : List ℕ). TelecommandTold there profile o lines) packet_is holds))
    first inner last

-- ---- telemetry frames

pub taken_told : (whole there : Place) (profile : Profile) (octets : List ℕ) (frame : TmFrame) (rows closing : List Row)
    (before middle later_lines after : List Line) → whole ≡ the_whole → rows ≡ tm.tm_header_rows profile octets → there ≡ later whole 6
    → closing ≡ tm.word_rows frame.word (6 + length frame.«data».now) ++ frame_check profile.tm.fecf octets
    → middle ≡ before ++ told whole None octets rows
    → Added (tm.DataTold (tm.has_packets profile (tm_parts frame)) there profile (tm_parts frame)) middle later_lines
    → after ≡ later_lines ++ told whole None octets closing
    → Added (tm.FieldsTold the_whole profile octets (Ok frame)) before after
taken_told whole there profile octets frame rows closing before middle later_lines after w r t c first content last =
    subst (λ (q : Place). Added (tm.FieldsTold q profile octets (Ok frame)) before after) w
    (enclosed whole None octets rows closing (tm.tm_header_rows profile octets)
    (tm.word_rows frame.word (6 + length frame.«data».now) ++ frame_check profile.tm.fecf octets)
    (tm.DataTold (tm.has_packets profile (tm_parts frame)) there profile (tm_parts frame))
    (tm.DataTold (tm.has_packets profile (tm_parts frame)) (later whole 6) profile (tm_parts frame))
    before middle later_lines after r c
    (λ lines holds. subst (λ (q : Place). tm.DataTold (tm.has_packets profile (tm_parts frame)) q profile (tm_parts frame) lines) t holds)
    first content last)
