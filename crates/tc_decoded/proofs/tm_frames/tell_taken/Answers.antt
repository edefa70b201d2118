-- The header, the data field, and what closes the frame.
use Rattle.std.proofs.Common.{List, ◌+◌, ◌++◌, ◌∙◌, ap, length}
use Rattle.std.proofs.lemmas.Result.{on_ok_weaker}
use Rattle.tc_decoded.specs.Tables.{frame_check}
use Rattle.tc_decoded.specs.TmFrameLines.{word_rows}
use Rattle.tc_decoded.specs.declared.rows.Row.{Row}
use Rattle.tc_decoded.proofs.FrameAddedLemmas.{taken_told}
use Rattle.tc_decoded.proofs.tm_frames.tell_taken.Goals as goal

pub returns : goal.returns
returns g c =
    let frame = c.args.frame.now in
    let word_is = c.in_ok-put_word.ensures
    ∙ ap (λ (l : List Row). l ++ word_rows frame.word (6 + length frame.«data».now)) c.new-rows.ensures.items in
    let closing_is = c.deref.ensures.value ∙ c.in_ok-put_frame_check.ensures
    ∙ ap (λ (l : List Row). l ++ frame_check c.args.profile.now.tm.fecf c.args.octets.now) word_is in
    on_ok_weaker c.tell-2.result
    (λ last. taken_told c.whole-whole.result c.later.result c.args.profile.now c.args.octets.now frame c.header_rows.result c.deref.result.now
    c.args.out.now.items c.tell.new.out.items c.tell_content.new.out.items c.tell-2.new.out.items c.whole-whole.ensures c.header_rows.ensures
    c.later.ensures closing_is c.in_ok-tell.ensures c.in_ok-tell_content.ensures last)
    c.tell-2.ensures
