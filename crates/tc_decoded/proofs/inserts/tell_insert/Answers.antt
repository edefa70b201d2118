-- The fields, the activities, and what closes the packet.
use Rattle.std.proofs.Common.{List, ◌++◌, ◌∙◌, ap, take, drop}
use Rattle.std.proofs.lemmas.Result.{on_ok_weaker}
use Rattle.tc_decoded.specs.Telecommands.{closing_rows, data_rows, headers}
use Rattle.tc_decoded.specs.declared.rows.Row.{Row}
use Rattle.tc_decoded.proofs.AddedLemmas.{inserted_told}
use Rattle.tc_decoded.proofs.inserts.tell_insert.Goals as goal

pub returns : goal.returns
returns g c =
    let headers_are = c.in_ok-put_headers.ensures
    ∙ ap (λ (l : List Row). l ++ headers c.args.profile.now c.args.octets.now) c.new-rows.ensures.items in
    let rows_are = c.deref.ensures.value ∙ c.in_ok-put_data.ensures
    ∙ ap (λ (l : List Row). l ++ data_rows c.args.profile.now c.args.octets.now) headers_are in
    let closing_are = c.deref-2.ensures.value ∙ c.in_ok-put_closing.ensures
    ∙ ap (λ (l : List Row). l ++ closing_rows c.args.word c.args.octets.now) c.new-rows-2.ensures.items in
    on_ok_weaker c.tell-2.result
    (λ last. inserted_told c.args.place.now c.later.result c.args.word c.args.profile.now c.args.octets.now c.octets_within-inserted.result.now
    c.octet_at-number.result c.deref.result.now c.deref-2.result.now c.args.out.now.items c.tell.new.out.items c.tell_activities.new.out.items
    c.tell-2.new.out.items rows_are c.octet_at-number.ensures.value c.later.ensures (c.octets_within-inserted.ensures ∙ ap (λ k. take k (drop 12 c.args.octets.now)) c.saturating_sub.ensures) closing_are
    c.in_ok-tell.ensures c.in_ok-tell_activities.ensures last)
    c.tell-2.ensures
