-- The word is the reader's, and the fields are told by it.
use Rattle.std.proofs.Common.{true, false, ◌∙◌, sym}
use Rattle.std.proofs.lemmas.Result.{on_ok_weaker}
use Rattle.tc_decoded.proofs.AddedLemmas.{fields_told, telecommand_told}
use Rattle.tc_decoded.proofs.inserts.tell_telecommand.Goals as goal

pub returns-then-is_insert : goal.returns-then-is_insert
returns-then-is_insert g c =
    on_ok_weaker c.tell_insert.result
    (λ added. telecommand_told true c.args.place.now c.telecommand_word-word.result c.args.profile.now c.args.octets.now c.args.out.now.items
    c.tell_insert.new.out.items (sym c.is_insert.ensures ∙ c.if-is_insert.true) c.telecommand_word-word.ensures added)
    c.tell_insert.ensures

pub returns : goal.returns
returns g c =
    on_ok_weaker c.tell_fields.result
    (λ added. telecommand_told false c.args.place.now c.telecommand_word-word.result c.args.profile.now c.args.octets.now c.args.out.now.items
    c.tell_fields.new.out.items (sym c.is_insert.ensures ∙ c.if-is_insert.false) c.telecommand_word-word.ensures
    (fields_told c.args.place.now c.telecommand_word-word.result c.args.profile.now c.args.octets.now c.args.out.now.items
    c.tell_fields.new.out.items added))
    c.tell_fields.ensures
