-- One that has ended.
use Rattle.std.proofs.Common.{sym, ◌∙◌, ap}
use Rattle.tc_types.specs.Lawful.{final_places, is_among}
use Rattle.tc_urgent.proofs.SilentLemmas.{no_open_insert}
use Rattle.tc_urgent.proofs.inserts.open_insert.Goals as goal

pub returns-then-is_final : goal.returns-then-is_final
returns-then-is_final g c = no_open_insert c.args.book.now.book c.args.n c.requires (ap (is_among final_places) (sym c.place_of.ensures) ∙ sym c.is_final.ensures ∙ c.if-is_final.true)
