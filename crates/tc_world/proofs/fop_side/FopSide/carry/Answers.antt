-- What was written down was marked.
use Rattle.std.proofs.Common.{rules}
use Rattle.tc_world.proofs.MarkLemmas.{marks_noted}
use Rattle.tc_world.proofs.fop_side.FopSide.carry.Goals as goal

pub returns-clause-within : goal.returns-clause-within
returns-clause-within g c = record {
  marks = λ earlier marked. marks_noted earlier c.args.self.now.newest.log c.note.new.self.log c.args.out.now c.mark_sent.new.marks.items c.note.ensures
      (rw c.indications-2.ensures.value at (c.mark_sent.ensures _ marked));
  most = search rules;
}
