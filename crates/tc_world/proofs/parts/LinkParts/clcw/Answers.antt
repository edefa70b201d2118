-- The word that was put is that of the FARM on this channel.
use Rattle.std.proofs.Common.{refl}
use Rattle.tc_world.proofs.parts.LinkParts.clcw.Goals as goal

pub returns-clause-happens : goal.returns-clause-happens
returns-clause-happens g c = rw (← c.self.view_is) (
  c.control_word-clcw.result,
  c.control_word-clcw.ensures,
  record {
    ready = c.reserve.new.self;
    readied = c.reserve.ensures.readied;
    put = rw c.word.ensures at c.put.ensures.put;
    whole = refl;
    answered = c.none.ensures;
  },
)
