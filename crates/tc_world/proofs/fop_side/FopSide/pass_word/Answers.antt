-- The word was heard.
use Rattle.tc_world.proofs.CarryLemmas.{reads_from}
use Rattle.tc_world.proofs.fop_side.FopSide.pass_word.Goals as goal

pub returns-clause-heard : goal.returns-clause-heard
returns-clause-heard g c = record {
  heard = c.read.result;
  out = c.clcw_reserved-out.result;
  reads = reads_from c.args.word c.args.vc c.read.result c.read.ensures.valid c.read.ensures.back c.read.ensures.channel c.read.ensures.again;
  answers = rw (← c.carry.ensures.machine) at c.clcw_reserved-out.ensures.answers;
  frames = c.carry.ensures.frames;
  log = c.carry.ensures.log;
  answered = rw (c.push_reserved.ensures.items, c.requires.answer.0) at c.carry.ensures.answer;
}
