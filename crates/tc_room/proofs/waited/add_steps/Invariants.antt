use Rattle.std.proofs.Common.{◌≡◌, ◌++◌, drop, take}
use Rattle.std.specs.String.{string_bytes}
use Rattle.tc_room.specs.Replies.{AreLines, ended, steps_told}
use Rattle.tc_room.proofs.waited.add_steps.Given as goal

-- What is written so far, and what the steps left will add, are the reply before and all of them; and no line so far has an LF in it.
abbrev pub invariant-loop-step : goal.invariant-loop-step
invariant-loop-step l = record {
  added : string_bytes l.reply ++ ended (steps_told l.name (drop l.step-index l.steps)) ≡ string_bytes l.fn.reply ++ ended (steps_told l.name l.steps);
  lines : AreLines (steps_told l.name (take l.step-index l.steps));
}
