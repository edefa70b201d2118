use Rattle.std.proofs.Common.{◌≡◌, ◌++◌, drop, map, take}
use Rattle.std.specs.String.{string_bytes}
use Rattle.tc_types.specs.WaitingLines.{waiting_line}
use Rattle.tc_room.specs.Replies.{AreLines, ended}
use Rattle.tc_room.proofs.waited.add_waiting.Given as goal

-- What is written so far, and what the things left will add, are the reply before and all of them; and no line so far has an LF in it.
abbrev pub invariant-loop-one : goal.invariant-loop-one
invariant-loop-one l = record {
  added : string_bytes l.reply ++ ended (map waiting_line (drop l.one-index l.waiting)) ≡ string_bytes l.fn.reply ++ ended (map waiting_line l.waiting);
  lines : AreLines (map waiting_line (take l.one-index l.waiting));
}
