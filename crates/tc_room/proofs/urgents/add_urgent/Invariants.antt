use Rattle.std.proofs.Common.{◌≡◌, ◌++◌, drop, map, take}
use Rattle.std.specs.String.{string_bytes}
use Rattle.tc_urgent.specs.Texts.{urgent_text}
use Rattle.tc_room.specs.Replies.{AreLines, ended}
use Rattle.tc_room.proofs.urgents.add_urgent.Given as goal

-- What is written so far, and what the things left will add, are the reply before and all of them; and no line so far has an LF in it.
abbrev pub invariant-loop-one : goal.invariant-loop-one
invariant-loop-one l = record {
  added : string_bytes l.reply ++ ended (map urgent_text (drop l.one-index l.shown)) ≡ string_bytes l.fn.reply ++ ended (map urgent_text l.shown);
  lines : AreLines (map urgent_text (take l.one-index l.shown));
}
