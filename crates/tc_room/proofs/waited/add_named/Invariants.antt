use Rattle.std.proofs.Common.{◌≡◌, ◌++◌, drop, map, take}
use Rattle.std.specs.String.{string_bytes}
use Rattle.tc_desk.specs.Replies.{named_request}
use Rattle.tc_room.specs.Replies.{AreLines, ended}
use Rattle.tc_room.proofs.waited.add_named.Given as goal

-- What is written so far, and what the requests left will add, are the reply before and all of them; and no line so far has an LF in it.
abbrev pub invariant-loop-request : goal.invariant-loop-request
invariant-loop-request l = record {
  added : string_bytes l.reply ++ ended (map named_request (drop l.request-index l.found)) ≡ string_bytes l.fn.reply ++ ended (map named_request l.found);
  lines : AreLines (map named_request (take l.request-index l.found));
}
