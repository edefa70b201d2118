use Rattle.std.proofs.Common.{◌≡◌, map, take}
use Rattle.std.specs.String.{string_bytes}
use Rattle.tc_posts.specs.Posting.{ascii}
use Rattle.tc_posts.proofs.posting.sent.Given as goal

abbrev pub invariant-loop-byte : goal.invariant-loop-byte
invariant-loop-byte l = string_bytes l.sent ≡ map ascii (take l.byte-index l.shown)
