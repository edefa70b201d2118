use Rattle.std.proofs.Common.{◌-◌, ◌<◌, ◌≤◌, length}
use Rattle.std.specs.Io.KnownBytes.{Consumes}
use Rattle.tc_types.specs.Counts.{counts_of, inner_of}
use Rattle.tc_front.specs.Front.{Waits}
use Rattle.tc_front.specs.Read.{CanGoOn}
use Rattle.tc_front.specs.Watch.{Watches}
use Rattle.tc_front.proofs.read.read_front.Given as goal

-- The text is what was taken from the reader so far, and decides nothing; no read failed or ended, and each gave a byte at least.
abbrev pub invariant-reads : goal.invariant-reads
invariant-reads g l = record {
  taken : Consumes (g.R.Read.remaining (inner_of l.fn.reader)) (g.R.Read.remaining (inner_of l.reader)) l.text.items;
  waiting : Waits l.text.items;
  watched : Watches l.watch l.text.items;
  short : length l.text.items < 73728;
  longer : (counts_of l.reader).reads ≤ length l.text.items;
  going : CanGoOn (counts_of l.reader);
}

-- The bytes that are left before the text decides.
abbrev pub decreases-reads : goal.decreases-reads
decreases-reads g l = 73728 - length l.text.items
