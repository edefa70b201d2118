use Rattle.std.proofs.Common.{◌≡◌, ◌≤◌, ◌*◌, vec_len}
use Rattle.std.specs.Io.KnownBytes.{Consumes}
use Rattle.tc_types.specs.Counts.{counts_of, inner_of}
use Rattle.tc_closed.proofs.scripts.read_script.Given as goal

-- The text is what was taken from the reader so far, and is no longer than a script may be; each turn was one read.
abbrev pub invariant-loop : goal.invariant-loop
invariant-loop g l = record {
  taken : Consumes (g.R.Read.remaining (inner_of l.fn.reader)) (g.R.Read.remaining (inner_of l.reader)) l.text.items;
  short : vec_len l.text ≤ 1048576;
  each : vec_len l.text ≤ 4096 * l.counter;
  counts : counts_of l.reader ≡ record { reads = l.counter; faults = 0; ends = 0 };
}
