use Rattle.std.proofs.Common.{◌≡◌, ◌≤◌, ◌-◌, length, take}
use Rattle.std.specs.Io.KnownBytes.{Appends}
use Rattle.tc_types.specs.Counts.{counts_of, inner_of, no_counts}
use Rattle.tc_front.proofs.write.write_whole.Given as goal

-- So many bytes went out, and a writer that counted nothing before counts nothing: no write failed.
abbrev pub invariant-loop-done : goal.invariant-loop-done
invariant-loop-done g l = record {
  within : l.done ≤ length l.bytes;
  written : Appends (g.W.Write.contents (inner_of l.fn.writer)) (g.W.Write.contents (inner_of l.writer)) (take l.done l.bytes);
  counts : counts_of l.fn.writer ≡ no_counts → counts_of l.writer ≡ no_counts;
}

abbrev pub decreases-loop-done : goal.decreases-loop-done
decreases-loop-done g l = length l.bytes - l.done
