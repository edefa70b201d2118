use Rattle.std.proofs.Common.{◌≡◌}
use Rattle.tc_types.specs.Counts.{counts_of, inner_of, no_counts}
use Rattle.tc_check.specs.Scripts.{script_lines}
use Rattle.tc_run.proofs.RunLemmas.{HasRun}
use Rattle.tc_run.proofs.run.run_lines.Given as goal

abbrev pub invariant-loop-line : goal.invariant-loop-line
invariant-loop-line g l = record {
  run : HasRun g.S.Store (g.T.Watch.echoes l.fn.watch) l.fn.room (script_lines l.fn.text) (g.P.Paths.given l.fn.paths) (g.W.Write.contents (inner_of l.fn.writer)) l.room l.line-iterator (g.P.Paths.given l.paths) (g.W.Write.contents (inner_of l.writer)) l.refused;
  counts : counts_of l.fn.writer ≡ no_counts → counts_of l.writer ≡ no_counts;
}
