use Rattle.std.proofs.Common.{List}
use Rattle.tc_copy.specs.Asked.{Asked}
use Rattle.tc_copy.specs.Tries.{AreInVain}
use Rattle.tc_copy.proofs.copying.copy_files.Given as goal

abbrev pub invariant-loop-tried : goal.invariant-loop-tried
invariant-loop-tried g l = (asked : List Asked) × g.D.DeskFiles.asks l.fn.files asked l.files × AreInVain l.tried l.reading asked
