-- Those of the lines that are left.
use Rattle.std.proofs.Common.{◌∙◌, ap}
use Rattle.tc_view.specs.Urgents.{counts_of}
use Rattle.tc_view.proofs.urgents.left_counts.Goals as goal

pub returns : goal.returns
returns c = c.counts_of.ensures ∙ ap counts_of c.left_of.ensures
