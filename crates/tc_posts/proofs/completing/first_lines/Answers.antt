use Rattle.std.proofs.Common.{sym}
use Rattle.std.proofs.lemmas.List.{take-map}
use Rattle.serde_json.specs.View.{view}
use Rattle.tc_posts.proofs.completing.first_lines.Goals as goal

pub returns : goal.returns
returns c = rw c.first_of.ensures (sym (take-map view c.args.most c.args.lines.now))
