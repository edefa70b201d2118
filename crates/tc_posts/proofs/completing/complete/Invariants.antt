use Rattle.std.proofs.Common.{◌++◌, List}
use Rattle.tc_posts.specs.Completing.{Completes}
use Rattle.tc_posts.specs.Steps.{Step}
use Rattle.tc_posts.specs.Told.{Answer, answer_of}
use Rattle.tc_posts.proofs.CompletingLemmas.{work_left}
use Rattle.tc_posts.proofs.completing.complete.Given as goal

-- what completes the reply from here on completes it from the begin, after the steps that were made
abbrev pub invariant-loop-told : goal.invariant-loop-told
invariant-loop-told g l = (steps : List Step) × g.C.Client.did l.fn.client steps l.client
    × ((rest : List Step) (last : Answer) → Completes l.fn.port (answer_of l.told) rest last → Completes l.fn.port (answer_of l.initial.told) (steps ++ rest) last)

abbrev pub decreases-loop-told : goal.decreases-loop-told
decreases-loop-told g l = work_left (answer_of l.told)
