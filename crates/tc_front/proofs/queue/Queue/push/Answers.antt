use Rattle.tc_front.specs.Front.{Asked, IsDecided}
use Rattle.tc_front.specs.declared.queue.Whole.{Whole}
use Rattle.tc_front.proofs.QueueLemmas.{all_put}
use Rattle.tc_front.proofs.queue.Queue.push.Goals as goal

pub invariant_of-self : goal.invariant_of-self
invariant_of-self c =
    all_put (λ (whole : Whole). (asked : Asked) × IsDecided whole.text.items asked) c.push_back.result c.self.inside.waiting.items c.push_back.new.self.items _
    c.push_back.ensures.items c.self.invariant (rw c.into_text-text.ensures c.requires)
