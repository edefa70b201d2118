use Rattle.std.proofs.lemmas.List.Elements.{All-drop, All-same}
use Rattle.tc_front.specs.Front.{Asked, IsDecided}
use Rattle.tc_front.specs.declared.queue.Whole.{Whole}
use Rattle.tc_front.proofs.queue.Queue.pop.Goals as goal

pub invariant_of-self : goal.invariant_of-self
invariant_of-self c =
    All-same (λ (whole : Whole). (asked : Asked) × IsDecided whole.text.items asked) _ _ c.pop_front.ensures.rest
    (All-drop (λ (whole : Whole). (asked : Asked) × IsDecided whole.text.items asked) 1 c.self.inside.waiting.items c.self.invariant)
