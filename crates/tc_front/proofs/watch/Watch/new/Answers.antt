use Rattle.std.proofs.Common.{refl, take}
use Rattle.tc_front.proofs.WantedLemmas.{watches_nothing}
use Rattle.tc_front.proofs.watch.Watch.new.Goals as goal

pub returns : goal.returns
returns c = λ text. watches_nothing (record { search = c.new.result; wanted = 1 }) text (c.new.ensures (take 8192 text)) refl
