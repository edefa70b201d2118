-- What the code keeps, as the machine has it.
use Rattle.std.specs.Prelude.{false}
use Rattle.tc_fop.specs.declared.queues.Offer.{Offer}
use Rattle.tc_fop.specs.declared.queues.Outstanding.{Outstanding}
use Rattle.tc_fop.specs.Machine.{Waiting, Held}

-- between actions no flag is set
abbrev pub held_of : Outstanding → Held
held_of sent = record { ns = sent.ns; request = sent.request; body = sent.body; flagged = false }

abbrev pub waiting_of : Offer → Waiting
waiting_of offer = record { request = offer.request; body = offer.body }
