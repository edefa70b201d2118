use Rattle.tc_fop.proofs.FrameLemmas.{words_frames, ticks_frames, offers_frames}
use Rattle.tc_fop.proofs.laws.sends_queued_frames.Goals as goal

pub returns-clause-words : goal.returns-clause-words
returns-clause-words c = words_frames

pub returns-clause-ticks : goal.returns-clause-ticks
returns-clause-ticks c = ticks_frames

pub returns-clause-offers : goal.returns-clause-offers
returns-clause-offers c = offers_frames
