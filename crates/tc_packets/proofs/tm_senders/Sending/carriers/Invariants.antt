use Rattle.std.proofs.Common.{◌≡◌, map}
use Rattle.std.specs.List.{range_with_len}
use Rattle.tc_octets.specs.TmFrames.{tm_frame_of}
use Rattle.tc_packets.specs.Carriers.{carrying, octets_of}
use Rattle.tc_packets.proofs.tm_senders.Sending.carriers.Given as goal

-- the frames so far
abbrev pub invariant-loop-count : goal.invariant-loop-count
invariant-loop-count g l =
    map octets_of l.frames.items
    ≡ map (λ frame. tm_frame_of l.self.profile.now frame)
    (map (carrying l.self.profile.now l.self.sender l.self.word l.octets l.places) (range_with_len 0 l.count))
