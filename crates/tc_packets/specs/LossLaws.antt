-- What comes of packets if whole frames are lost.
use Rattle.std.specs.Prelude.{◌≡◌, ℕ, ◌+◌, ◌/◌, ◌%◌, ◌^◌, ◌<◌, Some, if◌then◌else◌, Bool, true, false, List, [], ◌∷◌, length, get_or}
use Rattle.std.specs.List.{AllByRecursion, list_all, range_with_len}
use Rattle.tc_octets.specs.TmFrames.{TmParts}
use Rattle.tc_octets.specs.declared.profiles.Profile.{Profile}
use Rattle.tc_packets.specs.Carriers.{data_length, filled, frames_of}
use Rattle.tc_packets.specs.CarrierLaws.{Awaits, ComesBack, IsPacket, is_idle, reports_in, run}
use Rattle.tc_packets.specs.Receivers.{Given, Receiver, cut, gap, packet, skipped}
use Rattle.tc_packets.specs.declared.tm_senders.TmSender.{TmSender}

-- the frames that came, by whether each did
abbrev pub kept : List Bool → List TmParts → List TmParts
kept [] frames = []
kept (came ∷ more) [] = []
kept (came ∷ more) (frame ∷ frames) = if came then frame ∷ kept more frames else kept more frames

-- Fewer than 256 frames are lost in a row, if so many were lost just before.
abbrev pub FewLost : ℕ → List Bool → Type 0
FewLost lost [] = lost < 2 ^ 8
FewLost lost (true ∷ more) = (lost < 2 ^ 8) × FewLost 0 more
FewLost lost (false ∷ more) = FewLost (lost + 1) more

-- how many frames were lost last, if so many were lost just before
abbrev pub lost_after : ℕ → List Bool → ℕ
lost_after lost [] = lost
lost_after lost (true ∷ more) = lost_after 0 more
lost_after lost (false ∷ more) = lost_after (lost + 1) more

-- A receiver before the frame with this count, if so many frames were lost just before: no packet is in progress, or it expects the first of the lost
-- ones.
pub data Behind (receiver : Receiver) (count lost : ℕ) : Type 0 where
  at_rest : receiver.part ≡ [] → Behind receiver count lost
  missing : (expected : ℕ) → 0 < lost → receiver.expected ≡ Some expected → expected < 2 ^ 8 → (expected + lost) % 2 ^ 8 ≡ count % 2 ^ 8
      → Behind receiver count lost

-- whether so many octets from a place on lie in frames that came, each of which has `size` octets
abbrev pub all_came : ℕ → List Bool → ℕ → ℕ → Bool
all_came size came at octets = list_all (λ place. get_or came (place / size) false) (range_with_len at octets)

abbrev pub cons_if : Bool → List ℕ → List (List ℕ) → List (List ℕ)
cons_if chosen first more = if chosen then first ∷ more else more

-- the packets all of whose octets came, where the first packet begins at a place
abbrev pub that_came : ℕ → List Bool → ℕ → List (List ℕ) → List (List ℕ)
that_came size came at [] = []
that_came size came at (first ∷ packets) = cons_if (all_came size came at (length first)) first (that_came size came (at + length first) packets)

-- the packets among what was given
abbrev pub packets_in : List Given → List (List ℕ)
packets_in [] = []
packets_in (packet octets ∷ more) = octets ∷ packets_in more
packets_in (gap ∷ more) = packets_in more
packets_in (cut ∷ more) = packets_in more
packets_in (skipped ∷ more) = packets_in more

-- exactly those packets came all of whose octets lie in frames that came, in order; and the receiver is ready for the next list
pub record LossesShow (profile : Profile) (sender : TmSender) (word : ℕ) (packets : List (List ℕ)) (receiver : Receiver) (lost : ℕ)
    (came : List Bool) : Type 0 where
  pub packets_are : packets_in (run receiver (kept came (frames_of profile sender word packets))).given
      ≡ that_came (data_length profile) came 0 (filled (data_length profile) packets)
  pub ready : Behind (run receiver (kept came (frames_of profile sender word packets))).receiver
      (sender.channel_count + length (frames_of profile sender word packets)) (lost_after lost came)

-- What comes of a list of packets that is sent.
pub record ComesOver (profile : Profile) (sender : TmSender) (word : ℕ) (packets : List (List ℕ)) : Type 0 where
  -- It comes back with its fill, at a receiver that awaits its first frame.
  pub whole : (receiver : Receiver) → AllByRecursion IsPacket packets → Awaits receiver (sender.channel_count % 2 ^ 8)
      → ComesBack profile sender word packets receiver
  -- Without idle packets it is the list that was sent.
  pub reports : (receiver : Receiver) → AllByRecursion IsPacket packets → AllByRecursion (λ octets. is_idle octets ≡ false) packets
      → Awaits receiver (sender.channel_count % 2 ^ 8) → reports_in (run receiver (frames_of profile sender word packets)).given ≡ packets
  -- If whole frames are lost, no 256 or more in a row, exactly those packets come all of whose octets lie in frames that came. So it is of one list
  -- after the other: each leaves the receiver as the next one may find it.
  pub losses : (receiver : Receiver) (lost : ℕ) (came : List Bool) → AllByRecursion IsPacket packets → Behind receiver sender.channel_count lost
      → length came ≡ length (frames_of profile sender word packets) → FewLost lost came
      → LossesShow profile sender word packets receiver lost came
