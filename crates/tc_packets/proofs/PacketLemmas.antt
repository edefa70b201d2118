-- Telecommand packets: their parts from the octets, and the octets from their parts.
use Rattle.std.proofs.Common.{◌≡◌, ℕ, suc, Bool, false, ◌+◌, ◌-◌, ◌*◌, ◌/◌, ◌%◌, ◌^◌, ◌<◌, ◌≤◌, true, List, [], ◌∷◌, ◌++◌, take, drop, length, get_or}
use Rattle.std.proofs.Common.{refl, sym, ap, ◌∙◌, subst, arith}
use Rattle.std.specs.Prelude.{◌≢◌, IsTrue}
use Rattle.std.proofs.lemmas.List.{take_at, length-append, length-take, length-drop}
use Rattle.tc_types.specs.declared.requests.Ack.{Ack}
use Rattle.tc_types.specs.declared.requests.Identity.{Identity}
use Rattle.tc_octets.specs.Bits.{pair, pair_at}
use Rattle.tc_octets.specs.Crc.{crc_of}
use Rattle.tc_octets.specs.declared.profiles.Profile.{Profile}
use Rattle.tc_octets.proofs.TcFrameLaws.{two_are, closed_checked}
use Rattle.tc_octets.proofs.TcFrameLemmas.{AreOctets, closed_again}
use Rattle.tc_packets.specs.SpacePackets.{flag_bit, header_of}
use Rattle.tc_packets.specs.Identities.{Flies, request_header}
use Rattle.tc_packets.specs.Telecommands.{ack_bits, packet_of, schedule, secondary_header_of}
use Rattle.tc_packets.specs.TelecommandReaders.{IsChecked, Passes, data_in, is_schedule_subtype, service_in, subtype_in}

-- what stands before the check of a packet
abbrev pub front_of : Profile → Identity → Ack → ℕ → ℕ → List ℕ → List ℕ
front_of profile identity ack service subtype application =
    header_of (request_header identity) (7 + length application) ++ secondary_header_of profile ack service subtype ++ application

-- what stands in the octets of a packet
pub record Parts (profile : Profile) (octets : List ℕ) (identity : Identity) (ack : Ack) (service subtype : ℕ) (application : List ℕ) : Type 0 where
  pub first : pair_at octets 0 ≡ 0x1800 + identity.apid
  pub second : pair_at octets 2 ≡ 0xc000 + identity.count
  pub told : pair_at octets 4 ≡ 7 + length application - 1
  pub acks : get_or octets 6 0 ≡ 0x20 + ack_bits ack
  pub serves : service_in octets ≡ service
  pub kind : subtype_in octets ≡ subtype
  pub from : pair_at octets 9 ≡ profile.source
  pub carries : data_in octets ≡ application
  pub size : length octets ≡ 13 + length application
  pub right : IsChecked octets

pub packet_length : (profile : Profile) (identity : Identity) (ack : Ack) (service subtype : ℕ) (application : List ℕ)
    → length (packet_of profile identity ack service subtype application) ≡ 13 + length application
packet_length profile identity ack service subtype application =
    omega (
      arith,
      length-append (front_of profile identity ack service subtype application)
          (pair (crc_of (front_of profile identity ack service subtype application))),
    )

pub parts_there : (profile : Profile) (identity : Identity) (ack : Ack) (service subtype : ℕ) (application : List ℕ)
    → Parts profile (packet_of profile identity ack service subtype application) identity ack service subtype application
parts_there profile identity ack service subtype application =
    let size = packet_length profile identity ack service subtype application in
    record {
      first =
          two_are (get_or (packet_of profile identity ack service subtype application) 0 0)
          (get_or (packet_of profile identity ack service subtype application) 1 0)
          (0x1800 + identity.apid) refl refl;
      second =
          two_are (get_or (packet_of profile identity ack service subtype application) 2 0)
          (get_or (packet_of profile identity ack service subtype application) 3 0)
          (0xc000 + identity.count) refl refl;
      told =
          two_are (get_or (packet_of profile identity ack service subtype application) 4 0)
          (get_or (packet_of profile identity ack service subtype application) 5 0)
          (7 + length application - 1) refl refl;
      acks = refl;
      serves = refl;
      kind = refl;
      from =
          two_are (get_or (packet_of profile identity ack service subtype application) 9 0)
          (get_or (packet_of profile identity ack service subtype application) 10 0)
          profile.source refl refl;
      carries =
          take_at application (pair (crc_of (front_of profile identity ack service subtype application)))
          (length (packet_of profile identity ack service subtype application) - 13) (omega arith);
      size = size;
      right = closed_checked true (front_of profile identity ack service subtype application) refl;
    }

pub parts_of_packet : (profile : Profile) (octets : List ℕ) (identity : Identity) (ack : Ack) (service subtype : ℕ) (application : List ℕ)
    → octets ≡ packet_of profile identity ack service subtype application → Parts profile octets identity ack service subtype application
parts_of_packet profile octets identity ack service subtype application e =
    subst (λ (l : List ℕ). Parts profile l identity ack service subtype application) (sym e)
    (parts_there profile identity ack service subtype application)

flag_small : (flag : Bool) → flag_bit flag ≤ 1
flag_small true = omega arith
flag_small false = omega arith

pub ack_small : (ack : Ack) → ack_bits ack < 2 ^ 4
ack_small ack =
    let a = flag_small ack.acceptance in
    let s = flag_small ack.start in
    let p = flag_small ack.progress in
    let c = flag_small ack.completion in
    omega arith

first_says : (n apid : ℕ) → n ≡ 0x1800 + apid → apid ≤ 2046 → (n / 2 ^ 11 ≡ 3) × (n % 2 ^ 11 ≡ apid)
first_says n apid e h = (omega arith, omega arith)

second_says : (n count : ℕ) → n ≡ 0xc000 + count → count < 16384 → (n / 2 ^ 14 ≡ 3) × (n % 2 ^ 14 ≡ count)
second_says n count e h = (omega arith, omega arith)

acks_say : (n acks : ℕ) → n ≡ 0x20 + acks → acks < 2 ^ 4 → (n / 2 ^ 4 ≡ 2) × (n % 2 ^ 4 ≡ acks)
acks_say n acks e h = (omega arith, omega arith)

not_idle : (n apid : ℕ) → n ≡ apid → apid ≤ 2046 → n ≢ 2047
not_idle n apid e h k = absurd (omega arith)

-- nothing is said against the headers of a packet
pub passes_there : (profile : Profile) (octets : List ℕ) (identity : Identity) (ack : Ack) (service subtype : ℕ) (application : List ℕ)
    → Parts profile octets identity ack service subtype application → Flies identity
    → service ≢ 0 → subtype ≢ 0 → (service ≡ schedule → IsTrue (is_schedule_subtype subtype)) → Passes profile octets
passes_there profile octets identity ack service subtype application parts flies some_service some_subtype scheduled =
    let first = first_says (pair_at octets 0) identity.apid parts.first flies.apid in
    let second = second_says (pair_at octets 2) identity.count parts.second flies.count in
    let acks = acks_say (get_or octets 6 0) (ack_bits ack) parts.acks (ack_small ack) in
    let size = parts.size in
    let told = parts.told in
    record {
      long = record { least = omega arith; told = omega arith };
      right = parts.right;
      header = record {
        request = first.0;
        apid = not_idle (pair_at octets 0 % 2 ^ 11) identity.apid first.1 flies.apid;
        unsegmented = second.0;
        pus = acks.0;
        source = parts.from;
      };
      kind = record {
        service = λ e. some_service (sym parts.serves ∙ e);
        subtype = λ e. some_subtype (sym parts.kind ∙ e);
        scheduled = λ e. subst (λ (n : ℕ). IsTrue (is_schedule_subtype n)) (sym parts.kind) (scheduled (sym parts.serves ∙ e));
      };
    }

-- ---- back from the parts

eleven_more : (m : ℕ) → 11 ≤ m → m ≡ suc (suc (suc (suc (suc (suc (suc (suc (suc (suc (suc (m - 11)))))))))))
eleven_more m h = omega arith

-- a front of octets is its first eleven and the rest
eleven : (octets : List ℕ) (m : ℕ) → 11 ≤ m → m ≤ length octets
    → take m octets
    ≡ get_or octets 0 0 ∷ get_or octets 1 0 ∷ get_or octets 2 0 ∷ get_or octets 3 0 ∷ get_or octets 4 0 ∷ get_or octets 5 0 ∷ get_or octets 6 0
    ∷ get_or octets 7 0 ∷ get_or octets 8 0 ∷ get_or octets 9 0 ∷ get_or octets 10 0 ∷ take (m - 11) (drop 11 octets)
eleven [] m h k = absurd (omega arith)
eleven (a ∷ []) m h k = absurd (omega arith)
eleven (a ∷ b ∷ []) m h k = absurd (omega arith)
eleven (a ∷ b ∷ c ∷ []) m h k = absurd (omega arith)
eleven (a ∷ b ∷ c ∷ d ∷ []) m h k = absurd (omega arith)
eleven (a ∷ b ∷ c ∷ d ∷ e ∷ []) m h k = absurd (omega arith)
eleven (a ∷ b ∷ c ∷ d ∷ e ∷ f ∷ []) m h k = absurd (omega arith)
eleven (a ∷ b ∷ c ∷ d ∷ e ∷ f ∷ g ∷ []) m h k = absurd (omega arith)
eleven (a ∷ b ∷ c ∷ d ∷ e ∷ f ∷ g ∷ i ∷ []) m h k = absurd (omega arith)
eleven (a ∷ b ∷ c ∷ d ∷ e ∷ f ∷ g ∷ i ∷ j ∷ []) m h k = absurd (omega arith)
eleven (a ∷ b ∷ c ∷ d ∷ e ∷ f ∷ g ∷ i ∷ j ∷ l ∷ []) m h k = absurd (omega arith)
eleven (a ∷ b ∷ c ∷ d ∷ e ∷ f ∷ g ∷ i ∷ j ∷ l ∷ n ∷ rest) m h k =
    ap (λ q. take q (a ∷ b ∷ c ∷ d ∷ e ∷ f ∷ g ∷ i ∷ j ∷ l ∷ n ∷ rest)) (eleven_more m h)

high_is : (a b n : ℕ) → b < 2 ^ 8 → a * 256 + b ≡ n → a ≡ n / 256
high_is a b n h e = omega arith

low_is : (a b n : ℕ) → b < 2 ^ 8 → a * 256 + b ≡ n → b ≡ n % 256
low_is a b n h e = omega arith

eleven_same : (a b c d e f g i j l n a1 b1 c1 d1 e1 f1 g1 i1 j1 l1 n1 : ℕ) (rest : List ℕ)
    → a ≡ a1 → b ≡ b1 → c ≡ c1 → d ≡ d1 → e ≡ e1 → f ≡ f1 → g ≡ g1 → i ≡ i1 → j ≡ j1 → l ≡ l1 → n ≡ n1
    → a ∷ b ∷ c ∷ d ∷ e ∷ f ∷ g ∷ i ∷ j ∷ l ∷ n ∷ rest ≡ a1 ∷ b1 ∷ c1 ∷ d1 ∷ e1 ∷ f1 ∷ g1 ∷ i1 ∷ j1 ∷ l1 ∷ n1 ∷ rest
eleven_same a b c d e f g i j l n a1 b1 c1 d1 e1 f1 g1 i1 j1 l1 n1 rest ha hb hc hd he hf hg hi hj hl hn = cc

first_again : (n apid : ℕ) → n / 2 ^ 11 ≡ 3 → apid ≡ n % 2 ^ 11 → n ≡ 0x1800 + apid
first_again n apid e h = omega arith

second_again : (n count : ℕ) → n / 2 ^ 14 ≡ 3 → count ≡ n % 2 ^ 14 → n ≡ 0xc000 + count
second_again n count e h = omega arith

acks_again : (n acks : ℕ) → n / 2 ^ 4 ≡ 2 → acks ≡ n % 2 ^ 4 → n ≡ 0x20 + acks
acks_again n acks e h = omega arith

-- what stands in octets is the request's, as far as its headers tell
pub record Heads (octets : List ℕ) (identity : Identity) (ack : Ack) : Type 0 where
  pub apid : identity.apid ≡ pair_at octets 0 % 2 ^ 11
  pub count : identity.count ≡ pair_at octets 2 % 2 ^ 14
  pub acks : ack_bits ack ≡ get_or octets 6 0 % 2 ^ 4

-- octets that pass are the packet of what stands in them
pub packet_again : (profile : Profile) (octets : List ℕ) (identity : Identity) (ack : Ack) → AreOctets octets → Passes profile octets
    → Heads octets identity ack
    → octets ≡ packet_of profile identity ack (service_in octets) (subtype_in octets) (data_in octets)
packet_again profile octets identity ack small passes heads =
    let least = passes.long.least in
    let told = passes.long.told in
    let size : length (data_in octets) ≡ length octets - 13 =
    omega (arith, length-take (length octets - 13) (drop 11 octets), length-drop 11 octets) in
    let first = first_again (pair_at octets 0) identity.apid passes.header.request heads.apid in
    let second = second_again (pair_at octets 2) identity.count passes.header.unsegmented heads.count in
    let third : pair_at octets 4 ≡ 7 + length (data_in octets) - 1 = omega arith in
    let rest : length octets - 2 - 11 ≡ length octets - 13 = omega arith in
    closed_again true octets (length octets - 2) small (omega arith) (λ it. passes.right)
    ∙ ap (λ l. l ++ pair (crc_of l))
    (eleven octets (length octets - 2) (omega arith) (omega arith)
    ∙ ap
    (λ n. get_or octets 0 0 ∷ get_or octets 1 0 ∷ get_or octets 2 0 ∷ get_or octets 3 0 ∷ get_or octets 4 0 ∷ get_or octets 5 0 ∷ get_or octets 6 0
    ∷ get_or octets 7 0 ∷ get_or octets 8 0 ∷ get_or octets 9 0 ∷ get_or octets 10 0 ∷ take n (drop 11 octets))
    rest
    ∙ eleven_same (get_or octets 0 0) (get_or octets 1 0) (get_or octets 2 0) (get_or octets 3 0) (get_or octets 4 0) (get_or octets 5 0)
    (get_or octets 6 0)
    (get_or octets 7 0) (get_or octets 8 0) (get_or octets 9 0) (get_or octets 10 0)
    ((0x1800 + identity.apid) / 256) ((0x1800 + identity.apid) % 256) ((0xc000 + identity.count) / 256) ((0xc000 + identity.count) % 256)
    ((7 + length (data_in octets) - 1) / 256) ((7 + length (data_in octets) - 1) % 256) (0x20 + ack_bits ack) (service_in octets) (subtype_in octets)
    (profile.source / 256) (profile.source % 256) (data_in octets)
    (high_is (get_or octets 0 0) (get_or octets 1 0) (0x1800 + identity.apid) (small 1) first)
    (low_is (get_or octets 0 0) (get_or octets 1 0) (0x1800 + identity.apid) (small 1) first)
    (high_is (get_or octets 2 0) (get_or octets 3 0) (0xc000 + identity.count) (small 3) second)
    (low_is (get_or octets 2 0) (get_or octets 3 0) (0xc000 + identity.count) (small 3) second)
    (high_is (get_or octets 4 0) (get_or octets 5 0) (7 + length (data_in octets) - 1) (small 5) third)
    (low_is (get_or octets 4 0) (get_or octets 5 0) (7 + length (data_in octets) - 1) (small 5) third)
    (acks_again (get_or octets 6 0) (ack_bits ack) passes.header.pus heads.acks) refl refl
    (high_is (get_or octets 9 0) (get_or octets 10 0) profile.source (small 10) passes.header.source)
    (low_is (get_or octets 9 0) (get_or octets 10 0) profile.source (small 10) passes.header.source))
