-- Each turn takes a packet, or ends.
use Rattle.std.proofs.Common.{ℕ, ◌^◌, ◌<◌, ◌≤◌, List, drop, length, get_or, sym, ap, ◌∙◌, arith}
use Rattle.std.specs.Prelude.{nat_lt}
use Rattle.std.proofs.lemmas.List.{get_or-drop, take_rest}
use Rattle.tc_packets.specs.SpacePackets.{whole_length_in}
use Rattle.tc_packets.proofs.ReceiverLemmas.{begins_cut, begins_end, begins_short, begins_whole}
use Rattle.tc_packets.proofs.packet_readers.begin.Goals as goal

pub returns-then-rest-ge32 : goal.returns-then-rest-ge32
returns-then-rest-ge32 g c =
    let octets = c.args.octets.now in
    let same = ap (λ (l : List ℕ). get_or l 0 0) (take_rest octets c.loop-at.at) in
    let high : 2 ^ 5 ≤ get_or (drop c.loop-at.at octets) 0 0 = omega (arith, same, get_or-drop c.loop-at.at octets 0 0) in
    let done = begins_cut octets c.loop-at.at c.args.out.now.items c.loop-at.out.items c.push.new.self.items c.loop-at.invariant c.loop-at-test.true
    high c.in_ok-push.ensures.items in
    record { given = done.given; part = c.new.ensures.items ∙ done.part }

pub returns-then-is_short : goal.returns-then-is_short
returns-then-is_short g c =
    let octets = c.args.octets.now in
    let rest = take_rest octets c.loop-at.at in
    let same = ap (λ (l : List ℕ). get_or l 0 0) rest in
    let low : get_or (drop c.loop-at.at octets) 0 0 < 2 ^ 5 = omega (arith, same, get_or-drop c.loop-at.at octets 0 0) in
    let done =
    begins_short octets c.loop-at.at c.args.out.now.items c.loop-at.out.items c.loop-at.invariant c.loop-at-test.true low
    (ap (λ l. nat_lt (length l) (whole_length_in l)) (sym rest) ∙ sym c.is_short.ensures ∙ c.if-is_short.true) in
    record { given = done.given; part = c.in_ok-left.ensures.items ∙ rest ∙ done.part }

pub loop-at-preserved : goal.loop-at-preserved
loop-at-preserved g c =
    let octets = c.args.octets.now in
    let rest = take_rest octets c.loop-at.at in
    let same = ap (λ (l : List ℕ). get_or l 0 0) rest in
    let low : get_or (drop c.loop-at.at octets) 0 0 < 2 ^ 5 = omega (arith, same, get_or-drop c.loop-at.at octets 0 0) in
    begins_whole octets c.loop-at.at c.whole_length-size.result c.args.out.now.items c.loop-at.out.items c.put_packet.new.out.items
    c.loop-at.invariant
    c.loop-at-test.true low (ap (λ l. nat_lt (length l) (whole_length_in l)) (sym rest) ∙ sym c.is_short.ensures ∙ c.if-is_short.false)
    (c.whole_length-size.ensures ∙ ap whole_length_in rest)
    (rw (← rest) c.in_ok-put_packet.ensures)

pub returns : goal.returns
returns g c =
    let done = begins_end c.args.octets.now c.loop-at.at c.args.out.now.items c.loop-at.out.items c.loop-at.invariant c.loop-at-test.false in
    record { given = done.given; part = c.new-2.ensures.items ∙ done.part }
