-- One more activity was read, or none more is there; and all were.
use Rattle.std.proofs.Common.{◌≡◌, ℕ, ◌+◌, ◌<◌, List, set, length, sym, subst, arith}
use Rattle.tc_packets.proofs.ActivityLemmas.{HasRead, all_read, next_none, read_next}
use Rattle.tc_packets.proofs.task_readers.activities_in.Goals as goal

pub returns-in-None : goal.returns-in-None
returns-in-None c =
    next_none c.args.profile.now c.args.octets.now c.loop-at.left.now c.loop-at.at c.args.number c.loop-at.places c.loop-at.invariant
    c.loop-at-test.true
    c.requires.most c.in-None.ensures

pub loop-at-preserved : goal.loop-at-preserved
loop-at-preserved c =
    let below = c.loop-at-test.true in
    let most = c.requires.most in
    let room : c.loop-at.at < 8 = omega arith in
    subst
    (λ (l : List ℕ). HasRead c.args.profile.now c.args.octets.now l (c.loop-at.at + 1) (set c.loop-at.places c.loop-at.at c.in-Some.activity))
    (sym c.octets_from-left-in-Some.ensures)
    (read_next c.args.profile.now c.args.octets.now c.loop-at.left.now c.loop-at.at c.loop-at.places c.in-Some.activity c.in-Some.length
    c.loop-at.invariant
    room c.in-Some.ensures)

pub returns : goal.returns
returns c =
    let last : c.loop-at.at ≡ c.args.number = grind arith in
    let empty : length c.loop-at.left.now ≡ 0 = grind arith in
    all_read c.args.profile.now c.args.octets.now c.loop-at.left.now c.args.number c.loop-at.places c.gathered.result
    (subst (λ (n : ℕ). HasRead c.args.profile.now c.args.octets.now c.loop-at.left.now n c.loop-at.places) last c.loop-at.invariant)
    c.requires.least c.requires.most empty c.gathered.ensures.found c.gathered.ensures.value
