use Rattle.std.proofs.Common.{rules, ◌≡◌, ◌∷◌, ◌==◌, [], Ok, false, inr}
use Rattle.hex.specs.Hex.{decode_sized}
use Rattle.tc_hex.proofs.HexLemmas.{after_bad, after_end, after_good, after_last, none_left}
use Rattle.tc_hex.proofs.hex_texts.spelled_octets.Goals as goal

pub returns-in_default-split_first-clause-fault : goal.returns-in_default-split_first-clause-fault
returns-in_default-split_first-clause-fault g c =
    let is : c.loop-first.left.now ≡ c.in-Some.first.now ∷ c.in-Some.rest.now = search rules in
    let ends = none_left c.in-Some.rest.now (search rules) in
    let other : (c.in-Some.first.now == 32) ≡ false = search rules in
    inr (after_last _ _ _ _ _ c.loop-first.invariant.all (rw ends at is) other)

pub returns-in_default-octet_of-clause-fault : goal.returns-in_default-octet_of-clause-fault
returns-in_default-octet_of-clause-fault g c =
    let is : c.loop-first.left.now ≡ c.in-Some.first.now ∷ c.in-Some.rest.now = search rules in
    let more : c.in-Some.rest.now ≡ c.in-Some-split_first.second.now ∷ c.in-Some-split_first.others.now = search rules in
    let other : (c.in-Some.first.now == 32) ≡ false = search rules in
    inr (after_bad _ _ _ _ _ _ _ _ c.loop-first.invariant.all (rw more at is) other c.in_default-octet_of.ensures.1)

pub loop-first-preserved : goal.loop-first-preserved
loop-first-preserved g c =
    let is : c.loop-first.left.now ≡ c.in-Some.first.now ∷ c.in-Some.rest.now = search rules in
    let more : c.in-Some.rest.now ≡ c.in-Some-split_first.second.now ∷ c.in-Some-split_first.others.now = search rules in
    let other : (c.in-Some.first.now == 32) ≡ false = search rules in
    let good : decode_sized (c.in-Some.first.now ∷ c.in-Some-split_first.second.now ∷ []) 1 ≡ Ok c.in-Some-octet_of.octet = search rules in
    record {
      all = rw c.in_ok-extend_from_slice.ensures.items (after_good _ _ _ _ _ _ _ _ c.loop-first.invariant.all (rw more at is) other good);
      place = search rules;
    }

pub returns-clause-octets : goal.returns-clause-octets
returns-clause-octets g c =
    let ends = none_left c.loop-first.left.now (search rules) in
    after_end _ _ _ _ c.loop-first.invariant.all ends
