use Rattle.std.proofs.Common.{rules, ◌≡◌, ◌≤◌, ◌∷◌}
use Rattle.tc_front.proofs.FieldLemmas.{digit_step, digits_on, digits_back}
use Rattle.tc_front.proofs.fields.body_length.Goals as goal

pub loop-byte-preserved : goal.loop-byte-preserved
loop-byte-preserved c =
    let is : c.loop-byte.left.now ≡ c.in-Some.byte.now ∷ c.in-Some.rest.now = search rules in
    let low : 48 ≤ c.in-Some.byte.now = search rules in
    let high : c.in-Some.byte.now ≤ 57 = search rules in
    record {
      value = digit_step c.args.value.now c.loop-byte.left.now c.in-Some.rest.now c.loop-byte.size c.in-Some.byte.now _ c.loop-byte.invariant.value is low high (search rules);
      small = search rules;
      all = λ h. c.loop-byte.invariant.all (digits_back _ _ _ is low high h);
      each = λ h. digits_on _ _ _ is (c.loop-byte.invariant.each h);
    }
