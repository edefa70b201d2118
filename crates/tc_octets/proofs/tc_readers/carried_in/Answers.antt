-- What the data field was read as is what the octets are.
use Rattle.std.proofs.Common.{◌≡◌, ◌+◌, ◌-◌, length, refl, inl, inr, arith}
use Rattle.tc_octets.specs.TcFrames.{flags_in, check_length}
use Rattle.tc_octets.proofs.TcFrameLemmas.{read_field}
use Rattle.tc_octets.proofs.tc_readers.carried_in.Goals as goal

pub returns-then-flags-eq0 : goal.returns-then-flags-eq0
returns-then-flags-eq0 c =
    let told : flags_in c.args.octets.now ≡ 0 = omega arith in
    let least = c.requires.long.least in
    let whole : (length c.args.octets.now - check_length c.args.profile.now.tc.fecf) + check_length c.args.profile.now.tc.fecf
    ≡ length c.args.octets.now = omega arith in
    read_field c.args.profile.now c.args.octets.now c.field_in-field.result.now (length c.args.octets.now - check_length c.args.profile.now.tc.fecf)
    0 c.ad_in.result
    (λ i. omega (arith, c.type_inv.octets i)) c.requires whole c.field_in-field.ensures told (inl refl) c.ad_in.ensures

pub returns-then-flags-eq3 : goal.returns-then-flags-eq3
returns-then-flags-eq3 c =
    let told : flags_in c.args.octets.now ≡ 3 = omega arith in
    let least = c.requires.long.least in
    let whole : (length c.args.octets.now - check_length c.args.profile.now.tc.fecf) + check_length c.args.profile.now.tc.fecf
    ≡ length c.args.octets.now = omega arith in
    read_field c.args.profile.now c.args.octets.now c.field_in-field.result.now (length c.args.octets.now - check_length c.args.profile.now.tc.fecf)
    3 c.control_in.result
    (λ i. omega (arith, c.type_inv.octets i)) c.requires whole c.field_in-field.ensures told (inr refl) (c.control_in.ensures c.args.profile.now.tc)
