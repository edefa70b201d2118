use Rattle.std.proofs.Common.{◌≡◌, rules}
use Rattle.tc_types.proofs.NameLaws.{laid_out}
use Rattle.tc_types.proofs.names.Name.read.Goals as goal

pub invariant_of-result : goal.invariant_of-result
invariant_of-result c =
    let e : c.copy_from_slice.new.self ≡ c.args.bytes.now = c.copy_from_slice.ensures.after in
    rw e (laid_out c.args.bytes.now (search rules))
