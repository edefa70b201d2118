use Rattle.std.proofs.Common.{◌≡◌, length, arith}
use Rattle.tc_store.proofs.ReadLemmas.{if_ok}
use Rattle.tc_store.proofs.ShowLemmas.{one_version}
use Rattle.tc_store.proofs.loads.versions.are_version.Goals as goal

pub returns-then-is_one : goal.returns-then-is_one
returns-then-is_one c = record {
  told = (let one : length c.args.rows.now ≡ 1 = omega (arith, c.if-is_one.true) in
      if_ok c.is_version.result _ _ c.is_version.ensures.told (λ told named yes wide. one_version c.args.version c.args.rows.now _ one (rw c.index-rows-0.is at (named yes)) wide));
}
