use Rattle.std.proofs.Common.{rules}
use Rattle.sqlite.specs.Held.{state}
use Rattle.tc_store.proofs.ReadLemmas.{quiet_of}
use Rattle.tc_store.proofs.ShowLemmas.{version_is}
use Rattle.tc_store.proofs.TextLemmas.{all_version_is}
use Rattle.tc_store.proofs.loads.versions.check_version.Goals as goal

pub rows_of-requires : goal.rows_of-requires
rows_of-requires g c = record { quiet = λ layout version. quiet_of _ (all_version_is layout version).plain }

pub returns-then-branch : goal.returns-then-branch
returns-then-branch g c = record {
  reads = (record {
    finds = λ clean layout version has. version_is c.args.version (state g.S.Store c.args.conn.now) (state g.S.Store c.rows_of.new.conn) c.in_ok-rows.rows.items _ c.as_slice.ensures.value (c.in_ok-are_version.ensures.told c.if-branch.true) (c.in_ok-rows.ensures.rows clean) layout version has;
    same = search rules;
    left = search rules;
  });
}
