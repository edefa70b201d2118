-- Where the run ends, and one event more.
use Rattle.std.proofs.Common.{◌≡◌, true, false, length, refl, arith}
use Rattle.std.proofs.lemmas.Option.{slice_get_read}
use Rattle.tc_world.proofs.RunLemmas.{runs_none, runs_more}
use Rattle.tc_world.proofs.worlds.World.run.Goals as goal

pub loop-done-init : goal.loop-done-init
loop-done-init g c = (runs_none _ _ _, c.clean-clean.ensures.claims)

pub loop-done-preserved : goal.loop-done-preserved
loop-done-preserved g c = (
  runs_more _ _ c.args.events.now c.loop-done.done _ _ _ _ _ c.loop-done-test.true c.loop-done.invariant.0
      (rw c.index-events-done.is at c.in_default.ensures.happens) c.in_default.ensures.was_clean c.in_default.ensures.window
      c.in_default.ensures.was_fitting c.in_default.ensures.fair,
  c.in_default.ensures.claims,
)

pub returns-in-Err : goal.returns-in-Err
returns-in-Err g c = record {
  run = record {
    last = c.loop-done.self;
    runs = c.loop-done.invariant.0;
    ends = (
      c.index-events-done.result,
      slice_get_read c.args.events.now _ c.loop-done.done _ refl c.loop-done-test.true c.index-events-done.is,
      c.in-Err.ensures.refused.0,
      (λ spared. let not : false ≡ true = rw c.in-Err.is at (c.step.ensures.spared spared) in cc),
    );
    stands = c.in-Err.ensures.refused.1;
  };
  claims = c.in-Err.ensures.claims;
}

pub returns : goal.returns
returns g c =
    let all : c.loop-done.done ≡ length c.args.events.now = omega arith in record {
      run = record {
        last = c.loop-done.self;
        runs = rw all at c.loop-done.invariant.0;
        ends = refl;
        stands = record { up = refl; down = refl; rest = refl };
      };
      claims = c.loop-done.invariant.1;
    }
