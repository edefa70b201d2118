-- What stands between events stands, and the claims with it.
use Rattle.tc_world.proofs.Bridge.{OnlyLoses}
use Rattle.tc_world.proofs.Claims.{stays, stays_fit, stays_fair, stays_narrow, tells_fairly, follows, claimed, if_ok}
use Rattle.tc_world.proofs.Tells.{tells_requests}
use Rattle.tc_world.proofs.Fitted.{was_fitting}
use Rattle.tc_world.proofs.Setting.{keeps_fitting}
use Rattle.tc_world.proofs.Stills.{still, quiet_aboard, clean_is, fits_is, level_is, was_clean}
use Rattle.tc_world.proofs.worlds.World.step.Given as given
use Rattle.tc_world.proofs.worlds.World.step.Goals as goal

uplink_loses : (g : given.Over) → OnlyLoses g.U.Carrier.kind
uplink_loses g = record {
  room = g.met.U.Carrier.room_holds_nothing;
  puts = g.met.U.Carrier.put_only_loses;
  takes = g.met.U.Carrier.take_is_in_order;
  loses = g.met.U.Carrier.lose_only_loses;
}

downlink_loses : (g : given.Over) → OnlyLoses g.D.Carrier.kind
downlink_loses g = record {
  room = g.met.D.Carrier.room_holds_nothing;
  puts = g.met.D.Carrier.put_only_loses;
  takes = g.met.D.Carrier.take_is_in_order;
  loses = g.met.D.Carrier.lose_only_loses;
}

pub invariant_of-self : goal.invariant_of-self
invariant_of-self g c = (
  stays g.U.Carrier.kind g.D.Carrier.kind (uplink_loses g) (downlink_loses g) c.window_is_kept.ensures.kept c.args.event
      c.self.inside.parts c.step.new.self (λ answer. answer) c.step.result c.step.ensures.happens c.step.ensures.limits.refused
      c.step.ensures.limits.sound.0 c.step.ensures.limits.sound.1 c.self.invariant.0,
  stays_fit g.U.Carrier.kind g.D.Carrier.kind (uplink_loses g) (downlink_loses g) c.window_is_kept.ensures.fits c.args.event
      c.self.inside.parts c.step.new.self c.step.result c.step.ensures.happens c.step.ensures.limits.refused
      c.step.ensures.limits.sound.0 c.step.ensures.limits.sound.1 c.self.invariant.0 c.self.invariant.1,
  stays_fair g.U.Carrier.kind g.D.Carrier.kind (uplink_loses g) (downlink_loses g) c.window_is_kept.ensures.fair c.args.event
      c.self.inside.parts c.step.new.self c.step.result c.step.ensures.happens c.step.ensures.limits.refused
      c.step.ensures.limits.sound.0 c.step.ensures.limits.sound.1 c.self.invariant.0 c.self.invariant.1 c.self.invariant.2,
  stays_narrow g.U.Carrier.kind g.D.Carrier.kind (uplink_loses g) (downlink_loses g) c.window_is_kept.ensures.narrow c.args.event
      c.self.inside.parts c.step.new.self c.step.result c.step.ensures.happens c.step.ensures.limits.refused c.self.invariant.3,
)

pub returns-clause-fitting : goal.returns-clause-fitting
returns-clause-fitting g c = (invariant_of-self g c).3

pub returns-clause-fair : goal.returns-clause-fair
returns-clause-fair g c =
    rw (← c.self.view_is)
    (tells_fairly g.U.Carrier.kind g.D.Carrier.kind (uplink_loses g) (downlink_loses g) c.window_is_kept.ensures.alerts c.args.event
    c.self.inside.parts c.step.new.self c.step.result c.step.ensures.happens
    c.step.ensures.limits.sound.0 c.step.ensures.limits.sound.1 c.self.invariant.0 c.self.invariant.1 c.self.invariant.2)

pub returns-clause-was_fitting : goal.returns-clause-was_fitting
returns-clause-was_fitting g c =
    rw (← c.self.view_is)
    (was_fitting g.U.Carrier.kind g.D.Carrier.kind c.args.event c.self.inside.parts c.step.new.self c.step.result
    c.step.ensures.happens c.step.ensures.limits.refused)

pub returns-clause-keeps_fitting : goal.returns-clause-keeps_fitting
returns-clause-keeps_fitting g c =
    rw (← c.self.view_is)
    (if_ok _ _ c.step.result
    (λ answer h. keeps_fitting g.U.Carrier.kind g.D.Carrier.kind c.directives_k.ensures c.args.event c.self.inside.parts c.step.new.self answer
    c.self.invariant.3 h)
    c.step.ensures.happens)

pub returns-clause-fits : goal.returns-clause-fits
returns-clause-fits g c =
    rw (← c.self.view_is)
    (if_ok _ _ c.step.result
    (λ answer h. fits_is g.U.Carrier.kind g.D.Carrier.kind c.args.event c.self.inside.parts c.step.new.self answer h)
    c.step.ensures.happens)

pub returns-clause-level : goal.returns-clause-level
returns-clause-level g c =
    rw (← c.self.view_is)
    (if_ok _ _ c.step.result
    (λ answer h. level_is g.U.Carrier.kind g.D.Carrier.kind c.args.event c.self.inside.parts c.step.new.self answer h)
    c.step.ensures.happens)

pub returns-clause-window : goal.returns-clause-window
returns-clause-window g c =
    rw (← c.self.view_is)
    (follows g.U.Carrier.kind g.D.Carrier.kind (uplink_loses g) (downlink_loses g) c.window_is_kept.ensures.follows c.args.event
    c.self.inside.parts c.step.new.self (λ answer. answer) c.step.result c.step.ensures.happens
    c.step.ensures.limits.sound.0 c.step.ensures.limits.sound.1 c.self.invariant.0)

pub returns-clause-requests : goal.returns-clause-requests
returns-clause-requests g c =
    rw (← c.self.view_is)
    (if_ok _ _ c.step.result
    (λ answer h. tells_requests g.U.Carrier.kind g.D.Carrier.kind
    (record {
      words = c.keeps_order.ensures.words;
      ticks = c.keeps_order.ensures.ticks;
      offers = c.keeps_order.ensures.offers;
      directives = c.keeps_order.ensures.directives;
    })
    c.args.event c.self.inside.parts c.step.new.self answer c.self.invariant.0.fop c.step.ensures.limits.sound.0 h)
    c.step.ensures.happens)

pub returns-clause-still : goal.returns-clause-still
returns-clause-still g c = λ other.
    if_ok _ _ c.step.result
    (λ answer h. still g.U.Carrier.kind g.D.Carrier.kind c.args.event c.self.inside.parts c.step.new.self answer other h)
    c.step.ensures.happens

pub returns-clause-quiet : goal.returns-clause-quiet
returns-clause-quiet g c =
    if_ok _ _ c.step.result
    (λ answer h. quiet_aboard g.U.Carrier.kind g.D.Carrier.kind c.args.event c.self.inside.parts c.step.new.self answer h)
    c.step.ensures.happens

pub returns-clause-clean : goal.returns-clause-clean
returns-clause-clean g c =
    rw (← c.self.view_is)
    (if_ok _ _ c.step.result
    (λ answer h. clean_is g.U.Carrier.kind g.D.Carrier.kind c.args.event c.self.inside.parts c.step.new.self answer h)
    c.step.ensures.happens)

pub returns-clause-was_clean : goal.returns-clause-was_clean
returns-clause-was_clean g c =
    rw (← c.self.view_is)
    (was_clean g.U.Carrier.kind g.D.Carrier.kind c.args.event c.self.inside.parts c.step.new.self c.step.result
    c.step.ensures.happens c.step.ensures.limits.refused)

pub returns-clause-claims : goal.returns-clause-claims
returns-clause-claims g c =
    let kept = c.window_is_kept.ensures in
    let stands = invariant_of-self g c in
    record {
      claims = λ clean. claimed g.U.Carrier.kind g.D.Carrier.kind c.step.new.self (kept.claims _ stands.0 clean);
      flight = λ clean. kept.flight _ stands.0 clean;
      never_locked_out = λ clean fits. kept.never_locked_out _ stands.0 stands.1 clean fits;
    }
