use Rattle.tc_world.proofs.TableLaws.{Laws}
use Rattle.std.proofs.Common.{sym, ◌∙◌}
use Rattle.tc_world.proofs.Assembly.{event_goes}
use Rattle.tc_world.proofs.Fitted.{event_fits, event_narrow}
use Rattle.tc_world.proofs.FairEvents.{FairLaws, event_fairly}
use Rattle.tc_world.proofs.Claims.{claims}
use Rattle.tc_world.proofs.Flying.{flies_in_order}
use Rattle.tc_world.proofs.laws.window_is_kept.Goals as goal

-- the laws of the two tables, from the calls
laws_of : goal.After-keeps_order → Laws
laws_of c = record {
  words = c.moves.ensures.words;
  ticks = c.moves.ensures.ticks;
  offers = c.moves.ensures.offers;
  directives = c.moves.ensures.directives;
  initiations = c.initiates.ensures.directives;
  words_order = c.keeps_order.ensures.words;
  ticks_order = c.keeps_order.ensures.ticks;
  offers_order = c.keeps_order.ensures.offers;
  directives_order = c.keeps_order.ensures.directives;
  words_k = c.keeps_k.ensures.words;
  ticks_k = c.keeps_k.ensures.ticks;
  offers_k = c.keeps_k.ensures.offers;
  frames = c.frames_in_order.ensures;
}

pub returns-clause-kept : goal.returns-clause-kept
returns-clause-kept c = λ given w v answer kept fop farm h. (event_goes (laws_of c) given w v answer kept fop farm h).kept

pub returns-clause-follows : goal.returns-clause-follows
returns-clause-follows c = λ given w v answer kept fop farm h. (event_goes (laws_of c) given w v answer kept fop farm h).follows

pub returns-clause-claims : goal.returns-clause-claims
returns-clause-claims c = λ w kept clean. claims w kept clean

pub returns-clause-flight : goal.returns-clause-flight
returns-clause-flight c = λ w kept clean. flies_in_order w kept clean

pub returns-clause-fits : goal.returns-clause-fits
returns-clause-fits c = λ given w v answer kept fit fop farm h. event_fits (laws_of c) given w v answer kept fit fop farm h

pub returns-clause-never_locked_out : goal.returns-clause-never_locked_out
returns-clause-never_locked_out c = λ w kept fit clean fits. sym kept.farm.locked_out ∙ (fit clean fits).open_farm

fair_laws_of : goal.After-keeps_order → FairLaws
fair_laws_of c = record {
  ahead = c.asks_ahead.ensures;
  ticks_stand = c.stands_fairly.ensures.ticks;
  offers_stand = c.stands_fairly.ensures.offers;
  directives_stand = c.stands_fairly.ensures.directives;
  words_tell = c.tells_fairly.ensures.words;
  ticks_tell = c.tells_fairly.ensures.ticks;
  offers_tell = c.tells_fairly.ensures.offers;
  directives_tell = c.tells_fairly.ensures.directives;
  taking = c.fair_lists.ensures.taking;
  checking = c.fair_lists.ensures.checking;
  level = c.fair_lists.ensures.level;
  with_control = c.fair_lists.ensures.with_control;
  initial = c.fair_lists.ensures.initial;
  reports = c.word_lists.ensures.reports;
  begins = c.word_lists.ensures.begins;
  active = c.word_lists.ensures.active;
  asks = c.fair_cells.ensures.asks;
}

pub returns-clause-fair : goal.returns-clause-fair
returns-clause-fair c = λ given w v answer kept fit fair fop farm h clean fits.
    (event_fairly (laws_of c) (fair_laws_of c) given w v answer kept fit fair fop farm h clean fits).0

pub returns-clause-alerts : goal.returns-clause-alerts
returns-clause-alerts c = λ given w v answer kept fit fair fop farm h clean fits.
    (event_fairly (laws_of c) (fair_laws_of c) given w v answer kept fit fair fop farm h clean fits).1

pub returns-clause-narrow : goal.returns-clause-narrow
returns-clause-narrow c = λ given w v answer narrow h. event_narrow (laws_of c) given w v answer narrow h
