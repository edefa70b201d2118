-- What the calls of `up`, `work` and `clock` make is one step of it.
use Rattle.std.proofs.Common.{◌≡◌, ℕ, Bool, Option, List, [], refl, sym, ◌∙◌, ap, subst}
use Rattle.tc_types.specs.declared.link.frames.Frame.{Frame}
use Rattle.tc_types.specs.declared.link.reports.Report.{Report}
use Rattle.tc_types.specs.declared.link.reports.Telemetry.{Telemetry}
use Rattle.tc_types.specs.declared.link.telecommands.Telecommand.{Telecommand}
use Rattle.tc_types.specs.declared.acts.Act.TheVariants as act
use Rattle.tc_types.specs.declared.acts.LinkAct.TheVariants as link_act
use Rattle.tc_world.specs.declared.events.Event.TheVariants as event
use Rattle.tc_world.specs.declared.events.LinkIndication.{LinkIndication}
use Rattle.tc_world.specs.Links.{Kind}
use Rattle.tc_world.specs.World.{Whole, IsAsBefore}
use Rattle.tc_board.specs.Board.{oldest_of, work_reports, worked, ClockReports, clocked}
use Rattle.tc_book.specs.declared.stamps.Stamp.{Stamp}
use Rattle.tc_desk.specs.declared.firsts.FirstLine.{FirstLine}
use Rattle.tc_desk.specs.State.{State}
use Rattle.tc_desk.specs.Asks.{has_buffer, taken_in, board_after, reports_after}
use Rattle.tc_desk.specs.Effects.{heard_all}
use Rattle.tc_desk.specs.declared.firsts.FirstLine.TheVariants as first_line
use Rattle.tc_desk.specs.Acts.{first_of_up, first_of_work}
use Rattle.tc_desk.specs.Machine.{Happened, PutsDown, Does}

pub came_up : {U D : Type 0} (up : Kind U Frame) (down : Kind D Report) (stamp : Stamp) (old new : State U D) (ready carried : Whole U D)
    (all : List LinkIndication) (first : FirstLine) (taken : Option Telecommand) (free : Bool)
    → IsAsBefore up down old.world ready → free ≡ has_buffer old.board → Happened up down (event.Uplink free) ready carried all
    → taken ≡ taken_in all → new.board ≡ board_after taken old.board → PutsDown up down (reports_after taken) carried new.world
    → new.mirror ≡ old.mirror → new.book ≡ old.book → heard_all stamp old.mirror all old.book ≡ old.book → first ≡ first_of_up all
    → Does up down stamp (act.Link link_act.Up) old new all first
came_up up down stamp old new ready carried all first taken free readied buffer frame is_taken board reports mirror book still begins = record {
  link = record {
    ready = ready;
    readied = readied;
    carried = carried;
    frame = subst (λ b. Happened up down (event.Uplink b) ready carried all) buffer frame;
    board = board ∙ ap (λ t. board_after t old.board) is_taken;
    mirror = mirror;
    reports = subst (λ t. PutsDown up down (reports_after t) carried new.world) is_taken reports;
  };
  book = book ∙ sym still;
  begins = begins;
}

pub worked_off : {U D : Type 0} (up : Kind U Frame) (down : Kind D Report) (stamp : Stamp) (old new : State U D) (ready reported : Whole U D)
    (all : List LinkIndication) (first : FirstLine) (items : List Telemetry)
    → IsAsBefore up down old.world ready → items ≡ work_reports old.board old.board.buffer → PutsDown up down items ready reported
    → Happened up down event.Release reported new.world [] → new.board ≡ worked old.board old.board.buffer
    → all ≡ [] → new.mirror ≡ old.mirror → new.book ≡ old.book → first ≡ first_of_work (oldest_of old.board.buffer)
    → Does up down stamp (act.Link link_act.Work) old new all first
worked_off up down stamp old new ready reported all first items readied made put free board silent mirror book begins = record {
  link = record {
    reported = reported;
    reports = record { ready = ready; readied = readied; put = subst (λ l. PutsDown up down l ready reported) made put };
    free = free;
    board = board;
    mirror = mirror;
    silent = silent;
  };
  book = book ∙ sym (ap (λ l. heard_all stamp old.mirror l old.book) silent);
  begins = begins;
}

pub went_on : {U D : Type 0} (up : Kind U Frame) (down : Kind D Report) (stamp : Stamp) (time : ℕ) (old new : State U D) (ready : Whole U D)
    (all : List LinkIndication) (items : List Telemetry)
    → IsAsBefore up down old.world ready → ClockReports time old.board.schedule items → PutsDown up down items ready new.world
    → new.board ≡ clocked time old.board → all ≡ [] → new.mirror ≡ old.mirror → new.book ≡ old.book
    → Does up down stamp (act.Link (link_act.Clock time)) old new all (first_line.Now time)
went_on up down stamp time old new ready all items readied due put board silent mirror book = record {
  link = record {
    items = items;
    due = due;
    reports = record { ready = ready; readied = readied; put = put };
    board = board;
    mirror = mirror;
    silent = silent;
  };
  book = book ∙ sym (ap (λ l. heard_all stamp old.mirror l old.book) silent);
  begins = refl;
}
