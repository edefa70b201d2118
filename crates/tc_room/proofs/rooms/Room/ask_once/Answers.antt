use Rattle.std.proofs.Common.{◌≡◌, false, inl}
use Rattle.tc_desk.specs.Acts.{is_question}
use Rattle.tc_room.proofs.OnceLemmas.{acts_done, asks_told, no_question}
use Rattle.tc_room.proofs.RoomLemmas.{kept_book}
use Rattle.tc_room.proofs.TruthLemmas.{link_same}
use Rattle.tc_room.proofs.rooms.Room.ask_once.Goals as goal

pub do_once-requires-clause-acts : goal.do_once-requires-clause-acts
do_once-requires-clause-acts g c = no_question c.args.line.act c.in_default.not-Ask

pub returns-in-Ask-clause-called : goal.returns-in-Ask-clause-called
returns-in-Ask-clause-called g c =
    let told = rw c.in-Ask.is at c.answer_asked-answer.ensures.replied in
    record {
      reply = told.reply;
      made = λ replies held clean. asks_told g.S.Store replies c.args.caller c.args.self.now c.args.line c.in-Ask.query told.reply c.answer_asked-answer.new.room c.in-Ask.is c.requires.going held clean told.made;
      says = told.says;
      opened = told.opened;
      tells = inl (link_same _ _ c.answer_asked-answer.ensures.leaves.desk);
    }

pub returns-in_default-clause-called : goal.returns-in_default-clause-called
returns-in_default-clause-called g c =
    let is = c.do_once.ensures.called in
    let acts : is_question c.args.line.act ≡ false = no_question c.args.line.act c.in_default.not-Ask in
    record {
      reply = is.reply;
      made = λ replies held clean. let made = is.made replies held clean in acts_done g.S.Store replies c.args.caller _ c.args.line _ is.reply _ acts made.0 made.1;
      says = is.says;
      opened = is.opened;
      tells = is.tells;
    }

pub returns-in-Ask-clause-keeps : goal.returns-in-Ask-clause-keeps
returns-in-Ask-clause-keeps g c = record { stops = (λ acts. absurd cc); promise = c.opened-opened.ensures.promise; kept = kept_book _ c.opened-opened.ensures.good; clean = c.answer_asked-answer.ensures.leaves.clean }

pub returns-in_default-clause-keeps : goal.returns-in_default-clause-keeps
returns-in_default-clause-keeps g c = c.do_once.ensures.keeps
