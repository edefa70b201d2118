-- The link, the spacecraft and the mirror after something came to a room.
use Rattle.std.proofs.Common.{◌≡◌, inl, inr, Bool, List, ℕ, refl, sym, ap, subst}
use Rattle.sqlite.specs.Held.{Held}
use Rattle.tc_types.specs.declared.acts.Act.{Act}
use Rattle.tc_types.specs.declared.link.frames.Frame.{Frame}
use Rattle.tc_types.specs.declared.link.reports.Report.{Report}
use Rattle.tc_types.specs.declared.refusals.Refusal.{Refusal}
use Rattle.tc_types.specs.ActGrammar.{SpellsAct}
use Rattle.tc_world.specs.declared.events.LinkIndication.{LinkIndication}
use Rattle.tc_world.specs.EitherLink.{either}
use Rattle.tc_world.specs.World.{IsAsBefore}
use Rattle.tc_book.specs.declared.stamps.Stamp.{Stamp}
use Rattle.tc_desk.specs.declared.firsts.FirstLine.{FirstLine}
use Rattle.tc_desk.specs.Loads.{HasLoaded, Loading, RefusesLoad}
use Rattle.tc_desk.specs.Machine.{StaysSame}
use Rattle.tc_desk.specs.Replies.{Reply}
use Rattle.tc_desk.specs.State.{DeskState}
use Rattle.tc_room.specs.Joined.{Link, LinkState, Standing, desk_in}
use Rattle.tc_room.specs.Truth.{CarriesOut, LeavesLink, TellsTextTrue, TellsTrue}

-- ---- what leaves the link, the spacecraft and the mirror

pub link_stays : {S : Type 0} (at : Standing S) → LeavesLink at at
link_stays at = record { world = record { up = refl; down = refl; rest = refl }; board = refl; mirror = refl; whole = refl }

-- a refused act
pub link_kept : {S : Type 0} (old new : Standing S) → StaysSame either either old.desk new.desk → new.whole ≡ old.whole → LeavesLink old new
link_kept old new same whole = record { world = same.world; board = same.board; mirror = same.mirror; whole = whole }

-- what leaves the desk
pub link_same : {S : Type 0} (old new : Standing S) → desk_in new ≡ desk_in old → LeavesLink old new
link_same old new same = record {
  world = subst (λ (at : DeskState (Link Frame) (Link Report)). IsAsBefore either either old.desk.world at.parts.world) (sym same) (record { up = refl; down = refl; rest = refl });
  board = ap (λ (at : DeskState (Link Frame) (Link Report)). at.parts.board) same;
  mirror = ap (λ (at : DeskState (Link Frame) (Link Report)). at.parts.mirror) same;
  whole = ap (λ (at : DeskState (Link Frame) (Link Report)). at.whole) same;
}

-- a load
pub link_loaded : {S : Type 0} (old new : Standing S) (stamp : Stamp) (given : Loading) (said : List LinkIndication) (line : FirstLine) → HasLoaded stamp given old.desk new.desk said line
    → new.whole ≡ old.whole → LeavesLink old new
link_loaded old new stamp given said line has whole = record {
  world = subst (λ (at : LinkState). IsAsBefore either either old.desk.world at.world) (sym has.is) (record { up = refl; down = refl; rest = refl });
  board = ap (λ (at : LinkState). at.board) has.is;
  mirror = ap (λ (at : LinkState). at.mirror) has.is;
  whole = whole;
}

pub link_refused : {S : Type 0} (old new : Standing S) (stamp : Stamp) (given : Loading) (refusal : Refusal) → RefusesLoad stamp given old.desk new.desk refusal → new.whole ≡ old.whole → LeavesLink old new
link_refused old new stamp given refusal why whole = record {
  world = subst (λ (at : LinkState). IsAsBefore either either old.desk.world at.world) (sym why.same) (record { up = refl; down = refl; rest = refl });
  board = ap (λ (at : LinkState). at.board) why.same;
  mirror = ap (λ (at : LinkState). at.mirror) why.same;
  whole = whole;
}

-- ---- what says nothing of the tables that stood before

abbrev at_desk : {S : Type 0} → DeskState (Link Frame) (Link Report) → Held S → Bool → Standing S
at_desk desk tables stopped = record { desk = desk.parts; opened = desk.opened; whole = desk.whole; tables = tables; stopped = stopped }

module _ {S : Type 0} (desk : DeskState (Link Frame) (Link Report)) (first second : Held S) (one other : Bool) (new : Standing S) where
  link_from : LeavesLink (at_desk desk first one) new → LeavesLink (at_desk desk second other) new
  link_from leaves = record { world = leaves.world; board = leaves.board; mirror = leaves.mirror; whole = leaves.whole }

  carries_from : (given : Act) (reply : Reply) → CarriesOut given reply (at_desk desk first one) new → CarriesOut given reply (at_desk desk second other) new
  carries_from given reply does = record {
    first = does.first;
    said = does.said;
    moves = does.moves;
    told = does.told;
    is_true = record { fair = does.is_true.fair; taken = does.is_true.taken; clean = does.is_true.clean; whole = does.is_true.whole; summary = does.is_true.summary };
  }

  text_from : (text : List ℕ) (reply : Reply) → TellsTextTrue text reply (at_desk desk first one) new → TellsTextTrue text reply (at_desk desk second other) new
  text_from text reply (inl leaves) = inl (link_from leaves)
  text_from text reply (inr (given, spells, does)) = inr (given, spells, carries_from given reply does)

module _ {S : Type 0} (old mid new : Standing S) (same : desk_in mid ≡ desk_in old) where
  pub link_over : LeavesLink mid new → LeavesLink old new
  link_over leaves = subst (λ (desk : DeskState (Link Frame) (Link Report)). LeavesLink (at_desk desk old.tables old.stopped) new) same
      (link_from (desk_in mid) mid.tables old.tables mid.stopped old.stopped new leaves)

  pub text_over : (text : List ℕ) (reply : Reply) → TellsTextTrue text reply mid new → TellsTextTrue text reply old new
  text_over text reply tells = subst (λ (desk : DeskState (Link Frame) (Link Report)). TellsTextTrue text reply (at_desk desk old.tables old.stopped) new) same
      (text_from (desk_in mid) mid.tables old.tables mid.stopped old.stopped new text reply tells)

-- what is true of an act is true of the text that spells it
pub text_true : {S : Type 0} (text : List ℕ) (given : Act) (reply : Reply) (old new : Standing S) → SpellsAct text given → TellsTrue given reply old new → TellsTextTrue text reply old new
text_true text given reply old new spells (inl leaves) = inl leaves
text_true text given reply old new spells (inr does) = inr (given, spells, does)
