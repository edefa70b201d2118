-- What stands of a desk between two acts stands after a load.
use Rattle.std.proofs.Common.{◌≡◌, ℕ, Ok, Err, Result, List, [], ◌++◌, sym, ◌∙◌, subst, append-nil}
use Rattle.tc_types.specs.declared.link.frames.Frame.{Frame}
use Rattle.tc_types.specs.declared.refusals.Refusal.{Refusal}
use Rattle.tc_types.specs.declared.link.reports.Report.{Report}
use Rattle.tc_fop.specs.Requests.{waiting_requests}
use Rattle.tc_world.specs.declared.events.LinkIndication.{LinkIndication}
use Rattle.tc_world.specs.Abstraction.{seen}
use Rattle.tc_world.specs.Links.{Kind}
use Rattle.tc_world.specs.Window.{all_confirmed}
use Rattle.tc_world.specs.World.{all_sent}
use Rattle.tc_world.proofs.AllLists.{all_follow}
use Rattle.tc_world.proofs.Payloads.{payloads_weaker}
use Rattle.tc_board.specs.Names.{Agrees}
use Rattle.tc_board.proofs.NameLemmas.{names_weaker}
use Rattle.tc_board.proofs.RollLemmas.{board_agrees}
use Rattle.tc_book.specs.declared.stamps.Stamp.{Stamp}
use Rattle.tc_book.specs.Book.{Book}
use Rattle.tc_book.specs.Good.{IsGoodBook}
use Rattle.tc_book.specs.Steps.{HasSteps}
use Rattle.tc_desk.specs.declared.firsts.FirstLine.{FirstLine}
use Rattle.tc_desk.specs.Followed.{roll_of, IsPayloadOf, IsFlown, IsNamedDown, IsFollowed}
use Rattle.tc_desk.specs.Loads.{Loading, loaded_with, LoadAnswers}
use Rattle.tc_desk.specs.Riders.{carried_by, NoneIsOf}
use Rattle.tc_desk.specs.Standing.{IsStanding}
use Rattle.tc_desk.specs.State.{State, DeskState}
use Rattle.tc_desk.proofs.BookSteps.{TiedAlong, steps_tied}
use Rattle.tc_desk.proofs.GivenLemmas.{bodies_stay}
use Rattle.tc_desk.proofs.ReadLemmas.{named_down_weaker, through_agrees}
use Rattle.tc_desk.proofs.RollOfLemmas.{flown_grows, grown_agrees}

-- the desk with another book
abbrev with_book : {U D : Type 0} → DeskState U D → Book → DeskState U D
with_book desk book = record desk { parts = record desk.parts { book = book } }

-- the mirror follows the spacecraft, where the book says what it said of those that were sent
steps_followed : {U D : Type 0} (up : Kind U Frame) (down : Kind D Report) (desk : DeskState U D) (book : Book)
    → TiedAlong desk.opened desk.parts.book book (waiting_requests desk.parts.world.fop) (all_sent desk.parts.world) (all_confirmed desk.parts.world)
    → IsFollowed up down desk → IsFollowed up down (with_book desk book)
steps_followed {U} {D} up down desk book along followed = record {
  payloads = payloads_weaker (IsPayloadOf old) (IsPayloadOf book) (seen up down desk.parts.world) along.stays.payload followed.payloads;
  board = board_agrees K (roll_of old sent) (roll_of book sent) desk.parts.board agrees followed.named followed.board;
  named = names_weaker K K_after desk.parts.board grows followed.named;
  flying = all_follow (IsNamedDown K) (IsNamedDown K_after) (down.content desk.parts.world.down) (named_down_weaker K K_after grows) followed.flying;
  follows = λ whole. through_agrees K old book (down.content desk.parts.world.down) desk.parts.mirror along.stays.command followed.flying ∙ followed.follows whole;
}
  where
    old : Book
    old = desk.parts.book

    sent : List ℕ
    sent = all_sent desk.parts.world

    K : ℕ → Type 0
    K = IsFlown old sent

    K_after : ℕ → Type 0
    K_after = IsFlown book sent

    apart : NoneIsOf (sent ++ []) (carried_by book (sent ++ []))
    apart = subst (λ (l : List ℕ). NoneIsOf l (carried_by book l)) (sym (append-nil sent)) along.tied.apart.apart

    agrees : Agrees K (roll_of old sent) (roll_of book sent)
    agrees = subst (λ (l : List ℕ). Agrees K (roll_of old sent) (roll_of book l)) (append-nil sent) (grown_agrees old book sent [] along.stays apart)

    grows : (n : ℕ) → K n → K_after n
    grows n flown = subst (λ (l : List ℕ). IsFlown book l n) (append-nil sent) (flown_grows old book sent [] along.stays n flown)

steps_stand : {U D : Type 0} (up : Kind U Frame) (down : Kind D Report) (stamp : Stamp) (desk : DeskState U D) (book : Book) → HasSteps stamp desk.parts.book book → IsGoodBook book
    → IsStanding up down desk → IsStanding up down (with_book desk book)
steps_stand up down stamp desk book steps good stands =
    let along = steps_tied desk.opened stamp desk.parts.book book (waiting_requests desk.parts.world.fop) (all_sent desk.parts.world) (all_confirmed desk.parts.world) steps stands.tied in
    record { tied = along.tied; good = good; claims = stands.claims; fits = stands.fits; open_farm = stands.open_farm; given = record { requests = stands.given.requests; bodies = bodies_stay desk.parts.book book along.stays.payload _ stands.given.bodies }; followed = steps_followed up down desk book along stands.followed }

-- a load that was carried out
load_stands : {U D : Type 0} (up : Kind U Frame) (down : Kind D Report) (stamp : Stamp) (old : DeskState U D) (parts : State U D) (book : Book)
    → parts ≡ record old.parts { book = book } → HasSteps stamp old.parts.book parts.book → IsGoodBook parts.book
    → IsStanding up down old → IsStanding up down (record old { parts = parts })
load_stands {U} {D} up down stamp old parts book is steps good stands =
    subst (λ (at : State U D). IsStanding up down (record old { parts = at })) (sym is)
    (steps_stand up down stamp old book (subst (λ (at : State U D). HasSteps stamp old.parts.book at.book) is steps) (subst (λ (at : State U D). IsGoodBook at.book) is good) stands)

-- and one that was refused
pub answered_stands : {X U D : Type 0} (up : Kind U Frame) (down : Kind D Report) (all : X → List LinkIndication) (first : X → FirstLine) (stamp : Stamp) (given : Loading)
    (old : DeskState U D) (parts : State U D) (answer : Result X Refusal)
    → LoadAnswers all first old.parts stamp given parts answer → HasSteps stamp old.parts.book parts.book → IsGoodBook parts.book → IsStanding up down old → IsStanding up down (record old { parts = parts })
answered_stands up down all first stamp given old parts (Ok done) answers steps good stands =
    load_stands up down stamp old parts (loaded_with stamp given old.parts.book) answers.is steps good stands
answered_stands {X} {U} {D} up down all first stamp given old parts (Err refused) answers steps good stands =
    subst (λ (at : State U D). IsStanding up down (record old { parts = at })) (sym answers.same) stands
