-- What stands of a desk between two acts stands after each.
use Rattle.std.proofs.Common.{◌∷◌, [], ◌∙◌, ap, refl, Option, ◌≡◌, ℕ, true, None, List, length, sym, subst}
use Rattle.tc_types.specs.declared.link.frames.Frame.{Frame}
use Rattle.tc_types.specs.declared.link.reports.Report.{Report}
use Rattle.tc_types.specs.declared.link.reports.Report.TheVariants as report
use Rattle.tc_types.specs.declared.link.reports.Telemetry.TheVariants as telemetry
use Rattle.tc_types.specs.declared.link.telecommands.ScheduleCommand.{ScheduleCommand}
use Rattle.tc_types.specs.declared.acts.Act.{Act}
use Rattle.tc_world.specs.declared.events.LinkIndication.{LinkIndication}
use Rattle.tc_world.specs.Links.{Kind}
use Rattle.tc_world.specs.Window.{IsClaimed}
use Rattle.tc_world.specs.World.{all_sent}
use Rattle.tc_world.proofs.Bridge.{OnlyLoses}
use Rattle.tc_board.specs.Schedule.{ScheduleState, IsSchedule, summary_of}
use Rattle.tc_board.specs.Mirror.{MirrorState, mirror_after, mirror_of}
use Rattle.tc_book.specs.declared.stamps.Stamp.{Stamp}
use Rattle.tc_book.specs.Book.{Book}
use Rattle.tc_book.specs.Good.{IsGoodBook}
use Rattle.tc_book.specs.Sound.{IsSound}
use Rattle.tc_book.specs.Tables.{image_of}
use Rattle.tc_desk.specs.declared.firsts.FirstLine.{FirstLine}
use Rattle.tc_world.specs.declared.configs.Config.{Config}
use Rattle.tc_desk.specs.Downlink.{came_down, KeepsWhole}
use Rattle.tc_desk.specs.Followed.{mirror_through}
use Rattle.tc_desk.specs.State.{new_desk, State, DeskState}
use Rattle.tc_desk.specs.Acts.{refusal_of}
use Rattle.tc_desk.specs.Headline.{TakesAccepted}
use Rattle.tc_desk.specs.Machine.{Does, StaysSame}
use Rattle.tc_desk.specs.Promise.{KeepsPromise, TakenOnce}
use Rattle.tc_desk.specs.Tied.{IsTied}
use Rattle.tc_desk.specs.Standing.{IsStanding, StaysTrue}
use Rattle.tc_desk.proofs.DownLemmas.{does_down}
use Rattle.tc_desk.proofs.FollowLaws.{FollowsSteps}
use Rattle.tc_desk.proofs.FollowedActs.{does_stay, does_carry, does_followed, same_followed, over_followed}
use Rattle.tc_desk.proofs.ReadActs.{does_read}
use Rattle.tc_desk.proofs.NewLemmas.{over_tied, new_claims}
use Rattle.tc_desk.proofs.TiedActs.{does_tied, same_tied}
use Rattle.tc_book.proofs.ConservedLemmas.{conserved}
use Rattle.tc_desk.proofs.GivenLemmas.{does_give, same_gives}
use Rattle.tc_desk.proofs.HeadlineLemmas.{does_take, told_bodies, same_claims, taken_once}
use Rattle.tc_desk.proofs.RollOfLemmas.{BookStays}
use Rattle.tc_desk.proofs.FairLemmas.{Fits, new_fits, before_fits, does_fit}

-- what an act gives the spacecraft is what the book makes of it
pub does_take_known : {U D : Type 0} (up : Kind U Frame) (down : Kind D Report) (stamp : Stamp) (given : Act) (old new : DeskState U D) (all : List LinkIndication) (first : FirstLine)
    → OnlyLoses up → OnlyLoses down → IsGoodBook old.parts.book → refusal_of stamp old.parts given ≡ None → Does up down stamp given old.parts new.parts all first
    → IsStanding up down old → TakesAccepted given old.parts new.parts
does_take_known up down stamp given old new all first ul dl good passes does stands =
    let stays : BookStays old.parts.book new.parts.book (all_sent old.parts.world) = does_stay up down old.opened stamp given old.parts new.parts all first good passes stands.tied does in
    does_take up down stamp given old.parts new.parts all first does
    (told_bodies new.parts.book (all_sent new.parts.world) all (does_carry up down stamp given old.parts new.parts all first ul dl stays does stands.followed.payloads).told)

-- an act that was carried out
pub does_stand : {U D : Type 0} (up : Kind U Frame) (down : Kind D Report) (stamp : Stamp) (given : Act) (old new : DeskState U D) (all : List LinkIndication) (first : FirstLine)
    → FollowsSteps → OnlyLoses up → OnlyLoses down → IsGoodBook old.parts.book → IsGoodBook new.parts.book
    → refusal_of stamp old.parts given ≡ None → Does up down stamp given old.parts new.parts all first → new.opened ≡ old.opened
    → (new.parts.world.clean ≡ true → IsClaimed new.parts.world) → KeepsWhole down given old new all → IsStanding up down old → IsStanding up down new
does_stand up down stamp given old new all first law ul dl good goes_on passes does opened claims whole stands =
    let fits : Fits new.parts.world = does_fit up down stamp given old.parts new.parts all first passes does (stands.fits, stands.open_farm) in
    let stays : BookStays old.parts.book new.parts.book (all_sent old.parts.world) = does_stay up down old.opened stamp given old.parts new.parts all first good passes stands.tied does in
    let tied : IsTied new.opened new.parts = subst (λ o. IsTied o new.parts) (sym opened) (does_tied old.opened up down stamp given old.parts new.parts all first good passes does stands.tied) in
    record {
      tied = tied;
      good = goes_on;
      claims = claims;
      fits = fits.0;
      open_farm = fits.1;
      given = does_give given old.parts new.parts stays.payload (does_take_known up down stamp given old new all first ul dl good passes does stands) stands.given;
      followed = does_followed up down stamp given old new all first law ul dl good goes_on passes does stands.tied tied whole (does_down up down ul dl stamp given old.parts new.parts all first does) stands.followed;
    }

-- one that was refused
pub same_stand : {U D : Type 0} (up : Kind U Frame) (down : Kind D Report) → OnlyLoses up → OnlyLoses down → (old new : DeskState U D) → StaysSame up down old.parts new.parts → new.opened ≡ old.opened → new.whole ≡ old.whole
    → IsStanding up down old → IsStanding up down new
same_stand up down ul dl old new same opened whole stands =
    let fits : Fits new.parts.world = before_fits up down old.parts.world new.parts.world same.world (stands.fits, stands.open_farm) in record {
      tied = subst (λ o. IsTied o new.parts) (sym opened) (same_tied old.opened up down old.parts new.parts same stands.tied);
      good = subst IsGoodBook (sym same.book) stands.good;
      claims = same_claims up down old.parts.world new.parts.world same.world stands.claims;
      fits = fits.0;
      open_farm = fits.1;
      given = same_gives up down old.parts new.parts same stands.given;
      followed = same_followed up down ul dl old new same whole stands.followed;
    }

-- while every start was good, what the rows call confirmed was taken on board once
pub stands_once : {U D : Type 0} (up : Kind U Frame) (down : Kind D Report) (desk : DeskState U D) → IsStanding up down desk → desk.parts.world.clean ≡ true → TakenOnce desk.opened desk.parts
stands_once up down desk stands clean = taken_once desk.opened desk.parts stands.tied (stands.claims clean)

-- the promise is kept
pub stands_kept : {U D : Type 0} (up : Kind U Frame) (down : Kind D Report) (desk : DeskState U D) → IsStanding up down desk → KeepsPromise down desk
stands_kept up down desk stands = record {
  places = conserved desk.parts.book.history;
  moves = stands.good.history;
  transmitted = stands.tied.rows.transmits;
  confirmed = stands.tied.rows.confirms;
  window = stands.claims;
  once = stands_once up down desk stands;
  open_farm = stands.open_farm;
  given = stands.given;
  mirror = stands.followed.follows;
}

-- what is true of it after a call
pub stands_still : {U D : Type 0} (up : Kind U Frame) (down : Kind D Report) (old new : DeskState U D) → IsStanding up down new → new.opened ≡ old.opened → IsSound (image_of new.parts.book) → StaysTrue down old new
stands_still up down old new stands opened sound = record { opened = opened; good = stands.good; sound = sound; promise = stands_kept up down new stands }

-- of a desk that was just opened, over any book
over_stands : {U D : Type 0} (up : Kind U Frame) (down : Kind D Report) (config : Config) (book : Book) (u : U) (d : D) → up.content u ≡ [] → down.content d ≡ [] → IsGoodBook book
    → IsStanding up down (record { parts = record (new_desk config u d) { book = book }; opened = length book.history; whole = true })
over_stands up down config book u d empty_up empty_down good = record {
  tied = over_tied config book u d;
  good = good;
  claims = λ clean. new_claims config u d;
  fits = (new_fits config u d).0;
  open_farm = (new_fits config u d).1;
  given = record { requests = refl; bodies = tt };
  followed = over_followed up down config book (length book.history) u d empty_up empty_down;
}

-- the same, of parts that are known by an equation
pub opened_stands : {U D : Type 0} (up : Kind U Frame) (down : Kind D Report) (config : Config) (book : Book) (u : U) (d : D) (parts : State U D) (opened : ℕ)
    → up.content u ≡ [] → down.content d ≡ [] → IsGoodBook book → parts ≡ record (new_desk config u d) { book = book } → opened ≡ length parts.book.history
    → IsStanding up down (record { parts = parts; opened = opened; whole = true })
opened_stands {U} {D} up down config book u d parts opened empty_up empty_down good are rows =
    subst (λ (o : ℕ). IsStanding up down (record { parts = parts; opened = o; whole = true })) (sym rows)
    (subst (λ (p : State U D). IsStanding up down (record { parts = p; opened = length p.book.history; whole = true })) (sym are) (over_stands up down config book u d empty_up empty_down good))

-- a summary that was read makes the mirror what it carries
pub summary_read : {U D : Type 0} (up : Kind U Frame) (down : Kind D Report) (stamp : Stamp) (given : Act) (old new : State U D) (all : List LinkIndication) (first : FirstLine)
    → ((before : MirrorState) (command : Option ScheduleCommand) (s : ScheduleState) → IsSchedule s.activities → mirror_after before (report.Telemetry (telemetry.Summary (summary_of s)), command) ≡ mirror_of s)
    → Does up down stamp given old new all first → (s : ScheduleState) → IsSchedule s.activities → came_down all ≡ report.Telemetry (telemetry.Summary (summary_of s)) ∷ [] → new.mirror ≡ mirror_of s
summary_read up down stamp given old new all first law does s is came =
    does_read up down stamp given old new all first does ∙ ap (λ items. mirror_through new.book items old.mirror) came ∙ law old.mirror None s is
