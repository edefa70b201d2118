-- What the ground knows may grow: of what the spacecraft was given, it stays the same.
use Rattle.std.proofs.Common.{◌≡◌, ℕ, List, [], ◌∷◌, refl, ◌∙◌, ap}
use Rattle.std.specs.List.{AllByRecursion}
use Rattle.tc_types.specs.declared.link.activities.Activity.{Activity}
use Rattle.tc_types.specs.declared.link.reports.Report.TheVariants as report
use Rattle.tc_types.specs.declared.link.reports.Telemetry.{Telemetry}
use Rattle.tc_types.specs.declared.link.reports.Telemetry.TheVariants as telemetry
use Rattle.tc_types.specs.declared.link.telecommands.Telecommand.{Telecommand}
use Rattle.tc_board.specs.Board.{BoardState}
use Rattle.tc_board.specs.Mirror.{MirrorState, mirror_after}
use Rattle.tc_board.specs.Follows.{Roll, IsActivityOf, command_in, inserted, IsRequestOf, IsBoardOf, with_command, read_all}
use Rattle.tc_board.specs.Names.{IsNamed, Knows, AreNamed, Agrees}
use Rattle.tc_board.proofs.SoundLemmas.{each_both}

-- an activity as the desk inserts it stays one
activity_agrees : (K : ℕ → Type 0) (old new : Roll) → Agrees K old new → (a : Activity) → K a.request → IsActivityOf old a → IsActivityOf new a
activity_agrees K old new agrees a known is = record {
  rides = agrees.rides a.request known ∙ is.rides;
  named = agrees.identity a.request known ∙ is.named;
  plain = agrees.command a.request known ∙ is.plain;
  acknowledged = is.acknowledged;
}

-- so do all of a list
activities_agree : (K : ℕ → Type 0) (old new : Roll) → Agrees K old new → (xs : List Activity) → AllByRecursion (λ (a : Activity). K a.request) xs → AllByRecursion (IsActivityOf old) xs → AllByRecursion (IsActivityOf new) xs
activities_agree K old new agrees = each_both (λ (a : Activity). K a.request) (IsActivityOf old) (IsActivityOf new) (activity_agrees K old new agrees)

-- a request as the desk releases it stays one
request_agrees : (K : ℕ → Type 0) (old new : Roll) → Agrees K old new → (t : Telecommand) → Knows K t → IsRequestOf old t → IsRequestOf new t
request_agrees K old new agrees t known is = record {
  flies = agrees.rides t.request known.request ∙ is.flies;
  command = agrees.command t.request known.request ∙ is.command;
  inserts = activities_agree K old new agrees (inserted (command_in t.task)) known.inserts is.inserts;
}

-- a spacecraft that holds what the desk releases still does
pub board_agrees : (K : ℕ → Type 0) (old new : Roll) (b : BoardState) → Agrees K old new → AreNamed K b → IsBoardOf old b → IsBoardOf new b
board_agrees K old new b agrees named is = record {
  requests = each_both (Knows K) (IsRequestOf old) (IsRequestOf new) (request_agrees K old new agrees) b.buffer named.buffer is.requests;
  activities = activities_agree K old new agrees b.schedule.activities named.activities is.activities;
  schedule = is.schedule;
}

-- reports that name what the spacecraft was given are read alike
pub read_agrees : (K : ℕ → Type 0) (old new : Roll) (m : MirrorState) (made : List Telemetry) → ((n : ℕ) → K n → new.command_of n ≡ old.command_of n) → AllByRecursion (IsNamed K) made → read_all new m made ≡ read_all old m made
read_agrees K old new m [] same named = refl
read_agrees K old new m (telemetry.Verification verification request identity ∷ made) same named =
    ap (λ command. read_all new (mirror_after m (report.Telemetry (telemetry.Verification verification request identity), command)) made) (same request named.0)
    ∙ read_agrees K old new (mirror_after m (with_command old (telemetry.Verification verification request identity))) made same named.1
read_agrees K old new m (telemetry.Summary summary ∷ made) same named = read_agrees K old new (mirror_after m (with_command old (telemetry.Summary summary))) made same named.1
