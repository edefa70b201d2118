-- Step by step, and in all runs.
use Rattle.std.proofs.Common.{◌≡◌, List, refl, sym, ◌∙◌, ap, subst}
use Rattle.tc_types.specs.declared.link.reports.Telemetry.{Telemetry}
use Rattle.tc_board.specs.Board.{BoardState, new_board}
use Rattle.tc_board.specs.Mirror.{mirror_of}
use Rattle.tc_board.specs.Follows.{Roll, IsBoardOf, Event, Accept, Work, Clock, IsEventOf, Makes, read_all, Runs, Starts, Goes}
use Rattle.tc_board.proofs.SoundLemmas.{new_sound, accepted_sound, worked_sound, clocked_sound}
use Rattle.tc_board.proofs.FollowLemmas.{read-append, accept_follows, work_follows}
use Rattle.tc_board.proofs.DueLemmas.{clock_follows}
use Rattle.tc_board.proofs.laws.mirror_follows.Goals as goal

-- that the mirror follows from one state to another, over these reports
abbrev Follows : Roll → BoardState → List Telemetry → BoardState → Type 0
Follows roll old made new = IsBoardOf roll new × (read_all roll (mirror_of old.schedule) made ≡ mirror_of new.schedule)

-- step by step
step : (roll : Roll) (old new : BoardState) (event : Event) (made : List Telemetry) → IsBoardOf roll old → IsEventOf roll event → Makes old event made new → Follows roll old made new
step roll old new (Accept t) made is request makes =
    subst (λ b. Follows roll old made b) (sym makes.1)
    (accepted_sound roll old t is request, ap (read_all roll (mirror_of old.schedule)) makes.0 ∙ accept_follows roll old t request is.activities)
step roll old new Work made is none makes =
    subst (λ b. Follows roll old made b) (sym makes.1)
    (worked_sound roll old old.buffer is is.requests, ap (read_all roll (mirror_of old.schedule)) makes.0 ∙ work_follows roll old old.buffer is.requests is.activities is.schedule)
step roll old new (Clock time) made is none makes =
    subst (λ b. Follows roll old made b) (sym makes.1)
    (clocked_sound roll time old is, clock_follows roll time old.schedule made is.activities is.schedule makes.0)

-- in all runs
run : (roll : Roll) (old new : BoardState) (made : List Telemetry) → IsBoardOf roll old → Runs roll old made new → Follows roll old made new
run roll old new made is (Starts b) = (is, refl)
run roll old new made is (Goes a b c event before reports runs of makes) =
    let until = run roll a b before is runs in
    let last = step roll b c event reports until.0 of makes in
    (last.0, read-append roll (mirror_of a.schedule) before reports ∙ ap (λ m. read_all roll m reports) until.1 ∙ last.1)

pub returns : goal.returns
returns c = record {
  steps = step;
  runs = λ roll time made new runs. (run roll (new_board time) new made (new_sound roll time) runs).1;
}
