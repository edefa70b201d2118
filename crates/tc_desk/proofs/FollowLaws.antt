-- What is known of the spacecraft and the mirror of its schedule, step by step.
use Rattle.std.specs.Prelude.{◌≡◌, List}
use Rattle.tc_types.specs.declared.link.reports.Telemetry.{Telemetry}
use Rattle.tc_board.specs.Board.{BoardState}
use Rattle.tc_board.specs.Follows.{Roll, IsBoardOf, Event, IsEventOf, Makes, read_all}
use Rattle.tc_board.specs.Mirror.{mirror_of}

-- from a state in which the mirror is the schedule, it is the schedule again once the reports of one step are read
abbrev pub FollowsSteps : Type 0
FollowsSteps =
    (roll : Roll) (old new : BoardState) (event : Event) (made : List Telemetry) → IsBoardOf roll old → IsEventOf roll event → Makes old event made new
    → IsBoardOf roll new × (read_all roll (mirror_of old.schedule) made ≡ mirror_of new.schedule)
