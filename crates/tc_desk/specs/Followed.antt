-- That the mirror of the schedule follows the spacecraft: what is known of what flew.
use Rattle.std.specs.Prelude.{◌≡◌, ℕ, ◌==◌, true, Option, Some, None, List, ◌++◌, fold}
use Rattle.std.specs.List.{list_any, AllByRecursion}
use Rattle.tc_types.specs.declared.link.frames.Frame.{Frame}
use Rattle.tc_types.specs.declared.link.reports.Report.{Report}
use Rattle.tc_types.specs.declared.link.reports.Report.TheVariants as report
use Rattle.tc_types.specs.declared.requests.Identity.{Identity}
use Rattle.tc_types.specs.declared.requests.Request.{Request}
use Rattle.tc_types.specs.declared.link.telecommands.Payload.{Payload}
use Rattle.tc_types.specs.declared.link.telecommands.Telecommand.{Telecommand}
use Rattle.tc_world.specs.Abstraction.{seen}
use Rattle.tc_world.specs.Links.{Kind}
use Rattle.tc_world.specs.Payloads.{IsOneOf, AreCarried}
use Rattle.tc_world.specs.World.{all_sent}
use Rattle.tc_board.specs.Follows.{Roll, IsBoardOf}
use Rattle.tc_board.specs.Mirror.{MirrorState, mirror_after, mirror_of}
use Rattle.tc_board.specs.Names.{IsNamed, AreNamed}
use Rattle.tc_book.specs.Book.{Book, request_at}
use Rattle.tc_desk.specs.Asks.{command_told}
use Rattle.tc_desk.specs.Commands.{command_at, payload_of}
use Rattle.tc_desk.specs.Riders.{carried_by}
use Rattle.tc_desk.specs.State.{DeskState}

-- the name of a request; no report tells one of a request that nobody entered
abbrev pub identity_in : Option Request → Identity
identity_in None = record { apid = 0; count = 0 }
identity_in (Some request) = request.body.identity

-- what is known of each request, where these were sent: who rides inside one of them, who is called what, and who is which
-- command
abbrev pub roll_of : Book → List ℕ → Roll
roll_of book sent = record {
  rides = λ (n : ℕ). list_any (λ (m : ℕ). m == n) (carried_by book sent);
  identity_of = λ (n : ℕ). identity_in (request_at book n);
  command_of = λ (n : ℕ). command_at book n;
}

-- what flies of a request is what the book says of it
abbrev pub IsPayloadOf : Book → ℕ → Payload → Type 0
IsPayloadOf book n body = (request : Request) × (request_at book n ≡ Some request) × (body ≡ payload_of book request.body)

-- the part of a telecommand that flew
abbrev pub payload_in : Telecommand → Payload
payload_in t = record { identity = t.identity; ack = t.ack; task = t.task }

-- a telecommand is the one that the book makes of the request with its number: its identity, its reports, and what it asks
abbrev pub IsTelecommandOf : Book → Telecommand → Type 0
IsTelecommandOf book t = IsPayloadOf book t.request (payload_in t)

-- a request that is one of these that were sent, or rides inside one of them
abbrev pub IsFlown : Book → List ℕ → ℕ → Type 0
IsFlown book sent n = IsOneOf n (sent ++ carried_by book sent)

-- what flies down names one of which K holds, if it names any
abbrev pub IsNamedDown : (ℕ → Type 0) → Report → Type 0
IsNamedDown K (report.Word word) = Unit {0}
IsNamedDown K (report.Telemetry item) = IsNamed K item

-- the mirror once these were read, in order, each with the command that flew
abbrev pub mirror_through : Book → List Report → MirrorState → MirrorState
mirror_through book items mirror = fold (λ (m : MirrorState) (item : Report). mirror_after m (item, command_told book item)) mirror items

-- while nothing of the downlink was lost, the mirror becomes the on-board schedule once what flies is read
abbrev pub IsMirrored : {U D : Type 0} → Kind D Report → DeskState U D → Type 0
IsMirrored down desk =
    desk.whole ≡ true → mirror_through desk.parts.book (down.content desk.parts.world.down) desk.parts.mirror ≡ mirror_of desk.parts.board.schedule

-- Of a desk, with the telemetry in flight as the downlink's content has it.
pub record IsFollowed {U D : Type 0} (up : Kind U Frame) (down : Kind D Report) (desk : DeskState U D) : Type 0 where
  -- what flies of each request, and what comes on board, is what the book says of it
  pub payloads : AreCarried (IsPayloadOf desk.parts.book) (seen up down desk.parts.world)
  -- the spacecraft holds what was sent to it
  pub board : IsBoardOf (roll_of desk.parts.book (all_sent desk.parts.world)) desk.parts.board
  pub named : AreNamed (IsFlown desk.parts.book (all_sent desk.parts.world)) desk.parts.board
  pub flying : AllByRecursion (IsNamedDown (IsFlown desk.parts.book (all_sent desk.parts.world))) (down.content desk.parts.world.down)
  pub follows : IsMirrored down desk
