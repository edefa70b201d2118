-- Which requests a command of the on-board schedule may name.
use Rattle.std.specs.Prelude.{◌≡◌, ℕ, Bool, false, not, ◌&&◌, ◌||◌, List, IsSomeAnd}
use Rattle.std.specs.List.{AllByRecursion}
use Rattle.tc_types.specs.declared.requests.Request.{Request}
use Rattle.tc_types.specs.declared.requests.Command.{Command}
use Rattle.tc_types.specs.Schedule.{is_schedule, is_insert, targets_of, has_twice}
use Rattle.tc_book.specs.Book.{request_in}

-- a request that this command may not name: only a plain one may be named, and an insert's asks for its acceptance
abbrev pub is_bad_activity : Command → Request → Bool
is_bad_activity given request = is_schedule request.body.command || (is_insert given && not request.body.ack.acceptance)

-- this request is among these, and is one that the command may name
abbrev pub IsGoodTarget : List Request → Command → ℕ → Type 0
IsGoodTarget requests given n = IsSomeAnd (request_in requests n) (λ named. is_bad_activity given named ≡ false)

-- each request that a command names is, and none is named twice
pub record HasGoodTargets (requests : List Request) (given : Command) : Type 0 where
  pub each : AllByRecursion (IsGoodTarget requests given) (targets_of given)
  pub once : has_twice (targets_of given) ≡ false
