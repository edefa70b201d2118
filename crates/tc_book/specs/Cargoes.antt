-- An insert in the tables: its first activity stands in the row of its request, and each other one in a row of `cargo`.
use Rattle.std.specs.Prelude.{ℕ, ◌+◌, ◌==◌, List, [], ◌∷◌, ◌++◌, length, map, filter, take, drop}
use Rattle.std.specs.List.{flat_map}
use Rattle.tc_types.specs.declared.requests.Command.{Command}
use Rattle.tc_types.specs.declared.requests.Command.TheVariants as command
use Rattle.tc_types.specs.declared.requests.Request.{Request}
use Rattle.tc_types.specs.declared.rides.Ride.{Ride}
use Rattle.tc_types.specs.declared.tables.cargo.Cargo.{Cargo}

-- ---- a request in its rows

-- a command as the request's own row tells it: an insert with its first activity alone
abbrev pub first_alone : Command → Command
first_alone (command.InsertActivities rides) = command.InsertActivities (take 1 rides)
first_alone other = other

-- a request as its own row tells it
abbrev pub alone : Request → Request
alone r = record r { body = record r.body { command = first_alone r.body.command } }

-- the activities of an insert behind the first
abbrev pub behind_first : Command → List Ride
behind_first (command.InsertActivities rides) = drop 1 rides
behind_first other = []

-- these activities of request n, from this position in its list on
abbrev pub cargo_from : ℕ → ℕ → List Ride → List Cargo
cargo_from n position [] = []
cargo_from n position (ride ∷ rides) = record { request = n; position = position; ride = ride } ∷ cargo_from n (position + 1) rides

-- what the rows of cargo tell of a request
abbrev pub cargo_of : Request → List Cargo
cargo_of r = cargo_from r.number 2 (behind_first r.body.command)

-- how many rows of cargo these requests have
abbrev pub cargo_length : List Request → ℕ
cargo_length requests = length (flat_map cargo_of requests)

-- ---- a request of its rows

-- the activities that these rows tell of request n, in their order
abbrev pub carried_for : List Cargo → ℕ → List Ride
carried_for cargo n = map (λ (c : Cargo). c.ride) (filter (λ (c : Cargo). c.request == n) cargo)

-- a command with more activities behind those of its own row
abbrev pub with_rides : List Ride → Command → Command
with_rides more (command.InsertActivities rides) = command.InsertActivities (rides ++ more)
with_rides more other = other

-- a request of its own row, with what the rows of cargo tell of it
abbrev pub joined : List Cargo → Request → Request
joined cargo r = record r { body = record r.body { command = with_rides (carried_for cargo r.number) r.body.command } }
