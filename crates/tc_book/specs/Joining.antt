-- How the rows of cargo are joined with those of their requests, one request after the other.
use Rattle.std.specs.Prelude.{◌≡◌, ℕ, ◌+◌, ◌==◌, ◌&&◌, if◌then◌else◌, List, [], ◌∷◌, ◌++◌, map}
use Rattle.tc_types.specs.declared.requests.Request.{Request}
use Rattle.tc_types.specs.declared.rides.Ride.{Ride}
use Rattle.tc_types.specs.declared.tables.cargo.Cargo.{Cargo}
use Rattle.tc_types.specs.Grammar.{IsCommand}
use Rattle.tc_book.specs.Cargoes.{alone, cargo_of}

-- the activities of these rows
abbrev pub rides_in : List Cargo → List Ride
rides_in cargo = map (λ (c : Cargo). c.ride) cargo

-- the rows in front that are of request n, one position after the other from this one on
abbrev pub front_from : ℕ → ℕ → List Cargo → List Cargo
front_from n position [] = []
front_from n position (c ∷ cargo) = if c.request == n && c.position == position then c ∷ front_from n (position + 1) cargo else []

-- a request has this row of its own, and these of cargo
pub record HasRows (row : Request) (own : List Cargo) (request : Request) : Type 0 where
  pub itself : alone request ≡ row
  pub carried : cargo_of request ≡ own

-- this request has this row and the rows of cargo in front, and the others are behind them
pub record IsJoined (row : Request) (cargo : List Cargo) (request : Request) (others : List Cargo) : Type 0 where
  pub rows : HasRows row (front_from row.number 2 cargo) request
  pub behind : cargo ≡ front_from row.number 2 cargo ++ others

-- no request has them
abbrev pub IsOfNone : Request → List Cargo → Type 0
IsOfNone row own = (request : Request) → IsCommand request.body.command → ¬ HasRows row own request
