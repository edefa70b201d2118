-- What a receiver of CLTUs gives over many octets.
use Rattle.std.specs.Prelude.{◌≡◌, ℕ, Bool, false, List, [], ◌∷◌, ◌++◌, replicate, Option, Some, None}
use Rattle.std.specs.List.{concat, fold}
use Rattle.tc_octets.specs.declared.codeblocks.Mode.{Mode}
use Rattle.tc_octets.specs.Cltus.{Place, Receiver, searching, received}

-- where a receiver is, and what has ended since
pub record Run : Type 0 where
  pub place : Place
  pub ended : List (List ℕ)

abbrev pub added : List (List ℕ) → Option (List ℕ) → List (List ℕ)
added ended None = ended
added ended (Some information) = ended ++ information ∷ []

-- one octet more
abbrev pub came : Mode → Run → ℕ → Run
came mode run octet = record { place = (received mode run.place octet).place; ended = added run.ended (received mode run.place octet).ended }

-- these octets, one after the other
abbrev pub run : Mode → Run → List ℕ → Run
run mode start octets = fold (came mode) start octets

-- octets that come in pieces
abbrev pub run_pieces : Mode → Run → List (List ℕ) → Run
run_pieces mode start pieces = fold (run mode) start pieces

-- so many octets of idle
abbrev pub idle : ℕ → List ℕ
idle count = replicate count 0x55

-- Fifteen octets of idle bring this receiver to where it looks for a start sequence of which nothing has come.
pub record IdleRestores (receiver : Receiver) : Type 0 where
  pub place : (ended : List (List ℕ))
      → (run receiver.mode (record { place = receiver.last.place; ended = ended }) (idle 15)).place ≡ searching false

-- These octets bring this information. A receiver that looks for a start sequence gives it and nothing else, in whatever pieces the octets come, and
-- then looks for the next. So does one that they reach after any noise and fifteen octets of idle: it gives what the noise gave, and then this.
pub record Brings (octets information : List ℕ) : Type 0 where
  pub whole : (mode : Mode) (begun : Bool) (ended pieces : List (List ℕ)) → concat pieces ≡ octets
      → run_pieces mode (record { place = searching begun; ended = ended }) pieces
      ≡ record { place = searching false; ended = ended ++ information ∷ [] }
  pub noisy : (mode : Mode) (noise : List ℕ) (pieces : List (List ℕ)) → concat pieces ≡ noise ++ idle 15 ++ octets
      → run_pieces mode (record { place = searching false; ended = [] }) pieces
      ≡ record {
        place = searching false;
        ended = (run mode (record { place = searching false; ended = [] }) (noise ++ idle 15)).ended ++ information
            ∷ [];
      }
