-- A desk that was just made or opened: no row came since, and its link claims nothing.
use Rattle.std.proofs.Common.{◌≡◌, List, [], length, drop, refl, sym, ap, subst, arith}
use Rattle.std.proofs.Math.Seq.{drop-length}
use Rattle.tc_types.specs.declared.history.causes.Cause.TheVariants.{Transmit, Confirm}
use Rattle.tc_types.specs.declared.history.moves.Move.{Move}
use Rattle.tc_world.specs.Sublist.{IsSublist}
use Rattle.tc_world.specs.Window.{IsClaimed}
use Rattle.tc_world.specs.declared.configs.Config.{Config}
use Rattle.tc_book.specs.Book.{Book}
use Rattle.tc_desk.specs.State.{new_desk, new_world}
use Rattle.tc_desk.specs.Rows.{moved_for}
use Rattle.tc_desk.specs.Tied.{IsTied}

-- a link where nothing happened yet is tied to any book: no row came since
pub over_tied : {U D : Type 0} (config : Config) (book : Book) (up : U) (down : D) → IsTied (length book.history) (record (new_desk config up down) { book = book })
over_tied config book up down =
    let none : drop (length book.history) book.history ≡ [] = drop-length book.history in
    record {
      waits = tt;
      sent = tt;
      apart = record { riders = tt; next_riders = tt; apart = tt; next_apart = tt };
      rows = record {
        few = omega arith;
        transmits = ap (moved_for Transmit) none;
        confirms = subst (λ (rows : List Move). IsSublist (moved_for Confirm rows) []) (sym none) refl;
      };
    }

pub new_claims : {U D : Type 0} (config : Config) (up : U) (down : D) → IsClaimed (new_world config up down)
new_claims config up down = record { prefixes = (record { accepted = refl; confirmed = refl }, tt); sent_once = tt; accepted_once = tt }
