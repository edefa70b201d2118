-- What a desk is made of: its book, its link, the rehearsal spacecraft, and the mirror of its schedule.
use Rattle.std.specs.Prelude.{◌≡◌, ◌⊎◌, ℕ, ◌≤◌, ◌/◌, nat_lt, Bool, true, false, if◌then◌else◌, IfErr, OnOk, Option, Some, None, Result, []}
use Rattle.tc_types.specs.declared.refusals.Refusal.{Refusal}
use Rattle.tc_types.specs.declared.refusals.Refusal.TheVariants.{BadDirective, Memory}
use Rattle.tc_farm.specs.Farm.{new_farm}
use Rattle.tc_fop.specs.Calls.{new_machine}
use Rattle.tc_world.specs.declared.configs.Config.{Config}
use Rattle.tc_world.specs.Config.{IsConfig}
use Rattle.tc_world.specs.Logs.{blank}
use Rattle.tc_world.specs.World.{Whole, is_fitting}
use Rattle.tc_board.specs.Board.{BoardState, new_board}
use Rattle.tc_board.specs.Mirror.{MirrorState, no_mirror}
use Rattle.tc_book.specs.Book.{Book, empty_book}

-- a desk is made of what may be chosen alone; else the answer is `BadDirective`, or else `Memory` where that is refused
pub record MakesOf {X : Type 0} (chosen : Config) (result : Result X Refusal) : Type 0 where
  pub config : OnOk result (IsConfig chosen)
  pub refused : IfErr result (λ refusal. ((refusal ≡ BadDirective) × (¬ IsConfig chosen)) ⊎ ((refusal ≡ Memory) × IsConfig chosen))

-- The widest K that fits: half of the FARM's window. While K is at most that, the FARM meets no frame outside its window
-- (CCSDS 232.1-B, 6.1.8).
abbrev pub widest_k : ℕ → ℕ
widest_k window = window / 2

-- K as a desk is made: 10, or the widest that fits
abbrev pub first_k : ℕ → ℕ
first_k window = if nat_lt (widest_k window) 10 then widest_k window else 10

pub record State (U D : Type 0) : Type 0 where
  pub book : Book
  pub world : Whole U D
  pub board : BoardState
  -- the on-board schedule, as the reports that were read tell it
  pub mirror : MirrorState

-- a link where nothing happened yet, over these carriers: the first K, T1_Initial = 10 ticks, Transmission_Limit = 3
abbrev pub new_world : {U D : Type 0} → Config → U → D → Whole U D
new_world config up down = record {
  fop = new_machine (first_k config.window) 10 3;
  farm = new_farm config.window;
  up = up;
  down = down;
  past = [];
  newest = blank 0;
  clean = true;
  fits = is_fitting (new_machine (first_k config.window) 10 3) (new_farm config.window);
  level = false;
  vc = config.channel;
}

-- a desk where nothing happened yet: the spacecraft's time is 0
abbrev pub new_desk : {U D : Type 0} → Config → U → D → State U D
new_desk config up down = record { book = empty_book; world = new_world config up down; board = new_board 0; mirror = no_mirror }

-- A desk: what it is made of; how many rows of the history stood once it was made; and whether all that was put on the downlink
-- since was read, or flies.
pub record DeskState (U D : Type 0) : Type 0 where
  pub parts : State U D
  pub opened : ℕ
  pub whole : Bool

-- a desk where nothing happened yet, just made
abbrev pub made_desk : {U D : Type 0} → Config → U → D → DeskState U D
made_desk config up down = record { parts = new_desk config up down; opened = 0; whole = true }
