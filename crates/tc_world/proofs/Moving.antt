-- One call of the FOP, as the window sees it.
use Rattle.std.proofs.Common.{◌≡◌, ◌≤◌, ℕ, Option, ◌++◌}
use Rattle.tc_farm.specs.declared.clcws.Clcw.{Clcw}
use Rattle.tc_fop.specs.Machine.{Out}
use Rattle.tc_fop.specs.Standing.{IsFop}
use Rattle.tc_fop.specs.Moves.{MovesIn}
use Rattle.tc_world.specs.Sublist.{IsSublist}
use Rattle.tc_world.specs.Logs.{noted}
use Rattle.tc_world.specs.Abstraction.{Bare}
use Rattle.tc_world.specs.Kept.{AllReport}

-- a call that is no initiation: what the law says of it, and what is put on a link that only loses
pub record Moving (bound : ℕ) (heard : Option Clcw) (w v : Bare) (out : Out) : Type 0 where
  pub old_fop : IsFop w.fop
  pub fits : w.fop.k ≤ bound
  pub moves : MovesIn w.fop.state heard w.fop v.fop out
  pub up : IsSublist v.up (w.up ++ out.frames)
  pub whole : v ≡ record w { fop = v.fop; up = v.up; newest = noted out w.newest }

-- where this report value is the base, all control words in flight report the base, and V(R) is the base
abbrev pub IsFollowed : ℕ → Bare → Type 0
IsFollowed value w = value ≡ w.newest.base → AllReport w.newest.base w.down × (w.farm.vr ≡ w.newest.base)
