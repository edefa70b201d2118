-- Windows that fit: what a desk promises of its alerts, while every start was good. It needs no premise on K, since the desk
-- sets none that does not fit.
use Rattle.std.specs.Prelude.{◌≡◌, true, false, List}
use Rattle.std.specs.List.{list_all}
use Rattle.tc_farm.specs.Farm.{is_locked_out}
use Rattle.tc_world.specs.declared.events.LinkIndication.{LinkIndication}
use Rattle.tc_world.specs.Fair.{is_fair}
use Rattle.tc_desk.specs.State.{State}

-- the FARM is not in Lockout
abbrev pub IsOpen : {U D : Type 0} → State U D → Type 0
IsOpen at = at.world.clean ≡ true → is_locked_out at.world.farm.state ≡ false

-- No alert is told but one that may come in the state in which the FOP was: T1 and TERM in a session, LIMIT in S1 to S3; and in
-- S4 of a start that was not level NN(R) and SYNCH too.
abbrev pub IsFairlyTold : {U D : Type 0} → State U D → State U D → List LinkIndication → Type 0
IsFairlyTold old new all = new.world.clean ≡ true → list_all (is_fair old.world.level old.world.fop.state) all ≡ true
