use Rattle.std.proofs.Common.{◌≡◌, Some, length, take}
use Rattle.tc_desk.specs.Commands.{activities_of}
use Rattle.tc_desk.proofs.commands.insert_of.Given as goal

abbrev pub invariant-loop-index : goal.invariant-loop-index
invariant-loop-index g l = (activities_of l.records.book (take l.index l.named) ≡ Some (take l.index l.places)) × (length l.places ≡ 8)
