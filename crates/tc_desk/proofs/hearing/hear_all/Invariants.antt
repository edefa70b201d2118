use Rattle.std.proofs.Common.{◌≡◌, take}
use Rattle.tc_board.specs.Mirror.{MirrorState}
use Rattle.tc_desk.specs.Effects.{OnlyMoves, heard_all}
use Rattle.tc_desk.proofs.hearing.hear_all.Given as goal

abbrev pub invariant-loop-told : goal.invariant-loop-told
invariant-loop-told g l =
    ((mirror : MirrorState) → l.records.book ≡ heard_all l.stamp mirror (take l.told-index l.said) l.fn.records.book)
    × OnlyMoves l.fn.records l.records
