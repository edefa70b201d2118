use Rattle.std.proofs.Common.{◌≡◌, ◌+◌, ℕ, List, length, take, drop}
use Rattle.tc_book.specs.declared.stamps.Stamp.{Stamp}
use Rattle.tc_book.specs.Loads.{with_rows, takes_identity_in_use}
use Rattle.tc_book.proofs.acts.load.takes_identity_in_use.Given as goal

-- the rows so far got identities that are free, so that the others decide
abbrev pub invariant-loop-at : goal.invariant-loop-at
invariant-loop-at g l =
    (stamp : Stamp) (name : List ℕ)
    → takes_identity_in_use stamp name (length l.records.book.requests + 1) 1 l.records.book l.rows
    ≡ takes_identity_in_use stamp name (length l.records.book.requests + 1) (1 + l.at) (with_rows stamp name (length l.records.book.requests + 1) 1 l.records.book (take l.at l.rows)) (drop l.at l.rows)
