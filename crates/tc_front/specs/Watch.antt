-- What is known of a text that grows.
use Rattle.std.specs.Prelude.{ℕ, ◌<◌, ◌≤◌, List, ◌++◌, length, take}
use Rattle.tc_front.specs.declared.watch.Watch.{Watch}
use Rattle.tc_front.specs.Ends.{HasSearched}
use Rattle.tc_front.specs.Front.{Waits}

-- its head is searched up to a place, no text that goes on from it decides with fewer bytes than are wanted, and these are no more than a head
-- and a body may have
pub record Watches (watch : Watch) (text : List ℕ) : Type 0 where
  pub searched : HasSearched watch.search (take 8192 text)
  pub needs : (more : List ℕ) → length (text ++ more) < watch.wanted → Waits (text ++ more)
  pub most : watch.wanted ≤ 73728
