-- The laws of the two tables, as the window's proof takes them.
use Rattle.std.proofs.Common.{◌≡◌, ℕ, Bool, true, false, Option, None, Ok, List}
use Rattle.tc_types.specs.declared.link.frames.Frame.{Frame}
use Rattle.tc_farm.specs.declared.clcws.Clcw.{Clcw}
use Rattle.tc_farm.specs.declared.farms.FarmView.{FarmView}
use Rattle.tc_farm.specs.Farm.{IsFarm, farm_after, verdict_of}
use Rattle.tc_farm.specs.FarmLaws.{IsNumbered, Says}
use Rattle.tc_types.specs.declared.link.directives.Directive.{Directive}
use Rattle.tc_fop.specs.Machine.{Machine, Waiting, Out}
use Rattle.tc_fop.specs.Calls.{offered, directed, reported, ticked, Answers}
use Rattle.tc_fop.specs.Standing.{IsFop}
use Rattle.tc_fop.specs.Laws.{AtWords, AtTicks, AtOffers, AtDirectives}
use Rattle.tc_fop.specs.Requests.{KeepsOrder}
use Rattle.tc_fop.specs.Moves.{MovesIn, Initiates, is_initiation}

pub record Laws : Type 0 where
  pub words : (m : Machine) (word : Option Clcw) (new : Machine) (out : Out)
      → IsFop m → IsFop new → Answers (reported m word) m new (Ok out) → MovesIn m.state word m new out
  pub ticks : AtTicks (λ (offered : List ℕ) (old new : Machine) (out : Out). MovesIn old.state None old new out)
  pub offers : AtOffers (λ (offered : List ℕ) (old new : Machine) (out : Out). MovesIn old.state None old new out)
  pub directives : (m : Machine) (directive : Directive) (new : Machine) (out : Out) → is_initiation directive ≡ false
      → IsFop m → IsFop new → Answers (directed m directive) m new (Ok out) → MovesIn m.state None m new out
  pub initiations : (m : Machine) (directive : Directive) (new : Machine) (out : Out) → is_initiation directive ≡ true
      → IsFop m → IsFop new → Answers (directed m directive) m new (Ok out) → Initiates directive m new out
  pub words_order : AtWords KeepsOrder
  pub ticks_order : AtTicks KeepsOrder
  pub offers_order : AtOffers KeepsOrder
  pub directives_order : AtDirectives KeepsOrder
  pub words_k : (m : Machine) (word : Option Clcw) (new : Machine) (out : Out) → Answers (reported m word) m new (Ok out) → new.k ≡ m.k
  pub ticks_k : (m : Machine) (new : Machine) (out : Out) → Answers (ticked m) m new (Ok out) → new.k ≡ m.k
  pub offers_k : (m : Machine) (w : Waiting) (new : Machine) (out : Out) → Answers (offered m w) m new (Ok out) → new.k ≡ m.k
  pub frames : (farm : FarmView) (frame : Frame) (room : Bool)
      → IsFarm farm → IsNumbered frame → Says (verdict_of farm frame room) farm frame room (farm_after farm frame room)
