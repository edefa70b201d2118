-- The tallies tell it: Riding is the sixth place.
use Rattle.std.proofs.Common.{◌≡◌, ℕ, ◌-◌, List, get_or, ◌∙◌, ap, arith}
use Rattle.tc_desk.specs.Effects.{riding}
use Rattle.tc_desk.proofs.flights.riding.Goals as goal

pub returns-clause-riding : goal.returns-clause-riding
unfolding riding
returns-clause-riding g c =
    let number = c.number.ensures.value in
    let from = c.from.ensures in
    let sixth : c.from.result - 1 ≡ 5 = omega (arith, number, from) in
    ap (λ i. get_or c.tallies-tallies.result i 0) sixth ∙ ap (λ (l : List ℕ). get_or l 5 0) c.tallies-tallies.ensures
