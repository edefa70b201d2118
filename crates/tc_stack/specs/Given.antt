-- The persons, as the code keeps them.
use Rattle.std.specs.Prelude.{ℕ, List, [], ◌∷◌}
use Rattle.tc_stack.specs.declared.approvals.Given.{Given}
use Rattle.tc_stack.specs.declared.approvals.Given.TheVariants.{Nobody, One, Two}

abbrev pub persons_of : Given → List (List ℕ)
persons_of Nobody = []
persons_of (One first) = first ∷ []
persons_of (Two first second) = first ∷ second ∷ []
