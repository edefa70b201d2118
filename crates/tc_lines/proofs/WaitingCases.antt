-- The lines carried out on values whose texts were written by hand.
use Rattle.std.proofs.Common.{◌≡◌, true, false, Some, None, [], ◌∷◌, map, refl}
use Rattle.std.specs.Prelude.{codes}
use Rattle.std.specs.Fmt.{digits}
use Rattle.tc_types.specs.declared.history.places.Place.TheVariants.{Doubtful, Entered}
use Rattle.tc_types.specs.declared.waits.Waiting.TheVariants as waiting
use Rattle.tc_types.specs.WaitingLines.{wanting_phrase, lock_phrase, waiting_line, waiting_count_line}
use Rattle.tc_types.specs.ListLines.{moves_line, standing_line, named_line}
use Rattle.tc_types.specs.StepLines.{procedure_head_line, step_line}

pub waiting-shown : waiting_count_line 0 ∷ map waiting_line (
    waiting.Request 3 (record { author = codes "ann"; critical = false; by = None })
    ∷ waiting.Request 4 (record { author = codes "ann"; critical = true; by = Some (codes "bob") })
    ∷ waiting.Stack (codes "s1") (record { author = codes "cy"; critical = true; by = None }) 12 5
    ∷ waiting.Free 17
    ∷ waiting.Locked 18 (record { stack = codes "s2"; line = 2 })
    ∷ waiting.Doubtful 4294967295
    ∷ waiting.Step 1 (codes "p1") 2 true
    ∷ []) ≡
    codes "waiting 0"
    ∷ codes "request 3 Entered author ann critical no approvals 0 of 1 by -"
    ∷ codes "request 4 Entered author ann critical yes approvals 1 of 2 by bob"
    ∷ codes "stack s1 Entered author cy critical yes approvals 0 of 2 by - rows 12 first 5"
    ∷ codes "request 17 Approved free"
    ∷ codes "request 18 Approved locked by line 2 of s2"
    ∷ codes "request 4294967295 Doubtful"
    ∷ codes "execution 1 p1 next 2 second yes"
    ∷ []
unfolding digits wanting_phrase lock_phrase
waiting-shown = refl

pub lists-shown : moves_line 0 false ∷ moves_line 50 true ∷ standing_line Entered 1 false ∷ standing_line Doubtful 50 true ∷ named_line 7 (record { apid = 2047; count = 0 }) ∷ []
    ≡ codes "moves 0" ∷ codes "moves 50 more" ∷ codes "standing Entered: 1" ∷ codes "standing Doubtful: 50 more" ∷ codes "request 7 2047/0" ∷ []
unfolding digits
lists-shown = refl

pub steps-shown : procedure_head_line (record { name = codes "p1"; author = codes "ann" }) 2
    ∷ step_line (record { procedure = codes "p1"; step = 1; is_countersigned = false; request = None; text = codes "Look at TM 7." })
    ∷ step_line (record { procedure = codes "p1"; step = 2; is_countersigned = true; request = Some 12; text = codes "Release it" })
    ∷ [] ≡
    codes "procedure p1 author ann steps 2"
    ∷ codes "step 1 second no request - Look at TM 7."
    ∷ codes "step 2 second yes request 12 Release it"
    ∷ []
unfolding digits
steps-shown = refl
