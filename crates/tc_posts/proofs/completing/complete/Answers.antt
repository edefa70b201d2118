use Rattle.std.proofs.Common.{arith, rules, ◌≡◌, ◌<◌, ◌++◌, [], ◌∷◌, List, None, append_assoc, append-nil, subst, sym}
use Rattle.tc_posts.specs.Completing.{Asks, Completes, IsCut, IsWhole}
use Rattle.tc_posts.specs.Posting.{moves_bytes}
use Rattle.tc_posts.specs.Steps.{Step, sent}
use Rattle.tc_posts.specs.Told.{answer_of}
use Rattle.tc_posts.proofs.completing.complete.Goals as goal

pub returns-in_default : goal.returns-in_default
returns-in_default g c =
    let here = c.loop-told.invariant in
    let answer = answer_of c.loop-told.told in
    let none : c.loop-told.told.last ≡ None = search rules in (
      here.0,
      here.1,
      subst (λ (steps : List Step). Completes c.args.port (answer_of c.args.told) steps answer) (append-nil here.0) (here.2 [] answer (IsCut answer none)),
    )

pub loop-told-preserved : goal.loop-told-preserved
loop-told-preserved g c =
    let here = c.loop-told.invariant in
    let answer = answer_of c.loop-told.told in
    let next = c.in_ok-told.ensures in
    let asks = sent (moves_bytes c.args.port c.in-Some.after) next.0 ∷ [] in
    let some : 0 < c.loop-told.told.more = search rules in (
      here.0 ++ asks,
      g.met.C.Client.joined _ _ _ here.0 asks here.1 next.1,
      λ rest last completes.
          subst (λ (steps : List Step). Completes c.args.port (answer_of c.args.told) steps last) (sym (append_assoc here.0 asks rest))
          (here.2 (asks ++ rest) last (Asks answer (answer_of c.in_ok-told.told) last c.in-Some.after next.0 rest some c.in-Some.is next.2 completes)),
    )

pub returns : goal.returns
returns g c =
    let here = c.loop-told.invariant in
    let answer = answer_of c.loop-told.told in
    let none : c.loop-told.told.more ≡ 0 = grind arith in (
      here.0,
      here.1,
      subst (λ (steps : List Step). Completes c.args.port (answer_of c.args.told) steps answer) (append-nil here.0) (here.2 [] answer (IsWhole answer none)),
    )
