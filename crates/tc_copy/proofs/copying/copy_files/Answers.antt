use Rattle.std.proofs.Common.{rules, ◌≡◌, ◌≢◌, ◌<◌, [], ◌∷◌, ◌++◌, ℕ, refl, subst}
use Rattle.tc_copy.specs.declared.copying.Reading.TheVariants.{Whole}
use Rattle.tc_copy.specs.Asked.{paused}
use Rattle.tc_copy.specs.Tries.{AreInVain}
use Rattle.tc_copy.proofs.TryLemmas.{in_vain_till, one_more, whole_at_last}
use Rattle.tc_copy.proofs.copying.copy_files.Goals as goal

pub loop-tried-init : goal.loop-tried-init
loop-tried-init g c = ([], g.met.D.DeskFiles.nothing _, (refl, refl))

pub returns-then-eq : goal.returns-then-eq
returns-then-eq g c =
    let earlier = c.loop-tried.invariant in
    let last = c.in_ok-reading.ensures in
    let whole : c.in_ok-reading.reading ≡ Whole = search rules in
    let less : c.loop-tried.tried < 100 = search rules in (
      earlier.0 ++ last.0,
      g.met.D.DeskFiles.joined _ _ _ earlier.0 last.0 earlier.1 last.1,
      whole_at_last 100 c.loop-tried.tried c.loop-tried.reading c.in_ok-reading.reading earlier.0 last.0 whole less earlier.2 last.2,
    )

pub loop-tried-preserved : goal.loop-tried-preserved
loop-tried-preserved g c =
    let earlier = c.loop-tried.invariant in
    let last = c.in_ok-reading.ensures in
    let joined = g.met.D.DeskFiles.joined in
    let differs : c.in_ok-reading.reading ≢ Whole = search rules in (
      earlier.0 ++ (last.0 ++ paused ∷ []),
      joined _ _ _ earlier.0 (last.0 ++ paused ∷ []) earlier.1 (joined _ _ _ last.0 (paused ∷ []) last.1 c.pause.ensures),
      one_more c.loop-tried.tried c.loop-tried.reading c.in_ok-reading.reading earlier.0 last.0 differs earlier.2 last.2,
    )

pub returns : goal.returns
returns g c =
    let earlier = c.loop-tried.invariant in
    let ended : c.loop-tried.tried ≡ 100 = search rules in
    (earlier.0, earlier.1, in_vain_till 100 c.loop-tried.reading earlier.0 (subst (λ (n : ℕ). AreInVain n c.loop-tried.reading earlier.0) ended earlier.2))
