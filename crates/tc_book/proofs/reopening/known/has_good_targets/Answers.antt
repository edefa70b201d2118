-- One more that may be named, or one that may not.
use Rattle.std.proofs.Common.{◌≡◌, ◌∙◌, Bool, true, false, not, get_or, refl, sym, ap, subst, take_all}
use Rattle.std.specs.List.{AllByRecursion}
use Rattle.std.proofs.lemmas.List.{get_or_default}
use Rattle.tc_types.specs.Schedule.{targets_of, has_twice}
use Rattle.tc_book.specs.Targets.{IsGoodTarget}
use Rattle.tc_book.proofs.ReopenLemmas.{all_more, all_at}
use Rattle.tc_book.proofs.reopening.known.has_good_targets.Goals as goal

not_true : (t : Bool) → not t ≡ true → t ≡ false
not_true true is = cc
not_true false is = refl

pub returns-then-not-is_good_target : goal.returns-then-not-is_good_target
returns-then-not-is_good_target c = (
  λ never. cc,
  λ has.
      let items : c.as_slice-target-items.result.now ≡ targets_of c.args.command.now = c.as_slice-target-items.ensures.targets ∙ c.targets-targets.ensures in
      sym c.if-not-is_good_target.true
      ∙ c.is_good_target.ensures.1
      (all_at (IsGoodTarget c.args.requests.now c.args.command.now) c.as_slice-target-items.result.now c.loop-target.target-index (get_or c.as_slice-target-items.result.now c.loop-target.target-index 0) c.loop-target-test.true
      (get_or_default c.as_slice-target-items.result.now c.loop-target.target-index 0 _ c.loop-target-test.true) (rw items has.each)),
)

pub loop-target-preserved : goal.loop-target-preserved
loop-target-preserved c =
    all_more (IsGoodTarget c.args.requests.now c.args.command.now) c.as_slice-target-items.result.now c.loop-target.target-index (get_or c.as_slice-target-items.result.now c.loop-target.target-index 0) c.loop-target-test.true
    (get_or_default c.as_slice-target-items.result.now c.loop-target.target-index 0 _ c.loop-target-test.true) c.loop-target.invariant (c.is_good_target.ensures.0 c.if-not-is_good_target.false)

pub returns : goal.returns
returns c =
    let items : c.as_slice-target-items.result.now ≡ targets_of c.args.command.now = c.as_slice-target-items.ensures.targets ∙ c.targets-targets.ensures in
    let all = subst (AllByRecursion (IsGoodTarget c.args.requests.now c.args.command.now)) (take_all c.loop-target.target-index c.as_slice-target-items.result.now c.loop-target-test.false) c.loop-target.invariant in
    let twice : c.has_twice.result ≡ has_twice (targets_of c.args.command.now) = c.has_twice.ensures ∙ ap has_twice c.targets-targets.ensures in (
      λ is. record { each = rw items at all; once = sym twice ∙ not_true c.has_twice.result is },
      λ has. ap not (twice ∙ has.once),
    )
