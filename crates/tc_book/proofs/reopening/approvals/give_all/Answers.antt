use Rattle.std.proofs.Common.{◌≡◌, ◌∙◌, true, length, refl, ap}
use Rattle.std.proofs.lemmas.List.{length-map}
use Rattle.tc_book.specs.GoodApprovals.{MayBeGiven}
use Rattle.tc_book.proofs.GivenLemmas.{none_given, all_given, given_at, kept_more, good_more, may_within, may_kept}
use Rattle.tc_book.proofs.reopening.approvals.give_all.Goals as goal

pub loop-approval-init : goal.loop-approval-init
loop-approval-init g c = (c.requires.none, none_given c.args.requests.now)

pub returns-then-not-may_be_given-clause-given : goal.returns-then-not-may_be_given-clause-given
returns-then-not-may_be_given-clause-given g c = (
  λ never. cc,
  λ are.
      let may = given_at c.args.requests.now c.args.approvals.now c.loop-approval.approval-index c.approval-item.result c.loop-approval.kept.items c.requires.good are c.loop-approval-test.true c.approval-item.is c.loop-approval.invariant.0 in
      let yes : c.may_be_given.result ≡ true = c.may_be_given.ensures.1 (rw c.deref.ensures.value may) in cc,
)

pub add_approval-requires-clause-there : goal.add_approval-requires-clause-there
add_approval-requires-clause-there g c =
    let may : MayBeGiven c.args.requests.now c.loop-approval.kept.items c.approval-item.result = rw c.deref.ensures.value at (c.may_be_given.ensures.0 c.if-not-may_be_given.false) in
    (may_within c.args.requests.now c.loop-approval.kept.items c.approval-item.result (ap length c.loop-approval.invariant.0 ∙ length-map c.args.requests.now _) may).1

pub add_approval-requires-clause-may : goal.add_approval-requires-clause-may
add_approval-requires-clause-may g c s =
    let may : MayBeGiven c.args.requests.now c.loop-approval.kept.items c.approval-item.result = rw c.deref.ensures.value at (c.may_be_given.ensures.0 c.if-not-may_be_given.false) in
    let within = may_within c.args.requests.now c.loop-approval.kept.items c.approval-item.result (ap length c.loop-approval.invariant.0 ∙ length-map c.args.requests.now _) may in
    may_kept c.loop-approval.kept.items c.approval-item.result.request c.approval-item.result.person s within.0 within.1 may.1

pub loop-approval-preserved : goal.loop-approval-preserved
loop-approval-preserved g c =
    let may : MayBeGiven c.args.requests.now c.loop-approval.kept.items c.approval-item.result = rw c.deref.ensures.value at (c.may_be_given.ensures.0 c.if-not-may_be_given.false) in (
      kept_more c.args.requests.now c.args.approvals.now c.loop-approval.approval-index c.approval-item.result c.loop-approval.kept.items c.add_approval.new.kept.items c.requires.good c.loop-approval-test.true c.approval-item.is c.loop-approval.invariant.0 may c.add_approval.ensures.items,
      good_more c.args.requests.now c.args.approvals.now c.loop-approval.approval-index c.approval-item.result c.loop-approval.kept.items c.requires.good c.loop-approval-test.true c.approval-item.is c.loop-approval.invariant.0 may c.loop-approval.invariant.1,
    )

pub returns-clause-kept : goal.returns-clause-kept
returns-clause-kept g c _ = (all_given c.args.requests.now c.args.approvals.now c.loop-approval.approval-index c.loop-approval.kept.items c.loop-approval-test.false c.loop-approval.invariant.0 c.loop-approval.invariant.1).0

pub returns-clause-given : goal.returns-clause-given
returns-clause-given g c = (
  λ _. (all_given c.args.requests.now c.args.approvals.now c.loop-approval.approval-index c.loop-approval.kept.items c.loop-approval-test.false c.loop-approval.invariant.0 c.loop-approval.invariant.1).1,
  λ _. refl,
)
