-- One line more.
use Rattle.std.proofs.Common.{◌≡◌, ◌∷◌, ◌∙◌, ap, drop, map, refl, arith}
use Rattle.tc_octets.specs.ProfileTexts.{statement_of, statements}
use Rattle.tc_octets.proofs.ProfileTextLemmas.{few_left, fault_here, left_more, sound_more}
use Rattle.tc_octets.proofs.profile_texts.first_fault.Goals as goal

pub overflow_cast-result : goal.overflow_cast-result
overflow_cast-result c =
    let few = few_left c.args.text.now _ _ _ (c.loop-line.invariant.left ∙ ap (map statement_of) c.in-Some.ensures.some) in omega arith

pub overflow_add-result : goal.overflow_add-result
overflow_add-result c =
    let few = few_left c.args.text.now _ _ _ (c.loop-line.invariant.left ∙ ap (map statement_of) c.in-Some.ensures.some) in omega arith

pub overflow_add-count : goal.overflow_add-count
overflow_add-count c =
    let few = few_left c.args.text.now _ _ _ (c.loop-line.invariant.left ∙ ap (map statement_of) c.in-Some.ensures.some) in omega arith

pub returns-in-Some-fault_of : goal.returns-in-Some-fault_of
returns-in-Some-fault_of c =
    fault_here _ _ _ _ _ _ refl (c.loop-line.invariant.left ∙ ap (map statement_of) c.in-Some.ensures.some) c.loop-line.invariant.sound
    c.in-Some-fault_of.ensures

pub loop-line-preserved : goal.loop-line-preserved
loop-line-preserved c =
    let left : drop c.loop-line.count (statements c.args.text.now) ≡ statement_of c.in-Some.line.now ∷ map statement_of c.next.new.self =
    c.loop-line.invariant.left ∙ ap (map statement_of) c.in-Some.ensures.some in
    record {
      left = left_more (statements c.args.text.now) (map statement_of c.next.new.self) c.loop-line.count (statement_of c.in-Some.line.now) left;
      sound =
          sound_more (statements c.args.text.now) (map statement_of c.next.new.self) c.loop-line.count (statement_of c.in-Some.line.now) left
          c.loop-line.invariant.sound c.in_default-fault_of.ensures;
    }
