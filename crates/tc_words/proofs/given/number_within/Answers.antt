use Rattle.std.proofs.Common.{◌∙◌, arith}
use Rattle.std.specs.Str.Parse.{ExplainsUnsignedError, HasUnsignedDigitsIfOk, ParsesUnsigned}
use Rattle.clap.specs.Words.{found_of}
use Rattle.tc_words.proofs.NumberLemmas.{kept_in, kept_none, kept_out, read_number}
use Rattle.tc_words.proofs.given.number_within.Goals as goal

pub returns-in-Some-clause-value : goal.returns-in-Some-clause-value
returns-in-Some-clause-value c =
    let read = read_number (λ bs r. ParsesUnsigned 32 10 bs r × ExplainsUnsignedError 10 bs r × HasUnsignedDigitsIfOk bs r) (λ t r gives. gives.0)
    (found_of c.args.matches.now) c.args.id.now c.args.least c.args.most c.get_one.result (omega arith) c.get_one.ensures.none c.get_one.ensures.value in
    kept_in _ _ _ _ c.in-Some.is c.if-least-number.true c.if-number-most.true ∙ read

pub returns-in_default-clause-value : goal.returns-in_default-clause-value
returns-in_default-clause-value c =
    let read = read_number (λ bs r. ParsesUnsigned 32 10 bs r × ExplainsUnsignedError 10 bs r × HasUnsignedDigitsIfOk bs r) (λ t r gives. gives.0)
    (found_of c.args.matches.now) c.args.id.now c.args.least c.args.most c.get_one.result (omega arith) c.get_one.ensures.none c.get_one.ensures.value in
    kept_out _ _ _ _ c.in-Some.is (λ low high. omega arith) ∙ read

pub returns-in_default-2-clause-value : goal.returns-in_default-2-clause-value
returns-in_default-2-clause-value c =
    let read = read_number (λ bs r. ParsesUnsigned 32 10 bs r × ExplainsUnsignedError 10 bs r × HasUnsignedDigitsIfOk bs r) (λ t r gives. gives.0)
    (found_of c.args.matches.now) c.args.id.now c.args.least c.args.most c.get_one.result (omega arith) c.get_one.ensures.none c.get_one.ensures.value in
    kept_out _ _ _ _ c.in-Some.is (λ low high. omega arith) ∙ read

pub returns-in_default-3-clause-value : goal.returns-in_default-3-clause-value
returns-in_default-3-clause-value c =
    let read = read_number (λ bs r. ParsesUnsigned 32 10 bs r × ExplainsUnsignedError 10 bs r × HasUnsignedDigitsIfOk bs r) (λ t r gives. gives.0)
    (found_of c.args.matches.now) c.args.id.now c.args.least c.args.most c.get_one.result (omega arith) c.get_one.ensures.none c.get_one.ensures.value in
    kept_none _ _ _ c.in_default.is ∙ read
