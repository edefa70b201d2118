use Rattle.std.proofs.Common.{◌∙◌, rules, sym, arith}
use Rattle.std.proofs.lemmas.Result.{IfOk-weaker}
use Rattle.csv.specs.Records.{fields_of}
use Rattle.tc_csv.specs.declared.columns.Column.TheVariants.{Line}
use Rattle.tc_check.proofs.HeaderLemmas.{next_column, wrong_column, no_column, one_column_more, no_column_more}
use Rattle.tc_check.proofs.headers.columns_found.Goals as goal

pub returns-in_default : goal.returns-in_default
returns-in_default c =
    IfOk-weaker c.missing_column.result _ _
    (λ text is. is ∙ no_column c.args.columns.now (fields_of c.args.fields.now) c.loop-place.place Line _ (search rules) (sym c.in_default.ensures.value) c.loop-place.invariant) c.missing_column.ensures

pub returns-then-not-is_named : goal.returns-then-not-is_named
returns-then-not-is_named c =
    IfOk-weaker c.other_column.result _ _
    (λ text is.
    is ∙ wrong_column c.args.columns.now (fields_of c.args.fields.now) c.loop-place.place Line c.in-Some.field.now _ (search rules) (sym c.in-Some.ensures.value) (sym c.is_named.ensures ∙ c.if-not-is_named.true) c.loop-place.invariant)
    c.other_column.ensures

pub loop-place-preserved : goal.loop-place-preserved
loop-place-preserved c =
    next_column c.args.columns.now (fields_of c.args.fields.now) c.loop-place.place Line c.in-Some.field.now _ (search rules) (sym c.in-Some.ensures.value) (sym c.is_named.ensures ∙ c.if-not-is_named.false) c.loop-place.invariant

pub returns-in-Some-get : goal.returns-in-Some-get
returns-in-Some-get c =
    IfOk-weaker c.extra_column.result _ _
    (λ text is. is ∙ one_column_more c.args.columns.now (fields_of c.args.fields.now) c.loop-place.place c.in-Some-get.field.now _ (omega arith) (sym c.in-Some-get.ensures.value) c.loop-place.invariant)
    c.extra_column.ensures

pub returns-in-None : goal.returns-in-None
returns-in-None c = c.new.ensures.bytes ∙ no_column_more c.args.columns.now (fields_of c.args.fields.now) c.loop-place.place _ (omega arith) (sym c.in-None.ensures.value) c.loop-place.invariant
