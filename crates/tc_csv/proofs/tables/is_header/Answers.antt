use Rattle.std.proofs.Common.{rules, ◌≡◌, true, false, ap, ◌∙◌}
use Rattle.csv.specs.Records.{field_at, fields_of}
use Rattle.tc_csv.proofs.HeaderLemmas.{named_more, named_at}
use Rattle.tc_csv.proofs.tables.is_header.Goals as goal

pub returns-then-not-is_named : goal.returns-then-not-is_named
returns-then-not-is_named c =
    let other : c.is_named.result ≡ false = search rules in (
      λ never. cc,
      λ same.
          let named : c.is_named.result ≡ true = c.is_named.ensures.1 (ap (λ fields. field_at fields c.loop-place.place) same ∙ named_at c.args.columns.now c.loop-place.place _ (search rules)) in
          cc,
    )

pub loop-place-preserved : goal.loop-place-preserved
loop-place-preserved c = named_more (fields_of c.args.fields.now) c.args.columns.now c.loop-place.place _ (search rules) (c.is_named.ensures.0 (search rules)) c.loop-place.invariant
