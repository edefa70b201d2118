use Rattle.std.proofs.Common.{rules, ◌∙◌, ap, ◌≡◌, ◌∷◌, refl}
use Rattle.tc_front.proofs.FieldLemmas.{miss, hit, behind, twice, with_found}
use Rattle.tc_front.proofs.fields.find.Goals as goal

pub returns-in_default-found : goal.returns-in_default-found
returns-in_default-found c =
    let is : c.loop-header.left.now ≡ c.in-Some.header.now ∷ c.in-Some.rest.now = search rules in
    twice _ _ _ _ c.loop-header.found c.loop-header.invariant.few c.in_default-found.not-Absent c.loop-header.invariant.all
    (hit c.args.name.now c.args.head.now c.of.result.now _ c.loop-header.left.now c.in-Some.rest.now c.in-Some.header.now _ is (search rules) refl c.is_named.ensures c.if-is_named.true)

pub loop-header-preserved-in-Absent : goal.loop-header-preserved-in-Absent
loop-header-preserved-in-Absent c =
    let is : c.loop-header.left.now ≡ c.in-Some.header.now ∷ c.in-Some.rest.now = search rules in
    record {
      all = (rw c.in-Absent.is at c.loop-header.invariant.all) ∙ hit c.args.name.now c.args.head.now c.of.result.now c.of-in-Absent.result.now c.loop-header.left.now c.in-Some.rest.now c.in-Some.header.now _ is (search rules) (search rules) c.is_named.ensures c.if-is_named.true;
      few = tt;
      within = behind c.args.head.now _ _ _ is c.loop-header.invariant.within;
    }

pub loop-header-preserved : goal.loop-header-preserved
loop-header-preserved c =
    let is : c.loop-header.left.now ≡ c.in-Some.header.now ∷ c.in-Some.rest.now = search rules in
    record {
      all = c.loop-header.invariant.all ∙ ap (with_found c.loop-header.found) (miss c.args.name.now c.args.head.now c.of.result.now c.loop-header.left.now c.in-Some.rest.now c.in-Some.header.now _ is (search rules) c.is_named.ensures c.if-is_named.false);
      few = c.loop-header.invariant.few;
      within = behind c.args.head.now _ _ _ is c.loop-header.invariant.within;
    }
