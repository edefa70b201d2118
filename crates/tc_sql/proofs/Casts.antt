-- A row of integers, texts and NULLs that fits its columns is stored as it is.
use Rattle.std.proofs.Common.{◌≡◌, ℕ, List, [], ◌∷◌, Bool, true, false, cond, refl, ap, ◌∙◌}
use Rattle.sqlite_value.specs.declared.value.Value.{Value}
use Rattle.sqlite_value.specs.declared.value.Value.TheVariants.{Null, Int, Real, Text, Blob}
use Rattle.sqlite_value.specs.Order.{Row}
use Rattle.sqlite_sql.specs.Ops.{unary}
use Rattle.sqlite_schema.specs.declared.schema.Kind.{Kind}
use Rattle.sqlite_schema.specs.declared.schema.Kind.TheVariants as kind
use Rattle.sqlite_schema.specs.declared.schema.Column.{Column}
use Rattle.sqlite_rules.specs.Cast.{cast, cast_all, cast_row}
use Rattle.sqlite_keyed.proofs.RuleLemmas.{first_of_both, second_of_both}
use Rattle.tc_sql.specs.Forms.{Form, table_of, takes, all_fit, row_fits}

either : (b : Bool) (x : Value) → cond b x x ≡ x
either true x = refl
either false x = refl

pub cast_fits : (k : Kind) (v : Value) → takes k v ≡ true → cast k v ≡ v
unfolding unary
cast_fits kind.Integer Null h = either _ Null
cast_fits kind.Integer (Int n) h = either _ (Int n)
cast_fits kind.Integer (Real x) h = absurd cc
cast_fits kind.Integer (Text t) h = absurd cc
cast_fits kind.Integer (Blob b) h = absurd cc
cast_fits kind.Real v h = absurd cc
cast_fits kind.Text Null h = refl
cast_fits kind.Text (Int n) h = absurd cc
cast_fits kind.Text (Real x) h = absurd cc
cast_fits kind.Text (Text t) h = refl
cast_fits kind.Text (Blob b) h = absurd cc
cast_fits kind.Blob v h = absurd cc
cast_fits kind.Any v h = absurd cc

pub cast_all_fits : (cs : List Column) (vs : Row) → all_fit cs vs ≡ true → cast_all cs vs ≡ vs
cast_all_fits [] vs h = refl
cast_all_fits (c ∷ cs) [] h = refl
cast_all_fits (c ∷ cs) (v ∷ vs) h =
    ap (λ x. x ∷ cast_all cs vs) (cast_fits c.kind v (first_of_both _ _ h)) ∙ ap (λ xs. v ∷ xs) (cast_all_fits cs vs (second_of_both _ _ h))

pub cast_row_fits : (form : Form) (tree : ℕ) (row : Row) → row_fits form row ≡ true → cast_row (table_of form tree) row ≡ row
cast_row_fits form tree [] h = absurd cc
cast_row_fits form tree (v ∷ vs) h =
    ap (λ x. x ∷ cast_all form.columns vs) (cast_fits kind.Integer v (first_of_both _ _ h)) ∙ ap (λ xs. v ∷ xs) (cast_all_fits form.columns vs (second_of_both _ _ h))
