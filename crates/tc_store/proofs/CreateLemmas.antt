-- The texts of a chain of CREATE are run one after another, and so are those that write the first tallies.
use Rattle.std.proofs.Common.{◌≡◌, ℕ, ◌+◌, ◌<◌, ◌≤◌, arith, List, [], ◌∷◌, ◌++◌, map, length, take, drop, get_or, Ok, subst, sym, append_assoc}
use Rattle.std.proofs.lemmas.List.{drop_more, drop_all, get_or-map, length-map}
use Rattle.std.specs.Borrow.{Bor}
use Rattle.sqlite_trees.specs.declared.store.Store.{Ghosts}
use Rattle.sqlite_schema.specs.declared.schema.Schema.{Schema}
use Rattle.sqlite.specs.Held.{Held, state}
use Rattle.std.specs.List.{AllByRecursion}
use Rattle.sqlite_value.specs.Order.{Row}
use Rattle.sqlite_keyed.proofs.ListLemmas.{all-append}
use Rattle.sqlite.specs.Effect.{Database}
use Rattle.sqlite.specs.State.{State, Executes}
use Rattle.tc_sql.specs.Contents.{Contents}
use Rattle.tc_sql.specs.Builds.{Builds, BuildsTo}
use Rattle.tc_sql.proofs.Creates.{makes}
use Rattle.tc_types.specs.declared.history.places.Place.{Place}
use Rattle.tc_types.specs.declared.tables.rows.Row.{Row as Entry}
use Rattle.tc_store.specs.Tallies.{first_tally}
use Rattle.tc_store.specs.Steps.{Goes, Ran, IsFilled, HasBehind, Defined, Step}
use Rattle.tc_store.proofs.BehindLemmas.{makes_behind}
use Rattle.tc_store.proofs.StepLemmas.{goes_then, step_more}

-- the texts that are left lead to the schema, and the first of the tables have these rows, the others none
pub record IsLed (after : Schema) (all : Contents) (left : List (List ℕ)) (db : Database) : Type 0 where
  pub builds : Builds db.schema left after
  pub more : Contents
  pub blank : AllByRecursion (λ (e : ℕ × List Row). e.1 ≡ []) more
  pub filled : IsFilled db (all ++ more)

-- whatever the texts led to, those from this one on lead to it now
pub record Leads {S : Type 0} (g : Ghosts S) (texts : List (List ℕ)) (k : ℕ) (old new : Held S) : Type 0 where
  pub builds : (after : Schema) → BuildsTo after texts (state g old).now → BuildsTo after (drop k texts) (state g new).now
  pub behind : (after : Schema) (all : Contents) → Builds (state g old).now.schema texts after → IsFilled (state g old).now all → IsLed after all (drop k texts) (state g new).now
  pub goes : Goes g old new

led_more : (after : Schema) (all : Contents) (text : List ℕ) (texts : List (List ℕ)) (old new : State) (count : ℕ) → IsLed after all (text ∷ texts) old.now → Executes text [] old new (Ok count) → IsLed after all texts new.now
led_more after all text texts old new count it h =
    let made = makes_behind it.builds.0 text (all ++ it.more) old new count it.builds.1 it.filled h in
    record {
      builds = subst (λ s. Builds s texts after) (sym made.schema) it.builds.2;
      more = it.more ++ made.more;
      blank = all-append (λ (e : ℕ × List Row). e.1 ≡ []) it.more made.more it.blank made.blank;
      filled = subst (IsFilled new.now) (append_assoc all it.more made.more) made.filled;
    }

led_all : (after : Schema) (all : Contents) (db : Database) → IsLed after all [] db → HasBehind after all db
led_all after all db it = record { schema = it.builds; more = it.more; blank = it.blank; filled = it.filled }

module _ {S : Type 0} (g : Ghosts S) where
  pub leads_more : (texts : List (List ℕ)) (k count : ℕ) (d : List ℕ) (a b c : Held S) → k < length texts → Leads g texts k a b → Ran g (get_or texts k d) [] count b c → Leads g texts (k + 1) a c
  leads_more texts k count d a b c within one ran = record {
    builds = λ after to. makes after (get_or texts k d) (drop (k + 1) texts) (state g b) (state g c) (Ok count) (subst (λ left. BuildsTo after left (state g b).now) (drop_more texts k d within) (one.builds after to)) ran.executes;
    behind = λ after all to filled. led_more after all (get_or texts k d) (drop (k + 1) texts) (state g b) (state g c) count (subst (λ left. IsLed after all left (state g b).now) (drop_more texts k d within) (one.behind after all to filled)) ran.executes;
    goes = goes_then g a b c one.goes ran.goes;
  }

  pub leads_all : (texts : List (List ℕ)) (k : ℕ) (a b : Held S) → length texts ≤ k → Leads g texts k a b → Defined g texts a b
  leads_all texts k a b all one = record { builds = λ after to. subst (λ left. BuildsTo after left (state g b).now) (drop_all k texts all) (one.builds after to); behind = λ after rows to filled. led_all after rows (state g b).now (subst (λ left. IsLed after rows left (state g b).now) (drop_all k texts all) (one.behind after rows to filled)); goes = one.goes }

  -- the same of texts that are lent
  pub leads_lent : (texts : List (Bor (List ℕ))) (k count : ℕ) (d : Bor (List ℕ)) (a b c : Held S) → k < length texts → Leads g (map (λ text. text.now) texts) k a b
      → Ran g ((get_or texts k d).now) [] count b c → Leads g (map (λ text. text.now) texts) (k + 1) a c
  leads_lent texts k count d a b c within one ran =
      leads_more (map (λ text. text.now) texts) k count [] a b c (omega (arith, within, length-map texts (λ (text : Bor (List ℕ)). text.now))) one
      (subst (λ t. Ran g t [] count b c) (sym (get_or-map (λ (text : Bor (List ℕ)). text.now) texts k d [] within)) ran)

  -- one place more has its tally
  pub first_more : (places : List Place) (k : ℕ) (d : Place) (a b c : Held S) → k < length places → Step g (take k (map first_tally places)) a b → Step g (first_tally (get_or places k d) ∷ []) b c
      → Step g (take (k + 1) (map first_tally places)) a c
  first_more places k d a b c within one two =
      step_more g a b c (map first_tally places) k (first_tally d) (omega (arith, within, length-map places first_tally)) one
      (subst (λ (row : Entry). Step g (row ∷ []) b c) (sym (get_or-map first_tally places k d (first_tally d) within)) two)
