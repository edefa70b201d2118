-- Which verbs ask a question, and which place has a name.
use Rattle.std.proofs.Common.{◌≡◌, ℕ, Bool, true, false, nat_eq, Option, Some, None, List, [], ◌∷◌, refl, ap, ◌∙◌}
use Rattle.std.specs.Prelude.{codes, IfSome, ⊤, if◌then◌else◌}
use Rattle.std.specs.List.{find}
use Rattle.std.specs.Cmp.Lexicographic.{pointwise, bytes_decides}
use Rattle.tc_types.specs.declared.acts.Query.{Query}
use Rattle.tc_types.specs.declared.acts.Query.TheVariants as query
use Rattle.tc_types.specs.declared.acts.LinkAct.{LinkAct}
use Rattle.tc_types.specs.declared.acts.LinkAct.TheVariants as link_act
use Rattle.tc_types.specs.declared.link.directives.Directive.TheVariants as directive
use Rattle.tc_types.specs.declared.history.places.Place.{Place}
use Rattle.tc_types.specs.declared.history.places.Place.TheVariants as place
use Rattle.tc_types.specs.ActGrammar.{query_words, asks}
use Rattle.tc_types.specs.LinkGrammar.{link_act_words}
use Rattle.tc_types.specs.Lines.{place_name}
use Rattle.tc_types.specs.Grammar.{Reads}
use Rattle.tc_types.specs.declared.history.places.TheConstants.{ALL_PLACES}

-- the first of some words
first_word : List (List ℕ) → List ℕ
first_word [] = []
first_word (word ∷ words) = word

asks_first : (q : Query) → asks (first_word (query_words q)) ≡ true
unfolding asks first_word
asks_first query.Places = refl
asks_first (query.History request after) = refl
asks_first (query.Request request) = refl
asks_first query.Link = refl
asks_first query.Schedule = refl
asks_first (query.Log execution) = refl
asks_first (query.Report from to) = refl
asks_first query.Waiting = refl
asks_first (query.Urgent from) = refl
asks_first (query.Moves after) = refl
asks_first (query.Standing place after) = refl
asks_first (query.Steps procedure) = refl

asks_none : (a : LinkAct) → asks (first_word (link_act_words a)) ≡ false
unfolding asks first_word
asks_none (link_act.Release request) = refl
asks_none (link_act.Direct directive.InitiateNone) = refl
asks_none (link_act.Direct directive.InitiateCheck) = refl
asks_none (link_act.Direct directive.InitiateUnlock) = refl
asks_none (link_act.Direct (directive.InitiateSetVr v)) = refl
asks_none (link_act.Direct directive.Terminate) = refl
asks_none (link_act.Direct (directive.SetVs v)) = refl
asks_none (link_act.Direct (directive.SetK k)) = refl
asks_none (link_act.Direct (directive.SetT1 t1)) = refl
asks_none (link_act.Direct (directive.SetLimit limit)) = refl
asks_none link_act.Tick = refl
asks_none link_act.Up = refl
asks_none (link_act.LoseUp place) = refl
asks_none (link_act.LoseDown place) = refl
asks_none link_act.Clcw = refl
asks_none link_act.Down = refl
asks_none link_act.Work = refl
asks_none (link_act.Clock time) = refl

-- the verb of a question asks one
pub asked : (q : Query) (verb : List ℕ) (others : List (List ℕ)) → verb ∷ others ≡ query_words q → asks verb ≡ true
unfolding first_word
asked q verb others e = ap asks (ap first_word e) ∙ asks_first q

-- that of an act on the link does not
pub unasked : (a : LinkAct) (verb : List ℕ) (others : List (List ℕ)) → verb ∷ others ≡ link_act_words a → asks verb ≡ false
unfolding first_word
unasked a verb others e = ap asks (ap first_word e) ∙ asks_none a

-- the place that a word names
place_named : List ℕ → List Place → Option Place
place_named word places = find (λ at. pointwise nat_eq word (place_name at)) places

found_named : (word : List ℕ) (places : List Place) → IfSome (place_named word places) (λ at. (word ≡ place_name at) × ⊤)
unfolding place_named
found_named word [] = tt
found_named word (at ∷ places) = by_test (pointwise nat_eq word (place_name at)) (bytes_decides word (place_name at)).0 (found_named word places)
  where
    by_test : (test : Bool) → (test ≡ true → word ≡ place_name at) → IfSome (find (λ at. pointwise nat_eq word (place_name at)) places) (λ at. (word ≡ place_name at) × ⊤)
        → IfSome (if test then Some at else find (λ at. pointwise nat_eq word (place_name at)) places) (λ at. (word ≡ place_name at) × ⊤)
    by_test true same others = (same refl, tt)
    by_test false same others = others

only_named : (at : Place) → place_named (place_name at) ALL_PLACES ≡ Some at
unfolding place_named
only_named place.Entered = refl
only_named place.Approved = refl
only_named place.Queued = refl
only_named place.Sent = refl
only_named place.Confirmed = refl
only_named place.Riding = refl
only_named place.Scheduled = refl
only_named place.Accepted = refl
only_named place.Started = refl
only_named place.Completed = refl
only_named place.Failed = refl
only_named place.Doubtful = refl
only_named place.Withdrawn = refl
only_named place.Deleted = refl
only_named place.Closed = refl

pub place_read : (word : List ℕ) (read : Option Place) → read ≡ find (λ at. pointwise nat_eq word (place_name at)) ALL_PLACES → Reads place_name (λ at. ⊤) word read
unfolding place_named
place_read word read e = record {
  found = rw e (found_named word ALL_PLACES);
  only = λ at in_range is. rw (e, is) (only_named at);
}
