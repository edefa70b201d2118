-- One activity more, or one that is not there.
use Rattle.std.proofs.Common.{◌≡◌, ℕ, zero, suc, ◌<◌, Option, Some, None, List, [], ◌∷◌, ◌++◌, length, take, get_or, refl, sym, ◌∙◌, ap, arith}
use Rattle.std.specs.Option.{option_map}
use Rattle.std.proofs.lemmas.List.{take_more, take_more_set, length-set}
use Rattle.tc_types.specs.declared.link.activities.Activity.{Activity}
use Rattle.tc_types.specs.declared.rides.Ride.{Ride}
use Rattle.tc_types.specs.declared.link.telecommands.ScheduleCommand.TheVariants as schedule
use Rattle.tc_book.specs.Book.{Book}
use Rattle.tc_desk.specs.Commands.{both_of, flown_activity, activities_of}
use Rattle.tc_desk.proofs.commands.insert_of.Goals as goal

some_same : {X : Type 0} {a b : X} → ◌≡◌ {A = Option X} (Some a) (Some b) → a ≡ b
some_same e = cc

-- behind others that are there
one_more : (book : Book) (rides : List Ride) (ride : Ride) (before : List Activity) (a : Activity) → activities_of book rides ≡ Some before → flown_activity book ride ≡ Some a
    → activities_of book (rides ++ ride ∷ []) ≡ Some (before ++ a ∷ [])
one_more book [] ride before a all one =
    let none : [] ≡ before = some_same all in
    ap (λ (f : Option Activity). both_of f (Some [])) one ∙ ap (λ (l : List Activity). Some (l ++ a ∷ [])) none
one_more book (r ∷ rides) ride before a all one = by_parts (flown_activity book r) (activities_of book rides) (λ others is. one_more book rides ride others a is one) refl refl all
  where
    by_parts : (f : Option Activity) (o : Option (List Activity)) → ((others : List Activity) → activities_of book rides ≡ Some others → activities_of book (rides ++ ride ∷ []) ≡ Some (others ++ a ∷ []))
        → flown_activity book r ≡ f → activities_of book rides ≡ o → both_of f o ≡ Some before → both_of (flown_activity book r) (activities_of book (rides ++ ride ∷ [])) ≡ Some (before ++ a ∷ [])
    by_parts None o more ef eo h = cc
    by_parts (Some x) None more ef eo h = cc
    by_parts (Some x) (Some others) more ef eo h =
        let is : x ∷ others ≡ before = some_same h in
        ap (λ (f : Option Activity). both_of f (activities_of book (rides ++ ride ∷ []))) ef ∙ ap (both_of (Some x)) (more others eo) ∙ ap (λ (l : List Activity). Some (l ++ a ∷ [])) is

-- one is not there
one_missing : (book : Book) (rides : List Ride) (k : ℕ) (d : Ride) → k < length rides → flown_activity book (get_or rides k d) ≡ None → activities_of book rides ≡ None
one_missing book [] k d within none = absurd (omega (arith, within))
one_missing book (r ∷ rides) zero d within none = ap (λ (f : Option Activity). both_of f (activities_of book rides)) none
one_missing book (r ∷ rides) (suc k) d within none = ap (both_of (flown_activity book r)) (one_missing book rides k d (omega (arith, within)) none) ∙ none_behind (flown_activity book r)
  where
    none_behind : (f : Option Activity) → both_of f None ≡ None
    none_behind None = refl
    none_behind (Some x) = refl

pub returns-in_err-places-2 : goal.returns-in_err-places-2
returns-in_err-places-2 g c =
    let gone : c.from_residual-in_err-places-2.result ≡ None = grind arith in
    let none : flown_activity c.args.records.now.book (get_or c.as_slice-named.result.now c.loop-index.index c.index-named-index.result) ≡ None =
    ap (flown_activity c.args.records.now.book) (sym c.index-named-index.is) ∙ sym c.flown_activity-in-loop-index.ensures ∙ c.in_err-places-2.was in
    let missing = one_missing c.args.records.now.book c.as_slice-named.result.now c.loop-index.index c.index-named-index.result c.loop-index-test.true none in
    let all : activities_of c.args.records.now.book c.args.rides.now ≡ None = ap (activities_of c.args.records.now.book) (sym c.as_slice-named.ensures.rides) ∙ missing in
    gone ∙ sym (ap (option_map schedule.Insert) all)

pub loop-index-preserved : goal.loop-index-preserved
loop-index-preserved g c =
    let one : flown_activity c.args.records.now.book (get_or c.as_slice-named.result.now c.loop-index.index c.index-named-index.result) ≡ Some c.in_ok-places-2.field-0 =
    ap (flown_activity c.args.records.now.book) (sym c.index-named-index.is) ∙ sym c.flown_activity-in-loop-index.ensures ∙ c.in_ok-places-2.was in
    let long = c.loop-index.invariant.1 in
    let few = c.as_slice-named.ensures.few.few in
    let as_many = ap length c.as_slice-named.ensures.rides in
    let on = c.loop-index-test.true in
    let low : c.loop-index.index < length c.loop-index.places = omega (arith, on, as_many, few, long) in (
      ap (activities_of c.args.records.now.book) (take_more c.as_slice-named.result.now c.loop-index.index c.index-named-index.result on)
          ∙ one_more c.args.records.now.book (take c.loop-index.index c.as_slice-named.result.now) (get_or c.as_slice-named.result.now c.loop-index.index c.index-named-index.result)
          (take c.loop-index.index c.loop-index.places) c.in_ok-places-2.field-0 c.loop-index.invariant.0 one
          ∙ ap Some (sym (take_more_set c.loop-index.places c.loop-index.index c.in_ok-places-2.field-0 low)),
      length-set c.loop-index.places c.loop-index.index c.in_ok-places-2.field-0 ∙ long,
    )
