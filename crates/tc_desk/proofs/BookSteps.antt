-- What the book does by itself, step by step, keeps the tie between book and link, and what flies.
use Rattle.std.proofs.Common.{◌≡◌, ◌⊎◌, inl, inr, ℕ, ◌+◌, ◌≤◌, true, false, Option, None, List, [], ◌∷◌, length, drop, refl, sym, ◌∙◌, ap, subst}
use Rattle.tc_types.specs.declared.history.moves.Move.{Move}
use Rattle.tc_types.specs.declared.history.places.Place.{Place}
use Rattle.tc_types.specs.declared.history.places.Place.TheVariants as place
use Rattle.tc_types.specs.declared.history.causes.Cause.TheVariants as cause
use Rattle.tc_types.specs.declared.requests.Form.{Form}
use Rattle.tc_types.specs.declared.requests.Origin.{Origin}
use Rattle.tc_types.specs.declared.acts.BookAct.{BookAct}
use Rattle.tc_types.specs.History.{place_of}
use Rattle.tc_types.specs.Lawful.{is_among}
use Rattle.tc_world.specs.Kept.{Each}
use Rattle.tc_book.specs.declared.stamps.Stamp.{Stamp}
use Rattle.tc_book.specs.Acts.{first_refusal, tests_of as book_tests, acted as book_acted}
use Rattle.tc_book.specs.Book.{Book, place_in, moved, want, with_request}
use Rattle.tc_book.specs.Good.{IsGoodBook}
use Rattle.tc_book.specs.Steps.{HasWithdrawn, HasClosed, HasApproved, HasNoted, IsStep, StepsOver, HasSteps}
use Rattle.tc_book.proofs.GoodLemmas.{next_nowhere}
use Rattle.tc_book.proofs.StepLemmas.{acted_steps}
use Rattle.tc_desk.specs.Places.{gone_places, StandsAt}
use Rattle.tc_desk.specs.Riders.{riding_places, carried_by}
use Rattle.tc_desk.specs.Rows.{moved_for}
use Rattle.tc_desk.specs.Tied.{AreTied}
use Rattle.tc_desk.proofs.PlaceLemmas.{not_there, not_here, either}
use Rattle.tc_desk.proofs.RiderLemmas.{same_carried, entered_carried, apart_stays}
use Rattle.tc_desk.proofs.RollOfLemmas.{BookStays, same_stays, entered_stays, then_stays}
use Rattle.tc_desk.proofs.RowLemmas.{StillTold, moved_still, entered_still, still_told}
use Rattle.tc_desk.proofs.TiedLemmas.{each_map, moved_keeps, Gone}

-- ---- what a step keeps

-- who stands at one of these places still does
abbrev KeepsAt : List Place → Book → Book → Type 0
KeepsAt good old new = (m : ℕ) → StandsAt good old m → StandsAt good new m

-- those who wait, who were sent and who ride still do, and no more is told of the link
record StepKept (o : ℕ) (old new : Book) : Type 0 where
  waits : KeepsAt (place.Queued ∷ []) old new
  sent : KeepsAt gone_places old new
  riders : KeepsAt riding_places old new
  still : StillTold o old new

-- the next request stood nowhere
entered_keeps : (stamp : Stamp) (book : Book) (origin : Option Origin) (entry : Form) (good : List Place) → IsGoodBook book → KeepsAt good book (with_request stamp book origin entry)
entered_keeps stamp book origin entry good is_good m = moved_keeps stamp book (length book.requests + 1) place.Entered cause.Enter good m
    (λ h. let no : is_among good None ≡ true = sym (ap (is_among good) (next_nowhere book is_good)) ∙ h in let never : false ≡ true = no in cc)

entered_kept : (o : ℕ) (stamp : Stamp) (book : Book) (origin : Option Origin) (entry : Form) → IsGoodBook book → StepKept o book (with_request stamp book origin entry)
entered_kept o stamp book origin entry good = record {
  waits = entered_keeps stamp book origin entry (place.Queued ∷ []) good;
  sent = entered_keeps stamp book origin entry gone_places good;
  riders = entered_keeps stamp book origin entry riding_places good;
  still = entered_still o stamp book origin entry;
}

withdrawn_kept : (o : ℕ) (stamp : Stamp) (book : Book) (n : ℕ) → StandsAt (place.Entered ∷ place.Approved ∷ []) book n → StepKept o book (moved stamp book (want n place.Withdrawn cause.Withdraw))
withdrawn_kept o stamp book n here = record {
  waits = λ m. moved_keeps stamp book n place.Withdrawn cause.Withdraw (place.Queued ∷ []) m (either place.Entered place.Approved (place.Queued ∷ []) (place_in book n) place.Withdrawn here refl refl);
  sent = λ m. moved_keeps stamp book n place.Withdrawn cause.Withdraw gone_places m (either place.Entered place.Approved gone_places (place_in book n) place.Withdrawn here refl refl);
  riders = λ m. moved_keeps stamp book n place.Withdrawn cause.Withdraw riding_places m (either place.Entered place.Approved riding_places (place_in book n) place.Withdrawn here refl refl);
  still = moved_still o stamp book n place.Withdrawn cause.Withdraw (record { transmits = refl; confirms = refl });
}

closed_kept : (o : ℕ) (stamp : Stamp) (book : Book) (n : ℕ) → StandsAt (place.Confirmed ∷ place.Riding ∷ place.Scheduled ∷ place.Accepted ∷ place.Started ∷ place.Doubtful ∷ []) book n
    → StepKept o book (moved stamp book (want n place.Closed cause.Close))
closed_kept o stamp book n here = record {
  waits = λ m. moved_keeps stamp book n place.Closed cause.Close (place.Queued ∷ []) m
      (not_here place.Queued (place.Confirmed ∷ place.Riding ∷ place.Scheduled ∷ place.Accepted ∷ place.Started ∷ place.Doubtful ∷ []) (place_in book n) place.Closed here refl);
  sent = λ m. moved_keeps stamp book n place.Closed cause.Close gone_places m (λ h. refl);
  riders = λ m. moved_keeps stamp book n place.Closed cause.Close riding_places m (λ h. refl);
  still = moved_still o stamp book n place.Closed cause.Close (record { transmits = refl; confirms = refl });
}

approved_kept : (o : ℕ) (stamp : Stamp) (book : Book) (n : ℕ) → StandsAt (place.Entered ∷ []) book n → StepKept o book (moved stamp book (want n place.Approved cause.Approve))
approved_kept o stamp book n here = record {
  waits = λ m. moved_keeps stamp book n place.Approved cause.Approve (place.Queued ∷ []) m (not_there place.Entered (place.Queued ∷ []) (place_in book n) place.Approved here refl);
  sent = λ m. moved_keeps stamp book n place.Approved cause.Approve gone_places m (not_there place.Entered gone_places (place_in book n) place.Approved here refl);
  riders = λ m. moved_keeps stamp book n place.Approved cause.Approve riding_places m (not_there place.Entered riding_places (place_in book n) place.Approved here refl);
  still = moved_still o stamp book n place.Approved cause.Approve (record { transmits = refl; confirms = refl });
}

noted_kept : (o : ℕ) (old new : Book) → HasNoted old new → StepKept o old new
noted_kept o old new noted = record {
  waits = λ m h. stays (place.Queued ∷ []) m ∙ h;
  sent = λ m h. stays gone_places m ∙ h;
  riders = λ m h. stays riding_places m ∙ h;
  still = record {
    few = λ few. subst (λ (history : List Move). o ≤ length history) (sym noted.history) few;
    transmits = λ few. ap (λ (history : List Move). moved_for cause.Transmit (drop o history)) noted.history;
    confirms = λ few. ap (λ (history : List Move). moved_for cause.Confirm (drop o history)) noted.history;
  };
}
  where
    stays : (good : List Place) (m : ℕ) → is_among good (place_in new m) ≡ is_among good (place_in old m)
    stays good m = ap (λ (history : List Move). is_among good (place_of history m)) noted.history

step_kept : (o : ℕ) (stamp : Stamp) (old new : Book) → IsStep stamp old new → StepKept o old new
step_kept o stamp old new (inl entered) = subst (StepKept o old) (sym entered.is) (entered_kept o stamp old entered.origin entered.entry entered.good)
step_kept o stamp old new (inr (inl withdrawn)) = subst (StepKept o old) (sym withdrawn.is) (withdrawn_kept o stamp old withdrawn.request withdrawn.there)
step_kept o stamp old new (inr (inr (inl closed))) = subst (StepKept o old) (sym closed.is) (closed_kept o stamp old closed.request closed.there)
step_kept o stamp old new (inr (inr (inr (inl approved)))) = subst (StepKept o old) (sym approved.is) (approved_kept o stamp old approved.request approved.there)
step_kept o stamp old new (inr (inr (inr (inr noted)))) = noted_kept o old new noted

-- ---- what flies

-- the requests of these steps are those that were
moved_requests : (stamp : Stamp) (old new : Book) → HasWithdrawn stamp old new ⊎ HasClosed stamp old new ⊎ HasApproved stamp old new ⊎ HasNoted old new → new.requests ≡ old.requests
moved_requests stamp old new (inl withdrawn) = ap (λ (book : Book). book.requests) withdrawn.is
moved_requests stamp old new (inr (inl closed)) = ap (λ (book : Book). book.requests) closed.is
moved_requests stamp old new (inr (inr (inl approved))) = ap (λ (book : Book). book.requests) approved.is
moved_requests stamp old new (inr (inr (inr noted))) = noted.requests

step_carried : (stamp : Stamp) (old new : Book) (good : List Place) (xs : List ℕ) → IsStep stamp old new → Each (StandsAt good old) xs → carried_by new xs ≡ carried_by old xs
step_carried stamp old new good xs (inl entered) all =
    ap (λ (book : Book). carried_by book xs) entered.is ∙ entered_carried stamp old entered.origin entered.entry good xs entered.good all
step_carried stamp old new good xs (inr other) all = same_carried old new xs (moved_requests stamp old new other)

step_stays : (stamp : Stamp) (old new : Book) (sent : List ℕ) → IsStep stamp old new → Gone old sent → Each (StandsAt riding_places old) (carried_by old sent) → BookStays old new sent
step_stays stamp old new sent (inl entered) gone rides =
    subst (λ (book : Book). BookStays old book sent) (sym entered.is) (entered_stays stamp entered.origin entered.entry old sent entered.good gone rides)
step_stays stamp old new sent (inr other) gone rides = same_stays old new sent (moved_requests stamp old new other)

-- ---- steps

step_tied : (o : ℕ) (stamp : Stamp) (old new : Book) (waits sent confirmed : List ℕ) → IsStep stamp old new → AreTied o old waits sent confirmed → AreTied o new waits sent confirmed
step_tied o stamp old new waits sent confirmed step tied =
    let kept = step_kept o stamp old new step in
    record {
      waits = each_map _ _ waits kept.waits tied.waits;
      sent = each_map _ _ sent kept.sent tied.sent;
      apart = apart_stays old new waits sent (step_carried stamp old new (place.Queued ∷ []) waits step tied.waits) (step_carried stamp old new gone_places sent step tied.sent) kept.riders tied.apart;
      rows = still_told o old new sent confirmed kept.still tied.rows;
    }

-- The tie stands, and what the book says of those that were sent does.
pub record TiedAlong (o : ℕ) (old new : Book) (waits sent confirmed : List ℕ) : Type 0 where
  pub tied : AreTied o new waits sent confirmed
  pub stays : BookStays old new sent

over_tied : (o : ℕ) (stamp : Stamp) (over : List Book) (old new : Book) (waits sent confirmed : List ℕ) → StepsOver stamp old over new → AreTied o old waits sent confirmed
    → TiedAlong o old new waits sent confirmed
over_tied o stamp [] old new waits sent confirmed steps tied =
    subst (λ (book : Book). TiedAlong o old book waits sent confirmed) (sym steps) (record { tied = tied; stays = same_stays old old sent refl })
over_tied o stamp (book ∷ over) old new waits sent confirmed steps tied =
    let others = over_tied o stamp over book new waits sent confirmed steps.1 (step_tied o stamp old book waits sent confirmed steps.0 tied) in
    record { tied = others.tied; stays = then_stays old book new sent (step_stays stamp old book sent steps.0 tied.sent tied.apart.riders) others.stays }

pub steps_tied : (o : ℕ) (stamp : Stamp) (old new : Book) (waits sent confirmed : List ℕ) → HasSteps stamp old new → AreTied o old waits sent confirmed → TiedAlong o old new waits sent confirmed
steps_tied o stamp old new waits sent confirmed steps tied = over_tied o stamp steps.over old new waits sent confirmed steps.steps tied

-- something is noted
pub noted_tied : (o : ℕ) (stamp : Stamp) (old new : Book) (waits sent confirmed : List ℕ) → HasNoted old new → AreTied o old waits sent confirmed → TiedAlong o old new waits sent confirmed
noted_tied o stamp old new waits sent confirmed noted tied = steps_tied o stamp old new waits sent confirmed (record { over = new ∷ []; steps = (inr (inr (inr (inr noted))), refl) }) tied

-- an act on the book alone
pub book_tied : (o : ℕ) (stamp : Stamp) (given : BookAct) (book : Book) (waits sent confirmed : List ℕ) → IsGoodBook book → first_refusal (book_tests stamp book given) ≡ None
    → AreTied o book waits sent confirmed → TiedAlong o book (book_acted stamp given book) waits sent confirmed
book_tied o stamp given book waits sent confirmed good passes tied = steps_tied o stamp book (book_acted stamp given book) waits sent confirmed (acted_steps stamp given book good passes) tied
