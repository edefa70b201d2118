-- One exchange.
use Rattle.std.proofs.Common.{◌≡◌, ◌∙◌, ◌⊎◌, inl, inr, ap, subst, refl, sym, ℕ, List, [], ◌∷◌, arith, Option, Some, None, Result, Ok, Err}
use Rattle.std.specs.Prelude.{◌≢◌, IfErr, IfSome, IsErrAnd}
use Rattle.std.specs.Io.KnownBytes.{Appends, Consumes}
use Rattle.std.proofs.KnownBytes.{Consumes-nil, Keeps-refl}
use Rattle.sqlite_trees.specs.declared.store.Store.{Ghosts}
use Rattle.tc_types.specs.declared.counted.Counts.{Counts}
use Rattle.tc_types.specs.Counts.{no_counts}
use Rattle.tc_types.specs.declared.refusals.Refusal.{Refusal}
use Rattle.tc_types.specs.declared.refusals.Refusal.TheVariants.{Memory, ReadFault, WriteFault}
use Rattle.tc_desk.specs.Replies.{Reply}
use Rattle.tc_front.specs.declared.read.FrontFault.{FrontFault}
use Rattle.tc_front.specs.declared.read.FrontFault.TheVariants as faults
use Rattle.tc_front.specs.Door.{Enters}
use Rattle.tc_front.specs.Front.{Asked, IsDecided}
use Rattle.tc_front.specs.Read.{CanGoOn, HasStopped, NoFront, refusal_of}
use Rattle.tc_front.specs.Write.{Stream, Writes}
use Rattle.tc_room.specs.Joined.{Standing}
use Rattle.tc_room.specs.Replies.{AreLines, ended}
use Rattle.tc_api.specs.declared.serving.Served.{Served}
use Rattle.tc_api.specs.declared.serving.Told.{Told}
use Rattle.tc_api.specs.declared.serving.Told.TheVariants as told
use Rattle.tc_api.specs.Exchange.{EndsUnanswered, EndsUnread, Exchanges, IsCutOff, IsRead, IsUntold, IsUntouched, Responds, TellsEnd, response_by, response_to}
use Rattle.tc_api.specs.Kept.{ServesRead}
use Rattle.tc_api.specs.Serving.{IsServedBy, Outcome, Serves, Tells, outcome_of, page_in, page_of}
use Rattle.tc_api.proofs.LineLemmas.{lines_come_back}

abbrev Sent : Type 0
Sent = Result (Unit {0}) Refusal

pub untouched : (counts : Counts) (at : Option (List ℕ)) → counts ≡ no_counts → IsUntouched counts at at
untouched counts at none = record { unfailed = none; kept = Keeps-refl at }

-- the error that a `?` makes
pub is_err : {X : Type 0} (result : Result X Refusal) (why : Refusal) → IsErrAnd result (λ told. told ≡ why) → result ≡ Err why
is_err (Ok x) why h = absurd h
is_err (Err told) why h = ap Err h

-- ---- the response

pub held_text : (held : Option Told) (t : Told) (reply : Reply) → held ≡ Some t → IfSome held (Tells reply) → Tells reply t
held_text held t reply is has = subst (λ (o : Option Told). IfSome o (Tells reply)) is has

-- no line of the reply has an LF in it
pub lines_told : (t : Told) (reply : Reply) → Tells reply t → AreLines reply
lines_told (told.Lines text) reply tells = tells.1
lines_told (told.Page page) reply tells = rw tells refl

-- the response that tells it is that of the outcome
pub response_told : (served : Served) (t : Told) (reply : Reply) (bytes : List ℕ) → served.text ≡ Some t → bytes ≡ response_by (page_of t) served.ending reply → bytes ≡ response_to (outcome_of reply served)
response_told served t reply bytes is made = made ∙ sym (ap (λ (o : Option Told). response_by (page_in o) served.ending reply) is)

-- it found no memory
pub not_made : (outcome : Outcome) (sent : Sent) (why : Refusal) (at : Stream) → sent ≡ Err why → IsUntold outcome why → Responds outcome sent at at
not_made outcome sent why at gone untold = rw gone (record { written = tt; lines = tt; failed = λ none. inr (untold, untouched at.counts at.bytes none); unfailed = λ none. tt })

-- all of it was written
pub all_put : {E : Type 0} (u : Unit {0}) (old new : Stream) (bytes : List ℕ) (served : Served) (reply : Reply) → Writes {X = Unit {0}} {E = E} bytes old new (Ok u)
    → bytes ≡ response_to (outcome_of reply served) → AreLines reply → Responds {X = Unit {0}} (outcome_of reply served) (Ok u) old new
all_put u old new bytes served reply put is are = record {
  written = subst (λ (b : List ℕ). Appends old.bytes new.bytes b) is put.written;
  lines = are;
  failed = λ none. tt;
  unfailed = put.counted;
}

-- one write failed
pub part_put : {E : Type 0} (fault : E) (sent : Sent) (old new : Stream) (bytes : List ℕ) (served : Served) (reply : Reply) → sent ≡ Err WriteFault → Writes {X = Unit {0}} {E = E} bytes old new (Err fault)
    → bytes ≡ response_to (outcome_of reply served) → Responds (outcome_of reply served) sent old new
part_put fault sent old new bytes served reply gone put is = rw gone (record {
  written = tt;
  lines = tt;
  failed = λ none. inl (
    refl,
    subst (λ (b : List ℕ). IsCutOff b new.counts old.bytes new.bytes) is
        (record { failed = put.counted none; part = put.cut.0; short = put.cut.1; appended = put.cut.2 }),
  );
  unfailed = λ none. tt;
})

-- ---- the exchange

was_read : (hosts : List (List ℕ)) (had left : Option (List ℕ)) (text : List ℕ) (asked served : Asked) → Consumes had left text → ((a : Asked) → IsDecided text a → IfSome had (λ input. IsDecided input a))
    → IsDecided text asked → Enters hosts text asked served → IsRead hosts had left served
was_read hosts had left text asked served taken whole decided enters =
    record { text = text; taken = taken; asked = asked; decided = decided; whole = whole asked decided; enters = enters }

-- what these bytes ask, and what of it is let in
abbrev IsAsked : List (List ℕ) → List ℕ → Asked → Type 0
IsAsked hosts bytes served = (asked : Asked) × IsDecided bytes asked × Enters hosts bytes asked served

read_so_far : {hosts : List (List ℕ)} (had left : Option (List ℕ)) (text bytes : List ℕ) (served : Asked) → bytes ≡ text → Consumes had left text
    → ((a : Asked) → IsDecided text a → IfSome had (λ input. IsDecided input a)) → IsAsked hosts bytes served → IsRead hosts had left served
read_so_far {hosts} had left text bytes served same taken whole is =
    was_read hosts had left text is.0 served taken whole (subst (λ (t : List ℕ). IsDecided t is.0) same is.1) (subst (λ (t : List ℕ). Enters hosts t is.0 served) same is.2)

abbrev unread_so : FrontFault → Result (Unit {0}) FrontFault
unread_so fault = Err fault

abbrev read_so : Unit {0} → Result (Unit {0}) FrontFault
read_so u = Ok u

abbrev refused_so : Refusal → Sent
refused_so refusal = Err refusal

fault_told : (fault : FrontFault) (count : ℕ) → (count ≢ 0 → unread_so fault ≡ Err faults.Unread) → count ≢ 0 → refused_so (refusal_of fault) ≡ Err ReadFault
fault_told faults.Unread count failed some = refl
fault_told faults.Memory count failed some = let wrong = failed some in absurd cc

no_fault_read : (sent : Sent) (u : Unit {0}) (count : ℕ) → (count ≢ 0 → read_so u ≡ Err faults.Unread) → count ≢ 0 → sent ≡ Err ReadFault
no_fault_read sent u count failed some = let wrong = failed some in absurd cc

-- what was read was served and answered, or not answered
pub exchanged : {S : Type 0} {hosts : List (List ℕ)} {since : ℕ} (g : Ghosts S) (sent : Sent) (u : Unit {0}) (input left : Stream) (text bytes : List ℕ) (asked : Asked) (served : Served) (old new : Standing S) (before after : Stream) → bytes ≡ text
    → Consumes input.bytes left.bytes text → ((a : Asked) → IsDecided text a → IfSome input.bytes (λ t. IsDecided t a)) → (left.counts.faults ≢ 0 → read_so u ≡ Err faults.Unread) → (left.counts.ends ≢ 0 → read_so u ≡ Err faults.Unread)
    → (is : IsAsked hosts bytes asked) → (made : IsServedBy (Serves since g old asked) old served new) → Responds (outcome_of made.reply served) sent before after → before.counts ≡ no_counts → Exchanges hosts since g sent input left old new before after
exchanged g (Ok u) v input left text bytes asked served old new before after same taken whole fault end is made responds none = record {
  answered = record {
    asked = asked;
    outcome = outcome_of made.reply served;
    read = read_so_far input.bytes left.bytes text bytes asked same taken whole is;
    serves = made.makes;
    written = responds.written;
    lines = lines_come_back made.reply responds.lines;
  };
  failed = tt;
  fault = no_fault_read (Ok u) v left.counts.faults fault;
  ended = no_fault_read (Ok u) v left.counts.ends end;
  unfailed = responds.unfailed none;
  opened = made.opened;
}
exchanged g (Err why) v input left text bytes asked served old new before after same taken whole fault end is made responds none = record {
  answered = tt;
  failed = inr (record {
    asked = asked;
    outcome = outcome_of made.reply served;
    read = read_so_far input.bytes left.bytes text bytes asked same taken whole is;
    serves = made.makes;
    unanswered = responds.failed none;
  });
  fault = no_fault_read (Err why) v left.counts.faults fault;
  ended = no_fault_read (Err why) v left.counts.ends end;
  unfailed = tt;
  opened = made.opened;
}

ended_unread : {S : Type 0} {hosts : List (List ℕ)} {since : ℕ} (g : Ghosts S) (sent : Sent) (why : Refusal) (input left : Stream) (text : List ℕ) (room : Standing S) (at : Stream) → sent ≡ Err why
    → ((why ≡ ReadFault) × HasStopped left.counts) ⊎ ((why ≡ Memory) × CanGoOn left.counts) → Consumes input.bytes left.bytes text → NoFront text → at.counts ≡ no_counts
    → (left.counts.faults ≢ 0 → refused_so why ≡ Err ReadFault) → (left.counts.ends ≢ 0 → refused_so why ≡ Err ReadFault) → Exchanges hosts since g sent input left room room at at
ended_unread g sent why input left text room at gone because taken fronts none fault end = rw gone (record {
  answered = tt;
  failed = inl (record { why = because; unread = record { text = text; taken = taken; fronts = fronts }; room = refl; untouched = untouched at.counts at.bytes none });
  fault = fault;
  ended = end;
  unfailed = tt;
  opened = refl;
})

-- none was read
pub ended_by : {S : Type 0} {hosts : List (List ℕ)} {since : ℕ} (g : Ghosts S) (fault : FrontFault) (sent : Sent) (input left : Stream) (text : List ℕ) (room : Standing S) (at : Stream) → sent ≡ Err (refusal_of fault)
    → (unread_so fault ≡ Err faults.Unread → HasStopped left.counts) → (unread_so fault ≡ Err faults.Memory → CanGoOn left.counts) → Consumes input.bytes left.bytes text → NoFront text
    → (left.counts.faults ≢ 0 → unread_so fault ≡ Err faults.Unread) → (left.counts.ends ≢ 0 → unread_so fault ≡ Err faults.Unread) → at.counts ≡ no_counts → Exchanges hosts since g sent input left room room at at
ended_by g faults.Unread sent input left text room at gone stopped going taken fronts fault end none =
    ended_unread g sent ReadFault input left text room at gone (inl (refl, stopped refl)) taken fronts none (fault_told faults.Unread left.counts.faults fault) (fault_told faults.Unread left.counts.ends end)
ended_by g faults.Memory sent input left text room at gone stopped going taken fronts fault end none =
    ended_unread g sent Memory input left text room at gone (inr (refl, going refl)) taken fronts none (fault_told faults.Memory left.counts.faults fault) (fault_told faults.Memory left.counts.ends end)

-- no bytes decide
nothing_decided : (asked : Asked) → ¬ (IsDecided [] asked)
unfolding IsDecided
nothing_decided asked h = absurd (omega (arith, h.0))

nothing_front : NoFront []
nothing_front [] rest asked e = nothing_decided asked
nothing_front (byte ∷ front) rest asked e = absurd cc

no_fault : (why : Refusal) (counts : Counts) → counts ≡ no_counts → counts.faults ≢ 0 → refused_so why ≡ Err ReadFault
no_fault why counts none h = absurd (h (ap (λ (c : Counts). c.faults) none))

no_end : (why : Refusal) (counts : Counts) → counts ≡ no_counts → counts.ends ≢ 0 → refused_so why ≡ Err ReadFault
no_end why counts none h = absurd (h (ap (λ (c : Counts). c.ends) none))

-- nothing was read at all
pub ended_at_once : {S : Type 0} {hosts : List (List ℕ)} {since : ℕ} (g : Ghosts S) (sent : Sent) (input : Stream) (room : Standing S) (at : Stream) → sent ≡ Err Memory → input.counts ≡ no_counts → at.counts ≡ no_counts
    → Exchanges hosts since g sent input input room room at at
ended_at_once g sent input room at gone fresh none =
    ended_unread g sent Memory input input [] room at gone
    (inr (refl, record { faults = ap (λ (c : Counts). c.faults) fresh; ends = ap (λ (c : Counts). c.ends) fresh; reads = rw fresh (omega arith) }))
    (Consumes-nil input.bytes) nothing_front none (no_fault Memory input.counts fresh) (no_end Memory input.counts fresh)

-- ---- what is told

untold_end : (outcome : Outcome) (why : Refusal) → IsUntold outcome why → TellsEnd why
untold_end outcome why (inl stands) = inr (inr stands.1)
untold_end outcome why (inr none) = inr (inl none.1)

end_told : {S : Type 0} {hosts : List (List ℕ)} {since : ℕ} (g : Ghosts S) (why : Refusal) (read : Counts) (had left : Option (List ℕ)) (old new : Standing S) (counts : Counts) (before after : Option (List ℕ))
    → EndsUnread why read had left old new counts before after ⊎ EndsUnanswered hosts since g why had left old new counts before after → TellsEnd why
end_told g why read had left old new counts before after (inl unread) = elim unread.why [ inl stopped ↦ inl stopped.0 | inr going ↦ inr (inl going.0) ]
end_told g why read had left old new counts before after (inr ended) = elim ended.unanswered [ inl cut ↦ inr (inr cut.0) | inr untold ↦ untold_end ended.outcome why untold.0 ]

-- no other refusal is told
pub ends_told : {S : Type 0} {hosts : List (List ℕ)} {since : ℕ} (g : Ghosts S) (sent : Sent) (input left : Stream) (old new : Standing S) (before after : Stream) → Exchanges hosts since g sent input left old new before after → IfErr sent TellsEnd
ends_told g (Ok u) input left old new before after done = tt
ends_told g (Err why) input left old new before after done = end_told g why left.counts input.bytes left.bytes old new after.counts before.bytes after.bytes done.failed

-- ---- what it made of the room

-- what was read is served
pub exchange_read : {S : Type 0} {hosts : List (List ℕ)} {since : ℕ} (g : Ghosts S) (sent : Sent) (input left : Stream) (old new : Standing S) (before after : Stream) → Exchanges hosts since g sent input left old new before after
    → (asked : Option Asked) × ServesRead g old asked new
exchange_read {S} {hosts} {since} g (Ok u) input left old new before after done = (Some done.answered.asked, (since, done.answered.outcome, done.answered.serves))
exchange_read {S} {hosts} {since} g (Err why) input left old new before after done = by_end done.failed
  where
    by_end : EndsUnread why left.counts input.bytes left.bytes old new after.counts before.bytes after.bytes ⊎ EndsUnanswered hosts since g why input.bytes left.bytes old new after.counts before.bytes after.bytes
        → (asked : Option Asked) × ServesRead g old asked new
    by_end (inl unread) = (None, unread.room)
    by_end (inr ended) = (Some ended.asked, (since, ended.outcome, ended.serves))
