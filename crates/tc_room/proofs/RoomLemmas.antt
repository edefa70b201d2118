-- The steps of a room.
use Rattle.std.proofs.Common.{◌≡◌, ◌∙◌, ◌⊎◌, inl, inr, ℕ, zero, suc, nat_lt, map, take, [], ◌∷◌, arith, Bool, true, false, Option, Some, None, Result, Ok, Err, List, refl, sym, ap, subst, length}
use Rattle.std.specs.Prelude.{◌≢◌, ◌≤◌, ◌↔◌, IsErrAnd, IsTrue, is_none, ok_or}
use Rattle.std.specs.Result.{result_ok}
use Rattle.std.proofs.lemmas.List.{length-map, length-take}
use Rattle.std.proofs.lemmas.Bool.Decides.{nat_tests}
use Rattle.sqlite_trees.specs.declared.store.Store.{Ghosts}
use Rattle.sqlite.specs.Held.{Held, state}
use Rattle.sqlite.specs.State.{HasCleanDisk}
use Rattle.tc_types.specs.ActGrammar.{HasLongAct, SpellsLine, act_text}
use Rattle.tc_types.specs.History.{entered, count_at, counts_of}
use Rattle.tc_types.specs.Tables.{tallies_by}
use Rattle.tc_types.specs.declared.tables.rows.Tally.{Tally}
use Rattle.tc_types.specs.declared.acts.Line.{Line}
use Rattle.tc_types.specs.declared.refusals.Refusal.{Refusal}
use Rattle.tc_types.specs.declared.refusals.Refusal.TheVariants.{BadText, Store, TooLong, UnknownRequest}
use Rattle.tc_types.specs.declared.acts.Act.{Act}
use Rattle.tc_types.specs.declared.acts.Act.TheVariants as act
use Rattle.tc_types.specs.declared.acts.Query.{Query}
use Rattle.tc_types.specs.declared.acts.Query.TheVariants as query
use Rattle.tc_types.specs.declared.requests.Request.{Request}
use Rattle.tc_types.specs.RequestLine.{request_line}
use Rattle.tc_types.specs.declared.history.moves.Move.{Move}
use Rattle.tc_types.specs.declared.history.places.Place.{Place}
use Rattle.tc_world.specs.declared.events.LinkIndication.{LinkIndication}
use Rattle.tc_world.specs.EitherLink.{either}
use Rattle.tc_book.specs.declared.stamps.Stamp.{Stamp}
use Rattle.tc_book.specs.Book.{Book, empty_book, is_unknown, place_in, request_at}
use Rattle.tc_book.specs.Conserved.{IsConserved}
use Rattle.tc_book.specs.Good.{IsGoodBook}
use Rattle.tc_book.specs.Sound.{IsSound}
use Rattle.tc_book.specs.Tables.{image_of}
use Rattle.tc_world.specs.declared.configs.Config.{Config}
use Rattle.tc_desk.specs.declared.firsts.FirstLine.{FirstLine}
use Rattle.tc_desk.specs.Acts.{is_question, refusal_of}
use Rattle.tc_desk.specs.Machine.{Carries, DeskStep, Does, Refuses, Serves, StaysSame, rows_new}
use Rattle.tc_desk.specs.Replies.{Reply, act_reply, history_lines, Replies, refusal_reply, request_lines, standing_lines}
use Rattle.tc_urgent.specs.Pages.{ShowsUrgent}
use Rattle.tc_store.specs.Ledgers.{KeptAnswer, empty_ledger}
use Rattle.tc_store.specs.Schema.{Holds}
use Rattle.tc_store.specs.Steps.{LeavesOnly}
use Rattle.tc_book.proofs.ConservedLemmas.{conserved}
use Rattle.tc_book.proofs.SoundLemmas.{good_sound}
use Rattle.tc_room.specs.Crash.{LeavesActs, ledger_of}
use Rattle.tc_room.specs.Joined.{HasLedger, HoldsBook, IsKept, LinkState, Standing}
use Rattle.tc_room.specs.Answers.{IsUnread}
use Rattle.tc_room.proofs.TableLemmas.{only_ledger}
use Rattle.tc_room.proofs.ToldLemmas.{good_told}
use Rattle.tc_room.specs.Room.{IsNewDesk, MakesBook, RoomStep, TellsUrgent}

-- a room goes on: its flag, as its view told it
pub goes_on : {S : Type 0} (inside view : Standing S) (told : Bool) → inside ≡ view → told ≡ view.stopped → told ≡ false → inside.stopped ≡ false
goes_on {S} inside view told same is none = ap (λ (s : Standing S). s.stopped) same ∙ sym is ∙ none

-- the desk machine's step, of which the tables that hold its book may tell, and the tables that hold it then
pub steps_read : {S : Type 0} (g : Ghosts S) (old new : Standing S) (stamp : Stamp) (given : Act) (reply : Reply) → old.stopped ≡ false
    → ((replies : List KeptAnswer) → HoldsBook g old replies → HasCleanDisk (state g new.tables) → DeskStep either either old.desk stamp given reply new.desk × HasLedger g new.tables (ledger_of new.desk.book replies))
    → new.opened ≡ old.opened → new.stopped ≡ false → TellsUrgent old given reply → RoomStep g old stamp given reply new
steps_read g old new stamp given reply going step opened goes urgent = λ replies held clean.
    let made = step replies held clean in
    rw going (inl (record { desk = made.0; urgent = urgent; tables = made.1; opened = opened; going = goes }))

-- a step of which they tell nothing
pub steps : {S : Type 0} (g : Ghosts S) (old new : Standing S) (stamp : Stamp) (given : Act) (reply : Reply) → old.stopped ≡ false
    → DeskStep either either old.desk stamp given reply new.desk → ((replies : List KeptAnswer) → HoldsBook g old replies → HasCleanDisk (state g new.tables) → HasLedger g new.tables (ledger_of new.desk.book replies))
    → new.opened ≡ old.opened → new.stopped ≡ false → TellsUrgent old given reply → RoomStep g old stamp given reply new
steps g old new stamp given reply going step holds opened goes urgent =
    steps_read g old new stamp given reply going (λ replies held clean. (step, holds replies held clean)) opened goes urgent

-- so it is of what changes no table
pub steps_same : {S : Type 0} (g : Ghosts S) (at : Standing S) (stamp : Stamp) (given : Act) (reply : Reply) → at.stopped ≡ false
    → DeskStep either either at.desk stamp given reply at.desk → TellsUrgent at given reply → RoomStep g at stamp given reply at
steps_same g at stamp given reply going step urgent = steps g at at stamp given reply going step (λ replies held clean. held going clean) refl going urgent

-- an act is no question of what is urgent
pub acts_else : (given : Act) → is_question given ≡ false → (from : ℕ) → given ≡ act.Ask (query.Urgent from) → ⊥
acts_else given acts from is =
    let asks : is_question given ≡ true = ap is_question is in
    let clash : true ≡ false = sym asks ∙ acts in cc

-- a page that is shown, as `TellsUrgent` says it
pub tells_page : (book : Book) (opened : ℕ) (scheduled : List ℕ) (from : ℕ) (reply : Reply) → ShowsUrgent book opened scheduled from reply
    → (other : ℕ) → act.Ask (query.Urgent from) ≡ act.Ask (query.Urgent other) → ((refusal : Refusal) × (reply ≡ refusal_reply refusal)) ⊎ ShowsUrgent book opened scheduled other reply
tells_page book opened scheduled from reply shows other is =
    let same : from ≡ other = cc in
    inr (subst (λ n. ShowsUrgent book opened scheduled n reply) same shows)

-- the database failed
pub fails : {S : Type 0} (g : Ghosts S) (old new : Standing S) (stamp : Stamp) (given : Act) → old.stopped ≡ false → refusal_of stamp old.desk given ≡ None → new.stopped ≡ true
    → ((replies : List KeptAnswer) → HoldsBook g old replies → HasCleanDisk (state g new.tables) → IsTrue (state g new.tables).is_open → Holds (state g new.tables).now (ledger_of old.desk.book replies))
    → ((replies : List KeptAnswer) → HoldsBook g old replies → HasCleanDisk (state g new.tables) → LeavesActs g new.tables old.desk.book replies (MakesBook old.desk stamp given))
    → new.opened ≡ old.opened → RoomStep g old stamp given (refusal_reply Store) new
fails g old new stamp given going free stopped holds leaves opened = λ replies held clean.
    rw going (inr (record { free = free; reply = refl; stopped = stopped; tables = holds replies held clean; crash = leaves replies held clean; opened = opened }))

-- the desk refused
pub refused : (old new : LinkState) (stamp : Stamp) (given : Act) (refusal : Refusal) → Refuses either either stamp given old new refusal
    → DeskStep either either old stamp given (refusal_reply refusal) new
refused old new stamp given refusal why = inr (refusal, why, refl)

-- the desk carried an act out
pub carried : (old new : LinkState) (stamp : Stamp) (given : Act) (first : FirstLine) (said : List LinkIndication) (rows : List Move) → is_question given ≡ false
    → refusal_of stamp old given ≡ None → Does either either stamp given old new said first → rows ≡ rows_new old new
    → DeskStep either either old stamp given (act_reply first said rows) new
carried old new stamp given first said rows acts free does are = inl (by_kind given acts (record { first = first; all = said; free = free; does = does; reply = ap (act_reply first said) are }))
  where
    by_kind : (given : Act) → is_question given ≡ false → Carries either either old stamp given (act_reply first said rows) new
        → Serves either either old stamp given (act_reply first said rows) new
    by_kind (act.Book on_book) _ carries = carries
    by_kind (act.Link on_link) _ carries = carries
    by_kind (act.Step on_step) _ carries = carries
    by_kind (act.Ask asked) is carries = cc

-- a question that the tables answered
pub answered : (desk : LinkState) (stamp : Stamp) (asked : Query) (reply : Reply) → refusal_of stamp desk (act.Ask asked) ≡ None
    → Replies either either desk asked reply → DeskStep either either desk stamp (act.Ask asked) reply desk
answered desk stamp asked reply free same = inl (free, same, refl)

-- a request that the desk found is told
pub request_told : (desk : LinkState) (stamp : Stamp) (n : ℕ) (found : Option Request) (request : Request) → found ≡ request_at desk.book n
    → is_none found ≡ is_unknown desk.book n → found ≡ Some request → DeskStep either either desk stamp (act.Ask (query.Request n)) (request_line request (place_in desk.book n) ∷ []) desk
request_told desk stamp n found request is unknown some = answered desk stamp (query.Request n) _ (rw known refl) (ap (λ at. request_lines at (place_in desk.book n)) (sym some ∙ is))
  where
    known : is_unknown desk.book n ≡ false
    known = sym unknown ∙ ap is_none some

-- the error that a `?` makes
pub is_err : {X : Type 0} (result : Result X Refusal) (why : Refusal) → IsErrAnd result (λ told. told ≡ why) → result ≡ Err why
is_err (Ok x) why h = absurd h
is_err (Err told) why h = ap Err h

-- what an `ok_or` found, and why it found nothing
pub found_some : {X E : Type 0} (o : Option X) (r : Result X E) (x : X) → o ≡ result_ok r → r ≡ Ok x → o ≡ Some x
found_some o r x ok is = ok ∙ ap result_ok is

pub found_none : {X E : Type 0} (o : Option X) (r : Result X E) (e : E) → o ≡ result_ok r → r ≡ Err e → o ≡ None
found_none o r e ok is = ok ∙ ap result_ok is

pub found_why : {X E : Type 0} (o : Option X) (r : Result X E) (e given : E) → r ≡ ok_or o given → o ≡ None → r ≡ Err e → e ≡ given
found_why {X} {E} o r e given value none is =
    let same : (let left : Result X E = Err e in left) ≡ Err given = sym is ∙ (value ∙ ap (λ (found : Option X). ok_or found given) none) in cc

-- a question that is refused leaves all as it was
pub stays : (desk : LinkState) → StaysSame either either desk desk
stays desk = record { book = refl; world = record { up = refl; down = refl; rest = refl }; board = refl; mirror = refl }

-- a request that it did not find is unknown
pub request_unknown : (desk : LinkState) (stamp : Stamp) (n : ℕ) (found : Option Request) → is_none found ≡ is_unknown desk.book n → found ≡ None
    → DeskStep either either desk stamp (act.Ask (query.Request n)) (refusal_reply UnknownRequest) desk
request_unknown desk stamp n found unknown none = refused desk desk stamp (act.Ask (query.Request n)) UnknownRequest (record { why = inl (rw is refl); same = stays desk })
  where
    is : is_unknown desk.book n ≡ true
    is = sym unknown ∙ ap is_none none

-- a good book has no more requests than a desk takes
pub good-few : (book : Book) → IsGoodBook book → length (entered book.history) ≤ 65535
good-few book good = rw (good.entered, length-map) good.few

-- a good book is kept, for nobody is lost of any history
pub kept_good : (book : Book) → ((history : List Move) → IsConserved history) → ((book : Book) → IsGoodBook book → IsSound (image_of book)) → IsGoodBook book → IsKept book
kept_good book nobody_is_lost are_sound good = record { good = good; sound = are_sound book good; told = good_told book good; conserved = nobody_is_lost book.history }

-- so is each, by these two
pub kept_book : (book : Book) → IsGoodBook book → IsKept book
kept_book book good = kept_good book conserved good_sound good

pub not_some : {X : Type 0} (o : Option X) → ((x : X) → o ≡ Some x → ⊥) → o ≡ None
not_some None none = refl
not_some (Some x) none = absurd (none x refl)

-- why a line was not read
pub unread : (text : List ℕ) (read : Result Line Refusal) (refusal : Refusal) → read ≡ Err refusal
    → ((line : Line) → SpellsLine text line → length (act_text line.act) ≤ 200 → read ≡ Ok line)
    → ((read ≡ Err TooLong) ↔ HasLongAct text) → (refusal ≢ TooLong → refusal ≡ BadText) → IsUnread text refusal
unread text read refusal was only long others = record {
  too_long = ((λ is. long.0 (was ∙ ap (λ (r : Refusal). let e : Result Line Refusal = Err r in e) is)), (λ has. let e : read ≡ Err TooLong = long.1 has in cc));
  others = others;
  unspelled = λ line spells few. let e : read ≡ Ok line = only line spells few in cc;
}

-- the tables of a desk where nothing happened yet hold its book
empty_tables : ledger_of empty_book [] ≡ empty_ledger
empty_tables = refl

pub new_held : {S : Type 0} (g : Ghosts S) (config : Config) (desk : LinkState) (tables : Held S) → IsNewDesk config desk → Holds (state g tables).now empty_ledger
    → LeavesOnly (state g tables) (state g tables).now.trees → HasLedger g tables (ledger_of desk.book [])
new_held g config desk tables (up, down, _, _, new) made only =
    subst (λ (book : Book). HasLedger g tables (ledger_of book [])) (sym (ap (λ (at : LinkState). at.book) new)) (subst (HasLedger g tables) (sym empty_tables) (only_ledger g tables empty_ledger made only))

-- the amounts of a book's tallies are its counts
pub amounts_counted : (history : List Move) → map (λ (t : Tally). t.amount) (tallies_by (count_at history)) ≡ counts_of history
amounts_counted history = refl

-- the first of the first are the first
take_within : {X : Type 0} (n m : ℕ) (xs : List X) → n ≤ m → take n (take m xs) ≡ take n xs
take_within zero m xs low = refl
take_within (suc n) zero xs low = absurd (omega (arith, low))
take_within (suc n) (suc m) [] low = refl
take_within (suc n) (suc m) (x ∷ xs) low = ap (λ l. x ∷ l) (take_within n m xs (omega (arith, low)))

-- of the first 51 the first 50 are shown that are of all, and there are more of both or of none
shown_within : {X : Type 0} (xs : List X) → take 50 (take 51 xs) ≡ take 50 xs
shown_within xs = take_within 50 51 xs (omega arith)

more_within : {X : Type 0} (xs : List X) → nat_lt 50 (length (take 51 xs)) ≡ nat_lt 50 (length xs)
more_within xs = let len = length-take 51 xs in grind (arith, nat_tests, len)

-- a reply shows of the first 51 rows what it shows of all
pub enough_shown : (n : ℕ) (rows : List Move) → history_lines n (take 51 rows) ≡ history_lines n rows
enough_shown n rows = rw (shown_within rows, more_within rows) refl

-- so it is of requests at a place
pub enough_stand : (place : Place) (found : List Request) → standing_lines place (take 51 found) ≡ standing_lines place found
enough_stand place found = rw (shown_within found, more_within found) refl
