-- What the book says of a request that was sent, or rides inside one, stays as it was; so what is known of each may grow.
use Rattle.std.proofs.Common.{◌≡◌, ◌≢◌, ℕ, ◌+◌, ◌==◌, Bool, true, false, ◌||◌, Option, Some, None, List, [], ◌∷◌, ◌++◌, length, refl, sym, ◌∙◌, ap, subst, arith}
use Rattle.std.specs.List.{list_any}
use Rattle.std.proofs.lemmas.Bool.Decides.{nat_tests}
use Rattle.std.proofs.lemmas.List.Folds.{list_any-append}
use Rattle.tc_types.specs.declared.history.places.Place.{Place}
use Rattle.tc_types.specs.declared.requests.Form.{Form}
use Rattle.tc_types.specs.declared.requests.Origin.{Origin}
use Rattle.tc_types.specs.declared.requests.Request.{Request}
use Rattle.tc_types.specs.declared.link.telecommands.Payload.{Payload}
use Rattle.tc_types.specs.Lawful.{is_among}
use Rattle.tc_types.specs.Schedule.{targets_of}
use Rattle.tc_world.specs.Kept.{Each}
use Rattle.tc_world.specs.Payloads.{IsOneOf}
use Rattle.tc_board.specs.Names.{Agrees}
use Rattle.tc_book.specs.declared.stamps.Stamp.{Stamp}
use Rattle.tc_book.specs.Book.{Book, place_in, request_in, request_at, with_request}
use Rattle.tc_book.specs.Good.{IsGoodBook}
use Rattle.tc_book.proofs.GoodLemmas.{next_nowhere}
use Rattle.tc_desk.specs.Commands.{command_of, command_at, flown_command}
use Rattle.tc_desk.specs.Followed.{identity_in, roll_of, IsPayloadOf, IsFlown}
use Rattle.tc_desk.specs.Places.{gone_places, StandsAt}
use Rattle.tc_desk.specs.Riders.{riding_places, carried_by, NoneIsOf}
use Rattle.tc_desk.proofs.TiedLemmas.{each_map, Gone}
use Rattle.tc_desk.proofs.TargetLemmas.{each_any, named_before, flown_stays, same_payload, entered_payload, entered_keeps_request, entered_keeps_before}
use Rattle.tc_desk.proofs.RiderLemmas.{same_carried, carried_append, entered_carried}

-- ---- who is one of these

-- one of these, and of more
pub one_of_more : (n : ℕ) (xs ys : List ℕ) → IsOneOf n xs → IsOneOf n (xs ++ ys)
one_of_more n xs ys one = list_any-append (λ (m : ℕ). m == n) xs ys ∙ ap (λ t. t || list_any (λ (m : ℕ). m == n) ys) one

pub one_of_behind : (n : ℕ) (xs ys : List ℕ) → IsOneOf n ys → IsOneOf n (xs ++ ys)
one_of_behind n [] ys one = one
one_of_behind n (x ∷ xs) ys one = by_test (x == n) (one_of_behind n xs ys one)
  where
    by_test : (t : Bool) → IsOneOf n (xs ++ ys) → (t || list_any (λ (m : ℕ). m == n) (xs ++ ys)) ≡ true
    by_test true there = refl
    by_test false there = there

-- one of these or those that is none of these
pub one_of_others : (n : ℕ) (xs ys : List ℕ) → IsOneOf n (xs ++ ys) → list_any (λ (m : ℕ). m == n) xs ≡ false → IsOneOf n ys
one_of_others n xs ys one none = sym (ap (λ t. t || list_any (λ (m : ℕ). m == n) ys) none) ∙ sym (list_any-append (λ (m : ℕ). m == n) xs ys) ∙ one

-- what holds of each holds of one
pub each_one : (P : ℕ → Type 0) (n : ℕ) (xs : List ℕ) → Each P xs → IsOneOf n xs → P n
each_one P n [] all one = cc
each_one P n (x ∷ xs) all one = by_test (x == n) refl one (each_one P n xs all.1)
  where
    by_test : (t : Bool) → (x == n) ≡ t → (t || list_any (λ (m : ℕ). m == n) xs) ≡ true → (IsOneOf n xs → P n) → P n
    by_test true e h others = let same : x ≡ n = grind (arith, nat_tests) in subst P same all.0
    by_test false e h others = others h

-- one of those of which none is one of these
pub none_both : (n : ℕ) (others ns : List ℕ) → NoneIsOf others ns → IsOneOf n others → list_any (λ (m : ℕ). m == n) ns ≡ false
none_both n others ns none one = by_test (list_any (λ (m : ℕ). m == n) ns) refl
  where
    by_test : (t : Bool) → list_any (λ (m : ℕ). m == n) ns ≡ t → t ≡ false
    by_test false e = refl
    by_test true e = let no : true ≡ false = sym one ∙ each_one (λ (k : ℕ). list_any (λ (m : ℕ). m == k) others ≡ false) n ns none e in cc

-- ---- the book

-- What a book says of these, and of those that they carry, another says too; and what flies of any request.
pub record BookStays (old new : Book) (sent : List ℕ) : Type 0 where
  pub request : (n : ℕ) → IsFlown old sent n → request_at new n ≡ request_at old n
  pub command : (n : ℕ) → IsFlown old sent n → command_at new n ≡ command_at old n
  pub carried : carried_by new sent ≡ carried_by old sent
  pub payload : (n : ℕ) (body : Payload) → IsPayloadOf old n body → IsPayloadOf new n body

-- a request has the command that it had, where its own is the same and flies as it did
command_stays : (old new : Book) (n : ℕ) → request_at new n ≡ request_at old n
    → ((r : Request) → request_at old n ≡ Some r → flown_command new r.body.command ≡ flown_command old r.body.command)
    → command_at new n ≡ command_at old n
command_stays old new n same flies = ap (command_of new) same ∙ by_found (request_at old n) refl
  where
    by_found : (found : Option Request) → request_at old n ≡ found → command_of new found ≡ command_of old found
    by_found None e = refl
    by_found (Some r) e = flies r e

-- where all requests of a book stand in another, each has the command that it had
pub same_command : (old new : Book) (n : ℕ) → new.requests ≡ old.requests → command_at new n ≡ command_at old n
same_command old new n same = command_stays old new n (here n) (λ r e. flown_stays new old r.body.command (each_any _ (targets_of r.body.command) here))
  where
    here : (m : ℕ) → request_at new m ≡ request_at old m
    here m = ap (λ requests. request_in requests m) same

-- so nothing changes for those that were sent
pub same_stays : (old new : Book) (sent : List ℕ) → new.requests ≡ old.requests → BookStays old new sent
same_stays old new sent same = record {
  request = λ n flown. here n;
  command = λ n flown. same_command old new n same;
  carried = same_carried old new sent same;
  payload = λ n body is. (is.0, here n ∙ is.1, is.2 ∙ same_payload old new (sym same) is.0.body);
}
  where
    here : (n : ℕ) → request_at new n ≡ request_at old n
    here n = ap (λ requests. request_in requests n) same

-- who stands somewhere is not the next request
stands_known : (book : Book) (good : List Place) (n : ℕ) → IsGoodBook book → StandsAt good book n → n ≢ length book.requests + 1
stands_known book good n is_good here next =
    let nowhere : place_in book (length book.requests + 1) ≡ None = next_nowhere book is_good in
    let no : is_among good None ≡ true = sym (ap (is_among good) (ap (place_in book) next ∙ nowhere)) ∙ here in
    let never : false ≡ true = no in cc

-- nor is who was sent, or rides
flown_known : (book : Book) (sent : List ℕ) (n : ℕ) → IsGoodBook book → Gone book sent → Each (StandsAt riding_places book) (carried_by book sent) → IsFlown book sent n → n ≢ length book.requests + 1
flown_known book sent n good gone rides flown = by_test (list_any (λ (m : ℕ). m == n) sent) refl
  where
    by_test : (t : Bool) → list_any (λ (m : ℕ). m == n) sent ≡ t → n ≢ length book.requests + 1
    by_test true e = stands_known book gone_places n good (each_one (StandsAt gone_places book) n sent gone e)
    by_test false e = stands_known book riding_places n good (each_one (StandsAt riding_places book) n (carried_by book sent) rides (one_of_others n sent (carried_by book sent) flown e))

-- a book with one more request
pub entered_stays : (stamp : Stamp) (origin : Option Origin) (entry : Form) (book : Book) (sent : List ℕ) → IsGoodBook book → Gone book sent → Each (StandsAt riding_places book) (carried_by book sent)
    → BookStays book (with_request stamp book origin entry) sent
entered_stays stamp origin entry book sent good gone rides = record {
  request = λ n flown. entered_keeps_request stamp book origin entry n (flown_known book sent n good gone rides flown);
  command = λ n flown. command_stays book new n (entered_keeps_request stamp book origin entry n (flown_known book sent n good gone rides flown)) (λ r e. flown_stays new book r.body.command (before n r e));
  carried = entered_carried stamp book origin entry gone_places sent good gone;
  payload = λ n body is. let stays = entered_payload stamp origin entry book n is.0 good is.1 in (is.0, stays.0, is.2 ∙ sym stays.1);
}
  where
    new : Book
    new = with_request stamp book origin entry

    before : (n : ℕ) (r : Request) → request_at book n ≡ Some r → Each (λ (m : ℕ). request_at new m ≡ request_at book m) (targets_of r.body.command)
    before n r here = each_map _ _ (targets_of r.body.command) (λ m less. entered_keeps_before stamp book origin entry n r m here less) (named_before book good n r here)

-- so step by step
pub then_stays : (a b c : Book) (sent : List ℕ) → BookStays a b sent → BookStays b c sent → BookStays a c sent
then_stays a b c sent first second = record {
  request = λ n flown. second.request n (still n flown) ∙ first.request n flown;
  command = λ n flown. second.command n (still n flown) ∙ first.command n flown;
  carried = second.carried ∙ first.carried;
  payload = λ n body is. second.payload n body (first.payload n body is);
}
  where
    still : (n : ℕ) → IsFlown a sent n → IsFlown b sent n
    still n flown = subst (λ (l : List ℕ). IsOneOf n (sent ++ l)) (sym first.carried) flown

-- ---- what is known of each request

-- who flew still did
pub flown_grows : (old new : Book) (sent more : List ℕ) → BookStays old new sent → (n : ℕ) → IsFlown old sent n → IsFlown new (sent ++ more) n
flown_grows old new sent more stays n flown = by_test (list_any (λ (m : ℕ). m == n) sent) refl
  where
    by_test : (t : Bool) → list_any (λ (m : ℕ). m == n) sent ≡ t → IsFlown new (sent ++ more) n
    by_test true e = one_of_more n (sent ++ more) (carried_by new (sent ++ more)) (one_of_more n sent more e)
    by_test false e =
        one_of_behind n (sent ++ more) (carried_by new (sent ++ more))
        (subst (IsOneOf n) (sym (carried_append new sent more))
        (one_of_more n (carried_by new sent) (carried_by new more) (subst (IsOneOf n) (sym stays.carried) (one_of_others n sent (carried_by old sent) flown e))))

-- who was sent does not ride, and who rides still does
rides_same : (old new : Book) (sent more : List ℕ) → BookStays old new sent → NoneIsOf (sent ++ more) (carried_by new (sent ++ more)) → (n : ℕ) → IsFlown old sent n
    → (roll_of new (sent ++ more)).rides n ≡ (roll_of old sent).rides n
rides_same old new sent more stays apart n flown = by_test (list_any (λ (m : ℕ). m == n) (carried_by old sent)) refl
  where
    by_sent : list_any (λ (m : ℕ). m == n) (carried_by old sent) ≡ false → (t : Bool) → list_any (λ (m : ℕ). m == n) sent ≡ t → IsOneOf n sent
    by_sent none true e = e
    by_sent none false e = let no : true ≡ false = sym (one_of_others n sent (carried_by old sent) flown e) ∙ none in cc

    by_test : (t : Bool) → list_any (λ (m : ℕ). m == n) (carried_by old sent) ≡ t → list_any (λ (m : ℕ). m == n) (carried_by new (sent ++ more)) ≡ t
    by_test true e =
        subst (IsOneOf n) (sym (carried_append new sent more)) (one_of_more n (carried_by new sent) (carried_by new more) (subst (IsOneOf n) (sym stays.carried) e))
    by_test false e =
        none_both n (sent ++ more) (carried_by new (sent ++ more)) apart (one_of_more n sent more (by_sent e (list_any (λ (m : ℕ). m == n) sent) refl))

-- what is known of those that flew stays the same, as more are sent
pub grown_agrees : (old new : Book) (sent more : List ℕ) → BookStays old new sent → NoneIsOf (sent ++ more) (carried_by new (sent ++ more)) → Agrees (IsFlown old sent) (roll_of old sent) (roll_of new (sent ++ more))
grown_agrees old new sent more stays apart = record {
  rides = rides_same old new sent more stays apart;
  identity = λ n flown. ap identity_in (stays.request n flown);
  command = stays.command;
}
