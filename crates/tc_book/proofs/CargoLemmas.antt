-- The rows of cargo: those of one request, and those of requests by their numbers.
use Rattle.std.proofs.Common.{◌≡◌, ℕ, ◌+◌, ◌<◌, ◌≤◌, ◌==◌, Bool, true, false, ◌&&◌, if◌then◌else◌, List, [], ◌∷◌, ◌++◌, length, map, filter, take, drop, get_or, set, Option, Some, None, refl, sym, ◌∙◌, ap, ap₂, subst, arith}
use Rattle.std.specs.Prelude.{◌↔◌, IsSome, IfSome, MatchOption, nat_eq}
use Rattle.std.specs.List.{AllByRecursion, flat_map}
use Rattle.std.proofs.lemmas.Bool.{and_parts}
use Rattle.std.proofs.lemmas.Bool.Decides.{nat_tests}
use Rattle.std.proofs.lemmas.Grind.{flat_map-append}
use Rattle.std.proofs.lemmas.List.{append-nil, append_assoc, append_cancel_left, length-append, length-drop, length-map, map-append, take_more, take_more_set, take_all, take-append-drop, get_or-map, drop_more, drop_all, length-set, nil_from_length}
use Rattle.std.proofs.lemmas.List.Elements.{filter-append}
use Rattle.tc_types.specs.declared.requests.Command.{Command}
use Rattle.tc_types.specs.declared.requests.Command.TheVariants as command
use Rattle.tc_types.specs.declared.requests.Request.{Request}
use Rattle.tc_types.specs.declared.rides.Ride.{Ride}
use Rattle.tc_types.specs.declared.tables.cargo.Cargo.{Cargo}
use Rattle.tc_types.specs.declared.tables.rows.PlacedRequest.{PlacedRequest}
use Rattle.tc_types.specs.Grammar.{IsCommand}
use Rattle.tc_types.specs.History.{AllAfter}
use Rattle.tc_types.specs.Inserts.{most_inserted, IsInsert}
use Rattle.tc_types.specs.Schedule.{targets_of}
use Rattle.tc_book.specs.Cargoes.{first_alone, alone, behind_first, cargo_from, cargo_of, carried_for, with_rides, joined}
use Rattle.tc_book.specs.Good.{IsGoodRequest}
use Rattle.tc_book.specs.Joining.{rides_in, front_from, HasRows, IsJoined, IsOfNone}
use Rattle.tc_book.specs.Known.{told_requests, AreTakenRows}
use Rattle.tc_book.proofs.PutLemmas.{AllAfter-behind}

-- ---- the rows of one request

itself : (n : ℕ) → (n == n) ≡ true
itself n = grind (arith)

-- its rows tell what it names
pub rides_again : (n position : ℕ) (rides : List Ride) → rides_in (cargo_from n position rides) ≡ rides
rides_again n position [] = refl
rides_again n position (ride ∷ rides) = ap (λ (l : List Ride). ride ∷ l) (rides_again n (position + 1) rides)

pub carried-append : (front others : List Cargo) (n : ℕ) → carried_for (front ++ others) n ≡ carried_for front n ++ carried_for others n
carried-append front others n =
    ap rides_in (filter-append (λ (c : Cargo). c.request == n) front others)
    ∙ map-append (λ (c : Cargo). c.ride) (filter (λ (c : Cargo). c.request == n) front) (filter (λ (c : Cargo). c.request == n) others)

-- all of them are of it
pub carried_own : (n position : ℕ) (rides : List Ride) → carried_for (cargo_from n position rides) n ≡ rides
carried_own n position [] = refl
carried_own n position (ride ∷ rides) = rw (itself n) (ap (λ (l : List Ride). ride ∷ l) (carried_own n (position + 1) rides))

-- and of no other
pub carried_other : (n m position : ℕ) (rides : List Ride) → (m == n) ≡ false → carried_for (cargo_from m position rides) n ≡ []
carried_other n m position [] other = refl
carried_other n m position (ride ∷ rides) other = rw other (carried_other n m (position + 1) rides other)

-- they are in front, where no other row is of it
pub front_own : (n position : ℕ) (rides : List Ride) (others : List Cargo) → carried_for others n ≡ [] → front_from n position (cargo_from n position rides ++ others) ≡ cargo_from n position rides
front_own n position [] [] none = refl
front_own n position [] (c ∷ others) none = by_test (c.request == n) none
  where
    by_test : (is : Bool) → map (λ (x : Cargo). x.ride) (if is then c ∷ filter (λ (x : Cargo). x.request == n) others else filter (λ (x : Cargo). x.request == n) others) ≡ []
        → (if is && c.position == position then c ∷ front_from n (position + 1) others else []) ≡ []
    by_test true some = cc
    by_test false some = refl
front_own n position (ride ∷ rides) others none =
    rw (itself n, itself position) (ap (λ (l : List Cargo). (let c : Cargo = record { request = n; position = position; ride = ride } in c) ∷ l) (front_own n (position + 1) rides others none))

-- those in front are one position after the other
pub front_listed : (n position : ℕ) (cargo : List Cargo) → front_from n position cargo ≡ cargo_from n position (rides_in (front_from n position cargo))
front_listed n position [] = refl
front_listed n position (c ∷ cargo) = by_test (c.request == n && c.position == position) refl (front_listed n (position + 1) cargo)
  where
    by_test : (is : Bool) → (c.request == n && c.position == position) ≡ is → front_from n (position + 1) cargo ≡ cargo_from n (position + 1) (rides_in (front_from n (position + 1) cargo))
        → (if is then c ∷ front_from n (position + 1) cargo else []) ≡ cargo_from n position (rides_in (if is then c ∷ front_from n (position + 1) cargo else []))
    by_test false e others = refl
    by_test true e others =
        let parts = and_parts (c.request == n) (c.position == position) e in
        let number : c.request ≡ n = grind (arith, nat_tests) in
        let there : c.position ≡ position = grind (arith, nat_tests) in
        ap₂ (λ (m : ℕ) (k : ℕ). (let d : Cargo = record { request = m; position = k; ride = c.ride } in d) ∷ front_from n (position + 1) cargo) number there
        ∙ ap (λ (l : List Cargo). (let d : Cargo = record { request = n; position = position; ride = c.ride } in d) ∷ l) others

-- ---- how many are in front

front_drop : (n i : ℕ) (cargo : List Cargo) (c : Cargo) → i < length cargo → c ≡ get_or cargo i c
    → front_from n (i + 2) (drop i cargo) ≡ (if c.request == n && c.position == i + 2 then c ∷ front_from n (i + 2 + 1) (drop (i + 1) cargo) else [])
front_drop n i cargo c low is = ap (front_from n (i + 2)) (drop_more cargo i c low ∙ ap (λ (x : Cargo). x ∷ drop (i + 1) cargo) (sym is))

-- as far as all were
abbrev pub IsFront : ℕ → List Cargo → ℕ → Type 0
IsFront n cargo i = front_from n 2 cargo ≡ take i cargo ++ front_from n (i + 2) (drop i cargo)

pub front_more : (n i : ℕ) (cargo : List Cargo) (c : Cargo) → i < length cargo → c ≡ get_or cargo i c → IsFront n cargo i → (c.request == n && c.position == i + 2) ≡ true → IsFront n cargo (i + 1)
front_more n i cargo c low is front passes =
    front
    ∙ ap (λ l. take i cargo ++ l) (front_drop n i cargo c low is ∙ ap (λ (t : Bool). if t then c ∷ front_from n (i + 2 + 1) (drop (i + 1) cargo) else []) passes)
    ∙ sym (append_assoc (take i cargo) (c ∷ []) (front_from n (i + 2 + 1) (drop (i + 1) cargo)))
    ∙ ap (λ l. l ++ front_from n (i + 2 + 1) (drop (i + 1) cargo)) (ap (λ (x : Cargo). take i cargo ++ x ∷ []) is ∙ sym (take_more cargo i c low))
    ∙ ap (λ k. take (i + 1) cargo ++ front_from n k (drop (i + 1) cargo)) (omega arith)

pub front_stops : (n i : ℕ) (cargo : List Cargo) (c : Cargo) → i < length cargo → c ≡ get_or cargo i c → IsFront n cargo i → (c.request == n && c.position == i + 2) ≡ false → take i cargo ≡ front_from n 2 cargo
front_stops n i cargo c low is front other =
    sym (front
    ∙ ap (λ l. take i cargo ++ l) (front_drop n i cargo c low is ∙ ap (λ (t : Bool). if t then c ∷ front_from n (i + 2 + 1) (drop (i + 1) cargo) else []) other)
    ∙ append-nil (take i cargo))

pub front_ends : (n i : ℕ) (cargo : List Cargo) → length cargo ≤ i → IsFront n cargo i → take (length cargo) cargo ≡ front_from n 2 cargo
front_ends n i cargo past front =
    sym (front ∙ ap₂ (λ (a : List Cargo) (l : List Cargo). a ++ front_from n (i + 2) l) (take_all i cargo past ∙ sym (take_all (length cargo) cargo (omega arith))) (drop_all i cargo past) ∙ append-nil (take (length cargo) cargo))

-- ---- a list of activities

pub rides_more : (first : Ride) (own : List Cargo) (places : List Ride) (i : ℕ) (c : Cargo) → i < length own → length own < 8 → c ≡ get_or own i c → take (i + 1) places ≡ first ∷ rides_in (take i own) → length places ≡ 8
    → (take (i + 1 + 1) (set places (i + 1) c.ride) ≡ first ∷ rides_in (take (i + 1) own)) × (length (set places (i + 1) c.ride) ≡ 8)
rides_more first own places i c low few is so eight = (
  take_more_set places (i + 1) c.ride (omega (arith, low, few, eight))
      ∙ ap (λ l. l ++ c.ride ∷ []) so
      ∙ ap (λ (l : List Ride). first ∷ l) (ap (λ (x : Cargo). rides_in (take i own) ++ x.ride ∷ []) is ∙ sym (map-append (λ (x : Cargo). x.ride) (take i own) (get_or own i c ∷ [])) ∙ ap rides_in (sym (take_more own i c low))),
  length-set places (i + 1) c.ride ∙ eight,
)

-- so many activities are an insert's
pub rides_made : (made : Option (List Ride)) (places : List Ride) (i : ℕ) (first : Ride) (own : List Cargo) → (IsSome made ↔ IsInsert (take (length own + 1) places)) → IfSome made (λ r. r ≡ take (length own + 1) places)
    → length own ≤ i → i ≤ length own → length own < 8 → take (i + 1) places ≡ first ∷ rides_in (take i own) → MatchOption made (most_inserted < length own + 1) (λ rides. rides ≡ first ∷ rides_in own)
rides_made None places i first own found value past within few so =
    let told = all_told in
    let as_long = length-map own (λ (c : Cargo). c.ride) in
    let there = found.1 (subst IsInsert (sym told) (record { some = omega arith; few = omega (arith, as_long, few) })) in
    cc
  where
    all_told : take (length own + 1) places ≡ first ∷ rides_in own
    all_told = let same : i ≡ length own = omega (arith, past, within) in subst (λ n. take (n + 1) places ≡ first ∷ rides_in own) same (so ∙ ap (λ (l : List Cargo). first ∷ rides_in l) (take_all i own past))
rides_made (Some rides) places i first own found value past within few so =
    value ∙ (let same : i ≡ length own = omega (arith, past, within) in subst (λ n. take (n + 1) places ≡ first ∷ rides_in own) same (so ∙ ap (λ (l : List Cargo). first ∷ rides_in l) (take_all i own past)))

-- ---- one request of its rows

-- a command is its first activity with those behind
whole : (given : Command) → with_rides (behind_first given) (first_alone given) ≡ given
whole (command.InsertActivities rides) = ap command.InsertActivities (take-append-drop 1 rides)
whole (command.Plain service subtype) = refl
whole command.EnableSchedule = refl
whole command.DisableSchedule = refl
whole command.ResetSchedule = refl
whole (command.DeleteActivity target) = refl
whole (command.ShiftActivity target offset) = refl
whole (command.ShiftAll offset) = refl
whole command.SummarizeAll = refl

abbrev with_more : List Ride → Request → Request
with_more more r = record r { body = record r.body { command = with_rides more r.body.command } }

again : (r : Request) → with_more (behind_first r.body.command) (alone r) ≡ r
again r = ap (λ given. record r { body = record r.body { command = given } }) (whole r.body.command)

-- an insert is as its own row tells it where it names one activity there, whatever is behind
pub one_alone : (rides more : List Ride) (count : ℕ) → count ≡ length rides → IsInsert rides → (nat_eq count 1 ≡ true) ↔ (first_alone (with_rides more (command.InsertActivities rides)) ≡ command.InsertActivities rides)
one_alone [] more count long is = let some = is.some in absurd (omega (arith, some))
one_alone (x ∷ []) more count long is = (λ one. refl, λ same. grind (arith, nat_tests, long))
one_alone (x ∷ y ∷ rides) more count long is = (
  λ one. let count_one : count ≡ 1 = grind (arith, nat_tests, one) in absurd (omega (arith, long, count_one)),
  λ same. let shorter = ap (λ given. length (targets_of given)) same in absurd (omega (arith, shorter)),
)

-- a request of a command that these rows tell has them
pub rows_made : (row : Request) (own : List Cargo) (given : Command) → own ≡ cargo_from row.number 2 (rides_in own) → first_alone given ≡ row.body.command → behind_first given ≡ rides_in own
    → HasRows row own (record row { body = record row.body { command = given } })
rows_made row own given listed first behind = record {
  itself = ap (λ x. record row { body = record row.body { command = x } }) first;
  carried = ap (cargo_from row.number 2) behind ∙ sym listed;
}

pub none_made : (row : Request) (own : List Cargo) → ((given : Command) → IsCommand given → first_alone given ≡ row.body.command → behind_first given ≡ rides_in own → ⊥) → IsOfNone row own
none_made row own none = λ request is has.
    none request.body.command is (ap (λ (r : Request). r.body.command) has.itself) (sym (rides_again request.number 2 (behind_first request.body.command)) ∙ ap rides_in has.carried)

-- there is one request at most of given rows
pub one_request : (row : Request) (own : List Cargo) (a b : Request) → HasRows row own a → HasRows row own b → a ≡ b
one_request row own a b of_a of_b =
    sym (again a)
    ∙ ap₂ with_more (sym (rides_again a.number 2 (behind_first a.body.command)) ∙ ap rides_in (of_a.carried ∙ sym of_b.carried) ∙ rides_again b.number 2 (behind_first b.body.command)) (of_a.itself ∙ sym of_b.itself)
    ∙ again b

-- ---- requests by their numbers

-- the rows of cargo tell of this request what it names behind the first
abbrev pub IsCarried : List Cargo → Request → Type 0
IsCarried cargo r = carried_for cargo r.number ≡ behind_first r.body.command

-- none of the rows of requests is of a smaller number
pub none_before : (before xs : List Request) (n : ℕ) → AllAfter IsGoodRequest before xs → n ≤ length before → carried_for (flat_map cargo_of xs) n ≡ []
none_before before [] n all low = refl
none_before before (x ∷ xs) n all low =
    let number = all.0.number in
    let other : (x.number == n) ≡ false = grind (arith, nat_tests, number, low) in
    let longer = length-append before (x ∷ []) in
    carried-append (cargo_of x) (flat_map cargo_of xs) n
    ∙ ap₂ (λ a b. a ++ b) (carried_other n x.number 2 (behind_first x.body.command) other) (none_before (before ++ x ∷ []) xs n all.1 (omega (arith, longer, low)))

-- each of them has its own rows among those of all
pub each_carried : (front : List Cargo) (before xs : List Request) → AllAfter IsGoodRequest before xs → ((n : ℕ) → length before < n → carried_for front n ≡ [])
    → AllByRecursion (IsCarried (front ++ flat_map cargo_of xs)) xs
each_carried front before [] all none = tt
each_carried front before (x ∷ xs) all none =
    let number = all.0.number in
    let longer = length-append before (x ∷ []) in (
      carried-append front (cargo_of x ++ flat_map cargo_of xs) x.number
          ∙ ap₂ (λ a b. a ++ b) (none x.number (omega (arith, number))) (carried-append (cargo_of x) (flat_map cargo_of xs) x.number)
          ∙ ap₂ (λ a b. a ++ b) (carried_own x.number 2 (behind_first x.body.command)) (none_before (before ++ x ∷ []) xs x.number all.1 (omega (arith, longer, number)))
          ∙ append-nil (behind_first x.body.command),
      subst (λ l. AllByRecursion (IsCarried l) xs) (append_assoc front (cargo_of x) (flat_map cargo_of xs)) (each_carried (front ++ cargo_of x) (before ++ x ∷ []) xs all.1 none_more),
    )
  where
    none_more : (n : ℕ) → length (before ++ x ∷ []) < n → carried_for (front ++ cargo_of x) n ≡ []
    none_more n past =
        let number = all.0.number in
        let longer = length-append before (x ∷ []) in
        let other : (x.number == n) ≡ false = grind (arith, nat_tests, number, longer, past) in
        carried-append front (cargo_of x) n ∙ ap₂ (λ a b. a ++ b) (none n (omega (arith, longer, past))) (carried_other n x.number 2 (behind_first x.body.command) other)

joined_each : (cargo : List Cargo) (xs : List Request) → AllByRecursion (IsCarried cargo) xs → map (joined cargo) (map alone xs) ≡ xs
joined_each cargo [] all = refl
joined_each cargo (x ∷ xs) all = ap₂ (λ (r : Request) (l : List Request). r ∷ l) (ap (λ more. with_more more (alone x)) all.0 ∙ again x) (joined_each cargo xs all.1)

-- so they are told by their rows
pub joined_again : (xs : List Request) → AllAfter IsGoodRequest [] xs → map (joined (flat_map cargo_of xs)) (map alone xs) ≡ xs
joined_again xs all = joined_each (flat_map cargo_of xs) xs (each_carried [] [] xs all (λ n past. refl))

-- where the rows tell of a command what it names behind the first, its own row tells the first alone
first_told : (more : List Ride) (given : Command) → IsCommand (with_rides more given) → more ≡ behind_first (with_rides more given) → first_alone (with_rides more given) ≡ given
first_told more (command.InsertActivities []) is told = let shorter = ap length told in absurd (by_list more is.0.some shorter)
  where
    by_list : (l : List Ride) → 0 < length l → length l ≡ length (drop 1 l) → ⊥
    by_list [] some same = omega (arith, some)
    by_list (x ∷ l) some same = omega (arith, same)
first_told more (command.InsertActivities (x ∷ [])) is told = refl
first_told more (command.InsertActivities (x ∷ y ∷ rides)) is told =
    let shorter = ap length told in
    let joined_length = length-append rides more in
    absurd (omega (arith, shorter, joined_length))
first_told more (command.Plain service subtype) is told = refl
first_told more command.EnableSchedule is told = refl
first_told more command.DisableSchedule is told = refl
first_told more command.ResetSchedule is told = refl
first_told more (command.DeleteActivity target) is told = refl
first_told more (command.ShiftActivity target offset) is told = refl
first_told more (command.ShiftAll offset) is told = refl
first_told more command.SummarizeAll is told = refl

alone_each : (cargo : List Cargo) (before xs : List Request) → AllAfter IsGoodRequest before (map (joined cargo) xs) → AllByRecursion (IsCarried cargo) (map (joined cargo) xs) → map alone (map (joined cargo) xs) ≡ xs
alone_each cargo before [] good all = refl
alone_each cargo before (x ∷ xs) good all =
    ap₂ (λ (r : Request) (l : List Request). r ∷ l)
    (ap (λ given. record x { body = record x.body { command = given } }) (first_told (carried_for cargo x.number) x.body.command good.0.entry.command all.0))
    (alone_each cargo (before ++ joined cargo x ∷ []) xs good.1 all.1)

-- ---- requests of their rows

-- these requests have these rows of their own, and these of cargo
pub record HaveRows (rows : List Request) (cargo : List Cargo) (requests : List Request) : Type 0 where
  pub themselves : map alone requests ≡ rows
  pub carried : cargo ≡ flat_map cargo_of requests

-- good requests that rows tell of have them
rows_told : (cargo : List Cargo) (xs : List Request) → AllAfter IsGoodRequest [] (map (joined cargo) xs) → cargo ≡ flat_map cargo_of (map (joined cargo) xs) → HaveRows xs cargo (map (joined cargo) xs)
rows_told cargo xs good carried = record {
  themselves = alone_each cargo [] xs good (subst (λ l. AllByRecursion (IsCarried l) (map (joined cargo) xs)) (sym carried) (each_carried [] [] (map (joined cargo) xs) good (λ n past. refl)));
  carried = carried;
}

pub taken_rows : (cargo : List Cargo) (rows : List PlacedRequest) → AreTakenRows cargo rows → HaveRows (map (λ (p : PlacedRequest). p.request) rows) cargo (told_requests cargo rows)
taken_rows cargo rows taken = rows_told cargo (map (λ (p : PlacedRequest). p.request) rows) taken.requests.good taken.carried

-- and are told by them
told_again : (rows : List Request) (cargo : List Cargo) (requests : List Request) → AllAfter IsGoodRequest [] requests → HaveRows rows cargo requests → requests ≡ map (joined cargo) rows
told_again rows cargo requests good have =
    sym (joined_again requests good) ∙ ap₂ (λ (l : List Cargo) (xs : List Request). map (joined l) xs) (sym have.carried) have.themselves

-- the rows of their own
abbrev own_rows : List PlacedRequest → List Request
own_rows rows = map (λ (p : PlacedRequest). p.request) rows

-- So far these requests were read of the first rows, and these rows of cargo are left.
pub record AreRead (rows : List PlacedRequest) (cargo : List Cargo) (i : ℕ) (requests : List Request) (rest : List Cargo) : Type 0 where
  pub themselves : map alone requests ≡ take i (own_rows rows)
  pub carried : cargo ≡ flat_map cargo_of requests ++ rest
  -- if good requests have all rows, these are the first of them
  pub only : (all : List Request) → AllAfter IsGoodRequest [] all → HaveRows (own_rows rows) cargo all → requests ≡ take i all

-- all of them
pub all_read : (rows : List PlacedRequest) (cargo : List Cargo) (i : ℕ) (requests : List Request) (rest : List Cargo) → AreRead rows cargo i requests rest → length rows ≤ i → length rest ≡ 0
    → AllAfter IsGoodRequest [] requests → (requests ≡ told_requests cargo rows) × (cargo ≡ flat_map cargo_of (told_requests cargo rows))
all_read rows cargo i requests rest read past none good = (told, carried ∙ ap (flat_map cargo_of) told)
  where
    carried : cargo ≡ flat_map cargo_of requests
    carried = read.carried ∙ ap (λ l. flat_map cargo_of requests ++ l) (nil_from_length rest none) ∙ append-nil (flat_map cargo_of requests)

    told : requests ≡ told_requests cargo rows
    told =
        let as_long = length-map rows (λ (p : PlacedRequest). p.request) in
        told_again (own_rows rows) cargo requests good (record { themselves = read.themselves ∙ take_all i (own_rows rows) (omega (arith, as_long, past)); carried = carried })

-- ---- the next row, where good requests have all rows

module _ (rows : List PlacedRequest) (cargo : List Cargo) (i : ℕ) (requests : List Request) (rest : List Cargo) (read : AreRead rows cargo i requests rest)
    (all : List Request) (good : AllAfter IsGoodRequest [] all) (have : HaveRows (own_rows rows) cargo all) where
  as_long : length all ≡ length rows
  as_long = sym (length-map all alone) ∙ ap length have.themselves ∙ length-map rows (λ (p : PlacedRequest). p.request)

  -- no row of cargo is left behind all of them
  pub none_left : length rows ≤ i → length rest ≡ 0
  none_left past =
      let long = as_long in
      ap length
      (append_cancel_left (flat_map cargo_of requests) rest []
      (sym read.carried ∙ have.carried ∙ ap (flat_map cargo_of) (sym (read.only all good have ∙ take_all i all (omega (arith, long, past)))) ∙ sym (append-nil (flat_map cargo_of requests))))

  -- the next request has the next row, and of cargo the rows in front
  next_has : (row : PlacedRequest) → i < length rows → row ≡ get_or rows i row
      → (x : Request) × HasRows row.request (front_from row.request.number 2 rest) x × IsGoodRequest requests x × (requests ++ x ∷ [] ≡ take (i + 1) all)
  next_has row low is = by_rest (drop i all) refl
    where
      same : requests ≡ take i all
      same = read.only all good have

      within : i < length all
      within = let long = as_long in omega (arith, long, low)

      by_rest : (l : List Request) → drop i all ≡ l → (x : Request) × HasRows row.request (front_from row.request.number 2 rest) x × IsGoodRequest requests x × (requests ++ x ∷ [] ≡ take (i + 1) all)
      by_rest [] e = let none = sym (ap length e) ∙ length-drop i all in let some = within in absurd (omega (arith, none, some))
      by_rest (x ∷ others) e =
          let split : take i all ++ x ∷ others ≡ all = ap (λ l. take i all ++ l) (sym e) ∙ take-append-drop i all in
          let behind : AllAfter IsGoodRequest (take i all) (x ∷ others) = AllAfter-behind IsGoodRequest [] (take i all) (x ∷ others) (subst (AllAfter IsGoodRequest []) (sym split) good) in
          let more = drop_more all i x within in
          let here : x ≡ get_or all i x = cc in
          let own : alone x ≡ row.request =
          ap alone here ∙ sym (get_or-map alone all i x row.request within) ∙ ap (λ l. get_or l i row.request) have.themselves
          ∙ get_or-map (λ (p : PlacedRequest). p.request) rows i row row.request low ∙ ap (λ (p : PlacedRequest). p.request) (sym is) in
          let left : rest ≡ cargo_of x ++ flat_map cargo_of others =
          append_cancel_left (flat_map cargo_of requests) rest (cargo_of x ++ flat_map cargo_of others)
          (sym read.carried ∙ have.carried ∙ ap (flat_map cargo_of) (sym split) ∙ flat_map-append cargo_of (take i all) (x ∷ others) ∙ ap (λ l. flat_map cargo_of l ++ (cargo_of x ++ flat_map cargo_of others)) (sym same)) in
          let number = behind.0.number in
          let longer = length-append (take i all) (x ∷ []) in
          let front : front_from row.request.number 2 rest ≡ cargo_of x =
          ap₂ (λ (n : ℕ) (l : List Cargo). front_from n 2 l) (sym (ap (λ (r : Request). r.number) own)) left
          ∙ front_own x.number 2 (behind_first x.body.command) (flat_map cargo_of others) (none_before (take i all ++ x ∷ []) others x.number behind.1 (omega (arith, number, longer))) in (
            x,
            record { itself = own; carried = sym front },
            subst (λ l. IsGoodRequest l x) (sym same) behind.0,
            ap (λ l. l ++ x ∷ []) same ∙ ap (λ y. take i all ++ y ∷ []) here ∙ sym (take_more all i x within),
          )

  -- so there is one
  pub next_there : (row : PlacedRequest) → i < length rows → row ≡ get_or rows i row → ¬ IsOfNone row.request (front_from row.request.number 2 rest)
  next_there row low is none = let next = next_has row low is in none next.0 next.2.entry.command next.1

  -- and what is joined of them is the next request
  pub next_is : (row : PlacedRequest) (request : Request) (others : List Cargo) → i < length rows → row ≡ get_or rows i row → IsJoined row.request rest request others
      → IsGoodRequest requests request × (requests ++ request ∷ [] ≡ take (i + 1) all)
  next_is row request others low is made =
      let next = next_has row low is in
      let same : request ≡ next.0 = one_request row.request (front_from row.request.number 2 rest) request next.0 made.rows next.1 in
      (subst (IsGoodRequest requests) (sym same) next.2, ap (λ x. requests ++ x ∷ []) same ∙ next.3)

-- one row more
pub read_more : (rows : List PlacedRequest) (cargo : List Cargo) (i : ℕ) (requests : List Request) (rest : List Cargo) → AreRead rows cargo i requests rest
    → (row : PlacedRequest) (request : Request) (others : List Cargo) → i < length rows → row ≡ get_or rows i row → IsJoined row.request rest request others
    → AreRead rows cargo (i + 1) (requests ++ request ∷ []) others
read_more rows cargo i requests rest read row request others low is made =
    let as_long = length-map rows (λ (p : PlacedRequest). p.request) in
    record {
      themselves =
          map-append alone requests (request ∷ [])
          ∙ ap₂ (λ (l : List Request) (x : Request). l ++ x ∷ []) read.themselves (made.rows.itself ∙ ap (λ (p : PlacedRequest). p.request) is ∙ sym (get_or-map (λ (p : PlacedRequest). p.request) rows i row row.request low))
          ∙ sym (take_more (own_rows rows) i row.request (omega (arith, as_long, low)));
      carried =
          read.carried
          ∙ ap (λ l. flat_map cargo_of requests ++ l) (made.behind ∙ ap (λ l. l ++ others) (sym made.rows.carried))
          ∙ sym (append_assoc (flat_map cargo_of requests) (cargo_of request) others)
          ∙ ap (λ l. l ++ others) (ap (λ l. flat_map cargo_of requests ++ l) (sym (append-nil (cargo_of request))) ∙ sym (flat_map-append cargo_of requests (request ∷ [])));
      only = λ all good have. (next_is rows cargo i requests rest read all good have row request others low is made).1;
    }
