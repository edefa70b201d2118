-- What a batch carries of the activities that inserts name behind the first, and how many these are.
use Rattle.std.proofs.Common.{◌≡◌, ℕ, ◌+◌, ◌<◌, ◌≤◌, List, [], ◌∷◌, ◌++◌, length, map, drop, take, get_or, refl, sym, ◌∙◌, ap, arith}
use Rattle.std.specs.List.{flat_map}
use Rattle.std.proofs.lemmas.List.{append_assoc, append-nil, drop_all, length-append, length-drop, length-map, length-take, map-append, take_more}
use Rattle.std.proofs.lemmas.Grind.{flat_map-append}
use Rattle.std.proofs.lemmas.List.Folds.{length-flat_map-take}
use Rattle.tc_types.specs.declared.requests.Command.{Command}
use Rattle.tc_types.specs.declared.requests.Command.TheVariants as command
use Rattle.tc_types.specs.declared.requests.Request.{Request}
use Rattle.tc_types.specs.declared.rides.Ride.{Ride}
use Rattle.tc_types.specs.declared.tables.cargo.Cargo.{Cargo}
use Rattle.tc_types.specs.declared.tables.rows.Row.{Row}
use Rattle.tc_types.specs.declared.tables.rows.Row.TheVariants.{Carried}
use Rattle.tc_book.specs.Cargoes.{behind_first, cargo_from, cargo_of, cargo_length}
use Rattle.tc_book.specs.Loads.{ride_from, command_from}

-- ---- one activity more

-- the row of an activity of request n at this position
abbrev row_at : ℕ → ℕ → Ride → Cargo
row_at n position ride = record { request = n; position = position; ride = ride }

cargo_snoc : (n p : ℕ) (rides : List Ride) (ride : Ride) → cargo_from n p (rides ++ ride ∷ []) ≡ cargo_from n p rides ++ row_at n (p + length rides) ride ∷ []
cargo_snoc n p [] ride = ap (λ k. row_at n k ride ∷ []) (omega arith)
cargo_snoc n p (first ∷ rides) ride =
    ap (λ l. row_at n p first ∷ l) (cargo_snoc n (p + 1) rides ride ∙ ap (λ k. cargo_from n (p + 1) rides ++ row_at n k ride ∷ []) (omega arith))

pub carried_more : (n i : ℕ) (rides : List Ride) (ride : Ride) (old now new : List Row) → i < length rides → ride ≡ get_or rides i ride
    → now ≡ old ++ map (λ cargo. Carried cargo) (cargo_from n 2 (take i rides)) → new ≡ now ++ Carried (row_at n (i + 2) ride) ∷ []
    → new ≡ old ++ map (λ cargo. Carried cargo) (cargo_from n 2 (take (i + 1) rides))
carried_more n i rides ride old now new low is before after =
    after
    ∙ ap (λ l. l ++ Carried (row_at n (i + 2) ride) ∷ []) before
    ∙ append_assoc old (map (λ cargo. Carried cargo) (cargo_from n 2 (take i rides))) (Carried (row_at n (i + 2) ride) ∷ [])
    ∙ ap (λ l. old ++ l)
    (sym (map-append (λ cargo. Carried cargo) (cargo_from n 2 (take i rides)) (row_at n (i + 2) ride ∷ []))
    ∙ ap (map (λ cargo. Carried cargo))
    (ap (λ k. cargo_from n 2 (take i rides) ++ row_at n k ride ∷ []) there
    ∙ sym (cargo_snoc n 2 (take i rides) ride)
    ∙ ap (λ r. cargo_from n 2 (take i rides ++ r ∷ [])) is
    ∙ ap (cargo_from n 2) (sym (take_more rides i ride low))))
  where
    there : i + 2 ≡ 2 + length (take i rides)
    there = let len = length-take i rides in grind (arith, len, low)

-- ---- one request more

-- what one item more gives
pub flat_taken : {X Y : Type 0} (h : X → List Y) (xs : List X) (i : ℕ) (x : X) → i < length xs → x ≡ get_or xs i x → flat_map h (take (i + 1) xs) ≡ flat_map h (take i xs) ++ h x
flat_taken h xs i x low is =
    ap (flat_map h) (take_more xs i x low)
    ∙ flat_map-append h (take i xs) (get_or xs i x ∷ [])
    ∙ ap (λ l. flat_map h (take i xs) ++ l) (append-nil (h (get_or xs i x)) ∙ ap h (sym is))

pub flat_more : {X Y Z : Type 0} (to : Y → Z) (h : X → List Y) (xs : List X) (i : ℕ) (x : X) (old now new : List Z) → i < length xs → x ≡ get_or xs i x
    → now ≡ old ++ map to (flat_map h (take i xs)) → new ≡ now ++ map to (h x) → new ≡ old ++ map to (flat_map h (take (i + 1) xs))
flat_more to h xs i x old now new low is before after =
    after
    ∙ ap (λ l. l ++ map to (h x)) before
    ∙ append_assoc old (map to (flat_map h (take i xs))) (map to (h x))
    ∙ ap (λ l. old ++ l) (sym (map-append to (flat_map h (take i xs)) (h x)) ∙ ap (map to) (sym (flat_taken h xs i x low is)))

-- so there are so many more, and no more than of all
pub flat_longer : {X Y : Type 0} (h : X → List Y) (xs : List X) (i : ℕ) (x : X) → i < length xs → x ≡ get_or xs i x
    → length (flat_map h (take (i + 1) xs)) ≡ length (flat_map h (take i xs)) + length (h x)
flat_longer h xs i x low is = ap length (flat_taken h xs i x low is) ∙ length-append (flat_map h (take i xs)) (h x)

pub flat_within : {X Y : Type 0} (h : X → List Y) (xs : List X) (i : ℕ) (x : X) → i < length xs → x ≡ get_or xs i x
    → length (flat_map h (take i xs)) + length (h x) ≤ length (flat_map h xs)
flat_within h xs i x low is =
    let here = ap (λ y. length (h y)) is in
    let all = length-flat_map-take h xs i x low in
    omega (arith, here, all)

-- ---- how many they are

cargo_long : (n p : ℕ) (rides : List Ride) → length (cargo_from n p rides) ≡ length rides
cargo_long n p [] = refl
cargo_long n p (ride ∷ rides) = let more = cargo_long n (p + 1) rides in omega (arith, more)

-- as many rows of a request as it names activities behind the first
pub cargo_counted : (r : Request) → length (cargo_of r) ≡ length (behind_first r.body.command)
cargo_counted r = cargo_long r.number 2 (behind_first r.body.command)

pub cargo_behind : (requests more : List Request) → cargo_length (requests ++ more) ≡ cargo_length requests + cargo_length more
cargo_behind requests more = ap length (flat_map-append cargo_of requests more) ∙ length-append (flat_map cargo_of requests) (flat_map cargo_of more)

-- of one request more
pub cargo_entered : (requests : List Request) (r : Request) → cargo_length (requests ++ r ∷ []) ≡ cargo_length requests + length (behind_first r.body.command)
cargo_entered requests r =
    cargo_behind requests (r ∷ [])
    ∙ ap (λ n. cargo_length requests + n) (ap length (append-nil (cargo_of r)) ∙ cargo_counted r)

-- behind all requests there is none
pub cargo_past : (n : ℕ) (requests : List Request) → length requests ≤ n → cargo_length (drop n requests) ≡ 0
cargo_past n requests past = ap cargo_length (drop_all n requests past)

-- the numbers of requests in place of lines are as many
pub behind_from : (start : ℕ) (given : Command) → length (behind_first (command_from start given)) ≡ length (behind_first given)
behind_from start (command.Plain service subtype) = refl
behind_from start command.EnableSchedule = refl
behind_from start command.DisableSchedule = refl
behind_from start command.ResetSchedule = refl
behind_from start (command.InsertActivities rides) =
    let made = length-drop 1 (map (ride_from start) rides) in
    let before = length-drop 1 rides in
    let same = length-map rides (ride_from start) in
    omega (arith, made, before, same)
behind_from start (command.DeleteActivity target) = refl
behind_from start (command.ShiftActivity target offset) = refl
behind_from start (command.ShiftAll offset) = refl
behind_from start command.SummarizeAll = refl
