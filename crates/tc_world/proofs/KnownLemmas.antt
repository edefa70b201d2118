-- Where a known request is.
use Rattle.std.proofs.Common.{◌≡◌, ℕ, ◌==◌, Bool, true, false, ◌||◌, List, [], ◌∷◌, ◌++◌, map, sym, ◌∙◌, ap}
use Rattle.std.specs.List.{flat_map, list_any}
use Rattle.std.proofs.lemmas.Grind.{flat_map-append}
use Rattle.std.proofs.lemmas.List.{append-nil}
use Rattle.std.proofs.lemmas.List.Folds.{list_any-append, flat_map-map}
use Rattle.tc_world.specs.Logs.{Log}
use Rattle.tc_world.specs.Pages.{Page}

abbrev pub is_in : ℕ → List ℕ → Bool
is_in request numbers = list_any (λ (n : ℕ). n == request) numbers

-- it was sent in some session, or it waits
known_in : (request : ℕ) (pages : List Page) (newest : Log) (waiting : List ℕ)
    → is_in request (flat_map (λ (log : Log). log.sent) (map (λ (page : Page). page.log) pages ++ newest ∷ []) ++ waiting)
    ≡ (is_in request (flat_map (λ (page : Page). page.log.sent) pages ++ newest.sent) || is_in request waiting)
known_in request pages newest waiting =
    let sent = flat_map-append (λ (log : Log). log.sent) (map (λ (page : Page). page.log) pages) (newest ∷ []) in
    let earlier = flat_map-map (λ (log : Log). log.sent) (λ (page : Page). page.log) pages in
    let last = append-nil newest.sent in
    ap (λ l. is_in request (l ++ waiting)) sent
    ∙ ap (λ l. is_in request ((l ++ (newest.sent ++ [])) ++ waiting)) earlier
    ∙ ap (λ l. is_in request ((flat_map (λ (page : Page). page.log.sent) pages ++ l) ++ waiting)) last
    ∙ list_any-append (λ (n : ℕ). n == request) (flat_map (λ (page : Page). page.log.sent) pages ++ newest.sent) waiting

-- it was sent
pub known_marked : (request : ℕ) (pages : List Page) (newest : Log) (waiting : List ℕ)
    → is_in request (flat_map (λ (page : Page). page.log.sent) pages ++ newest.sent) ≡ true
    → true ≡ is_in request (flat_map (λ (log : Log). log.sent) (map (λ (page : Page). page.log) pages ++ newest ∷ []) ++ waiting)
known_marked request pages newest waiting sent =
    sym (known_in request pages newest waiting ∙ ap (λ (b : Bool). b || is_in request waiting) sent)

-- it was not sent, and whether it waits decides
pub known_waiting : (request : ℕ) (pages : List Page) (newest : Log) (waiting : List ℕ)
    → is_in request (flat_map (λ (page : Page). page.log.sent) pages ++ newest.sent) ≡ false
    → is_in request waiting ≡ is_in request (flat_map (λ (log : Log). log.sent) (map (λ (page : Page). page.log) pages ++ newest ∷ []) ++ waiting)
known_waiting request pages newest waiting sent =
    sym (known_in request pages newest waiting ∙ ap (λ (b : Bool). b || is_in request waiting) sent)
