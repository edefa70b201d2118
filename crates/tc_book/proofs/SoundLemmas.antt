-- The parts of sound tables are the whole, and the tables of a good book are sound.
use Rattle.std.proofs.Common.{◌≡◌, ◌+◌, Option, Some, None, List, [], ◌∷◌, map, cond, refl, sym, ◌∙◌, ap, subst}
use Rattle.std.specs.Prelude.{count_by, unwrap_or}
use Rattle.std.specs.List.{flat_map}
use Rattle.std.proofs.lemmas.List.Sums.{sum_by-cons}
use Rattle.tc_types.specs.declared.history.places.Place.{Place}
use Rattle.tc_types.specs.declared.history.places.Place.TheVariants.{Entered}
use Rattle.tc_types.specs.declared.requests.Request.{Request}
use Rattle.tc_types.specs.declared.tables.rows.PlacedRequest.{PlacedRequest}
use Rattle.tc_types.specs.declared.tables.rows.LoadedStack.{LoadedStack}
use Rattle.tc_types.specs.declared.tables.rows.Tally.{Tally}
use Rattle.tc_types.specs.declared.tables.cargo.Cargo.{Cargo}
use Rattle.tc_types.specs.Lawful.{is_among}
use Rattle.tc_types.specs.History.{place_of, count_at}
use Rattle.tc_types.specs.declared.history.moves.Move.{Move}
use Rattle.tc_types.specs.Tables.{Image, tallies_by}
use Rattle.tc_proc.specs.GoodLogs.{IsGoodLog}
use Rattle.tc_book.specs.Book.{Book, stands}
use Rattle.tc_book.specs.Cargoes.{alone, cargo_of, joined}
use Rattle.tc_book.specs.Good.{IsGoodBook}
use Rattle.tc_book.specs.GoodApprovals.{AreGoodApprovals}
use Rattle.tc_book.specs.Opening.{opened_places, is_opened, count_opened}
use Rattle.tc_book.specs.Sound.{IsSound, book_of}
use Rattle.tc_book.specs.SoundParts.{IsSoundStart, IsSoundRest}
use Rattle.tc_book.specs.Stacks.{stacks_of}
use Rattle.tc_book.specs.Tables.{placed, image_of}
use Rattle.tc_book.proofs.CargoLemmas.{joined_again}

-- the book is good
pub sound_book : (image : Image) → IsSoundStart image → AreGoodApprovals (book_of image).requests image.approvals → IsSoundRest image → IsGoodLog (book_of image).log → IsGoodBook (book_of image)
sound_book image start approvals rest log = record {
  history = start.past.history;
  requests = start.requests.requests;
  few = start.requests.few;
  entered = start.entered;
  named = approvals.named;
  alone = approvals.alone;
  stacks_named = rest.stacks_named;
  approved = approvals.approved;
  stacks_approved = rest.stacks_approved;
  log = log;
  log_named = rest.log_named;
  complete = rest.complete;
  persons = rest.persons;
  few_stacks = start.requests.few_stacks;
  numbers = start.past.numbers;
}

pub sound_whole : (image : Image) → IsSoundStart image → AreGoodApprovals (book_of image).requests image.approvals → IsSoundRest image → IsGoodLog (book_of image).log → IsSound image
sound_whole image start approvals rest log = record {
  book = sound_book image start approvals rest log;
  placed = start.past.placed;
  tallied = start.past.tallied;
  stacks = start.requests.stacks;
  cargo = start.requests.cargo;
}

-- sound tables are those of the book that they tell of
told : (image : Image) (requests : List PlacedRequest) (tallies : List Tally) (stacks : List LoadedStack) (cargo : List Cargo)
    → requests ≡ image.requests → tallies ≡ image.tallies → stacks ≡ image.stacks → cargo ≡ image.cargo
    → record image { requests = requests; tallies = tallies; stacks = stacks; cargo = cargo } ≡ image
told image requests tallies stacks cargo by_requests by_tallies by_stacks by_cargo =
    ap (λ (l : List PlacedRequest). record image { requests = l; tallies = tallies; stacks = stacks; cargo = cargo }) by_requests
    ∙ ap (λ (l : List Tally). record image { tallies = l; stacks = stacks; cargo = cargo }) by_tallies
    ∙ ap (λ (l : List LoadedStack). record image { stacks = l; cargo = cargo }) by_stacks
    ∙ ap (λ (l : List Cargo). record image { cargo = l }) by_cargo

pub told_image : (image : Image) → IsSound image → image_of (book_of image) ≡ image
told_image image sound =
    told image (map (placed image.moves) (map alone (book_of image).requests)) (tallies_by (count_at image.moves)) (stacks_of (book_of image).requests) (flat_map cargo_of (book_of image).requests)
    (sym sound.placed) (sym sound.tallied) (sym sound.stacks) (sym sound.cargo)

-- as many requests are moved by an opening as the rows say
opened_alike : (history : List Move) (at : Option Place) → is_opened (unwrap_or at Entered) ≡ is_among opened_places at
opened_alike history None = refl
opened_alike history (Some at) = refl

pub opened_counted : (book : Book) (requests : List Request) → count_by (λ (p : PlacedRequest). is_opened p.place) (map (placed book.history) (map alone requests)) ≡ count_by (λ (r : Request). stands book r.number opened_places) requests
opened_counted book [] = refl
opened_counted book (r ∷ requests) =
    sum_by-cons (λ (p : PlacedRequest). cond (is_opened p.place) 1 0) (placed book.history (alone r)) (map (placed book.history) (map alone requests))
    ∙ ap (λ t. cond t 1 0 + count_by (λ (p : PlacedRequest). is_opened p.place) (map (placed book.history) (map alone requests))) (opened_alike book.history (place_of book.history r.number))
    ∙ ap (λ n. cond (stands book r.number opened_places) 1 0 + n) (opened_counted book requests)
    ∙ sym (sum_by-cons (λ (x : Request). cond (stands book x.number opened_places) 1 0) r requests)

-- so the rows say how many they are
pub opened_told : (image : Image) → image.requests ≡ map (placed image.moves) (map alone (book_of image).requests) → count_by (λ (p : PlacedRequest). is_opened p.place) image.requests ≡ count_opened (book_of image)
opened_told image are = ap (count_by (λ (p : PlacedRequest). is_opened p.place)) are ∙ opened_counted (book_of image) (book_of image).requests

-- ---- the tables of a good book

requests_again : (history : List Move) (requests : List Request) → map (λ (p : PlacedRequest). p.request) (map (placed history) requests) ≡ requests
requests_again history [] = refl
requests_again history (r ∷ requests) = ap (λ (l : List Request). r ∷ l) (requests_again history requests)

-- they tell of its requests, by the rows of their own and by those of cargo
requests_told : (book : Book) → IsGoodBook book → (book_of (image_of book)).requests ≡ book.requests
requests_told book good =
    ap (map (joined (flat_map cargo_of book.requests))) (requests_again book.history (map alone book.requests)) ∙ joined_again book.requests good.requests

-- and so of it
pub book_again : (book : Book) → IsGoodBook book → book_of (image_of book) ≡ book
book_again book good = ap (λ (l : List Request). record book { requests = l }) (requests_told book good)

-- and are sound
pub good_sound : (book : Book) → IsGoodBook book → IsSound (image_of book)
good_sound book good = record {
  book = subst IsGoodBook (sym (book_again book good)) good;
  placed = ap (λ (l : List Request). map (placed book.history) (map alone l)) (sym (requests_told book good));
  tallied = refl;
  stacks = ap stacks_of (sym (requests_told book good));
  cargo = ap (flat_map cargo_of) (sym (requests_told book good));
}
