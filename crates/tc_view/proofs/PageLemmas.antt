-- The page of a wall that shows a book, a desk or a file.
use Rattle.std.proofs.Common.{◌≡◌, ◌∙◌, ℕ, List, length, Option, Some, None, Result, Ok, Err, String, ap, subst, sym}
use Rattle.std.specs.Prelude.{IfOk, IsSomeAnd}
use Rattle.std.specs.String.{string_bytes}
use Rattle.tc_types.specs.declared.link.frames.Frame.{Frame}
use Rattle.tc_types.specs.declared.link.reports.Report.{Report}
use Rattle.tc_book.specs.Book.{Book}
use Rattle.tc_world.specs.Links.{Kind}
use Rattle.tc_desk.specs.State.{State}
use Rattle.tc_wall.specs.declared.walls.Wall.{Wall}
use Rattle.tc_wall.specs.declared.walls.Live.{Live}
use Rattle.tc_wall.specs.Page.{wall_page}
use Rattle.tc_wall.specs.declared.walls.Opening.{Opening}
use Rattle.tc_view.specs.Shown.{IsDeskPage, IsFilePage, ShowsBook, ShowsLive}
use Rattle.tc_view.specs.Urgents.{scheduled_in, scheduled_on}

pub page_made : {A E : Type 0} (book : Book) (stood : ℕ) (scheduled : List ℕ) (opening : Option Opening) (live : Option Live) (r : Result (String A) E) (wall : Wall) → IfOk r (λ t. string_bytes t ≡ wall_page wall)
    → ShowsBook book stood scheduled wall → wall.opening ≡ opening → wall.live ≡ live
    → IfOk r (λ t. (x : Wall) × ShowsBook book stood scheduled x × (x.opening ≡ opening) × (x.live ≡ live) × (string_bytes t ≡ wall_page x))
page_made book stood scheduled opening live (Ok t) wall wrote shows opens is = (wall, shows, opens, is, wrote)
page_made book stood scheduled opening live (Err e) wall wrote shows opens is = tt

pub desk_made : {U D A E : Type 0} (up : Kind U Frame) (down : Kind D Report) (opening : Opening) (desk : State U D) (book : Book) (stood : ℕ) (scheduled : List ℕ) (stated : Option Opening) (live : Option Live) (told : Live) (r : Result (String A) E)
    → book ≡ desk.book → stood ≡ opening.stood → scheduled ≡ scheduled_on (Some told) → stated ≡ Some opening → live ≡ Some told → ShowsLive up down desk told
    → IfOk r (λ t. (x : Wall) × ShowsBook book stood scheduled x × (x.opening ≡ stated) × (x.live ≡ live) × (string_bytes t ≡ wall_page x)) → IfOk r (λ t. IsDeskPage up down opening desk (string_bytes t))
desk_made up down opening desk book stood scheduled stated live told (Ok t) same stands all opens is shows (wall, shown, opened, lives, wrote) = record {
  wall = wall;
  shows = record {
    shown = subst (λ l. ShowsBook desk.book opening.stood l wall) (all ∙ sym (ap scheduled_on (lives ∙ is)))
        (subst (λ n. ShowsBook desk.book n scheduled wall) stands (subst (λ b. ShowsBook b stood scheduled wall) same shown));
    opened = opened ∙ opens;
    live = subst (λ (l : Option Live). IsSomeAnd l (ShowsLive up down desk)) (sym (lives ∙ is)) shows;
  };
  bytes = wrote;
}
desk_made up down opening desk book stood scheduled stated live told (Err e) same stands all opens is shows made = tt

pub file_made : {A E : Type 0} (book : Book) (stood : ℕ) (scheduled : List ℕ) (r : Result (String A) E) → stood ≡ length book.history → scheduled ≡ scheduled_in book
    → IfOk r (λ t. (x : Wall) × ShowsBook book stood scheduled x × (x.opening ≡ None) × (x.live ≡ None) × (string_bytes t ≡ wall_page x)) → IfOk r (λ t. IsFilePage book (string_bytes t))
file_made book stood scheduled (Ok t) stands all (wall, shown, opened, lives, wrote) = record {
  wall = wall;
  shows = record { shown = subst (λ l. ShowsBook book (length book.history) l wall) all (subst (λ n. ShowsBook book n scheduled wall) stands shown); opened = opened; live = lives };
  bytes = wrote;
}
file_made book stood scheduled (Err e) stands all made = tt
