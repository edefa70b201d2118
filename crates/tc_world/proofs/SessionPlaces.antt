-- Where a session stands: the earlier ones in order, without the time before the first.
use Rattle.std.proofs.Common.{◌≡◌, ℕ, ◌+◌, ◌<◌, List, [], ◌∷◌, ◌++◌, Some, length, map, drop, get_or, slice_get, sym, ap, arith, add-one, zero, suc}
use Rattle.tc_world.specs.Logs.{Log}
use Rattle.tc_world.specs.Pages.{Page}

abbrev pub logs_of : List Page → List Log
logs_of pages = map (λ (page : Page). page.log) pages

-- a page that stands in front
pub page_at : (pages : List Page) (others : List Log) (p : ℕ) (page : Page) → p < length pages → page ≡ get_or pages p page → slice_get (logs_of pages ++ others) p ≡ Some page.log
page_at [] others p page within is = grind arith
page_at (first ∷ pages) others zero page within is = ap (λ (q : Page). Some q.log) (sym is)
page_at (first ∷ pages) others (suc p) page within is = page_at pages others p page (omega arith) is

-- an earlier session stands one place before its page
pub session_earlier : (pages : List Page) (newest : Log) (p : ℕ) (page : Page) → p + 1 < length pages → page ≡ get_or pages (p + 1) page → slice_get (drop 1 (logs_of pages ++ newest ∷ [])) p ≡ Some page.log
session_earlier [] newest p page within is = grind arith
session_earlier (first ∷ pages) newest p page within is =
    page_at pages (newest ∷ []) p page (omega arith) (rw add-one at is)
