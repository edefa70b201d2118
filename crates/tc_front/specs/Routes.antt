-- The routes of the desk: the rows that a router holds once they were added, and what a match of one names.
use Rattle.std.specs.Prelude.{ℕ, ◌≡◌, None, Result, Ok, Err, List, [], ◌∷◌, codes}
use Rattle.matchit.specs.Rows.{RowsOf}
use Rattle.matchit.specs.Order.{placed}
use Rattle.matchit.specs.Route.{Scan, parse_route}
use Rattle.matchit.specs.Router.{RouteOf, route_from, nearest}
use Rattle.matchit.specs.declared.InsertError.{InsertError}
use Rattle.tc_front.specs.declared.routes.RouteKind.{RouteKind}
use Rattle.tc_front.specs.declared.routes.RouteKind.TheVariants as kind
use Rattle.tc_front.specs.declared.paths.Post.TheVariants as post
use Rattle.tc_front.specs.Paths.{Named, posts_to, asks_for, shows_wall, tells_opening, places_text, waiting_text, request, history, report, urgent, moves, procedure}

abbrev pub KindRoutes : Type 0
KindRoutes = RowsOf (RouteOf RouteKind)

-- the rows with the route that was read
abbrev pub with_read : Result Scan InsertError → RouteKind → KindRoutes → KindRoutes
with_read (Ok scan) kind rows = placed (scan.pattern, route_from scan kind) rows
with_read (Err error) kind rows = rows

-- the rows with the route that this text spells
unfoldable pub with_route : List ℕ → RouteKind → KindRoutes → KindRoutes
with_route route kind rows = with_read (parse_route route) kind rows

-- one route for each path
unfoldable pub desk_routes : KindRoutes
desk_routes =
    with_route (codes "/opening") kind.Opening
    (with_route (codes "/board") kind.Wall
    (with_route (codes "/procedures/{name}") kind.Procedure
    (with_route (codes "/moves/{after}") kind.Moves
    (with_route (codes "/urgent/{from}") kind.Urgent
    (with_route (codes "/waiting") kind.Waiting
    (with_route (codes "/report/{from}/{to}") kind.Report
    (with_route (codes "/history/{request}/{after}") kind.History
    (with_route (codes "/requests/{number}") kind.Request
    (with_route (codes "/places") kind.Places
    (with_route (codes "/procedures") kind.Procedures
    (with_route (codes "/stacks") kind.Stacks
    (with_route (codes "/acts") kind.Acts []))))))))))))

-- the route reads well, and no route of the rows stands against it
abbrev pub IsFree : Result Scan InsertError → KindRoutes → Type 0
IsFree (Ok scan) rows = nearest scan.pattern rows ≡ None
IsFree (Err error) rows = ⊥

-- what a match of this kind names, by its two texts
abbrev pub named_at : RouteKind → List ℕ → List ℕ → Named
named_at kind.Acts first second = posts_to post.Acts
named_at kind.Stacks first second = posts_to post.Stacks
named_at kind.Procedures first second = posts_to post.Procedures
named_at kind.Places first second = asks_for places_text
named_at kind.Request first second = request first
named_at kind.History first second = history first second
named_at kind.Report first second = report first second
named_at kind.Waiting first second = asks_for waiting_text
named_at kind.Urgent first second = urgent first
named_at kind.Moves first second = moves first
named_at kind.Procedure first second = procedure first
named_at kind.Wall first second = shows_wall
named_at kind.Opening first second = tells_opening

-- the texts that a match took, each behind its name; one that is not there is empty
abbrev pub first_text : List (List ℕ × List ℕ) → List ℕ
first_text [] = []
first_text (pair ∷ pairs) = pair.1

abbrev pub second_text : List (List ℕ × List ℕ) → List ℕ
second_text [] = []
second_text (pair ∷ pairs) = first_text pairs
