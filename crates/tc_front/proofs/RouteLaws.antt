-- The desk's routes, computed.
use Rattle.std.proofs.Common.{◌≡◌, ℕ, List, [], ◌∷◌, ◌++◌, codes, refl, Result, Ok, Err, OnOk}
use Rattle.matchit.proofs.OnLiterals.{matchit_on_literals}
use Rattle.matchit.specs.Rows.{param_token}
use Rattle.matchit.specs.Route.{Scan, parse_route}
use Rattle.matchit.specs.Router.{RouteOf, InsertsRead}
use Rattle.matchit.specs.declared.InsertError.{InsertError}
use Rattle.tc_front.specs.declared.routes.RouteKind.{RouteKind}
use Rattle.tc_front.specs.declared.routes.RouteKind.TheVariants as kind
use Rattle.tc_front.specs.Routes.{KindRoutes, with_read, with_route, desk_routes}

abbrev pub route : List ℕ → List ℕ → List (ℕ × ℕ) → RouteKind → RouteOf RouteKind
route pattern text names kind = record { pattern = pattern; text = text; names = names; value = kind }

abbrev pub acts : RouteOf RouteKind
acts = route (codes "/acts") (codes "/acts") [] kind.Acts

abbrev pub wall : RouteOf RouteKind
wall = route (codes "/board") (codes "/board") [] kind.Wall

abbrev pub history : RouteOf RouteKind
history = route (codes "/history/" ++ param_token ∷ 47 ∷ param_token ∷ []) (codes "/history/{request}/{after}") ((10, 17) ∷ (20, 25) ∷ []) kind.History

abbrev pub moves : RouteOf RouteKind
moves = route (codes "/moves/" ++ param_token ∷ []) (codes "/moves/{after}") ((8, 13) ∷ []) kind.Moves

abbrev pub opening : RouteOf RouteKind
opening = route (codes "/opening") (codes "/opening") [] kind.Opening

abbrev pub places : RouteOf RouteKind
places = route (codes "/places") (codes "/places") [] kind.Places

abbrev pub procedures : RouteOf RouteKind
procedures = route (codes "/procedures") (codes "/procedures") [] kind.Procedures

abbrev pub procedure : RouteOf RouteKind
procedure = route (codes "/procedures/" ++ param_token ∷ []) (codes "/procedures/{name}") ((13, 17) ∷ []) kind.Procedure

abbrev pub report : RouteOf RouteKind
report = route (codes "/report/" ++ param_token ∷ 47 ∷ param_token ∷ []) (codes "/report/{from}/{to}") ((9, 13) ∷ (16, 18) ∷ []) kind.Report

abbrev pub request : RouteOf RouteKind
request = route (codes "/requests/" ++ param_token ∷ []) (codes "/requests/{number}") ((11, 17) ∷ []) kind.Request

abbrev pub stacks : RouteOf RouteKind
stacks = route (codes "/stacks") (codes "/stacks") [] kind.Stacks

abbrev pub urgent : RouteOf RouteKind
urgent = route (codes "/urgent/" ++ param_token ∷ []) (codes "/urgent/{from}") ((9, 13) ∷ []) kind.Urgent

abbrev pub waiting : RouteOf RouteKind
waiting = route (codes "/waiting") (codes "/waiting") [] kind.Waiting

abbrev pub row : RouteOf RouteKind → List ℕ × RouteOf RouteKind
row route = (route.pattern, route)

-- the rows in their order: one that goes on comes before what it starts with
abbrev pub rows : KindRoutes
rows = row acts ∷ row wall ∷ row history ∷ row moves ∷ row opening ∷ row places ∷ row procedure ∷ row procedures ∷ row report ∷ row request ∷ row stacks ∷ row urgent ∷ row waiting ∷ []

pub desk_rows : desk_routes ≡ rows
unfolding matchit_on_literals with_route desk_routes
desk_rows = refl

made : (read : Result Scan InsertError) (kind : RouteKind) (old new : KindRoutes) → InsertsRead read kind old new (Ok tt) → new ≡ with_read read kind old
made (Ok scan) kind old new inserted = inserted.1
made (Err error) kind old new inserted = inserted.0

-- an insert that was made leaves the rows with the route
pub made_route : (route : List ℕ) (kind : RouteKind) (old new : KindRoutes) (r : Result (Unit {0}) InsertError) → InsertsRead (parse_route route) kind old new r → OnOk r (new ≡ with_route route kind old)
unfolding with_route
made_route route kind old new (Ok tt) inserted = made (parse_route route) kind old new inserted
made_route route kind old new (Err error) inserted = tt
