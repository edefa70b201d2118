-- The mirror after each act has read what came down, and nothing else.
use Rattle.std.proofs.Common.{◌≡◌, ℕ, Option, Some, None, List, [], refl, sym, ◌∙◌, ap}
use Rattle.tc_types.specs.declared.acts.Act.{Act}
use Rattle.tc_types.specs.declared.acts.Act.TheVariants as act
use Rattle.tc_types.specs.declared.acts.StepAct.{StepAct}
use Rattle.tc_types.specs.declared.acts.LinkAct.{LinkAct}
use Rattle.tc_types.specs.declared.acts.LinkAct.TheVariants as link_act
use Rattle.tc_types.specs.declared.link.frames.Frame.{Frame}
use Rattle.tc_types.specs.declared.link.reports.Report.{Report}
use Rattle.tc_types.specs.declared.requests.Request.{Request}
use Rattle.tc_world.specs.declared.events.Event.TheVariants as event
use Rattle.tc_world.specs.declared.events.LinkIndication.{LinkIndication}
use Rattle.tc_world.specs.Links.{Kind}
use Rattle.tc_world.specs.World.{Whole}
use Rattle.tc_book.specs.declared.stamps.Stamp.{Stamp}
use Rattle.tc_book.specs.Book.{Book, request_at}
use Rattle.tc_book.specs.Logs.{recorded, released_with}
use Rattle.tc_desk.specs.declared.firsts.FirstLine.{FirstLine}
use Rattle.tc_desk.specs.Acts.{released, released_beside}
use Rattle.tc_desk.specs.Asks.{offer_at, has_buffer}
use Rattle.tc_desk.specs.Commands.{payload_of}
use Rattle.tc_desk.specs.Downlink.{came_down}
use Rattle.tc_desk.specs.Effects.{heard_all}
use Rattle.tc_desk.specs.Followed.{mirror_through}
use Rattle.tc_desk.specs.Machine.{Passes, Flies, FliesBeside, Does}
use Rattle.tc_desk.specs.State.{State}
use Rattle.tc_desk.proofs.ReadLemmas.{mirror_by_through, brings_none}
use Rattle.tc_desk.proofs.RequestLemmas.{heard_all_requests, released_requests, beside_requests}
use Rattle.tc_desk.proofs.RollOfLemmas.{same_command}

-- an act on the link changes no request
pub link_requests : {U D : Type 0} (stamp : Stamp) (given : LinkAct) (old new : State U D) (all : List LinkIndication) → new.book ≡ heard_all stamp old.mirror all (released stamp given old.book) → new.book.requests ≡ old.book.requests
link_requests stamp given old new all is =
    ap (λ (book : Book). book.requests) is ∙ heard_all_requests stamp old.mirror all (released stamp given old.book) ∙ released_requests stamp given old.book

-- nor does a step
pub step_requests : {U D : Type 0} (stamp : Stamp) (given : StepAct) (old new : State U D) (all : List LinkIndication)
    → new.book ≡ heard_all stamp old.mirror all (released_beside stamp (released_with old.book given) (recorded stamp given old.book)) → new.book.requests ≡ old.book.requests
step_requests stamp given old new all is =
    let noted : Book = recorded stamp given old.book in
    ap (λ (book : Book). book.requests) is ∙ heard_all_requests stamp old.mirror all (released_beside stamp (released_with old.book given) noted) ∙ beside_requests stamp (released_with old.book given) noted

-- nothing came down, and the mirror is as it was
unread : {U D : Type 0} (old new : State U D) (all : List LinkIndication) → new.mirror ≡ old.mirror → came_down all ≡ [] → new.mirror ≡ mirror_through new.book (came_down all) old.mirror
unread old new all same none = same ∙ ap (λ (items : List Report). mirror_through new.book items old.mirror) (sym none)

-- of a request that is offered, where there is one, nothing comes down
offer_brings_none : {U D : Type 0} (up : Kind U Frame) (down : Kind D Report) (book : Book) (n : ℕ) (asked : Option Request) (w v : Whole U D) (all : List LinkIndication) → Passes up down (offer_at book n asked) w v all → came_down all ≡ []
offer_brings_none up down book n None w v all passes = ap came_down passes.1
offer_brings_none up down book n (Some r) w v all passes = brings_none up down (event.Offer n (payload_of book r.body)) w v all refl passes.happens

-- the mirror after an act on the link has read what came down
flies_read : {U D : Type 0} (up : Kind U Frame) (down : Kind D Report) (given : LinkAct) (old new : State U D) (all : List LinkIndication) → new.book.requests ≡ old.book.requests → Flies up down given old new all
    → new.mirror ≡ mirror_through new.book (came_down all) old.mirror
flies_read up down (link_act.Release n) old new all same flies = unread old new all flies.2 (offer_brings_none up down old.book n (request_at old.book n) old.world new.world all flies.0)
flies_read up down (link_act.Direct given) old new all same flies = unread old new all flies.2 (brings_none up down (event.Directive given) old.world new.world all refl flies.0.happens)
flies_read up down link_act.Tick old new all same flies = unread old new all flies.2 (brings_none up down event.Tick old.world new.world all refl flies.0.happens)
flies_read up down link_act.Up old new all same flies = unread old new all flies.mirror (brings_none up down (event.Uplink (has_buffer old.board)) flies.ready flies.carried all refl flies.frame.happens)
flies_read up down (link_act.LoseUp place) old new all same flies = unread old new all flies.2 (brings_none up down (event.LoseUp place) old.world new.world all refl flies.0.happens)
flies_read up down (link_act.LoseDown place) old new all same flies = unread old new all flies.2 (brings_none up down (event.LoseDown place) old.world new.world all refl flies.0.happens)
flies_read up down link_act.Clcw old new all same flies = unread old new all flies.2 (brings_none up down event.Clcw old.world new.world all refl flies.0.happens)
flies_read up down link_act.Down old new all same flies = flies.2 ∙ mirror_by_through old.book new.book all old.mirror (λ n. same_command old.book new.book n same)
flies_read up down link_act.Work old new all same flies = unread old new all flies.mirror (ap came_down flies.silent)
flies_read up down (link_act.Clock time) old new all same flies = unread old new all flies.mirror (ap came_down flies.silent)

-- after a release that comes with a record, if one does
beside_read : {U D : Type 0} (up : Kind U Frame) (down : Kind D Report) (beside : Option ℕ) (old new : State U D) (all : List LinkIndication) → new.book.requests ≡ old.book.requests → FliesBeside up down beside old new all
    → new.mirror ≡ mirror_through new.book (came_down all) old.mirror
beside_read up down None old new all same stands = unread old new all stands.2 (ap came_down stands.3)
beside_read up down (Some n) old new all same flies = flies_read up down (link_act.Release n) old new all same flies

-- after each act
pub does_read : {U D : Type 0} (up : Kind U Frame) (down : Kind D Report) (stamp : Stamp) (given : Act) (old new : State U D) (all : List LinkIndication) (first : FirstLine) → Does up down stamp given old new all first
    → new.mirror ≡ mirror_through new.book (came_down all) old.mirror
does_read up down stamp (act.Book given) old new all first does = unread old new all does.link.2 (ap came_down does.link.3)
does_read up down stamp (act.Link given) old new all first does = flies_read up down given old new all (link_requests stamp given old new all does.book) does.link
does_read up down stamp (act.Step given) old new all first does = beside_read up down (released_with old.book given) old new all (step_requests stamp given old new all does.book) does.link
does_read {U} {D} up down stamp (act.Ask asked) old new all first does = unread old new all (ap (λ (at : State U D). at.mirror) does.link.0) (ap came_down does.link.1)
