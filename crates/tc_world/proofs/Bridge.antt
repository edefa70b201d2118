-- What happens over links of any kind that keep the laws happens, in what is in flight, over links that only lose.
use Rattle.std.proofs.Common.{◌≡◌, ℕ, Bool, true, false, inl, inr, List, [], ◌∷◌, ◌++◌, sym, ◌∙◌, ap}
use Rattle.std.specs.Prelude.{MatchBool}
use Rattle.tc_types.specs.declared.link.frames.Frame.{Frame}
use Rattle.tc_types.specs.declared.link.reports.Report.{Report}
use Rattle.tc_types.specs.declared.link.reports.Report.TheVariants as report
use Rattle.tc_types.specs.declared.link.directives.Directive.{Directive}
use Rattle.tc_fop.specs.Machine.{Action}
use Rattle.tc_fop.specs.Moves.{is_initiation}
use Rattle.tc_world.specs.declared.events.Event.{Event}
use Rattle.tc_world.specs.declared.events.Event.TheVariants as event
use Rattle.tc_world.specs.declared.events.LinkIndication.{LinkIndication}
use Rattle.tc_world.specs.Sublist.{IsSublist}
use Rattle.tc_world.specs.Links.{Kind, lossy, PutsAll, IsReadied}
use Rattle.tc_world.specs.Abstraction.{seen}
use Rattle.tc_world.specs.World.{Whole, Happens, unjudged, Carries, Begins, IsIdle, Boards, Lands, Hears, Descends}

-- the laws of a carrier, of its kind
pub record OnlyLoses {C T : Type 0} (kind : Kind C T) : Type 0 where
  pub room : (link : C) → kind.content (kind.without_room link) ≡ kind.content link
  pub puts : (old new : C) (item : T) → kind.puts old item new → IsSublist (kind.content new) (kind.content old ++ item ∷ [])
  pub takes : (old new : C) (item : T) → kind.takes old item new → (lost : List T) × (kind.content old ≡ lost ++ item ∷ kind.content new)
  pub loses : (old new : C) (place : ℕ) (answer : Bool) → kind.loses old place answer new → IsSublist (kind.content new) (kind.content old)

-- where only room was made, what is in flight stays
pub readied_content : {C T : Type 0} (kind : Kind C T) → OnlyLoses kind → (old ready : C) → IsReadied kind old ready → kind.content ready ≡ kind.content old
readied_content kind law old ready same = sym (law.room ready) ∙ ap (λ c. kind.content c) same ∙ law.room old

puts_seen : {C T : Type 0} (kind : Kind C T) → OnlyLoses kind → (old : C) (items : List T) (new : C)
    → PutsAll kind old items new → PutsAll lossy (kind.content old) items (kind.content new)
puts_seen kind law old [] new e = ap (λ c. kind.content c) e
puts_seen kind law old (item ∷ items) new (next, put, rest) =
    (kind.content next, law.puts old next item put, puts_seen kind law next items new rest)

carries_seen : {U D : Type 0} (uplink : Kind U Frame) (downlink : Kind D Report) → OnlyLoses uplink
    → (actions : List Action) (old new : Whole U D) (answer : List LinkIndication)
    → Carries uplink actions old new answer → Carries lossy actions (seen uplink downlink old) (seen uplink downlink new) answer
carries_seen uplink downlink law actions old new answer h = record {
  ready = uplink.content h.ready;
  readied = readied_content uplink law old.up h.ready h.readied;
  frames = puts_seen uplink law h.ready _ new.up h.frames;
  whole = ap (λ w. seen uplink downlink w) h.whole;
  answered = h.answered;
}

begins_seen : {U D : Type 0} (uplink : Kind U Frame) (downlink : Kind D Report) → OnlyLoses uplink
    → (given : Directive) (actions : List Action) (old new : Whole U D) (answer : List LinkIndication)
    → Begins uplink downlink given actions old new answer
    → Begins lossy lossy given actions (seen uplink downlink old) (seen uplink downlink new) answer
begins_seen uplink downlink law given actions old new answer h = record {
  ready = uplink.content h.ready;
  readied = readied_content uplink law old.up h.ready h.readied;
  frames = puts_seen uplink law h.ready _ new.up h.frames;
  whole = ap (λ w. seen uplink downlink w) h.whole;
  answered = h.answered;
}

directs_seen : {U D : Type 0} (uplink : Kind U Frame) (downlink : Kind D Report) → OnlyLoses uplink
    → (given : Directive) (actions : List Action) (old new : Whole U D) (answer : List LinkIndication) (initiation : Bool)
    → MatchBool initiation (Begins uplink downlink given actions old new answer) (Carries uplink actions old new answer)
    → MatchBool initiation (Begins lossy lossy given actions (seen uplink downlink old) (seen uplink downlink new) answer)
    (Carries lossy actions (seen uplink downlink old) (seen uplink downlink new) answer)
directs_seen uplink downlink law given actions old new answer true h = begins_seen uplink downlink law given actions old new answer h
directs_seen uplink downlink law given actions old new answer false h = carries_seen uplink downlink law actions old new answer h

idle_seen : {U D : Type 0} (uplink : Kind U Frame) (downlink : Kind D Report) → OnlyLoses uplink → OnlyLoses downlink
    → (old new : Whole U D) (answer : List LinkIndication)
    → IsIdle uplink downlink old new answer → IsIdle lossy lossy (seen uplink downlink old) (seen uplink downlink new) answer
idle_seen uplink downlink ul dl old new answer h = record {
  same = record {
    up = readied_content uplink ul old.up new.up h.same.up;
    down = readied_content downlink dl old.down new.down h.same.down;
    rest = ap (λ w. seen uplink downlink w) h.same.rest;
  };
  answered = h.answered;
}

boards_seen : {U D : Type 0} (uplink : Kind U Frame) (downlink : Kind D Report) → OnlyLoses uplink
    → (room : Bool) (old new : Whole U D) (answer : List LinkIndication)
    → Boards uplink room old new answer → Boards lossy room (seen uplink downlink old) (seen uplink downlink new) answer
boards_seen uplink downlink law room old new answer h = record {
  frame = h.frame;
  taken = law.takes old.up new.up h.frame h.taken;
  whole = ap (λ w. seen uplink downlink w) h.whole;
  answered = h.answered;
}

hears_seen : {U D : Type 0} (uplink : Kind U Frame) (downlink : Kind D Report) → OnlyLoses uplink
    → (item : Report) (old new : Whole U D) (answer : List LinkIndication)
    → Hears uplink item old new answer → Hears lossy item (seen uplink downlink old) (seen uplink downlink new) answer
hears_seen uplink downlink law (report.Word word) old new answer (heard, actions, rest, reads, gives, carries, answered) =
    (heard, actions, rest, reads, gives, carries_seen uplink downlink law actions old new rest carries, answered)
hears_seen uplink downlink law (report.Telemetry telemetry) old new answer (readied, whole, answered) =
    (readied_content uplink law old.up new.up readied, ap (λ w. seen uplink downlink w) whole, answered)

lands_seen : {U D : Type 0} (uplink : Kind U Frame) (downlink : Kind D Report) → OnlyLoses uplink → OnlyLoses downlink
    → (old new : Whole U D) (answer : List LinkIndication)
    → Lands uplink downlink old new answer → Lands lossy lossy (seen uplink downlink old) (seen uplink downlink new) answer
lands_seen uplink downlink up_law down_law old new answer h = record {
  item = h.item;
  left = downlink.content h.left;
  taken = down_law.takes old.down h.left h.item h.taken;
  heard = hears_seen uplink downlink up_law h.item (record old { down = h.left }) new answer h.heard;
}

descends_seen : {U D : Type 0} (uplink : Kind U Frame) (downlink : Kind D Report) → OnlyLoses downlink
    → (item : Report) (old new : Whole U D) (answer : List LinkIndication)
    → Descends downlink item old new answer → Descends lossy item (seen uplink downlink old) (seen uplink downlink new) answer
descends_seen uplink downlink law item old new answer h = record {
  ready = downlink.content h.ready;
  readied = readied_content downlink law old.down h.ready h.readied;
  put = law.puts h.ready new.down item h.put;
  whole = ap (λ w. seen uplink downlink w) h.whole;
  answered = h.answered;
}

-- one event
pub happens_seen : {U D : Type 0} (uplink : Kind U Frame) (downlink : Kind D Report) → OnlyLoses uplink → OnlyLoses downlink
    → (given : Event) (old new : Whole U D) (answer : List LinkIndication)
    → Happens uplink downlink given old new answer
    → Happens lossy lossy given (seen uplink downlink old) (seen uplink downlink new) answer
happens_seen uplink downlink ul dl (event.Offer request body) old new answer (actions, unknown, gives, h) =
    (actions, unknown, gives, carries_seen uplink downlink ul actions old new answer h)
happens_seen uplink downlink ul dl (event.Directive given) old new answer (actions, gives, h, fits, level) =
    (actions, gives, directs_seen uplink downlink ul given actions old (unjudged old new) answer (is_initiation given) h, fits, level)
happens_seen uplink downlink ul dl event.Tick old new answer (actions, gives, h) =
    (actions, gives, carries_seen uplink downlink ul actions old new answer h)
happens_seen uplink downlink ul dl (event.Uplink room) old new answer (inl (nothing, h)) =
    inl (nothing, idle_seen uplink downlink ul dl old new answer h)
happens_seen uplink downlink ul dl (event.Uplink room) old new answer (inr h) =
    inr (boards_seen uplink downlink ul room old new answer h)
happens_seen uplink downlink ul dl (event.LoseUp place) old new answer h = record {
  found = h.found;
  lost = ul.loses old.up new.up place h.found h.lost;
  whole = ap (λ w. seen uplink downlink w) h.whole;
  answered = h.answered;
}
happens_seen uplink downlink ul dl event.Release old new answer (whole, answered) =
    (ap (λ w. seen uplink downlink w) whole, answered)
happens_seen uplink downlink ul dl event.Clcw old new answer (clcw, tells, h) =
    (clcw, tells, descends_seen uplink downlink dl _ old new answer h)
happens_seen uplink downlink ul dl (event.Put telemetry) old new answer h =
    descends_seen uplink downlink dl _ old new answer h
happens_seen uplink downlink ul dl event.Downlink old new answer (inl (nothing, h)) =
    inl (nothing, idle_seen uplink downlink ul dl old new answer h)
happens_seen uplink downlink ul dl event.Downlink old new answer (inr h) =
    inr (lands_seen uplink downlink ul dl old new answer h)
happens_seen uplink downlink ul dl (event.LoseDown place) old new answer h = record {
  found = h.found;
  lost = dl.loses old.down new.down place h.found h.lost;
  whole = ap (λ w. seen uplink downlink w) h.whole;
  answered = h.answered;
}
happens_seen uplink downlink ul dl event.Transmit old new answer (inl (nothing, h)) =
    inl (nothing, idle_seen uplink downlink ul dl old new answer h)
happens_seen uplink downlink ul dl event.Transmit old new answer (inr h) = inr (record {
  frame = h.frame;
  taken = ul.takes old.up new.up h.frame h.taken;
  whole = ap (λ w. seen uplink downlink w) h.whole;
  answered = h.answered;
})
happens_seen uplink downlink ul dl (event.Hear item) old new answer h =
    hears_seen uplink downlink ul item (record old { clean = false }) new answer h
