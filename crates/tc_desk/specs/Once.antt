-- Over links that do as lists do the desk machine is a function but for refused memory.
use Rattle.std.specs.Prelude.{◌≡◌, ◌⊎◌, ℕ, nat_lt, Bool, true, false, Result, Ok, Err, List, [], ◌∷◌, ◌++◌, length, remove}
use Rattle.std.proofs.Common.{refl, sym, ◌∙◌, ap, subst}
use Rattle.tc_types.specs.declared.acts.Act.{Act}
use Rattle.tc_types.specs.declared.acts.Act.TheVariants as act
use Rattle.tc_types.specs.declared.acts.LinkAct.{LinkAct}
use Rattle.tc_types.specs.declared.acts.LinkAct.TheVariants as link_act
use Rattle.tc_types.specs.declared.link.frames.Frame.{Frame}
use Rattle.tc_types.specs.declared.link.reports.Report.{Report}
use Rattle.tc_types.specs.declared.refusals.Refusal.{Refusal}
use Rattle.tc_types.specs.declared.refusals.Refusal.TheVariants.{Memory}
use Rattle.tc_world.specs.declared.link_carriers.LinkCarrier.{LinkCarrier}
use Rattle.tc_world.specs.declared.link_carriers.LinkCarrier.TheVariants as link
use Rattle.tc_world.specs.Abstraction.{seen}
use Rattle.tc_world.specs.EitherLink.{either, content_of, without_room_of, either_room, Puts, Takes, Loses}
use Rattle.tc_world.specs.Kept.{AreOwnWords}
use Rattle.tc_world.specs.Links.{Kind, IsReadied}
use Rattle.tc_world.specs.World.{Whole}
use Rattle.tc_book.specs.declared.stamps.Stamp.{Stamp}
use Rattle.tc_desk.specs.Machine.{DeskStep}
use Rattle.tc_desk.specs.Replies.{Reply, refusal_reply}
use Rattle.tc_desk.specs.State.{State}

-- ---- links that do as lists do

-- A link does as a list does while this says that it is one: it stays one, a put is behind the others, a take gives the first, and nothing
-- is lost but the one item that is to be lost.
pub record DoesAsList {C T : Type 0} (kind : Kind C T) (is_list : C → Bool) : Type 0 where
  pub readied : (old ready : C) → is_list old ≡ true → IsReadied kind old ready → (is_list ready ≡ true) × (kind.content ready ≡ kind.content old)
  pub puts : (old new : C) (item : T) → is_list old ≡ true → kind.puts old item new → (is_list new ≡ true) × (kind.content new ≡ kind.content old ++ item ∷ [])
  pub takes : (old new : C) (item : T) → is_list old ≡ true → kind.takes old item new → (is_list new ≡ true) × (kind.content old ≡ item ∷ kind.content new)
  pub loses : (old new : C) (place : ℕ) (answer : Bool) → is_list old ≡ true → kind.loses old place answer new
      → (is_list new ≡ true) × (answer ≡ nat_lt place (length (kind.content old))) × (kind.content new ≡ remove (kind.content old) place)

-- which uplinks and which downlinks of these kinds do so
pub record AsLists {U D : Type 0} (up : Kind U Frame) (down : Kind D Report) : Type 0 where
  pub is_up : U → Bool
  pub is_down : D → Bool
  pub ups : DoesAsList up is_up
  pub downs : DoesAsList down is_down

-- both links of a world do
pub record AreLists {U D : Type 0} {up : Kind U Frame} {down : Kind D Report} (links : AsLists up down) (w : Whole U D) : Type 0 where
  pub uplink : links.is_up w.up ≡ true
  pub downlink : links.is_down w.down ≡ true

-- ---- the program's links: the lists among them do

abbrev pub is_list : {T A : Type 0} → LinkCarrier T A → Bool
is_list (link.List list) = true
is_list (link.Ring ring) = false

abbrev is_true : Bool → Type 0
is_true true = Unit {0}
is_true false = ⊥

not_false : false ≡ true → ⊥
not_false e = subst is_true (sym e) tt

stays_list : {T A : Type 0} (c : LinkCarrier T A) → is_list (without_room_of c) ≡ is_list c
stays_list (link.List list) = refl
stays_list (link.Ring ring) = refl

list_puts : {T A : Type 0} (old new : LinkCarrier T A) (item : T) → is_list old ≡ true → Puts old item new → (is_list new ≡ true) × (content_of new ≡ content_of old ++ item ∷ [])
list_puts (link.List old) (link.List new) item lists h = (refl, h)
list_puts (link.List old) (link.Ring new) item lists h = absurd h
list_puts (link.Ring old) new item lists h = absurd (not_false lists)

list_takes : {T A : Type 0} (old new : LinkCarrier T A) (item : T) → is_list old ≡ true → Takes old item new → (is_list new ≡ true) × (content_of old ≡ item ∷ content_of new)
list_takes (link.List old) (link.List new) item lists h = (refl, h)
list_takes (link.List old) (link.Ring new) item lists h = absurd h
list_takes (link.Ring old) new item lists h = absurd (not_false lists)

list_loses : {T A : Type 0} (old new : LinkCarrier T A) (place : ℕ) (answer : Bool) → is_list old ≡ true → Loses old place answer new
    → (is_list new ≡ true) × (answer ≡ nat_lt place (length (content_of old))) × (content_of new ≡ remove (content_of old) place)
list_loses (link.List old) (link.List new) place answer lists h = (refl, h.0, h.1)
list_loses (link.List old) (link.Ring new) place answer lists h = absurd h
list_loses (link.Ring old) new place answer lists h = absurd (not_false lists)

pub either_as_list : {T A : Type 0} → DoesAsList (either {T = T} {A = A}) is_list
either_as_list {T} {A} = record {
  readied = λ (old ready : LinkCarrier T A) lists same. (sym (stays_list ready) ∙ ap (λ (c : LinkCarrier T A). is_list c) same ∙ stays_list old ∙ lists, sym (either_room ready) ∙ ap (λ (c : LinkCarrier T A). content_of c) same ∙ either_room old);
  puts = list_puts;
  takes = list_takes;
  loses = list_loses;
}

pub program_links : {A B : Type 0} → AsLists (either {T = Frame} {A = A}) (either {T = Report} {A = B})
program_links = record { is_up = is_list; is_down = is_list; ups = either_as_list; downs = either_as_list }

-- ---- two ends of an act

-- an act that lets the spacecraft's time go on
abbrev pub is_clock_of : LinkAct → Bool
is_clock_of (link_act.Release n) = false
is_clock_of (link_act.Direct given) = false
is_clock_of link_act.Tick = false
is_clock_of link_act.Up = false
is_clock_of (link_act.LoseUp place) = false
is_clock_of (link_act.LoseDown place) = false
is_clock_of link_act.Clcw = false
is_clock_of link_act.Down = false
is_clock_of link_act.Work = false
is_clock_of (link_act.Clock time) = true

abbrev pub is_clock : Act → Bool
is_clock (act.Book given) = false
is_clock (act.Link given) = is_clock_of given
is_clock (act.Step given) = false
is_clock (act.Ask asked) = false

-- Two ends of an act are one: one reply, and one desk but for the room of its links. Of a clock it is not said that one thing flies down:
-- what falls due under equal keys is reported in any order.
pub record IsOneEnd {U D : Type 0} (up : Kind U Frame) (down : Kind D Report) (given : Act) (told1 told2 : Reply) (new1 new2 : State U D) : Type 0 where
  pub reply : told1 ≡ told2
  pub book : new1.book ≡ new2.book
  pub board : new1.board ≡ new2.board
  pub mirror : new1.mirror ≡ new2.mirror
  pub world : is_clock given ≡ false → seen up down new1.world ≡ seen up down new2.world

-- one end, or one of the two replies refuses for want of memory
abbrev pub EndsOnce : {U D : Type 0} → Kind U Frame → Kind D Report → Act → Reply → Reply → State U D → State U D → Type 0
EndsOnce up down given told1 told2 new1 new2 = (told1 ≡ refusal_reply Memory) ⊎ ((told2 ≡ refusal_reply Memory) ⊎ IsOneEnd up down given told1 told2 new1 new2)

-- The control words that fly down are the FARM's own, as they are on each desk: nothing else puts one there.
abbrev pub HasOwnWords : {U D : Type 0} → Kind D Report → Whole U D → Type 0
HasOwnWords down w = AreOwnWords w.vc (down.content w.down)

-- the reply that an answer makes
abbrev pub reply_of : {X : Type 0} → (X → Reply) → Result X Refusal → Reply
reply_of reply (Ok done) = reply done
reply_of reply (Err refused) = refusal_reply refused

-- Over links that do as lists do, while the control words in flight are the FARM's own, any other end to which the desk machine may bring
-- an act is this one, or one of the two refuses for want of memory.
pub record IsOnlyEnd {U D : Type 0} (up : Kind U Frame) (down : Kind D Report) (old : State U D) (stamp : Stamp) (given : Act) (told : Reply) (new : State U D) : Type 0 where
  pub once : (links : AsLists up down) → AreLists links old.world → HasOwnWords down old.world
      → (told_else : Reply) (else_new : State U D) → DeskStep up down old stamp given told_else else_new → EndsOnce up down given told told_else new else_new
