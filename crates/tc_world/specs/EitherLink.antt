-- What a link does that is a list or a ring: what the one does that it is, and stays.
use Rattle.std.specs.Prelude.{◌≡◌, ◌⊎◌, ◌<◌, ◌-◌, ◌^◌, ℕ, Bool, Option, Some, None, List, [], ◌∷◌, ◌++◌}
use Rattle.std.proofs.Common.{refl}
use Rattle.tc_world.specs.declared.configs.TheConstants.{GREATEST_RING}
use Rattle.tc_world.specs.declared.link_carriers.LinkCarrier.{LinkCarrier}
use Rattle.tc_world.specs.declared.link_carriers.LinkCarrier.TheVariants as link
use Rattle.tc_world.specs.Links.{Kind}
use Rattle.tc_world.specs.InFlight.{listed, listed_puts, listed_takes, listed_loses}
use Rattle.tc_world.specs.Rings.{ringed, ringed_puts, ringed_takes, ringed_loses}
use Rattle.tc_world.specs.Sublist.{IsSublist}

abbrev pub content_of : {T A : Type 0} → LinkCarrier T A → List T
content_of (link.List list) = listed.content list
content_of (link.Ring ring) = ringed.content ring

-- A link as it is made, with nothing in flight: a list, or a ring of this size.
abbrev pub IsMade : {T A : Type 0} → Option ℕ → LinkCarrier T A → Type 0
IsMade None (link.List list) = list.content ≡ []
IsMade None (link.Ring ring) = ⊥
IsMade (Some size) (link.List list) = ⊥
IsMade (Some size) (link.Ring ring) = (ring.content ≡ []) × (ring.size ≡ size)

-- a ring is asked for of a size that none has
abbrev pub IsNoSize : Option ℕ → Type 0
IsNoSize None = ⊥
IsNoSize (Some size) = (size ≡ 0) ⊎ (GREATEST_RING < size)

abbrev pub without_room_of : {T A : Type 0} → LinkCarrier T A → LinkCarrier T A
without_room_of (link.List list) = link.List (listed.without_room list)
without_room_of (link.Ring ring) = link.Ring (ringed.without_room ring)

-- how many puts have their room: those of the list, or any
abbrev pub covered_of : {T A : Type 0} → LinkCarrier T A → ℕ
covered_of (link.List list) = list.covered
covered_of (link.Ring ring) = 2 ^ 64 - 1

abbrev pub Puts : {T A : Type 0} → LinkCarrier T A → T → LinkCarrier T A → Type 0
Puts (link.List old) item (link.List new) = listed.puts old item new
Puts (link.List old) item (link.Ring new) = ⊥
Puts (link.Ring old) item (link.List new) = ⊥
Puts (link.Ring old) item (link.Ring new) = ringed.puts old item new

abbrev pub Takes : {T A : Type 0} → LinkCarrier T A → T → LinkCarrier T A → Type 0
Takes (link.List old) item (link.List new) = listed.takes old item new
Takes (link.List old) item (link.Ring new) = ⊥
Takes (link.Ring old) item (link.List new) = ⊥
Takes (link.Ring old) item (link.Ring new) = ringed.takes old item new

abbrev pub Loses : {T A : Type 0} → LinkCarrier T A → ℕ → Bool → LinkCarrier T A → Type 0
Loses (link.List old) place answer (link.List new) = listed.loses old place answer new
Loses (link.List old) place answer (link.Ring new) = ⊥
Loses (link.Ring old) place answer (link.List new) = ⊥
Loses (link.Ring old) place answer (link.Ring new) = ringed.loses old place answer new

abbrev pub either : {T A : Type 0} → Kind (LinkCarrier T A) T
either {T} {A} = record {
  content = λ (c : LinkCarrier T A). content_of c;
  without_room = λ (c : LinkCarrier T A). without_room_of c;
  puts = λ (old : LinkCarrier T A) (item : T) (new : LinkCarrier T A). Puts old item new;
  takes = λ (old : LinkCarrier T A) (item : T) (new : LinkCarrier T A). Takes old item new;
  loses = λ (old : LinkCarrier T A) (place : ℕ) (answer : Bool) (new : LinkCarrier T A). Loses old place answer new;
}

-- its laws are those of the one that it is
pub either_room : {T A : Type 0} (c : LinkCarrier T A) → content_of (without_room_of c) ≡ content_of c
either_room (link.List list) = refl
either_room (link.Ring ring) = refl

pub either_puts : {T A : Type 0} (old new : LinkCarrier T A) (item : T) → Puts old item new → IsSublist (content_of new) (content_of old ++ item ∷ [])
either_puts (link.List old) (link.List new) item h = listed_puts old new item h
either_puts (link.List old) (link.Ring new) item h = absurd h
either_puts (link.Ring old) (link.List new) item h = absurd h
either_puts (link.Ring old) (link.Ring new) item h = ringed_puts old new item h

pub either_takes : {T A : Type 0} (old new : LinkCarrier T A) (item : T) → Takes old item new → (lost : List T) × (content_of old ≡ lost ++ item ∷ content_of new)
either_takes (link.List old) (link.List new) item h = listed_takes old new item h
either_takes (link.List old) (link.Ring new) item h = absurd h
either_takes (link.Ring old) (link.List new) item h = absurd h
either_takes (link.Ring old) (link.Ring new) item h = ringed_takes old new item h

pub either_loses : {T A : Type 0} (old new : LinkCarrier T A) (place : ℕ) (answer : Bool) → Loses old place answer new → IsSublist (content_of new) (content_of old)
either_loses (link.List old) (link.List new) place answer h = listed_loses old new place answer h
either_loses (link.List old) (link.Ring new) place answer h = absurd h
either_loses (link.Ring old) (link.List new) place answer h = absurd h
either_loses (link.Ring old) (link.Ring new) place answer h = ringed_loses old new place answer h
