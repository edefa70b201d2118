-- Over links that do as lists do an event makes one thing of a link, but for the room of its links.
use Rattle.std.proofs.Common.{◌≡◌, ℕ, inl, inr, Bool, true, false, Ok, Result, List, [], ◌∷◌, ◌++◌, length, refl, sym, ◌∙◌, ap, ap₂, subst}
use Rattle.std.specs.Prelude.{MatchBool, if◌then◌else◌, Option, Some, nat_lt, remove, ◌+◌, ◌*◌, ◌^◌, ◌<◌}
use Rattle.std.specs.Int.{from_bool}
use Rattle.std.proofs.lemmas.List.{append_assoc, append-nil}
use Rattle.tc_types.specs.declared.link.directives.Directive.{Directive}
use Rattle.tc_types.specs.declared.link.frames.Frame.{Frame}
use Rattle.tc_types.specs.declared.refusals.Refusal.{Refusal}
use Rattle.tc_types.specs.declared.link.reports.Report.{Report}
use Rattle.tc_types.specs.declared.link.reports.Report.TheVariants as report
use Rattle.tc_farm.specs.declared.clcws.Clcw.{Clcw}
use Rattle.tc_farm.specs.declared.farms.FarmView.{FarmView}
use Rattle.tc_farm.specs.ControlWord.{word_of}
use Rattle.tc_farm.specs.Farm.{farm_after, verdict_of, released}
use Rattle.tc_fop.specs.Machine.{Machine, Action, after, output}
use Rattle.tc_fop.specs.Calls.{Given, offered, directed, reported, ticked}
use Rattle.tc_fop.specs.Moves.{is_initiation}
use Rattle.tc_world.specs.declared.events.Event.{Event}
use Rattle.tc_world.specs.declared.events.Event.TheVariants as event
use Rattle.tc_world.specs.declared.events.LinkIndication.{LinkIndication}
use Rattle.tc_world.specs.declared.events.LinkIndication.TheVariants as said
use Rattle.tc_world.specs.Abstraction.{Bare, seen}
use Rattle.tc_world.specs.Kept.{AreOwnWords}
use Rattle.tc_world.specs.Links.{Kind, lossy, PutsAll, IsReadied}
use Rattle.tc_world.specs.Logs.{noted, blank, boarded}
use Rattle.tc_world.specs.World.{Whole, Happens, Carries, Begins, IsIdle, IsAsBefore, Boards, Reads, Hears, Lands, IsWordOf, Descends, LosesUp, LosesDown, Transmits, unjudged, is_fitting, level_after, clean_after, told_by_fop, told_of_loss}
use Rattle.tc_desk.specs.Once.{DoesAsList, AsLists, AreLists}

-- two ends of one event: what is seen of the link, and what is told; and that its links still do as lists do
pub record IsOnce {U D : Type 0} {up : Kind U Frame} {down : Kind D Report} (k : AsLists up down) (v1 v2 : Whole U D) (a1 a2 : List LinkIndication) : Type 0 where
  pub world : seen up down v1 ≡ seen up down v2
  pub told : a1 ≡ a2
  pub first : AreLists k v1
  pub other : AreLists k v2

-- ---- links

puts_all_is : {C T : Type 0} (kind : Kind C T) (is_list : C → Bool) → DoesAsList kind is_list → (old : C) (items : List T) (new : C) → is_list old ≡ true → PutsAll kind old items new
    → (is_list new ≡ true) × (kind.content new ≡ kind.content old ++ items)
puts_all_is {C} {T} kind is_list does old [] new list same =
    (subst (λ (c : C). is_list c ≡ true) (sym same) list, ap (λ (c : C). kind.content c) same ∙ sym (append-nil (kind.content old)))
puts_all_is {C} {T} kind is_list does old (item ∷ items) new list (next, put, rest) =
    let first = does.puts old next item list put in
    let others = puts_all_is kind is_list does next items new first.0 rest in
    (others.0, others.1 ∙ ap (λ (l : List T). l ++ items) first.1 ∙ append_assoc (kind.content old) (item ∷ []) items)

-- items that are put where room was made
puts_is : {C T : Type 0} (kind : Kind C T) (is_list : C → Bool) → DoesAsList kind is_list → (old ready : C) (items : List T) (new : C) → is_list old ≡ true → IsReadied kind old ready → PutsAll kind ready items new
    → (is_list new ≡ true) × (kind.content new ≡ kind.content old ++ items)
puts_is {C} {T} kind is_list does old ready items new list readied put =
    let room = does.readied old ready list readied in
    let all = puts_all_is kind is_list does ready items new room.0 put in
    (all.0, all.1 ∙ ap (λ (l : List T). l ++ items) room.1)

-- the links of a world of which one is known, and the other stays
with_up : {U D : Type 0} {up : Kind U Frame} {down : Kind D Report} (k : AsLists up down) (w v : Whole U D) → AreLists k w → k.is_up v.up ≡ true → v.down ≡ w.down → AreLists k v
with_up {U} {D} k w v lists list same = record { uplink = list; downlink = subst (λ (d : D). k.is_down d ≡ true) (sym same) lists.downlink }

with_down : {U D : Type 0} {up : Kind U Frame} {down : Kind D Report} (k : AsLists up down) (w v : Whole U D) → AreLists k w → k.is_down v.down ≡ true → v.up ≡ w.up → AreLists k v
with_down {U} {D} k w v lists list same = record { uplink = subst (λ (u : U). k.is_up u ≡ true) (sym same) lists.uplink; downlink = list }

first_same : {X : Type 0} (x y : X) (xs ys : List X) → x ∷ xs ≡ y ∷ ys → x ≡ y
first_same x y xs ys e = cc

rest_same : {X : Type 0} (x y : X) (xs ys : List X) → x ∷ xs ≡ y ∷ ys → xs ≡ ys
rest_same x y xs ys e = cc

nothing_is : {X : Type 0} (x : X) (xs : List X) → [] ≡ x ∷ xs → ⊥
nothing_is x xs e = cc

-- ---- the calls of the FOP

ok_same : (a b : List Action) → (let e : Result (List Action) Refusal = Ok a in e) ≡ Ok b → a ≡ b
ok_same a b e = cc

same_given : (call : Machine → Given) (m n : Machine) (a b : List Action) → m ≡ n → call m ≡ Ok a → call n ≡ Ok b → a ≡ b
same_given call m n a b same one two = ok_same a b (sym one ∙ ap call same ∙ two)

abbrev carried_on : List Action → Bare → Bare
carried_on acts b = record b { fop = after acts b.fop; up = b.up ++ (output acts b.fop).frames; newest = noted (output acts b.fop) b.newest }

abbrev begun_on : Directive → List Action → Bare → Bare
begun_on given acts b = record b {
  fop = after acts b.fop;
  up = b.up ++ (output acts b.fop).frames;
  past = b.past ++ b.newest ∷ [];
  newest = noted (output acts b.fop) (blank (after acts b.fop).vs);
  clean = clean_after lossy lossy given b;
}

carries_is : {U D : Type 0} {up : Kind U Frame} {down : Kind D Report} (k : AsLists up down) (acts : List Action) (w v : Whole U D) (a : List LinkIndication) → AreLists k w → Carries up acts w v a → (seen up down v ≡ carried_on acts (seen up down w)) × AreLists k v
carries_is {U} {D} {up} {down} k acts w v a lists h =
    let frames : List Frame = (output acts w.fop).frames in
    let put = puts_is up k.is_up k.ups w.up h.ready frames v.up lists.uplink h.readied h.frames in (
      ap (λ (x : Whole U D). seen up down x) h.whole
          ∙ ap (λ (l : List Frame). record (seen up down w) { fop = after acts w.fop; up = l; newest = noted (output acts w.fop) w.newest }) put.1,
      with_up k w v lists put.0 (ap (λ (x : Whole U D). x.down) h.whole),
    )

begins_is : {U D : Type 0} {up : Kind U Frame} {down : Kind D Report} (k : AsLists up down) (given : Directive) (acts : List Action) (w v : Whole U D) (a : List LinkIndication) → AreLists k w → Begins up down given acts w v a
    → (seen up down v ≡ begun_on given acts (seen up down w)) × AreLists k v
begins_is {U} {D} {up} {down} k given acts w v a lists h =
    let frames : List Frame = (output acts w.fop).frames in
    let put = puts_is up k.is_up k.ups w.up h.ready frames v.up lists.uplink h.readied h.frames in (
      ap (λ (x : Whole U D). seen up down x) h.whole
          ∙ ap (λ (l : List Frame). record (seen up down w) {
            fop = after acts w.fop;
            up = l;
            past = w.past ++ w.newest ∷ [];
            newest = noted (output acts w.fop) (blank (after acts w.fop).vs);
            clean = clean_after lossy lossy given (seen up down w);
          }) put.1,
      with_up k w v lists put.0 (ap (λ (x : Whole U D). x.down) h.whole),
    )

carries_once : {U D : Type 0} {up : Kind U Frame} {down : Kind D Report} (k : AsLists up down) (acts1 acts2 : List Action) (w1 w2 v1 v2 : Whole U D) (a1 a2 : List LinkIndication) → AreLists k w1 → AreLists k w2 → seen up down w1 ≡ seen up down w2 → acts1 ≡ acts2
    → Carries up acts1 w1 v1 a1 → Carries up acts2 w2 v2 a2 → IsOnce k v1 v2 a1 a2
carries_once {U} {D} {up} {down} k acts1 acts2 w1 w2 v1 v2 a1 a2 l1 l2 same acts h1 h2 =
    let is1 = carries_is k acts1 w1 v1 a1 l1 h1 in
    let is2 = carries_is k acts2 w2 v2 a2 l2 h2 in
    record {
      world = is1.0 ∙ ap₂ carried_on acts same ∙ sym is2.0;
      told = h1.answered ∙ ap₂ (λ (l : List Action) (b : Bare). told_by_fop (output l b.fop)) acts same ∙ sym h2.answered;
      first = is1.1;
      other = is2.1;
    }

directs_once : {U D : Type 0} {up : Kind U Frame} {down : Kind D Report} (k : AsLists up down) (given : Directive) (acts1 acts2 : List Action) (w1 w2 v1 v2 : Whole U D) (a1 a2 : List LinkIndication) (initiation : Bool) → AreLists k w1 → AreLists k w2
    → seen up down w1 ≡ seen up down w2 → acts1 ≡ acts2
    → MatchBool initiation (Begins up down given acts1 w1 v1 a1) (Carries up acts1 w1 v1 a1)
    → MatchBool initiation (Begins up down given acts2 w2 v2 a2) (Carries up acts2 w2 v2 a2) → IsOnce k v1 v2 a1 a2
directs_once {U} {D} {up} {down} k given acts1 acts2 w1 w2 v1 v2 a1 a2 true l1 l2 same acts h1 h2 =
    let is1 = begins_is k given acts1 w1 v1 a1 l1 h1 in
    let is2 = begins_is k given acts2 w2 v2 a2 l2 h2 in
    record {
      world = is1.0 ∙ ap₂ (begun_on given) acts same ∙ sym is2.0;
      told = h1.answered ∙ ap₂ (λ (l : List Action) (b : Bare). told_by_fop (output l b.fop)) acts same ∙ sym h2.answered;
      first = is1.1;
      other = is2.1;
    }
directs_once {U} {D} {up} {down} k given acts1 acts2 w1 w2 v1 v2 a1 a2 false l1 l2 same acts h1 h2 = carries_once k acts1 acts2 w1 w2 v1 v2 a1 a2 l1 l2 same acts h1 h2

-- what is judged of widths and starts is judged of what is seen
judged_once : {U D : Type 0} {up : Kind U Frame} {down : Kind D Report} (k : AsLists up down) (given : Directive) (w1 w2 v1 v2 : Whole U D) (a1 a2 : List LinkIndication) → seen up down w1 ≡ seen up down w2 → IsOnce k (unjudged w1 v1) (unjudged w2 v2) a1 a2
    → v1.fits ≡ (if w1.fits then is_fitting v1.fop v1.farm else false) → v2.fits ≡ (if w2.fits then is_fitting v2.fop v2.farm else false)
    → v1.level ≡ level_after up down given w1 → v2.level ≡ level_after up down given w2 → IsOnce k v1 v2 a1 a2
judged_once {U} {D} {up} {down} k given w1 w2 v1 v2 a1 a2 same once fits1 fits2 level1 level2 =
    let fits : v1.fits ≡ v2.fits = fits1 ∙ ap₂ (λ (b c : Bare). if b.fits then is_fitting c.fop c.farm else false) same once.world ∙ sym fits2 in
    let level : v1.level ≡ v2.level = level1 ∙ ap (λ (b : Bare). level_after lossy lossy given b) same ∙ sym level2 in
    record {
      world = ap (λ (b : Bare). record b { fits = v1.fits; level = v1.level }) once.world
          ∙ ap (λ (f : Bool). record (seen up down v2) { fits = f; level = v1.level }) fits ∙ ap (λ (l : Bool). record (seen up down v2) { level = l }) level;
      told = once.told;
      first = record { uplink = once.first.uplink; downlink = once.first.downlink };
      other = record { uplink = once.other.uplink; downlink = once.other.downlink };
    }

-- ---- the other events

pub before_is : {U D : Type 0} {up : Kind U Frame} {down : Kind D Report} (k : AsLists up down) (w v : Whole U D) → AreLists k w → IsAsBefore up down w v → (seen up down v ≡ seen up down w) × AreLists k v
before_is {U} {D} {up} {down} k w v lists same =
    let u = k.ups.readied w.up v.up lists.uplink same.up in
    let d = k.downs.readied w.down v.down lists.downlink same.down in (
      ap (λ (x : Whole U D). seen up down x) same.rest
          ∙ ap (λ (l : List Frame). record (seen up down w) { up = l; down = down.content v.down }) u.1
          ∙ ap (λ (l : List Report). record (seen up down w) { down = l }) d.1,
      record { uplink = u.0; downlink = d.0 },
    )

idles_once : {U D : Type 0} {up : Kind U Frame} {down : Kind D Report} (k : AsLists up down) (w1 w2 v1 v2 : Whole U D) (a1 a2 : List LinkIndication) → AreLists k w1 → AreLists k w2 → seen up down w1 ≡ seen up down w2 → IsIdle up down w1 v1 a1 → IsIdle up down w2 v2 a2 → IsOnce k v1 v2 a1 a2
idles_once k w1 w2 v1 v2 a1 a2 l1 l2 same h1 h2 =
    let is1 = before_is k w1 v1 l1 h1.same in
    let is2 = before_is k w2 v2 l2 h2.same in
    record { world = is1.0 ∙ same ∙ sym is2.0; told = h1.answered ∙ sym h2.answered; first = is1.1; other = is2.1 }

boards_once : {U D : Type 0} {up : Kind U Frame} {down : Kind D Report} (k : AsLists up down) (free : Bool) (w1 w2 v1 v2 : Whole U D) (a1 a2 : List LinkIndication) → AreLists k w1 → AreLists k w2 → seen up down w1 ≡ seen up down w2 → Boards up free w1 v1 a1 → Boards up free w2 v2 a2
    → IsOnce k v1 v2 a1 a2
boards_once {U} {D} {up} {down} k free w1 w2 v1 v2 a1 a2 l1 l2 same h1 h2 =
    let t1 = k.ups.takes w1.up v1.up h1.frame l1.uplink h1.taken in
    let t2 = k.ups.takes w2.up v2.up h2.frame l2.uplink h2.taken in
    let both : h1.frame ∷ up.content v1.up ≡ h2.frame ∷ up.content v2.up = sym t1.1 ∙ ap (λ (b : Bare). b.up) same ∙ t2.1 in
    let frame : h1.frame ≡ h2.frame = first_same _ _ _ _ both in
    let rest : up.content v1.up ≡ up.content v2.up = rest_same _ _ _ _ both in
    let on : Frame → List Frame → Bare → Bare = λ f l b. record b { farm = farm_after b.farm f free; up = l; newest = boarded (verdict_of b.farm f free) b.newest } in
    record {
      world = ap (λ (x : Whole U D). seen up down x) h1.whole
          ∙ ap (λ (f : Frame). on f (up.content v1.up) (seen up down w1)) frame ∙ ap (λ (l : List Frame). on h2.frame l (seen up down w1)) rest ∙ ap (λ (b : Bare). on h2.frame (up.content v2.up) b) same
          ∙ sym (ap (λ (x : Whole U D). seen up down x) h2.whole);
      told = h1.answered ∙ ap₂ (λ (f : Frame) (b : Bare). said.Farm (verdict_of b.farm f free) ∷ []) frame same ∙ sym h2.answered;
      first = with_up k w1 v1 l1 t1.0 (ap (λ (x : Whole U D). x.down) h1.whole);
      other = with_up k w2 v2 l2 t2.0 (ap (λ (x : Whole U D). x.down) h2.whole);
    }

transmits_once : {U D : Type 0} {up : Kind U Frame} {down : Kind D Report} (k : AsLists up down) (w1 w2 v1 v2 : Whole U D) (a1 a2 : List LinkIndication) → AreLists k w1 → AreLists k w2 → seen up down w1 ≡ seen up down w2 → Transmits up w1 v1 a1 → Transmits up w2 v2 a2 → IsOnce k v1 v2 a1 a2
transmits_once {U} {D} {up} {down} k w1 w2 v1 v2 a1 a2 l1 l2 same h1 h2 =
    let t1 = k.ups.takes w1.up v1.up h1.frame l1.uplink h1.taken in
    let t2 = k.ups.takes w2.up v2.up h2.frame l2.uplink h2.taken in
    let both : h1.frame ∷ up.content v1.up ≡ h2.frame ∷ up.content v2.up = sym t1.1 ∙ ap (λ (b : Bare). b.up) same ∙ t2.1 in
    let on : List Frame → Bare → Bare = λ l b. record b { up = l } in
    record {
      world = ap (λ (x : Whole U D). seen up down x) h1.whole
          ∙ ap (λ (l : List Frame). on l (seen up down w1)) (rest_same _ _ _ _ both) ∙ ap (λ (b : Bare). on (up.content v2.up) b) same
          ∙ sym (ap (λ (x : Whole U D). seen up down x) h2.whole);
      told = h1.answered ∙ ap (λ (f : Frame). said.Transmitted f ∷ []) (first_same _ _ _ _ both) ∙ sym h2.answered;
      first = with_up k w1 v1 l1 t1.0 (ap (λ (x : Whole U D). x.down) h1.whole);
      other = with_up k w2 v2 l2 t2.0 (ap (λ (x : Whole U D). x.down) h2.whole);
    }

loses_up_once : {U D : Type 0} {up : Kind U Frame} {down : Kind D Report} (k : AsLists up down) (place : ℕ) (w1 w2 v1 v2 : Whole U D) (a1 a2 : List LinkIndication) → AreLists k w1 → AreLists k w2 → seen up down w1 ≡ seen up down w2 → LosesUp up place w1 v1 a1 → LosesUp up place w2 v2 a2
    → IsOnce k v1 v2 a1 a2
loses_up_once {U} {D} {up} {down} k place w1 w2 v1 v2 a1 a2 l1 l2 same h1 h2 =
    let t1 = k.ups.loses w1.up v1.up place h1.found l1.uplink h1.lost in
    let t2 = k.ups.loses w2.up v2.up place h2.found l2.uplink h2.lost in
    let on : List Frame → Bare → Bare = λ l b. record b { up = l } in
    record {
      world = ap (λ (x : Whole U D). seen up down x) h1.whole ∙ ap (λ (l : List Frame). on l (seen up down w1)) t1.2 ∙ ap (λ (b : Bare). on (remove b.up place) b) same
          ∙ sym (ap (λ (x : Whole U D). seen up down x) h2.whole ∙ ap (λ (l : List Frame). on l (seen up down w2)) t2.2);
      told = h1.answered ∙ ap told_of_loss (t1.1 ∙ ap (λ (b : Bare). nat_lt place (length b.up)) same ∙ sym t2.1) ∙ sym h2.answered;
      first = with_up k w1 v1 l1 t1.0 (ap (λ (x : Whole U D). x.down) h1.whole);
      other = with_up k w2 v2 l2 t2.0 (ap (λ (x : Whole U D). x.down) h2.whole);
    }

loses_down_once : {U D : Type 0} {up : Kind U Frame} {down : Kind D Report} (k : AsLists up down) (place : ℕ) (w1 w2 v1 v2 : Whole U D) (a1 a2 : List LinkIndication) → AreLists k w1 → AreLists k w2 → seen up down w1 ≡ seen up down w2 → LosesDown down place w1 v1 a1 → LosesDown down place w2 v2 a2
    → IsOnce k v1 v2 a1 a2
loses_down_once {U} {D} {up} {down} k place w1 w2 v1 v2 a1 a2 l1 l2 same h1 h2 =
    let t1 = k.downs.loses w1.down v1.down place h1.found l1.downlink h1.lost in
    let t2 = k.downs.loses w2.down v2.down place h2.found l2.downlink h2.lost in
    let on : List Report → Bare → Bare = λ l b. record b { down = l } in
    record {
      world = ap (λ (x : Whole U D). seen up down x) h1.whole ∙ ap (λ (l : List Report). on l (seen up down w1)) t1.2 ∙ ap (λ (b : Bare). on (remove b.down place) b) same
          ∙ sym (ap (λ (x : Whole U D). seen up down x) h2.whole ∙ ap (λ (l : List Report). on l (seen up down w2)) t2.2);
      told = h1.answered ∙ ap told_of_loss (t1.1 ∙ ap (λ (b : Bare). nat_lt place (length b.down)) same ∙ sym t2.1) ∙ sym h2.answered;
      first = with_down k w1 v1 l1 t1.0 (ap (λ (x : Whole U D). x.up) h1.whole);
      other = with_down k w2 v2 l2 t2.0 (ap (λ (x : Whole U D). x.up) h2.whole);
    }

descends_is : {U D : Type 0} {up : Kind U Frame} {down : Kind D Report} (k : AsLists up down) (item : Report) (w v : Whole U D) (a : List LinkIndication) → AreLists k w → Descends down item w v a
    → (seen up down v ≡ (let b : Bare = seen up down w in record b { down = b.down ++ item ∷ [] })) × AreLists k v
descends_is {U} {D} {up} {down} k item w v a lists h =
    let room = k.downs.readied w.down h.ready lists.downlink h.readied in
    let put = k.downs.puts h.ready v.down item room.0 h.put in (
      ap (λ (x : Whole U D). seen up down x) h.whole
          ∙ ap (λ (l : List Report). record (seen up down w) { down = l }) (put.1 ∙ ap (λ (l : List Report). l ++ item ∷ []) room.1),
      with_down k w v lists put.0 (ap (λ (x : Whole U D). x.up) h.whole),
    )

descends_once : {U D : Type 0} {up : Kind U Frame} {down : Kind D Report} (k : AsLists up down) (i1 i2 : Report) (w1 w2 v1 v2 : Whole U D) (a1 a2 : List LinkIndication) → AreLists k w1 → AreLists k w2 → seen up down w1 ≡ seen up down w2 → i1 ≡ i2
    → Descends down i1 w1 v1 a1 → Descends down i2 w2 v2 a2 → IsOnce k v1 v2 a1 a2
descends_once {U} {D} {up} {down} k i1 i2 w1 w2 v1 v2 a1 a2 l1 l2 same item h1 h2 =
    let on : Report → Bare → Bare = λ i b. record b { down = b.down ++ i ∷ [] } in
    let is1 = descends_is k i1 w1 v1 a1 l1 h1 in
    let is2 = descends_is k i2 w2 v2 a2 l2 h2 in
    record { world = is1.0 ∙ ap₂ on item same ∙ sym is2.0; told = h1.answered ∙ sym h2.answered; first = is1.1; other = is2.1 }

-- the FARM has one control word on a channel
abbrev word_with : ℕ → FarmView → ℕ
word_with vc farm = 1 * 2 ^ 24 + vc * 2 ^ 18 + from_bool farm.lockout * 2 ^ 13 + from_bool farm.wait * 2 ^ 12 + from_bool farm.retransmit * 2 ^ 11 + farm.farm_b * 2 ^ 9 + farm.vr

word_is : (farm : FarmView) (vc : ℕ) (clcw : Clcw) → IsWordOf farm vc clcw → word_of clcw ≡ word_with vc farm
word_is farm vc clcw h = rw (h.channel, h.lockout, h.wait, h.retransmit, h.farm_b, h.report_value) refl

-- ---- what comes down

heard_own : (word vc own_vc : ℕ) (heard : Option Clcw) (own : Clcw) → Reads word vc heard → word ≡ word_of own → own.vc ≡ own_vc → own_vc ≡ vc → own.report < 256 → heard ≡ Some own
heard_own word vc own_vc heard own reads is channel same small = reads.again own small is (sym (channel ∙ same))

telemetry_is : {U D : Type 0} {up : Kind U Frame} {down : Kind D Report} (k : AsLists up down) (w v : Whole U D) → AreLists k w → IsReadied up w.up v.up → v ≡ record w { up = v.up } → (seen up down v ≡ seen up down w) × AreLists k v
telemetry_is {U} {D} {up} {down} k w v lists readied whole =
    let room = k.ups.readied w.up v.up lists.uplink readied in (
      ap (λ (x : Whole U D). seen up down x) whole ∙ ap (λ (l : List Frame). record (seen up down w) { up = l }) room.1,
      with_up k w v lists room.0 (ap (λ (x : Whole U D). x.down) whole),
    )

hears_once : {U D : Type 0} {up : Kind U Frame} {down : Kind D Report} (k : AsLists up down) (item : Report) (w1 w2 v1 v2 : Whole U D) (a1 a2 : List LinkIndication) (behind : List Report) → AreLists k w1 → AreLists k w2 → seen up down w1 ≡ seen up down w2 → AreOwnWords w1.vc (item ∷ behind)
    → Hears up item w1 v1 a1 → Hears up item w2 v2 a2 → IsOnce k v1 v2 a1 a2
hears_once {U} {D} {up} {down} k (report.Word word) w1 w2 v1 v2 a1 a2 behind l1 l2 same own (heard1, acts1, rest1, reads1, gives1, h1, answered1) (heard2, acts2, rest2, reads2, gives2, h2, answered2) =
    let clcw : Clcw = own.0.0 in
    let vc : w1.vc ≡ w2.vc = ap (λ (b : Bare). b.vc) same in
    let is1 : heard1 ≡ Some clcw = heard_own word w1.vc w1.vc heard1 clcw reads1 own.0.1 own.0.2 refl own.0.3 in
    let is2 : heard2 ≡ Some clcw = heard_own word w2.vc w1.vc heard2 clcw reads2 own.0.1 own.0.2 vc own.0.3 in
    let acts : acts1 ≡ acts2 =
    same_given (λ (m : Machine). reported m (Some clcw)) w1.fop w2.fop acts1 acts2 (ap (λ (b : Bare). b.fop) same)
    (subst (λ (o : Option Clcw). reported w1.fop o ≡ Ok acts1) is1 gives1) (subst (λ (o : Option Clcw). reported w2.fop o ≡ Ok acts2) is2 gives2) in
    let once = carries_once k acts1 acts2 w1 w2 v1 v2 rest1 rest2 l1 l2 same acts h1 h2 in
    record { world = once.world; told = answered1 ∙ ap (λ (l : List LinkIndication). said.Received (report.Word word) ∷ l) once.told ∙ sym answered2; first = once.first; other = once.other }
hears_once {U} {D} {up} {down} k (report.Telemetry telemetry) w1 w2 v1 v2 a1 a2 behind l1 l2 same own (readied1, whole1, answered1) (readied2, whole2, answered2) =
    let is1 = telemetry_is k w1 v1 l1 readied1 whole1 in
    let is2 = telemetry_is k w2 v2 l2 readied2 whole2 in
    record { world = is1.0 ∙ same ∙ sym is2.0; told = answered1 ∙ sym answered2; first = is1.1; other = is2.1 }

lands_once : {U D : Type 0} {up : Kind U Frame} {down : Kind D Report} (k : AsLists up down) (w1 w2 v1 v2 : Whole U D) (a1 a2 : List LinkIndication) → AreLists k w1 → AreLists k w2 → seen up down w1 ≡ seen up down w2 → AreOwnWords w1.vc (down.content w1.down)
    → Lands up down w1 v1 a1 → Lands up down w2 v2 a2 → IsOnce k v1 v2 a1 a2
lands_once {U} {D} {up} {down} k w1 w2 v1 v2 a1 a2 l1 l2 same own h1 h2 =
    let t1 = k.downs.takes w1.down h1.left h1.item l1.downlink h1.taken in
    let t2 = k.downs.takes w2.down h2.left h2.item l2.downlink h2.taken in
    let both : h1.item ∷ down.content h1.left ≡ h2.item ∷ down.content h2.left = sym t1.1 ∙ ap (λ (b : Bare). b.down) same ∙ t2.1 in
    let item : h1.item ≡ h2.item = first_same _ _ _ _ both in
    let left : down.content h1.left ≡ down.content h2.left = rest_same _ _ _ _ both in
    let on : List Report → Bare → Bare = λ l b. record b { down = l } in
    let taken : seen up down (record w1 { down = h1.left }) ≡ seen up down (record w2 { down = h2.left }) = ap₂ on left same in
    hears_once k h1.item (record w1 { down = h1.left }) (record w2 { down = h2.left }) v1 v2 a1 a2 (down.content h1.left) (record { uplink = l1.uplink; downlink = t1.0 }) (record { uplink = l2.uplink; downlink = t2.0 }) taken
    (subst (AreOwnWords w1.vc) t1.1 own) h1.heard (subst (λ (i : Report). Hears up i (record w2 { down = h2.left }) v2 a2) (sym item) h2.heard)

-- ---- one event

-- where something comes down, the control words that fly are the FARM's own
abbrev pub OwnFor : {U D : Type 0} → Kind D Report → Event → Whole U D → Type 0
OwnFor down (event.Offer request body) w = Unit {0}
OwnFor down (event.Directive given) w = Unit {0}
OwnFor down event.Tick w = Unit {0}
OwnFor down (event.Uplink free) w = Unit {0}
OwnFor down (event.LoseUp place) w = Unit {0}
OwnFor down event.Release w = Unit {0}
OwnFor down event.Clcw w = Unit {0}
OwnFor down (event.Put telemetry) w = Unit {0}
OwnFor down event.Downlink w = AreOwnWords w.vc (down.content w.down)
OwnFor down (event.LoseDown place) w = Unit {0}
OwnFor down event.Transmit w = Unit {0}
OwnFor down (event.Hear item) w = AreOwnWords w.vc (item ∷ [])

-- an event that hears what was not in flight
abbrev pub hears_outside : Event → Bool
hears_outside (event.Offer request body) = false
hears_outside (event.Directive given) = false
hears_outside event.Tick = false
hears_outside (event.Uplink free) = false
hears_outside (event.LoseUp place) = false
hears_outside event.Release = false
hears_outside event.Clcw = false
hears_outside (event.Put telemetry) = false
hears_outside event.Downlink = false
hears_outside (event.LoseDown place) = false
hears_outside event.Transmit = false
hears_outside (event.Hear item) = true

pub own_for : {U D : Type 0} (down : Kind D Report) (given : Event) (w : Whole U D) → hears_outside given ≡ false → AreOwnWords w.vc (down.content w.down) → OwnFor down given w
own_for down (event.Offer request body) w inside own = tt
own_for down (event.Directive given) w inside own = tt
own_for down event.Tick w inside own = tt
own_for down (event.Uplink free) w inside own = tt
own_for down (event.LoseUp place) w inside own = tt
own_for down event.Release w inside own = tt
own_for down event.Clcw w inside own = tt
own_for down (event.Put telemetry) w inside own = tt
own_for down event.Downlink w inside own = own
own_for down (event.LoseDown place) w inside own = tt
own_for down event.Transmit w inside own = tt
own_for down (event.Hear item) w inside own = absurd (let not : true ≡ false = inside in cc)

pub happens_once : {U D : Type 0} {up : Kind U Frame} {down : Kind D Report} (k : AsLists up down) (given : Event) (w1 w2 v1 v2 : Whole U D) (a1 a2 : List LinkIndication) → AreLists k w1 → AreLists k w2 → seen up down w1 ≡ seen up down w2 → OwnFor down given w1
    → Happens up down given w1 v1 a1 → Happens up down given w2 v2 a2 → IsOnce k v1 v2 a1 a2
happens_once k (event.Offer request body) w1 w2 v1 v2 a1 a2 l1 l2 same own (acts1, unknown1, gives1, h1) (acts2, unknown2, gives2, h2) =
    carries_once k acts1 acts2 w1 w2 v1 v2 a1 a2 l1 l2 same
    (same_given (λ (m : Machine). offered m (record { request = request; body = body })) w1.fop w2.fop acts1 acts2 (ap (λ (b : Bare). b.fop) same) gives1 gives2) h1 h2
happens_once k (event.Directive given) w1 w2 v1 v2 a1 a2 l1 l2 same own (acts1, gives1, h1, fits1, level1) (acts2, gives2, h2, fits2, level2) =
    judged_once k given w1 w2 v1 v2 a1 a2 same
    (directs_once k given acts1 acts2 w1 w2 (unjudged w1 v1) (unjudged w2 v2) a1 a2 (is_initiation given) l1 l2 same
    (same_given (λ (m : Machine). directed m given) w1.fop w2.fop acts1 acts2 (ap (λ (b : Bare). b.fop) same) gives1 gives2) h1 h2)
    fits1 fits2 level1 level2
happens_once k event.Tick w1 w2 v1 v2 a1 a2 l1 l2 same own (acts1, gives1, h1) (acts2, gives2, h2) =
    carries_once k acts1 acts2 w1 w2 v1 v2 a1 a2 l1 l2 same (same_given ticked w1.fop w2.fop acts1 acts2 (ap (λ (b : Bare). b.fop) same) gives1 gives2) h1 h2
happens_once k (event.Uplink free) w1 w2 v1 v2 a1 a2 l1 l2 same own (inl (nothing1, h1)) (inl (nothing2, h2)) = idles_once k w1 w2 v1 v2 a1 a2 l1 l2 same h1 h2
happens_once k (event.Uplink free) w1 w2 v1 v2 a1 a2 l1 l2 same own (inl (nothing1, h1)) (inr h2) =
    absurd (nothing_is _ _ (sym nothing1 ∙ ap (λ (b : Bare). b.up) same ∙ (k.ups.takes w2.up v2.up h2.frame l2.uplink h2.taken).1))
happens_once k (event.Uplink free) w1 w2 v1 v2 a1 a2 l1 l2 same own (inr h1) (inl (nothing2, h2)) =
    absurd (nothing_is _ _ (sym nothing2 ∙ sym (ap (λ (b : Bare). b.up) same) ∙ (k.ups.takes w1.up v1.up h1.frame l1.uplink h1.taken).1))
happens_once k (event.Uplink free) w1 w2 v1 v2 a1 a2 l1 l2 same own (inr h1) (inr h2) = boards_once k free w1 w2 v1 v2 a1 a2 l1 l2 same h1 h2
happens_once k (event.LoseUp place) w1 w2 v1 v2 a1 a2 l1 l2 same own h1 h2 = loses_up_once k place w1 w2 v1 v2 a1 a2 l1 l2 same h1 h2
happens_once {U} {D} {up} {down} k event.Release w1 w2 v1 v2 a1 a2 l1 l2 same own (whole1, answered1) (whole2, answered2) = record {
  world = ap (λ (x : Whole U D). seen up down x) whole1 ∙ ap (λ (b : Bare). record b { farm = released b.farm }) same ∙ sym (ap (λ (x : Whole U D). seen up down x) whole2);
  told = answered1 ∙ sym answered2;
  first = subst (λ (x : Whole U D). AreLists k x) (sym whole1) (record { uplink = l1.uplink; downlink = l1.downlink });
  other = subst (λ (x : Whole U D). AreLists k x) (sym whole2) (record { uplink = l2.uplink; downlink = l2.downlink });
}
happens_once k event.Clcw w1 w2 v1 v2 a1 a2 l1 l2 same own (clcw1, is1, h1) (clcw2, is2, h2) =
    descends_once k (report.Word (word_of clcw1)) (report.Word (word_of clcw2)) w1 w2 v1 v2 a1 a2 l1 l2 same
    (ap (λ (n : ℕ). report.Word n) (word_is w1.farm w1.vc clcw1 is1 ∙ ap (λ (b : Bare). word_with b.vc b.farm) same ∙ sym (word_is w2.farm w2.vc clcw2 is2))) h1 h2
happens_once k (event.Put telemetry) w1 w2 v1 v2 a1 a2 l1 l2 same own h1 h2 = descends_once k (report.Telemetry telemetry) (report.Telemetry telemetry) w1 w2 v1 v2 a1 a2 l1 l2 same refl h1 h2
happens_once k event.Downlink w1 w2 v1 v2 a1 a2 l1 l2 same own (inl (nothing1, h1)) (inl (nothing2, h2)) = idles_once k w1 w2 v1 v2 a1 a2 l1 l2 same h1 h2
happens_once k event.Downlink w1 w2 v1 v2 a1 a2 l1 l2 same own (inl (nothing1, h1)) (inr h2) =
    absurd (nothing_is _ _ (sym nothing1 ∙ ap (λ (b : Bare). b.down) same ∙ (k.downs.takes w2.down h2.left h2.item l2.downlink h2.taken).1))
happens_once k event.Downlink w1 w2 v1 v2 a1 a2 l1 l2 same own (inr h1) (inl (nothing2, h2)) =
    absurd (nothing_is _ _ (sym nothing2 ∙ sym (ap (λ (b : Bare). b.down) same) ∙ (k.downs.takes w1.down h1.left h1.item l1.downlink h1.taken).1))
happens_once k event.Downlink w1 w2 v1 v2 a1 a2 l1 l2 same own (inr h1) (inr h2) = lands_once k w1 w2 v1 v2 a1 a2 l1 l2 same own h1 h2
happens_once k (event.LoseDown place) w1 w2 v1 v2 a1 a2 l1 l2 same own h1 h2 = loses_down_once k place w1 w2 v1 v2 a1 a2 l1 l2 same h1 h2
happens_once k event.Transmit w1 w2 v1 v2 a1 a2 l1 l2 same own (inl (nothing1, h1)) (inl (nothing2, h2)) = idles_once k w1 w2 v1 v2 a1 a2 l1 l2 same h1 h2
happens_once k event.Transmit w1 w2 v1 v2 a1 a2 l1 l2 same own (inl (nothing1, h1)) (inr h2) =
    absurd (nothing_is _ _ (sym nothing1 ∙ ap (λ (b : Bare). b.up) same ∙ (k.ups.takes w2.up v2.up h2.frame l2.uplink h2.taken).1))
happens_once k event.Transmit w1 w2 v1 v2 a1 a2 l1 l2 same own (inr h1) (inl (nothing2, h2)) =
    absurd (nothing_is _ _ (sym nothing2 ∙ sym (ap (λ (b : Bare). b.up) same) ∙ (k.ups.takes w1.up v1.up h1.frame l1.uplink h1.taken).1))
happens_once k event.Transmit w1 w2 v1 v2 a1 a2 l1 l2 same own (inr h1) (inr h2) = transmits_once k w1 w2 v1 v2 a1 a2 l1 l2 same h1 h2
happens_once k (event.Hear item) w1 w2 v1 v2 a1 a2 l1 l2 same own h1 h2 =
    hears_once k item (record w1 { clean = false }) (record w2 { clean = false }) v1 v2 a1 a2 [] (record { uplink = l1.uplink; downlink = l1.downlink }) (record { uplink = l2.uplink; downlink = l2.downlink })
    (ap (λ (b : Bare). record b { clean = false }) same) own h1 h2
