-- The Sent_Queue in slots: what a read of a slot gives, and what a write leaves.
use Rattle.std.proofs.Common.{◌≡◌, ◌≢◌, ℕ, zero, suc, ◌+◌, ◌-◌, ◌%◌, ◌<◌, ◌≤◌, Option, Some, None, IsSome, is_some, List, [], ◌∷◌, ◌++◌, map, length, drop, take, set, get_or, slice_get, refl, sym, ◌∙◌, ap, subst, arith, get_or-set_other, get_or-set_same}
use Rattle.std.proofs.lemmas.Bool.{false≢true}
use Rattle.std.proofs.lemmas.List.{append_assoc, append-nil, length-map, map-append, get_or_default}
use Rattle.tc_fop.specs.declared.queues.Offer.{Offer}
use Rattle.tc_fop.specs.declared.queues.Outstanding.{Outstanding}
use Rattle.tc_fop.specs.declared.signals.Indication.{Indication}
use Rattle.tc_types.specs.declared.link.frames.Frame.{Frame}
use Rattle.tc_fop.specs.Machine.{Out, joined}
use Rattle.tc_fop.specs.Queued.{held_of}
use Rattle.tc_fop.specs.Standing.{AreNumbered}
use Rattle.tc_fop.proofs.QueueLemmas.{joined_assoc}
use Rattle.tc_fop.specs.Slots.{held_in, queued, AreFilled}

-- a write to a slot outside leaves the queue
pub queued_set_other : (slots : List (Option Offer)) (j : ℕ) (x : Option Offer) (ns n : ℕ) → j < 256 → ns < 256 → n ≤ (j + 256 - ns) % 256 → queued (set slots j x) ns n ≡ queued slots ns n
queued_set_other slots j x ns zero inside start far = refl
queued_set_other slots j x ns (suc n) inside start far =
    let other : ns ≢ j = λ e. (let no : suc n ≤ 0 = omega (arith, far, e) in omega (arith, no)) in
    let next : (ns + 1) % 256 < 256 = omega arith in
    let rest : n ≤ (j + 256 - ((ns + 1) % 256)) % 256 = omega (arith, far, inside, start) in
    rw (get_or-set_other slots j ns x None other) (ap (λ l. held_in ns (get_or slots ns None) ++ l) (queued_set_other slots j x ((ns + 1) % 256) n inside next rest))

pub filled_set_other : (slots : List (Option Offer)) (j : ℕ) (x : Option Offer) (ns n : ℕ) → j < 256 → ns < 256 → n ≤ (j + 256 - ns) % 256 → AreFilled slots ns n → AreFilled (set slots j x) ns n
filled_set_other slots j x ns zero inside start far h = tt
filled_set_other slots j x ns (suc n) inside start far h =
    let other : ns ≢ j = λ e. (let no : suc n ≤ 0 = omega (arith, far, e) in omega (arith, no)) in
    let next : (ns + 1) % 256 < 256 = omega arith in
    let rest : n ≤ (j + 256 - ((ns + 1) % 256)) % 256 = omega (arith, far, inside, start) in
    (rw (get_or-set_other slots j ns x None other) h.0, filled_set_other slots j x ((ns + 1) % 256) n inside next rest h.1)

-- one more slot at the end
pub queued_more : (slots : List (Option Offer)) (ns n : ℕ) → ns < 256 → queued slots ns (suc n) ≡ queued slots ns n ++ held_in ((ns + n) % 256) (get_or slots ((ns + n) % 256) None)
queued_more slots ns zero start =
    let same : (ns + 0) % 256 ≡ ns = omega (arith, start) in
    rw same (append-nil (held_in ns (get_or slots ns None)))
queued_more slots ns (suc n) start =
    let next : (ns + 1) % 256 < 256 = omega arith in
    let same : ((ns + 1) % 256 + n) % 256 ≡ (ns + suc n) % 256 = omega arith in
    let rest = rw same at (queued_more slots ((ns + 1) % 256) n next) in
    ap (λ l. held_in ns (get_or slots ns None) ++ l) rest
    ∙ sym (append_assoc (held_in ns (get_or slots ns None)) (queued slots ((ns + 1) % 256) n) (held_in ((ns + suc n) % 256) (get_or slots ((ns + suc n) % 256) None)))

pub filled_more : (slots : List (Option Offer)) (ns n : ℕ) → ns < 256 → AreFilled slots ns n → IsSome (get_or slots ((ns + n) % 256) None) → AreFilled slots ns (suc n)
filled_more slots ns zero start h last =
    let same : (ns + 0) % 256 ≡ ns = omega (arith, start) in
    (subst (λ (k : ℕ). IsSome (get_or slots k None)) same last, tt)
filled_more slots ns (suc n) start h last =
    let next : (ns + 1) % 256 < 256 = omega arith in
    let same : (ns + suc n) % 256 ≡ ((ns + 1) % 256 + n) % 256 = omega arith in
    (h.0, filled_more slots ((ns + 1) % 256) n next h.1 (subst (λ (k : ℕ). IsSome (get_or slots k None)) same last))

length_held : (ns : ℕ) (slot : Option Offer) (l : List Outstanding) → IsSome slot → length (held_in ns slot ++ l) ≡ suc (length l)
length_held ns None l h = absurd (false≢true h)
length_held ns (Some offer) l h = refl

pub length_queued : (slots : List (Option Offer)) (ns n : ℕ) → AreFilled slots ns n → length (queued slots ns n) ≡ n
length_queued slots ns zero h = refl
length_queued slots ns (suc n) h =
    length_held ns (get_or slots ns None) (queued slots ((ns + 1) % 256) n) h.0 ∙ ap (λ k. suc k) (length_queued slots ((ns + 1) % 256) n h.1)

-- what a slot gives
abbrev pub taken_from : ℕ → Option Offer → Option Outstanding
taken_from ns None = None
taken_from ns (Some offer) = Some (record { ns = ns; request = offer.request; body = offer.body })

first_held : (ns : ℕ) (slot : Option Offer) (l : List Outstanding) → IsSome slot → slice_get (held_in ns slot ++ l) 0 ≡ taken_from ns slot
first_held ns None l h = absurd (false≢true h)
first_held ns (Some offer) l h = refl

next_held : (ns : ℕ) (slot : Option Offer) (l : List Outstanding) (i : ℕ) → IsSome slot → slice_get (held_in ns slot ++ l) (suc i) ≡ slice_get l i
next_held ns None l i h = absurd (false≢true h)
next_held ns (Some offer) l i h = refl

pub slot_at : (slots : List (Option Offer)) (ns n i : ℕ) → ns < 256 → i < n → AreFilled slots ns n → slice_get (queued slots ns n) i ≡ taken_from ((ns + i) % 256) (get_or slots ((ns + i) % 256) None)
slot_at slots ns zero i start inside h = absurd (let no : ⊥ = omega (arith, inside) in no)
slot_at slots ns (suc n) zero start inside h =
    let same : (ns + 0) % 256 ≡ ns = omega (arith, start) in
    rw same (first_held ns (get_or slots ns None) (queued slots ((ns + 1) % 256) n) h.0)
slot_at slots ns (suc n) (suc i) start inside h =
    let next : (ns + 1) % 256 < 256 = omega arith in
    let same : ((ns + 1) % 256 + i) % 256 ≡ (ns + suc i) % 256 = omega arith in
    let fewer : i < n = omega (arith, inside) in
    next_held ns (get_or slots ns None) (queued slots ((ns + 1) % 256) n) i h.0 ∙ (rw same at (slot_at slots ((ns + 1) % 256) n i next fewer h.1))

pub slot_filled : (slots : List (Option Offer)) (ns n i : ℕ) → ns < 256 → i < n → AreFilled slots ns n → IsSome (get_or slots ((ns + i) % 256) None)
slot_filled slots ns zero i start inside h = absurd (let no : ⊥ = omega (arith, inside) in no)
slot_filled slots ns (suc n) zero start inside h =
    let same : ns ≡ (ns + 0) % 256 = omega (arith, start) in
    subst (λ (k : ℕ). IsSome (get_or slots k None)) same h.0
slot_filled slots ns (suc n) (suc i) start inside h =
    let next : (ns + 1) % 256 < 256 = omega arith in
    let same : ((ns + 1) % 256 + i) % 256 ≡ (ns + suc i) % 256 = omega arith in
    let fewer : i < n = omega (arith, inside) in
    subst (λ (k : ℕ). IsSome (get_or slots k None)) same (slot_filled slots ((ns + 1) % 256) n i next fewer h.1)

dropped_held : (ns : ℕ) (slot : Option Offer) (l : List Outstanding) → IsSome slot → drop 1 (held_in ns slot ++ l) ≡ l
dropped_held ns None l h = absurd (false≢true h)
dropped_held ns (Some offer) l h = refl

-- the first leaves, and its slot is empty
pub popped : (slots : List (Option Offer)) (ns n m : ℕ) → ns < 256 → n ≤ 255 → n ≡ suc m → AreFilled slots ns n → queued (set slots ns None) ((ns + 1) % 256) m ≡ drop 1 (queued slots ns n)
popped slots ns n m start few e h =
    let next : (ns + 1) % 256 < 256 = omega arith in
    let far : m ≤ (ns + 256 - ((ns + 1) % 256)) % 256 = omega (arith, few, e, start) in
    let filled : AreFilled slots ns (suc m) = subst (λ (k : ℕ). AreFilled slots ns k) e h in
    queued_set_other slots ns None ((ns + 1) % 256) m start next far
    ∙ sym (dropped_held ns (get_or slots ns None) (queued slots ((ns + 1) % 256) m) filled.0)
    ∙ ap (λ k. drop 1 (queued slots ns k)) (sym e)

pub popped_filled : (slots : List (Option Offer)) (ns n m : ℕ) → ns < 256 → n ≤ 255 → n ≡ suc m → AreFilled slots ns n → AreFilled (set slots ns None) ((ns + 1) % 256) m
popped_filled slots ns n m start few e h =
    let next : (ns + 1) % 256 < 256 = omega arith in
    let far : m ≤ (ns + 256 - ((ns + 1) % 256)) % 256 = omega (arith, few, e, start) in
    let filled : AreFilled slots ns (suc m) = subst (λ (k : ℕ). AreFilled slots ns k) e h in
    filled_set_other slots ns None ((ns + 1) % 256) m start next far filled.1

-- one more behind the others
pub pushed : (slots : List (Option Offer)) (ns n m j : ℕ) (offer : Offer) → length slots ≡ 256 → ns < 256 → n < 255 → m ≡ suc n → j ≡ (ns + n) % 256 → queued (set slots j (Some offer)) ns m ≡ queued slots ns n ++ record { ns = j; request = offer.request; body = offer.body } ∷ []
pushed slots ns n m j offer all start few e at =
    let inside : j < 256 = omega (arith, at) in
    let there : j < length slots = omega (arith, inside, all) in
    let far : n ≤ (j + 256 - ns) % 256 = omega (arith, at, start, few) in
    let written : get_or (set slots j (Some offer)) j None ≡ Some offer = get_or-set_same slots j (Some offer) None there in
    let more = rw (← at, written) at (queued_more (set slots j (Some offer)) ns n start) in
    ap (λ k. queued (set slots j (Some offer)) ns k) e ∙ more
    ∙ ap (λ l. l ++ record { ns = j; request = offer.request; body = offer.body } ∷ []) (queued_set_other slots j (Some offer) ns n inside start far)

pub pushed_filled : (slots : List (Option Offer)) (ns n m j : ℕ) (offer : Offer) → length slots ≡ 256 → ns < 256 → n < 255 → m ≡ suc n → j ≡ (ns + n) % 256 → AreFilled slots ns n → AreFilled (set slots j (Some offer)) ns m
pushed_filled slots ns n m j offer all start few e at h =
    let inside : j < 256 = omega (arith, at) in
    let there : j < length slots = omega (arith, inside, all) in
    let far : n ≤ (j + 256 - ns) % 256 = omega (arith, at, start, few) in
    let written : get_or (set slots j (Some offer)) j None ≡ Some offer = get_or-set_same slots j (Some offer) None there in
    let some : IsSome (get_or (set slots j (Some offer)) ((ns + n) % 256) None) =
    subst (λ (k : ℕ). IsSome (get_or (set slots j (Some offer)) k None)) at (rw written refl) in
    subst (λ (k : ℕ). AreFilled (set slots j (Some offer)) ns k) (sym e)
    (filled_more (set slots j (Some offer)) ns n start (filled_set_other slots j (Some offer) ns n inside start far h) some)

-- past the end there is nothing
pub none_past : {X : Type 0} (xs : List X) (i : ℕ) → length xs ≤ i → slice_get xs i ≡ None
none_past [] i h = refl
none_past (x ∷ xs) zero h = absurd (let no : ⊥ = omega (arith, h) in no)
none_past (x ∷ xs) (suc i) h = none_past xs i (omega (arith, h))

-- one more of a front
pub take_next : {X : Type 0} (xs : List X) (i : ℕ) (x : X) → slice_get xs i ≡ Some x → take (suc i) xs ≡ take i xs ++ x ∷ []
take_next [] i x e = cc
take_next (y ∷ ys) zero x e =
    let same : y ≡ x = cc in
    ap (λ z. z ∷ []) same
take_next (y ∷ ys) (suc i) x e = ap (λ l. y ∷ l) (take_next ys i x e)

-- what stands at a place is there
pub some_there : {X : Type 0} (xs : List X) (i : ℕ) (x : X) → slice_get xs i ≡ Some x → i < length xs
some_there [] i x e = cc
some_there (y ∷ ys) zero x e = omega arith
some_there (y ∷ ys) (suc i) x e = let rest = some_there ys i x e in omega (arith, rest)

-- a read of a slot, whatever stands for no slot
pub slot_read : (slots : List (Option Offer)) (k : ℕ) (slot : Option Offer) → k < length slots → slot ≡ get_or slots k slot → get_or slots k None ≡ slot
slot_read slots k slot there e = get_or_default slots k None slot there ∙ sym e

-- the number of the front
front_number : (slots : List (Option Offer)) (ns n : ℕ) → ns < 256 → 0 < n → AreFilled slots ns n → (front : Outstanding) × (slice_get (queued slots ns n) 0 ≡ Some front) × (front.ns ≡ ns)
front_number slots ns zero start some h = absurd (let no : ⊥ = omega (arith, some) in no)
front_number slots ns (suc n) start some h = of_slot (get_or slots ns None) refl h.0
  where
    of_slot : (slot : Option Offer) → get_or slots ns None ≡ slot → IsSome (get_or slots ns None) → (front : Outstanding) × (slice_get (queued slots ns (suc n)) 0 ≡ Some front) × (front.ns ≡ ns)
    of_slot None e f = absurd (false≢true (sym (ap (λ (o : Option Offer). is_some o) e) ∙ f))
    of_slot (Some offer) e f =
        (record { ns = ns; request = offer.request; body = offer.body }, ap (λ (o : Option Offer). slice_get (held_in ns o ++ queued slots ((ns + 1) % 256) n) 0) e, refl)

-- where some are out, the next number tells the first
same_start : (slots : List (Option Offer)) (f g n : ℕ) → (0 < n → f ≡ g) → queued slots f n ≡ queued slots g n
same_start slots f g zero h = refl
same_start slots f g (suc n) h = ap (λ (k : ℕ). queued slots k (suc n)) (h (omega arith))

same_filled : (slots : List (Option Offer)) (f g n : ℕ) → (0 < n → f ≡ g) → AreFilled slots g n → AreFilled slots f n
same_filled slots f g zero h a = tt
same_filled slots f g (suc n) h a = subst (λ (k : ℕ). AreFilled slots k (suc n)) (sym (h (omega arith))) a

starts_there : (slots : List (Option Offer)) (first n ns start : ℕ) → first < 256 → n ≤ 255 → ns < 256 → AreFilled slots first n
    → ((front : Outstanding) → slice_get (queued slots first n) 0 ≡ Some front → ns ≡ (front.ns + length (queued slots first n)) % 256)
    → start ≡ (ns + 256 - n) % 256 → 0 < n → start ≡ first
starts_there slots first n ns start small few number h next at some =
    let front = front_number slots first n small some h in
    let known = next front.0 front.1 in
    let size = length_queued slots first n h in
    let same = front.2 in
    omega (arith, known, size, same, at, small, few, number)

-- one more behind the others, from what the next number tells
pub push_queue : (slots : List (Option Offer)) (first n ns start more : ℕ) (offer : Offer) → length slots ≡ 256 → first < 256 → n ≤ 255 → ns < 256 → AreFilled slots first n
    → length (queued slots first n) < 255
    → ((front : Outstanding) → slice_get (queued slots first n) 0 ≡ Some front → ns ≡ (front.ns + length (queued slots first n)) % 256)
    → start ≡ (ns + 256 - n) % 256 → more ≡ n + 1
    → (queued (set slots ns (Some offer)) start more ≡ queued slots first n ++ record { ns = ns; request = offer.request; body = offer.body } ∷ [])
    × AreFilled (set slots ns (Some offer)) start more
push_queue slots first n ns start more offer all small few number h room next at e =
    let size = length_queued slots first n h in
    let fewer : n < 255 = omega (arith, size, room) in
    let same : 0 < n → start ≡ first = starts_there slots first n ns start small few number h next at in
    let begin : start < 256 = omega (arith, at) in
    let one : more ≡ suc n = omega (arith, e) in
    let last : ns ≡ (start + n) % 256 = omega (arith, at, number, few) in (
      pushed slots start n more ns offer all begin fewer one last
          ∙ ap (λ l. l ++ record { ns = ns; request = offer.request; body = offer.body } ∷ []) (same_start slots start first n same),
      pushed_filled slots start n more ns offer all begin fewer one last (same_filled slots start first n same h),
    )

-- one more was told, or sent
pub told_more : (f : Outstanding → Indication) (a : Out) (xs : List Outstanding) (i : ℕ) (x : Outstanding) → slice_get xs i ≡ Some x
    → joined (joined a (record { frames = []; indications = map f (take i xs) })) (record { frames = []; indications = f x ∷ [] })
    ≡ joined a (record { frames = []; indications = map f (take (i + 1) xs) })
told_more f a xs i x e =
    let one : i + 1 ≡ suc i = omega arith in
    let more : map f (take (i + 1) xs) ≡ map f (take i xs) ++ f x ∷ [] =
    ap (λ (k : ℕ). map f (take k xs)) one ∙ ap (λ (l : List Outstanding). map f l) (take_next xs i x e) ∙ map-append f (take i xs) (x ∷ []) in
    joined_assoc a (record { frames = []; indications = map f (take i xs) }) (record { frames = []; indications = f x ∷ [] })
    ∙ ap (λ (l : List Indication). joined a (record { frames = []; indications = l })) (sym more)

pub sent_more : (f : Outstanding → Frame) (a : Out) (xs : List Outstanding) (i : ℕ) (x : Outstanding) → slice_get xs i ≡ Some x
    → joined (joined a (record { frames = map f (take i xs); indications = [] })) (record { frames = f x ∷ []; indications = [] })
    ≡ joined a (record { frames = map f (take (i + 1) xs); indications = [] })
sent_more f a xs i x e =
    let one : i + 1 ≡ suc i = omega arith in
    let more : map f (take (i + 1) xs) ≡ map f (take i xs) ++ f x ∷ [] =
    ap (λ (k : ℕ). map f (take k xs)) one ∙ ap (λ (l : List Outstanding). map f l) (take_next xs i x e) ∙ map-append f (take i xs) (x ∷ []) in
    joined_assoc a (record { frames = map f (take i xs); indications = [] }) (record { frames = f x ∷ []; indications = [] })
    ∙ ap (λ (l : List Frame). joined a (record { frames = l; indications = [] })) (sym more)

-- V(S) follows the queue
pub vs_follows : (nn vs : ℕ) (q : List Outstanding) (front : Outstanding) → AreNumbered nn (map held_of q) → vs ≡ (nn + length (map held_of q)) % 256
    → nn < 256 → slice_get q 0 ≡ Some front → vs ≡ (front.ns + length q) % 256
vs_follows nn vs [] front numbered next small e = cc
vs_follows nn vs (x ∷ q) front numbered next small e =
    let same : x ≡ front = cc in
    let first : x.ns ≡ (nn + 0) % 256 = numbered.each 0 (held_of x) refl in
    let mine : front.ns ≡ x.ns = ap (λ (y : Outstanding). y.ns) (sym same) in
    let size = length-map (x ∷ q) held_of in
    omega (arith, first, mine, size, next, small)
