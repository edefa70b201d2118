-- A list of an insert in its eight places.
use Rattle.std.proofs.Common.{◌≡◌, Some, ◌-◌, ◌≤◌, List, [], ◌∷◌, ◌++◌, length, take, drop, replicate, refl, arith}
use Rattle.std.proofs.Math.Seq.{take-append_seam}
use Rattle.std.proofs.lemmas.List.{drop-replicate, length-append, length-replicate}
use Rattle.std.specs.List.{slice_get}
use Rattle.tc_types.specs.Inserts.{most_inserted, IsInsert, padded}

-- what stands in eight places where these were laid over eight times one
abbrev pub laid : {X : Type 0} → List X → X → List X
laid items filler = items ++ drop (length items) (replicate 8 filler)

laid_keeps : {X : Type 0} (items : List X) (filler : X) → IsInsert items → items ++ replicate (8 - length items) filler ≡ padded items
    → (length items ≤ most_inserted) × IsInsert (take (length items) (laid items filler)) × (laid items filler ≡ padded (take (length items) (laid items filler))) × (length (laid items filler) ≡ 8)
laid_keeps {X} items filler is whole =
    let front : take (length items) (laid items filler) ≡ items = take-append_seam items (drop (length items) (replicate 8 filler)) in
    let behind : drop {A = X} (length items) (replicate 8 filler) ≡ replicate (8 - length items) filler = drop-replicate (length items) 8 filler in
    let few : length items ≤ 8 = is.few in
    let eight : length (laid items filler) ≡ 8 =
    rw (behind, length-append items (replicate (8 - length items) filler), length-replicate {A = X} (8 - length items) filler) (omega arith) in
    let all : laid items filler ≡ padded items = rw behind whole in
    (few, rw front is, rw front all, eight)

-- what `Activities::of` and `Rides::of` lay into eight places keeps the invariant
pub laid_out : {X : Type 0} (items : List X) (first : X) → Some first ≡ slice_get items 0 → length items ≤ 8
    → (length items ≤ most_inserted) × IsInsert (take (length items) (laid items first)) × (laid items first ≡ padded (take (length items) (laid items first))) × (length (laid items first) ≡ 8)
laid_out [] first found few = grind (arith)
laid_out (head ∷ others) first found few =
    let same : head ≡ first = grind (arith) in
    let is : IsInsert (head ∷ others) = record { some = omega arith; few = few } in
    laid_keeps (head ∷ others) first is (rw same refl)
