-- One more put after the others, and what it adds at most.
use Rattle.std.proofs.Common.{◌≡◌, ℕ, ◌≤◌, ◌+◌, List, [], ◌∷◌, ◌++◌, length, take, get_or, ◌<◌, refl, sym, subst, arith}
use Rattle.std.proofs.lemmas.List.{length-append, take_more}
use Rattle.tc_world.specs.Links.{Kind, PutsAll}
use Rattle.tc_world.specs.Sublist.{IsSublist}
use Rattle.tc_world.proofs.Lists.{sublist_length}

-- one more behind the others
pub PutsAll-push : {C T : Type 0} (kind : Kind C T) (old mid new : C) (items : List T) (item : T) → PutsAll kind old items mid → kind.puts mid item new → PutsAll kind old (items ++ item ∷ []) new
PutsAll-push kind old mid new [] item all put = (new, subst (λ c. kind.puts c item new) all put, refl)
PutsAll-push kind old mid new (first ∷ items) item all put = (all.0, all.1, PutsAll-push kind all.0 mid new items item all.2 put)

-- one more turn of a loop over the items
pub PutsAll-more : {C T : Type 0} (kind : Kind C T) (old mid new : C) (items : List T) (k : ℕ) (d : T) → k < length items → PutsAll kind old (take k items) mid → kind.puts mid (get_or items k d) new → PutsAll kind old (take (k + 1) items) new
PutsAll-more kind old mid new items k d within all put =
    subst (λ xs. PutsAll kind old xs new) (sym (take_more items k d within)) (PutsAll-push kind old mid new (take k items) (get_or items k d) all put)

-- a put adds one item at most
pub put_length : {X : Type 0} (old new : List X) (item : X) → IsSublist new (old ++ item ∷ []) → length new ≤ length old + 1
put_length old new item only =
    let shorter = sublist_length new (old ++ item ∷ []) only in
    let whole : length (old ++ item ∷ []) ≡ length old + 1 = length-append old (item ∷ []) in
    omega (arith, shorter, whole)
