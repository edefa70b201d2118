-- CLTUs: one codeblock more, and where a receiver is after an octet.
use Rattle.std.proofs.Common.{◌≡◌, ℕ, suc, ◌+◌, ◌-◌, ◌*◌, ◌<◌, ◌≤◌, Bool, true, false, List, [], ◌∷◌, ◌++◌, take, drop, length}
use Rattle.std.proofs.Common.{Some, None, refl, sym, ap, ◌∙◌, subst, arith}
use Rattle.std.specs.Prelude.{◌==◌, ◌&&◌}
use Rattle.std.specs.List.{fold}
use Rattle.std.proofs.lemmas.Bool.{cond_below, cond_above, cond_both}
use Rattle.std.proofs.lemmas.List.{append_assoc, append-nil, drop-drop, length-append, length-take}
use Rattle.tc_octets.specs.Codeblocks.{codeblock_of, error_control_of, sent_of}
use Rattle.tc_octets.specs.Cltus.{Place, searching, within, come, waits, kept, after_block, codeblock_in, whole_block, place_of, codeblocks_of}
use Rattle.tc_octets.specs.Cltus.{Found, HasNone, found_of, keeping, still}
use Rattle.tc_octets.specs.declared.codeblocks.Mode.{Mode}

-- one codeblock more is put
pub block_put : (out octets information : List ℕ) (check blocks i : ℕ) → i < blocks → information ≡ take 7 (drop (7 * i) octets)
    → check ≡ error_control_of information
    → (out ++ information ++ check ∷ []) ++ codeblocks_of (blocks - (i + 1)) (drop (7 * (i + 1)) octets) ≡ out
    ++ codeblocks_of (blocks - i) (drop (7 * i) octets)
block_put out octets information check blocks i h is right =
    let more : blocks - i ≡ suc (blocks - (i + 1)) = omega arith in
    let next : 7 * (i + 1) ≡ 7 * i + 7 = omega arith in
    sym (
    ap (λ n. out ++ codeblocks_of n (drop (7 * i) octets)) more
    ∙ ap (λ l. out ++ (codeblock_of (take 7 (drop (7 * i) octets)) ++ codeblocks_of (blocks - (i + 1)) l))
    (drop-drop 7 (7 * i) octets ∙ ap (λ n. drop n octets) (sym next))
    ∙ ap (λ l. out ++ (codeblock_of l ++ codeblocks_of (blocks - (i + 1)) (drop (7 * (i + 1)) octets))) (sym is)
    ∙ ap (λ n. out ++ ((information ++ n ∷ []) ++ codeblocks_of (blocks - (i + 1)) (drop (7 * (i + 1)) octets))) (sym right)
    ∙ sym (append_assoc out (information ++ check ∷ []) (codeblocks_of (blocks - (i + 1)) (drop (7 * (i + 1)) octets)))
    ∙ ap (λ l. l ++ codeblocks_of (blocks - (i + 1)) (drop (7 * (i + 1)) octets)) (sym (append_assoc out information (check ∷ [])))
    )

-- no codeblock is left
pub none_left : (out octets : List ℕ) (blocks i : ℕ) (all : List ℕ) → blocks ≤ i → out ++ codeblocks_of (blocks - i) (drop (7 * i) octets) ≡ all
    → out ≡ all
none_left out octets blocks i all h e =
    let left : blocks - i ≡ 0 = omega arith in
    sym (append-nil out) ∙ ap (λ n. out ++ codeblocks_of n (drop (7 * i) octets)) (sym left) ∙ e

-- one octet more waits, at most
pub waits_more : (place : Place) (octet : ℕ) → waits (come place octet) ≤ waits place + 1
waits_more (searching begun) octet =
    cond_both (begun && (octet == 0x90)) (within [] []) (searching (octet == 0xeb)) (λ p. waits p ≤ 1) (λ e. omega arith) (λ e. omega arith)
waits_more (within information waiting) octet = omega (arith, length-append waiting (octet ∷ []))

-- where a start sequence is looked for, no octet waits after the next
none_waits : (begun : Bool) (octet : ℕ) → waits (come (searching begun) octet) ≡ 0
none_waits begun octet = cond_both (begun && (octet == 0x90)) (within [] []) (searching (octet == 0xeb)) (λ p. waits p ≡ 0) (λ e. refl) (λ e. refl)

waits_all : (place : Place) (octets : List ℕ) → waits (fold come place octets) ≤ waits place + length octets
waits_all place [] = omega arith
waits_all place (octet ∷ octets) = omega (arith, waits_all (come place octet) octets, waits_more place octet)

-- Of the octets of a block that failed fewer than eight wait: the first of them is at most the first of a start sequence.
pub looked_few : (octets : List ℕ) → length octets ≤ 8 → waits (fold come (searching false) octets) < 8
looked_few [] h = omega arith
looked_few (octet ∷ octets) h = omega (arith, waits_all (come (searching false) octet) octets, none_waits false octet)

pub looked_before : (octets : List ℕ) (i : ℕ) → i ≤ 8 → waits (fold come (searching false) (take i octets)) < 8
looked_before octets i h = looked_few (take i octets) (omega (arith, length-take i octets))

-- An octet that comes adds no information, and where a start sequence is looked for there is none.
pub kept_come : (place : Place) (octet : ℕ) → kept (come place octet) ≤ kept place
kept_come (searching begun) octet =
    cond_both (begun && (octet == 0x90)) (within [] []) (searching (octet == 0xeb)) (λ p. kept p ≤ 0) (λ e. omega arith) (λ e. omega arith)
kept_come (within information waiting) octet = omega arith

kept_all : (place : Place) (octets : List ℕ) → kept (fold come place octets) ≤ kept place
kept_all place [] = omega arith
kept_all place (octet ∷ octets) = omega (arith, kept_all (come place octet) octets, kept_come place octet)

pub kept_looked : (octets : List ℕ) → kept (fold come (searching false) octets) ≡ 0
kept_looked octets = omega (arith, kept_all (searching false) octets)

-- a place where no information is kept
bare : (place : Place) → kept place ≡ 0 → keeping [] place ≡ place
bare (searching begun) e = refl
bare (within [] waiting) e = refl
bare (within (octet ∷ octets) waiting) e = absurd (omega arith)

-- fewer than eight octets are no block
pub too_few : (mode : Mode) (place : Place) → waits place < 8 → whole_block mode place ≡ record { place = place; ended = None }
too_few mode (searching begun) h = refl
too_few mode (within information waiting) h = sym (cond_below (length waiting) 8 _ _ h)

-- eight octets are one
pub block_there : (mode : Mode) (information waiting : List ℕ) → length waiting ≡ 8
    → whole_block mode (within information waiting) ≡ after_block information waiting (codeblock_in mode information waiting)
block_there mode information waiting e = sym (cond_above (length waiting) 8 _ _ _ (omega arith) refl)

-- the block is read unless there were 147
pub read_below : (mode : Mode) (information block : List ℕ) → length information < 1029 → codeblock_in mode information block ≡ sent_of mode block
read_below mode information block h = sym (cond_below (length information) 1029 _ _ h)

pub unread_above : (mode : Mode) (information block : List ℕ) → 1029 ≤ length information → codeblock_in mode information block ≡ None
unread_above mode information block h = sym (cond_above (length information) 1029 _ _ _ h refl)

-- ---- a place by its parts, and the information beside it

-- where octets wait, the receiver is within a CLTU
pub block_waits : (inside begun : Bool) (waiting : List ℕ) → waits (place_of inside begun waiting) ≡ 8 → length waiting ≡ 8
block_waits true begun waiting e = e
block_waits false begun waiting e = absurd (omega arith)

pub block_within : (inside begun : Bool) (waiting : List ℕ) → waits (place_of inside begun waiting) ≡ 8
    → place_of inside begun waiting ≡ within [] waiting
block_within true begun waiting e = refl
block_within false begun waiting e = absurd (omega arith)

pub waits_keeping : (information : List ℕ) (place : Place) → waits (keeping information place) ≡ waits place
waits_keeping information (searching begun) = refl
waits_keeping information (within none waiting) = refl

-- an octet comes, and the information stays
pub come_keeping : (information : List ℕ) (place : Place) (octet : ℕ) → HasNone place information
    → come (keeping information place) octet ≡ keeping information (come place octet)
come_keeping information (searching begun) octet none =
    cond_both (begun && (octet == 0x90)) (within [] []) (searching (octet == 0xeb))
    (λ p. p ≡ keeping information p) (λ e. ap (λ l. within l []) (sym none)) (λ e. refl)
come_keeping information (within before waiting) octet none = refl

pub none_come : (information : List ℕ) (place : Place) (octet : ℕ) → HasNone place information → HasNone (come place octet) information
none_come information (searching begun) octet none =
    cond_both (begun && (octet == 0x90)) (within [] []) (searching (octet == 0xeb)) (λ p. HasNone p information) (λ e. tt) (λ e. none)
none_come information (within before waiting) octet none = tt

pub none_kept : (place : Place) → HasNone place []
none_kept (searching begun) = refl
none_kept (within before waiting) = tt

pub few_kept : (ended : Bool) (information : List ℕ) (place : Place) → length information ≤ 1029
    → kept (keeping (still ended information) place) ≤ 1029
few_kept ended information (searching begun) few = omega arith
few_kept true information (within before waiting) few = omega arith
few_kept false information (within before waiting) few = few

-- no block is whole yet
pub none_found : (mode : Mode) (information : List ℕ) (place : Place) → waits place < 8
    → found_of false information place ≡ whole_block mode (keeping information place)
none_found mode information place few =
    sym (too_few mode (keeping information place) (subst (λ (n : ℕ). n < 8) (sym (waits_keeping information place)) few))

-- a codeblock
pub block_found : (mode : Mode) (information block codeblock : List ℕ) → length block ≡ 8 → codeblock_in mode information block ≡ Some codeblock
    → found_of false (information ++ take 7 codeblock) (within [] []) ≡ whole_block mode (keeping information (within [] block))
block_found mode information block codeblock long e =
    sym (block_there mode information block long ∙ ap (after_block information block) e)

-- a block that ends the CLTU
pub end_found : (mode : Mode) (information block : List ℕ) → length block ≡ 8 → codeblock_in mode information block ≡ None
    → found_of true information (fold come (searching false) block) ≡ whole_block mode (keeping information (within [] block))
end_found mode information block long e =
    ap (λ p. record { place = p; ended = Some information }) (bare (fold come (searching false) block) (kept_looked block))
    ∙ sym (block_there mode information block long ∙ ap (after_block information block) e)
