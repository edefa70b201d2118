-- Fifteen octets of idle bring a receiver to where it looks for a start sequence, wherever it was.
use Rattle.std.proofs.Common.{◌≡◌, ℕ, zero, suc, ◌+◌, ◌-◌, ◌<◌, ◌≤◌, Bool, true, false, List, [], ◌∷◌, ◌++◌, take, length, Option, Some}
use Rattle.std.proofs.Common.{None, refl, sym, ap, ◌∙◌, subst, inl, inr, arith}
use Rattle.std.specs.Prelude.{◌⊎◌, ◌==◌, ◌&&◌, nat_lt}
use Rattle.std.specs.List.{fold}
use Rattle.std.proofs.lemmas.Bool.{cond_both, cases_lt}
use Rattle.std.proofs.lemmas.List.{append_assoc, append-nil, length-append, length-replicate, replicate-append-replicate}
use Rattle.std.proofs.lemmas.List.Sums.{fold-append}
use Rattle.tc_octets.specs.Codeblocks.{sent_of, is_codeblock, bch_step, with_one_turned}
use Rattle.tc_octets.specs.Bits.{octet_bits}
use Rattle.tc_octets.specs.Cltus.{Place, searching, within, Found, come, received, whole_block, after_block, codeblock_in, waits, cltu_of, filled_of, Receiver}
use Rattle.tc_octets.specs.CltuRuns.{IdleRestores, Run, came, run, idle}
use Rattle.tc_octets.specs.declared.codeblocks.Mode.{Mode}
use Rattle.tc_octets.specs.declared.codeblocks.Mode.TheVariants.{Detecting, Correcting}
use Rattle.tc_octets.proofs.CltuLemmas.{too_few, block_there, looked_few}
use Rattle.tc_octets.proofs.CltuRunLemmas.{whole_found}

-- where a receiver is after an octet, whatever ended
abbrev next : Mode → Place → ℕ → Place
next mode place octet = (received mode place octet).place

abbrev places : Mode → Place → List ℕ → Place
places mode place octets = fold (next mode) place octets

run_place : (mode : Mode) (start : Run) (octets : List ℕ) → (run mode start octets).place ≡ places mode start.place octets
run_place mode start [] = refl
run_place mode start (octet ∷ octets) = run_place mode (came mode start octet) octets

-- idle where a start sequence is looked for
searched_idle : (mode : Mode) (count : ℕ) → places mode (searching false) (idle count) ≡ searching false
unfolding received
searched_idle mode zero = refl
searched_idle mode (suc count) = searched_idle mode count

-- while fewer than eight octets wait, they wait
next_waits : (mode : Mode) (place : Place) (octet : ℕ) → waits (come place octet) < 8 → next mode place octet ≡ come place octet
unfolding received
next_waits mode place octet h = ap (λ (f : Found). f.place) (too_few mode (come place octet) h)

-- octets that make a block whole
block_made : (mode : Mode) (information waiting octets : List ℕ) → length waiting < 8 → length waiting + length octets ≡ 8
    → places mode (within information waiting) octets
    ≡ (after_block information (waiting ++ octets) (codeblock_in mode information (waiting ++ octets))).place
unfolding received
block_made mode information waiting [] h e = absurd (omega arith)
block_made mode information waiting (octet ∷ []) h e =
    let whole : length (waiting ++ octet ∷ []) ≡ 8 = length-append waiting (octet ∷ []) ∙ e in
    ap (λ (f : Found). f.place) (block_there mode information (waiting ++ octet ∷ []) whole)
block_made mode information waiting (octet ∷ other ∷ octets) h e =
    let few : waits (come (within information waiting) octet) < 8 = omega (arith, length-append waiting (octet ∷ [])) in
    let rest = block_made mode information (waiting ++ octet ∷ []) (other ∷ octets) few (omega (arith, length-append waiting (octet ∷ []))) in
    ap (λ p. places mode p (other ∷ octets)) (next_waits mode (within information waiting) octet few)
    ∙ rest
    ∙ ap (λ l. (after_block information l (codeblock_in mode information l)).place) (append_assoc waiting (octet ∷ []) (other ∷ octets))

-- eight octets of idle are no codeblock, in neither mode
idle_read : (mode : Mode) → sent_of mode (idle 8) ≡ None
unfolding sent_of with_one_turned is_codeblock octet_bits bch_step
idle_read Detecting = refl
idle_read Correcting = refl

idle_in : (mode : Mode) (information : List ℕ) → codeblock_in mode information (idle 8) ≡ None
idle_in mode information = cond_both (nat_lt (length information) 1029) (sent_of mode (idle 8)) None (λ r. r ≡ None) (λ e. idle_read mode) (λ e. refl)

places-append : (mode : Mode) (place : Place) (first rest : List ℕ) → places mode place (first ++ rest) ≡ places mode (places mode place first) rest
places-append mode place first rest = fold-append (next mode) place first rest

idle_length : (n : ℕ) → length (idle n) ≡ n
idle_length n = length-replicate {A = ℕ} n 0x55

idle_split : (m n : ℕ) → idle (m + n) ≡ idle m ++ idle n
idle_split m n = sym (replicate-append-replicate m n 0x55)

-- between two blocks, eight octets of idle end the CLTU
between_idle : (mode : Mode) (information : List ℕ) (count : ℕ) → places mode (within information []) (idle (8 + count)) ≡ searching false
between_idle mode information count =
    ap (places mode (within information [])) (idle_split 8 count)
    ∙ places-append mode (within information []) (idle 8) (idle count)
    ∙ ap (λ p. places mode p (idle count))
    (block_made mode information [] (idle 8) (omega arith) refl ∙ ap (λ r. (after_block information (idle 8) r).place) (idle_in mode information))
    ∙ searched_idle mode count

within_all : (information waiting octets : List ℕ) → fold come (within information waiting) octets ≡ within information (waiting ++ octets)
within_all information waiting [] = ap (λ l. within information l) (sym (append-nil waiting))
within_all information waiting (octet ∷ octets) =
    within_all information (waiting ++ octet ∷ []) octets ∙ ap (λ l. within information l) (append_assoc waiting (octet ∷ []) octets)

idle_looked : (begun : Bool) (count : ℕ) → fold come (searching begun) (idle (suc count)) ≡ searching false
idle_looked true zero = refl
idle_looked false zero = refl
idle_looked true (suc count) = idle_looked false count
idle_looked false (suc count) = idle_looked false count

-- What octets and idle after them are looked through for: nothing begins there, or something does after fewer of the octets.
abbrev Looks : List ℕ → ℕ → Place → Type 0
Looks octets count place = (place ≡ searching false) ⊎ ((rest : List ℕ) × (length rest < length octets)
    × (place ≡ within [] (rest ++ idle (suc count))))

looks : (begun : Bool) (octets : List ℕ) (count : ℕ) → Looks octets count (fold come (searching begun) (octets ++ idle (suc count)))
looks begun [] count = inl (idle_looked begun count)
looks begun (octet ∷ octets) count =
    cond_both (begun && (octet == 0x90)) (within [] []) (searching (octet == 0xeb))
    (λ p. Looks (octet ∷ octets) count (fold come p (octets ++ idle (suc count))))
    (λ e. inr (octets, omega arith, within_all [] [] (octets ++ idle (suc count))))
    (λ e. elim (looks (octet == 0xeb) octets count) [
      | inl nothing ↦ inl nothing
      | inr later ↦ inr (later.0, omega (arith, later.1), later.2)
    ])

-- a block with idle at its end: the rest of the idle is enough, whether it reads or not
after_some : (mode : Mode) (information codeblock : List ℕ) (n : ℕ) → 1 ≤ n
    → places mode (within (information ++ take 7 codeblock) []) (idle (7 + n)) ≡ searching false
after_some mode information codeblock n h =
    let size : 7 + n ≡ 8 + (n - 1) = omega arith in
    ap (λ m. places mode (within (information ++ take 7 codeblock) []) (idle m)) size ∙ between_idle mode (information ++ take 7 codeblock) (n - 1)

-- The claim for octets fewer than so many: what a block that failed begins anew is such.
abbrev Brings : Mode → ℕ → Type 0
Brings mode fuel = (information octets : List ℕ) (m : ℕ) → length octets ≤ fuel → length octets + m < 8
    → places mode (within information (octets ++ idle m)) (idle (15 - m)) ≡ searching false

after_none : (mode : Mode) (fuel : ℕ) (octets : List ℕ) (place : Place) → Brings mode fuel → length octets ≤ suc fuel → 1 ≤ length octets
    → length octets < 8
    → Looks octets (7 - length octets) place → places mode place (idle (7 + length octets)) ≡ searching false
after_none mode fuel octets place brings h some few (inl at) =
    ap (λ p. places mode p (idle (7 + length octets))) at ∙ searched_idle mode (7 + length octets)
after_none mode fuel octets place brings h some few (inr later) =
    let left : 7 + length octets ≡ 15 - suc (7 - length octets) = omega arith in
    let shorter = later.1 in
    ap (λ p. places mode p (idle (7 + length octets))) later.2
    ∙ ap (λ n. places mode (within [] (later.0 ++ idle (suc (7 - length octets)))) (idle n)) left
    ∙ brings [] later.0 (suc (7 - length octets)) (omega arith) (omega arith)

whatever : (mode : Mode) (fuel : ℕ) (information octets block : List ℕ) (read : Option (List ℕ)) → Brings mode fuel → length octets ≤ suc fuel
    → 1 ≤ length octets → length octets < 8
    → block ≡ octets ++ idle (suc (7 - length octets))
    → places mode (after_block information block read).place (idle (7 + length octets)) ≡ searching false
whatever mode fuel information octets block (Some codeblock) brings h some few is = after_some mode information codeblock (length octets) some
whatever mode fuel information octets block None brings h some few is =
    after_none mode fuel octets (fold come (searching false) block) brings h some few
    (subst (λ (l : List ℕ). Looks octets (7 - length octets) (fold come (searching false) l)) (sym is) (looks false octets (7 - length octets)))

-- within a CLTU, some octets and then idle wait: fifteen octets of idle in all are enough
within_idle : (mode : Mode) (fuel : ℕ) → Brings mode fuel
within_idle mode fuel information [] m h k =
    let parts : 15 - m ≡ (8 - m) + 7 = omega arith in
    let whole : idle m ++ idle (8 - m) ≡ idle 8 = sym (idle_split m (8 - m)) ∙ ap idle (let s : m + (8 - m) ≡ 8 = omega arith in s) in
    ap (λ n. places mode (within information (idle m)) (idle n)) parts
    ∙ ap (places mode (within information (idle m))) (idle_split (8 - m) 7)
    ∙ places-append mode (within information (idle m)) (idle (8 - m)) (idle 7)
    ∙ ap (λ p. places mode p (idle 7))
    (block_made mode information (idle m) (idle (8 - m)) (omega (arith, idle_length m)) (omega (arith, idle_length m, idle_length (8 - m)))
    ∙ ap (λ l. (after_block information l (codeblock_in mode information l)).place) whole
    ∙ ap (λ r. (after_block information (idle 8) r).place) (idle_in mode information))
    ∙ searched_idle mode 7
within_idle mode zero information (x ∷ octets) m h k = absurd (omega arith)
within_idle mode (suc fuel) information (x ∷ octets) m h k =
    let parts : 15 - m ≡ (8 - length (x ∷ octets) - m) + (7 + length (x ∷ octets)) = omega arith in
    let ends : m + (8 - length (x ∷ octets) - m) ≡ suc (7 - length (x ∷ octets)) = omega arith in
    let block : ((x ∷ octets) ++ idle m) ++ idle (8 - length (x ∷ octets) - m) ≡ (x ∷ octets) ++ idle (suc (7 - length (x ∷ octets))) =
    append_assoc (x ∷ octets) (idle m) (idle (8 - length (x ∷ octets) - m))
    ∙ ap (λ l. (x ∷ octets) ++ l) (sym (idle_split m (8 - length (x ∷ octets) - m)) ∙ ap idle ends) in
    let sizes : length ((x ∷ octets) ++ idle m) ≡ length (x ∷ octets) + m =
    length-append (x ∷ octets) (idle m) ∙ ap (λ s. length (x ∷ octets) + s) (idle_length m) in
    ap (λ s. places mode (within information ((x ∷ octets) ++ idle m)) (idle s)) parts
    ∙ ap (places mode (within information ((x ∷ octets) ++ idle m))) (idle_split (8 - length (x ∷ octets) - m) (7 + length (x ∷ octets)))
    ∙ places-append mode (within information ((x ∷ octets) ++ idle m)) (idle (8 - length (x ∷ octets) - m)) (idle (7 + length (x ∷ octets)))
    ∙ ap (λ p. places mode p (idle (7 + length (x ∷ octets))))
    (block_made mode information ((x ∷ octets) ++ idle m) (idle (8 - length (x ∷ octets) - m)) (omega arith)
    (omega (arith, idle_length (8 - length (x ∷ octets) - m)))
    ∙ ap (λ l. (after_block information l (codeblock_in mode information l)).place) block)
    ∙ whatever mode fuel information (x ∷ octets) ((x ∷ octets) ++ idle (suc (7 - length (x ∷ octets))))
    (codeblock_in mode information ((x ∷ octets) ++ idle (suc (7 - length (x ∷ octets)))))
    (within_idle mode fuel) h (omega arith) (omega arith) refl

-- wherever a receiver is
place_idle : (mode : Mode) (place : Place) → waits place < 8 → places mode place (idle 15) ≡ searching false
unfolding received
place_idle mode (searching true) h = searched_idle mode 14
place_idle mode (searching false) h = searched_idle mode 15
place_idle mode (within information waiting) h =
    ap (λ l. places mode (within information l) (idle 15)) (sym (append-nil waiting))
    ∙ within_idle mode (length waiting) information waiting 0 (omega arith) (omega arith)

pub idle_restores : (receiver : Receiver) → waits receiver.last.place < 8 → IdleRestores receiver
idle_restores receiver few = record {
  place =
      λ ended. run_place receiver.mode (record { place = receiver.last.place; ended = ended }) (idle 15)
      ∙ place_idle receiver.mode receiver.last.place few;
}

-- ---- fewer than eight octets ever wait

split_few : (n : ℕ) → (n < 7) ⊎ (7 ≤ n)
split_few n = cases_lt n 7

after_few : (mode : Mode) (information block : List ℕ) (read : Option (List ℕ)) → length block ≡ 8
    → waits (after_block information block read).place < 8
after_few mode information block (Some codeblock) e = omega arith
after_few mode information block None e = looked_few block (omega arith)

next_few : (mode : Mode) (place : Place) (octet : ℕ) → waits place < 8 → waits (next mode place octet) < 8
unfolding received
next_few mode (searching begun) octet h =
    cond_both (begun && (octet == 0x90)) (within [] []) (searching (octet == 0xeb)) (λ p. waits (whole_block mode p).place < 8) (λ e. omega arith)
    (λ e. omega arith)
next_few mode (within information waiting) octet h =
    elim (split_few (length waiting)) [
      | inl few ↦ subst (λ (p : Place). waits p < 8) (sym
          (next_waits mode (within information waiting) octet (omega (arith, length-append waiting (octet ∷ []), few))))
          (omega (arith, length-append waiting (octet ∷ []), few))
      | inr seven ↦ subst (λ (f : Found). waits f.place < 8)
          (sym (block_there mode information (waiting ++ octet ∷ []) (omega (arith, length-append waiting (octet ∷ []), seven))))
          (after_few mode information (waiting ++ octet ∷ []) (codeblock_in mode information (waiting ++ octet ∷ []))
          (omega (arith, length-append waiting (octet ∷ []), seven)))
    ]

places_few : (mode : Mode) (place : Place) (octets : List ℕ) → waits place < 8 → waits (places mode place octets) < 8
places_few mode place [] h = h
places_few mode place (octet ∷ octets) h = places_few mode (next mode place octet) octets (next_few mode place octet h)

-- ---- after any noise

same_run : (start : Run) (place : Place) → start.place ≡ place → start ≡ record { place = place; ended = start.ended }
same_run start place e = λ i. record { place = e i; ended = start.ended }

-- After any noise and fifteen octets of idle a whole CLTU is found: the receiver gives what the noise gave, and then the frame with its fill.
pub found_after_noise : (mode : Mode) (noise frame : List ℕ) (randomizer : Bool) → length frame ≤ 1024
    → run mode (record { place = searching false; ended = [] }) (noise ++ idle 15 ++ cltu_of randomizer frame)
    ≡ record {
      place = searching false;
      ended = (run mode (record { place = searching false; ended = [] }) (noise ++ idle 15)).ended
          ++ filled_of randomizer frame ∷ [];
    }
found_after_noise mode noise frame randomizer h =
    let there : (run mode (record { place = searching false; ended = [] }) (noise ++ idle 15)).place ≡ searching false =
    run_place mode (record { place = searching false; ended = [] }) (noise ++ idle 15)
    ∙ places-append mode (searching false) noise (idle 15)
    ∙ place_idle mode (places mode (searching false) noise) (places_few mode (searching false) noise (omega arith)) in
    fold-append (came mode) (record { place = searching false; ended = [] }) (noise ++ idle 15) (cltu_of randomizer frame)
    ∙ ap (λ r. run mode r (cltu_of randomizer frame))
    (same_run (run mode (record { place = searching false; ended = [] }) (noise ++ idle 15)) (searching false) there)
    ∙ whole_found mode false randomizer (run mode (record { place = searching false; ended = [] }) (noise ++ idle 15)).ended frame h
