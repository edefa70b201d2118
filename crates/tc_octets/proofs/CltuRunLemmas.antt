-- A whole CLTU is received, whatever pieces it comes in.
use Rattle.std.proofs.Common.{◌≡◌, ℕ, zero, suc, ◌+◌, ◌-◌, ◌*◌, ◌/◌, ◌%◌, ◌<◌, ◌≤◌, Bool, true, false, List, [], ◌∷◌, ◌++◌, take, drop, length}
use Rattle.std.proofs.Common.{Some, None, replicate, refl, sym, ap, ◌∙◌, arith, eq-eqb}
use Rattle.std.specs.Prelude.{nat_lt}
use Rattle.std.proofs.Math.Seq.{take-add}
use Rattle.std.proofs.lemmas.Bool.{cond-true, cond_both}
use Rattle.std.proofs.lemmas.List.{append_assoc, append-nil, length-append, length-take-le, length-drop, length-replicate, take_at, get_or_at}
use Rattle.std.proofs.lemmas.List.{take_all}
use Rattle.std.proofs.lemmas.List.Sums.{fold-append}
use Rattle.tc_octets.specs.Codeblocks.{codeblock_of, error_control_of, bch_step, is_codeblock, sent_of, mended_by, with_one_turned}
use Rattle.tc_octets.specs.Randomizer.{randomized_from, next_octet}
use Rattle.tc_octets.specs.Bits.{octet_bits}
use Rattle.tc_octets.specs.Cltus.{searching, within, received, after_block, codeblock_in, codeblocks_of, filled_to}
use Rattle.tc_octets.specs.Cltus.{cltu_of, filled_of, turned_by, start_sequence, tail_sequence}
use Rattle.tc_octets.specs.CltuRuns.{added, came, run}
use Rattle.tc_octets.specs.declared.codeblocks.Mode.{Mode}
use Rattle.tc_octets.specs.declared.codeblocks.Mode.TheVariants.{Detecting, Correcting}
use Rattle.tc_octets.proofs.CltuLemmas.{read_below}

-- what was encoded is a codeblock, and read as itself
encoded_is : (information : List ℕ) → length information ≡ 7 → is_codeblock (codeblock_of information) ≡ true
unfolding is_codeblock
encoded_is information e =
    eq-eqb (error_control_of (take 7 (codeblock_of information))) _
    (ap error_control_of (take_at information (error_control_of information ∷ []) 7 e)
    ∙ sym (get_or_at information (error_control_of information) [] 0 7 e))

pub encoded_read : (mode : Mode) (information : List ℕ) → length information ≡ 7
    → sent_of mode (codeblock_of information) ≡ Some (codeblock_of information)
unfolding sent_of
encoded_read mode information e = cond-true (is_codeblock (codeblock_of information)) (Some (codeblock_of information))
    (mended_by mode (codeblock_of information)) (encoded_is information e)

-- the tail is no codeblock, and none of its bits makes it one
pub tail_read : (mode : Mode) → sent_of mode tail_sequence ≡ None
unfolding sent_of with_one_turned is_codeblock octet_bits bch_step
tail_read Detecting = refl
tail_read Correcting = refl

tail_in : (mode : Mode) (information : List ℕ) → codeblock_in mode information tail_sequence ≡ None
tail_in mode information = cond_both (nat_lt (length information) 1029) (sent_of mode tail_sequence) None (λ r. r ≡ None) (λ e. tail_read mode)
    (λ e. refl)

-- eight octets are taken as a block
block_run : (mode : Mode) (information block : List ℕ) (ended : List (List ℕ)) → length block ≡ 8
    → run mode (record { place = within information []; ended = ended }) block
    ≡ record {
      place = (after_block information block (codeblock_in mode information block)).place;
      ended =
          added ended (after_block information block (codeblock_in mode information block)).ended;
    }
unfolding received
block_run mode information [] ended e = absurd (omega arith)
block_run mode information (a ∷ []) ended e = absurd (omega arith)
block_run mode information (a ∷ b ∷ []) ended e = absurd (omega arith)
block_run mode information (a ∷ b ∷ c ∷ []) ended e = absurd (omega arith)
block_run mode information (a ∷ b ∷ c ∷ d ∷ []) ended e = absurd (omega arith)
block_run mode information (a ∷ b ∷ c ∷ d ∷ f ∷ []) ended e = absurd (omega arith)
block_run mode information (a ∷ b ∷ c ∷ d ∷ f ∷ g ∷ []) ended e = absurd (omega arith)
block_run mode information (a ∷ b ∷ c ∷ d ∷ f ∷ g ∷ h ∷ []) ended e = absurd (omega arith)
block_run mode information (a ∷ b ∷ c ∷ d ∷ f ∷ g ∷ h ∷ i ∷ []) ended e = refl
block_run mode information (a ∷ b ∷ c ∷ d ∷ f ∷ g ∷ h ∷ i ∷ j ∷ more) ended e = absurd (omega arith)

-- a codeblock adds its information
codeblock_run : (mode : Mode) (information next : List ℕ) (ended : List (List ℕ)) → length next ≡ 7 → length information < 1029
    → run mode (record { place = within information []; ended = ended }) (codeblock_of next)
    ≡ record { place = within (information ++ next) []; ended = ended }
codeblock_run mode information next ended e h =
    let read : codeblock_in mode information (codeblock_of next) ≡ Some (codeblock_of next) =
    read_below mode information (codeblock_of next) h ∙ encoded_read mode next e in
    block_run mode information (codeblock_of next) ended (length-append next (error_control_of next ∷ []) ∙ ap (λ n. n + 1) e)
    ∙ ap (λ r. record {
      place = (after_block information (codeblock_of next) r).place;
      ended =
          added ended (after_block information (codeblock_of next) r).ended;
    }) read
    ∙ ap (λ l. record { place = within (information ++ l) []; ended = ended }) (take_at next (error_control_of next ∷ []) 7 e)

codeblocks_run : (mode : Mode) (n : ℕ) (information octets : List ℕ) (ended : List (List ℕ)) → 7 * n ≤ length octets
    → length information + 7 * n ≤ 1029
    → run mode (record { place = within information []; ended = ended }) (codeblocks_of n octets)
    ≡ record { place = within (information ++ take (7 * n) octets) []; ended = ended }
codeblocks_run mode zero information octets ended h k = ap (λ l. record { place = within l []; ended = ended }) (sym (append-nil information))
codeblocks_run mode (suc n) information octets ended h k =
    let seven : length (take 7 octets) ≡ 7 = length-take-le 7 octets (omega arith) in
    let size : length (information ++ take 7 octets) ≡ length information + 7 =
    length-append information (take 7 octets) ∙ ap (λ m. length information + m) seven in
    let rest : 7 * n ≤ length (drop 7 octets) = omega (arith, length-drop 7 octets) in
    let total : 7 * suc n ≡ 7 + 7 * n = omega arith in
    fold-append (came mode) (record { place = within information []; ended = ended }) (codeblock_of (take 7 octets)) (codeblocks_of n (drop 7 octets))
    ∙ ap (λ r. run mode r (codeblocks_of n (drop 7 octets))) (codeblock_run mode information (take 7 octets) ended seven (omega arith))
    ∙ codeblocks_run mode n (information ++ take 7 octets) (drop 7 octets) ended rest (omega arith)
    ∙ ap (λ l. record { place = within l []; ended = ended })
    (append_assoc information (take 7 octets) (take (7 * n) (drop 7 octets))
    ∙ ap (λ l. information ++ l) (sym (take-add 7 (7 * n) octets) ∙ ap (λ m. take m octets) (sym total)))

-- the start sequence
start_run : (mode : Mode) (begun : Bool) (ended : List (List ℕ))
    → run mode (record { place = searching begun; ended = ended }) start_sequence ≡ record { place = within [] []; ended = ended }
unfolding received
start_run mode true ended = refl
start_run mode false ended = refl

-- the tail sequence ends it
tail_run : (mode : Mode) (information : List ℕ) (ended : List (List ℕ))
    → run mode (record { place = within information []; ended = ended }) tail_sequence
    ≡ record { place = searching false; ended = ended ++ information ∷ [] }
tail_run mode information ended =
    block_run mode information tail_sequence ended refl
    ∙ ap (λ r. record {
      place = (after_block information tail_sequence r).place;
      ended =
          added ended (after_block information tail_sequence r).ended;
    }) (tail_in mode information)

-- the randomizer leaves the number of octets
pub randomized_length : (window : ℕ) (octets : List ℕ) → length (randomized_from window octets) ≡ length octets
randomized_length window [] = refl
randomized_length window (octet ∷ octets) = ap suc (randomized_length (next_octet window) octets)

turned_length : (randomizer : Bool) (frame : List ℕ) → length (turned_by randomizer frame) ≡ length frame
turned_length true frame = randomized_length 0xff frame
turned_length false frame = refl

-- what is filled up is a whole number of sevens
filled_length : (octets : List ℕ) → length octets ≤ 1024
    → (7 * (length (filled_to octets) / 7) ≡ length (filled_to octets)) × (length (filled_to octets) ≤ 1029)
filled_length octets h =
    let size : length (filled_to octets) ≡ length octets + (7 - length octets % 7) % 7 =
    length-append octets (replicate ((7 - length octets % 7) % 7) 0x55)
    ∙ ap (λ n. length octets + n) (length-replicate ((7 - length octets % 7) % 7) 0x55) in
    (omega arith, omega arith)

-- The CLTU of a frame of up to 1,024 octets, if a start sequence is looked for, gives the frame with its fill and nothing else; then the next is
-- looked for.
pub whole_found : (mode : Mode) (begun randomizer : Bool) (ended : List (List ℕ)) (frame : List ℕ) → length frame ≤ 1024
    → run mode (record { place = searching begun; ended = ended }) (cltu_of randomizer frame)
    ≡ record { place = searching false; ended = ended ++ filled_of randomizer frame ∷ [] }
whole_found mode begun randomizer ended frame h =
    let octets = filled_of randomizer frame in
    let sizes = filled_length (turned_by randomizer frame) (omega (arith, turned_length randomizer frame)) in
    let blocks = length (filled_of randomizer frame) / 7 in
    fold-append (came mode) (record { place = searching begun; ended = ended })
    (start_sequence ++ codeblocks_of (length (filled_of randomizer frame) / 7) (filled_of randomizer frame)) tail_sequence
    ∙ ap (λ r. run mode r tail_sequence)
    (fold-append (came mode) (record { place = searching begun; ended = ended }) start_sequence
    (codeblocks_of (length (filled_of randomizer frame) / 7) (filled_of randomizer frame))
    ∙ ap (λ r. run mode r (codeblocks_of (length (filled_of randomizer frame) / 7) (filled_of randomizer frame))) (start_run mode begun ended)
    ∙ codeblocks_run mode (length (filled_of randomizer frame) / 7) [] (filled_of randomizer frame) ended (omega arith) (omega arith)
    ∙ ap (λ l. record { place = within l []; ended = ended })
    (take_all (7 * (length (filled_of randomizer frame) / 7)) (filled_of randomizer frame) (omega arith)))
    ∙ tail_run mode (filled_of randomizer frame) ended
