-- The lines of CLTUs, which were added octet by octet.
use Rattle.std.proofs.Common.{◌≡◌, ℕ, zero, suc, ◌+◌, ◌<◌, ◌≤◌, false, List, [], ◌∷◌, ◌++◌, length, drop, refl, sym, ap, ◌∙◌, subst, arith}
use Rattle.std.specs.Prelude.{slice_index}
use Rattle.std.proofs.lemmas.List.{append_assoc, append-nil}
use Rattle.tc_octets.specs.Cltus.{Place as Spot, received, searching}
use Rattle.tc_octets.specs.declared.profiles.Profile.{Profile}
use Rattle.tc_decoded.specs.declared.lines.Line.{Line}
use Rattle.tc_decoded.specs.Added.{Added}
use Rattle.tc_decoded.specs.CltuLines.{EndedTold, StreamTold, mode_of}
use Rattle.tc_decoded.proofs.AddedLemmas.{two}

-- What was told of the octets so far, after which a receiver is at a spot. What is told of the others makes it whole.
pub record Streamed (profile : Profile) (octets : List ℕ) (spot : Spot) (at : ℕ) (before now : List Line) : Type 0 where
  pub done : List Line
  pub after : now ≡ before ++ done
  pub joins : (rest : List Line) → StreamTold profile octets at spot (drop at octets) rest
      → StreamTold profile octets 0 (searching false) octets (done ++ rest)

drop_is : (xs : List ℕ) (k : ℕ) → k < length xs → drop k xs ≡ slice_index xs k ∷ drop (k + 1) xs
drop_is [] k within = absurd (omega (arith, within))
drop_is (x ∷ xs) zero within = refl
drop_is (x ∷ xs) (suc k) within =
    let e : suc k + 1 ≡ suc (k + 1) = omega arith in
    drop_is xs k (omega (arith, within)) ∙ ap (λ (n : ℕ). slice_index xs k ∷ drop n (x ∷ xs)) (sym e)

drop_all : (xs : List ℕ) (k : ℕ) → length xs ≤ k → drop k xs ≡ []
drop_all [] zero all = refl
drop_all [] (suc k) all = refl
drop_all (x ∷ xs) zero all = absurd (omega (arith, all))
drop_all (x ∷ xs) (suc k) all = drop_all xs k (omega (arith, all))

pub stream_goes_on : (profile : Profile) (octets : List ℕ) (spot next : Spot) (at octet : ℕ) (before middle after : List Line) → at < length octets
    → octet ≡ slice_index octets at → next ≡ (received (mode_of profile) spot octet).place → Streamed profile octets spot at before middle
    → Added (EndedTold profile octets (at + 1) (received (mode_of profile) spot octet).ended) middle after
    → Streamed profile octets next (at + 1) before after
stream_goes_on profile octets spot next at octet before middle after within o n so_far one =
    let place_is : next ≡ (received (mode_of profile) spot (slice_index octets at)).place =
    n ∙ ap (λ (k : ℕ). (received (mode_of profile) spot k).place) o in
    let ends : EndedTold profile octets (at + 1) (received (mode_of profile) spot (slice_index octets at)).ended one.lines =
    subst (λ (k : ℕ). EndedTold profile octets (at + 1) (received (mode_of profile) spot k).ended one.lines) o one.holds in
    record {
      done = so_far.done ++ one.lines;
      after = two before middle after so_far.done one.lines so_far.after one.after;
      joins =
          λ rest said. subst (StreamTold profile octets 0 (searching false) octets) (sym (append_assoc so_far.done one.lines rest))
          (so_far.joins (one.lines ++ rest)
          (subst (λ (l : List ℕ). StreamTold profile octets at spot l (one.lines ++ rest)) (sym (drop_is octets at within)) (
            one.lines,
            rest,
            ends,
            subst (λ (s : Spot). StreamTold profile octets (at + 1) s (drop (at + 1) octets) rest) place_is said,
            refl,
          )));
    }

pub stream_ends : (profile : Profile) (octets : List ℕ) (spot : Spot) (at : ℕ) (before after : List Line) → length octets ≤ at
    → Streamed profile octets spot at before after → Added (StreamTold profile octets 0 (searching false) octets) before after
stream_ends profile octets spot at before after all so_far =
    record {
      lines = so_far.done ++ [];
      after = so_far.after ∙ ap (λ (l : List Line). before ++ l) (sym (append-nil so_far.done));
      holds =
          so_far.joins []
          (subst (λ (l : List ℕ). StreamTold profile octets at spot l []) (sym (drop_all octets at all)) refl);
    }
