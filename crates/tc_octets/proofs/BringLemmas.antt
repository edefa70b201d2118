-- The CLTU of a frame brings its information, in whatever pieces it comes; and the frame of a link stands at the front of that.
use Rattle.std.proofs.Common.{◌≡◌, ℕ, ◌≤◌, Bool, false, List, [], ◌∷◌, length, refl, sym, ap, subst, ◌∙◌, arith}
use Rattle.std.specs.List.{concat}
use Rattle.std.proofs.lemmas.List.Sums.{fold-append}
use Rattle.tc_octets.specs.declared.codeblocks.Mode.{Mode}
use Rattle.tc_octets.specs.declared.profiles.Profile.{Profile}
use Rattle.tc_octets.specs.Cltus.{IsFrameIn, cltu_of, filled_of, searching, turned_by}
use Rattle.tc_octets.specs.CltuRuns.{Brings, Run, came, run, run_pieces}
use Rattle.tc_octets.specs.TcFrames.{Carried, IsCarried, tc_frame_of}
use Rattle.tc_octets.proofs.CltuRunLemmas.{whole_found}
use Rattle.tc_octets.proofs.IdleLemmas.{found_after_noise}
use Rattle.tc_octets.proofs.FrameBackLemmas.{filled_back, frame_in}
use Rattle.tc_octets.proofs.CltuFrameLemmas.{frame_size, frame_small, frame_told}

-- piece by piece is all at once
pieces_are : (mode : Mode) (start : Run) (pieces : List (List ℕ)) → run_pieces mode start pieces ≡ run mode start (concat pieces)
pieces_are mode start [] = refl
pieces_are mode start (piece ∷ pieces) =
    pieces_are mode (run mode start piece) pieces ∙ sym (fold-append (came mode) start piece (concat pieces))

pub cltu_brings : (randomizer : Bool) (frame : List ℕ) → length frame ≤ 1024 → Brings (cltu_of randomizer frame) (filled_of randomizer frame)
cltu_brings randomizer frame small = record {
  whole =
      λ mode begun ended pieces e. pieces_are mode (record { place = searching begun; ended = ended }) pieces
      ∙ ap (run mode (record { place = searching begun; ended = ended })) e
      ∙ whole_found mode begun randomizer ended frame small;
  noisy =
      λ mode noise pieces e. pieces_are mode (record { place = searching false; ended = [] }) pieces
      ∙ ap (run mode (record { place = searching false; ended = [] })) e
      ∙ found_after_noise mode noise frame randomizer small;
}

-- with the randomizer undone, the frame of a link stands at the front
pub frame_there : (profile : Profile) (carried : Carried) → IsCarried profile.tc carried
    → IsFrameIn (turned_by profile.tc.randomizer (filled_of profile.tc.randomizer (tc_frame_of profile carried))) (tc_frame_of profile carried)
frame_there profile carried may =
    let small = frame_small profile carried may in
    let parts = filled_back profile.tc.randomizer (tc_frame_of profile carried) in
    let few : length parts.0 ≤ 6 = omega (arith, parts.2) in
    let least : 5 ≤ length (tc_frame_of profile carried) = omega (arith, frame_size profile carried) in
    subst (λ (l : List ℕ). IsFrameIn l (tc_frame_of profile carried)) (sym parts.1)
    (frame_in (tc_frame_of profile carried) parts.0 least (frame_told profile carried small) few)

-- the same of octets that are a frame
pub front_there : (profile : Profile) (carried : Carried) (octets : List ℕ) → IsCarried profile.tc carried → octets ≡ tc_frame_of profile carried
    → IsFrameIn (turned_by profile.tc.randomizer (filled_of profile.tc.randomizer octets)) octets
front_there profile carried octets may e =
    subst (λ (l : List ℕ). IsFrameIn (turned_by profile.tc.randomizer (filled_of profile.tc.randomizer l)) l) (sym e) (frame_there profile carried may)

pub short_there : (profile : Profile) (carried : Carried) (octets : List ℕ) → IsCarried profile.tc carried → octets ≡ tc_frame_of profile carried
    → length octets ≤ 1024
short_there profile carried octets may e = omega (arith, ap (λ (l : List ℕ). length l) e, frame_small profile carried may)
