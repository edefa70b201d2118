-- The lines of a reply.
use Rattle.std.proofs.Common.{◌≡◌, ◌∙◌, ◌-◌, ◌==◌, ap, refl, ℕ, Bool, true, false, not, List, [], ◌∷◌, ◌++◌, length, append_assoc, arith, IsTrue}
use Rattle.std.specs.List.{All, list_all, slice_split}
use Rattle.std.proofs.Math.Seq.{take-append_seam}
use Rattle.std.proofs.lemmas.Bool.{and_parts}
use Rattle.std.proofs.lemmas.List.{length-append}
use Rattle.std.proofs.lemmas.List.Elements.{All-cons, All-nil}
use Rattle.std.proofs.lemmas.List.Splits.{slice_split_at}
use Rattle.tc_types.specs.Words.{is_one_line}
use Rattle.tc_room.specs.Replies.{AreLines, ended}
use Rattle.tc_api.specs.Responses.{text_lines}

is_other : (b : Bool) → not b ≡ true → b ≡ false
is_other false h = refl
is_other true h = cc

-- no byte of a line is an LF
no_end : (line : List ℕ) → IsTrue (is_one_line line) → All (λ byte. (byte == 10) ≡ false) line
no_end [] one = All-nil (λ byte. (byte == 10) ≡ false)
no_end (byte ∷ line) one =
    let parts = and_parts (not (byte == 10)) (is_one_line line) one in
    All-cons (λ byte. (byte == 10) ≡ false) byte line (is_other (byte == 10) parts.0) (no_end line parts.1)

-- what is split is the lines, and nothing behind the last
split_ended : (lines : List (List ℕ)) → AreLines lines → slice_split (λ byte. byte == 10) (ended lines) ≡ lines ++ [] ∷ []
split_ended [] are = refl
split_ended (line ∷ lines) are =
    let parts = and_parts (is_one_line line) (list_all is_one_line lines) are in
    ap (slice_split (λ byte. byte == 10)) (append_assoc line (10 ∷ []) (ended lines))
    ∙ (slice_split_at (λ byte. byte == 10) line 10 (ended lines) (no_end line parts.0) refl ∙ ap (λ more. line ∷ more) (split_ended lines parts.1))

pub lines_come_back : (lines : List (List ℕ)) → AreLines lines → text_lines (ended lines) ≡ lines
lines_come_back lines are =
    let parts = split_ended lines are in
    let counted : length (lines ++ [] ∷ []) - 1 ≡ length lines = omega (arith, length-append lines ([] ∷ [])) in
    rw (parts, counted) (take-append_seam lines ([] ∷ []))
