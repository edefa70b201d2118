-- A codeblock that differs in one bit is looked for, bit by bit.
use Rattle.std.proofs.Common.{◌≡◌, ℕ, ◌+◌, true, false, List, Some, None, refl, ap, ◌∙◌, add-one}
use Rattle.std.proofs.lemmas.Bool.{cond-true, cond-false}
use Rattle.tc_octets.specs.Codeblocks.{is_codeblock, turned, with_one_turned}

pub turns : (place : ℕ) (block : List ℕ) → is_codeblock (turned place block) ≡ true → with_one_turned (place + 1) block ≡ Some (turned place block)
unfolding with_one_turned
turns place block e =
    ap (λ n. with_one_turned n block) (add-one place)
    ∙ cond-true (is_codeblock (turned place block)) (Some (turned place block)) (with_one_turned place block) e

pub passes : (place : ℕ) (block : List ℕ) → is_codeblock (turned place block) ≡ false
    → with_one_turned (place + 1) block ≡ with_one_turned place block
unfolding with_one_turned
passes place block e =
    ap (λ n. with_one_turned n block) (add-one place)
    ∙ cond-false (is_codeblock (turned place block)) (Some (turned place block)) (with_one_turned place block) e

pub ends : (block : List ℕ) → with_one_turned 0 block ≡ None
unfolding with_one_turned
ends block = refl

pub turned_ended_at : (place : ℕ) (block : List ℕ) → place ≡ 0 → with_one_turned place block ≡ None
turned_ended_at place block e = ap (λ n. with_one_turned n block) e ∙ ends block
