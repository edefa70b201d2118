-- One codeblock more, and the last.
use Rattle.std.proofs.Common.{◌≡◌, ◌++◌, ◌∷◌, [], ◌-◌, ◌*◌, ◌/◌, ◌+◌, ℕ, List, drop, length, take, ap, ◌∙◌, refl, arith}
use Rattle.tc_octets.specs.Codeblocks.{error_control_of}
use Rattle.tc_octets.specs.Cltus.{codeblocks_of}
use Rattle.tc_octets.proofs.CltuLemmas.{block_put, none_left}
use Rattle.tc_octets.proofs.cltus.put_codeblocks.Goals as goal

pub loop-block-preserved : goal.loop-block-preserved
loop-block-preserved g c =
    let i : ℕ = c.loop-block.block in
    let octets : List ℕ = c.args.octets.now in
    let out : List ℕ = c.loop-block.out.items in
    let information : List ℕ = take 7 (drop (7 * i) octets) in
    let check : ℕ = c.error_control.result in
    let seven : 7 * i + 7 - 7 * i ≡ 7 = omega arith in
    let added : c.extend_from_slice.new.self.items ≡ out ++ information =
    c.in_ok-extend_from_slice.ensures.items ∙ ap (λ n. out ++ take n (drop (7 * i) octets)) seven in
    let put : c.push.new.self.items ≡ (out ++ information) ++ check ∷ [] = c.in_ok-push.ensures.items ∙ ap (λ l. l ++ check ∷ []) added in
    let checked : check ≡ error_control_of information = c.error_control.ensures ∙ ap (λ n. error_control_of (take n (drop (7 * i) octets))) seven in
    let left : List ℕ = codeblocks_of (length octets / 7 - (i + 1)) (drop (7 * (i + 1)) octets) in
    let one_more : ((out ++ information) ++ check ∷ []) ++ left ≡ out ++ codeblocks_of (length octets / 7 - i) (drop (7 * i) octets) =
    block_put out octets information check (length octets / 7) i c.loop-block-test.true refl checked in
    let same : out ++ codeblocks_of (length octets / 7 - i) (drop (7 * i) octets) ≡ c.args.out.now.items
    ++ codeblocks_of (length octets / 7) octets = c.loop-block.invariant in
    let now : c.push.new.self.items ++ left ≡ ((out ++ information) ++ check ∷ []) ++ left = ap (λ l. l ++ left) put in
    now ∙ one_more ∙ same

pub returns : goal.returns
returns g c = none_left c.loop-block.out.items c.args.octets.now (length c.args.octets.now / 7) c.loop-block.block _ (omega arith)
    c.loop-block.invariant
