use Rattle.std.proofs.Common.{◌≡◌, ◌∙◌, ap, arith, min, length, take}
use Rattle.std.proofs.lemmas.List.{take_min}
use Rattle.tc_front.proofs.front.head_room.Goals as goal

pub returns-clause-value : goal.returns-clause-value
returns-clause-value c =
    let least : c.min.result ≡ min 8192 (length c.args.text.now) = omega (arith, c.min.ensures) in
    ap (λ n. take n c.args.text.now) least ∙ take_min 8192 c.args.text.now
