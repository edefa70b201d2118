use Rattle.std.proofs.Common.{arith, ap, Some, ◌∙◌}
use Rattle.std.specs.Int.{from_bool}
use Rattle.tc_farm.specs.declared.clcws.Clcw.{Clcw}
use Rattle.tc_farm.proofs.WordLemmas.{read_back, split, same_clcw, from_bool_le, from_bool_same}
use Rattle.tc_farm.proofs.clcws.Clcw.read.Goals as goal

pub returns-clause-back : goal.returns-clause-back
returns-clause-back c =
    read_back c.args.word _ _ _ _ _ _ (omega arith) (omega arith) (omega arith) (omega arith) (omega arith)
    c.flag.ensures c.flag-2.ensures c.flag-3.ensures c.bits-2.ensures c.bits-3.ensures

pub returns-clause-again : goal.returns-clause-again
returns-clause-again c =
    λ word small written same_channel.
    let parts =
    split c.args.word word.vc (from_bool word.lockout) (from_bool word.wait) (from_bool word.retransmit) word.farm_b word.report
    word.vc_fits (from_bool_le _) (from_bool_le _) (from_bool_le _) word.farm_b_fits small written in
    ap (λ (w : Clcw). Some w)
    (same_clcw _ word same_channel (from_bool_same _ _ (c.flag.ensures ∙ parts.lockout))
    (from_bool_same _ _ (c.flag-2.ensures ∙ parts.wait)) (from_bool_same _ _ (c.flag-3.ensures ∙ parts.retransmit))
    (c.bits-2.ensures ∙ parts.farm_b) (c.bits-3.ensures ∙ parts.report))
