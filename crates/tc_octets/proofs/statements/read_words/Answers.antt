use Rattle.std.proofs.Common.{sym, arith}
use Rattle.tc_octets.proofs.LineLemmas.{setting_in, bad_in, nonempty}
use Rattle.tc_octets.proofs.statements.read_words.Goals as goal

pub returns-in-Some : goal.returns-in-Some
returns-in-Some c =
    rw (c.trim.ensures, c.trim-in-Some.ensures)
    (sym (setting_in c.args.words.now c.in-Some.place (nonempty _ _ c.is_empty.ensures c.if-is_empty.false) (λ e. omega arith)
    (sym c.in-Some.ensures)))

pub returns-in-None : goal.returns-in-None
returns-in-None c =
    sym (bad_in c.args.words.now (nonempty _ _ c.is_empty.ensures c.if-is_empty.false) (λ e. omega arith) (sym c.in-None.ensures))
