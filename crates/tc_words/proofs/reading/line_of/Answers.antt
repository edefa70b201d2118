use Rattle.std.proofs.Common.{◌≡◌, None, codes, refl, rules}
use Rattle.clap.specs.Words.{subcommand_rows_of}
use Rattle.tc_words.proofs.MomentLemmas.{zero_spelled}
use Rattle.tc_words.proofs.reading.line_of.Goals as goal

pub returns-in-None-clause-line : goal.returns-in-None-clause-line
returns-in-None-clause-line c =
    let none : subcommand_rows_of c.args.matches.now ≡ None = search rules in
    rw none (record { asks = (codes "0", 0, zero_spelled, refl); fit = search rules })
