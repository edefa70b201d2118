-- What the opening writes is written over the tables that were left.
use Rattle.std.proofs.Common.{◌≡◌, ◌∙◌, Err, ap, sym, arith}
use Rattle.tc_types.specs.Tables.{applied}
use Rattle.tc_types.specs.Images.{rows_in}
use Rattle.tc_proc.specs.declared.faults.ReopenFault.TheVariants.{Memory, Unsound}
use Rattle.tc_book.specs.Tables.{image_of}
use Rattle.tc_book.proofs.SoundLemmas.{told_image}
use Rattle.tc_book.proofs.openings.open.Goals as goal

pub returns-clause-batch : goal.returns-clause-batch
returns-clause-batch g c =
    ap (applied c.in_ok-draft.draft.batch.items) (sym (told_image (rows_in c.args.image.now) c.in_ok-records.ensures.judged.sound) ∙ ap image_of (sym c.in_ok-records.ensures.book)) ∙ c.in_ok-draft.ensures.batch

-- want of memory says nothing of the tables
pub returns-in_err-draft-clause-judged : goal.returns-in_err-draft-clause-judged
returns-in_err-draft-clause-judged g c =
    let gone : c.from_residual-in_err-draft.result ≡ Err Memory = grind arith in
    rw gone (record { sound = tt; unsound = λ is. absurd (let e : Memory ≡ Unsound = is in cc) })
