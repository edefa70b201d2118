use Rattle.std.proofs.lemmas.Result.{IfOk-weaker}
use Rattle.tc_run.proofs.CrashLemmas.{opens_files}
use Rattle.tc_run.proofs.KeptLemmas.{stays_in_files}
use Rattle.tc_run.proofs.files.open_files.Goals as goal

pub returns-clause-opened : goal.returns-clause-opened
returns-clause-opened g c = IfOk-weaker c.open.result _ _ (λ opened opens. opens_files _ _ _ _ _ opens) c.open.ensures.opened

pub returns-clause-stays : goal.returns-clause-stays
returns-clause-stays g c = stays_in_files _ _ _ (λ e. e.1) c.open.result c.open.ensures.kept c.open.ensures.crash c.open.ensures.foreign
