use Rattle.std.proofs.lemmas.Result.{IfOk-weaker}
use Rattle.tc_csv.proofs.ProcedureFaultLemmas.{faults_first, faults_once}
use Rattle.tc_csv.proofs.procedure_texts.judging.procedure_faults.Goals as goal

pub returns-clause-only : goal.returns-clause-only
returns-clause-only c = λ faults are. IfOk-weaker c.all_faults.result _ _ (λ v is. faults_once c.args.text.now v.items faults is are) c.all_faults.ensures

pub returns-clause-first : goal.returns-clause-first
returns-clause-first c = IfOk-weaker c.all_faults.result _ _ (λ v is. faults_first c.args.text.now v.items is) c.all_faults.ensures
