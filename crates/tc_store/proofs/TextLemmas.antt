-- What the texts that read all rows of a table show.
use Rattle.std.proofs.Common.{◌≡◌, List, [], map, refl}
use Rattle.sqlite_value.specs.Order.{Row}
use Rattle.sqlite_tied.specs.Compute.{everything}
use Rattle.sqlite.specs.Listing.{understood}
use Rattle.sqlite.specs.State.{State, Shown}
use Rattle.tc_store.specs.declared.versions.Version.TheVariants.{First, Second, Third}
use Rattle.tc_store.specs.declared.versions.Layout.TheVariants.{Made, Copied}
use Rattle.tc_store.specs.declared.versions.Layout.{Layout}
use Rattle.tc_store.specs.declared.versions.Version.{Version}
use Rattle.tc_store.specs.Ledgers.{Ledger}
use Rattle.tc_sql.specs.Lists.{ListsFrom, no_limit}
use Rattle.tc_store.specs.Meta.{meta_tree}
use Rattle.tc_store.specs.Requests.{request_tree, request_row, request_given}
use Rattle.tc_store.specs.Tallies.{tally_tree, tally_row, tally_given}
use Rattle.tc_store.specs.Executions.{execution_tree, execution_row, execution_given}
use Rattle.tc_store.specs.Approvals.{approval_tree, approval_values}
use Rattle.tc_store.specs.Stacks.{stack_tree, stack_values}
use Rattle.tc_store.specs.StackApprovals.{stack_approval_tree, stack_approval_values}
use Rattle.tc_store.specs.Procedures.{procedure_tree, procedure_values}
use Rattle.tc_store.specs.ProcedureSteps.{step_tree, step_values}
use Rattle.tc_store.specs.Records.{record_tree, record_values}
use Rattle.tc_store.specs.Loads.{all_request_text, all_request_columns, all_tally_text, all_tally_columns, all_execution_text, all_execution_columns, all_approval_text, all_approval_columns, all_stack_text, all_stack_columns, all_stack_approval_text, all_stack_approval_columns, all_procedure_text, all_procedure_columns, all_step_text, all_step_columns, all_record_text, all_record_columns, all_version_text, all_version_columns}
use Rattle.tc_store.specs.Schema.{schema_of, HoldsAs}
use Rattle.tc_store.proofs.LayoutLemmas.{in_each}
use Rattle.tc_store.proofs.LoadLemmas.{rows_keyed, rows_numbered}

pub all_request_is : (layout : Layout) (version : Version) → ListsFrom (schema_of layout version) request_tree all_request_text [] all_request_columns no_limit
unfolding understood everything
all_request_is Made version = record { names = _; command = refl; plain = (refl, refl); unlisted = refl }
all_request_is (Copied First) version = record { names = _; command = refl; plain = (refl, refl); unlisted = refl }
all_request_is (Copied Second) version = record { names = _; command = refl; plain = (refl, refl); unlisted = refl }
all_request_is (Copied Third) version = record { names = _; command = refl; plain = (refl, refl); unlisted = refl }

pub all_request_shown : (version : Version) (ledger : Ledger) (old new : State) (rows : List Row) → HoldsAs version old.now ledger → Shown all_request_text [] old new rows → rows ≡ map request_given ledger.image.requests
all_request_shown version ledger old new rows held h = rows_keyed (λ _. request_tree) all_request_columns request_row request_given all_request_text all_request_is ledger.image.requests version ledger old new rows (in_each _ refl refl refl refl) (in_each _ refl refl refl refl) (λ x. refl) held h

pub all_tally_is : (layout : Layout) (version : Version) → ListsFrom (schema_of layout version) (tally_tree layout) all_tally_text [] all_tally_columns no_limit
unfolding understood everything
all_tally_is Made version = record { names = _; command = refl; plain = (refl, refl); unlisted = refl }
all_tally_is (Copied First) version = record { names = _; command = refl; plain = (refl, refl); unlisted = refl }
all_tally_is (Copied Second) version = record { names = _; command = refl; plain = (refl, refl); unlisted = refl }
all_tally_is (Copied Third) version = record { names = _; command = refl; plain = (refl, refl); unlisted = refl }

pub all_tally_shown : (version : Version) (ledger : Ledger) (old new : State) (rows : List Row) → HoldsAs version old.now ledger → Shown all_tally_text [] old new rows → rows ≡ map tally_given ledger.image.tallies
all_tally_shown version ledger old new rows held h = rows_keyed tally_tree all_tally_columns tally_row tally_given all_tally_text all_tally_is ledger.image.tallies version ledger old new rows (in_each _ refl refl refl refl) (in_each _ refl refl refl refl) (λ x. refl) held h

pub all_execution_is : (layout : Layout) (version : Version) → ListsFrom (schema_of layout version) (execution_tree layout) all_execution_text [] all_execution_columns no_limit
unfolding understood everything
all_execution_is Made version = record { names = _; command = refl; plain = (refl, refl); unlisted = refl }
all_execution_is (Copied First) version = record { names = _; command = refl; plain = (refl, refl); unlisted = refl }
all_execution_is (Copied Second) version = record { names = _; command = refl; plain = (refl, refl); unlisted = refl }
all_execution_is (Copied Third) version = record { names = _; command = refl; plain = (refl, refl); unlisted = refl }

pub all_execution_shown : (version : Version) (ledger : Ledger) (old new : State) (rows : List Row) → HoldsAs version old.now ledger → Shown all_execution_text [] old new rows → rows ≡ map execution_given ledger.image.executions
all_execution_shown version ledger old new rows held h = rows_keyed execution_tree all_execution_columns execution_row execution_given all_execution_text all_execution_is ledger.image.executions version ledger old new rows (in_each _ refl refl refl refl) (in_each _ refl refl refl refl) (λ x. refl) held h

pub all_approval_is : (layout : Layout) (version : Version) → ListsFrom (schema_of layout version) (approval_tree layout) all_approval_text [] all_approval_columns no_limit
unfolding understood everything
all_approval_is Made version = record { names = _; command = refl; plain = (refl, refl); unlisted = refl }
all_approval_is (Copied First) version = record { names = _; command = refl; plain = (refl, refl); unlisted = refl }
all_approval_is (Copied Second) version = record { names = _; command = refl; plain = (refl, refl); unlisted = refl }
all_approval_is (Copied Third) version = record { names = _; command = refl; plain = (refl, refl); unlisted = refl }

pub all_approval_shown : (version : Version) (ledger : Ledger) (old new : State) (rows : List Row) → HoldsAs version old.now ledger → Shown all_approval_text [] old new rows → rows ≡ map approval_values ledger.image.approvals
all_approval_shown version ledger old new rows held h = rows_numbered approval_tree all_approval_columns approval_values all_approval_text all_approval_is ledger.image.approvals version ledger old new rows (in_each _ refl refl refl refl) (in_each _ refl refl refl refl) (λ n x. refl) held h

pub all_stack_is : (layout : Layout) (version : Version) → ListsFrom (schema_of layout version) (stack_tree layout) all_stack_text [] all_stack_columns no_limit
unfolding understood everything
all_stack_is Made version = record { names = _; command = refl; plain = (refl, refl); unlisted = refl }
all_stack_is (Copied First) version = record { names = _; command = refl; plain = (refl, refl); unlisted = refl }
all_stack_is (Copied Second) version = record { names = _; command = refl; plain = (refl, refl); unlisted = refl }
all_stack_is (Copied Third) version = record { names = _; command = refl; plain = (refl, refl); unlisted = refl }

pub all_stack_shown : (version : Version) (ledger : Ledger) (old new : State) (rows : List Row) → HoldsAs version old.now ledger → Shown all_stack_text [] old new rows → rows ≡ map stack_values ledger.image.stacks
all_stack_shown version ledger old new rows held h = rows_numbered stack_tree all_stack_columns stack_values all_stack_text all_stack_is ledger.image.stacks version ledger old new rows (in_each _ refl refl refl refl) (in_each _ refl refl refl refl) (λ n x. refl) held h

pub all_stack_approval_is : (layout : Layout) (version : Version) → ListsFrom (schema_of layout version) (stack_approval_tree layout) all_stack_approval_text [] all_stack_approval_columns no_limit
unfolding understood everything
all_stack_approval_is Made version = record { names = _; command = refl; plain = (refl, refl); unlisted = refl }
all_stack_approval_is (Copied First) version = record { names = _; command = refl; plain = (refl, refl); unlisted = refl }
all_stack_approval_is (Copied Second) version = record { names = _; command = refl; plain = (refl, refl); unlisted = refl }
all_stack_approval_is (Copied Third) version = record { names = _; command = refl; plain = (refl, refl); unlisted = refl }

pub all_stack_approval_shown : (version : Version) (ledger : Ledger) (old new : State) (rows : List Row) → HoldsAs version old.now ledger → Shown all_stack_approval_text [] old new rows → rows ≡ map stack_approval_values ledger.image.stack_approvals
all_stack_approval_shown version ledger old new rows held h = rows_numbered stack_approval_tree all_stack_approval_columns stack_approval_values all_stack_approval_text all_stack_approval_is ledger.image.stack_approvals version ledger old new rows (in_each _ refl refl refl refl) (in_each _ refl refl refl refl) (λ n x. refl) held h

pub all_procedure_is : (layout : Layout) (version : Version) → ListsFrom (schema_of layout version) (procedure_tree layout) all_procedure_text [] all_procedure_columns no_limit
unfolding understood everything
all_procedure_is Made version = record { names = _; command = refl; plain = (refl, refl); unlisted = refl }
all_procedure_is (Copied First) version = record { names = _; command = refl; plain = (refl, refl); unlisted = refl }
all_procedure_is (Copied Second) version = record { names = _; command = refl; plain = (refl, refl); unlisted = refl }
all_procedure_is (Copied Third) version = record { names = _; command = refl; plain = (refl, refl); unlisted = refl }

pub all_procedure_shown : (version : Version) (ledger : Ledger) (old new : State) (rows : List Row) → HoldsAs version old.now ledger → Shown all_procedure_text [] old new rows → rows ≡ map procedure_values ledger.image.procedures
all_procedure_shown version ledger old new rows held h = rows_numbered procedure_tree all_procedure_columns procedure_values all_procedure_text all_procedure_is ledger.image.procedures version ledger old new rows (in_each _ refl refl refl refl) (in_each _ refl refl refl refl) (λ n x. refl) held h

pub all_step_is : (layout : Layout) (version : Version) → ListsFrom (schema_of layout version) (step_tree layout) all_step_text [] all_step_columns no_limit
unfolding understood everything
all_step_is Made version = record { names = _; command = refl; plain = (refl, refl); unlisted = refl }
all_step_is (Copied First) version = record { names = _; command = refl; plain = (refl, refl); unlisted = refl }
all_step_is (Copied Second) version = record { names = _; command = refl; plain = (refl, refl); unlisted = refl }
all_step_is (Copied Third) version = record { names = _; command = refl; plain = (refl, refl); unlisted = refl }

pub all_step_shown : (version : Version) (ledger : Ledger) (old new : State) (rows : List Row) → HoldsAs version old.now ledger → Shown all_step_text [] old new rows → rows ≡ map step_values ledger.image.steps
all_step_shown version ledger old new rows held h = rows_numbered step_tree all_step_columns step_values all_step_text all_step_is ledger.image.steps version ledger old new rows (in_each _ refl refl refl refl) (in_each _ refl refl refl refl) (λ n x. refl) held h

pub all_record_is : (layout : Layout) (version : Version) → ListsFrom (schema_of layout version) (record_tree layout) all_record_text [] all_record_columns no_limit
unfolding understood everything
all_record_is Made version = record { names = _; command = refl; plain = (refl, refl); unlisted = refl }
all_record_is (Copied First) version = record { names = _; command = refl; plain = (refl, refl); unlisted = refl }
all_record_is (Copied Second) version = record { names = _; command = refl; plain = (refl, refl); unlisted = refl }
all_record_is (Copied Third) version = record { names = _; command = refl; plain = (refl, refl); unlisted = refl }

pub all_record_shown : (version : Version) (ledger : Ledger) (old new : State) (rows : List Row) → HoldsAs version old.now ledger → Shown all_record_text [] old new rows → rows ≡ map record_values ledger.image.records
all_record_shown version ledger old new rows held h = rows_numbered record_tree all_record_columns record_values all_record_text all_record_is ledger.image.records version ledger old new rows (in_each _ refl refl refl refl) (in_each _ refl refl refl refl) (λ n x. refl) held h

pub all_version_is : (layout : Layout) (version : Version) → ListsFrom (schema_of layout version) meta_tree all_version_text [] all_version_columns no_limit
unfolding understood everything
all_version_is Made version = record { names = _; command = refl; plain = (refl, refl); unlisted = refl }
all_version_is (Copied First) version = record { names = _; command = refl; plain = (refl, refl); unlisted = refl }
all_version_is (Copied Second) version = record { names = _; command = refl; plain = (refl, refl); unlisted = refl }
all_version_is (Copied Third) version = record { names = _; command = refl; plain = (refl, refl); unlisted = refl }
