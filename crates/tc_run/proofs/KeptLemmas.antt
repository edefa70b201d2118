-- The run of a script on a desk that is kept.
use Rattle.std.proofs.Common.{◌≡◌, ℕ, List, Result, Ok, Err, subst}
use Rattle.std.specs.Io.KnownBytes.{Appends}
use Rattle.std.specs.Prelude.{◌≢◌, IfErr, IsTrue}
use Rattle.sqlite_disk.specs.declared.Disk as disk
use Rattle.sqlite_store.specs.declared.store.FileStore.{FileStore}
use Rattle.sqlite.specs.Files.{file_state, over_files}
use Rattle.sqlite.specs.Held.{Held}
use Rattle.sqlite.specs.State.{HasCleanDisk}
use Rattle.tc_sql.specs.Builds.{no_schema}
use Rattle.tc_types.specs.Counts.{no_counts}
use Rattle.tc_types.specs.declared.history.moves.Move.{Move}
use Rattle.tc_world.specs.declared.configs.Config as configs
use Rattle.tc_store.specs.declared.versions.Version.{Version}
use Rattle.tc_store.specs.Schema.{IsSchemaOf}
use Rattle.tc_front.specs.Write.{Stream, Writes}
use Rattle.tc_room.specs.Opening.{KeepsTables, LeavesOpening}
use Rattle.tc_closed.specs.declared.scripts.ScriptFault.{ScriptFault}
use Rattle.tc_closed.specs.declared.scripts.ScriptFault.TheVariants.{Output}
use Rattle.tc_run.specs.Kept.{CutsOpening, StaysInFiles, opening_text}
use Rattle.tc_closed.specs.Scripts.{Ends, written_counts}
use Rattle.tc_run.specs.Stops.{IsCutShort}
use Rattle.tc_closed.proofs.EndsLemmas.{output_is_other}
use Rattle.tc_run.proofs.CrashLemmas.{finds_again}

-- the moves of an opening were written, or cut short where a write failed
pub opening_told : {X : Type 0} (moves : List Move) (bytes : List ℕ) (old new : Stream) (result : Result X ScriptFault) → bytes ≡ opening_text moves
    → Writes {X = X} {E = ScriptFault} bytes old new result → IfErr result (λ fault. fault ≡ Output) → (old.counts ≡ no_counts → new.counts ≡ written_counts result)
    → Ends {X = X} (λ _. Appends old.bytes new.bytes (opening_text moves)) (λ fault. (part : List ℕ) × CutsOpening fault moves part × Appends old.bytes new.bytes part) old.counts new.counts result
opening_told moves bytes old new (Ok x) are writes is counted =
    record { done = subst (Appends old.bytes new.bytes) are writes.written; stopped = tt; fault = tt; counted = counted }
opening_told moves bytes old new (Err fault) are writes is counted =
    let cut = writes.cut in
    record {
      done = tt;
      stopped = (cut.0, rw is (subst (λ (given : List ℕ). IsCutShort given cut.0) are cut.1), cut.2);
      fault = output_is_other fault is;
      counted = counted;
    }

-- what a refused opening says of the files that it hands back
pub stays_in_files : {X E D : Type 0} {h : disk.Ghosts D} (config : configs.Config) (moment : ℕ) (store : Held (FileStore D h)) (left : E → Held (FileStore D h)) (result : Result X E)
    → IfErr result (λ e. HasCleanDisk (file_state (left e)) → IsTrue (file_state (left e)).is_open → KeepsTables (file_state store).now (file_state (left e)).now)
    → IfErr result (λ e. HasCleanDisk (file_state (left e)) → LeavesOpening over_files config moment store (left e))
    → IfErr result (λ e. (file_state store).now.schema ≢ no_schema → ((version : Version) → ¬ IsSchemaOf version (file_state store).now.schema) → left e ≡ store)
    → IfErr result (λ e. StaysInFiles config moment store (left e))
stays_in_files config moment store left (Ok x) kept crash foreign = tt
stays_in_files config moment store left (Err e) kept crash foreign =
    record { stays = record { kept = kept; crash = crash; foreign = foreign }; found = λ last again. finds_again last store again }
