use Rattle.std.proofs.Common.{arith, refl, subst, sym}
use Rattle.sqlite.specs.Held.{state}
use Rattle.sqlite.specs.State.{HasCleanDisk}
use Rattle.tc_types.specs.Tables.{Image}
use Rattle.tc_types.specs.Images.{rows_in}
use Rattle.tc_book.specs.Sound.{IsSound}
use Rattle.tc_world.specs.Config.{IsConfig}
use Rattle.tc_store.specs.Ledgers.{Ledger, with_image}
use Rattle.tc_store.specs.Schema.{HoldsAs}
use Rattle.tc_room.specs.Crash.{HasRows}
use Rattle.tc_room.proofs.OpeningLemmas.{left_read, shows_desk, why_unopened}
use Rattle.tc_room.proofs.RoomLemmas.{kept_book}
use Rattle.tc_room.proofs.TableLemmas.{leaves_more, leaves_none, leaves_over, written}
use Rattle.tc_room.proofs.opening.open_left.Goals as goal

pub returns-in-Ok-write_rows-clause-left : goal.returns-in-Ok-write_rows-clause-left
returns-in-Ok-write_rows-clause-left g c = rw c.over.ensures (λ clean ledger told held.
    let before : HasCleanDisk (state g.S.Store c.load.new.self) = omega (arith, clean, c.write_rows.ensures.crash.clean) in
    let made = c.in-Ok-reopen_desk.ensures in
    let left = left_read c.args.config c.args.moment (rows_in c.in-Ok.image) ledger.image c.in-Ok-reopen_desk.left.desk.parts c.in-Ok-reopen_desk.left.done.moves.items c.in-Ok-reopen_desk.left.done.batch.items (c.in-Ok.ensures.image before c.args.version ledger told held) (record { sound = made.choice.sound; reopened = made.desk; made = made.made.moves; writes = made.made.batch }) in
    let holds : HoldsAs c.args.version (state g.S.Store c.load.new.self).now ledger = c.in-Ok.ensures.reads.same before c.args.version ledger held in
    record {
      sound = left.sound;
      kept = c.in-Ok.ensures.replies before ledger held;
      reopened = left.reopened;
      opened = made.opened;
      whole = made.whole;
      made = left.made;
      tables = written g.S.Store c.load.new.self c.write_rows.new.tables ledger c.args.version c.in-Ok-reopen_desk.left.done.batch.items _ left.writes c.write_rows.ensures.crash clean (λ _. holds) (rw c.deref.ensures.value at (c.in-Ok-write_rows.ensures.written clean)) (c.in-Ok-write_rows.ensures.durable clean);
      going = refl;
    })

pub returns-clause-crash : goal.returns-clause-crash
returns-clause-crash g c = rw c.into_connection-in-Err-write_rows.ensures (λ clean ledger held.
    let before : HasCleanDisk (state g.S.Store c.load.new.self) = omega (arith, clean, c.write_rows.ensures.crash.clean) in
    leaves_over g.S.Store c.args.tables c.load.new.self c.write_rows.new.tables {Commits = λ trees. (l : Ledger) → HoldsAs c.args.version (state g.S.Store c.load.new.self).now l → HasRows trees (with_image c.in-Ok-reopen_desk.left.done.batch.items l)} (leaves_none g.S.Store c.args.tables c.load.new.self (c.load.ensures.reads.crash c.args.version ledger held) before) (rw c.deref.ensures.value at c.write_rows.ensures.crash) clean
    (λ trees rows_are told.
    let made = c.in-Ok-reopen_desk.ensures in
    let left = left_read c.args.config c.args.moment (rows_in c.in-Ok.image) ledger.image c.in-Ok-reopen_desk.left.desk.parts c.in-Ok-reopen_desk.left.done.moves.items c.in-Ok-reopen_desk.left.done.batch.items (c.in-Ok.ensures.image before c.args.version ledger told held) (record { sound = made.choice.sound; reopened = made.desk; made = made.made.moves; writes = made.made.batch }) in
    let holds : HoldsAs c.args.version (state g.S.Store c.load.new.self).now ledger = c.in-Ok.ensures.reads.same before c.args.version ledger held in
    (left.sound, c.in-Ok.ensures.replies before ledger held, _, left.reopened, kept_book _ made.made.good, subst (λ (rows : Image). HasRows trees (record { image = rows; replies = ledger.replies })) left.writes (rows_are ledger holds))))

pub returns-in-Err-clause-crash : goal.returns-in-Err-clause-crash
returns-in-Err-clause-crash g c = rw c.into_connection.ensures (λ clean ledger held. leaves_more g.S.Store c.args.tables c.load.new.self _ (c.load.ensures.reads.crash c.args.version ledger held) clean)

pub returns-in-Err-reopen_desk-clause-crash : goal.returns-in-Err-reopen_desk-clause-crash
returns-in-Err-reopen_desk-clause-crash g c = rw c.into_connection-in-Err-reopen_desk.ensures (λ clean ledger held. leaves_more g.S.Store c.args.tables c.load.new.self _ (c.load.ensures.reads.crash c.args.version ledger held) clean)

pub returns-in-Err-reopen_desk-clause-kind : goal.returns-in-Err-reopen_desk-clause-kind
returns-in-Err-reopen_desk-clause-kind g c = why_unopened (IsConfig c.args.config) (IsSound (rows_in c.in-Ok.image)) c.in-Err-reopen_desk.refusal c.in-Err-reopen_desk.ensures.choice.refused c.requires.fit

pub returns-clause-kept : goal.returns-clause-kept
returns-clause-kept g c = rw c.into_connection-in-Err-write_rows.ensures (λ clean is_open of ledger held.
    let before : HasCleanDisk (state g.S.Store c.load.new.self) = omega (arith, clean, c.write_rows.ensures.crash.clean) in
    subst (λ now. HoldsAs of now ledger) (sym (c.in-Err-write_rows.ensures.kept clean is_open)) (c.in-Ok.ensures.reads.same before of ledger held))

pub returns-in-Err-reopen_desk-clause-memory : goal.returns-in-Err-reopen_desk-clause-memory
returns-in-Err-reopen_desk-clause-memory g c = rw c.into_connection-in-Err-reopen_desk.ensures (λ memory clean ours. shows_desk c.args.version _ (rows_in c.in-Ok.image) c.in-Ok.ensures.told ours (c.in-Ok.ensures.shown clean))

pub returns-in-Ok-write_rows-clause-shown : goal.returns-in-Ok-write_rows-clause-shown
returns-in-Ok-write_rows-clause-shown g c = rw c.over.ensures (λ clean ours.
    let before : HasCleanDisk (state g.S.Store c.load.new.self) = omega (arith, clean, c.write_rows.ensures.crash.clean) in
    shows_desk c.args.version _ (rows_in c.in-Ok.image) c.in-Ok.ensures.told ours (c.in-Ok.ensures.shown before))
