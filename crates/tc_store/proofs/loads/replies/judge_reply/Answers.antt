use Rattle.std.proofs.Common.{rules}
use Rattle.std.specs.String.{string_bytes}
use Rattle.tc_store.specs.Ledgers.{KeptAnswer}
use Rattle.tc_store.proofs.ReplyPageLemmas.{values_of}
use Rattle.tc_store.proofs.ReplyBackLemmas.{columns_of}
use Rattle.tc_store.proofs.loads.replies.judge_reply.Goals as goal

pub returns-clause-judged : goal.returns-clause-judged
returns-clause-judged c long =
    let kept : KeptAnswer = record { person = c.in_ok-person_at.field-0; number = c.in_ok-call_at.field-0; body = string_bytes c.in_ok-kept_text_at.field-0 } in
    record {
      kept = kept;
      is = values_of c.args.row.now kept long c.in_ok-person_at.ensures.reads c.in_ok-call_at.ensures.reads c.in_ok-kept_text_at.ensures.reads;
      sound = record { person = c.in_ok-person_at.ensures.told; number = c.in_ok-call_at.ensures.told; text = c.in_ok-kept_text_at.ensures.utf8; lines = c.in_ok-kept_text_at.ensures.told };
    }

pub returns-in_err-person_at-clause-back : goal.returns-in_err-person_at-clause-back
returns-in_err-person_at-clause-back c k = search (rules, c.in_err-person_at.ensures.back k.kept.person k.sound.person (columns_of c.args.row.now k.kept k.is).0)

pub returns-in_err-call_at-clause-back : goal.returns-in_err-call_at-clause-back
returns-in_err-call_at-clause-back c k = search (rules, c.in_err-call_at.ensures.back k.kept.number k.sound.number (columns_of c.args.row.now k.kept k.is).1)

pub returns-in_err-kept_text_at-clause-back : goal.returns-in_err-kept_text_at-clause-back
returns-in_err-kept_text_at-clause-back c k = search (rules, c.in_err-kept_text_at.ensures.back k.kept.body k.sound.text k.sound.lines (columns_of c.args.row.now k.kept k.is).2)
