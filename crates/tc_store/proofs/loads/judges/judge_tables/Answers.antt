use Rattle.std.proofs.Common.{rules}
use Rattle.std.proofs.Common.{refl}
use Rattle.sqlite.specs.Held.{state}
use Rattle.tc_store.proofs.ReadLemmas.{if_ok}
use Rattle.tc_store.proofs.LoadLemmas.{reads_then, joined}
use Rattle.tc_store.proofs.loads.judges.judge_tables.Goals as goal

pub returns-in_err-judge_of_requests : goal.returns-in_err-judge_of_requests
returns-in_err-judge_of_requests g c = record {
  reads = (record {
    finds = search rules;
    same = search rules;
    left = (reads_then g.S.Store c.in_ok-check_version.ensures.reads c.judge_of_requests.ensures.reads).left;
  });
}

pub returns-in_err-judge_of_stacks : goal.returns-in_err-judge_of_stacks
returns-in_err-judge_of_stacks g c = record {
  reads = (record {
    finds = search rules;
    same = search rules;
    left = (reads_then g.S.Store (reads_then g.S.Store c.in_ok-check_version.ensures.reads c.in_ok-judge_of_requests.ensures.reads) c.judge_of_stacks.ensures.reads).left;
  });
}

pub returns-in_err-judge_of_procedures : goal.returns-in_err-judge_of_procedures
returns-in_err-judge_of_procedures g c = record {
  reads = (record {
    finds = search rules;
    same = search rules;
    left = (reads_then g.S.Store (reads_then g.S.Store (reads_then g.S.Store c.in_ok-check_version.ensures.reads c.in_ok-judge_of_requests.ensures.reads) c.in_ok-judge_of_stacks.ensures.reads) c.judge_of_procedures.ensures.reads).left;
  });
}

pub returns : goal.returns
returns g c =
    let all = reads_then g.S.Store (reads_then g.S.Store (reads_then g.S.Store (reads_then g.S.Store c.in_ok-check_version.ensures.reads c.in_ok-judge_of_requests.ensures.reads) c.in_ok-judge_of_stacks.ensures.reads) c.in_ok-judge_of_procedures.ensures.reads) c.judge_replies.ensures.reads in
    record {
      reads = (record {
        finds = λ clean. if_ok c.judge_replies.result _ _ (all.finds clean) (λ last shows layout has.
            let seen = shows layout c.args.version has in joined layout c.args.version (state g.S.Store c.args.conn.now).now seen.0.0.0.0 (seen.0.0.0.1 refl) seen.0.0.1 seen.0.1 (seen.1 refl));
        same = all.same;
        left = all.left;
      });
    }
