use Rattle.std.proofs.Common.{rules}
use Rattle.sqlite.specs.Held.{state}
use Rattle.tc_types.specs.Tables.{Image}
use Rattle.tc_store.specs.Shows.{ShowsRequests}
use Rattle.tc_store.specs.Steps.{blank_image}
use Rattle.tc_store.proofs.LoadLemmas.{reads_then}
use Rattle.tc_store.proofs.loads.judges.judge_of_requests.Goals as goal

pub returns-in_err-judge_moves : goal.returns-in_err-judge_moves
returns-in_err-judge_moves g c = record {
  reads = (record {
    finds = search rules;
    same = search rules;
    left = (reads_then g.S.Store c.in_ok-load_requests.ensures.reads c.judge_moves.ensures.reads).left;
  });
}

pub returns-in_err-load_tallies : goal.returns-in_err-load_tallies
returns-in_err-load_tallies g c = record {
  reads = (record {
    finds = search rules;
    same = search rules;
    left = (reads_then g.S.Store (reads_then g.S.Store c.in_ok-load_requests.ensures.reads c.in_ok-judge_moves.ensures.reads) c.load_tallies.ensures.reads).left;
  });
}

pub returns-in_err-load_approvals : goal.returns-in_err-load_approvals
returns-in_err-load_approvals g c = record {
  reads = (record {
    finds = search rules;
    same = search rules;
    left = (reads_then g.S.Store (reads_then g.S.Store (reads_then g.S.Store c.in_ok-load_requests.ensures.reads c.in_ok-judge_moves.ensures.reads) c.in_ok-load_tallies.ensures.reads) c.load_approvals.ensures.reads).left;
  });
}

pub returns-in_err-load_cargo : goal.returns-in_err-load_cargo
returns-in_err-load_cargo g c = record {
  reads = (record {
    finds = search rules;
    same = search rules;
    left = (reads_then g.S.Store (reads_then g.S.Store (reads_then g.S.Store (reads_then g.S.Store c.in_ok-load_requests.ensures.reads c.in_ok-judge_moves.ensures.reads) c.in_ok-load_tallies.ensures.reads) c.in_ok-load_approvals.ensures.reads) c.load_cargo.ensures.reads).left;
  });
}

pub returns : goal.returns
returns g c =
    let all = reads_then g.S.Store (reads_then g.S.Store (reads_then g.S.Store (reads_then g.S.Store c.in_ok-load_requests.ensures.reads c.in_ok-judge_moves.ensures.reads) c.in_ok-load_tallies.ensures.reads) c.in_ok-load_approvals.ensures.reads) c.in_ok-load_cargo.ensures.reads in
    record {
      reads = (record {
        finds = λ clean layout of has same.
            let seen = all.finds clean layout of has in
            let image : Image = record blank_image {
              requests = c.in_ok-load_requests.field-0.items;
              moves = seen.0.0.0.1.0;
              tallies = c.in_ok-load_tallies.field-0.items;
              approvals = c.in_ok-load_approvals.field-0.items;
              cargo = c.in_ok-load_cargo.field-0.items;
            } in
            let shows : ShowsRequests layout c.args.version (state g.S.Store c.args.conn.now).now image.requests image.moves image.tallies image.approvals image.cargo = record {
              requests_are = seen.0.0.0.0;
              moves_are = seen.0.0.0.1.1;
              tallies_are = seen.0.0.1;
              approvals_are = seen.0.1;
              cargo_is = seen.1 same;
            } in
            (image, shows, c.in_ok-load_requests.ensures.told);
        same = all.same;
        left = all.left;
      });
    }
