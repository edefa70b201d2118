use Rattle.std.proofs.Common.{rules}
use Rattle.tc_front.specs.Paths.{named_by}
use Rattle.tc_front.proofs.FieldLemmas.{pairs}
use Rattle.tc_front.proofs.JudgeLemmas.{other_method, has_coding, has_body}
use Rattle.tc_front.proofs.judge.judge_parts.Goals as goal

pub returns-then-not-is : goal.returns-then-not-is
returns-then-not-is c =
    other_method _ c.args.target.now _ (pairs c.args.head.now c.args.headers.now) (named_by c.in-Some.path) c.is.result (c.in-Some.ensures.text c.requires.text) c.method_of.ensures c.is.ensures (search rules)

pub returns-in_default-find : goal.returns-in_default-find
returns-in_default-find c =
    has_coding _ c.args.target.now _ (pairs c.args.head.now c.args.headers.now) (named_by c.in-Some.path) c.is.result c.find.result (c.in-Some.ensures.text c.requires.text) c.method_of.ensures c.is.ensures (search rules) c.find.ensures c.in_default-find.not-Absent

pub returns : goal.returns
returns c =
    has_body _ c.args.target.now _ (pairs c.args.head.now c.args.headers.now) (named_by c.in-Some.path) c.is.result c.find.result c.find-lengths.result _ (c.in-Some.ensures.text c.requires.text) c.method_of.ensures c.is.ensures (search rules) c.find.ensures c.in-Absent.is
    c.find-lengths.ensures c.judge_body.ensures
