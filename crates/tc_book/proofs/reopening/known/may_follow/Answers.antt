-- A stack is among the requests where its name is among those of the stacks.
use Rattle.std.proofs.Common.{◌∙◌, sym, ap, rules}
use Rattle.std.specs.List.{list_any}
use Rattle.tc_types.specs.Names.{is_same_name}
use Rattle.tc_book.proofs.NameLemmas.{stack_named}
use Rattle.tc_book.proofs.reopening.known.may_follow.Goals as goal

pub may_come_from-requires : goal.may_come_from-requires
may_come_from-requires c = record {
  stacks = record {
    few = search rules;
    named = λ name. stack_named name c.args.requests.now c.requires.known.good ∙ ap (list_any (λ known. is_same_name known name)) (sym c.requires.known.stacks);
  };
}
