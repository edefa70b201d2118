use Rattle.tc_csv.proofs.stack_texts.commands.rest_of.Goals as goal

pub returns-in-Insert-clause-broken : goal.returns-in-Insert-clause-broken
returns-in-Insert-clause-broken c = rw c.in-Insert.is c.insert.ensures.broken

pub returns-in-Delete-clause-broken : goal.returns-in-Delete-clause-broken
returns-in-Delete-clause-broken c = rw c.in-Delete.is c.delete.ensures.broken

pub returns-in-Shift-clause-broken : goal.returns-in-Shift-clause-broken
returns-in-Shift-clause-broken c = rw c.in-Shift.is c.shift.ensures.broken
