use Rattle.std.proofs.Common.{◌≤◌, ◌<◌, arith, length}
use Rattle.std.proofs.lemmas.Bool.{leb-true, leb-false}
use Rattle.tc_front.proofs.WantedLemmas.{waits_now, waits_wanted, wanted_enough, wanted_most, watches_wanted}
use Rattle.tc_front.proofs.watch.Watch.decides.Goals as goal

pub returns-then-text-self-clause-no : goal.returns-then-text-self-clause-no
returns-then-text-self-clause-no c = λ _. waits_now c.args.self.now c.args.text.now c.requires c.if-text-self.true

pub returns-clause-yes : goal.returns-clause-yes
returns-clause-yes c = λ is. wanted_enough c.args.text.now c.wanted-self.result c.wanted-self.ensures.wanted (leb-true _ _ is)

pub returns-clause-no : goal.returns-clause-no
returns-clause-no c = λ is. waits_wanted c.args.text.now c.wanted-self.result c.wanted-self.ensures.wanted (leb-false _ _ is)

pub returns-then-text-self-clause-short : goal.returns-then-text-self-clause-short
returns-then-text-self-clause-short c = λ _. omega (arith, c.requires.most, c.if-text-self.true)

pub returns-clause-short : goal.returns-clause-short
returns-clause-short c = λ is.
    let few : length c.args.text.now < c.wanted-self.result = leb-false _ _ is in
    let most : c.wanted-self.result ≤ 73728 = wanted_most c.args.text.now c.wanted-self.result c.wanted-self.ensures.wanted in
    omega arith

pub returns-clause-watches : goal.returns-clause-watches
returns-clause-watches c =
    watches_wanted (record { search = c.wanted-self.new.search; wanted = c.wanted-self.result }) c.args.text.now c.wanted-self.ensures.searched c.wanted-self.ensures.wanted
