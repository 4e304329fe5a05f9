use Rattle.scripts.proofs.SpaceLemmas.{around_space, without_space}
use Rattle.scripts.proofs.line.cut_at_space.Goals as goal

pub returns-in-Some-clause-whole : goal.returns-in-Some-clause-whole
returns-in-Some-clause-whole c =
    (around_space c.args.text.now _ _ c.in-Some.at c.in-Some.ensures.place c.split_at.ensures.front c.split_at-in-Some.ensures.back).0

pub returns-in-Some-clause-first : goal.returns-in-Some-clause-first
returns-in-Some-clause-first c =
    (around_space c.args.text.now _ _ c.in-Some.at c.in-Some.ensures.place c.split_at.ensures.front c.split_at-in-Some.ensures.back).1

pub returns-in-None-clause-none : goal.returns-in-None-clause-none
returns-in-None-clause-none c = without_space c.args.text.now c.in-None.ensures.place
