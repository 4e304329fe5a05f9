use Rattle.release_view.proofs.SameViewLemmas.{same_views, same_texts}
use Rattle.release_view.proofs.law.same_tables_view_alike.Goals as goal

pub returns-clause-views : goal.returns-clause-views
returns-clause-views c = same_views c.args.history.now c.args.other.now c.args.e c.requires.same c.requires.of_first c.requires.of_second

pub returns-clause-texts : goal.returns-clause-texts
returns-clause-texts c = same_texts c.args.history.now c.args.other.now c.args.e c.requires.same c.requires.of_first c.requires.of_second
