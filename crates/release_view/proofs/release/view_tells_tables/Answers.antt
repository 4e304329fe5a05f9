use Rattle.release_view.specs.Known.{tables_at}
use Rattle.release_view.proofs.LookupLemmas.{tells}
use Rattle.release_view.proofs.release.view_tells_tables.Goals as goal

pub returns : goal.returns
returns c = λ history e on_names is. tells (tables_at history e c.args.view.now.gates) on_names c.args.view.now is.of_versions is.viewable.lives
