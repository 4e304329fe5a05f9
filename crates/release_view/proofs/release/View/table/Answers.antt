use Rattle.std.proofs.Common.{sym, ◌∙◌, ap}
use Rattle.std.specs.Prelude.{find}
use Rattle.lifecycle.specs.Entry.{named}
use Rattle.release_view.specs.Views.{has_name}
use Rattle.release_view.proofs.LookupLemmas.{there_version}
use Rattle.release_view.proofs.SpellingLemmas.{lawful_found}
use Rattle.release_view.proofs.release.View.table.Goals as goal

pub returns-in-Some-clause-name : goal.returns-in-Some-clause-name
returns-in-Some-clause-name c = (there_version c.as_slice.result.now (named c.args.name) c.in-Some.version.now (sym c.in-Some.ensures)).1

pub returns-in-Some-clause-lawful : goal.returns-in-Some-clause-lawful
returns-in-Some-clause-lawful c =
    lawful_found (has_name (named c.args.name)) c.self.inside.versions.items c.in-Some.version.now c.self.invariant.kept.lawful (ap (find (has_name (named c.args.name))) (sym c.as_slice.ensures.value) ∙ sym c.in-Some.ensures)
