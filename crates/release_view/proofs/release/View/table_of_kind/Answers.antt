use Rattle.std.proofs.Common.{sym, ◌∙◌, ap}
use Rattle.std.specs.Prelude.{find}
use Rattle.release_view.specs.Views.{is_of_kind}
use Rattle.release_view.proofs.LookupLemmas.{found_kind}
use Rattle.release_view.proofs.SpellingLemmas.{lawful_found}
use Rattle.release_view.proofs.release.View.table_of_kind.Goals as goal

pub returns-in-Some-clause-kind : goal.returns-in-Some-clause-kind
returns-in-Some-clause-kind c = found_kind c.as_slice.result.now c.args.api_version.now c.args.kind.now c.in-Some.version.now (sym c.in-Some.ensures)

pub returns-in-Some-clause-lawful : goal.returns-in-Some-clause-lawful
returns-in-Some-clause-lawful c =
    let test = is_of_kind c.args.api_version.now c.args.kind.now in
    lawful_found test c.self.inside.versions.items c.in-Some.version.now c.self.invariant.kept.lawful (ap (find test) (sym c.as_slice.ensures.value) ∙ sym c.in-Some.ensures)
