use Rattle.std.proofs.Common.{◌≡◌, Some, List, find, refl, sym, ◌∙◌, ap, subst}
use Rattle.std.specs.Option.{is_some}
use Rattle.release_view.specs.Known.{AreInPlace}
use Rattle.release_view.specs.Views.{is_live_of}
use Rattle.release_view.specs.declared.known.KnownVersion.{KnownVersion}
use Rattle.release_view.proofs.ListLemmas.{some-find}
use Rattle.release_view.proofs.LookupLemmas.{best_first}
use Rattle.release_view.proofs.SpellingLemmas.{lawful_found}
use Rattle.release_view.proofs.release.View.live_best.Goals as goal

pub returns-in-Some-clause-best : goal.returns-in-Some-clause-best
returns-in-Some-clause-best c =
    let versions : List KnownVersion = c.args.self.now.versions in
    let same : c.as_slice.result.now ≡ versions = c.as_slice.ensures.value ∙ ap (λ v. v.versions) c.self.view_is in
    let test = is_live_of c.args.group.now c.args.resource.now in
    let first : find test versions ≡ Some c.in-Some.version.now = ap (find test) (sym same) ∙ sym c.in-Some.ensures in
    (c.in-Some.version.now, best_first c.args.group.now c.args.resource.now versions c.in-Some.version.now (subst AreInPlace (ap (λ v. v.versions) c.self.view_is) c.self.invariant.kept.order) first, refl)

pub returns-in-Some-clause-there : goal.returns-in-Some-clause-there
returns-in-Some-clause-there c =
    let versions : List KnownVersion = c.args.self.now.versions in
    let same : c.as_slice.result.now ≡ versions = c.as_slice.ensures.value ∙ ap (λ v. v.versions) c.self.view_is in
    let test = is_live_of c.args.group.now c.args.resource.now in
    ap is_some (c.in-Some.ensures ∙ ap (find test) same) ∙ some-find test versions

pub returns-in-None-clause-there : goal.returns-in-None-clause-there
returns-in-None-clause-there c =
    let versions : List KnownVersion = c.args.self.now.versions in
    let same : c.as_slice.result.now ≡ versions = c.as_slice.ensures.value ∙ ap (λ v. v.versions) c.self.view_is in
    let test = is_live_of c.args.group.now c.args.resource.now in
    ap is_some (c.in-None.ensures ∙ ap (find test) same) ∙ some-find test versions

pub returns-in-Some-clause-lawful : goal.returns-in-Some-clause-lawful
returns-in-Some-clause-lawful c =
    let test = is_live_of c.args.group.now c.args.resource.now in
    lawful_found test c.self.inside.versions.items c.in-Some.version.now c.self.invariant.kept.lawful (ap (find test) (sym c.as_slice.ensures.value) ∙ sym c.in-Some.ensures)
