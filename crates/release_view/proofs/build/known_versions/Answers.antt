use Rattle.std.proofs.Common.{◌≡◌, List, All, sym, ◌∙◌, ap, subst}
use Rattle.lifecycle.specs.Tables.{cutoff}
use Rattle.lifecycle.specs.Version.{IsVersion}
use Rattle.lifecycle.specs.declared.entry.ApiEntry.{ApiEntry}
use Rattle.schemas.specs.Dated.{IsShaped}
use Rattle.release_view.specs.Known.{Tables, tables_at, AreKnown}
use Rattle.release_view.specs.Parts.{IsGathered}
use Rattle.release_view.proofs.LiveLemmas.{are_known, shaped_versions}
use Rattle.release_view.proofs.SpellingLemmas.{tables_lawful, tables_alike}
use Rattle.release_view.proofs.build.known_versions.Goals as goal
use Rattle.release_view.proofs.build.known_versions.Goals.{After-drop-index-inside-5}

known : (c : After-drop-index-inside-5) → AreKnown (tables_at c.args.a.now c.args.e c.args.gates.now) c.args.on.now c.in_ok-versions.versions.items
known c =
    let versions = c.in_ok-versions.versions.items in
    let entries : c.items-entries.result.now ≡ c.args.a.now.apis = c.items-entries.ensures ∙ ap (λ h. h.apis) (c.history.view_is ∙ c.history-history.ensures.same) in
    let apis : c.in_ok-index.index ≡ cutoff c.args.a.now.apis c.args.e = c.in_ok-index.ensures ∙ ap (λ (xs : List ApiEntry). cutoff xs c.args.e) entries in
    let tables : record { apis = c.in_ok-index.index; source = c.in_ok-rows.rows } ≡ tables_at c.args.a.now c.args.e c.args.gates.now = λ i. record { apis = apis i; source = c.in_ok-rows.ensures i } in
    let one = subst (λ (ts : Tables). IsGathered ts c.args.on.now c.items-entries.result.now versions) tables c.in_ok-versions.ensures in
    let two = subst (λ xs. IsGathered (tables_at c.args.a.now c.args.e c.args.gates.now) c.args.on.now xs versions) entries one in
    are_known c.args.a.now c.history-history.ensures.accepted c.args.e c.args.gates.now c.args.on.now versions two

pub gathered-requires : goal.gathered-requires
gathered-requires c = subst (λ xs. All (λ x. IsVersion x.version) xs) (sym c.items-entries.ensures) (shaped_versions _ c.history.invariant.apis)

pub returns-clause-known : goal.returns-clause-known
returns-clause-known c = known c

pub returns-clause-lawful : goal.returns-clause-lawful
returns-clause-lawful c =
    tables_lawful c.args.a.now c.history-history.ensures.accepted c.args.e c.args.gates.now c.args.on.now c.in_ok-versions.versions.items (known c) (subst IsShaped (c.history.view_is ∙ c.history-history.ensures.same) c.history.invariant)

pub returns-clause-alike : goal.returns-clause-alike
returns-clause-alike c = tables_alike c.args.a.now c.history-history.ensures.accepted c.args.e c.args.gates.now c.args.on.now c.in_ok-versions.versions.items (known c)
