use Rattle.std.proofs.Common.{◌≤◌, ℕ, List, sym, subst, arith}
use Rattle.std.proofs.lemmas.Result.{err_from_is_err_and}
use Rattle.minor_version.specs.Ranges.{IsEmulable, IsMinimum}
use Rattle.flagged_view.specs.Flags.{IsFlagsFault}
use Rattle.gate_flags.specs.Flags.{IsFeatureText}
use Rattle.gate_spec.specs.Gates.{cutoff as gate_cutoff}
use Rattle.lifecycle.specs.Tables.{cutoff}
use Rattle.release_view.specs.Views.{IsViewByTexts}
use Rattle.runtime_config.specs.Config.{IsRuntimeText}
use Rattle.schemas.specs.Rules.{first_of, last_of}
use Rattle.served_history.proofs.ServerLemmas.{flags_refused, is_for}
use Rattle.served_history.specs.Releases.{flag_texts, given}
use Rattle.served_history.proofs.views.views_of.Goals as goal

pub returns-in_err-view-clause-refused : goal.returns-in_err-view-clause-refused
returns-in_err-view-clause-refused c =
    let h = c.args.accepted.now in
    let o = flag_texts c.args.texts in
    let r = c.in_ok-releases in
    let e = r.releases.emulated in
    let flags = c.in_err-view.field-0.0 in
    let by_features = subst (λ (t : List ℕ). IsFlagsFault h e t c.bytes_of-runtime.result.now flags) c.bytes_of-features.ensures c.in_err-view.ensures.fault in
    let faulty : IsFlagsFault h e (given o.features) (given o.runtime) flags = subst (λ (t : List ℕ). IsFlagsFault h e (given o.features) t flags) c.bytes_of-runtime.ensures by_features in
    let p = err_from_is_err_and c.from_residual-in_err-view.result c.from_residual-in_err-view.ensures.1 in
    rw (p.1, p.2) (flags_refused h o e r.releases.least r.ensures.releases flags faulty)

pub returns-clause-server : goal.returns-clause-server
returns-clause-server c =
    let h = c.args.accepted.now in
    let o = flag_texts c.args.texts in
    let r = c.in_ok-releases in
    let e = r.releases.emulated in
    let features : IsFeatureText (gate_cutoff h.gates e) (given o.features) = subst (λ (t : List ℕ). IsFeatureText (gate_cutoff h.gates e) t) c.bytes_of-features.ensures c.in_ok-view.ensures.features in
    let runtime : IsRuntimeText (cutoff h.apis e) (given o.runtime) = subst (λ (t : List ℕ). IsRuntimeText (cutoff h.apis e) t) c.bytes_of-runtime.ensures c.in_ok-view.ensures.config in
    let by_features = subst (λ (t : List ℕ). IsViewByTexts h e t c.bytes_of-runtime.result.now c.in_ok-view.view) c.bytes_of-features.ensures c.in_ok-view.ensures.view in
    let viewed : IsViewByTexts h e (given o.features) (given o.runtime) c.in_ok-view.view = subst (λ (t : List ℕ). IsViewByTexts h e (given o.features) t c.in_ok-view.view) c.bytes_of-runtime.ensures by_features in
    let within : e ≤ last_of h = r.ensures.emulable.1 in
    let minimum : r.releases.least ≤ e = r.ensures.minimum.1 in
    is_for h o e r.releases.least r.ensures.releases c.in_ok-view.view c.in_ok-back.back within (omega arith) features runtime viewed c.in_ok-back.ensures

pub returns-clause-emulable : goal.returns-clause-emulable
returns-clause-emulable c =
    let h = c.args.accepted.now in
    subst (λ (k : ℕ). IsEmulable (first_of h) (last_of h) k) (sym c.in_ok-view.ensures.view.viewed.of_minor) c.in_ok-releases.ensures.emulable

pub returns-clause-minimum : goal.returns-clause-minimum
returns-clause-minimum c =
    let h = c.args.accepted.now in
    let by_view = subst (λ (k : ℕ). IsMinimum (first_of h) (last_of h) k c.in_ok-releases.releases.least) (sym c.in_ok-view.ensures.view.viewed.of_minor) c.in_ok-releases.ensures.minimum in
    subst (λ (k : ℕ). IsMinimum (first_of h) (last_of h) c.in_ok-view.view.minor k) (sym c.in_ok-back.ensures.viewed.of_minor) by_view
