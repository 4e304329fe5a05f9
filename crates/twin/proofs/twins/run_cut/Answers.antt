use Rattle.std.proofs.Common.{sym, subst}
use Rattle.minor_version.specs.Ranges.{IsEmulable, IsMinimum}
use Rattle.schemas.specs.Dated.{Dated}
use Rattle.schemas.specs.Rules.{first_of, last_of}
use Rattle.std.specs.Prelude.{IfOk}
use Rattle.twin.proofs.SideLemmas.{emulable_by_cut, minimum_by_cut}
use Rattle.twin.specs.Runs.{IsRunOf}
use Rattle.twin.proofs.twins.run_cut.Goals as goal

pub returns : goal.returns
returns c =
    let r = c.args.releases in
    let d = c.args.drawing in
    subst (λ (p : Dated). IfOk c.run_script.result (λ w. IsRunOf p r.e r.m c.args.features.now c.args.runtime.now d.seed d.size w.count)) c.in-Ok.ensures.cut c.run_script.ensures

pub run_script-requires-clause-emulable : goal.run_script-requires-clause-emulable
run_script-requires-clause-emulable c =
    let h = c.args.accepted.now in
    let r = c.args.releases in
    let cut = sym c.in-Ok.ensures.cut in
    subst (λ (p : Dated). IsEmulable (first_of p) (last_of p) r.e) cut (emulable_by_cut (first_of h) (last_of h) r.e r.m c.requires.emulable c.requires.minimum)

pub run_script-requires-clause-minimum : goal.run_script-requires-clause-minimum
run_script-requires-clause-minimum c =
    let h = c.args.accepted.now in
    let r = c.args.releases in
    let cut = sym c.in-Ok.ensures.cut in
    subst (λ (p : Dated). IsMinimum (first_of p) (last_of p) r.e r.m) cut (minimum_by_cut (first_of h) (last_of h) r.e r.m c.requires.emulable c.requires.minimum)
