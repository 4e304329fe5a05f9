use Rattle.std.proofs.Common.{ℕ, sym, subst}
use Rattle.minor_version.specs.Ranges.{IsEmulable, IsMinimum}
use Rattle.plain_machine.specs.declared.machine.Machine.{Machine}
use Rattle.schemas.specs.Rules.{first_of, last_of}
use Rattle.served_history.specs.Releases.{flag_texts}
use Rattle.twin.proofs.SideLemmas.{accepts_at}
use Rattle.twin.proofs.twins.chosen_releases.Goals as goal

pub returns-clause-accepts : goal.returns-clause-accepts
returns-clause-accepts c =
    let h = c.args.accepted.now in
    let views = c.in_ok-views.views in
    let machine : Machine = record { view = views.view; release = last_of h; back = views.back.minor } in
    accepts_at h (flag_texts c.args.texts) machine views.back c.minor-e.result c.minor-m.result c.in_ok-views.ensures.server c.minor-e.ensures c.minor-m.ensures

pub returns-clause-emulable : goal.returns-clause-emulable
returns-clause-emulable c =
    let h = c.args.accepted.now in
    subst (λ (e : ℕ). IsEmulable (first_of h) (last_of h) e) (sym c.minor-e.ensures) c.in_ok-views.ensures.emulable

pub returns-clause-minimum : goal.returns-clause-minimum
returns-clause-minimum c =
    let h = c.args.accepted.now in
    let e = sym c.minor-e.ensures in
    let m = sym c.minor-m.ensures in
    subst (λ (p : ℕ × ℕ). IsMinimum (first_of h) (last_of h) p.0 p.1) (λ i. (e i, m i)) c.in_ok-views.ensures.minimum
