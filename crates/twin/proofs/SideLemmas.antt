-- What a cut history and a folded one emulate.
use Rattle.std.proofs.Common.{◌≡◌, ℕ, sym, ◌∙◌, subst, arith}
use Rattle.minor_version.specs.Ranges.{IsEmulable, IsMinimum, floor_of}
use Rattle.plain_machine.specs.declared.machine.Machine.{Machine}
use Rattle.release_view.specs.Views.{Viewed}
use Rattle.schemas.specs.Dated.{Dated}
use Rattle.served_history.specs.Releases.{Accepts, FlagTexts, IsFor}

module _ (first last e m : ℕ) (emulable : IsEmulable first last e) (minimum : IsMinimum first last e m) where
  pub emulable_by_cut : IsEmulable first e e
  emulable_by_cut = (omega (arith, emulable.0, emulable.1), omega arith)

  pub minimum_by_cut : IsMinimum first e e m
  minimum_by_cut = (omega (arith, minimum.0, emulable.1), minimum.1)

  pub emulable_by_fold : IsEmulable (floor_of first last) last e
  emulable_by_fold = (omega (arith, emulable.0, emulable.1), emulable.1)

  pub minimum_by_fold : IsMinimum (floor_of first last) last e m
  minimum_by_fold = (omega (arith, minimum.0, emulable.1), minimum.1)

-- the texts are taken at the releases of the views
pub accepts_at : (h : Dated) (o : FlagTexts) (machine : Machine) (back : Viewed) (e m : ℕ) → IsFor h o machine back
    → e ≡ machine.view.minor → m ≡ back.minor → Accepts h o e m
accepts_at h o machine back e m is a b =
    let same = sym (a ∙ is.server.view.viewed.of_minor) in
    let least = sym (b ∙ is.server.earlier.viewed.of_minor) in
    subst (λ (p : ℕ × ℕ). Accepts h o p.0 p.1) (λ i. (same i, least i)) is.accepts
