-- How serving a history ends, and what it leaves. The first refusal decides: the texts in their order, the store, the session.
use Rattle.std.specs.Prelude.{◌≡◌, ◌⊎◌, ℕ, Result, Ok, Err}
use Rattle.disk.specs.Beside.{Beside}
use Rattle.disk.specs.Images.{Images, Pending}
use Rattle.disk.specs.declared.file.File.{File}
use Rattle.gate_flags.specs.Flags.{IsFeatureText, IsTextFault as IsFeatureFault}
use Rattle.gate_flags.specs.declared.fault.GateCause.{GateCause}
use Rattle.gate_flags.specs.declared.fault.GateFault.TheVariants.{At as AtGate}
use Rattle.gate_spec.specs.Gates.{cutoff as gate_cutoff}
use Rattle.plain_machine.specs.declared.machine.Machine.{Machine}
use Rattle.release_choice.specs.Choice.{IsEmulated, IsRefusedLeast, IsRefusedVersion}
use Rattle.release_choice.specs.declared.fault.VersionFault.{VersionFault}
use Rattle.release_view.specs.Views.{Viewed}
use Rattle.runtime_config.specs.Config.{IsTextFault as IsConfigFault}
use Rattle.runtime_config.specs.declared.fault.ConfigFault.{ConfigFault}
use Rattle.runtime_config.specs.declared.fault.ConfigFault.TheVariants.{At as AtConfig, OnlyAllFalse as AllFalse}
use Rattle.schemas.specs.Dated.{Dated}
use Rattle.schemas.specs.Rules.{first_of, last_of}
use Rattle.served_history.specs.Releases.{AreReleases, FlagTexts, IsFor, given}
use Rattle.served_history.specs.declared.fault.ServeFault.{ServeFault}
use Rattle.served_history.specs.declared.fault.ServeFault.TheVariants as fault
use Rattle.session_ends.specs.declared.served.Served.{Served}
use Rattle.store_session.specs.Ends.{IsStoreEnd}
use Rattle.store_session.specs.declared.fault.StoreFault.{StoreFault}
use Rattle.store_session.specs.declared.fault.StoreFault.TheVariants as store

-- ---- the texts

abbrev pub IsEmulatedFault : Dated → FlagTexts → VersionFault → Type 0
IsEmulatedFault h o cause = IsRefusedVersion (first_of h) (last_of h) o.emulated cause

abbrev pub IsLeastFault : Dated → FlagTexts → ℕ → VersionFault → Type 0
IsLeastFault h o e cause = IsEmulated (first_of h) (last_of h) o.emulated e
    × IsRefusedLeast (first_of h) (last_of h) e o.least cause

abbrev pub IsFeaturesFault : Dated → FlagTexts → ℕ → GateCause → Type 0
IsFeaturesFault h o place cause = (e : ℕ) × (m : ℕ) × AreReleases h o e m
    × IsFeatureFault h.gates e (given o.features) (AtGate place cause)

abbrev pub IsRuntimeFault : Dated → FlagTexts → ConfigFault → Type 0
IsRuntimeFault h o cause = (e : ℕ) × (m : ℕ) × AreReleases h o e m
    × IsFeatureText (gate_cutoff h.gates e) (given o.features)
    × IsConfigFault h.apis e (given o.runtime) cause

-- ---- behind the texts

-- the texts are taken, and the server that they make ends so over the store, where the front tells
abbrev pub IsEndOver : {W : Type 0} (tells : Type 0) → (W → ℕ) → (W → ℕ → Images → Type 0) → (W → Images)
    → (W → File → Pending) → (W → Beside) → Dated → FlagTexts → W → W → Result Served StoreFault → Type 0
IsEndOver tells clock may_leave held pending beside h o old new result =
    (machine : Machine) × (back : Viewed) × IsFor h o machine back
    × (tells → IsStoreEnd clock may_leave held pending beside machine back old new result)

-- a text is refused, and the front is as it was; or the texts are taken, and this is the end over the store; want of memory
-- may come before the store is opened
abbrev pub IsServeEnd : {W : Type 0} (tells : Type 0) → (W → ℕ) → (W → ℕ → Images → Type 0) → (W → Images)
    → (W → File → Pending) → (W → Beside) → Dated → FlagTexts → W → W → Result Served ServeFault → Type 0
IsServeEnd tells clock may_leave held pending beside h o old new (Ok served) =
    IsEndOver tells clock may_leave held pending beside h o old new (Ok served)
IsServeEnd tells clock may_leave held pending beside h o old new (Err (fault.Emulated cause)) =
    IsEmulatedFault h o cause × (new ≡ old)
IsServeEnd tells clock may_leave held pending beside h o old new (Err (fault.Least e cause)) =
    IsLeastFault h o e cause × (new ≡ old)
IsServeEnd tells clock may_leave held pending beside h o old new (Err (fault.Features place cause)) =
    IsFeaturesFault h o place cause × (new ≡ old)
IsServeEnd tells clock may_leave held pending beside h o old new (Err (fault.Runtime place cause)) =
    IsRuntimeFault h o (AtConfig place cause) × (new ≡ old)
IsServeEnd tells clock may_leave held pending beside h o old new (Err fault.OnlyAllFalse) =
    IsRuntimeFault h o AllFalse × (new ≡ old)
IsServeEnd tells clock may_leave held pending beside h o old new (Err (fault.NotAStore file at)) =
    IsEndOver tells clock may_leave held pending beside h o old new (Err (store.NotAStore file at))
IsServeEnd tells clock may_leave held pending beside h o old new (Err (fault.Undecodable key version minor)) =
    IsEndOver tells clock may_leave held pending beside h o old new (Err (store.Undecodable key version minor))
IsServeEnd tells clock may_leave held pending beside h o old new (Err fault.Disk) =
    IsEndOver tells clock may_leave held pending beside h o old new (Err store.Disk)
IsServeEnd tells clock may_leave held pending beside h o old new (Err fault.Front) =
    IsEndOver tells clock may_leave held pending beside h o old new (Err store.Front)
IsServeEnd tells clock may_leave held pending beside h o old new (Err fault.Spent) =
    IsEndOver tells clock may_leave held pending beside h o old new (Err store.Spent)
IsServeEnd tells clock may_leave held pending beside h o old new (Err fault.Memory) =
    (new ≡ old) ⊎ IsEndOver tells clock may_leave held pending beside h o old new (Err store.Memory)
