-- The texts choose one server, or have one fault.
use Rattle.std.proofs.Common.{◌≡◌, ◌≢◌, ◌≤◌, ℕ, List, Option, Some, None, refl, sym, ◌∙◌, ap, subst, arith}
use Rattle.gate_flags.proofs.AnswerLemmas.{one_fault as one_gate_fault, either as no_gate_fault}
use Rattle.gate_flags.specs.Flags.{IsFeatureText, IsTextFault as IsFeatureFault}
use Rattle.gate_flags.specs.declared.fault.GateFault.{GateFault}
use Rattle.gate_flags.specs.declared.fault.GateFault.TheVariants as gate
use Rattle.gate_spec.specs.Gates.{cutoff as gate_cutoff}
use Rattle.lifecycle.specs.Tables.{cutoff}
use Rattle.minor_version.specs.Ranges.{IsMinimum}
use Rattle.release_choice.proofs.ChoiceLemmas.{one_emulated, one_refusal, one_release, refused_or_emulated}
use Rattle.release_choice.specs.Choice.{IsEmulated, IsLeast, IsRefusedLeast}
use Rattle.release_choice.specs.declared.fault.VersionFault.{VersionFault}
use Rattle.release_choice.specs.declared.fault.VersionFault.TheVariants.{NotAVersion, OutOfRange}
use Rattle.runtime_config.proofs.AnswerLemmas.{one_fault as one_config_fault, either as no_config_fault}
use Rattle.runtime_config.specs.Config.{IsRuntimeText, IsTextFault as IsConfigFault}
use Rattle.runtime_config.specs.declared.fault.ConfigFault.{ConfigFault}
use Rattle.runtime_config.specs.declared.fault.ConfigFault.TheVariants as config
use Rattle.schemas.proofs.LawLemmas.{gates_rise}
use Rattle.schemas.specs.Dated.{Dated}
use Rattle.schemas.specs.Rules.{IsAccepted, first_of, last_of}
use Rattle.served_history.specs.Ends.{IsEmulatedFault, IsLeastFault, IsRuntimeFault}
use Rattle.served_history.specs.Refusals.{IsTextsFault}
use Rattle.served_history.specs.Releases.{Accepts, AreReleases, FlagTexts, given}
use Rattle.served_history.specs.declared.fault.ServeFault.{ServeFault}
use Rattle.served_history.specs.declared.fault.ServeFault.TheVariants as fault
use Rattle.twin.specs.Runs.{IsTwin}
use Rattle.twin.specs.declared.count.TwinCount.{TwinCount}

-- ---- the minimum compatibility

module _ (first last : ℕ) (few : last ≤ 999) where
  below_last : (o : Option (List ℕ)) (e : ℕ) → IsEmulated first last o e → e ≤ last
  below_last None e is = omega (arith, is)
  below_last (Some text) e is = is.1.1

  one_least : (e : ℕ) (o : Option (List ℕ)) (m n : ℕ) → e ≤ last → IsLeast first last e o m → IsLeast first last e o n → m ≡ n
  one_least e None m n within h k = h ∙ sym k
  one_least e (Some text) m n within h k = one_release text m n (omega (arith, h.1.1)) (omega (arith, k.1.1)) h.0 k.0

  one_least_refusal : (e : ℕ) (o : Option (List ℕ)) (f g : VersionFault) → IsRefusedLeast first last e o f → IsRefusedLeast first last e o g → f ≡ g
  one_least_refusal e None f g h k = absurd h
  one_least_refusal e (Some text) NotAVersion NotAVersion h k = refl
  one_least_refusal e (Some text) NotAVersion OutOfRange h k = absurd (h k.0 k.1 k.2)
  one_least_refusal e (Some text) OutOfRange NotAVersion h k = absurd (k h.0 h.1 h.2)
  one_least_refusal e (Some text) OutOfRange OutOfRange h k = refl

  refused_or_least : (e : ℕ) (o : Option (List ℕ)) (f : VersionFault) (m : ℕ) → e ≤ last → IsRefusedLeast first last e o f → IsLeast first last e o m → ⊥
  refused_or_least e None f m within h k = h
  refused_or_least e (Some text) NotAVersion m within h k = h m (omega (arith, k.1.1)) k.0
  refused_or_least e (Some text) OutOfRange m within h k =
      let least : m ≤ 999 = omega (arith, k.1.1) in
      h.3 (subst (λ (r : ℕ). IsMinimum first last e r) (one_release text m h.0 least h.1 k.0 h.2) k.1)

-- ---- the releases

module _ (h : Dated) (o : FlagTexts) (few : last_of h ≤ 999) where
  pub one_releases : (e m f n : ℕ) → AreReleases h o e m → AreReleases h o f n → (e ≡ f) × (m ≡ n)
  one_releases e m f n a b =
      let same : e ≡ f = one_emulated (first_of h) (last_of h) few o.emulated e f a.emulated b.emulated in
      let least : IsLeast (first_of h) (last_of h) f o.least m = subst (λ (z : ℕ). IsLeast (first_of h) (last_of h) z o.least m) same a.least in
      (same, one_least (first_of h) (last_of h) few f o.least m n (below_last (first_of h) (last_of h) few o.emulated f b.emulated) least b.least)

  -- a fault of the texts that choose releases leaves none to choose
  no_emulated : (c : VersionFault) (e : ℕ) → IsEmulatedFault h o c → IsEmulated (first_of h) (last_of h) o.emulated e → ⊥
  no_emulated c e is chosen = refused_or_emulated (first_of h) (last_of h) few o.emulated c e is chosen

  no_least : (f : ℕ) (c : VersionFault) (e m : ℕ) → IsLeastFault h o f c → AreReleases h o e m → ⊥
  no_least f c e m is chosen =
      let same : f ≡ e = one_emulated (first_of h) (last_of h) few o.emulated f e is.0 chosen.emulated in
      refused_or_least (first_of h) (last_of h) few e o.least c m (below_last (first_of h) (last_of h) few o.emulated e chosen.emulated)
      (subst (λ (z : ℕ). IsRefusedLeast (first_of h) (last_of h) z o.least c) same is.1) chosen.least

-- ---- the fault

-- which text is at fault, and how
data Cause : Type 0 where
  of_emulated : (cause : VersionFault) → Cause
  of_least : (e : ℕ) (cause : VersionFault) → Cause
  of_features : (cause : GateFault) → Cause
  of_runtime : (cause : ConfigFault) → Cause

abbrev told_as : Cause → ServeFault
told_as (of_emulated cause) = fault.Emulated cause
told_as (of_least e cause) = fault.Least e cause
told_as (of_features (gate.At place cause)) = fault.Features place cause
told_as (of_features gate.Memory) = fault.Memory
told_as (of_runtime (config.At place cause)) = fault.Runtime place cause
told_as (of_runtime config.OnlyAllFalse) = fault.OnlyAllFalse
told_as (of_runtime config.Memory) = fault.Memory

-- the feature gates have this fault at releases that are chosen
abbrev AtReleases : Dated → FlagTexts → GateFault → Type 0
AtReleases h o f = (e : ℕ) × (m : ℕ) × AreReleases h o e m × IsFeatureFault h.gates e (given o.features) f

abbrev Has : Dated → FlagTexts → Cause → Type 0
Has h o (of_emulated cause) = IsEmulatedFault h o cause
Has h o (of_least e cause) = IsLeastFault h o e cause
Has h o (of_features cause) = (cause ≢ gate.Memory) × AtReleases h o cause
Has h o (of_runtime cause) = (cause ≢ config.Memory) × IsRuntimeFault h o cause

module _ (h : Dated) (o : FlagTexts) where
  cause_of : (f : ServeFault) → f ≢ fault.Memory → IsTextsFault h o f → (c : Cause) × Has h o c × (f ≡ told_as c)
  cause_of (fault.Emulated cause) some is = (of_emulated cause, is, refl)
  cause_of (fault.Least e cause) some is = (of_least e cause, is, refl)
  cause_of (fault.Features place cause) some is = (of_features (gate.At place cause), ((λ same. cc), is), refl)
  cause_of (fault.Runtime place cause) some is = (of_runtime (config.At place cause), ((λ same. cc), is), refl)
  cause_of fault.OnlyAllFalse some is = (of_runtime config.OnlyAllFalse, ((λ same. cc), is), refl)
  cause_of (fault.NotAStore file at) some is = absurd is
  cause_of (fault.Undecodable key version minor) some is = absurd is
  cause_of fault.Disk some is = absurd is
  cause_of fault.Front some is = absurd is
  cause_of fault.Spent some is = absurd is
  cause_of fault.Memory some is = absurd (some refl)

module _ (h : Dated) (o : FlagTexts) (accepted : IsAccepted h) (few : last_of h ≤ 999) where
  no_features : (f : GateFault) (e m : ℕ) → f ≢ gate.Memory → AtReleases h o f → AreReleases h o e m → IsFeatureText (gate_cutoff h.gates e) (given o.features) → ⊥
  no_features f e m some is chosen valid =
      let same : is.0 ≡ e = one_emulated (first_of h) (last_of h) few o.emulated is.0 e is.2.emulated chosen.emulated in
      some (no_gate_fault h.gates e (given o.features) (gates_rise h accepted) valid f (subst (λ (z : ℕ). IsFeatureFault h.gates z (given o.features) f) same is.3))

  no_runtime : (f : ConfigFault) (e m : ℕ) → f ≢ config.Memory → IsRuntimeFault h o f → AreReleases h o e m → IsRuntimeText (cutoff h.apis e) (given o.runtime) → ⊥
  no_runtime f e m some is chosen valid =
      let same : is.0 ≡ e = one_emulated (first_of h) (last_of h) few o.emulated is.0 e is.2.emulated chosen.emulated in
      some (no_config_fault h.apis e (given o.runtime) valid f (subst (λ (z : ℕ). IsConfigFault h.apis z (given o.runtime) f) same is.4))

  one_features : (f g : GateFault) → f ≢ gate.Memory → g ≢ gate.Memory → AtReleases h o f → AtReleases h o g → f ≡ g
  one_features f g some other a b =
      let same : a.0 ≡ b.0 = one_emulated (first_of h) (last_of h) few o.emulated a.0 b.0 a.2.emulated b.2.emulated in
      one_gate_fault h.gates b.0 (given o.features) (gates_rise h accepted) f g some other (subst (λ (z : ℕ). IsFeatureFault h.gates z (given o.features) f) same a.3) b.3

  one_runtime : (f g : ConfigFault) → f ≢ config.Memory → g ≢ config.Memory → IsRuntimeFault h o f → IsRuntimeFault h o g → f ≡ g
  one_runtime f g some other a b =
      let same : a.0 ≡ b.0 = one_emulated (first_of h) (last_of h) few o.emulated a.0 b.0 a.2.emulated b.2.emulated in
      one_config_fault h.apis b.0 (given o.runtime) f g some other (subst (λ (z : ℕ). IsConfigFault h.apis z (given o.runtime) f) same a.4) b.4

  one_least_fault : (e f : ℕ) (c d : VersionFault) → IsLeastFault h o e c → IsLeastFault h o f d → of_least e c ≡ of_least f d
  one_least_fault e f c d a b =
      let same : e ≡ f = one_emulated (first_of h) (last_of h) few o.emulated e f a.0 b.0 in
      let cause : c ≡ d = one_least_refusal (first_of h) (last_of h) few f o.least c d (subst (λ (z : ℕ). IsRefusedLeast (first_of h) (last_of h) z o.least c) same a.1) b.1 in
      λ i. of_least (same i) (cause i)

  -- the runtime configuration is at fault only where the feature gates aren't
  features_or_runtime : (f : GateFault) (g : ConfigFault) → f ≢ gate.Memory → AtReleases h o f → IsRuntimeFault h o g → ⊥
  features_or_runtime f g some a b = no_features f b.0 b.1 some a b.2 b.3

  one_cause : (c d : Cause) → Has h o c → Has h o d → c ≡ d
  one_cause (of_emulated c) (of_emulated d) a b = ap of_emulated (one_refusal (first_of h) (last_of h) few o.emulated c d a b)
  one_cause (of_emulated c) (of_least f d) a b = absurd (no_emulated h o few c f a b.0)
  one_cause (of_emulated c) (of_features d) a b = absurd (no_emulated h o few c b.1.0 a b.1.2.emulated)
  one_cause (of_emulated c) (of_runtime d) a b = absurd (no_emulated h o few c b.1.0 a b.1.2.emulated)
  one_cause (of_least e c) (of_emulated d) a b = absurd (no_emulated h o few d e b a.0)
  one_cause (of_least e c) (of_least f d) a b = one_least_fault e f c d a b
  one_cause (of_least e c) (of_features d) a b = absurd (no_least h o few e c b.1.0 b.1.1 a b.1.2)
  one_cause (of_least e c) (of_runtime d) a b = absurd (no_least h o few e c b.1.0 b.1.1 a b.1.2)
  one_cause (of_features c) (of_emulated d) a b = absurd (no_emulated h o few d a.1.0 b a.1.2.emulated)
  one_cause (of_features c) (of_least f d) a b = absurd (no_least h o few f d a.1.0 a.1.1 b a.1.2)
  one_cause (of_features c) (of_features d) a b = ap of_features (one_features c d a.0 b.0 a.1 b.1)
  one_cause (of_features c) (of_runtime d) a b = absurd (features_or_runtime c d a.0 a.1 b.1)
  one_cause (of_runtime c) (of_emulated d) a b = absurd (no_emulated h o few d a.1.0 b a.1.2.emulated)
  one_cause (of_runtime c) (of_least f d) a b = absurd (no_least h o few f d a.1.0 a.1.1 b a.1.2)
  one_cause (of_runtime c) (of_features d) a b = absurd (features_or_runtime d c b.0 b.1 a.1)
  one_cause (of_runtime c) (of_runtime d) a b = ap of_runtime (one_runtime c d a.0 b.0 a.1 b.1)

  -- two faults of the texts, neither of them want of memory, are one
  pub texts_one : (f g : ServeFault) → f ≢ fault.Memory → g ≢ fault.Memory → IsTextsFault h o f → IsTextsFault h o g → f ≡ g
  texts_one f g some other a b =
      let c = cause_of h o f some a in
      let d = cause_of h o g other b in
      c.2 ∙ ap told_as (one_cause c.0 d.0 c.1 d.1) ∙ sym d.2

  cause_or_server : (c : Cause) (e m : ℕ) → Has h o c → Accepts h o e m → ⊥
  cause_or_server (of_emulated c) e m is takes = no_emulated h o few c e is takes.releases.emulated
  cause_or_server (of_least f c) e m is takes = no_least h o few f c e m is takes.releases
  cause_or_server (of_features c) e m is takes = no_features c e m is.0 is.1 takes.releases takes.features
  cause_or_server (of_runtime c) e m is takes = no_runtime c e m is.0 is.1 takes.releases takes.runtime

  -- where a text is at fault, there is no server, and so no twin
  pub refused_or_server : (f : ServeFault) (e m : ℕ) → f ≢ fault.Memory → IsTextsFault h o f → Accepts h o e m → ⊥
  refused_or_server f e m some is takes = let c = cause_of h o f some is in cause_or_server c.0 e m c.1 takes

  pub refused_or_twin : (f : ServeFault) (seed size : ℕ) (count : TwinCount) → f ≢ fault.Memory → IsTextsFault h o f → IsTwin h o seed size count → ⊥
  refused_or_twin f seed size count some is twin = refused_or_server f twin.e twin.m some is twin.accepts
