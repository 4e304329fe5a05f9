-- The server that texts make, and why they make none.
use Rattle.std.proofs.Common.{◌≤◌, ℕ, [], refl, arith}
use Rattle.flagged_view.specs.Flags.{IsFlagsFault}
use Rattle.flagged_view.specs.declared.fault.FlagsFault.{FlagsFault}
use Rattle.flagged_view.specs.declared.fault.FlagsFault.TheVariants as flags
use Rattle.gate_flags.specs.Flags.{IsFeatureText}
use Rattle.gate_flags.specs.declared.fault.GateFault.TheVariants as gate
use Rattle.gate_spec.specs.Gates.{cutoff as gate_cutoff}
use Rattle.lifecycle.specs.Tables.{cutoff}
use Rattle.release_view.specs.Views.{IsDefaultView, IsViewByTexts, Viewed}
use Rattle.runtime_config.specs.Config.{IsRuntimeText}
use Rattle.runtime_config.specs.declared.fault.ConfigFault.TheVariants as config
use Rattle.schemas.specs.Dated.{Dated}
use Rattle.schemas.specs.Rules.{last_of}
use Rattle.served_history.proofs.AlikeLemmas.{to_cut}
use Rattle.served_history.specs.Faults.{of_flags}
use Rattle.served_history.specs.Refusals.{IsTextsFault}
use Rattle.served_history.specs.Releases.{AreReleases, FlagTexts, IsFor, given}

module _ (h : Dated) (o : FlagTexts) (e m : ℕ) (releases : AreReleases h o e m) where
  pub is_for : (view back : Viewed) → e ≤ last_of h → m ≤ last_of h → IsFeatureText (gate_cutoff h.gates e) (given o.features) → IsRuntimeText (cutoff h.apis e) (given o.runtime) → IsViewByTexts h e (given o.features) (given o.runtime) view → IsDefaultView h m back
      → IsFor h o (record { view = view; release = last_of h; back = back.minor }) back
  is_for view back within least_within features runtime viewed earlier = record {
    e = e;
    m = m;
    accepts = record { releases = releases; features = features; runtime = runtime };
    server = record {
      view = to_cut h e e (given o.features) (given o.runtime) view (omega arith) within viewed;
      release = refl;
      least = earlier.viewed.of_minor;
      earlier = to_cut h m m [] [] back (omega arith) least_within earlier;
    };
  }

  pub flags_refused : (fault : FlagsFault) → IsFlagsFault h e (given o.features) (given o.runtime) fault → IsTextsFault h o (of_flags fault)
  flags_refused (flags.Features (gate.At place cause)) is = (e, m, releases, is)
  flags_refused (flags.Features gate.Memory) is = tt
  flags_refused (flags.Runtime (config.At place cause)) is = (e, m, releases, is.0, is.1)
  flags_refused (flags.Runtime config.OnlyAllFalse) is = (e, m, releases, is.0, is.1)
  flags_refused (flags.Runtime config.Memory) is = tt
