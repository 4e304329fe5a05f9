-- Views and servers by a history that is cut at a release.
use Rattle.std.proofs.Common.{◌≡◌, ◌≤◌, ℕ, List, Some, None, refl, sym, subst, arith}
use Rattle.flag_text.specs.Pieces.{pieces}
use Rattle.gate_flags.specs.Flags.{IsFeatureText}
use Rattle.gate_flags.specs.Values.{AreGateValues}
use Rattle.gate_spec.specs.declared.entry.GateEntry.{GateEntry}
use Rattle.history_cut.proofs.CutLemmas.{cut_again}
use Rattle.lifecycle.specs.declared.entry.ApiEntry.{ApiEntry}
use Rattle.plain_machine.specs.declared.machine.Machine.{Machine}
use Rattle.release_choice.specs.Choice.{IsEmulated, IsLeast}
use Rattle.release_view.proofs.ViewLemmas.{has_one_view}
use Rattle.release_view.specs.Views.{IsDefaultView, IsViewByTexts, Viewed}
use Rattle.row_index.proofs.CutLemmas.{same_apis, same_gates}
use Rattle.runtime_config.specs.Config.{AreServed, IsRuntimeText}
use Rattle.schemas.specs.Cutoff.{cutoff}
use Rattle.schemas.specs.Dated.{Dated}
use Rattle.schemas.specs.Rules.{first_of, last_of}
use Rattle.served_history.specs.Laws.{IsViewedAlikeWhereCut, ServesAlikeWhereCut}
use Rattle.served_history.specs.Releases.{Accepts, FlagTexts, IsServerOf, given}
use Rattle.std.specs.declared.option.Option.{Option}

-- ---- views

module _ (h : Dated) (e o : ℕ) (features config : List ℕ) (view : Viewed) (below : e ≤ o) (within : o ≤ last_of h) where
  pub to_cut : IsViewByTexts h e features config view → IsViewByTexts (cutoff h o) e features config view
  to_cut is = record {
    on = is.on;
    served = subst (λ (ts : List ApiEntry). AreServed ts (pieces config) is.on) (sym (same_apis h (cutoff h o) e o refl below)) is.served;
    valued = subst (λ (ts : List GateEntry). AreGateValues ts (pieces features) view.gates) (sym (same_gates h (cutoff h o) e o refl below)) is.valued;
    viewed = ((has_one_view h (cutoff h o) e o refl below within).same view.gates is.on view).0 is.viewed;
  }

  from_cut : IsViewByTexts (cutoff h o) e features config view → IsViewByTexts h e features config view
  from_cut is = record {
    on = is.on;
    served = subst (λ (ts : List ApiEntry). AreServed ts (pieces config) is.on) (same_apis h (cutoff h o) e o refl below) is.served;
    valued = subst (λ (ts : List GateEntry). AreGateValues ts (pieces features) view.gates) (same_gates h (cutoff h o) e o refl below) is.valued;
    viewed = ((has_one_view h (cutoff h o) e o refl below within).same view.gates is.on view).1 is.viewed;
  }

pub viewed_alike : (h : Dated) → IsViewedAlikeWhereCut h
viewed_alike h e o features config view below within = (to_cut h e o features config view below within, from_cut h e o features config view below within)

-- ---- servers

by_last : (first last : ℕ) (text : Option (List ℕ)) (e : ℕ) → IsEmulated first last text e → e ≤ last
by_last first last None e is = omega arith
by_last first last (Some text) e is = is.1.1

-- the floor of a cut isn't above that of the whole history
module _ (first last e m : ℕ) (text : Option (List ℕ)) (named : List ℕ) (there : text ≡ Some named) (is : IsLeast first last e text m) where
  is_named : IsLeast first last e (Some named) m
  is_named = subst (λ (t : Option (List ℕ)). IsLeast first last e t m) there is

  not_above : m ≤ e
  not_above = is_named.1.1

  least_by_cut : e ≤ last → IsLeast first e e text m
  least_by_cut within = subst (λ (t : Option (List ℕ)). IsLeast first e e t m) (sym there) (is_named.0, (omega (arith, is_named.1.0), not_above))

module _ (h : Dated) (o : FlagTexts) (e m : ℕ) (named : List ℕ) (there : o.least ≡ Some named) (accepts : Accepts h o e m) where
  abbrev whole : e ≤ e
  whole = omega arith

  abbrev bare : FlagTexts
  bare = record { emulated = None; least = o.least; features = o.features; runtime = o.runtime }

  accepts_by_cut : Accepts (cutoff h e) bare e m
  accepts_by_cut = record {
    releases = record {
      emulated = refl;
      least = least_by_cut (first_of h) (last_of h) e m o.least named there accepts.releases.least (by_last (first_of h) (last_of h) o.emulated e accepts.releases.emulated);
    };
    features = subst (λ (ts : List GateEntry). IsFeatureText ts (given o.features)) (sym (same_gates h (cutoff h e) e e refl whole)) accepts.features;
    runtime = subst (λ (ts : List ApiEntry). IsRuntimeText ts (given o.runtime)) (sym (same_apis h (cutoff h e) e e refl whole)) accepts.runtime;
  }

  server_by_cut : (machine : Machine) (back : Viewed) → IsServerOf h o e m machine back → IsServerOf (cutoff h e) bare e m (record { view = machine.view; release = e; back = machine.back }) back
  server_by_cut machine back is = record {
    view = subst (λ (d : Dated). IsViewByTexts d e (given o.features) (given o.runtime) machine.view) (sym (cut_again h e e whole)) is.view;
    release = refl;
    least = is.least;
    earlier = subst (λ (d : Dated). IsDefaultView d m back) (sym (cut_again h e m (not_above (first_of h) (last_of h) e m o.least named there accepts.releases.least))) is.earlier;
  }

pub serves_alike : (h : Dated) → ServesAlikeWhereCut h
serves_alike h o e m named machine back there accepts is = (accepts_by_cut h o e m named there accepts, server_by_cut h o e m named there accepts machine back is)
