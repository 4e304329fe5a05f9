-- The releases that a server is for, and what its texts make of them.
use Rattle.std.specs.Prelude.{◌≡◌, ℕ, List, [], Option, unwrap_or}
use Rattle.gate_flags.specs.Flags.{IsFeatureText}
use Rattle.gate_spec.specs.Gates.{cutoff as gate_cutoff}
use Rattle.lifecycle.specs.Tables.{cutoff}
use Rattle.plain_machine.specs.declared.machine.Machine.{Machine}
use Rattle.release_choice.specs.Choice.{IsEmulated, IsLeast, text_of}
use Rattle.release_view.specs.Views.{IsDefaultView, IsViewByTexts, Viewed}
use Rattle.runtime_config.specs.Config.{IsRuntimeText}
use Rattle.schemas.specs.Cutoff.{cutoff as history_cutoff}
use Rattle.schemas.specs.Dated.{Dated}
use Rattle.schemas.specs.Rules.{first_of, last_of}
use Rattle.served_history.specs.declared.texts.Texts.{Texts}

-- the texts that choose what is served, each where it is given
pub record FlagTexts : Type 0 where
  pub emulated : Option (List ℕ)
  pub least : Option (List ℕ)
  pub features : Option (List ℕ)
  pub runtime : Option (List ℕ)

abbrev pub flag_texts : Texts → FlagTexts
flag_texts t = record {
  emulated = text_of t.emulated;
  least = text_of t.least;
  features = text_of t.features;
  runtime = text_of t.runtime;
}

-- where no text is given, the empty one stands for it
abbrev pub given : Option (List ℕ) → List ℕ
given text = unwrap_or text []

-- a binary of the history emulates e, and keeps its store so that m opens it
pub record AreReleases (h : Dated) (o : FlagTexts) (e m : ℕ) : Type 0 where
  pub emulated : IsEmulated (first_of h) (last_of h) o.emulated e
  pub least : IsLeast (first_of h) (last_of h) e o.least m

-- and takes the two flag texts at e
pub record Accepts (h : Dated) (o : FlagTexts) (e m : ℕ) : Type 0 where
  pub releases : AreReleases h o e m
  pub features : IsFeatureText (gate_cutoff h.gates e) (given o.features)
  pub runtime : IsRuntimeText (cutoff h.apis e) (given o.runtime)

-- What serves: the plain machine of the release e, by the history cut there, whose version page names the binary's release and
-- the minimum compatibility; and the view of that earlier release, by the history cut there, as no texts make it.
pub record IsServerOf (h : Dated) (o : FlagTexts) (e m : ℕ) (machine : Machine) (back : Viewed) : Type 0 where
  pub view : IsViewByTexts (history_cutoff h e) e (given o.features) (given o.runtime) machine.view
  pub release : machine.release ≡ last_of h
  pub least : machine.back ≡ m
  pub earlier : IsDefaultView (history_cutoff h m) m back

-- the server that the texts make of the history, for releases that they choose
pub record IsFor (h : Dated) (o : FlagTexts) (machine : Machine) (back : Viewed) : Type 0 where
  pub e : ℕ
  pub m : ℕ
  pub accepts : Accepts h o e m
  pub server : IsServerOf h o e m machine back
