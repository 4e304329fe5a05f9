-- What the command `discover` is to answer.
use Rattle.std.specs.Prelude.{ℕ, ◌≡◌, ◌≢◌, ◌⊎◌, List, [], ◌∷◌, ◌++◌, unwrap_or}
use Rattle.std.specs.declared.option.Option.{Option}
use Rattle.answer_lines.specs.Options.{config_line}
use Rattle.serde_json.specs.Written.{compact_text}
use Rattle.discovery.specs.Groups.{group_list_page}
use Rattle.lifecycle.specs.Tables.{cutoff}
use Rattle.release_view.specs.Views.{Viewed, IsViewByTexts}
use Rattle.runtime_config.specs.Config.{IsRuntimeText, IsTextFault}
use Rattle.runtime_config.specs.declared.fault.ConfigFault.{ConfigFault}
use Rattle.runtime_config.specs.declared.fault.ConfigFault.TheVariants as fault
use Rattle.schemas.specs.Dated.{Dated}
use Rattle.commands.specs.Releases.{AtRelease}
use Rattle.commands.specs.declared.status.Status.{Status}
use Rattle.commands.specs.declared.status.Status.TheVariants as status

-- the release refuses the runtime configuration, and this line says why
abbrev pub IsConfigRefusal : Dated → ℕ → List ℕ → List ℕ → Type 0
IsConfigRefusal h e runtime text =
    (f : ConfigFault) × (f ≢ fault.Memory) × IsTextFault h.apis e runtime f
    × (text ≡ config_line f)

-- the group list by a view, in compact JSON, and one line feed
abbrev pub group_list_text : Viewed → List ℕ
group_list_text view = compact_text (group_list_page view) ++ 10 ∷ []

-- the text is the group list of a release under a runtime configuration that it accepts, with its gates by default
pub record IsGroupListLine (h : Dated) (e : ℕ) (runtime text : List ℕ) : Type 0 where
  pub valid : IsRuntimeText (cutoff h.apis e) runtime
  pub view : Viewed
  pub viewed : IsViewByTexts h e [] runtime view
  pub written : text ≡ group_list_text view

-- what `discover` is to answer for a release: the group list, or why it refuses the runtime configuration
abbrev pub IsListingAt : Dated → List ℕ → ℕ → Status → List ℕ → Type 0
IsListingAt h runtime e s text =
    ((s ≡ status.Ok) × IsGroupListLine h e runtime text)
    ⊎ ((s ≡ status.Flags) × IsConfigRefusal h e runtime text)

-- what `discover` is to answer on an accepted history, where no configuration stands for the empty one
abbrev pub IsListing : Option (List ℕ) → Option (List ℕ) → Dated → Status → List ℕ → Type 0
IsListing emulated runtime h = AtRelease emulated h (IsListingAt h (unwrap_or runtime []))
