-- The command that words are of, and where it works.
use Rattle.std.specs.Prelude.{ℕ, ◌≡◌, ◌⊎◌, List, ◌∷◌, Some, None}
use Rattle.words.specs.Settings.{Setting, settings_of}
use Rattle.words.specs.Table.{Give, Row, row_of}
use Rattle.words.specs.declared.command.Command.{Command}
use Rattle.words.specs.declared.command.Command.TheVariants.{Serve, Replay}
use Rattle.words.specs.declared.places.Places.{Places}

-- the words are the name of a row, and behind it settings that give its options their values
pub record IsOfRow (words : List (List ℕ)) (r : Row) : Type 0 where
  pub behind : List (List ℕ)
  pub settings : List Setting
  pub named : words ≡ r.name ∷ behind
  pub set : settings_of behind ≡ Some settings
  pub give : Give settings r.options

-- the words are of this command
abbrev pub IsCommand : List (List ℕ) → Command → Type 0
IsCommand words c = IsOfRow words (row_of c)

-- ---- places

abbrev pub nowhere : Places
nowhere = record { store = None; port = None; connections = 0; script = None }

-- where a command works
abbrev pub places_in : Command → Places
places_in (Serve flags store port connections) = record {
  store = Some store;
  port = Some port;
  connections = connections;
  script = None;
}
places_in (Replay flags store script) = record {
  store = Some store;
  port = None;
  connections = 0;
  script = Some script;
}
places_in _ = nowhere

-- where the command of the words works; nowhere, if they are of none
abbrev pub IsPlaces : List (List ℕ) → Places → Type 0
IsPlaces words places =
    ((c : Command) × IsCommand words c × (places ≡ places_in c))
    ⊎ (((c : Command) → ¬ IsCommand words c) × (places ≡ nowhere))
