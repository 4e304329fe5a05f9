-- The table of commands and their options, and which values settings give to options.
use Rattle.std.specs.Prelude.{ℕ, ◌≡◌, ◌≤◌, ◌^◌, ◌-◌, List, [], ◌∷◌, Bool, true, false, map, codes, decimal}
use Rattle.std.specs.Prelude.{Some, None, option_map, if◌then◌else◌}
use Rattle.std.specs.Borrow.{Bor}
use Rattle.std.specs.List.{AllByRecursion, filter_map, list_any, list_all}
use Rattle.std.specs.Option.{option_to_list}
use Rattle.std.specs.Str.{bytes_eq}
use Rattle.std.specs.declared.option.Option.{Option}
use Rattle.words.specs.Settings.{Setting}
use Rattle.words.specs.declared.command.Command.{Command}
use Rattle.words.specs.declared.command.Command.TheVariants.{Discover, Gates, Check, Fold, Cut}
use Rattle.words.specs.declared.command.Command.TheVariants.{Convert, Twin, Serve, Replay}
use Rattle.words.specs.declared.command.FlagTexts.{FlagTexts}

-- an option of a command, with the value that it has there: a text that may be left out, a text that is required, or a
-- required number from the one to the other
pub data Choice : Type 0 where
  may : List ℕ → Option (List ℕ) → Choice
  must : List ℕ → List ℕ → Choice
  number : List ℕ → ℕ → ℕ → ℕ → Choice

-- a command's name, and its options
pub record Row : Type 0 where
  pub name : List ℕ
  pub options : List Choice

abbrev pub row : List ℕ → List Choice → Row
row name options = record { name = name; options = options }

-- ---- the table

-- the options of version and flags
abbrev pub with_flags : FlagTexts → List Choice → List Choice
with_flags flags options =
    may (codes "--emulated-version") flags.emulated
    ∷ may (codes "--min-compatibility-version") flags.min_compatibility
    ∷ may (codes "--feature-gates") flags.features
    ∷ may (codes "--runtime-config") flags.runtime
    ∷ options

-- the row of each command
abbrev pub row_of : Command → Row
row_of (Discover emulated runtime) = row (codes "discover") (
    may (codes "--emulated-version") emulated
    ∷ may (codes "--runtime-config") runtime
    ∷ [])
row_of (Gates emulated features) = row (codes "gates") (
    may (codes "--emulated-version") emulated
    ∷ may (codes "--feature-gates") features
    ∷ [])
row_of Check = row (codes "check") []
row_of Fold = row (codes "fold") []
row_of (Cut at) = row (codes "cut") (must (codes "--at") at ∷ [])
row_of (Convert emulated object to) = row (codes "convert") (
    may (codes "--emulated-version") emulated
    ∷ must (codes "--object") object
    ∷ must (codes "--to") to
    ∷ [])
row_of (Twin flags seed size) = row (codes "twin") (with_flags flags (
    number (codes "--seed") 0 (2 ^ 64 - 1) seed
    ∷ number (codes "--size") 1 10000 size
    ∷ []))
row_of (Serve flags store port connections) = row (codes "serve") (with_flags flags (
    must (codes "--store") store
    ∷ number (codes "--port") 1 65535 port
    ∷ number (codes "--connections") 1 1000000 connections
    ∷ []))
row_of (Replay flags store script) = row (codes "replay") (with_flags flags (
    must (codes "--store") store
    ∷ must (codes "--script") script
    ∷ []))

-- ---- the values that settings give

abbrev pub text_of : Option (Bor (List ℕ)) → Option (List ℕ)
text_of = option_map (λ t. t.now)

abbrev pub name_of : Choice → List ℕ
name_of (may name value) = name
name_of (must name value) = name
name_of (number name low high n) = name

-- the value of the setting, where it is of this name
abbrev pub value_for : List ℕ → Setting → Option (List ℕ)
value_for name setting = if bytes_eq setting.name name then Some setting.value else None

-- the values that the settings give to an option
abbrev pub values_of : List ℕ → List Setting → List (List ℕ)
values_of name settings = filter_map (value_for name) settings

-- the settings give the option its value, and no other one
abbrev pub IsGiven : List Setting → Choice → Type 0
IsGiven settings (may name value) = values_of name settings ≡ option_to_list value
IsGiven settings (must name value) = values_of name settings ≡ value ∷ []
IsGiven settings (number name low high n) =
    (values_of name settings ≡ decimal n ∷ []) × (low ≤ n) × (n ≤ high)

abbrev pub is_named : List (List ℕ) → Setting → Bool
is_named names setting = list_any (λ name. bytes_eq setting.name name) names

abbrev pub at_most_one : List (List ℕ) → Bool
at_most_one [] = true
at_most_one (value ∷ []) = true
at_most_one (value ∷ other ∷ values) = false

-- the settings give the option at most one value
abbrev pub is_once : List ℕ → List Setting → Bool
is_once name settings = at_most_one (values_of name settings)

-- the settings give these options their values, each at most once, and no other option
pub record Give (settings : List Setting) (options : List Choice) : Type 0 where
  pub known : list_all (is_named (map name_of options)) settings ≡ true
  pub given : AllByRecursion (IsGiven settings) options

-- the settings give the options of a command with this name
pub record Fits (name : List ℕ) (settings : List Setting) (c : Command) : Type 0 where
  pub named : (row_of c).name ≡ name
  pub give : Give settings (row_of c).options
