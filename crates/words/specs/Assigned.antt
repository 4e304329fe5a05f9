-- The rows of values that `clap` makes of words for options with one value each.
use Rattle.std.specs.Prelude.{ℕ, ◌≡◌, List, [], ◌∷◌, Some, true, codes, drop, fold, map}
use Rattle.clap.specs.Matches.{found_of}
use Rattle.clap.specs.Simple.{App, new_app, new_rule, on_top}
use Rattle.clap.specs.Walk.{Row, Rule, rows_after, rows_of, with_values, without}
use Rattle.clap.specs.declared.builder.action.ArgAction.TheVariants.{Set}
use Rattle.clap.specs.declared.builder.value_parser.Reading.TheVariants.{AsWritten}
use Rattle.clap.specs.declared.builder.value_parser.ValueParser.TheVariants as parser
use Rattle.clap.specs.declared.parser.matches.ArgMatches.{ArgMatches}
use Rattle.clap.specs.declared.parser.matches.ValueSource.TheVariants.{CommandLine}
use Rattle.words.specs.Settings.{Setting}

-- an option before its command is built, and a command that takes its words alone and has no help
abbrev pub raw : List ℕ → List ℕ → Rule
raw name long = record (new_rule name) { long = Some long }

abbrev pub base : App
base =
    on_top (λ s. record s { no_binary_name = true; disable_help_flag = true })
    (new_app (codes "kube_emu"))

-- an option by its name with the dashes, which takes a text
abbrev pub rule_named : List ℕ → Rule
rule_named name = record (new_rule name) {
  long = Some (drop 2 name);
  action = Some Set;
  parser = Some parser.String;
  range = Some (record { start_inclusive = 1; end_inclusive = 1 });
}

abbrev pub rules_named : List (List ℕ) → List Rule
rules_named names = map rule_named names

-- the matches are those of a command with these options on the words
abbrev pub AreMatchesOf : List (List ℕ) → List (List ℕ) → ArgMatches → Type 0
AreMatchesOf names words m = rows_of (found_of m) ≡ rows_after (rules_named names) [] words

-- the rows after one more setting, which takes the place of an earlier one
abbrev pub row_set : List Row → Setting → List Row
row_set rows setting =
    with_values setting.name AsWritten CommandLine (setting.value ∷ []) (without setting.name rows)

-- each setting is a row
abbrev pub AreAssigned : List Setting → ArgMatches → Type 0
AreAssigned settings m = rows_of (found_of m) ≡ fold row_set [] settings
