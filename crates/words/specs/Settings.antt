-- Words as settings: an option's name and its value, in one of two forms.
use Rattle.std.specs.Prelude.{ℕ, ◌==◌, List, [], ◌∷◌, Bool, false, map}
use Rattle.std.specs.Prelude.{Some, None, option_map, if◌then◌else◌}
use Rattle.std.specs.Borrow.{Bor}
use Rattle.std.specs.List.{before_first, after_first, list_any}
use Rattle.std.specs.declared.option.Option.{Option}
use Rattle.words.specs.declared.settings.Given.{Given}

-- the texts of the words
abbrev pub texts_of : List (Bor (List ℕ)) → List (List ℕ)
texts_of words = map (λ w. w.now) words

-- an option's name, with its dashes, and the value that it is given
pub record Setting : Type 0 where
  pub name : List ℕ
  pub value : List ℕ

-- settings as the program holds them
abbrev pub setting_of : Given → Setting
setting_of given = record { name = given.name.now; value = given.value.now }

abbrev pub settings_in : List Given → List Setting
settings_in given = map setting_of given

abbrev pub is_equals : ℕ → Bool
is_equals c = c == 61

abbrev pub has_equals : List ℕ → Bool
has_equals word = list_any is_equals word

abbrev pub begins_with_dash : List ℕ → Bool
begins_with_dash [] = false
begins_with_dash (c ∷ text) = c == 45

-- `--name=value` in one word: the value is all that stands behind the first `=`
abbrev pub joined : List ℕ → Setting
joined word = record {
  name = before_first is_equals word;
  value = after_first is_equals word;
}

-- `--name` and the next word
abbrev pub apart : List ℕ → List ℕ → Setting
apart word next = record { name = word; value = next }

abbrev pub and_more : Setting → Option (List Setting) → Option (List Setting)
and_more setting settings = option_map (λ more. setting ∷ more) settings

-- the settings that the words are, where they are settings: a word without `=` takes the next word, which doesn't begin
-- with a dash
abbrev pub settings_of : List (List ℕ) → Option (List Setting)
settings_of [] = Some []
settings_of (word ∷ []) = if has_equals word then Some (joined word ∷ []) else None
settings_of (word ∷ next ∷ rest) =
    if has_equals word then and_more (joined word) (settings_of (next ∷ rest))
    else (if begins_with_dash next then None else and_more (apart word next) (settings_of rest))
