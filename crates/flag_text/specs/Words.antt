-- The boolean words of flag texts.
use Rattle.std.specs.Prelude.{ℕ, Bool, true, false, List, [], ◌∷◌, Option, Some, None, if◌then◌else◌, codes}
use Rattle.std.specs.List.{list_any}
use Rattle.std.specs.Str.{bytes_eq}
use Rattle.flag_text.specs.declared.vocabulary.Vocabulary.{Vocabulary}
use Rattle.flag_text.specs.declared.vocabulary.Vocabulary.TheVariants.{Go, Plain}

abbrev pub true_words : Vocabulary → List (List ℕ)
true_words Go = codes "1" ∷ codes "t" ∷ codes "T" ∷ codes "TRUE" ∷ codes "true" ∷ codes "True" ∷ []
true_words Plain = codes "true" ∷ []

abbrev pub false_words : Vocabulary → List (List ℕ)
false_words Go =
    codes "0" ∷ codes "f" ∷ codes "F" ∷ codes "FALSE" ∷ codes "false" ∷ codes "False" ∷ []
false_words Plain = codes "false" ∷ []

-- the boolean that the word says
abbrev pub bool_of : Vocabulary → List ℕ → Option Bool
bool_of words word =
    (if list_any (bytes_eq word) (true_words words) then Some true
    else (if list_any (bytes_eq word) (false_words words) then Some false else None))
