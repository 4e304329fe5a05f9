-- The walk meets each option of each command, so the matches of lawful words assign their settings.
use Rattle.std.proofs.Common.{◌≡◌, ◌&&◌, ℕ, true, List, [], ◌∷◌, map, Option, Some, None, refl, sym, ◌∙◌, ap, ap₂, codes}
use Rattle.std.specs.List.{AllByRecursion, list_all}
use Rattle.std.specs.Option.{option_to_list}
use Rattle.clap.specs.Matches.{found_of, first_value}
use Rattle.clap.specs.Walk.{first_of, walked}
use Rattle.clap.proofs.WalkLemmas.{first_value-rows}
use Rattle.clap.specs.declared.parser.matches.ArgMatches.{ArgMatches}
use Rattle.words.specs.Assigned.{AreAssigned, AreMatchesOf, rules_named}
use Rattle.words.specs.Settings.{Setting, settings_of}
use Rattle.words.specs.Table.{Choice, IsGiven, is_named, is_once, may, must, name_of, number, values_of}
use Rattle.words.proofs.WalkLemmas.{IsMet, any_is_met, rows_are_set, value_assigned}

pub assigned : (names words : List (List ℕ)) (ss : List Setting) (m : ArgMatches) → AllByRecursion (IsMet (rules_named names)) names → settings_of words ≡ Some ss → list_all (is_named names) ss ≡ true
    → AreMatchesOf names words m → AreAssigned ss m
assigned names words ss m met set known is = is ∙ rows_are_set names words ss (any_is_met (rules_named names) names met) set known

-- what `get_str` gives
pub value_got : (ss : List Setting) (m : ArgMatches) (n : List ℕ) (o r : Option (List ℕ)) → AreAssigned ss m → values_of n ss ≡ option_to_list o → r ≡ first_value (found_of m) n → values_of n ss ≡ option_to_list r
value_got ss m n o r is given got =
    given ∙ ap option_to_list (sym (got ∙ first_value-rows (found_of m) n ∙ ap (first_of n) is ∙ value_assigned n ss o given))

-- what a command's options have is given at most once
once_given : (ss : List Setting) (o : Choice) → IsGiven ss o → is_once (name_of o) ss ≡ true
once_given ss (may n None) h = rw h refl
once_given ss (may n (Some v)) h = rw h refl
once_given ss (must n v) h = rw h refl
once_given ss (number n low high k) h = rw h.0 refl

pub all_once : (ss : List Setting) (options : List Choice) → AllByRecursion (IsGiven ss) options → list_all (λ n. is_once n ss) (map name_of options) ≡ true
all_once ss [] h = refl
all_once ss (o ∷ os) h = ap₂ (λ a b. a && b) (once_given ss o h.0) (all_once ss os h.1)

abbrev pub discover_names : List (List ℕ)
discover_names = codes "--emulated-version" ∷ codes "--runtime-config" ∷ []

pub discover_met : AllByRecursion (IsMet (rules_named discover_names)) discover_names
unfolding walked
discover_met = (record { whole = λ h v. refl; alone = λ h. refl; found = refl }, (record { whole = λ h v. refl; alone = λ h. refl; found = refl }, tt))

abbrev pub gates_names : List (List ℕ)
gates_names = codes "--emulated-version" ∷ codes "--feature-gates" ∷ []

pub gates_met : AllByRecursion (IsMet (rules_named gates_names)) gates_names
unfolding walked
gates_met = (record { whole = λ h v. refl; alone = λ h. refl; found = refl }, (record { whole = λ h v. refl; alone = λ h. refl; found = refl }, tt))

abbrev pub cut_names : List (List ℕ)
cut_names = codes "--at" ∷ []

pub cut_met : AllByRecursion (IsMet (rules_named cut_names)) cut_names
unfolding walked
cut_met = (record { whole = λ h v. refl; alone = λ h. refl; found = refl }, tt)

abbrev pub convert_names : List (List ℕ)
convert_names = codes "--emulated-version" ∷ codes "--object" ∷ codes "--to" ∷ []

pub convert_met : AllByRecursion (IsMet (rules_named convert_names)) convert_names
unfolding walked
convert_met = (record { whole = λ h v. refl; alone = λ h. refl; found = refl }, (record { whole = λ h v. refl; alone = λ h. refl; found = refl }, (record { whole = λ h v. refl; alone = λ h. refl; found = refl }, tt)))

abbrev pub twin_names : List (List ℕ)
twin_names = codes "--emulated-version" ∷ codes "--min-compatibility-version" ∷ codes "--feature-gates" ∷ codes "--runtime-config" ∷ codes "--seed" ∷ codes "--size" ∷ []

pub twin_met : AllByRecursion (IsMet (rules_named twin_names)) twin_names
unfolding walked
twin_met = (record { whole = λ h v. refl; alone = λ h. refl; found = refl }, (record { whole = λ h v. refl; alone = λ h. refl; found = refl }, (record { whole = λ h v. refl; alone = λ h. refl; found = refl }, (record { whole = λ h v. refl; alone = λ h. refl; found = refl }, (record { whole = λ h v. refl; alone = λ h. refl; found = refl }, (record { whole = λ h v. refl; alone = λ h. refl; found = refl }, tt))))))

abbrev pub serve_names : List (List ℕ)
serve_names = codes "--emulated-version" ∷ codes "--min-compatibility-version" ∷ codes "--feature-gates" ∷ codes "--runtime-config" ∷ codes "--store" ∷ codes "--port" ∷ codes "--connections" ∷ []

pub serve_met : AllByRecursion (IsMet (rules_named serve_names)) serve_names
unfolding walked
serve_met = (record { whole = λ h v. refl; alone = λ h. refl; found = refl }, (record { whole = λ h v. refl; alone = λ h. refl; found = refl }, (record { whole = λ h v. refl; alone = λ h. refl; found = refl }, (record { whole = λ h v. refl; alone = λ h. refl; found = refl }, (record { whole = λ h v. refl; alone = λ h. refl; found = refl }, (record { whole = λ h v. refl; alone = λ h. refl; found = refl }, (record { whole = λ h v. refl; alone = λ h. refl; found = refl }, tt)))))))

abbrev pub replay_names : List (List ℕ)
replay_names = codes "--emulated-version" ∷ codes "--min-compatibility-version" ∷ codes "--feature-gates" ∷ codes "--runtime-config" ∷ codes "--store" ∷ codes "--script" ∷ []

pub replay_met : AllByRecursion (IsMet (rules_named replay_names)) replay_names
unfolding walked
replay_met = (record { whole = λ h v. refl; alone = λ h. refl; found = refl }, (record { whole = λ h v. refl; alone = λ h. refl; found = refl }, (record { whole = λ h v. refl; alone = λ h. refl; found = refl }, (record { whole = λ h v. refl; alone = λ h. refl; found = refl }, (record { whole = λ h v. refl; alone = λ h. refl; found = refl }, (record { whole = λ h v. refl; alone = λ h. refl; found = refl }, tt))))))
