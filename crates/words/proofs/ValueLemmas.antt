-- The values that settings give to options, one setting after the other.
use Rattle.std.proofs.Common.{◌≡◌, ◌≢◌, ℕ, ◌+◌, ◌<◌, ◌&&◌, ◌||◌, true, false, List, [], ◌∷◌, ◌++◌, length, get_or, take, drop, Option, Some, None, IfSome, IfNone, is_some, Bor, refl, sym, ◌∙◌, ap, ap₂, append-nil}
use Rattle.std.proofs.lemmas.List.{take-append-drop, take_more, map-append}
use Rattle.std.proofs.lemmas.List.Elements.{filter_map-append}
use Rattle.std.specs.List.{list_any, list_all}
use Rattle.std.specs.Option.{option_to_list}
use Rattle.std.specs.Str.{bytes_eq}
use Rattle.words.specs.Settings.{Setting, texts_of, setting_of, settings_in}
use Rattle.words.specs.Table.{at_most_one, is_named, text_of, value_for, values_of}
use Rattle.words.specs.declared.settings.Given.{Given}

any_is : (names : List (Bor (List ℕ))) (s : Setting) → list_any (λ name. bytes_eq s.name name.now) names ≡ is_named (texts_of names) s
any_is [] s = refl
any_is (n ∷ ns) s = ap (λ b. bytes_eq s.name n.now || b) (any_is ns s)

-- the settings as they are held have these names
pub named_is : (names : List (Bor (List ℕ))) (given : List Given) → list_all (λ s. list_any (λ name. bytes_eq s.name.now name.now) names) given ≡ list_all (is_named (texts_of names)) (settings_in given)
named_is names [] = refl
named_is names (g ∷ gs) = ap₂ (λ a b. a && b) (any_is names (setting_of g)) (named_is names gs)

one_value : (name : List ℕ) (s : Setting) (o : Option (List ℕ)) → value_for name s ≡ o → values_of name (s ∷ []) ≡ option_to_list o
one_value name s None is = rw is refl
one_value name s (Some v) is = rw is refl

values_more : (name : List ℕ) (given : List Given) (i : ℕ) (d : Given) → i < length given
    → values_of name (settings_in (take (i + 1) given)) ≡ values_of name (settings_in (take i given)) ++ option_to_list (value_for name (setting_of (get_or given i d)))
values_more name given i d within =
    let texts : settings_in (take (i + 1) given) ≡ settings_in (take i given) ++ setting_of (get_or given i d) ∷ [] =
    ap settings_in (take_more given i d within) ∙ map-append setting_of (take i given) (get_or given i d ∷ []) in
    ap (values_of name) texts ∙ filter_map-append (value_for name) (settings_in (take i given)) (setting_of (get_or given i d) ∷ [])
    ∙ ap (λ vs. values_of name (settings_in (take i given)) ++ vs) (one_value name (setting_of (get_or given i d)) (value_for name (setting_of (get_or given i d))) refl)

module _ (name : List ℕ) (given : List Given) (i : ℕ) (d : Given) (found here : Option (Bor (List ℕ))) (within : i < length given) (before : values_of name (settings_in (take i given)) ≡ option_to_list (text_of found))
    (is : text_of here ≡ value_for name (setting_of (get_or given i d))) where
  more : (o : Option (Bor (List ℕ))) → here ≡ o → values_of name (settings_in (take (i + 1) given)) ≡ option_to_list (text_of found) ++ option_to_list (text_of o)
  more o same = values_more name given i d within ∙ ap₂ (λ vs ws. vs ++ option_to_list ws) before (sym is ∙ ap text_of same)

  pub after_none : here ≡ None → values_of name (settings_in (take (i + 1) given)) ≡ option_to_list (text_of found)
  after_none none = more None none ∙ append-nil (option_to_list (text_of found))

  pub after_one : (v : Bor (List ℕ)) → here ≡ Some v → is_some found ≡ false → values_of name (settings_in (take (i + 1) given)) ≡ option_to_list (text_of (Some v))
  after_one v some first = more (Some v) some ∙ by found first
    where
      by : (o : Option (Bor (List ℕ))) → is_some o ≡ false → option_to_list (text_of o) ++ v.now ∷ [] ≡ v.now ∷ []
      by None e = refl
      by (Some u) e = absurd cc

  pub after_two : (v : Bor (List ℕ)) → here ≡ Some v → is_some found ≡ true → (x : Option (List ℕ)) → values_of name (settings_in given) ≢ option_to_list x
  after_two v some second x h =
      by found second x
      (ap (λ vs. vs ++ values_of name (settings_in (drop (i + 1) given))) (sym (more (Some v) some)) ∙ sym (filter_map-append (value_for name) (settings_in (take (i + 1) given)) (settings_in (drop (i + 1) given)))
      ∙ ap (values_of name) (sym (map-append setting_of (take (i + 1) given) (drop (i + 1) given)) ∙ ap settings_in (take-append-drop (i + 1) given)) ∙ h)
    where
      by : (o : Option (Bor (List ℕ))) → is_some o ≡ true → (y : Option (List ℕ)) → ((option_to_list (text_of o) ++ v.now ∷ []) ++ values_of name (settings_in (drop (i + 1) given))) ≢ option_to_list y
      by None e y k = cc
      by (Some u) e None k = cc
      by (Some u) e (Some y) k = cc

-- the settings give an option one value or none, or else more
pub once_is : (values : List (List ℕ)) (r : Option (Option (Bor (List ℕ)))) → IfSome r (λ o. values ≡ option_to_list (text_of o)) → IfNone r ((x : Option (List ℕ)) → values ≢ option_to_list x) → is_some r ≡ at_most_one values
once_is values (Some None) some none = rw some refl
once_is values (Some (Some v)) some none = rw some refl
once_is [] None some none = absurd (none None refl)
once_is (v ∷ []) None some none = absurd (none (Some v) refl)
once_is (v ∷ w ∷ vs) None some none = refl
