-- Words as settings, one word after the other.
use Rattle.std.proofs.Common.{◌≡◌, ℕ, ◌+◌, ◌<◌, true, false, List, [], ◌∷◌, ◌++◌, length, get_or, drop, cond, Option, Some, None, Bor, refl, sym, ◌∙◌, ap, append_assoc, add-one}
use Rattle.std.specs.Prelude.{option_map}
use Rattle.std.proofs.lemmas.List.{map-append}
use Rattle.std.proofs.Math.Seq.{drop-cons}
use Rattle.words.specs.Settings.{Setting, texts_of, setting_of, settings_in, settings_of, has_equals, begins_with_dash, joined, apart, and_more}
use Rattle.words.specs.Table.{text_of}
use Rattle.words.specs.declared.settings.Given.{Given}

-- the settings of the words that are left, behind a name that waits for its value
abbrev pub left : Option (List ℕ) → List (List ℕ) → Option (List Setting)
left None words = settings_of words
left (Some name) [] = None
left (Some name) (next ∷ rest) = cond (begins_with_dash next) None (and_more (apart name next) (settings_of rest))

abbrev pub behind : List Setting → Option (List Setting) → Option (List Setting)
behind first more = option_map (λ m. first ++ m) more

-- the settings so far, and those of the words that are left
abbrev pub Stands : List (Bor (List ℕ)) → List Given → Option (Bor (List ℕ)) → ℕ → Type 0
Stands words first waiting i =
    settings_of (texts_of words) ≡ behind (settings_in first) (left (text_of waiting) (texts_of (drop i words)))

behind_none : (o : Option (List Setting)) → o ≡ behind [] o
behind_none None = refl
behind_none (Some m) = refl

pub stands_first : (words : List (Bor (List ℕ))) → Stands words [] None 0
stands_first words = behind_none (settings_of (texts_of words))

-- ---- one word

next_joined : (w : List ℕ) (rest : List (List ℕ)) → has_equals w ≡ true → left None (w ∷ rest) ≡ and_more (joined w) (left None rest)
next_joined w [] h = ap (λ b. cond b (Some (joined w ∷ [])) None) h
next_joined w (n ∷ rest) h = ap (λ b. cond b (and_more (joined w) (settings_of (n ∷ rest))) (cond (begins_with_dash n) None (and_more (apart w n) (settings_of rest)))) h

next_waits : (w : List ℕ) (rest : List (List ℕ)) → has_equals w ≡ false → left None (w ∷ rest) ≡ left (Some w) rest
next_waits w [] h = ap (λ b. cond b (Some (joined w ∷ [])) None) h
next_waits w (n ∷ rest) h = ap (λ b. cond b (and_more (joined w) (settings_of (n ∷ rest))) (cond (begins_with_dash n) None (and_more (apart w n) (settings_of rest)))) h

behind_more : (first : List Setting) (s : Setting) (o : Option (List Setting)) → behind first (and_more s o) ≡ behind (first ++ s ∷ []) o
behind_more first s None = refl
behind_more first s (Some m) = ap (λ xs. Some xs) (sym (append_assoc first (s ∷ []) m))

one_more : (first : List Given) (g : Given) → settings_in (first ++ g ∷ []) ≡ settings_in first ++ setting_of g ∷ []
one_more first g = map-append setting_of first (g ∷ [])

module _ (words : List (Bor (List ℕ))) (first : List Given) (waiting : Option (Bor (List ℕ))) (i : ℕ) (d : Bor (List ℕ)) (within : i < length words) (stands : Stands words first waiting i) where
  abbrev here : Bor (List ℕ)
  here = get_or words i d

  rest_is : texts_of (drop i words) ≡ here.now ∷ texts_of (drop (i + 1) words)
  rest_is = ap texts_of cons
    where
      cons : drop i words ≡ here ∷ drop (i + 1) words
      cons = rw add-one (drop-cons words i d within)

  so : (o : Option (Bor (List ℕ))) → waiting ≡ o → settings_of (texts_of words) ≡ behind (settings_in first) (left (text_of o) (here.now ∷ texts_of (drop (i + 1) words)))
  so o is = stands ∙ ap (λ x. behind (settings_in first) (left (text_of x) (texts_of (drop i words)))) is
      ∙ ap (λ ws. behind (settings_in first) (left (text_of o) ws)) rest_is

  added : (s : Setting) (g : Given) → setting_of g ≡ s → (o : Option (List Setting)) → behind (settings_in first) (and_more s o) ≡ behind (settings_in (first ++ g ∷ [])) o
  added s g is o = behind_more (settings_in first) s o ∙ ap (λ xs. behind xs o) (ap (λ x. settings_in first ++ x ∷ []) (sym is) ∙ sym (one_more first g))

  pub joined_next : (g : Given) → waiting ≡ None → has_equals here.now ≡ true → setting_of g ≡ joined here.now → Stands words (first ++ g ∷ []) None (i + 1)
  joined_next g none has is = so None none ∙ ap (behind (settings_in first)) (next_joined here.now (texts_of (drop (i + 1) words)) has)
      ∙ added (joined here.now) g is (settings_of (texts_of (drop (i + 1) words)))

  pub waits_next : waiting ≡ None → has_equals here.now ≡ false → Stands words first (Some here) (i + 1)
  waits_next none has = so None none ∙ ap (behind (settings_in first)) (next_waits here.now (texts_of (drop (i + 1) words)) has)

  pub apart_next : (n : Bor (List ℕ)) → waiting ≡ Some n → begins_with_dash here.now ≡ false → Stands words (first ++ record { name = n; value = here } ∷ []) None (i + 1)
  apart_next n some no_dash = so (Some n) some
      ∙ ap (λ b. behind (settings_in first) (cond b None (and_more (apart n.now here.now) (settings_of (texts_of (drop (i + 1) words)))))) no_dash
      ∙ added (apart n.now here.now) (record { name = n; value = here }) refl (settings_of (texts_of (drop (i + 1) words)))

  pub refused_next : (n : Bor (List ℕ)) → waiting ≡ Some n → begins_with_dash here.now ≡ true → settings_of (texts_of words) ≡ None
  refused_next n some dash = so (Some n) some
      ∙ ap (λ b. behind (settings_in first) (cond b None (and_more (apart n.now here.now) (settings_of (texts_of (drop (i + 1) words)))))) dash
