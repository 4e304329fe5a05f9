-- Words are of one command at most.
use Rattle.std.proofs.Common.{◌≡◌, ℕ, ◌≤◌, ◌<◌, List, [], ◌∷◌, Option, Some, None, refl, sym, subst, ◌∙◌, ap, ap₂, arith, decimal}
use Rattle.std.proofs.lemmas.Fmt.{decimal_injective}
use Rattle.std.specs.Option.{option_to_list}
use Rattle.words.specs.Settings.{Setting, settings_of}
use Rattle.words.specs.Table.{Choice, Give, row_of, with_flags}
use Rattle.words.specs.Laws.{HasOneCommand}
use Rattle.words.specs.declared.command.Command.{Command}
use Rattle.words.specs.declared.command.Command.TheVariants.{Discover, Gates, Check, Fold, Cut, Convert, Twin, Serve, Replay}
use Rattle.words.specs.declared.command.FlagTexts.{FlagTexts}
use Rattle.words.proofs.KindLemmas.{OfKind, kind, named_so, of_name}

-- ---- what settings give

one_may : (values : List (List ℕ)) (o p : Option (List ℕ)) → values ≡ option_to_list o → values ≡ option_to_list p → o ≡ p
one_may values None None h k = refl
one_may values None (Some q) h k = let e = sym h ∙ k in cc
one_may values (Some o) None h k = let e = sym h ∙ k in cc
one_may values (Some o) (Some q) h k = let e = sym h ∙ k in cc

one_must : (values : List (List ℕ)) (t u : List ℕ) → values ≡ t ∷ [] → values ≡ u ∷ [] → t ≡ u
one_must values t u h k = let e = sym h ∙ k in cc

one_number : (values : List (List ℕ)) (high m n : ℕ) → high < 18446744073709551616 → (values ≡ decimal m ∷ []) × (m ≤ high) → (values ≡ decimal n ∷ []) × (n ≤ high) → m ≡ n
one_number values high m n few h k = decimal_injective m n (omega arith) (omega arith) (one_must values (decimal m) (decimal n) h.0 k.0)

module _ (ss : List Setting) where
  one_flags : (f g : FlagTexts) (os ps : List Choice) → Give ss (with_flags f os) → Give ss (with_flags g ps) → f ≡ g
  one_flags f g os ps h k =
      let a = one_may _ _ _ h.given.0 k.given.0 in
      let b = one_may _ _ _ h.given.1.0 k.given.1.0 in
      let c = one_may _ _ _ h.given.1.1.0 k.given.1.1.0 in
      let d = one_may _ _ _ h.given.1.1.1.0 k.given.1.1.1.0 in
      λ i. record { emulated = a i; min_compatibility = b i; features = c i; runtime = d i }

  -- commands of one row that the settings give are one
  same_row : (c : Command) → Give ss (row_of c).options → OfKind (λ d. Give ss (row_of d).options → c ≡ d) (kind c)
  same_row (Discover e r) h = λ e' r' k. ap₂ (λ x y. Discover x y) (one_may _ _ _ h.given.0 k.given.0) (one_may _ _ _ h.given.1.0 k.given.1.0)
  same_row (Gates e f) h = λ e' f' k. ap₂ (λ x y. Gates x y) (one_may _ _ _ h.given.0 k.given.0) (one_may _ _ _ h.given.1.0 k.given.1.0)
  same_row Check h = λ k. refl
  same_row Fold h = λ k. refl
  same_row (Cut at) h = λ at' k. ap (λ x. Cut x) (one_must _ _ _ h.given.0 k.given.0)
  same_row (Convert e o t) h = λ e' o' t' k.
      let a = one_may _ _ _ h.given.0 k.given.0 in
      let b = one_must _ _ _ h.given.1.0 k.given.1.0 in
      let c = one_must _ _ _ h.given.1.1.0 k.given.1.1.0 in
      λ i. Convert (a i) (b i) (c i)
  same_row (Twin f s n) h = λ f' s' n' k.
      let a = one_flags f f' _ _ h k in
      let hs = h.given.1.1.1.1 in let ks = k.given.1.1.1.1 in
      let b = one_number _ 18446744073709551615 s s' (omega arith) (hs.0.0, hs.0.2) (ks.0.0, ks.0.2) in
      let c = one_number _ 10000 n n' (omega arith) (hs.1.0.0, hs.1.0.2) (ks.1.0.0, ks.1.0.2) in
      λ i. Twin (a i) (b i) (c i)
  same_row (Serve f s p n) h = λ f' s' p' n' k.
      let a = one_flags f f' _ _ h k in
      let hs = h.given.1.1.1.1 in let ks = k.given.1.1.1.1 in
      let b = one_must _ s s' hs.0 ks.0 in
      let c = one_number _ 65535 p p' (omega arith) (hs.1.0.0, hs.1.0.2) (ks.1.0.0, ks.1.0.2) in
      let d = one_number _ 1000000 n n' (omega arith) (hs.1.1.0.0, hs.1.1.0.2) (ks.1.1.0.0, ks.1.1.0.2) in
      λ i. Serve (a i) (b i) (c i) (d i)
  same_row (Replay f s t) h = λ f' s' t' k.
      let a = one_flags f f' _ _ h k in
      let hs = h.given.1.1.1.1 in let ks = k.given.1.1.1.1 in
      let b = one_must _ s s' hs.0 ks.0 in
      let c = one_must _ t t' hs.1.0 ks.1.0 in
      λ i. Replay (a i) (b i) (c i)

-- ---- words

abbrev first_word : List (List ℕ) → List ℕ
first_word [] = []
first_word (word ∷ words) = word

abbrev later_words : List (List ℕ) → List (List ℕ)
later_words [] = []
later_words (word ∷ words) = words

same_settings : (o : Option (List Setting)) (ss ts : List Setting) → o ≡ Some ss → o ≡ Some ts → ss ≡ ts
same_settings o ss ts h k = cc

pub one_command : (words : List (List ℕ)) → HasOneCommand words
one_command words c d h k =
    let name : (row_of d).name ≡ (row_of c).name = ap first_word (sym k.named ∙ h.named) in
    let behind : k.behind ≡ h.behind = ap later_words (sym k.named ∙ h.named) in
    let settings : k.settings ≡ h.settings = same_settings (settings_of h.behind) k.settings h.settings (subst (λ b. settings_of b ≡ Some k.settings) behind k.set) h.set in
    let give : Give h.settings (row_of d).options = subst (λ ss. Give ss (row_of d).options) settings k.give in
    of_name (λ x. Give h.settings (row_of x).options → c ≡ x) (row_of c).name d name
    (subst (OfKind (λ x. Give h.settings (row_of x).options → c ≡ x)) (sym (named_so c)) (same_row h.settings c h.give)) give
