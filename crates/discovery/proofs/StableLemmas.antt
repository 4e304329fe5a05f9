-- The listed versions of a group stand in order of stability.
use Rattle.std.proofs.Common.{◌≡◌, ◌≢◌, ℕ, ◌&&◌, Bool, true, false, Ordering, Less, Equal, Greater, List, [], ◌∷◌, map, refl, sym, ◌∙◌, ap, subst, inl, inr}
use Rattle.std.specs.Prelude.{filter}
use Rattle.std.specs.Cmp.Lexicographic.{slice_cmp}
use Rattle.std.specs.Ordering.{nat_cmp, ordering_then}
use Rattle.std.specs.List.{dedup, dedup_from, AllByRecursion}
use Rattle.std.specs.List.Sorted.{IsStrictlySortedBy}
use Rattle.std.specs.Str.{bytes_eq}
use Rattle.std.proofs.lemmas.Bool.{cases_Bool, and_parts, false≢true}
use Rattle.std.proofs.lemmas.Cmp.{nat_list_cmp_total, tied_itself}
use Rattle.std.proofs.lemmas.Map.Keys.{sorted_head, sorted_tail}
use Rattle.std.proofs.lemmas.Slice.Eq.{bytes_eq-Decides}
use Rattle.lifecycle.specs.Stability.{by_stability}
use Rattle.lifecycle.specs.Version.{IsWord, word_text}
use Rattle.lifecycle.specs.declared.version.VersionWord.{VersionWord}
use Rattle.lifecycle.proofs.WordLemmas.{word_text_injective, exact_words}
use Rattle.release_view.specs.Kept.{IsSpelled}
use Rattle.release_view.specs.Known.{AreInPlace, by_place}
use Rattle.release_view.specs.Order.{by_stability_total}
use Rattle.release_view.specs.Served.{served_of}
use Rattle.release_view.specs.declared.known.KnownVersion.{KnownVersion}
use Rattle.release_view.specs.declared.served.ServedVersion.{ServedVersion}
use Rattle.discovery.specs.Groups.{is_in, versions_in}
use Rattle.discovery.specs.Laws.{AreByStability}
use Rattle.discovery.specs.Resources.{resources_in}

abbrev WordsRise : List KnownVersion → Type 0
WordsRise [] = Unit {0}
WordsRise (x ∷ xs) = AllByRecursion (λ y. by_stability x.word y.word ≢ Greater) xs × WordsRise xs

abbrev texts : List KnownVersion → List (List ℕ)
texts vs = map (λ (v : KnownVersion). v.table.version) vs

strict_cons : (k : VersionWord) (ks : List VersionWord) → AllByRecursion (λ y. by_stability k y ≡ Less) ks → IsStrictlySortedBy by_stability ks → IsStrictlySortedBy by_stability (k ∷ ks)
unfolding IsStrictlySortedBy
strict_cons k ks h g = (h, g)

strict_nil : IsStrictlySortedBy by_stability []
unfolding IsStrictlySortedBy
strict_nil = tt

less_at : (k x : VersionWord) (o : Ordering) → by_stability k x ≡ o → by_stability k x ≢ Greater → bytes_eq (word_text x) (word_text k) ≡ false → by_stability k x ≡ Less
less_at k x Less e h apart = e
less_at k x Equal e h apart = absurd (false≢true (sym apart ∙ (bytes_eq-Decides (word_text x) (word_text k)).1 (ap word_text (sym (exact_words k x e)))))
less_at k x Greater e h apart = absurd (h e)

less_on : (k x y : VersionWord) (o : Ordering) → by_stability x y ≡ o → by_stability k x ≡ Less → by_stability x y ≢ Greater → by_stability k y ≡ Less
less_on k x y Less e less h = by_stability_total.trans k x y less e
less_on k x y Equal e less h = subst (λ z. by_stability k z ≡ Less) (exact_words x y e) less
less_on k x y Greater e less h = absurd (h e)

all_less : (k x : VersionWord) (ws : List VersionWord) → by_stability k x ≡ Less → AllByRecursion (λ w. by_stability x w ≢ Greater) ws → AllByRecursion (λ w. by_stability k w ≡ Less) ws
all_less k x [] less h = tt
all_less k x (w ∷ ws) less h = (less_on k x w (by_stability x w) refl less h.0, all_less k x ws less h.1)

all_low : (k : VersionWord) (ws : List VersionWord) → AllByRecursion (λ w. by_stability k w ≡ Less) ws → AllByRecursion (λ w. by_stability k w ≢ Greater) ws
all_low k [] h = tt
all_low k (w ∷ ws) h = ((λ e. let clash : Less ≡ Greater = sym h.0 ∙ e in cc), all_low k ws h.1)

not_above_itself : (k : VersionWord) → by_stability k k ≢ Greater
not_above_itself k e = let clash : Equal ≡ Greater = sym (tied_itself by_stability_total k) ∙ e in cc

-- words of the kept texts
record Words (k : VersionWord) (kept : List (List ℕ)) : Type 0 where
  pub words : List VersionWord
  pub strict : IsStrictlySortedBy by_stability words
  pub low : AllByRecursion (λ w. by_stability k w ≢ Greater) words
  pub spell : map word_text words ≡ kept

words_from : (k : VersionWord) (t : List ℕ) (vs : List KnownVersion) → IsWord k → t ≡ word_text k → AllByRecursion IsSpelled vs → AllByRecursion (λ v. by_stability k v.word ≢ Greater) vs → WordsRise vs → Words k (dedup_from bytes_eq t (texts vs))
words_from k t [] word text all low rise = record { words = k ∷ []; strict = strict_cons k [] tt strict_nil; low = (not_above_itself k, tt); spell = ap (λ x. x ∷ []) (sym text) }
words_from k t (v ∷ vs) word text all low rise = elim (cases_Bool (bytes_eq v.table.version t)) [
  | inl same ↦ rw same (words_from k t vs word text all.1 low.1 rise.1)
  | inr apart ↦
      (let differ : bytes_eq (word_text v.word) (word_text k) ≡ false = ap (λ x. bytes_eq x (word_text k)) (sym all.0.text) ∙ ap (bytes_eq v.table.version) (sym text) ∙ apart in
      let less = less_at k v.word (by_stability k v.word) refl low.0 differ in
      let rest = words_from v.word v.table.version vs all.0.lawful all.0.text all.1 rise.0 rise.1 in
      let above = all_less k v.word rest.words less rest.low in
      rw apart (record { words = k ∷ rest.words; strict = strict_cons k rest.words above rest.strict; low = (not_above_itself k, all_low k rest.words above); spell = ap (λ x. x ∷ map word_text rest.words) (sym text) ∙ ap (λ xs. t ∷ xs) rest.spell }))
]

words_of : (vs : List KnownVersion) → AllByRecursion IsSpelled vs → WordsRise vs → AreByStability (dedup bytes_eq (texts vs))
words_of [] all rise = ([], strict_nil, refl)
words_of (v ∷ vs) all rise = let r = words_from v.word v.table.version vs all.0.lawful all.0.text all.1 rise.0 rise.1 in (r.words, r.strict, r.spell)

module _ (g : List ℕ) where
  abbrev own : KnownVersion → Bool
  own v = v.served && bytes_eq v.table.group g

  own_texts : (vs : List KnownVersion) → map (λ (s : ServedVersion). s.version) (filter (is_in g) (served_of vs)) ≡ texts (filter own vs)
  own_texts [] = refl
  own_texts (v ∷ vs) = elim (cases_Bool v.served) [
    | inr off ↦ rw off (own_texts vs)
    | inl on ↦ elim (cases_Bool (bytes_eq v.table.group g)) [
      | inl same ↦ rw (on, same) (ap (λ xs. v.table.version ∷ xs) (own_texts vs))
      | inr apart ↦ rw (on, apart) (own_texts vs)
    ]
  ]

  own_spelled : (vs : List KnownVersion) → AllByRecursion IsSpelled vs → AllByRecursion IsSpelled (filter own vs)
  own_spelled [] h = tt
  own_spelled (v ∷ vs) h = elim (cases_Bool (own v)) [ inl on ↦ rw on (h.0, own_spelled vs h.1) | inr off ↦ rw off (own_spelled vs h.1) ]

  not_above : (o p q : Ordering) → o ≡ Equal → ordering_then (ordering_then o p) q ≡ Less → p ≢ Greater
  not_above Equal Less q tied less e = let clash : Less ≡ Greater = e in cc
  not_above Equal Equal q tied less e = let clash : Equal ≡ Greater = e in cc
  not_above Equal Greater q tied less e = let clash : Greater ≡ Less = less in cc
  not_above Less p q tied less e = let clash : Less ≡ Equal = tied in cc
  not_above Greater p q tied less e = let clash : Greater ≡ Equal = tied in cc

  group_of : (v : KnownVersion) → own v ≡ true → v.table.group ≡ g
  group_of v h = (bytes_eq-Decides v.table.group g).0 (and_parts v.served (bytes_eq v.table.group g) h).1

  own_later : (x : KnownVersion) (vs : List KnownVersion) → own x ≡ true → AllByRecursion (λ y. by_place x y ≡ Less) vs → AllByRecursion (λ y. by_stability x.word y.word ≢ Greater) (filter own vs)
  own_later x [] is h = tt
  own_later x (v ∷ vs) is h = elim (cases_Bool (own v)) [
    | inl on ↦
        (let tied : slice_cmp nat_cmp x.table.group v.table.group ≡ Equal = ap (slice_cmp nat_cmp x.table.group) (group_of v on ∙ sym (group_of x is)) ∙ tied_itself nat_list_cmp_total x.table.group in
        rw on (not_above _ _ _ tied h.0, own_later x vs is h.1))
    | inr off ↦ rw off (own_later x vs is h.1)
  ]

  own_rise : (vs : List KnownVersion) → AreInPlace vs → WordsRise (filter own vs)
  own_rise [] h = tt
  own_rise (v ∷ vs) h = elim (cases_Bool (own v)) [
    | inl on ↦ rw on (own_later v vs on (sorted_head by_place v vs h), own_rise vs (sorted_tail by_place v vs h))
    | inr off ↦ rw off (own_rise vs (sorted_tail by_place v vs h))
  ]

  pub stable : (vs : List KnownVersion) → AreInPlace vs → AllByRecursion IsSpelled vs → AreByStability (versions_in (served_of vs) g)
  stable vs place spelled =
      let r = words_of (filter own vs) (own_spelled vs spelled) (own_rise vs place) in
      (r.0, r.1, r.2 ∙ ap (dedup bytes_eq) (sym (own_texts vs)))

-- ---- the resources of a version

strict_texts : (k : List ℕ) (ks : List (List ℕ)) → AllByRecursion (λ y. slice_cmp nat_cmp k y ≡ Less) ks → IsStrictlySortedBy (slice_cmp nat_cmp) ks → IsStrictlySortedBy (slice_cmp nat_cmp) (k ∷ ks)
unfolding IsStrictlySortedBy
strict_texts k ks h g = (h, g)

no_texts : IsStrictlySortedBy (slice_cmp nat_cmp) []
unfolding IsStrictlySortedBy
no_texts = tt

third_less : (o p q : Ordering) → o ≡ Equal → p ≡ Equal → ordering_then (ordering_then o p) q ≡ Less → q ≡ Less
third_less Equal Equal q a b less = less
third_less Equal Less q a b less = let clash : Less ≡ Equal = b in cc
third_less Equal Greater q a b less = let clash : Greater ≡ Equal = b in cc
third_less Less p q a b less = let clash : Less ≡ Equal = a in cc
third_less Greater p q a b less = let clash : Greater ≡ Equal = a in cc

module _ (g t : List ℕ) where
  abbrev of : KnownVersion → Bool
  of v = bytes_eq v.table.group g && bytes_eq v.table.version t

  of_parts : (v : KnownVersion) → of v ≡ true → (v.table.group ≡ g) × (v.table.version ≡ t)
  of_parts v h = let (a, b) = and_parts (bytes_eq v.table.group g) (bytes_eq v.table.version t) h in ((bytes_eq-Decides v.table.group g).0 a, (bytes_eq-Decides v.table.version t).0 b)

  abbrev names : List KnownVersion → List (List ℕ)
  names vs = map (λ (s : ServedVersion). s.resource) (resources_in (served_of vs) g t)

  resource_less : (x y : KnownVersion) → IsSpelled x → IsSpelled y → of x ≡ true → of y ≡ true → by_place x y ≡ Less → slice_cmp nat_cmp x.table.resource y.table.resource ≡ Less
  resource_less x y p q a b less =
      let (gx, tx) = of_parts x a in
      let (gy, ty) = of_parts y b in
      let word : x.word ≡ y.word = word_text_injective x.word y.word p.lawful q.lawful (sym p.text ∙ tx ∙ sym ty ∙ q.text) in
      let groups : slice_cmp nat_cmp x.table.group y.table.group ≡ Equal = ap (slice_cmp nat_cmp x.table.group) (gy ∙ sym gx) ∙ tied_itself nat_list_cmp_total x.table.group in
      let words : by_stability x.word y.word ≡ Equal = ap (by_stability x.word) (sym word) ∙ tied_itself by_stability_total x.word in
      third_less _ _ _ groups words less

  names_later : (x : KnownVersion) (vs : List KnownVersion) → IsSpelled x → AllByRecursion IsSpelled vs → of x ≡ true → AllByRecursion (λ y. by_place x y ≡ Less) vs → AllByRecursion (λ r. slice_cmp nat_cmp x.table.resource r ≡ Less) (names vs)
  names_later x [] p all a h = tt
  names_later x (v ∷ vs) p all a h = elim (cases_Bool v.served) [
    | inr off ↦ rw off (names_later x vs p all.1 a h.1)
    | inl on ↦ elim (cases_Bool (of v)) [
      | inl is ↦ rw (on, is) (resource_less x v p all.0 a is h.0, names_later x vs p all.1 a h.1)
      | inr other ↦ rw (on, other) (names_later x vs p all.1 a h.1)
    ]
  ]

  pub names_rise : (vs : List KnownVersion) → AreInPlace vs → AllByRecursion IsSpelled vs → IsStrictlySortedBy (slice_cmp nat_cmp) (names vs)
  names_rise [] h all = no_texts
  names_rise (v ∷ vs) h all = elim (cases_Bool v.served) [
    | inr off ↦ rw off (names_rise vs (sorted_tail by_place v vs h) all.1)
    | inl on ↦ elim (cases_Bool (of v)) [
      | inl is ↦ rw (on, is) (strict_texts v.table.resource (names vs) (names_later v vs all.0 all.1 is (sorted_head by_place v vs h)) (names_rise vs (sorted_tail by_place v vs h) all.1))
      | inr other ↦ rw (on, other) (names_rise vs (sorted_tail by_place v vs h) all.1)
    ]
  ]
