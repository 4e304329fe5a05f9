-- How the map of first changes grows by an entry.
use Rattle.std.proofs.Common.{◌≡◌, ◌&&◌, ℕ, Bool, true, false, List, [], ◌∷◌, ◌++◌, Option, Some, None, cond, refl, sym, ◌∙◌, ap, inl, inr}
use Rattle.std.specs.Prelude.{find}
use Rattle.std.specs.Option.{is_some, option_map}
use Rattle.std.specs.Borrow.{Bor}
use Rattle.std.proofs.lemmas.Bool.{cases_Bool, cond-true, cond-false, false≢true, and_right}
use Rattle.basis.specs.NameMap.{value_at, is_same_name}
use Rattle.lifecycle.specs.Entry.{GroupVersionResource, subject}
use Rattle.lifecycle.specs.Tables.{is_of, first_change}
use Rattle.lifecycle.specs.declared.entry.ApiChange.{ApiChange}
use Rattle.lifecycle.specs.declared.entry.ApiEntry.{ApiEntry}
use Rattle.lifecycle.proofs.TableLemmas.{subject_is}
use Rattle.version_index.specs.Events.{ChangeMap, change_in}

-- one more element
find-push : {X : Type 0} (p : X → Bool) (xs : List X) (x : X) → find p (xs ++ x ∷ []) ≡ cond (is_some (find p xs)) (find p xs) (cond (p x) (Some x) None)
find-push p [] x = refl
find-push p (y ∷ ys) x = elim (cases_Bool (p y)) [
  | inl passes ↦ rw passes refl
  | inr fails ↦ rw fails (find-push p ys x)
]

is_none : {X : Type 0} (o : Option X) → is_some o ≡ false → o ≡ None
is_none None h = refl
is_none (Some x) h = absurd (false≢true (sym h))

find-push_fails : {X : Type 0} (p : X → Bool) (xs : List X) (x : X) → p x ≡ false → find p (xs ++ x ∷ []) ≡ find p xs
find-push_fails p xs x fails = find-push p xs x ∙ (elim (cases_Bool (is_some (find p xs))) [
  | inl found ↦ rw found refl
  | inr none ↦ rw (none, fails) (sym (is_none (find p xs) none))
])

find-push_found : {X : Type 0} (p : X → Bool) (xs : List X) (x : X) → is_some (find p xs) ≡ true → find p (xs ++ x ∷ []) ≡ find p xs
find-push_found p xs x found = find-push p xs x ∙ cond-true (is_some (find p xs)) (find p xs) (cond (p x) (Some x) None) found

find-push_new : {X : Type 0} (p : X → Bool) (xs : List X) (x : X) → is_some (find p xs) ≡ false → p x ≡ true → find p (xs ++ x ∷ []) ≡ Some x
find-push_new p xs x none passes = find-push p xs x ∙ rw (none, passes) refl

is_some-map : {X Y : Type 0} (f : X → Y) (o : Option X) → is_some (option_map f o) ≡ is_some o
is_some-map f None = refl
is_some-map f (Some x) = refl

abbrev Holds : (ApiChange → Bool) → List ApiEntry → ChangeMap → Type 0
Holds test tables m = (name : GroupVersionResource) → change_in m name ≡ first_change test tables name

module _ (test : ApiChange → Bool) (tables : List ApiEntry) (x : ApiEntry) where
  abbrev passes : GroupVersionResource → ApiEntry → Bool
  passes name y = is_of name y && test y.change

  -- an entry of another kind changes nothing
  pub other_kind : (m : ChangeMap) → test x.change ≡ false → Holds test tables m → Holds test (tables ++ x ∷ []) m
  other_kind m other h name = h name ∙ sym (find-push_fails (passes name) tables x (and_right (is_of name x) (test x.change) other))

  -- nor does one behind an earlier change of its version
  pub seen : (m : ChangeMap) (a b c : List ℕ) → a ≡ x.group → b ≡ x.version → c ≡ x.resource → is_some (value_at m a b c) ≡ true → Holds test tables m → Holds test (tables ++ x ∷ []) m
  seen m a b c p q r there h name = elim (cases_Bool (is_of name x)) [
    | inl of ↦
        let own : is_some (change_in m (subject x)) ≡ true = is_some-map (λ (y : Bor ApiEntry). y.now) (value_at m x.group x.version x.resource) ∙ ap (λ (k : List ℕ). is_some (value_at m k x.version x.resource)) (sym p) ∙ ap (λ (k : List ℕ). is_some (value_at m a k x.resource)) (sym q) ∙ ap (λ (k : List ℕ). is_some (value_at m a b k)) (sym r) ∙ there in
        let found : is_some (find (passes name) tables) ≡ true = ap is_some (sym (h name)) ∙ ap (λ n. is_some (change_in m n)) (sym (subject_is name x of)) ∙ own in
        h name ∙ sym (find-push_found (passes name) tables x found)
    | inr other ↦ h name ∙ sym (find-push_fails (passes name) tables x (ap (λ t. t && test x.change) other))
  ]

  -- the first such change of its version is put in
  pub put_in : (m n : ChangeMap) (v : Bor ApiEntry) (a b c : List ℕ) → a ≡ x.group → b ≡ x.version → c ≡ x.resource → v.now ≡ x → test x.change ≡ true → is_some (value_at m a b c) ≡ false
      → ((g w r : List ℕ) → value_at n g w r ≡ cond (is_same_name a b c g w r) (Some v) (value_at m g w r)) → Holds test tables m → Holds test (tables ++ x ∷ []) n
  put_in m n v a b c p q r is kind none puts h name =
      let same : is_same_name a b c name.group name.version name.resource ≡ is_of name x = ap (λ (k : List ℕ). is_same_name k b c name.group name.version name.resource) p ∙ ap (λ (k : List ℕ). is_same_name x.group k c name.group name.version name.resource) q ∙ ap (λ (k : List ℕ). is_same_name x.group x.version k name.group name.version name.resource) r in
      let now = puts name.group name.version name.resource in
      elim (cases_Bool (is_of name x)) [
        | inl of ↦
            let own : is_some (change_in m (subject x)) ≡ false = is_some-map (λ (y : Bor ApiEntry). y.now) (value_at m x.group x.version x.resource) ∙ ap (λ (k : List ℕ). is_some (value_at m k x.version x.resource)) (sym p) ∙ ap (λ (k : List ℕ). is_some (value_at m a k x.resource)) (sym q) ∙ ap (λ (k : List ℕ). is_some (value_at m a b k)) (sym r) ∙ none in
            let before : is_some (find (passes name) tables) ≡ false = ap is_some (sym (h name)) ∙ ap (λ n. is_some (change_in m n)) (sym (subject_is name x of)) ∙ own in
            let here : value_at n name.group name.version name.resource ≡ Some v = now ∙ cond-true (is_same_name a b c name.group name.version name.resource) (Some v) (value_at m name.group name.version name.resource) (same ∙ of) in
            ap (option_map (λ y. y.now)) here ∙ ap Some is ∙ sym (find-push_new (passes name) tables x before (rw (of, kind) refl))
        | inr other ↦
            let here : value_at n name.group name.version name.resource ≡ value_at m name.group name.version name.resource = now ∙ cond-false (is_same_name a b c name.group name.version name.resource) (Some v) (value_at m name.group name.version name.resource) (same ∙ other) in
            ap (option_map (λ y. y.now)) here ∙ h name ∙ sym (find-push_fails (passes name) tables x (ap (λ t. t && test x.change) other))
      ]
