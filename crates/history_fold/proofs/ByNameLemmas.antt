-- How the map of the latest specs grows by an entry.
use Rattle.std.proofs.Common.{ℕ, ◌≡◌, ◌<◌, ◌≤◌, ◌&&◌, ◌||◌, List, [], ◌∷◌, ◌++◌, Bool, true, false, Option, Some, None, cond, refl, sym, ap, subst, ◌∙◌, arith, inl, inr}
use Rattle.std.specs.Prelude.{nat_le, nat_lt}
use Rattle.std.specs.List.{list_any}
use Rattle.std.specs.Option.{option_map_or}
use Rattle.std.specs.Str.{bytes_eq}
use Rattle.std.proofs.lemmas.Bool.{cases_Bool, cond-true, cond-false, and_from, false≢true, le-leb, leb-true, leb-false, ltb-true, lt-ltb}
use Rattle.std.proofs.lemmas.List.Folds.{list_any-append}
use Rattle.std.proofs.lemmas.Slice.Eq.{bytes_eq-Decides}
use Rattle.basis.specs.NameMap.{value_at, is_same_name}
use Rattle.basis.proofs.NameLemmas.{one_part, bytes_turned}
use Rattle.gate_spec.specs.Gates.{is_spec}
use Rattle.gate_spec.specs.declared.entry.GateEntry.{GateEntry}
use Rattle.history_fold.specs.Folded.{IsLaterSpec, is_later_spec}
use Rattle.history_fold.specs.ByName.{ByName, has_later, HasLatestSpecs}
use Rattle.history_fold.proofs.GateFoldLemmas.{later_said}

and_all : (b : Bool) → (b && true) ≡ b
and_all true = refl
and_all false = refl

or_none : (b : Bool) → (b || false) ≡ b
or_none true = refl
or_none false = refl

-- what follows from one of two adds nothing to it
left_covers : (a b : Bool) → (b ≡ true → a ≡ true) → a ≡ (a || b)
left_covers true b h = refl
left_covers false true h = h refl
left_covers false false h = refl

right_covers : (a b : Bool) → (a ≡ true → b ≡ true) → b ≡ (a || b)
right_covers true b h = h refl
right_covers false b h = refl

-- whether a date is later
abbrev is_before : ℕ → Option ℕ → Bool
is_before a o = option_map_or (λ date. nat_lt a date) o false

before_later : (a b : ℕ) (o : Option ℕ) → a < b → is_before b o ≡ true → is_before a o ≡ true
before_later a b None less h = absurd (false≢true h)
before_later a b (Some date) less h = (let l : b < date = ltb-true b date h in lt-ltb a date (omega arith))

before_none_later : (a b : ℕ) (o : Option ℕ) → is_before b o ≡ false → is_before a o ≡ true → a < b
before_none_later a b None none h = absurd (false≢true h)
before_none_later a b (Some date) none h = elim (cases_Bool (nat_le date b)) [
  | inl below ↦ (let l : a < date = ltb-true a date h in let k : date ≤ b = leb-true date b below in omega arith)
  | inr above ↦ absurd (false≢true (sym none ∙ lt-ltb b date (leb-false date b above)))
]

module _ (floor : ℕ) (gates : List GateEntry) (y : GateEntry) where
  pushed : (x : GateEntry) → list_any (is_later_spec floor x) (gates ++ y ∷ []) ≡ (list_any (is_later_spec floor x) gates || is_later_spec floor x y)
  pushed x = list_any-append (is_later_spec floor x) gates (y ∷ []) ∙ ap (λ b. list_any (is_later_spec floor x) gates || b) (or_none (is_later_spec floor x y))

  -- an entry that is a later spec of x only where x has a later date says nothing new of x
  covered : (m : ByName ℕ) (x : GateEntry) → (IsLaterSpec floor x y → has_later m x ≡ true) → has_later m x ≡ list_any (is_later_spec floor x) gates → has_later m x ≡ list_any (is_later_spec floor x) (gates ++ y ∷ [])
  covered m x covers has =
      left_covers (has_later m x) (is_later_spec floor x y) (λ h. covers (later_said floor x y h))
      ∙ ap (λ b. b || is_later_spec floor x y) has ∙ sym (pushed x)

  -- what isn't a spec by the floor changes nothing
  pub other : (m : ByName ℕ) → (is_spec y.change && nat_le y.since floor) ≡ false → HasLatestSpecs floor gates m → HasLatestSpecs floor (gates ++ y ∷ []) m
  other m none has x =
      covered m x (λ (is : IsLaterSpec floor x y). absurd (false≢true (sym none ∙ and_from (is_spec y.change) (nat_le y.since floor) is.spec (le-leb y.since floor is.dated)))) (has x)

  -- nor does a spec where its gate has a later date
  pub outrun : (m : ByName ℕ) → has_later m y ≡ true → HasLatestSpecs floor gates m → HasLatestSpecs floor (gates ++ y ∷ []) m
  outrun m later has x =
      covered m x
      (λ (is : IsLaterSpec floor x y). before_later x.since y.since (value_at m x.name [] []) is.later (subst (λ (n : List ℕ). is_before y.since (value_at m n [] []) ≡ true) is.named later))
      (has x)

  -- the map with the date of y at its gate
  module _ (m n : ByName ℕ) (name : List ℕ) (is : name ≡ y.name) (puts : (a b c : List ℕ) → value_at n a b c ≡ cond (is_same_name name [] [] a b c) (Some y.since) (value_at m a b c)) where
    at_name : (x : GateEntry) → value_at n x.name [] [] ≡ cond (bytes_eq y.name x.name) (Some y.since) (value_at m x.name [] [])
    at_name x = puts x.name [] [] ∙ ap (λ b. cond b (Some y.since) (value_at m x.name [] [])) (one_part name y.name x.name is ∙ bytes_turned x.name y.name)

    same_gate : is_spec y.change ≡ true → nat_le y.since floor ≡ true → has_later m y ≡ false → (x : GateEntry) → bytes_eq y.name x.name ≡ true → has_later n x ≡ (has_later m x || is_later_spec floor x y)
    same_gate spec dated none x same =
        let named : y.name ≡ x.name = (bytes_eq-Decides y.name x.name).0 same in
        let none_here : is_before y.since (value_at m x.name [] []) ≡ false = subst (λ (k : List ℕ). is_before y.since (value_at m k [] []) ≡ false) named none in
        let tested : is_later_spec floor x y ≡ nat_lt x.since y.since = rw (spec, same, dated) (and_all (nat_lt x.since y.since)) in
        ap (is_before x.since) (at_name x ∙ cond-true (bytes_eq y.name x.name) (Some y.since) (value_at m x.name [] []) same)
        ∙ right_covers (has_later m x) (nat_lt x.since y.since) (λ h. lt-ltb x.since y.since (before_none_later x.since y.since (value_at m x.name [] []) none_here h))
        ∙ ap (λ b. has_later m x || b) (sym tested)

    other_gate : (x : GateEntry) → bytes_eq y.name x.name ≡ false → has_later n x ≡ (has_later m x || is_later_spec floor x y)
    other_gate x differs =
        ap (is_before x.since) (at_name x ∙ cond-false (bytes_eq y.name x.name) (Some y.since) (value_at m x.name [] []) differs)
        ∙ left_covers (has_later m x) (is_later_spec floor x y) (λ h. absurd (false≢true (sym differs ∙ (bytes_eq-Decides y.name x.name).1 (later_said floor x y h).named)))

    -- the date of a spec that no date of its gate exceeds is put in
    pub put_in : is_spec y.change ≡ true → nat_le y.since floor ≡ true → has_later m y ≡ false → HasLatestSpecs floor gates m → HasLatestSpecs floor (gates ++ y ∷ []) n
    put_in spec dated none has x =
        let grows : has_later n x ≡ (has_later m x || is_later_spec floor x y) = elim (cases_Bool (bytes_eq y.name x.name)) [
          | inl same ↦ same_gate spec dated none x same
          | inr differs ↦ other_gate x differs
        ] in
        grows ∙ ap (λ b. b || is_later_spec floor x y) (has x) ∙ sym (pushed x)
