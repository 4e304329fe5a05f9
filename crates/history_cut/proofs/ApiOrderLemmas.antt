-- The order of the entries of one version (HR6).
use Rattle.std.proofs.Common.{ℕ, zero, suc, ◌≡◌, ◌+◌, ◌<◌, ◌≤◌, List, Option, Some, None, length, take, sym, subst, ◌∙◌, arith, inl, inr}
use Rattle.std.specs.Prelude.{slice_get, IfSome, IsNone, IsSomeAnd}
use Rattle.std.proofs.lemmas.Bool.{false≢true, cases_order}
use Rattle.std.proofs.lemmas.Option.{slice_get_within}
use Rattle.lifecycle.specs.Entry.{subject, IsIntroduction}
use Rattle.lifecycle.specs.declared.entry.ApiChange.{ApiChange}
use Rattle.lifecycle.specs.declared.entry.ApiChange.TheVariants.{Introduced, Deprecated, Removed, Forgotten}
use Rattle.lifecycle.specs.declared.entry.ApiEntry.{ApiEntry}
use Rattle.lifecycle.proofs.TableLemmas.{subject_is, is_of-subject}
use Rattle.schemas.specs.ApiRules.{is_of_version, previous_of_version, IsDeprecation, IsNext, StandsInOrder}
use Rattle.schemas.specs.Places.{Each}
use Rattle.schemas.proofs.PlaceLemmas.{some_injective}
use Rattle.schemas.proofs.PreviousLemmas.{IsLast, last_passing_is}

-- an entry isn't dated before the previous one of its version
dated_behind : (previous : Option ApiEntry) (since : ℕ) (change : ApiChange) → IsNext previous since change → IfSome previous (λ z. z.since ≤ since)
dated_behind None since change rule = tt
dated_behind (Some z) since (Introduced kind singular namespaced enabled) rule = absurd (false≢true (sym rule))
dated_behind (Some z) since (Deprecated removal replacement) rule = (let before : z.since < since = rule.1 in omega arith)
dated_behind (Some z) since Removed rule = rule.1
dated_behind (Some z) since Forgotten rule = (let before : z.since < since = rule.1 in omega arith)

-- below the place n, entries of one version don't fall in date
abbrev RiseBelow : List ApiEntry → ℕ → Type 0
RiseBelow xs n = (i j : ℕ) (x y : ApiEntry) → j < n → i < j → slice_get xs i ≡ Some x → slice_get xs j ≡ Some y → subject y ≡ subject x → x.since ≤ y.since

rise_from : (xs : List ApiEntry) (n i j : ℕ) (x y : ApiEntry) → RiseBelow xs n → j ≤ n → i < j → slice_get xs i ≡ Some x → slice_get xs j ≡ Some y → subject y ≡ subject x
    → (found : Option ApiEntry) → IsLast (is_of_version y) xs j found → IfSome found (λ z. z.since ≤ y.since) → x.since ≤ y.since
rise_from xs n i j x y below bound less sx sy same None last rule = absurd (false≢true (sym (last i x less sx) ∙ is_of-subject (subject x) y same))
rise_from xs n i j x y below bound less sx sy same (Some z) last rule =
    let named : subject y ≡ subject z = subject_is (subject z) y last.passes in
    let later : z.since ≤ y.since = rule in
    elim (cases_order i last.place) [
      | inl here ↦
          let equal : x ≡ z = some_injective x z (sym sx ∙ subst (λ (k : ℕ). slice_get xs k ≡ Some z) (sym here) last.stands) in
          subst (λ (w : ApiEntry). w.since ≤ y.since) (sym equal) later
      | inr other ↦ elim other [
        | inl low ↦
            let before : last.place < n = (let b : last.place < j = last.before in omega arith) in
            let earlier : x.since ≤ z.since = below i last.place x z before low sx last.stands (sym named ∙ same) in
            omega arith
        | inr high ↦ absurd (false≢true (sym (last.none_between i x high less sx) ∙ is_of-subject (subject x) y same))
      ]
    ]

module _ (xs : List ApiEntry) (order : Each StandsInOrder xs) where
  rise_below : (n : ℕ) → RiseBelow xs n
  rise_below zero = λ (i j : ℕ) (x y : ApiEntry) (bound : j < 0) (less : i < j) (sx : slice_get xs i ≡ Some x) (sy : slice_get xs j ≡ Some y) (same : subject y ≡ subject x). absurd (omega arith)
  rise_below (suc n) = λ (i j : ℕ) (x y : ApiEntry) (bound : j < suc n) (less : i < j) (sx : slice_get xs i ≡ Some x) (sy : slice_get xs j ≡ Some y) (same : subject y ≡ subject x).
      let within : j < length xs = slice_get_within xs j y sy in
      let at_most : j ≤ length xs = omega arith in
      let low : j ≤ n = omega arith in
      rise_from xs n i j x y (rise_below n) low less sx sy same (previous_of_version (take j xs) y) (last_passing_is (is_of_version y) xs j at_most)
      (dated_behind (previous_of_version (take j xs) y) y.since y.change (order j y sy))

  -- the entries of a version before one of its entries aren't dated after it
  pub versions_rise : (i j : ℕ) (x y : ApiEntry) → i < j → slice_get xs i ≡ Some x → slice_get xs j ≡ Some y → subject y ≡ subject x → x.since ≤ y.since
  versions_rise i j x y less sx sy same = rise_below (j + 1) i j x y (omega arith) less sx sy same

  -- what the last entry of its version before the place j is
  pub previous_is : (j : ℕ) (y : ApiEntry) → slice_get xs j ≡ Some y → IsLast (is_of_version y) xs j (previous_of_version (take j xs) y)
  previous_is j y sy =
      let within : j < length xs = slice_get_within xs j y sy in
      last_passing_is (is_of_version y) xs j (omega arith)

  introduced_first : (since : ℕ) (change : ApiChange) (found : Option ApiEntry) → IsIntroduction change → IsNext found since change → IsNone found
  introduced_first since (Introduced kind singular namespaced enabled) found is rule = rule
  introduced_first since (Deprecated removal replacement) found is rule = absurd is
  introduced_first since Removed found is rule = absurd is
  introduced_first since Forgotten found is rule = absurd is

  none_before : (i j : ℕ) (x y : ApiEntry) → i < j → slice_get xs i ≡ Some x → subject y ≡ subject x → (found : Option ApiEntry) → IsLast (is_of_version y) xs j found → ¬ IsNone found
  none_before i j x y less sx same None last none = false≢true (sym (last i x less sx) ∙ is_of-subject (subject x) y same)
  none_before i j x y less sx same (Some z) last none = false≢true (sym none)

  -- no entry of its version stands before an introduction
  first_is_introduction : (i j : ℕ) (x y : ApiEntry) → i < j → slice_get xs i ≡ Some x → slice_get xs j ≡ Some y → subject y ≡ subject x → ¬ IsIntroduction y.change
  first_is_introduction i j x y less sx sy same is =
      none_before i j x y less sx same (previous_of_version (take j xs) y) (previous_is j y sy)
      (introduced_first y.since y.change (previous_of_version (take j xs) y) is (order j y sy))

  behind_introduction : (since : ℕ) (change : ApiChange) (found : Option ApiEntry) → IsDeprecation change → IsNext found since change → IsSomeAnd found (λ z. IsIntroduction z.change)
  behind_introduction since (Introduced kind singular namespaced enabled) found is rule = absurd is
  behind_introduction since (Deprecated removal replacement) (Some z) is rule = rule.0
  behind_introduction since (Deprecated removal replacement) None is rule = absurd rule
  behind_introduction since Removed found is rule = absurd is
  behind_introduction since Forgotten found is rule = absurd is

  not_both : (change : ApiChange) → IsDeprecation change → ¬ IsIntroduction change
  not_both (Introduced kind singular namespaced enabled) is also = is
  not_both (Deprecated removal replacement) is also = also
  not_both Removed is also = is
  not_both Forgotten is also = is

  not_behind : (i j : ℕ) (x y : ApiEntry) → i < j → slice_get xs i ≡ Some x → slice_get xs j ≡ Some y → subject y ≡ subject x → IsDeprecation x.change
      → (found : Option ApiEntry) → IsLast (is_of_version y) xs j found → ¬ IsSomeAnd found (λ z. IsIntroduction z.change)
  not_behind i j x y less sx sy same is None last rule = rule
  not_behind i j x y less sx sy same is (Some z) last rule =
      let named : subject y ≡ subject z = subject_is (subject z) y last.passes in
      elim (cases_order i last.place) [
        | inl here ↦
            let equal : x ≡ z = some_injective x z (sym sx ∙ subst (λ (k : ℕ). slice_get xs k ≡ Some z) (sym here) last.stands) in
            not_both x.change is (subst (λ (w : ApiEntry). IsIntroduction w.change) (sym equal) rule)
        | inr other ↦ elim other [
          | inl low ↦ first_is_introduction i last.place x z low sx last.stands (sym named ∙ same) rule
          | inr high ↦ false≢true (sym (last.none_between i x high less sx) ∙ is_of-subject (subject x) y same)
        ]
      ]

  deprecated_once : (i j : ℕ) (x y : ApiEntry) → i < j → slice_get xs i ≡ Some x → slice_get xs j ≡ Some y → subject y ≡ subject x → IsDeprecation x.change → ¬ IsDeprecation y.change
  deprecated_once i j x y less sx sy same first second =
      not_behind i j x y less sx sy same first (previous_of_version (take j xs) y) (previous_is j y sy)
      (behind_introduction y.since y.change (previous_of_version (take j xs) y) second (order j y sy))

  -- a version has at most one deprecation
  pub one_deprecation : (i j : ℕ) (x y : ApiEntry) → slice_get xs i ≡ Some x → slice_get xs j ≡ Some y → subject y ≡ subject x → IsDeprecation x.change → IsDeprecation y.change → x ≡ y
  one_deprecation i j x y sx sy same first second = elim (cases_order i j) [
    | inl here ↦ some_injective x y (sym sx ∙ subst (λ (k : ℕ). slice_get xs k ≡ Some y) (sym here) sy)
    | inr other ↦ elim other [
      | inl less ↦ absurd (deprecated_once i j x y less sx sy same first second)
      | inr more ↦ absurd (deprecated_once j i y x more sy sx (sym same) second first)
    ]
  ]

  -- a version has at most one introduction
  pub one_introduction : (i j : ℕ) (x y : ApiEntry) → slice_get xs i ≡ Some x → slice_get xs j ≡ Some y → subject y ≡ subject x → IsIntroduction x.change → IsIntroduction y.change → x ≡ y
  one_introduction i j x y sx sy same first second = elim (cases_order i j) [
    | inl here ↦ some_injective x y (sym sx ∙ subst (λ (k : ℕ). slice_get xs k ≡ Some y) (sym here) sy)
    | inr other ↦ elim other [
      | inl less ↦ absurd (first_is_introduction i j x y less sx sy same second)
      | inr more ↦ absurd (first_is_introduction j i y x more sy sx (sym same) first)
    ]
  ]
