-- How the map of the earliest dates grows by an entry.
use Rattle.std.proofs.Common.{ℕ, zero, suc, ◌≡◌, ◌≤◌, ◌<◌, ◌↔◌, List, [], ◌∷◌, ◌++◌, Bool, true, false, Option, Some, Result, Ok, Err, cond, length, refl, sym, ap, subst, ◌∙◌, arith, inl, inr, ◌⊎◌, get_or}
use Rattle.std.specs.Prelude.{◌&&◌, Any, IsSomeAnd, IsTrue, OnOk}
use Rattle.std.specs.BTreeMap.{BTreeMap}
use Rattle.std.specs.Borrow.{Bor}
use Rattle.std.specs.Str.{bytes_eq}
use Rattle.std.proofs.lemmas.Bool.{and_parts, false≢true}
use Rattle.std.proofs.lemmas.Slice.Eq.{bytes_eq-Decides}
use Rattle.std.proofs.lemmas.List.Quantifiers.{Any-push}
use Rattle.lifecycle.specs.Entry.{IsKnownOf}
use Rattle.lifecycle.specs.declared.entry.ApiEntry.{ApiEntry}
use Rattle.schemas.specs.ApiRules.{name_of}
use Rattle.basis.specs.NameMap.{value_at, is_same_name}
use Rattle.history_rules.specs.Dates.{IsEvent, HasEarliest, PutsEarlier}
use Rattle.basis.proofs.ElementLemmas.{Any-push_cases, Any-push_left}
use Rattle.basis.proofs.NameLemmas.{same_parts}
use Rattle.history_rules.specs.declared.dates.Event.{Event}

abbrev Dated : Type 0
Dated = BTreeMap (Bor (List ℕ) × Bor (List ℕ) × Bor (List ℕ)) ℕ

-- what the map and the entries say of one version up to one release
abbrev Agrees : Event → List ApiEntry → Option ℕ → List ℕ → List ℕ → List ℕ → ℕ → Type 0
Agrees event entries known group version resource e = IsSomeAnd known (λ date. date ≤ e) ↔ Any (λ x. IsKnownOf (name_of group version resource) e x × IsEvent event x.change) entries

at_own_name : (event : Event) (x : ApiEntry) (known : Option ℕ) (date : ℕ) (xs : List ApiEntry) (e : ℕ) → IsEvent event x.change → ((date ≤ e) ↔ (IsSomeAnd known (λ d. d ≤ e) ⊎ (x.since ≤ e))) → Agrees event xs known x.group x.version x.resource e → Agrees event (xs ++ x ∷ []) (Some date) x.group x.version x.resource e
at_own_name event x known date xs e is sooner before =
    let P : ApiEntry → Type 0 = λ y. IsKnownOf (name_of x.group x.version x.resource) e y × IsEvent event y.change in (
      λ (h : date ≤ e). elim (sooner.0 h) [
        | inl old ↦ Any-push_left P xs x (before.0 old)
        | inr new ↦ Any-push P xs x (record { group = refl; version = refl; resource = refl; dated = new }, is)
      ],
      λ any. elim (Any-push_cases P xs x any) [
        | inl old ↦ sooner.1 (inl (before.1 old))
        | inr new ↦ sooner.1 (inr new.0.dated)
      ],
    )

at_other_name : (event : Event) (x : ApiEntry) (known : Option ℕ) (xs : List ApiEntry) (group version resource : List ℕ) (e : ℕ) → is_same_name x.group x.version x.resource group version resource ≡ false → Agrees event xs known group version resource e → Agrees event (xs ++ x ∷ []) known group version resource e
at_other_name event x known xs group version resource e other before =
    let P : ApiEntry → Type 0 = λ y. IsKnownOf (name_of group version resource) e y × IsEvent event y.change in (
      λ h. Any-push_left P xs x (before.0 h),
      λ any. elim (Any-push_cases P xs x any) [
        | inl old ↦ before.1 old
        | inr new ↦ (let k : IsKnownOf (name_of group version resource) e x = new.0 in absurd (false≢true (sym other ∙ same_parts x.group x.version x.resource group version resource k.group k.version k.resource)))
      ],
    )

by_name : (event : Event) (x : ApiEntry) (old : Dated) (date : ℕ) (xs : List ApiEntry) (group version resource : List ℕ) (e : ℕ) (b : Bool) → is_same_name x.group x.version x.resource group version resource ≡ b → IsEvent event x.change → ((k : ℕ) → (date ≤ k) ↔ (IsSomeAnd (value_at old x.group x.version x.resource) (λ d. d ≤ k) ⊎ (x.since ≤ k))) → HasEarliest event xs old → Agrees event (xs ++ x ∷ []) (cond b (Some date) (value_at old group version resource)) group version resource e
by_name event x old date xs group version resource e true same is sooner before =
    let (front, third) = and_parts (bytes_eq x.group group && bytes_eq x.version version) (bytes_eq x.resource resource) same in
    let (first, second) = and_parts (bytes_eq x.group group) (bytes_eq x.version version) front in
    subst (λ (g : List ℕ). Agrees event (xs ++ x ∷ []) (Some date) g version resource e) ((bytes_eq-Decides x.group group).0 first)
    (subst (λ (v : List ℕ). Agrees event (xs ++ x ∷ []) (Some date) x.group v resource e) ((bytes_eq-Decides x.version version).0 second)
    (subst (λ (r : List ℕ). Agrees event (xs ++ x ∷ []) (Some date) x.group x.version r e) ((bytes_eq-Decides x.resource resource).0 third)
    (at_own_name event x (value_at old x.group x.version x.resource) date xs e is (sooner e) (before x.group x.version x.resource e))))
by_name event x old date xs group version resource e false same is sooner before = at_other_name event x (value_at old group version resource) xs group version resource e same (before group version resource e)

pub taken_in : (event : Event) (x : ApiEntry) (old new : Dated) → IsEvent event x.change → PutsEarlier x old new → (xs : List ApiEntry) → HasEarliest event xs old → HasEarliest event (xs ++ x ∷ []) new
taken_in event x old new is put = λ (xs : List ApiEntry) (before : HasEarliest event xs old) (group version resource : List ℕ) (e : ℕ).
    subst (λ (o : Option ℕ). Agrees event (xs ++ x ∷ []) o group version resource e) (sym (put.2 group version resource))
    (by_name event x old put.0 xs group version resource e (is_same_name x.group x.version x.resource group version resource) refl is put.1 before)

-- an entry of another event changes nothing
pub passed_over : (event : Event) (x : ApiEntry) (dates : Dated) → ¬ IsEvent event x.change → (xs : List ApiEntry) → HasEarliest event xs dates → HasEarliest event (xs ++ x ∷ []) dates
passed_over event x dates isnot = λ (xs : List ApiEntry) (before : HasEarliest event xs dates) (group version resource : List ℕ) (e : ℕ).
    let P : ApiEntry → Type 0 = λ y. IsKnownOf (name_of group version resource) e y × IsEvent event y.change in (
      λ h. Any-push_left P xs x ((before group version resource e).0 h),
      λ any. elim (Any-push_cases P xs x any) [
        | inl old ↦ (before group version resource e).1 old
        | inr new ↦ absurd (isnot new.1)
      ],
    )

pub puts : (x : ApiEntry) (old new : Dated) (g v r : List ℕ) (known : Option ℕ) (date : ℕ) → g ≡ x.group → v ≡ x.version → r ≡ x.resource → known ≡ value_at old g v r → ((e : ℕ) → (date ≤ e) ↔ (IsSomeAnd known (λ d. d ≤ e) ⊎ (x.since ≤ e))) → ((a b c : List ℕ) → value_at new a b c ≡ cond (is_same_name g v r a b c) (Some date) (value_at old a b c)) → PutsEarlier x old new
puts x old new g v r known date p q s is sooner put = (
  date,
  subst (λ (o : Option ℕ). (e : ℕ) → (date ≤ e) ↔ (IsSomeAnd o (λ d. d ≤ e) ⊎ (x.since ≤ e)))
      (is ∙ ap (λ (a : List ℕ). value_at old a v r) p ∙ ap (λ (b : List ℕ). value_at old x.group b r) q ∙ ap (λ (c : List ℕ). value_at old x.group x.version c) s) sooner,
  λ (a b c : List ℕ). put a b c ∙ ap (λ (t : Bool). cond t (Some date) (value_at old a b c))
      (ap (λ (d : List ℕ). is_same_name d v r a b c) p ∙ ap (λ (d : List ℕ). is_same_name x.group d r a b c) q ∙ ap (λ (d : List ℕ). is_same_name x.group x.version d a b c) s),
)

pub on_ok : {T E : Type 0} {P Q : Type 0} (r : Result T E) → (P → Q) → OnOk r P → OnOk r Q
on_ok (Ok x) f h = f h
on_ok (Err e) f h = h

pub dated_by : (event : Event) (xs ys : List ApiEntry) (dates : Dated) (found : Option ℕ) (g v r : List ℕ) (e : ℕ) (b : Bool) → HasEarliest event xs dates → xs ≡ ys → found ≡ value_at dates g v r → (IsTrue b ↔ IsSomeAnd found (λ d. d ≤ e)) → IsTrue b ↔ Any (λ x. IsKnownOf (name_of g v r) e x × IsEvent event x.change) ys
dated_by event xs ys dates found g v r e b index same is test =
    let all : Agrees event ys found g v r e = subst (λ (l : List ApiEntry). Agrees event l found g v r e) same (subst (λ (o : Option ℕ). Agrees event xs o g v r e) (sym is) (index g v r e)) in
    (λ t. all.0 (test.0 t), λ any. test.1 (all.1 any))
