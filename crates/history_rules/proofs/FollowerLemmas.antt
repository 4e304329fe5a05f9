-- How the map of the followers' dates grows by an entry.
use Rattle.std.proofs.Common.{ℕ, ◌≡◌, ◌≤◌, ◌↔◌, List, [], ◌∷◌, ◌++◌, Bool, true, false, Option, Some, cond, refl, sym, ap, subst, ◌∙◌}
use Rattle.std.specs.Prelude.{◌&&◌, All, IfSome, IsSomeAnd, IsTrue}
use Rattle.std.specs.BTreeMap.{BTreeMap}
use Rattle.std.specs.Borrow.{Bor}
use Rattle.std.specs.Str.{bytes_eq}
use Rattle.std.proofs.lemmas.Bool.{and_parts, false≢true}
use Rattle.std.proofs.lemmas.Slice.Eq.{bytes_eq-Decides}
use Rattle.std.proofs.lemmas.List.Elements.{All-push, All-pop}
use Rattle.lifecycle.specs.declared.entry.ApiChange.{ApiChange}
use Rattle.lifecycle.specs.declared.entry.ApiChange.TheVariants.{Introduced, Deprecated, Removed, Forgotten}
use Rattle.lifecycle.specs.declared.entry.ApiEntry.{ApiEntry}
use Rattle.schemas.specs.ApiRules.{name_of, IsForgotten, IsInFavourOf, IsForgottenBefore, AreForgottenFirst}
use Rattle.basis.specs.NameMap.{value_at, is_same_name}
use Rattle.history_rules.specs.Followers.{HasFollowers, PutsLater}
use Rattle.basis.proofs.NameLemmas.{same_parts}

pub all_unpushed : {E : Type 0} (P : E → Type 0) (xs : List E) (y : E) → All P (xs ++ y ∷ []) → All P xs × P y
all_unpushed {E} P xs y all = All-pop P (xs ++ y ∷ []) xs (Some y) refl all

abbrev Followed : Type 0
Followed = BTreeMap (Bor (List ℕ) × Bor (List ℕ) × Bor (List ℕ)) (Option ℕ)

-- what the map and the entries say of the versions deprecated in favour of that of x
abbrev Agrees : List ApiEntry → List ApiEntry → Option (Option ℕ) → ApiEntry → Type 0
Agrees all entries known x = IfSome known (λ date. IsSomeAnd date (λ d. d ≤ x.since)) ↔ All (IsForgottenBefore all x) entries

at_replacement : (all xs : List ApiEntry) (y x : ApiEntry) (known : Option (Option ℕ)) (latest date : Option ℕ) → IsInFavourOf x y y.change → (IsSomeAnd latest (λ d. d ≤ x.since) ↔ (IfSome known (λ k. IsSomeAnd k (λ d. d ≤ x.since)) × IsSomeAnd date (λ d. d ≤ x.since))) → (IsSomeAnd date (λ d. d ≤ x.since) ↔ IsForgotten all (name_of y.group y.version y.resource) x.since) → Agrees all xs known x → Agrees all (xs ++ y ∷ []) (Some latest) x
at_replacement all xs y x known latest date favours later dated before = (
  λ (h : IsSomeAnd latest (λ d. d ≤ x.since)). All-push (IsForgottenBefore all x) xs y (before.0 (later.0 h).0) (λ (f : IsInFavourOf x y y.change). dated.0 (later.0 h).1),
  λ (every : All (IsForgottenBefore all x) (xs ++ y ∷ [])).
      let parts = all_unpushed (IsForgottenBefore all x) xs y every in
      later.1 (before.1 parts.0, dated.1 (parts.1 favours)),
)

at_other_version : (all xs : List ApiEntry) (y x : ApiEntry) (known : Option (Option ℕ)) → ¬ IsInFavourOf x y y.change → Agrees all xs known x → Agrees all (xs ++ y ∷ []) known x
at_other_version all xs y x known other before = (
  λ h. All-push (IsForgottenBefore all x) xs y (before.0 h) (λ (f : IsInFavourOf x y y.change). absurd (other f)),
  λ (every : All (IsForgottenBefore all x) (xs ++ y ∷ [])). before.1 (all_unpushed (IsForgottenBefore all x) xs y every).0,
)

by_version : (all xs : List ApiEntry) (y x : ApiEntry) (removal : ℕ) (replacement : List ℕ) (old : Followed) (latest date : Option ℕ) (b : Bool) → is_same_name y.group replacement y.resource x.group x.version x.resource ≡ b → y.change ≡ Deprecated removal replacement → ((e : ℕ) → IsSomeAnd latest (λ d. d ≤ e) ↔ (IfSome (value_at old y.group replacement y.resource) (λ k. IsSomeAnd k (λ d. d ≤ e)) × IsSomeAnd date (λ d. d ≤ e))) → ((e : ℕ) → IsSomeAnd date (λ d. d ≤ e) ↔ IsForgotten all (name_of y.group y.version y.resource) e) → HasFollowers all xs old → Agrees all (xs ++ y ∷ []) (cond b (Some latest) (value_at old x.group x.version x.resource)) x
by_version all xs y x removal replacement old latest date true same change later dated before =
    let (front, third) = and_parts (bytes_eq y.group x.group && bytes_eq replacement x.version) (bytes_eq y.resource x.resource) same in
    let (first, second) = and_parts (bytes_eq y.group x.group) (bytes_eq replacement x.version) front in
    let group : y.group ≡ x.group = (bytes_eq-Decides y.group x.group).0 first in
    let version : replacement ≡ x.version = (bytes_eq-Decides replacement x.version).0 second in
    let resource : y.resource ≡ x.resource = (bytes_eq-Decides y.resource x.resource).0 third in
    let favours : IsInFavourOf x y (Deprecated removal replacement) = (sym group, sym version, sym resource) in
    let moved : value_at old x.group x.version x.resource ≡ value_at old y.group replacement y.resource = ap (λ (a : List ℕ). value_at old a x.version x.resource) (sym group) ∙ ap (λ (a : List ℕ). value_at old y.group a x.resource) (sym version) ∙ ap (λ (a : List ℕ). value_at old y.group replacement a) (sym resource) in
    at_replacement all xs y x (value_at old y.group replacement y.resource) latest date (subst (λ (a : ApiChange). IsInFavourOf x y a) (sym change) favours) (later x.since) (dated x.since) (subst (λ (o : Option (Option ℕ)). Agrees all xs o x) moved (before x))
by_version all xs y x removal replacement old latest date false same change later dated before =
    at_other_version all xs y x (value_at old x.group x.version x.resource) (λ (f : IsInFavourOf x y y.change).
    let favours : IsInFavourOf x y (Deprecated removal replacement) = subst (λ (a : ApiChange). IsInFavourOf x y a) change f in
    absurd (false≢true (sym same ∙ same_parts y.group replacement y.resource x.group x.version x.resource (sym favours.0) (sym favours.1) (sym favours.2)))) (before x)

pub follower_taken : (y : ApiEntry) (removal : ℕ) (replacement : List ℕ) (date : Option ℕ) (old new : Followed) → y.change ≡ Deprecated removal replacement → PutsLater y replacement date old new → (all xs : List ApiEntry) → ((e : ℕ) → IsSomeAnd date (λ d. d ≤ e) ↔ IsForgotten all (name_of y.group y.version y.resource) e) → HasFollowers all xs old → HasFollowers all (xs ++ y ∷ []) new
follower_taken y removal replacement date old new change put all xs dated before = λ (x : ApiEntry).
    subst (λ (o : Option (Option ℕ)). Agrees all (xs ++ y ∷ []) o x) (sym (put.2 x.group x.version x.resource))
    (by_version all xs y x removal replacement old put.0 date (is_same_name y.group replacement y.resource x.group x.version x.resource) refl change put.1 dated before)

not_in_favour : (x y : ApiEntry) (change : ApiChange) → ((removal : ℕ) (replacement : List ℕ) → change ≡ Deprecated removal replacement → ⊥) → IsInFavourOf x y change → ⊥
not_in_favour x y (Deprecated removal replacement) other f = other removal replacement refl
not_in_favour x y (Introduced kind singular namespaced enabled) other f = f
not_in_favour x y Removed other f = f
not_in_favour x y Forgotten other f = f

-- an entry that deprecates no version changes nothing
pub follower_passed : (y : ApiEntry) (followers : Followed) → ((removal : ℕ) (replacement : List ℕ) → y.change ≡ Deprecated removal replacement → ⊥) → (all xs : List ApiEntry) → HasFollowers all xs followers → HasFollowers all (xs ++ y ∷ []) followers
follower_passed y followers other all xs before = λ (x : ApiEntry).
    at_other_version all xs y x (value_at followers x.group x.version x.resource) (not_in_favour x y y.change other) (before x)

-- a version's followers by the date at its name
pub followed_by : (xs ys : List ApiEntry) (x : ApiEntry) (followers : Followed) (found : Option (Option ℕ)) (g v r : List ℕ) (b : Bool) → HasFollowers xs xs followers → xs ≡ ys → found ≡ value_at followers g v r → g ≡ x.group → v ≡ x.version → r ≡ x.resource → (IsTrue b ↔ IfSome found (λ date. IsSomeAnd date (λ d. d ≤ x.since))) → IsTrue b ↔ AreForgottenFirst ys x
followed_by xs ys x followers found g v r b index same is p q s test =
    let here : found ≡ value_at followers x.group x.version x.resource = is ∙ ap (λ (a : List ℕ). value_at followers a v r) p ∙ ap (λ (a : List ℕ). value_at followers x.group a r) q ∙ ap (λ (a : List ℕ). value_at followers x.group x.version a) s in
    let every : Agrees ys ys found x = subst (λ (l : List ApiEntry). Agrees l l found x) same (subst (λ (o : Option (Option ℕ)). Agrees xs xs o x) (sym here) (index x)) in
    (λ t. every.0 (test.0 t), λ all. test.1 (every.1 all))
