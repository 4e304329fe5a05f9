-- Entries listed by names of three parts.
use Rattle.std.specs.Prelude.{ℕ, ◌≡◌, List, [], Bool, Option, map, filter, All, Any, IfSome, IsSomeAnd}
use Rattle.std.specs.Option.{option_map_or}
use Rattle.std.specs.BTreeMap.{BTreeMap}
use Rattle.std.specs.Borrow.{Bor}
use Rattle.std.specs.Global.{Vec}
use Rattle.basis.specs.NameMap.{value_at, is_same_name}

-- a listing, as contracts see it
abbrev pub Listed : Type 0 → Type 0
Listed E = BTreeMap (Bor (List ℕ) × Bor (List ℕ) × Bor (List ℕ)) (Vec (Bor E))

-- the entries that are lent
abbrev pub lent : {E : Type 0} → List (Bor E) → List E
lent items = map (λ b. b.now) items

abbrev pub lent_in : {E : Type 0} → Option (Bor (Vec (Bor E))) → List E
lent_in items = option_map_or (λ v. lent v.now.items) items []

-- the entries listed at the name with these parts
abbrev pub listed_at : {E : Type 0} → Listed E → List ℕ → List ℕ → List ℕ → List E
listed_at m a b c = option_map_or (λ v. lent v.items) (value_at m a b c) []

-- a name of three parts
pub record Name : Type 0 where
  pub first : List ℕ
  pub second : List ℕ
  pub third : List ℕ

abbrev pub name_of : List ℕ → List ℕ → List ℕ → Name
name_of a b c = record { first = a; second = b; third = c }

-- what a function says of an entry is the entry's name
abbrev pub Names : {E : Type 0} → (Bor E → Bor (List ℕ) × Bor (List ℕ) × Bor (List ℕ) → Type 0) → (E → Name) → Type 0
Names {E} says named = (x : Bor E) (parts : Bor (List ℕ) × Bor (List ℕ) × Bor (List ℕ))
    → says x parts → named x.now ≡ name_of parts.0.now parts.1.now parts.2.now

-- what a function says of an entry is the outcome of the test
abbrev pub Tells : {E : Type 0} → (Bor E → Bool → Type 0) → (E → Bool) → Type 0
Tells {E} says test = (x : Bor E) (is_so : Bool) → says x is_so → is_so ≡ test x.now

-- at each name the entries of that name are listed, in order
abbrev pub IsListing : {E : Type 0} → (E → Name) → List E → Listed E → Type 0
IsListing {E} name entries m = (a b c : List ℕ)
    → listed_at m a b c ≡ filter (λ x. is_same_name (name x).first (name x).second (name x).third a b c) entries

-- one of the entries that are lent is so
abbrev pub HasLent : {E : Type 0} → (E → Type 0) → Option (Bor (Vec (Bor E))) → Type 0
HasLent P entries = IsSomeAnd entries (λ v. Any (λ b. P b.now) v.now.items)

-- each of the entries that are lent is so
abbrev pub EachLent : {E : Type 0} → (E → Type 0) → Option (Bor (Vec (Bor E))) → Type 0
EachLent P entries = IfSome entries (λ v. All (λ b. P b.now) v.now.items)
