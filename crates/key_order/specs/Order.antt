-- Lists of anything in the order of their keys, where a key stands in them, and what a change of one key leaves.
use Rattle.std.specs.Prelude.{◌≡◌, ◌≢◌, ◌⊎◌, ◌↔◌, ℕ, ◌<◌, ◌≤◌, List, [], ◌∷◌, Option, Some, length, take, drop, All, Contains}
use Rattle.std.specs.List.{HoldsAt}
use Rattle.std.specs.declared.cmp.Ordering.TheVariants.{Less, Greater}
use Rattle.object_journal.specs.declared.key.Key.{Key}
use Rattle.object_journal.specs.KeyOrder.{by_key}

-- the key of each is below those of the elements behind it
abbrev pub AreInKeyOrder : {A : Type 0} → (A → Key) → List A → Type 0
AreInKeyOrder key_of [] = Unit {0}
AreInKeyOrder key_of (x ∷ xs) =
    All (λ y. by_key (key_of x) (key_of y) ≡ Less) xs × AreInKeyOrder key_of xs

-- an element of the key is there
abbrev pub HoldsKey : {A : Type 0} → (A → Key) → List A → Key → Type 0
HoldsKey {A} key_of items key = (x : A) × Contains items x × (key_of x ≡ key)

-- where a key stands: the place of its element
pub record IsPlaceOf {A : Type 0} (key_of : A → Key) (items : List A) (key : Key) (place : ℕ)
    : Type 0 where
  pub within : place < length items
  pub there : HoldsAt (λ x. key_of x ≡ key) items place

-- where an element of the key would stand, between those of lower and of higher keys
pub record IsGapOf {A : Type 0} (key_of : A → Key) (items : List A) (key : Key) (place : ℕ)
    : Type 0 where
  pub within : place ≤ length items
  pub below : All (λ x. by_key (key_of x) key ≡ Less) (take place items)
  pub above : All (λ x. by_key (key_of x) key ≡ Greater) (drop place items)

-- A change of one key. An element is there exactly where it is of the key and is what is there afterwards, or where it is
-- of another key and was there.
pub record IsChanged {A : Type 0} (key_of : A → Key) (old : List A) (key : Key) (after : Option A)
    (new : List A) : Type 0 where
  pub order : AreInKeyOrder key_of new
  pub exact : (x : A) → Contains new x
      ↔ (((key_of x ≡ key) × (after ≡ Some x)) ⊎ ((key_of x ≢ key) × Contains old x))
