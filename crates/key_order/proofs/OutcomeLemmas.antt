-- A change of one key can be made of a list in key order; and how many elements it leaves.
use Rattle.std.proofs.Common.{◌≡◌, ◌⊎◌, inl, inr, ⊎_elim, ℕ, suc, ◌+◌, List, [], ◌∷◌, length, set, refl, ap, ◌∙◌, arith, length-set}
use Rattle.std.specs.Prelude.{All, insert, remove, Some, None}
use Rattle.std.specs.Ordering.{ordering_reverse}
use Rattle.std.specs.declared.cmp.Ordering.{Ordering}
use Rattle.std.specs.declared.cmp.Ordering.TheVariants.{Less, Equal, Greater}
use Rattle.std.proofs.lemmas.List.Edits.{length-insert, length-remove}
use Rattle.std.proofs.lemmas.List.Elements.{All-nil, All-cons, All-weaker}
use Rattle.object_journal.specs.declared.key.Key.{Key}
use Rattle.object_journal.specs.KeyOrder.{by_key}
use Rattle.object_journal.proofs.KeyLaws.{by_key_total, exact_keys}
use Rattle.key_order.specs.Order.{AreInKeyOrder, HoldsKey, IsPlaceOf, IsGapOf, IsChanged}
use Rattle.key_order.proofs.OrderLemmas.{turned}
use Rattle.key_order.proofs.ChangeLemmas.{put_in_place, put_in_gap, removed_from_place, removed_from_gap, key_there, key_not_there, one_change}

module _ {A : Type 0} (key_of : A → Key) where
  abbrev HasPlace : List A → Key → Type 0
  HasPlace items key = (place : ℕ) × IsPlaceOf key_of items key place

  abbrev HasGap : List A → Key → Type 0
  HasGap items key = (place : ℕ) × IsGapOf key_of items key place

  above_all : (x : A) (xs : List A) (key : Key) → AreInKeyOrder key_of (x ∷ xs) → by_key (key_of x) key ≡ Greater → All (λ y. by_key (key_of y) key ≡ Greater) (x ∷ xs)
  above_all x xs key o greater = All-cons (λ y. by_key (key_of y) key ≡ Greater) x xs greater
      (All-weaker (λ y. by_key (key_of x) (key_of y) ≡ Less) (λ y. by_key (key_of y) key ≡ Greater)
      (λ y more. by_key_total.antisymm (key_of y) key ∙ ap ordering_reverse (by_key_total.trans key (key_of x) (key_of y) (turned (key_of x) key greater) more)) xs o.0)

  place_behind : (x : A) (xs : List A) (key : Key) → HasPlace xs key → HasPlace (x ∷ xs) key
  place_behind x xs key h = (suc h.0, record { within = (let w = h.1.within in omega (arith, w)); there = λ d. h.1.there d })

  gap_behind : (x : A) (xs : List A) (key : Key) → by_key (key_of x) key ≡ Less → HasGap xs key → HasGap (x ∷ xs) key
  gap_behind x xs key less h = (
    suc h.0,
    record {
      within = (let w = h.1.within in omega (arith, w));
      below = All-cons (λ y. by_key (key_of y) key ≡ Less) x _ less h.1.below;
      above = h.1.above;
    },
  )

  -- a key has a place or a gap
  pub located : (items : List A) (key : Key) → AreInKeyOrder key_of items → HasPlace items key ⊎ HasGap items key
  located [] key o = inr (0, record { within = omega arith; below = All-nil (λ y. by_key (key_of y) key ≡ Less); above = All-nil (λ y. by_key (key_of y) key ≡ Greater) })
  located (x ∷ xs) key o = at (by_key (key_of x) key) refl (located xs key o.1)
    where
      at : (side : Ordering) → by_key (key_of x) key ≡ side → HasPlace xs key ⊎ HasGap xs key → HasPlace (x ∷ xs) key ⊎ HasGap (x ∷ xs) key
      at Less is later = ⊎_elim (λ h. inl (place_behind x xs key h)) (λ h. inr (gap_behind x xs key is h)) later
      at Equal is later = inl (0, record { within = omega arith; there = λ d. exact_keys (key_of x) key is })
      at Greater is later = inr (0, record { within = omega arith; below = All-nil (λ y. by_key (key_of y) key ≡ Less); above = above_all x xs key o is })

  pub can_put : (old : List A) (r : A) → AreInKeyOrder key_of old → (new : List A) × IsChanged key_of old (key_of r) (Some r) new
  can_put old r o = ⊎_elim
      (λ place. (set old place.0 r, put_in_place key_of old (set old place.0 r) (key_of r) r place.0 refl o place.1 refl))
      (λ gap. (insert old gap.0 r, put_in_gap key_of old (insert old gap.0 r) (key_of r) r gap.0 refl o gap.1 refl))
      (located old (key_of r) o)

  pub can_remove : (old : List A) (key : Key) → AreInKeyOrder key_of old → (new : List A) × IsChanged key_of old key None new
  can_remove old key o = ⊎_elim
      (λ place. (remove old place.0, removed_from_place key_of old (remove old place.0) key place.0 o place.1 refl))
      (λ gap. (old, removed_from_gap key_of old key gap.0 o gap.1))
      (located old key o)

  -- a new key is one element more
  pub one_more : (old new : List A) (r : A) → AreInKeyOrder key_of old → IsChanged key_of old (key_of r) (Some r) new → (HoldsKey key_of old (key_of r) → ⊥) → length new ≡ length old + 1
  one_more old new r o changed none = ⊎_elim
      (λ place. absurd (none (key_there key_of old (key_of r) place.0 place.1)))
      (λ gap.
      let made = put_in_gap key_of old (insert old gap.0 r) (key_of r) r gap.0 refl o gap.1 refl in
      ap length (one_change key_of old new (insert old gap.0 r) (key_of r) (Some r) changed made) ∙ length-insert old gap.0 r gap.1.within)
      (located old (key_of r) o)

  -- an element put over another leaves as many
  pub as_many : (old new : List A) (r : A) → AreInKeyOrder key_of old → IsChanged key_of old (key_of r) (Some r) new → HoldsKey key_of old (key_of r) → length new ≡ length old
  as_many old new r o changed held = ⊎_elim
      (λ place.
      let made = put_in_place key_of old (set old place.0 r) (key_of r) r place.0 refl o place.1 refl in
      ap length (one_change key_of old new (set old place.0 r) (key_of r) (Some r) changed made) ∙ length-set old place.0 r)
      (λ gap. absurd (key_not_there key_of old (key_of r) gap.0 o gap.1 held))
      (located old (key_of r) o)

  -- an element that is taken out is one less
  pub one_less : (old new : List A) (key : Key) → AreInKeyOrder key_of old → IsChanged key_of old key None new → HoldsKey key_of old key → length new + 1 ≡ length old
  one_less old new key o changed held = ⊎_elim
      (λ place.
      let made = removed_from_place key_of old (remove old place.0) key place.0 o place.1 refl in
      ap (λ (l : List A). length l + 1) (one_change key_of old new (remove old place.0) key None changed made) ∙ length-remove old place.0 place.1.within)
      (λ gap. absurd (key_not_there key_of old key gap.0 o gap.1 held))
      (located old key o)
