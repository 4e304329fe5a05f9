-- How many records a store can have.
use Rattle.std.proofs.Common.{◌≡◌, ◌⊎◌, inl, inr, ⊎_elim, ◌≤◌, List, [], ◌∷◌, ◌++◌, length, map, refl, sym, subst, arith}
use Rattle.std.specs.Prelude.{All, AllPairs}
use Rattle.std.proofs.lemmas.List.{length-map}
use Rattle.std.proofs.lemmas.List.Elements.{All-map, All-weaker}
use Rattle.std.proofs.lemmas.List.Kept.{AllPairs-cons}
use Rattle.key_order.proofs.OrderLemmas.{all_of, below_apart}
use Rattle.object_journal.proofs.EntryLaws.{not_empty}
use Rattle.object_journal.specs.Journal.{IsHeld, FewHeld, AreLawful, most_keys}
use Rattle.object_journal.specs.KeyOrder.{by_key}
use Rattle.object_journal.specs.declared.entry.Entry.{Entry}
use Rattle.object_journal.specs.declared.key.Key.{Key}
use Rattle.object_store.specs.Records.{AreInKeyOrder, put_of}
use Rattle.object_store.specs.Stores.{StoreRecord, Recalls}
use Rattle.object_store.specs.declared.item.Item.{Item}
use Rattle.std.specs.declared.cmp.Ordering.TheVariants.{Less}

abbrev key_of : Item → Key
key_of r = r.key

ends : (es : List Entry) → (es ≡ []) ⊎ ((front : List Entry) × (last : Entry) × (es ≡ front ++ last ∷ []))
ends [] = inl refl
ends (e ∷ es) = inr (⊎_elim
    (λ none. ([], e, λ i. e ∷ none i))
    (λ some. (e ∷ some.0, some.1, λ i. e ∷ some.2 i))
    (ends es))

none_held : FewHeld []
none_held [] apart all = omega arith
none_held (k ∷ ks) apart all = let h = all 0 k (omega arith) in absurd (not_empty h.1.before h.0 h.1.behind h.1.parts)

lawful_few : (base : _) (entries : List Entry) → AreLawful base entries → FewHeld entries
lawful_few base entries lawful = ⊎_elim
    (λ none. subst FewHeld (sym none) none_held)
    (λ some. subst FewHeld (sym some.2) (lawful some.0 some.1 [] some.2).few)
    (ends entries)

keys_apart : (items : List Item) → AreInKeyOrder items → AllPairs (λ a b. a ≡ b → ⊥) (map key_of items)
keys_apart [] order = λ i j d lt below. absurd (omega (arith, below))
keys_apart (x ∷ xs) order = AllPairs-cons (λ a b. a ≡ b → ⊥) x.key (map key_of xs)
    (All-map (λ k. x.key ≡ k → ⊥) key_of xs (All-weaker (λ y. by_key x.key y.key ≡ Less) (λ y. x.key ≡ y.key → ⊥) (λ y less. below_apart x.key y.key less) xs order.0))
    (keys_apart xs order.1)

pub few_records : (s : StoreRecord) (entries : List Entry) → Recalls s entries → length s.items ≤ most_keys
few_records s entries r =
    let held : All (IsHeld entries) (map key_of s.items) = All-map (IsHeld entries) key_of s.items (all_of (λ q. IsHeld entries q.key) s.items (λ q there. (put_of q, (r.records.exact q).0 there, refl))) in
    let few = lawful_few s.journal.base entries r.lawful (map key_of s.items) (keys_apart s.items r.records.ordered) held in
    omega (arith, few, length-map s.items key_of)
