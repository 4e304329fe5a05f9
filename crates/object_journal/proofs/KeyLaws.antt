-- What follows from the order of keys.
use Rattle.std.proofs.Common.{◌≡◌, ◌≢◌, ◌⊎◌, inl, inr, ⊎_elim, Bool, true, false, refl, sym, subst, ◌∙◌, rules}
use Rattle.std.specs.Bool.{Decides}
use Rattle.std.specs.Cmp.{IsTotalOrder}
use Rattle.std.specs.Cmp.Rules.{comparing}
use Rattle.std.specs.Ordering.{eq_by_cmp, ordering_then}
use Rattle.std.specs.declared.cmp.Ordering.{Ordering}
use Rattle.std.specs.declared.cmp.Ordering.TheVariants.{Less, Equal, Greater}
use Rattle.std.proofs.lemmas.Cmp.{eq_by_cmp_equiv}
use Rattle.std.proofs.lemmas.Map.Lookups.{CmpEqualImpliesEq, exact_bytes}
use Rattle.std.proofs.lemmas.Map.Views.{tells_apart}
use Rattle.std.proofs.lemmas.Bool.{false≢true}
use Rattle.object_journal.specs.declared.key.Key.{Key}
use Rattle.object_journal.specs.KeyOrder.{by_key}

pub by_key_total : IsTotalOrder by_key
by_key_total = search (comparing, rules)

then_tied : (o p : Ordering) → ordering_then o p ≡ Equal → (o ≡ Equal) × (p ≡ Equal)
then_tied Less p h = absurd (let e : Less ≡ Equal = h in cc)
then_tied Equal p h = (refl, h)
then_tied Greater p h = absurd (let e : Greater ≡ Equal = h in cc)

pub exact_keys : CmpEqualImpliesEq by_key
exact_keys a b h =
    let (first, name) = then_tied _ _ h in
    let (front, namespace) = then_tied _ _ first in
    let (group, resource) = then_tied _ _ front in
    let g = exact_bytes a.group b.group group in
    let r = exact_bytes a.resource b.resource resource in
    let s = exact_bytes a.namespace b.namespace namespace in
    let n = exact_bytes a.name b.name name in
    λ i. record { group = g i; resource = r i; namespace = s i; name = n i }

abbrev pub same : Key → Key → Bool
same = eq_by_cmp by_key

pub same_is : (a b : Key) → same a b ≡ true → a ≡ b
same_is = tells_apart exact_keys

pub is_same : (a b : Key) → a ≡ b → same a b ≡ true
is_same a b e = subst (λ (k : Key). same a k ≡ true) e ((eq_by_cmp_equiv by_key_total).refl a)

pub same_decides : (a b : Key) → Decides (same a b) (a ≡ b)
same_decides a b = (same_is a b, is_same a b)

pub true_or_false : (b : Bool) → (b ≡ true) ⊎ (b ≡ false)
true_or_false true = inl refl
true_or_false false = inr refl

-- keys are the same or not
pub same_or_not : (a b : Key) → (a ≡ b) ⊎ (a ≢ b)
same_or_not a b = ⊎_elim (λ t. inl (same_is a b t)) (λ f. inr (λ e. false≢true (sym f ∙ is_same a b e))) (true_or_false (same a b))
