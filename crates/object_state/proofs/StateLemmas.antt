-- Objects under their keys, and what a change leaves of a state.
use Rattle.std.proofs.Common.{◌≡◌, ◌≢◌, ◌⊎◌, inl, inr, ⊎_elim, ◌↔◌, ◌+◌, List, [], length, Contains, refl, sym, ap, subst, ◌∙◌}
use Rattle.std.specs.Prelude.{Option, Some, None}
use Rattle.object_journal.specs.declared.key.Key.{Key}
use Rattle.key_order.specs.Order as keyed
use Rattle.key_order.proofs.OrderLemmas.{none_there, one_of_key, one_list, holds_or_not}
use Rattle.key_order.proofs.OutcomeLemmas.{one_more, as_many, one_less}
use Rattle.object_state.specs.declared.object.Object.{Object}
use Rattle.object_state.specs.declared.object.Stored.{Stored}
use Rattle.object_state.specs.declared.object.Change.{Change}
use Rattle.object_state.specs.Objects.{AreInKeyOrder, Holds, HasKey, IsChanged}
use Rattle.object_state.specs.State.{State, IsCounted, IsApplied}

abbrev pub key_of : Stored → Key
key_of s = s.key

-- ---- objects under their keys

pub holds_of_key : (objects : List Stored) (key : Key) (s : Stored) → Contains objects s → s.key ≡ key → Holds objects key s.object
holds_of_key objects key s there is = subst (λ (k : Key). Contains objects (record { key = k; object = s.object })) is there

pub has_from_holds : (objects : List Stored) (key : Key) → keyed.HoldsKey key_of objects key → HasKey objects key
has_from_holds objects key h = (h.0.object, holds_of_key objects key h.0 h.1 h.2)

pub holds_from_has : (objects : List Stored) (key : Key) → HasKey objects key → keyed.HoldsKey key_of objects key
holds_from_has objects key h = (record { key = key; object = h.0 }, h.1, refl)

pub has_or_not : (objects : List Stored) (key : Key) → HasKey objects key ⊎ (HasKey objects key → ⊥)
has_or_not objects key = ⊎_elim
    (λ h. inl (has_from_holds objects key h))
    (λ none. inr (λ h. none (holds_from_has objects key h)))
    (holds_or_not key_of objects key)

pub one_object : (objects : List Stored) (key : Key) (a b : Object) → AreInKeyOrder objects → Holds objects key a → Holds objects key b → a ≡ b
one_object objects key a b order at_a at_b = ap (λ (s : Stored). s.object) (one_of_key key_of objects (record { key = key; object = a }) (record { key = key; object = b }) order at_a at_b refl)

-- ---- changes

some_is : (x y : Stored) → Some x ≡ Some y → x ≡ y
some_is x y e = cc

same_object : (x y : Object) → Some x ≡ Some y → x ≡ y
same_object x y e = cc

no_object : {X : Type 0} (x : X) → None ≡ Some x → ⊥
no_object x e = cc

pub put_change : (old new : List Stored) (change : Change) (object : Object) → change.object ≡ Some object
    → keyed.IsChanged key_of old change.key (Some (record { key = change.key; object = object })) new → IsChanged old change new
put_change old new change object is c = record {
  order = c.order;
  exact = λ key o. (
    (λ there. ⊎_elim
        (λ both. inl (both.0, is ∙ ap Some (ap (λ (s : Stored). s.object) (some_is (record { key = change.key; object = object }) (record { key = key; object = o }) both.1))))
        (λ other. inr other)
        ((c.exact (record { key = key; object = o })).0 there)),
    ⊎_elim
        (λ both. let same = same_object object o (sym is ∙ both.1) in
        (c.exact (record { key = key; object = o })).1 (inl (both.0, λ i. Some (record { key = sym both.0 i; object = same i }))))
        (λ other. (c.exact (record { key = key; object = o })).1 (inr other)),
  );
}

pub removal_change : (old new : List Stored) (change : Change) → change.object ≡ None
    → keyed.IsChanged key_of old change.key None new → IsChanged old change new
removal_change old new change is c = record {
  order = c.order;
  exact = λ key o. (
    (λ there. ⊎_elim
        (λ both. absurd (no_object (record { key = key; object = o }) both.1))
        (λ other. inr other)
        ((c.exact (record { key = key; object = o })).0 there)),
    ⊎_elim
        (λ both. absurd (no_object o (sym is ∙ both.1)))
        (λ other. (c.exact (record { key = key; object = o })).1 (inr other)),
  );
}

key_change_of_put : (old new : List Stored) (change : Change) (object : Object) → change.object ≡ Some object → IsChanged old change new
    → keyed.IsChanged key_of old change.key (Some (record { key = change.key; object = object })) new
key_change_of_put old new change object is c = record {
  order = c.order;
  exact = λ x. (
    (λ there. ⊎_elim
        (λ both. let same = same_object object x.object (sym is ∙ both.1) in
        inl (both.0, λ i. Some (record { key = sym both.0 i; object = same i })))
        (λ other. inr other)
        ((c.exact x.key x.object).0 there)),
    ⊎_elim
        (λ both. (c.exact x.key x.object).1 (inl (both.0, is ∙ ap Some (ap (λ (s : Stored). s.object) (some_is (record { key = change.key; object = object }) x both.1)))))
        (λ other. (c.exact x.key x.object).1 (inr other)),
  );
}

key_change_of_removal : (old new : List Stored) (change : Change) → change.object ≡ None → IsChanged old change new
    → keyed.IsChanged key_of old change.key None new
key_change_of_removal old new change is c = record {
  order = c.order;
  exact = λ x. (
    (λ there. ⊎_elim
        (λ both. absurd (no_object x.object (sym is ∙ both.1)))
        (λ other. inr other)
        ((c.exact x.key x.object).0 there)),
    ⊎_elim
        (λ both. absurd (no_object x both.1))
        (λ other. (c.exact x.key x.object).1 (inr other)),
  );
}

-- nothing is taken out of nothing
pub nothing_taken : (key : Key) → keyed.IsChanged key_of [] key None []
nothing_taken key = record {
  order = tt;
  exact = λ x. (
    (λ there. absurd (none_there x there)),
    ⊎_elim (λ both. absurd (no_object x both.1)) (λ both. absurd (none_there x both.1)),
  );
}

pub nothing_held : (key : Key) → keyed.HoldsKey key_of [] key → ⊥
nothing_held key h = none_there h.0 h.1

-- ---- a change leaves one state

there_or_none : (o : Option Object) → (o ≡ None) ⊎ ((object : Object) × (o ≡ Some object))
there_or_none None = inl refl
there_or_none (Some object) = inr (object, refl)

one_count : (old : State) (change : Change) (a b : State) → IsCounted old change a → IsCounted old change b → a.records ≡ b.records
one_count old change a b p q = ⊎_elim
    (λ none. p.goes none ∙ sym (q.goes none))
    (λ some. ⊎_elim
    (λ has. p.stays some.0 some.1 has ∙ sym (q.stays some.0 some.1 has))
    (λ new. p.comes some.0 some.1 new ∙ sym (q.comes some.0 some.1 new))
    (has_or_not old.objects change.key))
    (there_or_none change.object)

one_objects : (old a b : List Stored) (change : Change) → IsChanged old change a → IsChanged old change b → a ≡ b
one_objects old a b change p q = one_list key_of a b p.order q.order (λ s. (
  (λ there. (q.exact s.key s.object).1 ((p.exact s.key s.object).0 there)),
  (λ there. (p.exact s.key s.object).1 ((q.exact s.key s.object).0 there)),
))

pub one_state : (old : State) (change : Change) (a b : State) → IsApplied old change a → IsApplied old change b → a ≡ b
one_state old change a b p q =
    let objects = one_objects old.objects a.objects b.objects change p.objects q.objects in
    let revision = p.revision ∙ sym q.revision in
    let records = one_count old change a b p.records q.records in
    λ i. record { objects = objects i; revision = revision i; records = records i }

pub others_stay : (old new : List Stored) (change : Change) (key : Key) (object : Object) → IsChanged old change new → key ≢ change.key → Holds new key object ↔ Holds old key object
others_stay old new change key object c apart = (
  (λ there. ⊎_elim (λ both. absurd (apart both.0)) (λ both. both.1) ((c.exact key object).0 there)),
  (λ there. (c.exact key object).1 (inr (apart, there))),
)

-- ---- how many objects a change leaves

pub one_more_object : (old new : List Stored) (change : Change) (object : Object) → AreInKeyOrder old → IsChanged old change new → change.object ≡ Some object → (HasKey old change.key → ⊥) → length new ≡ length old + 1
one_more_object old new change object order c is none =
    one_more key_of old new (record { key = change.key; object = object }) order (key_change_of_put old new change object is c) (λ h. none (has_from_holds old change.key h))

pub as_many_objects : (old new : List Stored) (change : Change) (object : Object) → AreInKeyOrder old → IsChanged old change new → change.object ≡ Some object → HasKey old change.key → length new ≡ length old
as_many_objects old new change object order c is has =
    as_many key_of old new (record { key = change.key; object = object }) order (key_change_of_put old new change object is c) (holds_from_has old change.key has)

pub one_object_less : (old new : List Stored) (change : Change) → AreInKeyOrder old → IsChanged old change new → change.object ≡ None → HasKey old change.key → length new + 1 ≡ length old
one_object_less old new change order c is has =
    one_less key_of old new change.key order (key_change_of_removal old new change is c) (holds_from_has old change.key has)
