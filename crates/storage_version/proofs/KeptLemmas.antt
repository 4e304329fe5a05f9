-- The records that are kept as a state changes.
use Rattle.std.proofs.Common.{◌≡◌, ◌≢◌, ◌⊎◌, inl, inr, ⊎_elim, ◌↔◌, ℕ, ◌+◌, ◌≤◌, true, false, List, Some, None, Contains, refl, sym, ◌∙◌, ap, subst, arith}
use Rattle.std.proofs.lemmas.Bool.{cases_Bool, false≢true}
use Rattle.conversion.proofs.WholeReadLemmas.{one_whole}
use Rattle.fields.specs.declared.map.FieldPair.{FieldPair}
use Rattle.fields.specs.declared.table.VersionTable.{VersionTable}
use Rattle.key_order.proofs.OrderLemmas.{one_list}
use Rattle.lifecycle.specs.Names.{group_version}
use Rattle.object_journal.specs.declared.key.Key.{Key}
use Rattle.object_journal.specs.declared.entry.Entry.{Entry}
use Rattle.object_state.specs.Objects.{Holds}
use Rattle.object_state.specs.State.{State, IsApplied}
use Rattle.object_state.specs.declared.object.Change.{Change}
use Rattle.object_state.specs.declared.object.Object.{Object}
use Rattle.object_store.specs.Records.{AreInKeyOrder, put_of, IsChanged}
use Rattle.object_store.specs.declared.item.Item.{Item}
use Rattle.release_view.specs.Views.{has_live}
use Rattle.release_view.specs.declared.known.KnownVersion.{KnownVersion}
use Rattle.release_view.proofs.ListLemmas.{some_is}
use Rattle.serde_json.specs.Written.{compact_text}
use Rattle.storage_version.specs.Bodies.{IsBodyOf}
use Rattle.storage_version.specs.Kept.{IsStoredAs, IsEntryOf, IsChangeOf, IsTouched, IsKeptOf, IsForeignIn, IsOfObject, AreKept}
use Rattle.storage_version.specs.Standing.{IsLive, StandsFor}
use Rattle.storage_version.proofs.StandingLemmas.{there_or_none, key_is, record_of_put, no_put_is_removal}

-- ---- one record

one_body : (table : VersionTable) (held : List FieldPair) (a b : List ℕ) → IsBodyOf table held a → IsBodyOf table held b → a ≡ b
one_body table held a b p q = p.compact ∙ ap compact_text (one_whole table (group_version table.group table.version) held None p.tree q.tree p.whole q.whole) ∙ sym q.compact

pub one_stored : (back versions : List KnownVersion) (key : Key) (object : Object) (a b : Item) → IsStoredAs back versions key object a → IsStoredAs back versions key object b → a ≡ b
one_stored back versions key object a b p q =
    let table : p.table ≡ q.table = some_is p.table q.table (sym p.in_version ∙ q.in_version) in
    let body = one_body q.table object.fields a.body b.body (subst (λ (t : VersionTable). IsBodyOf t object.fields a.body) table p.body) q.body in
    let at = p.of_key ∙ sym q.of_key in
    let revision = p.revision ∙ sym q.revision in
    let created = p.created ∙ sym q.created in
    λ i. record { key = at i; revision = revision i; created = created i; body = body i }

-- ---- before any change

live_or_foreign : (versions : List KnownVersion) (key : Key) → IsLive versions key ⊎ (IsLive versions key → ⊥)
live_or_foreign versions key = elim (cases_Bool (has_live versions key.group key.resource)) [
  | inl live ↦ inl live
  | inr foreign ↦ inr (λ live. false≢true (sym foreign ∙ live))
]

module _ (back versions : List KnownVersion) (old : List Item) (revision : ℕ) (state : State) (stands : StandsFor old revision versions state) where
  kept_there : (item : Item) → Contains old item → IsForeignIn versions old item ⊎ IsOfObject back versions old state item
  kept_there item there = ⊎_elim
      (λ live.
      let read = stands.readable item there live in
      let object : Object = record { created = item.created; revision = item.revision; fields = read.0 } in
      let holds = (stands.exact item.key object).1 (record { item = item; among = there; of_key = refl; live = live; read = record { created = refl; revision = refl; fields = read.1 } }) in
      inr (live, (object, holds, inl (there, refl))))
      (λ foreign. inl (foreign, there))
      (live_or_foreign versions item.key)

  there_kept : (item : Item) → IsForeignIn versions old item ⊎ IsOfObject back versions old state item → Contains old item
  there_kept item (inl foreign) = foreign.1
  there_kept item (inr of) =
      let (object, holds, kept) = of.1 in
      ⊎_elim
      (λ was. was.0)
      (λ made. let r = (stands.exact item.key object).0 holds in absurd (made.0 r.item r.among r.of_key (sym r.read.revision)))
      kept

  pub kept_unchanged : AreInKeyOrder old → AreKept back versions old state old revision
  kept_unchanged order = record {
    order = order;
    exact = λ item. (kept_there item, there_kept item);
    at_revision = sym stands.at_revision;
  }

-- ---- a further step

module _ (back versions : List KnownVersion) (old records new : List Item) (revision : ℕ) (state next : State) (change : Change) (e : Entry) (below : (item : Item) → Contains old item → item.revision ≤ state.revision)
    (of : IsChangeOf back versions state change) (applied : IsApplied state change next) (entry : IsEntryOf back versions revision change e) (changed : IsChanged records e new)
    (kept : AreKept back versions old state records revision) where
  touched : (key : Key) (object : Object) → change.object ≡ Some object → IsTouched old key object
  touched key object is = λ item there at same. let low = below item there in let next = of.next object is in omega (arith, low, next, same)

  put_kept : (item : Item) → put_of item ≡ e → IsOfObject back versions old next item
  put_kept item put = ⊎_elim
      (λ none. absurd (no_put_is_removal item e (entry.removal none) put))
      (λ some.
      let object : Object = some.0 in
      let p = entry.put object some.1 in
      let same : p.0 ≡ item = record_of_put p.0 item (p.1 ∙ sym put) in
      let stored : IsStoredAs back versions change.key object item = subst (IsStoredAs back versions change.key object) same p.2 in
      let at : change.key ≡ item.key = sym stored.of_key in (
        subst (IsLive versions) at of.live,
        (
          object,
          subst (λ (k : Key). Holds next.objects k object) at ((applied.objects.exact change.key object).1 (inl (refl, some.1))),
          inr (touched item.key object some.1, subst (λ (k : Key). IsStoredAs back versions k object item) at stored),
        ),
      ))
      (there_or_none change.object)

  stepped_there : (item : Item) → Contains new item → IsForeignIn versions old item ⊎ IsOfObject back versions old next item
  stepped_there item there = ⊎_elim
      (λ put. inr (put_kept item put))
      (λ was. ⊎_elim
      (λ foreign. inl foreign)
      (λ is.
      let (object, holds, k) = is.1 in
      inr (is.0, (object, (applied.objects.exact item.key object).1 (inr ((λ same. was.1 (same ∙ sym entry.of_key)), holds)), k)))
      ((kept.exact item).0 was.0))
      ((changed.exact item).0 there)

  stays : (item : Item) → item.key ≢ change.key → IsForeignIn versions old item ⊎ IsOfObject back versions old state item → Contains new item
  stays item apart is = (changed.exact item).1 (inr ((kept.exact item).1 is, λ same. apart (same ∙ entry.of_key)))

  comes : (item : Item) (object : Object) → item.key ≡ change.key → change.object ≡ Some object → IsKeptOf back versions old object item → Contains new item
  comes item object at is (inl was) = absurd (touched item.key object is item was.0 refl was.1)
  comes item object at is (inr made) =
      let p = entry.put object is in
      let same = one_stored back versions change.key object p.0 item p.2 (subst (λ (k : Key). IsStoredAs back versions k object item) at made.1) in
      (changed.exact item).1 (inl (subst (λ (i : Item). put_of i ≡ e) same p.1))

  there_stepped : (item : Item) → IsForeignIn versions old item ⊎ IsOfObject back versions old next item → Contains new item
  there_stepped item (inl foreign) = stays item (λ same. foreign.0 (subst (IsLive versions) (sym same) of.live)) (inl foreign)
  there_stepped item (inr is) =
      let (object, holds, k) = is.1 in
      ⊎_elim
      (λ here. comes item object here.0 here.1 k)
      (λ other. stays item other.0 (inr (is.0, (object, other.1, k))))
      ((applied.objects.exact item.key object).0 holds)

  pub kept_stepped : AreKept back versions old next new e.revision
  kept_stepped = record {
    order = changed.ordered;
    exact = λ item. (stepped_there item, there_stepped item);
    at_revision = entry.next ∙ ap (λ n. n + 1) kept.at_revision ∙ sym applied.revision;
  }

-- ---- one list

pub kept_once : (back versions : List KnownVersion) (old records others : List Item) (state : State) (revision other : ℕ) → AreKept back versions old state records revision → AreKept back versions old state others other → (records ≡ others) × (revision ≡ other)
kept_once back versions old records others state revision other p q = (
  one_list (λ (r : Item). r.key) records others p.order q.order (λ item. (
    (λ there. (q.exact item).1 ((p.exact item).0 there)),
    (λ there. (p.exact item).1 ((q.exact item).0 there)),
  )),
  p.at_revision ∙ sym q.at_revision,
)
