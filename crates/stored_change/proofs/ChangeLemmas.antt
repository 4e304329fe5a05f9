-- What the store's records say of a change of the state that they stand for.
use Rattle.std.proofs.Common.{◌≡◌, inl, inr, ⊎_elim, ℕ, ◌+◌, ◌<◌, List, Some, Contains, refl, sym, ◌∙◌, ap, subst, arith}
use Rattle.fields.specs.declared.table.VersionTable.{VersionTable}
use Rattle.key_order.proofs.OrderLemmas.{holds_or_not}
use Rattle.object_journal.specs.Journal.{last_revision}
use Rattle.object_journal.specs.declared.entry.Entry.{Entry}
use Rattle.object_journal.specs.declared.key.Key.{Key}
use Rattle.object_state.specs.Objects.{HasKey, Holds}
use Rattle.object_state.specs.State.{State}
use Rattle.object_state.specs.declared.object.Change.{Change}
use Rattle.object_state.specs.declared.object.Object.{Object}
use Rattle.object_store.specs.Records.{HoldsKey}
use Rattle.object_store.specs.Stores.{IsFull, IsCreated, IsPutOf as IsNextPut}
use Rattle.object_store.specs.declared.item.Item.{Item}
use Rattle.release_view.specs.Views.{Viewed}
use Rattle.release_view.specs.declared.known.KnownVersion.{KnownVersion}
use Rattle.storage_version.specs.Bodies.{IsBodyOf}
use Rattle.storage_version.specs.Kept.{IsPutOf}
use Rattle.storage_version.specs.Standing.{IsLive, StandsFor}
use Rattle.storage_version.specs.Storage.{storage_table_in}
use Rattle.stored_change.specs.Changes.{IsStorable}

module _ (items : List Item) (revision : ℕ) (back view : Viewed) (state : State) (change : Change)
    (stands : StandsFor items revision view.versions state) (storable : IsStorable back view state change) where
  -- the object that the key's record is read as
  read_there : (item : Item) → Contains items item → item.key ≡ change.key → (old : Object) × Holds state.objects change.key old × (old.created ≡ item.created)
  read_there item there at =
      let live = storable.of_server.live in
      let read = stands.readable item there (subst (IsLive view.versions) (sym at) live) in
      let old : Object = record { created = item.created; revision = item.revision; fields = read.0 } in
      (old, (stands.exact change.key old).1 (record { item = item; among = there; of_key = at; live = live; read = record { created = refl; revision = refl; fields = read.1 } }), refl)

  pub held_there : HasKey state.objects change.key → HoldsKey items change.key
  held_there has = let r = (stands.exact change.key has.0).0 has.1 in (r.item, r.among, r.of_key)

  more_there : revision < last_revision
  more_there = subst (λ (n : ℕ). n < last_revision) stands.at_revision storable.room.more

  pub not_full : IsFull items revision change.key → ⊥
  not_full (inl last) = let more = more_there in omega (arith, last, more)
  not_full (inr full) =
      let few = storable.room.room (λ has. full.0 (held_there has)) in
      let counted = stands.counted in
      let many = full.1 in
      omega (arith, few, counted, many)

  pub same_created : (object : Object) → change.object ≡ Some object → (created : ℕ) → IsCreated items change.key (revision + 1) created → created ≡ object.created
  same_created object is created made = ⊎_elim
      (λ held.
      let old = read_there held.0 held.1 held.2 in
      made.held held.0 held.1 held.2 ∙ sym old.2 ∙ sym (storable.created.stored object old.0 is old.1))
      (λ none. made.fresh none ∙ ap (λ (n : ℕ). n + 1) (sym stands.at_revision) ∙ sym (storable.created.fresh object is (λ has. none (held_there has))))
      (holds_or_not (λ (r : Item). r.key) items change.key)

-- the put with the body of the object makes its record
pub put_stored : (back versions : List KnownVersion) (items : List Item) (revision : ℕ) (key copy : Key) (object : Object) (table : VersionTable) (body : List ℕ) (e : Entry)
    → storage_table_in back versions key.group key.resource ≡ Some table → IsBodyOf table object.fields body
    → ((created : ℕ) → IsCreated items key (revision + 1) created → created ≡ object.created)
    → object.revision ≡ revision + 1
    → copy ≡ key → IsNextPut items revision copy body e → IsPutOf back versions key object e
put_stored back versions items revision key copy object table body e in_version of created next same put =
    let made = subst (λ (k : Key). IsNextPut items revision k body e) same put in
    let item : Item = record { key = key; revision = revision + 1; created = made.created; body = body } in (
      item,
      (λ i. record { key = sym made.key_is i; revision = sym made.next i; change = sym made.put i }),
      record {
        of_key = refl;
        created = created made.created made.keeps;
        revision = sym next;
        table = table;
        in_version = in_version;
        body = of;
      },
    )
