-- Records stand for one state, and go on standing as it changes.
use Rattle.std.proofs.Common.{◌≡◌, ◌≢◌, ◌⊎◌, inl, inr, ⊎_elim, ◌↔◌, ℕ, ◌+◌, Bool, true, false, List, [], ◌∷◌, length, Option, Some, None, option_map, option_and_then, find, Contains, All, Less, refl, sym, ◌∙◌, ap, subst, arith}
use Rattle.std.specs.Prelude.{filter_map}
use Rattle.std.specs.List.{cons_option}
use Rattle.std.specs.Option.{is_some}
use Rattle.std.proofs.lemmas.Bool.{cases_Bool, false≢true}
use Rattle.std.proofs.lemmas.List.Elements.{All-contains}
use Rattle.fields.specs.Fits.{Fits, restricted}
use Rattle.fields.specs.declared.table.VersionTable.{VersionTable}
use Rattle.key_order.specs.Order as keyed
use Rattle.key_order.proofs.OrderLemmas.{all_of, one_list, holds_or_not}
use Rattle.key_order.proofs.OutcomeLemmas.{one_more, as_many, one_less}
use Rattle.lifecycle.specs.Entry.{GroupVersionResource}
use Rattle.object_journal.specs.declared.key.Key.{Key}
use Rattle.object_journal.specs.KeyOrder.{by_key}
use Rattle.object_journal.specs.declared.entry.Entry.{Entry}
use Rattle.object_journal.specs.declared.entry.Change.TheVariants.{Put, Removal}
use Rattle.object_journal.specs.Payload.{created_of, body_of}
use Rattle.object_state.specs.Objects.{AreInKeyOrder, Holds, HasKey}
use Rattle.object_state.specs.State.{State, IsApplied}
use Rattle.object_state.specs.declared.object.Change.{Change}
use Rattle.object_state.specs.declared.object.Object.{Object}
use Rattle.object_state.specs.declared.object.Stored.{Stored}
use Rattle.object_state.proofs.StateLemmas.{key_of, has_or_not}
use Rattle.object_store.specs.Records as store
use Rattle.object_store.specs.Records.{put_of, IsChanged}
use Rattle.object_store.specs.declared.item.Item.{Item}
use Rattle.release_view.specs.Known.{name_of, table_name}
use Rattle.release_view.specs.Later.{AreOfOneHistory}
use Rattle.release_view.specs.Views.{Viewed, has_name, has_live, table_in, best_table_in, is_live_of}
use Rattle.release_view.specs.declared.known.KnownVersion.{KnownVersion}
use Rattle.release_view.proofs.ListLemmas.{given_of, gives, some_from, some-find, some_is}
use Rattle.release_view.proofs.LookupLemmas.{of_resource, named_of}
use Rattle.schemas.specs.Dated.{Dated}
use Rattle.storage_version.specs.Bodies.{IsBodyOf, IsBodyRead, IsReadable}
use Rattle.storage_version.specs.Kept.{IsStoredAs, IsEntryOf, IsChangeOf}
use Rattle.storage_version.specs.Laws.{ReadsOwn, ReadsKnown, ReadsOnce}
use Rattle.storage_version.specs.Standing.{IsLive, IsReadAs, HasRecord, StandsFor, known_object, known_of, known_part}
use Rattle.storage_version.specs.Storage.{or_else, storage_table_in}
use Rattle.storage_version.proofs.ReadLemmas.{known_by}

pub there_or_none : {X : Type 0} (o : Option X) → (o ≡ None) ⊎ ((x : X) × (o ≡ Some x))
there_or_none None = inl refl
there_or_none (Some x) = inr (x, refl)

-- ---- one state

pub one_standing : (items : List Item) (revision : ℕ) (versions : List KnownVersion) (a b : State) → StandsFor items revision versions a → StandsFor items revision versions b → a ≡ b
one_standing items revision versions a b p q =
    let objects = one_list key_of a.objects b.objects p.order q.order (λ s. (
      (λ there. (q.exact s.key s.object).1 ((p.exact s.key s.object).0 there)),
      (λ there. (p.exact s.key s.object).1 ((q.exact s.key s.object).0 there)),
    )) in
    let at = p.at_revision ∙ sym q.at_revision in
    let counts = p.counted ∙ sym q.counted in
    λ i. record { objects = objects i; revision = at i; records = counts i }

-- ---- entries

pub key_is : (item : Item) (e : Entry) → put_of item ≡ e → item.key ≡ e.key
key_is item e is = ap (λ (x : Entry). x.key) is

pub record_of_put : (q r : Item) → put_of q ≡ put_of r → q ≡ r
record_of_put q r e = λ i. record { key = (e i).key; revision = (e i).revision; created = created_of (e i).change; body = body_of (e i).change }

pub no_put_is_removal : (item : Item) (e : Entry) → e.change ≡ Removal → put_of item ≡ e → ⊥
no_put_is_removal item e removal is = let both : Put item.created item.body ≡ Removal = ap (λ (x : Entry). x.change) is ∙ removal in cc

-- ---- an entry's change, of whatever is read of its record

-- the record that the entry puts is read as this object
pub record IsPutRead (versions : List KnownVersion) (e : Entry) (object : Object) : Type 0 where
  pub item : Item
  pub is : put_of item ≡ e
  pub live : IsLive versions e.key
  pub read : IsReadAs versions item object

abbrev pub IsObjectChange : List Stored → Entry → (Object → Type 0) → List Stored → Type 0
IsObjectChange old e Now new = (key : Key) (object : Object) → Holds new key object ↔ (((key ≡ e.key) × Now object) ⊎ ((key ≢ e.key) × Holds old key object))

abbrev pub PutIsReadable : List KnownVersion → Entry → Type 0
PutIsReadable versions e = (item : Item) → put_of item ≡ e → IsLive versions e.key → IsReadable versions item.key.group item.key.resource item.body

module _ (versions : List KnownVersion) (old new : List Item) (revision : ℕ) (e : Entry) (Now : Object → Type 0) (state next : State) (changed : IsChanged old e new) (stands : StandsFor old revision versions state)
    (objects : IsObjectChange state.objects e Now next.objects) (now : (object : Object) → Now object ↔ IsPutRead versions e object) where
  record_there : (key : Key) (object : Object) → Holds next.objects key object → HasRecord new versions key object
  record_there key object there = ⊎_elim
      (λ here. let p = (now object).0 here.1 in record {
        item = p.item;
        among = (changed.exact p.item).1 (inl p.is);
        of_key = key_is p.item e p.is ∙ sym here.0;
        live = subst (IsLive versions) (sym here.0) p.live;
        read = p.read;
      })
      (λ other. let r = (stands.exact key object).0 other.1 in record {
        item = r.item;
        among = (changed.exact r.item).1 (inr (r.among, λ at. other.0 (sym r.of_key ∙ at)));
        of_key = r.of_key;
        live = r.live;
        read = r.read;
      })
      ((objects key object).0 there)

  object_there : (key : Key) (object : Object) → HasRecord new versions key object → Holds next.objects key object
  object_there key object r = ⊎_elim
      (λ is. let at = sym r.of_key ∙ key_is r.item e is in
      (objects key object).1 (inl (at, (now object).1 (record { item = r.item; is = is; live = subst (IsLive versions) at r.live; read = r.read }))))
      (λ was. (objects key object).1 (inr (
        (λ at. was.1 (r.of_key ∙ at)),
        (stands.exact key object).1 (record { item = r.item; among = was.0; of_key = r.of_key; live = r.live; read = r.read }),
      )))
      ((changed.exact r.item).0 r.among)

  pub changed_standing : AreInKeyOrder next.objects → PutIsReadable versions e → next.records ≡ length new → next.revision ≡ e.revision → StandsFor new e.revision versions next
  changed_standing order readable counted at = record {
    order = order;
    readable = λ item there live. ⊎_elim
        (λ is. readable item is (subst (IsLive versions) (key_is item e is) live))
        (λ was. stands.readable item was.0 live)
        ((changed.exact item).0 there);
    exact = λ key object. (record_there key object, object_there key object);
    counted = counted;
    at_revision = at;
  }

-- ---- what is read of the record that an entry puts

pub one_read : (versions : List KnownVersion) (item : Item) (a b : Object) → ReadsOnce versions → IsReadAs versions item a → IsReadAs versions item b → a ≡ b
one_read versions item a b once p q =
    let created = p.created ∙ sym q.created in
    let revision = p.revision ∙ sym q.revision in
    let fields = once item.key.group item.key.resource item.body a.fields b.fields p.fields q.fields in
    λ i. record { created = created i; revision = revision i; fields = fields i }

best_group : (versions : List KnownVersion) (group resource : List ℕ) (t : VersionTable) → best_table_in versions group resource ≡ Some t → (t.group ≡ group) × (t.resource ≡ resource)
best_group versions group resource t best =
    let (v, there, passes, is) = known_by (is_live_of group resource) versions t best in
    let of = of_resource group resource v passes in
    (sym (ap (λ (u : VersionTable). u.group) is) ∙ of.0, sym (ap (λ (u : VersionTable). u.resource) is) ∙ of.1)

-- a version that the release reads, of the resource, with this table
pub record IsReadVersion (versions : List KnownVersion) (group resource : List ℕ) (table : VersionTable) : Type 0 where
  pub version : KnownVersion
  pub among : Contains versions version
  pub is : version.table ≡ table
  pub of_group : version.table.group ≡ group
  pub of_resource : version.table.resource ≡ resource

named_there : (versions : List KnownVersion) (group resource : List ℕ) (best table : VersionTable) → (best.group ≡ group) × (best.resource ≡ resource) → table_in versions (table_name best) ≡ Some table → IsReadVersion versions group resource table
named_there versions group resource best table of found =
    let (v, there, passes, is) = known_by (has_name (table_name best)) versions table found in
    let named = named_of (table_name best) v passes in
    record {
      version = v;
      among = there;
      is = is;
      of_group = ap (λ (n : GroupVersionResource). n.group) named ∙ of.0;
      of_resource = ap (λ (n : GroupVersionResource). n.resource) named ∙ of.1;
    }

stored_at : (versions : List KnownVersion) (group resource : List ℕ) (table : VersionTable) (o p : Option VersionTable)
    → ((t : VersionTable) → o ≡ Some t → (t.group ≡ group) × (t.resource ≡ resource)) → ((t : VersionTable) → p ≡ Some t → (t.group ≡ group) × (t.resource ≡ resource))
    → option_and_then (table_in versions) (option_map table_name (or_else o p)) ≡ Some table → IsReadVersion versions group resource table
stored_at versions group resource table (Some t) p first second h = named_there versions group resource t table (first t refl) h
stored_at versions group resource table None (Some t) first second h = named_there versions group resource t table (second t refl) h
stored_at versions group resource table None None first second h = absurd (let clash : None ≡ Some table = h in cc)

pub stored_version : (back versions : List KnownVersion) (group resource : List ℕ) (table : VersionTable) → storage_table_in back versions group resource ≡ Some table → IsReadVersion versions group resource table
stored_version back versions group resource table h =
    stored_at versions group resource table (best_table_in back group resource) (best_table_in versions group resource) (best_group back group resource) (best_group versions group resource) h

read_at : (versions : List KnownVersion) (body : List ℕ) (held : _) (key other : Key) → key ≡ other → IsBodyRead versions key.group key.resource body held → IsBodyRead versions other.group other.resource body held
read_at versions body held key other same h = subst (λ (k : Key). IsBodyRead versions k.group k.resource body held) same h

abbrev FitsStorage : List KnownVersion → List KnownVersion → Key → Object → Type 0
FitsStorage back versions key object = (table : VersionTable) → storage_table_in back versions key.group key.resource ≡ Some table → Fits table.rows object.fields

pub stored_read : (back versions : List KnownVersion) (key : Key) (object : Object) (item : Item) → ReadsOwn versions → FitsStorage back versions key object → IsStoredAs back versions key object item → IsReadAs versions item object
stored_read back versions key object item own fits s =
    let v = stored_version back versions key.group key.resource s.table s.in_version in
    let body : IsBodyOf v.version.table object.fields item.body = subst (λ (t : VersionTable). IsBodyOf t object.fields item.body) (sym v.is) s.body in
    let fit : Fits v.version.table.rows object.fields = subst (λ (t : VersionTable). Fits t.rows object.fields) (sym v.is) (fits s.table s.in_version) in
    let read = own v.version object.fields item.body v.among fit body in
    let there = subst (λ r. IsBodyRead versions key.group r item.body object.fields) v.of_resource (subst (λ g. IsBodyRead versions g v.version.table.resource item.body object.fields) v.of_group read) in
    record { created = sym s.created; revision = sym s.revision; fields = read_at versions item.body object.fields key item.key (sym s.of_key) there }

-- ---- counts

abbrev item_key : Item → Key
item_key r = r.key

key_changed_by_put : (old new : List Item) (item : Item) (e : Entry) → put_of item ≡ e → IsChanged old e new → keyed.IsChanged item_key old item.key (Some item) new
key_changed_by_put old new item e is changed = record {
  order = changed.ordered;
  exact = λ q. (
    (λ there. ⊎_elim
        (λ put. let same = record_of_put q item (put ∙ sym is) in inl (ap item_key same, ap Some (sym same)))
        (λ was. inr ((λ at. was.1 (at ∙ key_is item e is)), was.0))
        ((changed.exact q).0 there)),
    ⊎_elim
        (λ both. (changed.exact q).1 (inl (ap put_of (sym (some_is item q both.1)) ∙ is)))
        (λ other. (changed.exact q).1 (inr (other.1, λ at. other.0 (at ∙ sym (key_is item e is))))),
  );
}

key_changed_by_removal : (old new : List Item) (e : Entry) → e.change ≡ Removal → IsChanged old e new → keyed.IsChanged item_key old e.key None new
key_changed_by_removal old new e removal changed = record {
  order = changed.ordered;
  exact = λ q. (
    (λ there. ⊎_elim
        (λ put. absurd (no_put_is_removal q e removal put))
        (λ was. inr (was.1, was.0))
        ((changed.exact q).0 there)),
    ⊎_elim
        (λ both. absurd (let clash : None ≡ Some q = both.1 in cc))
        (λ other. (changed.exact q).1 (inr (other.1, other.0))),
  );
}

-- of a live kind the state has the key exactly where the records do
record_of_key : (items : List Item) (revision : ℕ) (versions : List KnownVersion) (state : State) (key : Key) → StandsFor items revision versions state → HasKey state.objects key → keyed.HoldsKey item_key items key
record_of_key items revision versions state key stands has = let r = (stands.exact key has.0).0 has.1 in (r.item, r.among, r.of_key)

object_of_key : (items : List Item) (revision : ℕ) (versions : List KnownVersion) (state : State) (key : Key) → StandsFor items revision versions state → IsLive versions key → keyed.HoldsKey item_key items key → HasKey state.objects key
object_of_key items revision versions state key stands live h =
    let read = stands.readable h.0 h.1 (subst (IsLive versions) (sym h.2) live) in
    let object : Object = record { created = h.0.created; revision = h.0.revision; fields = read.0 } in
    (object, (stands.exact key object).1 (record { item = h.0; among = h.1; of_key = h.2; live = live; read = record { created = refl; revision = refl; fields = read.1 } }))

module _ (back versions : List KnownVersion) (old new : List Item) (revision : ℕ) (e : Entry) (state next : State) (change : Change) (order : store.AreInKeyOrder old) (stands : StandsFor old revision versions state)
    (of : IsChangeOf back versions state change) (applied : IsApplied state change next) (entry : IsEntryOf back versions revision change e) (changed : IsChanged old e new) where
  counted_put : (object : Object) → change.object ≡ Some object → next.records ≡ length new
  counted_put object is =
      let (item, put, stored) = entry.put object is in
      let changes = key_changed_by_put old new item e put changed in
      let at : item.key ≡ change.key = stored.of_key in
      ⊎_elim
      (λ has.
      let held = subst (keyed.HoldsKey item_key old) (sym at) (record_of_key old revision versions state change.key stands has) in
      applied.records.stays object is has ∙ stands.counted ∙ sym (as_many item_key old new item order changes held))
      (λ none.
      let unheld : keyed.HoldsKey item_key old item.key → ⊥ = λ h. none (object_of_key old revision versions state change.key stands of.live (subst (keyed.HoldsKey item_key old) at h)) in
      applied.records.comes object is none ∙ ap (λ n. n + 1) stands.counted ∙ sym (one_more item_key old new item order changes unheld))
      (has_or_not state.objects change.key)

  counted_removal : change.object ≡ None → next.records ≡ length new
  counted_removal is =
      let changes = key_changed_by_removal old new e (entry.removal is) changed in
      let held = subst (keyed.HoldsKey item_key old) (sym entry.of_key) (record_of_key old revision versions state change.key stands (of.held is)) in
      let less : length new + 1 ≡ length old = one_less item_key old new e.key order changes held in
      let goes = applied.records.goes is in
      let counts = stands.counted in
      omega (arith, less, goes, counts)

  pub counted_after : next.records ≡ length new
  counted_after = ⊎_elim counted_removal (λ some. counted_put some.0 some.1) (there_or_none change.object)

  pub at_after : next.revision ≡ e.revision
  at_after = applied.revision ∙ ap (λ n. n + 1) stands.at_revision ∙ sym entry.next

-- ---- the release itself

module _ (back versions : List KnownVersion) (own : ReadsOwn versions) (once : ReadsOnce versions) (state : State) (change : Change) (e : Entry) (revision : ℕ)
    (of : IsChangeOf back versions state change) (entry : IsEntryOf back versions revision change e) where
  put_read : (object : Object) → change.object ≡ Some object → IsPutRead versions e object
  put_read object is =
      let (item, put, stored) = entry.put object is in
      record {
        item = item;
        is = put;
        live = subst (IsLive versions) (sym entry.of_key) of.live;
        read = stored_read back versions change.key object item own (λ table in_version. of.fits object table is in_version) stored;
      }

  -- a put is of the object that the change leaves
  put_some : (item : Item) → put_of item ≡ e → (object : Object) × (change.object ≡ Some object) × IsReadAs versions item object
  put_some item put = ⊎_elim
      (λ none. absurd (no_put_is_removal item e (entry.removal none) put))
      (λ some.
      let p = put_read some.0 some.1 in
      let same : p.item ≡ item = record_of_put p.item item (p.is ∙ sym put) in
      (some.0, some.1, subst (λ (i : Item). IsReadAs versions i some.0) same p.read))
      (there_or_none change.object)

  pub put_exact : (object : Object) → (change.object ≡ Some object) ↔ IsPutRead versions e object
  put_exact object = (
    put_read object,
    (λ p. let some = put_some p.item p.is in some.1 ∙ ap Some (one_read versions p.item some.0 object once some.2 p.read)),
  )

  pub put_readable : PutIsReadable versions e
  put_readable = λ item put live. let some = put_some item put in (some.0.fields, some.2.fields)

object_change : (old next : List Stored) (change : Change) (e : Entry) → e.key ≡ change.key
    → ((key : Key) (object : Object) → Holds next key object ↔ (((key ≡ change.key) × (change.object ≡ Some object)) ⊎ ((key ≢ change.key) × Holds old key object)))
    → IsObjectChange old e (λ object. change.object ≡ Some object) next
object_change old next change e at exact = λ key object. (
  (λ there. ⊎_elim (λ here. inl (here.0 ∙ sym at, here.1)) (λ other. inr ((λ same. other.0 (same ∙ at)), other.1)) ((exact key object).0 there)),
  ⊎_elim (λ here. (exact key object).1 (inl (here.0 ∙ at, here.1))) (λ other. (exact key object).1 (inr ((λ same. other.0 (same ∙ sym at)), other.1))),
)

pub stands_after : (back versions : List KnownVersion) → ReadsOwn versions → ReadsOnce versions → (old new : List Item) (revision : ℕ) (e : Entry) (state next : State) (change : Change) → store.AreInKeyOrder old
    → StandsFor old revision versions state → IsChangeOf back versions state change → IsApplied state change next → IsEntryOf back versions revision change e → IsChanged old e new → StandsFor new e.revision versions next
stands_after back versions own once old new revision e state next change order stands of applied entry changed =
    changed_standing versions old new revision e (λ object. change.object ≡ Some object) state next changed stands
    (object_change state.objects next.objects change e entry.of_key applied.objects.exact)
    (put_exact back versions own once state change e revision of entry)
    applied.objects.order
    (put_readable back versions own once state change e revision of entry)
    (counted_after back versions old new revision e state next change order stands of applied entry changed)
    (at_after back versions old new revision e state next change order stands of applied entry changed)
