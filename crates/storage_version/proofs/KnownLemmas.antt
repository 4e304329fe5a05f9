-- Records go on standing for what an earlier release knows of a state.
use Rattle.std.proofs.Common.{◌≡◌, ◌≢◌, ◌⊎◌, inl, inr, ⊎_elim, ◌↔◌, ℕ, true, List, [], ◌∷◌, Option, Some, None, option_map, find, Contains, All, Less, length, refl, sym, ◌∙◌, ap, subst}
use Rattle.std.specs.Prelude.{filter_map}
use Rattle.std.specs.List.{cons_option}
use Rattle.std.specs.Option.{is_some}
use Rattle.std.proofs.lemmas.List.Elements.{All-contains}
use Rattle.fields.specs.Fits.{restricted}
use Rattle.fields.specs.declared.table.VersionTable.{VersionTable}
use Rattle.key_order.proofs.OrderLemmas.{all_of}
use Rattle.object_journal.specs.declared.key.Key.{Key}
use Rattle.object_journal.specs.KeyOrder.{by_key}
use Rattle.object_journal.specs.declared.entry.Entry.{Entry}
use Rattle.object_state.specs.Objects.{AreInKeyOrder, Holds}
use Rattle.object_state.specs.State.{State, IsApplied}
use Rattle.object_state.specs.declared.object.Change.{Change}
use Rattle.object_state.specs.declared.object.Object.{Object}
use Rattle.object_state.specs.declared.object.Stored.{Stored}
use Rattle.object_store.specs.Records.{put_of, IsChanged}
use Rattle.object_store.specs.declared.item.Item.{Item}
use Rattle.release_view.specs.Later.{AreOfOneHistory}
use Rattle.release_view.specs.Views.{Viewed, has_live, best_table_in, is_live_of}
use Rattle.release_view.specs.declared.known.KnownVersion.{KnownVersion}
use Rattle.release_view.proofs.ListLemmas.{given_of, gives, some_from, some-find, some_is}
use Rattle.schemas.specs.Dated.{Dated}
use Rattle.storage_version.specs.Bodies.{IsBodyRead}
use Rattle.storage_version.specs.Kept.{IsStoredAs, IsEntryOf, IsChangeOf}
use Rattle.storage_version.specs.Laws.{ReadsKnown, ReadsOnce}
use Rattle.storage_version.specs.Standing.{IsLive, IsReadAs, StandsFor, known_object, known_of, known_part}
use Rattle.storage_version.specs.Storage.{storage_table_in}
use Rattle.storage_version.proofs.StandingLemmas.{there_or_none, key_is, record_of_put, no_put_is_removal, IsPutRead, IsObjectChange, PutIsReadable, changed_standing, one_read}

-- ---- live kinds

pub best_of_live : (versions : List KnownVersion) (group resource : List ℕ) → has_live versions group resource ≡ true → (t : VersionTable) × (best_table_in versions group resource ≡ Some t)
best_of_live versions group resource live =
    let v = some_from (find (is_live_of group resource) versions) (some-find (is_live_of group resource) versions ∙ live) in
    (v.0.table, ap (option_map (λ (w : KnownVersion). w.table)) v.1)

live_at : (o : Option KnownVersion) (t : VersionTable) → option_map (λ (w : KnownVersion). w.table) o ≡ Some t → is_some o ≡ true
live_at None t h = absurd (let clash : None ≡ Some t = h in cc)
live_at (Some v) t h = refl

pub live_of_best : (versions : List KnownVersion) (group resource : List ℕ) (t : VersionTable) → best_table_in versions group resource ≡ Some t → has_live versions group resource ≡ true
live_of_best versions group resource t best = sym (some-find (is_live_of group resource) versions) ∙ live_at (find (is_live_of group resource) versions) t best

-- ---- the known objects

-- the release knows this much of the object under the key
abbrev pub IsKnownAs : List KnownVersion → Key → Object → Object → Type 0
IsKnownAs versions key whole object = (t : VersionTable) × (best_table_in versions key.group key.resource ≡ Some t) × (known_object t whole ≡ object)

known_at : (key : Key) (whole : Object) (s : Stored) (o : Option VersionTable) → option_map (λ (t : VersionTable). record { key = key; object = known_object t whole }) o ≡ Some s
    → (t : VersionTable) × (o ≡ Some t) × (s.key ≡ key) × (known_object t whole ≡ s.object)
known_at key whole s None h = absurd (let clash : None ≡ Some s = h in cc)
known_at key whole s (Some t) h =
    let made : Stored = record { key = key; object = known_object t whole } in
    let same : made ≡ s = some_is made s h in
    (t, refl, sym (ap (λ (x : Stored). x.key) same), ap (λ (x : Stored). x.object) same)

known_is : (versions : List KnownVersion) (z s : Stored) → known_of versions z ≡ Some s → (s.key ≡ z.key) × IsKnownAs versions z.key z.object s.object
known_is versions z s h =
    let k = known_at z.key z.object s (best_table_in versions z.key.group z.key.resource) h in
    (k.2, (k.0, k.1, k.3))

is_known : (versions : List KnownVersion) (key : Key) (whole object : Object) → IsKnownAs versions key whole object → known_of versions (record { key = key; object = whole }) ≡ Some (record { key = key; object = object })
is_known versions key whole object k =
    ap (option_map (λ (t : VersionTable). record { key = key; object = known_object t whole })) k.1 ∙ (λ i. Some (record { key = key; object = k.2 i }))

abbrev pub known_objects : List KnownVersion → List Stored → List Stored
known_objects versions objects = filter_map (known_of versions) objects

pub known_holds : (versions : List KnownVersion) (objects : List Stored) (key : Key) (object : Object) → Holds (known_objects versions objects) key object ↔ ((whole : Object) × Holds objects key whole × IsKnownAs versions key whole object)
known_holds versions objects key object = (
  λ there.
      let (z, among, is) = given_of (known_of versions) objects (record { key = key; object = object }) there in
      let k = known_is versions z (record { key = key; object = object }) is in (
        z.object,
        subst (λ (q : Key). Contains objects (record { key = q; object = z.object })) (sym k.0) among,
        subst (λ (q : Key). IsKnownAs versions q z.object object) (sym k.0) k.1,
      ),
  λ h.
      gives (known_of versions) objects (record { key = key; object = object }) (record { key = key; object = h.0 }) h.1 (is_known versions key h.0 object h.2),
)

order_more : (x : Stored) (xs : List Stored) (versions : List KnownVersion) (o : Option Stored) → known_of versions x ≡ o → All (λ y. by_key x.key y.key ≡ Less) xs → AreInKeyOrder (known_objects versions xs) → AreInKeyOrder (cons_option o (known_objects versions xs))
order_more x xs versions None is below order = order
order_more x xs versions (Some s) is below order = (
  all_of (λ (y : Stored). by_key s.key y.key ≡ Less) (known_objects versions xs) (λ y there.
      let (z, among, made) = given_of (known_of versions) xs y there in
      let less : by_key x.key z.key ≡ Less = All-contains (λ (w : Stored). by_key x.key w.key ≡ Less) xs z below among in
      subst (λ (k : Key). by_key k y.key ≡ Less) (sym (known_is versions x s is).0) (subst (λ (k : Key). by_key x.key k ≡ Less) (sym (known_is versions z y made).0) less)),
  order,
)

pub known_order : (versions : List KnownVersion) (objects : List Stored) → AreInKeyOrder objects → AreInKeyOrder (known_objects versions objects)
known_order versions [] order = tt
known_order versions (x ∷ xs) order = order_more x xs versions (known_of versions x) refl order.0 (known_order versions xs order.1)

-- ---- a change of what is known

-- what the change leaves of the object, as the release knows it
abbrev KnownNow : List KnownVersion → Change → Object → Type 0
KnownNow versions change object = (whole : Object) × (change.object ≡ Some whole) × IsKnownAs versions change.key whole object

known_change : (versions : List KnownVersion) (old next : List Stored) (change : Change) (e : Entry) → e.key ≡ change.key
    → ((key : Key) (object : Object) → Holds next key object ↔ (((key ≡ change.key) × (change.object ≡ Some object)) ⊎ ((key ≢ change.key) × Holds old key object)))
    → IsObjectChange (known_objects versions old) e (KnownNow versions change) (known_objects versions next)
known_change versions old next change e at exact = λ key object. (
  λ there.
      let (whole, held, known) = (known_holds versions next key object).0 there in
      ⊎_elim
      (λ here. inl (here.0 ∙ sym at, (whole, here.1, subst (λ (k : Key). IsKnownAs versions k whole object) here.0 known)))
      (λ other. inr ((λ same. other.0 (same ∙ at)), (known_holds versions old key object).1 (whole, other.1, known)))
      ((exact key whole).0 held),
  ⊎_elim
      (λ here.
      let is = here.0 ∙ at in
      let (whole, left, known) = here.1 in
      (known_holds versions next key object).1 (whole, (exact key whole).1 (inl (is, left)), subst (λ (k : Key). IsKnownAs versions k whole object) (sym is) known))
      (λ other.
      let (whole, held, known) = (known_holds versions old key object).0 other.1 in
      (known_holds versions next key object).1 (whole, (exact key whole).1 (inr ((λ same. other.0 (same ∙ sym at)), held)), known)),
)

module _ (back view : Viewed) (history : Dated) (one : AreOfOneHistory history back view) (reads : ReadsKnown back view) (once : ReadsOnce back.versions) (state : State) (change : Change) (e : Entry) (revision : ℕ)
    (of : IsChangeOf back.versions view.versions state change) (entry : IsEntryOf back.versions view.versions revision change e) where
  -- the record that is put is read by the earlier release as what it knows of the object
  known_read : (whole object : Object) (item : Item) → change.object ≡ Some whole → IsStoredAs back.versions view.versions change.key whole item → IsKnownAs back.versions change.key whole object → IsReadAs back.versions item object
  known_read whole object item is s known =
      let t : VersionTable = known.0 in
      let read = reads history one change.key.group change.key.resource t s.table whole.fields item.body known.1 s.in_version (of.fits whole s.table is s.in_version) s.body in
      let there : IsBodyRead back.versions item.key.group item.key.resource item.body (restricted t.rows whole.fields) =
      subst (λ (k : Key). IsBodyRead back.versions k.group k.resource item.body (restricted t.rows whole.fields)) (sym s.of_key) read in
      subst (IsReadAs back.versions item) known.2 (record { created = sym s.created; revision = sym s.revision; fields = there })

  known_put : (object : Object) → KnownNow back.versions change object → IsPutRead back.versions e object
  known_put object now =
      let (whole, is, known) = now in
      let (item, put, stored) = entry.put whole is in
      record {
        item = item;
        is = put;
        live = subst (IsLive back.versions) (sym entry.of_key) (live_of_best back.versions change.key.group change.key.resource known.0 known.1);
        read = known_read whole object item is stored known;
      }

  put_known : (item : Item) → put_of item ≡ e → IsLive back.versions e.key → (object : Object) × KnownNow back.versions change object × IsReadAs back.versions item object
  put_known item put live = ⊎_elim
      (λ none. absurd (no_put_is_removal item e (entry.removal none) put))
      (λ some.
      let best = best_of_live back.versions change.key.group change.key.resource (subst (IsLive back.versions) entry.of_key live) in
      let object = known_object best.0 some.0 in
      let now : KnownNow back.versions change object = (some.0, some.1, (best.0, best.1, refl)) in
      let p = known_put object now in
      let same : p.item ≡ item = record_of_put p.item item (p.is ∙ sym put) in
      (object, now, subst (λ (i : Item). IsReadAs back.versions i object) same p.read))
      (there_or_none change.object)

  known_exact : (object : Object) → KnownNow back.versions change object ↔ IsPutRead back.versions e object
  known_exact object = (
    known_put object,
    (λ p. let (other, now, read) = put_known p.item p.is p.live in subst (KnownNow back.versions change) (one_read back.versions p.item other object once read p.read) now),
  )

  known_readable : PutIsReadable back.versions e
  known_readable = λ item put live. let (object, now, read) = put_known item put live in (object.fields, read.fields)

  pub known_stands_after : (old new : List Item) (next : State) → StandsFor old revision back.versions (known_part back.versions state) → IsApplied state change next → IsChanged old e new
      → next.records ≡ length new → next.revision ≡ e.revision → StandsFor new e.revision back.versions (known_part back.versions next)
  known_stands_after old new next stands applied changed counted at =
      changed_standing back.versions old new revision e (KnownNow back.versions change) (known_part back.versions state) (known_part back.versions next) changed stands
      (known_change back.versions state.objects next.objects change e entry.of_key applied.objects.exact)
      known_exact
      (known_order back.versions next.objects applied.objects.order)
      known_readable counted at
