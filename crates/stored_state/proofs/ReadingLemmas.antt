-- Records as two releases read them, one after the other.
use Rattle.std.proofs.Common.{◌≡◌, ◌⊎◌, inl, inr, ⊎_elim, ◌↔◌, ℕ, ◌+◌, ◌<◌, true, false, List, [], ◌∷◌, ◌++◌, length, get_or, take, Option, Some, None, Result, Ok, Err, Contains, refl, sym, ◌∙◌, ap, subst, arith}
use Rattle.std.specs.Prelude.{All}
use Rattle.std.specs.declared.cmp.Ordering.TheVariants.{Less}
use Rattle.std.proofs.lemmas.Bool.{cases_Bool}
use Rattle.std.proofs.lemmas.List.{get_or_read, take_more}
use Rattle.std.proofs.lemmas.List.Elements.{All-nil, All-head, All-tail, All-push, All-contains, Contains-append_left, Contains-push, Contains-push_cases}
use Rattle.basis.proofs.FirstLemmas.{first_at}
use Rattle.fields.specs.declared.map.FieldPair.{FieldPair}
use Rattle.key_order.proofs.OrderLemmas.{all_before, all_of, in_order}
use Rattle.object_journal.specs.declared.key.Key.{Key}
use Rattle.object_journal.specs.KeyOrder.{by_key}
use Rattle.object_state.specs.Objects as state
use Rattle.object_state.specs.Objects.{Holds}
use Rattle.object_state.specs.State.{StateRecord}
use Rattle.object_state.specs.declared.object.Object.{Object}
use Rattle.object_state.specs.declared.object.Stored.{Stored}
use Rattle.object_store.specs.Records.{AreInKeyOrder}
use Rattle.object_store.specs.declared.item.Item.{Item}
use Rattle.release_view.specs.Views.{Viewed, has_live}
use Rattle.release_view.specs.declared.known.KnownVersion.{KnownVersion}
use Rattle.storage_version.specs.Bodies.{IsDecodeFault}
use Rattle.storage_version.specs.declared.fault.DecodeFault.{DecodeFault}
use Rattle.storage_version.specs.declared.fault.DecodeFault.TheVariants as decode
use Rattle.storage_version.specs.Laws.{ReadsOnce}
use Rattle.storage_version.specs.Standing.{IsLive, IsReadAs, HasRecord, StandsFor}
use Rattle.storage_version.proofs.StandingLemmas.{one_read}
use Rattle.stored_state.specs.Reading.{IsReadByBoth, IsUnreadableAt, IsStartFault}
use Rattle.stored_state.specs.Steps.{IsFaultIn, IsFaultAt, IsStoredOf, AreWith, AreObjectsOf}
use Rattle.stored_state.specs.declared.fault.StartFault.{StartFault}
use Rattle.stored_state.specs.declared.fault.StartFault.TheVariants.{Undecodable, Memory}

-- ---- one record, as one release reads it

-- None is answered exactly where the kind isn't live
abbrev pub TellsLive : List KnownVersion → List ℕ → List ℕ → Result (Option (List FieldPair)) DecodeFault → Type 0
TellsLive versions group resource r = (r ≡ Ok None) ↔ (has_live versions group resource ≡ false)

pub fault_in : (view : Viewed) (item : Item) (group resource body : List ℕ) (fault : DecodeFault) (key : Key) (version : List ℕ) (minor : ℕ)
    → group ≡ item.key.group → resource ≡ item.key.resource → body ≡ item.body → fault ≡ decode.Undecodable version → TellsLive view.versions group resource (Err fault)
    → IsDecodeFault view.versions group resource body fault → key ≡ item.key → minor ≡ view.minor → IsFaultIn view item (Undecodable key version minor)
fault_in view item group resource body fault key version minor same_group same_resource same_body is tells faulty same at =
    let of_fault = subst (IsDecodeFault view.versions group resource body) is faulty in
    let of_body = subst (λ (b : List ℕ). IsDecodeFault view.versions group resource b (decode.Undecodable version)) same_body of_fault in
    let of_group = subst (λ (g : List ℕ). IsDecodeFault view.versions g resource item.body (decode.Undecodable version)) same_group of_body in
    let of_both = subst (λ (r : List ℕ). IsDecodeFault view.versions item.key.group r item.body (decode.Undecodable version)) same_resource of_group in
    let live : has_live view.versions group resource ≡ true = ⊎_elim
    (λ live. live)
    (λ foreign. absurd (let clash : Err fault ≡ Ok None = tells.1 foreign in cc))
    (cases_Bool (has_live view.versions group resource)) in (
      sym same,
      record {
        live = (λ i. has_live view.versions (sym same_group i) (sym same_resource i)) ∙ live;
        unread = of_both.0;
        told = of_both.1;
      },
      at,
    )

-- ---- the records so far

before_below : (items : List Item) (i : ℕ) (item : Item) → AreInKeyOrder items → i < length items → item ≡ get_or items i item → All (λ r. by_key r.key item.key ≡ Less) (take i items)
before_below items i item order below is =
    all_before (λ r. by_key r.key item.key ≡ Less) items i (omega (arith, below))
    (λ k d low at. subst (λ (r : Item). by_key (get_or items k d).key r.key ≡ Less) (sym (get_or_read items i item below is d)) (in_order (λ (r : Item). r.key) items k i d order at below))

append_order : (xs : List Stored) (x : Stored) → state.AreInKeyOrder xs → All (λ s. by_key s.key x.key ≡ Less) xs → state.AreInKeyOrder (xs ++ x ∷ [])
append_order [] x o all = (All-nil (λ (y : Stored). by_key x.key y.key ≡ Less), tt)
append_order (s ∷ xs) x o all = (
  All-push (λ (y : Stored). by_key s.key y.key ≡ Less) xs x o.0 (All-head (λ (y : Stored). by_key y.key x.key ≡ Less) s xs all),
  append_order xs x o.1 (All-tail (λ (y : Stored). by_key y.key x.key ≡ Less) s xs all),
)

module _ (versions : List KnownVersion) (once : ReadsOnce versions) (items : List Item) (item : Item) (old : List Stored) (are : AreObjectsOf versions items old) where
  more_there : (key : Key) (object : Object) → HasRecord items versions key object → HasRecord (items ++ item ∷ []) versions key object
  more_there key object r = record { item = r.item; among = Contains-append_left items (item ∷ []) r.item r.among; of_key = r.of_key; live = r.live; read = r.read }

  -- the last record is read as the object, under the key
  record IsLast (key : Key) (object : Object) : Type 0 where
    of_key : item.key ≡ key
    live : IsLive versions key
    read : IsReadAs versions item object

  before_or_last : (key : Key) (object : Object) → HasRecord (items ++ item ∷ []) versions key object → HasRecord items versions key object ⊎ IsLast key object
  before_or_last key object r = ⊎_elim
      (λ early. inl (record { item = r.item; among = early; of_key = r.of_key; live = r.live; read = r.read }))
      (λ is. inr (record { of_key = ap (λ (q : Item). q.key) is ∙ r.of_key; live = r.live; read = subst (λ (q : Item). IsReadAs versions q object) (sym is) r.read }))
      (Contains-push_cases items item r.item r.among)

  objects_same : IsStoredOf versions item None → AreObjectsOf versions (items ++ item ∷ []) old
  objects_same foreign = record {
    order = are.order;
    exact = λ key object. (
      (λ there. more_there key object ((are.exact key object).0 there)),
      (λ r. ⊎_elim
          (λ before. (are.exact key object).1 before)
          (λ last. absurd (foreign (subst (IsLive versions) (sym last.of_key) last.live)))
          (before_or_last key object r)),
    );
  }

  module _ (s : Stored) (of : IsStoredOf versions item (Some s)) where
    last_there : (key : Key) (object : Object) → Holds (old ++ s ∷ []) key object → HasRecord (items ++ item ∷ []) versions key object
    last_there key object there = ⊎_elim
        (λ early. more_there key object ((are.exact key object).0 early))
        (λ is.
        let at : item.key ≡ key = sym of.1 ∙ ap (λ (x : Stored). x.key) is in
        record {
          item = item;
          among = Contains-push items item;
          of_key = at;
          live = subst (IsLive versions) at of.0;
          read = subst (IsReadAs versions item) (ap (λ (x : Stored). x.object) is) of.2;
        })
        (Contains-push_cases old s (record { key = key; object = object }) there)

    there_last : (key : Key) (object : Object) → HasRecord (items ++ item ∷ []) versions key object → Holds (old ++ s ∷ []) key object
    there_last key object r = ⊎_elim
        (λ before. Contains-append_left old (s ∷ []) (record { key = key; object = object }) ((are.exact key object).1 before))
        (λ last.
        let at : s.key ≡ key = of.1 ∙ last.of_key in
        let same : s.object ≡ object = one_read versions item s.object object once of.2 last.read in
        subst (Contains (old ++ s ∷ [])) (λ i. record { key = at i; object = same i }) (Contains-push old s))
        (before_or_last key object r)

    objects_below : All (λ r. by_key r.key item.key ≡ Less) items → All (λ x. by_key x.key s.key ≡ Less) old
    objects_below below = all_of (λ (x : Stored). by_key x.key s.key ≡ Less) old
        (λ x there.
        let r = (are.exact x.key x.object).0 there in
        let low : by_key r.item.key item.key ≡ Less = All-contains (λ (q : Item). by_key q.key item.key ≡ Less) items r.item below r.among in
        subst (λ (k : Key). by_key x.key k ≡ Less) (sym of.1) (subst (λ (k : Key). by_key k item.key ≡ Less) r.of_key low))

    objects_more : All (λ r. by_key r.key item.key ≡ Less) items → AreObjectsOf versions (items ++ item ∷ []) (old ++ s ∷ [])
    objects_more below = record {
      order = append_order old s are.order (objects_below below);
      exact = λ key object. (last_there key object, there_last key object);
    }

  objects_with : (new : List Stored) → All (λ r. by_key r.key item.key ≡ Less) items → AreWith versions item old new → AreObjectsOf versions (items ++ item ∷ []) new
  objects_with new below (inl same) = subst (AreObjectsOf versions (items ++ item ∷ [])) (sym same.1) (objects_same same.0)
  objects_with new below (inr more) = subst (AreObjectsOf versions (items ++ item ∷ [])) (sym more.2) (objects_more more.0 more.1 below)

one_more : (items : List Item) (i : ℕ) (item : Item) → i < length items → item ≡ get_or items i item → take i items ++ item ∷ [] ≡ take (i + 1) items
one_more items i item below is = ap (λ (r : Item). take i items ++ r ∷ []) is ∙ sym (take_more items i item below)

pub next_objects : (versions : List KnownVersion) → ReadsOnce versions → (items : List Item) (i : ℕ) (item : Item) (old new : List Stored) → AreInKeyOrder items → i < length items → item ≡ get_or items i item
    → AreObjectsOf versions (take i items) old → AreWith versions item old new → AreObjectsOf versions (take (i + 1) items) new
next_objects versions once items i item old new order below is are with =
    subst (λ (xs : List Item). AreObjectsOf versions xs new) (one_more items i item below is)
    (objects_with versions once (take i items) item old are new (before_below items i item order below is) with)

pub next_both : (back view : Viewed) (items : List Item) (i : ℕ) (item : Item) → i < length items → item ≡ get_or items i item → All (IsReadByBoth back view) (take i items) → IsReadByBoth back view item
    → All (IsReadByBoth back view) (take (i + 1) items)
next_both back view items i item below is all both = subst (All (IsReadByBoth back view)) (one_more items i item below is) (All-push (IsReadByBoth back view) (take i items) item all both)

pub first_fault : (back view : Viewed) (items : List Item) (i : ℕ) (item : Item) (fault : StartFault) → i < length items → item ≡ get_or items i item → All (IsReadByBoth back view) (take i items)
    → IsFaultAt back view item fault → IsStartFault back view items fault
first_fault back view items i item (Undecodable key version minor) below is fine h = record {
  item = item;
  first = first_at (IsReadByBoth back view) (λ (r : Item). IsUnreadableAt back view r minor version) items i item below is fine h.1;
  of_key = h.0;
}
first_fault back view items i item Memory below is fine h = tt

-- ---- all records

pub stands : (back view : Viewed) (store items : List Item) (revision at : ℕ) (made : StateRecord) (objects : List Stored) → items ≡ store → at ≡ revision
    → made ≡ record { state = record { objects = objects; revision = at; records = length items }; spare = 0 } → AreObjectsOf view.versions items objects → All (IsReadByBoth back view) items
    → StandsFor store revision view.versions made.state
stands back view store items revision at made objects same here is are all =
    let state : made.state ≡ record { objects = objects; revision = at; records = length items } = ap (λ (r : StateRecord). r.state) is in
    subst (λ (xs : List Item). StandsFor xs revision view.versions made.state) same
    (subst (StandsFor items revision view.versions) (sym state) (record {
      order = are.order;
      readable = λ item there live. (All-contains (IsReadByBoth back view) items item all there).later live;
      exact = are.exact;
      counted = refl;
      at_revision = here;
    }))
