-- The map of what entries leave, one entry after the other, and the records that it lists.
use Rattle.std.proofs.Common.{◌≡◌, ⊎_elim, ◌<◌, Bool, true, false, cond, List, [], ◌∷◌, ◌++◌, map, Contains, None, Some, sym, ap, subst, ◌∙◌}
use Rattle.std.specs.Prelude.{All}
use Rattle.std.specs.BTreeMap.{BTreeMap, get, is_at, IsOrdered}
use Rattle.std.specs.List.{AllByRecursion}
use Rattle.std.specs.List.Sorted.{IsStrictlySortedBy}
use Rattle.std.specs.Map.{lookup, keys_of}
use Rattle.std.specs.declared.cmp.Ordering.TheVariants.{Less}
use Rattle.std.proofs.lemmas.Cmp.{eq_by_cmp_equiv}
use Rattle.std.proofs.lemmas.List.{length-map}
use Rattle.std.proofs.lemmas.List.Elements.{All-nil, All-cons}
use Rattle.std.proofs.lemmas.Map.Keys.{IsDistinct-from_sorted}
use Rattle.std.proofs.lemmas.Map.Views.{Contains-from_lookup, lookup-from_Contains}
use Rattle.std.proofs.Math.ListN.{get_or-map}
use Rattle.object_journal.specs.declared.key.Key.{Key}
use Rattle.object_journal.specs.declared.entry.Entry.{Entry}
use Rattle.object_journal.specs.declared.entry.Change.TheVariants.{Put, Removal}
use Rattle.object_journal.specs.Journal.{Leaves, IsPut}
use Rattle.object_journal.specs.Payload.{created_of, body_of}
use Rattle.object_journal.specs.KeyOrder.{by_key}
use Rattle.object_journal.proofs.KeyLaws.{by_key_total, same, same_is, is_same, true_or_false}
use Rattle.object_journal.proofs.EntryLaws.{not_empty, leaves_last, leaves_more, leaves_cases}
use Rattle.object_store.specs.declared.item.Item.{Item}
use Rattle.object_store.specs.declared.recovered.Held.{Held}
use Rattle.object_store.specs.Records.{AreInKeyOrder, AreRecords, put_of}
use Rattle.object_store.specs.Left.{AreLeft, item_at}

abbrev put_at : Key → Held → Entry
put_at k h = put_of (item_at (k, h))

abbrev held_in : Item → Key × Held
held_in r = (r.key, record { revision = r.revision; created = r.created; body = r.body })

none_some : (h : Held) → None ≡ Some h → ⊥
none_some h e = cc

some_is : (g h : Held) → Some g ≡ Some h → g ≡ h
some_is g h e = cc

-- ---- one entry more

pub none_left : (held : BTreeMap Key Held) → held.entries ≡ [] → AreLeft held []
none_left held none k h = (
  (λ got. absurd (none_some h (sym (ap (λ (es : List (Key × Held)). lookup (is_at (by_key k)) es) none) ∙ got))),
  (λ l. absurd (not_empty l.before (put_at k h) l.behind l.parts)),
)

held_of_put : (k key : Key) (h v : Held) → put_at k h ≡ put_at key v → (k ≡ key) × (h ≡ v)
held_of_put k key h v e = ((λ i. (e i).key), (λ i. record { revision = (e i).revision; created = created_of (e i).change; body = body_of (e i).change }))

pub put_left : (old new : BTreeMap Key Held) (es : List Entry) (e : Entry) (key : Key) (v : Held)
    → ((q : Key) → get by_key new q ≡ cond (same key q) (Some v) (get by_key old q)) → e ≡ put_at key v → AreLeft old es → AreLeft new (es ++ e ∷ [])
put_left old new es e key v u is are k h =
    let at_true : same key k ≡ true → get by_key new k ≡ Some v = λ t. u k ∙ ap (λ b. cond b (Some v) (get by_key old k)) t in
    let at_false : same key k ≡ false → get by_key new k ≡ get by_key old k = λ f. u k ∙ ap (λ b. cond b (Some v) (get by_key old k)) f in
    let last : Leaves (es ++ e ∷ []) e = leaves_last es e (subst (λ (x : Entry). IsPut x.change) (sym is) tt) in (
      (λ got. ⊎_elim
          (λ t. let held : v ≡ h = some_is v h (sym (at_true t) ∙ got) in
          let there : e ≡ put_at k h = is ∙ (λ i. put_at (same_is key k t i) (held i)) in
          subst (Leaves (es ++ e ∷ [])) there last)
          (λ f. leaves_more es e (put_at k h) ((are k h).0 (sym (at_false f) ∙ got)) (λ other. not_both (same key k) (is_same key k (ap (λ (x : Entry). x.key) (sym is) ∙ other)) f))
          (true_or_false (same key k))),
      (λ l. ⊎_elim
          (λ there. let (at, held) = held_of_put k key h v (there ∙ is) in at_true (is_same key k (sym at)) ∙ ap Some (sym held))
          (λ both. ⊎_elim
          (λ t. absurd (both.1 (ap (λ (x : Entry). x.key) is ∙ same_is key k t)))
          (λ f. at_false f ∙ (are k h).1 both.0)
          (true_or_false (same key k)))
          (leaves_cases es e (put_at k h) l)),
    )
  where
    not_both : (b : Bool) → b ≡ true → b ≡ false → ⊥
    not_both true t f = let e : true ≡ false = f in cc
    not_both false t f = let e : false ≡ true = t in cc

pub removal_left : (old new : BTreeMap Key Held) (es : List Entry) (e : Entry)
    → ((q : Key) → get by_key new q ≡ cond (same e.key q) None (get by_key old q)) → e.change ≡ Removal → AreLeft old es → AreLeft new (es ++ e ∷ [])
removal_left old new es e u removal are k h =
    let at_true : same e.key k ≡ true → get by_key new k ≡ None = λ t. u k ∙ ap (λ b. cond b None (get by_key old k)) t in
    let at_false : same e.key k ≡ false → get by_key new k ≡ get by_key old k = λ f. u k ∙ ap (λ b. cond b None (get by_key old k)) f in (
      (λ got. ⊎_elim
          (λ t. absurd (none_some h (sym (at_true t) ∙ got)))
          (λ f. leaves_more es e (put_at k h) ((are k h).0 (sym (at_false f) ∙ got)) (λ other. none_some h (lost (same e.key k) (is_same e.key k other) f)))
          (true_or_false (same e.key k))),
      (λ l. ⊎_elim
          (λ there. absurd (let both : Put h.created h.body ≡ Removal = ap (λ (x : Entry). x.change) there ∙ removal in cc))
          (λ both. ⊎_elim (λ t. absurd (both.1 (same_is e.key k t))) (λ f. at_false f ∙ (are k h).1 both.0) (true_or_false (same e.key k)))
          (leaves_cases es e (put_at k h) l)),
    )
  where
    lost : (b : Bool) → b ≡ true → b ≡ false → None ≡ Some h
    lost true t f = let e : true ≡ false = f in cc
    lost false t f = let e : false ≡ true = t in cc

-- ---- the records

above : (k : Key) (es : List (Key × Held)) → AllByRecursion (λ y. by_key k y ≡ Less) (keys_of es) → All (λ s. by_key k s.key ≡ Less) (map item_at es)
above k [] all = All-nil (λ s. by_key k s.key ≡ Less)
above k (e ∷ es) all = All-cons (λ s. by_key k s.key ≡ Less) (item_at e) (map item_at es) all.0 (above k es all.1)

in_order : (es : List (Key × Held)) → IsStrictlySortedBy by_key (keys_of es) → AreInKeyOrder (map item_at es)
unfolding IsStrictlySortedBy
in_order [] sorted = tt
in_order (e ∷ es) sorted = (above e.0 es sorted.0, in_order es sorted.1)

entry_there : (es : List (Key × Held)) (r : Item) → Contains (map item_at es) r → Contains es (held_in r)
entry_there es r there = (there.0, subst (λ n. there.0 < n) (length-map es item_at) there.1, ap held_in (sym (get_or-map item_at es there.0 (held_in r)) ∙ there.2))

item_there : (es : List (Key × Held)) (r : Item) → Contains es (held_in r) → Contains (map item_at es) r
item_there es r there = (there.0, subst (λ n. there.0 < n) (sym (length-map es item_at)) there.1, get_or-map item_at es there.0 (held_in r) ∙ ap item_at there.2)

pub records_left : (held : BTreeMap Key Held) (entries : List Entry) (items : List Item) → items ≡ map item_at held.entries → IsOrdered by_key held → AreLeft held entries → AreRecords entries items
records_left held entries items is ordered are = subst (AreRecords entries) (sym is) (record {
  ordered = in_order held.entries ordered;
  exact = λ r. (
    (λ there. (are r.key (held_in r).1).0 (lookup-from_Contains (eq_by_cmp_equiv by_key_total) r.key (held_in r).1 held.entries (IsDistinct-from_sorted by_key (keys_of held.entries) ordered) (entry_there held.entries r there))),
    (λ l. item_there held.entries r (Contains-from_lookup same_is r.key (held_in r).1 held.entries ((are r.key (held_in r).1).1 l))),
  );
})
