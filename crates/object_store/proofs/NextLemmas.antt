-- Which entry may follow those of a store, and what its change leaves.
use Rattle.std.proofs.Common.{◌≡◌, ◌⊎◌, inl, inr, ⊎_elim, ℕ, suc, ◌+◌, ◌<◌, ◌≤◌, List, [], ◌∷◌, ◌++◌, length, map, Contains, refl, sym, ap, subst, ◌∙◌, arith}
use Rattle.std.specs.Prelude.{All}
use Rattle.std.proofs.lemmas.Bool.{cases_lt}
use Rattle.std.proofs.lemmas.Cmp.{eq_by_cmp_equiv}
use Rattle.std.proofs.lemmas.List.{length-map}
use Rattle.std.proofs.lemmas.List.Elements.{All-weaker, All-contains}
use Rattle.std.proofs.lemmas.Map.Made.{IsDistinct-from_AllPairs, is_member-Decides, length-le_from_is_member}
use Rattle.object_journal.specs.declared.key.Key.{Key}
use Rattle.object_journal.specs.declared.entry.Entry.{Entry}
use Rattle.object_journal.specs.declared.entry.Change.{Change}
use Rattle.object_journal.specs.declared.entry.Change.TheVariants.{Put, Removal}
use Rattle.object_journal.specs.Payload.{longest_payload, payload_of, created_of, body_of}
use Rattle.object_journal.specs.Journal.{Leaves, IsHeld, IsPut, IsLawfulChange, IsNextRevision, HasLawfulTexts, FewHeld, AreLawful, last_revision, most_keys, revision_after}
use Rattle.object_journal.proofs.KeyLaws.{by_key_total, same_decides}
use Rattle.object_journal.proofs.EntryLaws.{leaves_last, leaves_more, leaves_cases, held_cases}
use Rattle.key_order.proofs.OrderLemmas.{all_of, head_or_tail, one_of_key, holds_or_not, one_list}
use Rattle.key_order.proofs.OutcomeLemmas.{can_put, can_remove}
use Rattle.object_store.specs.declared.item.Item.{Item}
use Rattle.object_store.specs.Records.{AreInKeyOrder, AreRecords, HoldsKey, IsChanged, put_of}
use Rattle.object_store.specs.Stores.{StoreRecord, HaveLawfulTexts, Recalls, IsCreated, IsFull, IsPutOf, IsRemovalOf, KeepsCreated, MayCommit}
use Rattle.object_store.proofs.ChangeLemmas.{key_of, put_changes, removal_changes}

-- ---- records of a key

pub created_of_held : (items : List Item) (key : Key) (next : ℕ) (q : Item) → AreInKeyOrder items → Contains items q → q.key ≡ key → IsCreated items key next q.created
created_of_held items key next q o there is = record {
  held = λ r at e. ap (λ (i : Item). i.created) (one_of_key key_of items q r o there at (is ∙ sym e));
  fresh = λ none. absurd (none (q, there, is));
}

-- ---- entries that leave them

pub held_by_entries : (entries : List Entry) (items : List Item) (key : Key) → AreRecords entries items → HoldsKey items key → IsHeld entries key
held_by_entries entries items key are h = (put_of h.0, (are.exact h.0).0 h.1, h.2)

item_of_put : (e : Entry) → IsPut e.change → (r : Item) × (put_of r ≡ e)
item_of_put e put = (
  record { key = e.key; revision = e.revision; created = created_of e.change; body = body_of e.change },
  (λ i. record { key = e.key; revision = e.revision; change = put_again e.change put i }),
)
  where
    put_again : (c : Change) → IsPut c → Put (created_of c) (body_of c) ≡ c
    put_again (Put created body) put = refl
    put_again Removal put = absurd put

pub held_by_items : (entries : List Entry) (items : List Item) (key : Key) → AreRecords entries items → IsHeld entries key → HoldsKey items key
held_by_items entries items key are h =
    let r = item_of_put h.0 h.1.put in
    (r.0, (are.exact r.0).1 (subst (Leaves entries) (sym r.1) h.1), ap (λ (e : Entry). e.key) r.1 ∙ h.2)

ends : (es : List Entry) → (es ≡ []) ⊎ ((front : List Entry) × (last : Entry) × (es ≡ front ++ last ∷ []))
ends [] = inl refl
ends (e ∷ es) = inr (⊎_elim
    (λ none. ([], e, λ i. e ∷ none i))
    (λ some. (e ∷ some.0, some.1, λ i. e ∷ some.2 i))
    (ends es))

none_held : (keys : List Key) → All (IsHeld []) keys → length keys ≤ most_keys
none_held [] all = omega arith
none_held (k ∷ ks) all = let h = all 0 k (omega arith) in absurd (no_parts h.1.before h.0 h.1.behind h.1.parts)
  where
    no_parts : (xs : List Entry) (x : Entry) (ys : List Entry) → [] ≡ xs ++ x ∷ ys → ⊥
    no_parts [] x ys e = absurd (omega (arith, ap length e))
    no_parts (y ∷ xs) x ys e = absurd (omega (arith, ap length e))

pub lawful_few : (base : ℕ) (entries : List Entry) → AreLawful base entries → FewHeld entries
lawful_few base entries lawful = ⊎_elim
    (λ none. subst FewHeld (sym none) (λ keys apart all. none_held keys all))
    (λ some. subst FewHeld (sym some.2) (lawful some.0 some.1 [] some.2).few)
    (ends entries)

-- where each key that is held is one of these, no more are held
few_among : (entries : List Entry) (these : List Key) → length these ≤ most_keys → ((k : Key) → IsHeld entries k → Contains these k) → FewHeld entries
few_among entries these few within keys apart all =
    let fewer = length-le_from_is_member (eq_by_cmp_equiv by_key_total) keys these (IsDistinct-from_AllPairs same_decides keys apart)
    (λ q there. (is_member-Decides same_decides these q).1 (within q (All-contains (IsHeld entries) keys q all ((is_member-Decides same_decides keys q).0 there)))) in
    omega (arith, fewer, few)

key_listed : (items : List Item) (key : Key) → HoldsKey items key → Contains (map (λ r. r.key) items) key
key_listed [] key h = absurd (let below = h.1.1 in omega (arith, below))
key_listed (x ∷ xs) key h = ⊎_elim
    (λ e. (0, omega arith, ap (λ (i : Item). i.key) e ∙ h.2))
    (λ later. let k = key_listed xs key (h.0, later, h.2) in (suc k.0, (let below = k.1 in omega (arith, below)), k.2))
    (head_or_tail x h.0 xs h.1)

few_with_new : (entries : List Entry) (items : List Item) (e : Entry) → AreRecords entries items → length items < most_keys → FewHeld (entries ++ e ∷ [])
few_with_new entries items e are room = few_among (entries ++ e ∷ []) (e.key ∷ map (λ r. r.key) items) (omega (arith, room, length-map items (λ (r : Item). r.key)))
    (λ k held. ⊎_elim
    (λ is. (0, omega arith, is.0))
    (λ was. let l = key_listed items k (held_by_items entries items k are was.1) in (suc l.0, (let below = l.1 in omega (arith, below)), l.2))
    (held_cases entries e k held))

few_with_held : (base : ℕ) (entries : List Entry) (e : Entry) → AreLawful base entries → IsHeld entries e.key → FewHeld (entries ++ e ∷ [])
few_with_held base entries e lawful h keys apart all = lawful_few base entries lawful keys apart
    (All-weaker (IsHeld (entries ++ e ∷ [])) (IsHeld entries) (λ k held. ⊎_elim (λ is. subst (IsHeld entries) is.0 h) (λ was. was.1) (held_cases entries e k held)) keys all)

revision_within : (base : ℕ) (before : List Entry) (e : Entry) (behind : List Entry) → e.revision ≤ revision_after base (before ++ e ∷ behind)
revision_within base [] e behind = omega arith
revision_within base (x ∷ before) e behind = omega (arith, revision_within base before e behind)

-- a held key was created at 1 or later, and not above the revision
created_fits : (base : ℕ) (entries : List Entry) (items : List Item) (r : Item) → AreLawful base entries → AreRecords entries items → Contains items r → (1 ≤ r.created) × (r.created ≤ revision_after base entries)
created_fits base entries items r lawful are there =
    let l = (are.exact r).0 there in
    let change = (lawful l.before (put_of r) l.behind l.parts).change in
    let within : r.revision ≤ revision_after base entries = subst (λ (es : List Entry). r.revision ≤ revision_after base es) (sym l.parts) (revision_within base l.before (put_of r) l.behind) in
    (change.0, omega (arith, change.1, within))

pub texts_of_records : (base : ℕ) (entries : List Entry) (items : List Item) → AreLawful base entries → AreRecords entries items → HaveLawfulTexts items
texts_of_records base entries items lawful are = all_of (λ r. HasLawfulTexts r.key) items (λ r there. let l = (are.exact r).0 there in (lawful l.before (put_of r) l.behind l.parts).texts)

next_revision : (s : StoreRecord) (entries : List Entry) (revision : ℕ) → Recalls s entries → s.journal.revision < last_revision → revision ≡ s.journal.revision + 1 → IsNextRevision s.journal.base entries revision
next_revision s entries revision r room is = record {
  first = omega (arith, is);
  fits = omega (arith, is, room);
  at_base = λ same. omega (arith, is, r.revision, same);
  above_base = λ above. is ∙ ap (λ n. n + 1) r.revision;
}

created_next : (s : StoreRecord) (entries : List Entry) (key : Key) (created : ℕ) → Recalls s entries → IsCreated s.items key (s.journal.revision + 1) created → (1 ≤ created) × (created ≤ s.journal.revision + 1)
created_next s entries key created r keeps = ⊎_elim
    (λ h. let fits = created_fits s.journal.base entries s.items h.0 r.lawful r.records h.1 in
    let is = keeps.held h.0 h.1 h.2 in
    (omega (arith, fits.0, is), omega (arith, fits.1, is, r.revision)))
    (λ none. let is = keeps.fresh none in (omega (arith, is), omega (arith, is)))
    (holds_or_not key_of s.items key)

lawful_put : (entries : List Entry) (e : Entry) (c : Change) (created : ℕ) (body : List ℕ) → c ≡ Put created body → (1 ≤ created) × (created ≤ e.revision) → IsLawfulChange entries e c
lawful_put entries e c created body is fits = subst (IsLawfulChange entries e) (sym is) fits

keeps_put : (items : List Item) (e : Entry) (c : Change) (created : ℕ) (body : List ℕ) → c ≡ Put created body → IsCreated items e.key e.revision created → KeepsCreated items e c
keeps_put items e c created body is keeps = subst (KeepsCreated items e) (sym is) keeps

pub may_put : (s : StoreRecord) (entries : List Entry) (key : Key) (body : List ℕ) (e : Entry) → Recalls s entries → IsPutOf s.items s.journal.revision key body e → HasLawfulTexts key → (IsFull s.items s.journal.revision key → ⊥) → length (payload_of e) ≤ longest_payload → MayCommit s entries e
may_put s entries key body e r put texts room within =
    let low : s.journal.revision < last_revision = ⊎_elim (λ lt. lt) (λ ge. absurd (room (inl ge))) (cases_lt s.journal.revision last_revision) in
    let fits = created_next s entries key put.created r put.keeps in
    record {
      follows = record {
        revision = next_revision s entries e.revision r low put.next;
        texts = subst HasLawfulTexts (sym put.key_is) texts;
        within = within;
        change = lawful_put entries e e.change put.created body put.put (fits.0, subst (λ n. put.created ≤ n) (sym put.next) fits.1);
        few = ⊎_elim
            (λ h. few_with_held s.journal.base entries e r.lawful (subst (IsHeld entries) (sym put.key_is) (held_by_entries entries s.items key r.records h)))
            (λ none. few_with_new entries s.items e r.records (⊎_elim (λ lt. lt) (λ ge. absurd (room (inr (none, ge)))) (cases_lt (length s.items) most_keys)))
            (holds_or_not key_of s.items key);
      };
      next = put.next;
      keeps = keeps_put s.items e e.change put.created body put.put (subst (λ (k : Key). IsCreated s.items k e.revision put.created) (sym put.key_is) (subst (λ n. IsCreated s.items key n put.created) (sym put.next) put.keeps));
    }

pub may_remove : (s : StoreRecord) (entries : List Entry) (key : Key) (e : Entry) → Recalls s entries → IsRemovalOf s.journal.revision key e → HasLawfulTexts key → HoldsKey s.items key → s.journal.revision < last_revision → length (payload_of e) ≤ longest_payload → MayCommit s entries e
may_remove s entries key e r removal texts h low within =
    let held : IsHeld entries e.key = subst (IsHeld entries) (sym removal.key_is) (held_by_entries entries s.items key r.records h) in
    record {
      follows = record {
        revision = next_revision s entries e.revision r low removal.next;
        texts = subst HasLawfulTexts (sym removal.key_is) texts;
        within = within;
        change = subst (IsLawfulChange entries e) (sym removal.removal) held;
        few = few_with_held s.journal.base entries e r.lawful held;
      };
      next = removal.next;
      keeps = subst (KeepsCreated s.items e) (sym removal.removal) tt;
    }

-- ---- after the change

pub records_changed : (entries : List Entry) (old : List Item) (e : Entry) (new : List Item) → AreRecords entries old → IsChanged old e new → AreRecords (entries ++ e ∷ []) new
records_changed entries old e new are changed = record {
  ordered = changed.ordered;
  exact = λ r. (
    (λ there. ⊎_elim
        (λ is. subst (Leaves (entries ++ e ∷ [])) (sym is) (leaves_last entries e (subst (λ (x : Entry). IsPut x.change) is tt)))
        (λ was. leaves_more entries e (put_of r) ((are.exact r).0 was.0) (λ same-key. was.1 (sym same-key)))
        ((changed.exact r).0 there)),
    (λ l. (changed.exact r).1 (⊎_elim
        (λ is. inl is)
        (λ was. inr ((are.exact r).1 was.0, λ same-key. was.1 (sym same-key)))
        (leaves_cases entries e (put_of r) l))),
  );
}

pub texts_changed : (old : List Item) (e : Entry) (new : List Item) → HaveLawfulTexts old → HasLawfulTexts e.key → IsChanged old e new → HaveLawfulTexts new
texts_changed old e new texts text changed = all_of (λ r. HasLawfulTexts r.key) new (λ r there. ⊎_elim
    (λ is. subst (λ (x : Entry). HasLawfulTexts x.key) (sym is) text)
    (λ was. All-contains (λ r. HasLawfulTexts r.key) old r texts was.0)
    ((changed.exact r).0 there))

-- ---- each entry's change can be made

pub can_change : (old : List Item) (e : Entry) → AreInKeyOrder old → (new : List Item) × IsChanged old e new
can_change old e o = kinds e.change refl
  where
    kinds : (c : Change) → e.change ≡ c → (new : List Item) × IsChanged old e new
    kinds (Put created body) is =
        let r : Item = record { key = e.key; revision = e.revision; created = created; body = body } in
        let whole : put_of r ≡ e = λ i. record { key = e.key; revision = e.revision; change = sym is i } in
        let made = can_put key_of old r o in
        (made.0, subst (λ (x : Entry). IsChanged old x made.0) whole (put_changes old made.0 r made.1))
    kinds Removal is =
        let made = can_remove key_of old e.key o in
        (made.0, removal_changes old made.0 e is made.1)

-- ---- one list

pub one_records : (entries : List Entry) (xs ys : List Item) → AreRecords entries xs → AreRecords entries ys → xs ≡ ys
one_records entries xs ys a b = one_list key_of xs ys a.ordered b.ordered (λ r. (λ there. (b.exact r).1 ((a.exact r).0 there), λ there. (a.exact r).1 ((b.exact r).0 there)))
