-- One answer for records; and records within their revision.
use Rattle.std.proofs.Common.{◌≡◌, inl, inr, ℕ, ◌≤◌, List, [], ◌∷◌, ◌++◌, sym, ◌∙◌, ap, subst, arith}
use Rattle.std.specs.Prelude.{Some, None}
use Rattle.basis.proofs.FirstLemmas.{first_is_one, first_refutes}
use Rattle.key_order.proofs.OrderLemmas.{all_of}
use Rattle.object_journal.specs.declared.entry.Entry.{Entry}
use Rattle.object_journal.specs.Journal.{revision_after}
use Rattle.object_store.specs.Records.{AreRecords, put_of}
use Rattle.object_store.specs.Stores.{StoreRecord}
use Rattle.object_store.specs.declared.item.Item.{Item}
use Rattle.release_view.proofs.ListLemmas.{some_is}
use Rattle.release_view.specs.Views.{Viewed}
use Rattle.serde_json.specs.Data.{Data}
use Rattle.storage_version.specs.Bodies.{IsVersionTold, TellsVersion}
use Rattle.storage_version.proofs.ReadLemmas.{one_tree}
use Rattle.stored_state.specs.Both.{AreWithin}
use Rattle.stored_state.specs.Laws.{HaveOneAnswer, RecoverWithin, HoldsWithin}
use Rattle.stored_state.specs.Reading.{IsReadByBoth, IsUnreadableAt}

-- ---- one answer

told_by_tree : (tree : Data) (a b : List ℕ) → IsVersionTold tree a → IsVersionTold tree b → a ≡ b
told_by_tree tree a b (inl p) (inl q) = some_is a b (sym p ∙ q)
told_by_tree tree a b (inl p) (inr q) = absurd (let clash : Some a ≡ None = sym p ∙ q.0 in cc)
told_by_tree tree a b (inr p) (inl q) = absurd (let clash : Some b ≡ None = sym q ∙ p.0 in cc)
told_by_tree tree a b (inr p) (inr q) = p.1 ∙ sym q.1

one_told : (body a b : List ℕ) → TellsVersion body a → TellsVersion body b → a ≡ b
one_told body a b (inl p) (inl q) = told_by_tree q.0 a b (subst (λ (d : Data). IsVersionTold d a) (one_tree body p.0 q.0 p.1 q.1) p.2) q.2
one_told body a b (inl p) (inr q) = absurd (q.0 p.0 p.1)
one_told body a b (inr p) (inl q) = absurd (p.0 q.0 q.1)
one_told body a b (inr p) (inr q) = p.1 ∙ sym q.1

not_both : (back view : Viewed) (item : Item) (minor : ℕ) (version : List ℕ) → IsUnreadableAt back view item minor version → IsReadByBoth back view item → ⊥
not_both back view item minor version (inl later) both = later.0.unread (both.later later.0.live)
not_both back view item minor version (inr earlier) both = earlier.1.unread (both.earlier earlier.1.live)

one_refusal : (back view : Viewed) (item : Item) (version told : List ℕ) (minor release : ℕ) → IsUnreadableAt back view item minor version → IsUnreadableAt back view item release told → (version ≡ told) × (minor ≡ release)
one_refusal back view item version told minor release (inl p) (inl q) = (one_told item.body version told p.0.told q.0.told, p.1 ∙ sym q.1)
one_refusal back view item version told minor release (inl p) (inr q) = absurd (p.0.unread (q.0 p.0.live))
one_refusal back view item version told minor release (inr p) (inl q) = absurd (q.0.unread (p.0 q.0.live))
one_refusal back view item version told minor release (inr p) (inr q) = (one_told item.body version told p.1.told q.1.told, p.2 ∙ sym q.2)

pub one_answer : (back view : Viewed) (items : List Item) → HaveOneAnswer back view items
one_answer back view items = record {
  either = λ key version minor first later earlier.
      first_refutes (IsReadByBoth back view) (λ (r : Item). IsUnreadableAt back view r minor version) items first.item (not_both back view first.item minor version) first.first
      (all_of (IsReadByBoth back view) items (λ item there. record { later = later item there; earlier = earlier item there }));
  one = λ key other version told minor release p q.
      let same : p.item ≡ q.item =
      first_is_one (IsReadByBoth back view) (λ (r : Item). IsUnreadableAt back view r minor version) (λ (r : Item). IsUnreadableAt back view r release told) items p.item q.item
      (λ r. not_both back view r minor version) (λ r. not_both back view r release told) p.first q.first in
      let refused = one_refusal back view q.item version told minor release (subst (λ (r : Item). IsUnreadableAt back view r minor version) same p.first.faulty) q.first.faulty in
      (sym p.of_key ∙ ap (λ (r : Item). r.key) same ∙ q.of_key, refused.0, refused.1);
}

-- ---- within the revision

put_within : (base : ℕ) (before : List Entry) (e : Entry) (behind : List Entry) → e.revision ≤ revision_after base (before ++ e ∷ behind)
put_within base [] e behind = omega arith
put_within base (first ∷ before) e behind = let later = put_within base before e behind in omega (arith, later)

pub left_within : (base : ℕ) (entries : List Entry) (items : List Item) (revision : ℕ) → AreRecords entries items → revision ≡ revision_after base entries → AreWithin items revision
left_within base entries items revision records at = λ item there.
    let l = (records.exact item).0 there in
    let within : item.revision ≤ revision_after base entries = subst (λ (es : List Entry). item.revision ≤ revision_after base es) (sym l.parts) (put_within base l.before (put_of item) l.behind) in
    subst (λ (n : ℕ). item.revision ≤ n) (sym at) within

pub recovers_within : (bytes : List ℕ) → RecoverWithin bytes
recovers_within bytes = λ items revision r. left_within r.base r.entries items revision r.records r.revision_is

pub holds_within : (store : StoreRecord) → HoldsWithin store
holds_within store = λ entries r. left_within store.journal.base entries store.items store.journal.revision r.records r.revision
