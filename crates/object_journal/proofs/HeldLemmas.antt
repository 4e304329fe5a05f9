-- Which keys entries leave held, one entry after the other.
use Rattle.std.proofs.Common.{◌≡◌, inl, inr, ⊎_elim, ℕ, ◌≤◌, true, false, cond, List, [], ◌∷◌, ◌++◌, length, Contains, sym, ap, subst, ◌∙◌, arith}
use Rattle.std.specs.Prelude.{Result, Ok, Err, OnOk}
use Rattle.std.specs.Set.{is_member}
use Rattle.std.specs.BTreeSet.{BTreeSet, contains, IsOrdered}
use Rattle.std.proofs.lemmas.Cmp.{eq_by_cmp_equiv}
use Rattle.std.proofs.lemmas.Map.Views.{btree_set_contains_iff, All-set_contains}
use Rattle.std.proofs.lemmas.Map.Keys.{IsDistinct-from_sorted}
use Rattle.std.proofs.lemmas.Map.Made.{AllPairs-from_IsDistinct, IsDistinct-from_AllPairs, is_member-Decides, length-le_from_is_member}
use Rattle.std.proofs.lemmas.List.Elements.{All-weaker, All-contains}
use Rattle.std.proofs.lemmas.Bool.{false≢true}
use Rattle.object_journal.specs.declared.key.Key.{Key}
use Rattle.object_journal.specs.declared.entry.Entry.{Entry}
use Rattle.object_journal.specs.declared.entry.Change.{Change}
use Rattle.object_journal.specs.declared.entry.Change.TheVariants.{Put, Removal}
use Rattle.basis.specs.declared.memory.Memory.{Memory}
use Rattle.object_journal.specs.KeyOrder.{by_key}
use Rattle.object_journal.specs.Journal.{IsPut, IsHeld, FewHeld, most_keys}
use Rattle.object_journal.specs.HeldKeys.{AreHeld, Holds, Releases}
use Rattle.object_journal.proofs.KeyLaws.{by_key_total, exact_keys, same, same_is, is_same, same_decides, same_or_not, true_or_false}
use Rattle.object_journal.proofs.EntryLaws.{leaves_last, held_cases, held_more}

-- ---- sets of keys

pub holds_now : (old new : BTreeSet Key) (key : Key) → ((q : Key) → contains by_key new q ≡ cond (same key q) true (contains by_key old q)) → Holds old new key
holds_now old new key u k =
    let at_true : same key k ≡ true → contains by_key new k ≡ true = λ t. u k ∙ ap (λ b. cond b true (contains by_key old k)) t in
    let at_false : same key k ≡ false → contains by_key new k ≡ contains by_key old k = λ f. u k ∙ ap (λ b. cond b true (contains by_key old k)) f in (
      (λ h. ⊎_elim (λ t. inl (same_is key k t)) (λ f. inr (sym (at_false f) ∙ h)) (true_or_false (same key k))),
      ⊎_elim (λ e. at_true (is_same key k e)) (λ h. ⊎_elim at_true (λ f. at_false f ∙ h) (true_or_false (same key k))),
    )

pub releases_now : (old new : BTreeSet Key) (key : Key) → ((q : Key) → contains by_key new q ≡ cond (same key q) false (contains by_key old q)) → Releases old new key
releases_now old new key u k =
    let at_true : same key k ≡ true → contains by_key new k ≡ false = λ t. u k ∙ ap (λ b. cond b false (contains by_key old k)) t in
    let at_false : same key k ≡ false → contains by_key new k ≡ contains by_key old k = λ f. u k ∙ ap (λ b. cond b false (contains by_key old k)) f in (
      (λ h. ⊎_elim (λ t. absurd (false≢true (sym (at_true t) ∙ h))) (λ f. ((λ e. false≢true (sym f ∙ is_same key k e)), sym (at_false f) ∙ h)) (true_or_false (same key k))),
      (λ h. ⊎_elim (λ t. absurd (h.0 (same_is key k t))) (λ f. at_false f ∙ h.1) (true_or_false (same key k))),
    )

-- ---- entries

pub put_held : (old new : BTreeSet Key) (es : List Entry) (e : Entry) → IsPut e.change → Holds old new e.key → AreHeld old es → AreHeld new (es ++ e ∷ [])
put_held old new es e put holds are k = (
  (λ h. ⊎_elim (λ is. (e, leaves_last es e put, is)) (λ was. ⊎_elim (λ is. (e, leaves_last es e put, is)) (λ apart. held_more es e k apart ((are k).0 was)) (same_or_not e.key k)) ((holds k).0 h)),
  (λ h. (holds k).1 (⊎_elim (λ p. inl p.0) (λ p. inr ((are k).1 p.1)) (held_cases es e k h))),
)

pub removal_held : (old new : BTreeSet Key) (es : List Entry) (e : Entry) → (IsPut e.change → ⊥) → Releases old new e.key → AreHeld old es → AreHeld new (es ++ e ∷ [])
removal_held old new es e no_put releases are k = (
  (λ h. let was = (releases k).0 h in held_more es e k was.0 ((are k).0 was.1)),
  (λ h. ⊎_elim (λ p. absurd (no_put p.1)) (λ p. (releases k).1 (p.0, (are k).1 p.1)) (held_cases es e k h)),
)

-- ---- how many

of_member : (keys : List Key) (q : Key) → is_member same keys q ≡ true → Contains keys q
of_member keys q = (is_member-Decides same_decides keys q).0

member_of : (keys : List Key) (q : Key) → Contains keys q → is_member same keys q ≡ true
member_of keys q = (is_member-Decides same_decides keys q).1

pub few_held : (held : BTreeSet Key) (es : List Entry) → AreHeld held es → length held.keys ≤ most_keys → FewHeld es
few_held held es are small keys apart all =
    let within : (q : Key) → Contains keys q → Contains held.keys q = λ q there. (btree_set_contains_iff by_key_total exact_keys held q).0 ((are q).1 (All-contains (IsHeld es) keys q all there)) in
    let fewer = length-le_from_is_member (eq_by_cmp_equiv by_key_total) keys held.keys (IsDistinct-from_AllPairs same_decides keys apart) (λ q there. member_of held.keys q (within q (of_member keys q there))) in
    omega (arith, fewer, small)

pub not_many : (held : BTreeSet Key) (es : List Entry) → IsOrdered by_key held → AreHeld held es → FewHeld es → length held.keys ≤ most_keys
not_many held es ordered are few =
    few held.keys (AllPairs-from_IsDistinct same_decides held.keys (IsDistinct-from_sorted by_key held.keys ordered)) (All-weaker (λ k. contains by_key held k ≡ true) (IsHeld es) (λ k there. (are k).0 there) held.keys (All-set_contains by_key_total held))

-- ---- results

pub on_ok_then : (r : Result Unit Memory) (P Q : Type 0) → (P → Q) → OnOk r P → OnOk r Q
on_ok_then (Ok x) P Q f p = f p
on_ok_then (Err e) P Q f p = p

pub no_put_in_removal : (change : Change) → change ≡ Removal → IsPut change → ⊥
no_put_in_removal change is put = subst IsPut is put

pub put_in_put : (change : Change) (created : ℕ) (body : List ℕ) → change ≡ Put created body → IsPut change
put_in_put change created body is = subst IsPut (sym is) tt
