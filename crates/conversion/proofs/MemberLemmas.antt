-- Members of an object: one taken out, one put in, and their order.
use Rattle.std.proofs.Common.{◌≡◌, ◌≢◌, ℕ, Bool, true, false, cond, List, [], ◌∷◌, Option, Some, Ordering, Less, Equal, Greater, nat_cmp, is_eq, String, Global, string_bytes, refl, sym, ◌∙◌, ap, bytes_eq}
use Rattle.std.specs.BTreeMap.{is_at}
use Rattle.std.specs.Cmp.Lexicographic.{slice_cmp}
use Rattle.std.specs.List.Sorted.{IsStrictlySortedBy}
use Rattle.std.specs.Map.{remove_entry}
use Rattle.std.specs.Ordering.{match_ordering}
use Rattle.std.proofs.lemmas.Map.Text.{is_eq-slice_cmp}
use Rattle.std.proofs.lemmas.Slice.Eq.{bytes_eq-Decides}
use Rattle.fields.specs.Order.{IsBelow, Rises}
use Rattle.fields.proofs.MapLemmas.{AllAbove, flip, above_chain}
use Rattle.serde_json.specs.Data.{Data, Members, no_members, member, put}
use Rattle.serde_json.specs.Find.{get_member}
use Rattle.serde_json.specs.View.{view, members_view}
use Rattle.serde_json.specs.declared.value.Value.{Value}
use Rattle.conversion.specs.Showing.{IsInOrder, AreInOrder, names_of}
use Rattle.conversion.specs.Code.{without}

-- ---- one taken out

skip : (o : Ordering) (a b : Option Data) → is_eq o ≡ false → match_ordering o a b a ≡ a
skip Less a b e = refl
skip Equal a b e = absurd cc
skip Greater a b e = refl

pub skips : (q k : List ℕ) (json : Data) (ms : Members) → q ≢ k → get_member q (member k json ms) ≡ get_member q ms
skips q k json ms other = skip (slice_cmp nat_cmp q k) (get_member q ms) (Some json) (is_eq-slice_cmp q k ∙ differ (bytes_eq q k) refl)
  where
    differ : (b : Bool) → bytes_eq q k ≡ b → b ≡ false
    differ true e = absurd (other ((bytes_eq-Decides q k).0 e))
    differ false e = refl

get_member-without_at : (name other q : List ℕ) (json : Data) (ms : Members) (b : Bool) → bytes_eq name other ≡ b → q ≢ name → get_member q (without name ms) ≡ get_member q ms
    → get_member q (cond b ms (member other json (without name ms))) ≡ get_member q (member other json ms)
get_member-without_at name other q json ms true e apart later = sym (skips q other json ms (λ h. apart (h ∙ sym ((bytes_eq-Decides name other).0 e))))
get_member-without_at name other q json ms false e apart later = ap (λ r. match_ordering (slice_cmp nat_cmp q other) r (Some json) r) later

pub get_member-without : (name q : List ℕ) (ms : Members) → q ≢ name → get_member q (without name ms) ≡ get_member q ms
get_member-without name q no_members apart = refl
get_member-without name q (member other json ms) apart = get_member-without_at name other q json ms (bytes_eq name other) refl apart (get_member-without name q ms apart)

abbrev pub Entry : Type 0
Entry = String Global × Value

removed_at : (b c : Bool) (e : Entry) (es fs : List Entry) (ms : Members) → b ≡ c → members_view fs ≡ ms → members_view (cond b es (e ∷ fs)) ≡ cond c (members_view es) (member (string_bytes e.0) (view e.1) ms)
removed_at true true e es fs ms same later = refl
removed_at true false e es fs ms same later = absurd cc
removed_at false true e es fs ms same later = absurd cc
removed_at false false e es fs ms same later = ap (member (string_bytes e.0) (view e.1)) later

pub members_view-removed : (name : List ℕ) (es : List Entry) → members_view (remove_entry (is_at (λ k. slice_cmp nat_cmp name (string_bytes k))) es) ≡ without name (members_view es)
members_view-removed name [] = refl
members_view-removed name (e ∷ es) =
    removed_at (is_eq (slice_cmp nat_cmp name (string_bytes e.0))) (bytes_eq name (string_bytes e.0)) e es (remove_entry (is_at (λ k. slice_cmp nat_cmp name (string_bytes k))) es) (without name (members_view es))
    (is_eq-slice_cmp name (string_bytes e.0)) (members_view-removed name es)

-- ---- order

above-without : (t name : List ℕ) (ms : Members) → AllAbove t (names_of ms) → AllAbove t (names_of (without name ms))
above-without t name no_members h = tt
above-without t name (member other json ms) h = by (bytes_eq name other) (above-without t name ms h.1)
  where
    by : (b : Bool) → AllAbove t (names_of (without name ms)) → AllAbove t (names_of (cond b ms (member other json (without name ms))))
    by true later = h.1
    by false later = (h.0, later)

pub rises-without : (name : List ℕ) (ms : Members) → Rises (names_of ms) → Rises (names_of (without name ms))
unfolding IsStrictlySortedBy
rises-without name no_members h = tt
rises-without name (member other json ms) h = by (bytes_eq name other) (above-without other name ms h.0) (rises-without name ms h.1)
  where
    by : (b : Bool) → AllAbove other (names_of (without name ms)) → Rises (names_of (without name ms)) → Rises (names_of (cond b ms (member other json (without name ms))))
    by true above later = h.1
    by false above later = (above, later)

pub order-without : (name : List ℕ) (ms : Members) → AreInOrder ms → AreInOrder (without name ms)
order-without name no_members h = tt
order-without name (member other json ms) h = by (bytes_eq name other) (order-without name ms h.1)
  where
    by : (b : Bool) → AreInOrder (without name ms) → AreInOrder (cond b ms (member other json (without name ms)))
    by true later = h.1
    by false later = (h.0, later)

above-put_at : (o : Ordering) (t k l : List ℕ) (d e : Data) (ms : Members) → IsBelow t k → AllAbove t (names_of (member l e ms)) → AllAbove t (names_of (put k d ms))
    → AllAbove t (names_of (match_ordering o (member k d (member l e ms)) (member l d ms) (member l e (put k d ms))))
above-put_at Less t k l d e ms first h later = (first, h)
above-put_at Equal t k l d e ms first h later = h
above-put_at Greater t k l d e ms first h later = (h.0, later)

above-put : (t k : List ℕ) (d : Data) (ms : Members) → IsBelow t k → AllAbove t (names_of ms) → AllAbove t (names_of (put k d ms))
above-put t k d no_members first h = (first, tt)
above-put t k d (member l e ms) first h = above-put_at (slice_cmp nat_cmp k l) t k l d e ms first h (above-put t k d ms first h.1)

rises-put_at : (o : Ordering) (k l : List ℕ) (d e : Data) (ms : Members) → slice_cmp nat_cmp k l ≡ o → Rises (names_of (member l e ms)) → (IsBelow l k → AllAbove l (names_of (put k d ms))) → Rises (names_of (put k d ms))
    → Rises (names_of (match_ordering o (member k d (member l e ms)) (member l d ms) (member l e (put k d ms))))
unfolding IsStrictlySortedBy
rises-put_at Less k l d e ms is h above later = ((is, above_chain k l (names_of ms) is h.0), h)
rises-put_at Equal k l d e ms is h above later = h
rises-put_at Greater k l d e ms is h above later = (above (flip k l is), later)

pub rises-put : (k : List ℕ) (d : Data) (ms : Members) → Rises (names_of ms) → Rises (names_of (put k d ms))
unfolding IsStrictlySortedBy
rises-put k d no_members h = (tt, tt)
rises-put k d (member l e ms) h = rises-put_at (slice_cmp nat_cmp k l) k l d e ms refl h (λ below. above-put l k d ms below h.0) (rises-put k d ms h.1)

order-put_at : (o : Ordering) (k l : List ℕ) (d e : Data) (ms : Members) → IsInOrder d → IsInOrder e → AreInOrder ms → AreInOrder (put k d ms)
    → AreInOrder (match_ordering o (member k d (member l e ms)) (member l d ms) (member l e (put k d ms)))
order-put_at Less k l d e ms new here h later = (new, (here, h))
order-put_at Equal k l d e ms new here h later = (new, h)
order-put_at Greater k l d e ms new here h later = (here, later)

pub order-put : (k : List ℕ) (d : Data) (ms : Members) → IsInOrder d → AreInOrder ms → AreInOrder (put k d ms)
order-put k d no_members new h = (new, tt)
order-put k d (member l e ms) new h = order-put_at (slice_cmp nat_cmp k l) k l d e ms new h.0 h.1 (order-put k d ms new h.1)
