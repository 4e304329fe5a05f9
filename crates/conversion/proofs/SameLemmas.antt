-- Trees in order that have the same at each path are one.
use Rattle.std.proofs.Common.{◌≡◌, ◌≢◌, ◌⊎◌, inl, inr, ℕ, List, [], ◌∷◌, ◌++◌, Option, Some, None, IfSome, IsSome, Ordering, Less, Equal, Greater, nat_cmp, refl, sym, ◌∙◌, ap, subst}
use Rattle.std.specs.Cmp.Lexicographic.{slice_cmp}
use Rattle.std.specs.List.Sorted.{IsStrictlySortedBy}
use Rattle.std.proofs.lemmas.Cmp.{nat_list_cmp_total, tied_itself}
use Rattle.std.proofs.lemmas.Map.Lookups.{exact_bytes}
use Rattle.fields.specs.Map.{value_at}
use Rattle.fields.specs.Order.{Rises}
use Rattle.fields.specs.declared.map.FieldPair.{FieldPair}
use Rattle.fields.specs.declared.table.FieldRow.{FieldRow}
use Rattle.fields.specs.declared.value.FieldValue.{FieldValue}
use Rattle.fields.proofs.MapLemmas.{AllAbove, above_chain, flip, below_differs}
use Rattle.serde_json.specs.Data.{Data, null, boolean, number, string, array, object, Members, no_members, member}
use Rattle.serde_json.specs.Find.{get_member}
use Rattle.conversion.specs.Trees.{Names, Stands, IsObject}
use Rattle.conversion.specs.Reading.{IsHeld}
use Rattle.conversion.specs.Showing.{Shows, IsInOrder, AreInOrder, names_of}
use Rattle.conversion.proofs.TreeLemmas.{stands_one, stands_split, object_from_get, no_last, some_one, not_both}
use Rattle.conversion.proofs.WritingLemmas.{one_json}
use Rattle.conversion.proofs.MemberLemmas.{skips}

-- what stands in the one tree stands in the other, or there is an object in both
abbrev pub AgreesBelow : Data → Data → Type 0
AgreesBelow a b = (path : Names) (there : Data) → Stands a path there → (other : Data) × Stands b path other × ((there ≡ other) ⊎ (IsObject there × IsObject other))

abbrev pub MembersAgree : Members → Members → Type 0
MembersAgree ms ns = (name : List ℕ) (inner : Data) → get_member name ms ≡ Some inner → (other : Data) × (get_member name ns ≡ Some other) × AgreesBelow inner other

members_agree : (ms ns : Members) → AgreesBelow (object ms) (object ns) → MembersAgree ms ns
members_agree ms ns h name inner found =
    let at = h (name ∷ []) inner (inner, found, refl) in (
      at.1.0,
      at.1.1,
      λ path there stands.
          let deep = h (name ∷ path) there (inner, found, stands) in
          let same : deep.1.0 ≡ at.1.0 = some_one (get_member name ns) deep.1.0 at.1.0 deep.1.1 at.1.1 in
          (deep.0, subst (λ t. Stands t path deep.0) same deep.1.2, deep.2),
    )

pub here : (k : List ℕ) (d : Data) (ms : Members) → get_member k (member k d ms) ≡ Some d
here k d ms = rw (tied_itself nat_list_cmp_total k)

none_above : (k : List ℕ) (ms : Members) → AllAbove k (names_of ms) → get_member k ms ≡ None
none_above k no_members h = refl
none_above k (member l e ms) h = skips k l e ms (below_differs k l h.0) ∙ none_above k ms h.1

-- a member after the first one
pub later : (k : List ℕ) (d : Data) (ms : Members) (name : List ℕ) (inner : Data) → AllAbove k (names_of ms) → get_member name ms ≡ Some inner → name ≢ k
later k d ms name inner above found same = not_both (get_member k ms) inner (none_above k ms above) (subst (λ n. get_member n ms ≡ Some inner) same found)

tails_agree : (k l : List ℕ) (d e : Data) (ms ns : Members) → k ≡ l → AllAbove k (names_of ms) → MembersAgree (member k d ms) (member l e ns) → MembersAgree ms ns
tails_agree k l d e ms ns same above h name inner found =
    let apart = later k d ms name inner above found in
    let at = h name inner (skips name k d ms apart ∙ found) in
    (at.0, sym (skips name l e ns (λ is. apart (is ∙ sym same))) ∙ at.1, at.2)

heads_agree : (k l : List ℕ) (d e : Data) (ms ns : Members) → k ≡ l → MembersAgree (member k d ms) (member l e ns) → AgreesBelow d e
heads_agree k l d e ms ns same h =
    let at = h k d (here k d ms) in
    let is : at.0 ≡ e = some_one (get_member k (member l e ns)) at.0 e at.1 (subst (λ n. get_member n (member l e ns) ≡ Some e) (sym same) (here l e ns)) in
    subst (AgreesBelow d) is at.2

members_at : (o : Ordering) (k l : List ℕ) (d e : Data) (ms ns : Members) → slice_cmp nat_cmp k l ≡ o → Rises (names_of (member k d ms)) → Rises (names_of (member l e ns)) → MembersAgree (member k d ms) (member l e ns)
    → MembersAgree (member l e ns) (member k d ms) → (AgreesBelow d e → AgreesBelow e d → d ≡ e) → (MembersAgree ms ns → MembersAgree ns ms → ms ≡ ns) → member k d ms ≡ member l e ns
unfolding IsStrictlySortedBy
members_at Less k l d e ms ns is up vp h g heads tails =
    let at = h k d (here k d ms) in
    absurd (not_both (get_member k (member l e ns)) at.0 (none_above k (member l e ns) (is, above_chain k l (names_of ns) is vp.0)) at.1)
members_at Greater k l d e ms ns is up vp h g heads tails =
    let above = flip k l is in
    let at = g l e (here l e ns) in
    absurd (not_both (get_member l (member k d ms)) at.0 (none_above l (member k d ms) (above, above_chain l k (names_of ms) above up.0)) at.1)
members_at Equal k l d e ms ns is up vp h g heads tails =
    let same : k ≡ l = exact_bytes k l is in
    let head : d ≡ e = heads (heads_agree k l d e ms ns same h) (heads_agree l k e d ns ms (sym same) g) in
    let rest : ms ≡ ns = tails (tails_agree k l d e ms ns same up.0 h) (tails_agree l k e d ns ms (sym same) vp.0 g) in
    λ i. member (same i) (head i) (rest i)

leaf_same : (a b : Data) → ¬ IsObject a → AgreesBelow a b → a ≡ b
leaf_same a b leaf h = let at = h [] a refl in elim at.2 [ inl same ↦ same ∙ sym at.1 | inr both ↦ absurd (leaf both.0) ]

object_same : (ms : Members) (b : Data) → AgreesBelow (object ms) b → ((ns : Members) → b ≡ object ns → object ms ≡ object ns) → object ms ≡ b
object_same ms b h more = let at = h [] (object ms) refl in elim at.2 [
  | inl same ↦ same ∙ sym at.1
  | inr both ↦ let is : b ≡ object both.1.0 = at.1 ∙ both.1.1 in more both.1.0 is ∙ sym is
]

mutual
  unfolding IsStrictlySortedBy

  pub same_tree : (a b : Data) → IsInOrder a → IsInOrder b → AgreesBelow a b → AgreesBelow b a → a ≡ b
  same_tree null b up vp h g = leaf_same null b (λ o. let e = o.1 in cc) h
  same_tree (boolean x) b up vp h g = leaf_same (boolean x) b (λ o. let e = o.1 in cc) h
  same_tree (number n) b up vp h g = leaf_same (number n) b (λ o. let e = o.1 in cc) h
  same_tree (string s) b up vp h g = leaf_same (string s) b (λ o. let e = o.1 in cc) h
  same_tree (array ds) b up vp h g = leaf_same (array ds) b (λ o. let e = o.1 in cc) h
  same_tree (object ms) b up vp h g = object_same ms b h (λ ns is.
      let wp : IsInOrder (object ns) = subst IsInOrder is vp in
      ap object (same_members ms ns up.0 wp.0 up.1 wp.1 (members_agree ms ns (subst (AgreesBelow (object ms)) is h)) (members_agree ns ms (subst (λ t. AgreesBelow t (object ms)) is g))))

  pub same_members : (ms ns : Members) → Rises (names_of ms) → Rises (names_of ns) → AreInOrder ms → AreInOrder ns → MembersAgree ms ns → MembersAgree ns ms → ms ≡ ns
  same_members no_members no_members up vp a b h g = refl
  same_members no_members (member l e ns) up vp a b h g = absurd (let at = g l e (here l e ns) in let is = at.1 in cc)
  same_members (member k d ms) no_members up vp a b h g = absurd (let at = h k d (here k d ms) in let is = at.1 in cc)
  same_members (member k d ms) (member l e ns) up vp a b h g =
      members_at (slice_cmp nat_cmp k l) k l d e ms ns refl up vp h g (λ x y. same_tree d e a.0 b.0 x y) (λ x y. same_members ms ns up.1 vp.1 a.1 b.1 x y)

-- ---- one map is shown as one tree

held_once : (row : FieldRow) (a b : Data) (o : Option FieldValue) → IfSome o (IsHeld a row) → IfSome o (IsHeld b row) → IsSome o → (json : Data) × Stands a row.path json × Stands b row.path json
held_once row a b None h k some = absurd cc
held_once row a b (Some v) h k some =
    let same : k.json ≡ h.json = one_json row.form v k.json h.json k.spelled.written h.spelled.written in
    (h.json, h.stands, subst (Stands b row.path) same k.stands)

agrees_at : (a b : Data) (path rest : Names) (there json : Data) → Stands a path there → Stands a (path ++ rest) json → Stands b (path ++ rest) json → (other : Data) × Stands b path other × ((there ≡ other) ⊎ (IsObject there × IsObject other))
agrees_at a b path [] there json h in_a in_b =
    let whole_a : Stands a path json = subst (λ p. Stands a p json) (no_last path) in_a in
    (json, subst (λ p. Stands b p json) (no_last path) in_b, inl (stands_one a path there json h whole_a))
agrees_at a b path (name ∷ rest) there json h in_a in_b =
    let x = stands_split a path (name ∷ rest) json in_a in
    let y = stands_split b path (name ∷ rest) json in_b in
    (y.0, y.1, inr (subst IsObject (stands_one a path x.0 there x.1 h) (object_from_get name x.0 x.2.0 x.2.1), object_from_get name y.0 y.2.0 y.2.1))

shown_agree : (rows : List FieldRow) (held : List FieldPair) (a b : Data) → Shows rows held a → Shows rows held b → AgreesBelow a b
shown_agree rows held a b h k [] there stands = (b, refl, inr (subst IsObject stands h.object, k.object))
shown_agree rows held a b h k (name ∷ path) there stands =
    let way = h.least (name ∷ path) there (λ e. cc) stands in
    let row = way.1 in
    let in_a = subst (λ (r : FieldRow). IfSome (value_at held r.id) (IsHeld a r)) way.3 (h.each way.0 row way.2) in
    let in_b = subst (λ (r : FieldRow). IfSome (value_at held r.id) (IsHeld b r)) way.3 (k.each way.0 row way.2) in
    let both = held_once row a b (value_at held row.id) in_a in_b way.4.0 in
    agrees_at a b (name ∷ path) way.4.1.0 there both.0 stands (subst (λ p. Stands a p both.0) way.4.1.1 both.1) (subst (λ p. Stands b p both.0) way.4.1.1 both.2)

pub shows_as_one : (rows : List FieldRow) (held : List FieldPair) (a b : Data) → Shows rows held a → Shows rows held b → a ≡ b
shows_as_one rows held a b h k = same_tree a b h.order k.order (shown_agree rows held a b h k) (shown_agree rows held b a k h)
