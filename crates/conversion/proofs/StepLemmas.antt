-- A value is placed one name deeper.
use Rattle.std.proofs.Common.{◌≡◌, ℕ, ◌<◌, ◌≤◌, ◌-◌, List, [], ◌∷◌, length, get_or, take, drop, Option, Some, None, option_map, IfSome, Ordering, Less, Equal, Greater, nat_cmp, string_bytes, refl, sym, ◌∙◌, ap, subst, arith}
use Rattle.std.specs.BTreeMap.{is_at}
use Rattle.std.specs.Cmp.Lexicographic.{slice_cmp}
use Rattle.std.specs.Map.{lookup, remove_entry}
use Rattle.std.specs.Ordering.{match_ordering}
use Rattle.std.proofs.lemmas.List.{length-drop, take_all}
use Rattle.fields.specs.Order.{Rises}
use Rattle.std.specs.List.Sorted.{IsStrictlySortedBy}
use Rattle.serde_json.specs.Data.{Data, null, boolean, number, string, array, object, Members, no_members, member, put}
use Rattle.serde_json.specs.Find.{get_member}
use Rattle.serde_json.specs.View.{view, members_view}
use Rattle.serde_json.specs.declared.value.Value.{Value}
use Rattle.serde_json.proofs.Views.{get_member-put, get_member-put_other, view-lookup}
use Rattle.conversion.specs.Trees.{Names}
use Rattle.conversion.specs.Showing.{IsInOrder, AreInOrder, names_of}
use Rattle.conversion.specs.Code.{without, get_in, members_in, IsPlaced, KeepsOrder}
use Rattle.conversion.proofs.MemberLemmas.{Entry, get_member-without, members_view-removed, rises-without, order-without, rises-put, order-put}

in_members : (name : List ℕ) (old : Option Data) → get_member name (members_in old) ≡ get_in name old
in_members name None = refl
in_members name (Some null) = refl
in_members name (Some (boolean b)) = refl
in_members name (Some (number n)) = refl
in_members name (Some (string s)) = refl
in_members name (Some (array ds)) = refl
in_members name (Some (object ms)) = refl

pub placed_cons : (name : List ℕ) (path : Names) (json : Data) (old : Option Data) (inner : Data) → IsPlaced path json (get_member name (members_in old)) inner → IsPlaced (name ∷ path) json old (object (put name inner (without name (members_in old))))
placed_cons name path json old inner h = (
  put name inner (without name (members_in old)),
  refl,
  λ other apart. get_member-put_other other name inner (without name (members_in old)) apart ∙ get_member-without name other (members_in old) apart ∙ in_members other old,
  inner,
  get_member-put name inner (without name (members_in old)),
  subst (λ o. IsPlaced path json o inner) (in_members name old) h,
)

order_at : (o : Ordering) (e : Data) (found : Option Data) → IsInOrder e → IfSome found IsInOrder → IfSome (match_ordering o found (Some e) found) IsInOrder
order_at Less e found h k = k
order_at Equal e found h k = h
order_at Greater e found h k = k

member_order : (name : List ℕ) (ms : Members) → AreInOrder ms → IfSome (get_member name ms) IsInOrder
member_order name no_members h = tt
member_order name (member other json ms) h = order_at (slice_cmp nat_cmp name other) json (get_member name ms) h.0 (member_order name ms h.1)

members_order : (old : Option Data) → IfSome old IsInOrder → Rises (names_of (members_in old)) × AreInOrder (members_in old)
unfolding IsStrictlySortedBy
members_order None h = (tt, tt)
members_order (Some null) h = (tt, tt)
members_order (Some (boolean b)) h = (tt, tt)
members_order (Some (number n)) h = (tt, tt)
members_order (Some (string s)) h = (tt, tt)
members_order (Some (array ds)) h = (tt, tt)
members_order (Some (object ms)) h = h

pub order_cons : (name : List ℕ) (json : Data) (old : Option Data) (inner : Data) → KeepsOrder (get_member name (members_in old)) json inner → KeepsOrder old json (object (put name inner (without name (members_in old))))
order_cons name json old inner h before leaf =
    let both = members_order old before in
    let inside : IsInOrder inner = h (member_order name (members_in old) both.1) leaf in
    (rises-put name inner (without name (members_in old)) (rises-without name (members_in old) both.0), order-put name inner (without name (members_in old)) inside (order-without name (members_in old) both.1))

-- ---- what the code reads and leaves

-- one name, and the rest, of a path that was read as a slice
pub rest_of : (path : Names) → 1 ≤ length path → take (length path - 1) (drop 1 path) ≡ drop 1 path
rest_of path h = take_all (length path - 1) (drop 1 path) (let n = length-drop 1 path in omega arith)

pub path_parts : (path : Names) (name : List ℕ) → 1 ≤ length path → name ≡ get_or path 0 name → path ≡ name ∷ drop 1 path
path_parts [] name h is = absurd (omega arith)
path_parts (x ∷ path) name h is = ap (λ y. y ∷ path) (sym is)

pub shorter : (path : Names) → 1 ≤ length path → length (take (length path - 1) (drop 1 path)) < length path
shorter path h = let e = ap length (rest_of path h) in let n = length-drop 1 path in omega arith

-- the members that were taken from the old tree, without the name, and with the new inner tree under it
pub step_members : (name : List ℕ) (old : Option Data) (inner : Data) (es removed new : List Entry) → members_view es ≡ members_in old → removed ≡ remove_entry (is_at (λ k. slice_cmp nat_cmp name (string_bytes k))) es
    → members_view new ≡ put name inner (members_view removed) → members_view new ≡ put name inner (without name (members_in old))
step_members name old inner es removed new from is to =
    to ∙ ap (λ ms. put name inner ms) (ap members_view is ∙ members_view-removed name es ∙ ap (λ ms. without name ms) from)

pub step_inner : (name : List ℕ) (old : Option Data) (es : List Entry) (inner : Option Value) → members_view es ≡ members_in old → inner ≡ lookup (is_at (λ k. slice_cmp nat_cmp name (string_bytes k))) es
    → option_map view inner ≡ get_member name (members_in old)
step_inner name old es inner from is = ap (λ o. option_map view o) is ∙ view-lookup name es ∙ ap (λ ms. get_member name ms) from

pub placed_step : (path rest : Names) (name : List ℕ) (json : Data) (old inner_old : Option Data) (inner : Data) (new : Members) → path ≡ name ∷ rest → inner_old ≡ get_member name (members_in old)
    → IsPlaced rest json inner_old inner → new ≡ put name inner (without name (members_in old)) → IsPlaced path json old (object new)
placed_step path rest name json old inner_old inner new parts from h to =
    subst (λ p. IsPlaced p json old (object new)) (sym parts)
    (subst (λ ms. IsPlaced (name ∷ rest) json old (object ms)) (sym to) (placed_cons name rest json old inner (subst (λ o. IsPlaced rest json o inner) from h)))

pub order_step : (name : List ℕ) (json : Data) (old inner_old : Option Data) (inner : Data) (new : Members) → inner_old ≡ get_member name (members_in old)
    → KeepsOrder inner_old json inner → new ≡ put name inner (without name (members_in old)) → KeepsOrder old json (object new)
order_step name json old inner_old inner new from h to =
    subst (λ ms. KeepsOrder old json (object ms)) (sym to) (order_cons name json old inner (subst (λ o. KeepsOrder o json inner) from h))
