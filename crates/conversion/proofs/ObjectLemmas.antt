-- Members of objects, and when two objects are one.
use Rattle.std.proofs.Common.{◌≡◌, ℕ, Bool, true, false, List, Some, None, Ordering, Less, Equal, Greater, nat_cmp, refl, sym, ◌∙◌, subst, bytes_eq}
use Rattle.std.specs.Cmp.Lexicographic.{slice_cmp}
use Rattle.std.specs.List.Sorted.{IsStrictlySortedBy}
use Rattle.std.proofs.lemmas.Map.Lookups.{exact_bytes}
use Rattle.std.proofs.lemmas.Slice.Eq.{bytes_eq-Decides}
use Rattle.fields.specs.Order.{Rises}
use Rattle.fields.proofs.MapLemmas.{AllAbove, above_chain, flip, below_differs}
use Rattle.serde_json.specs.Data.{Data, null, boolean, number, string, array, object, Members, no_members, member}
use Rattle.serde_json.specs.Find.{get, get_member}
use Rattle.serde_json.specs.Written.{has_float, members_have_float}
use Rattle.conversion.specs.Code.{members_in}
use Rattle.conversion.specs.Showing.{names_of}
use Rattle.conversion.specs.Trees.{IsObject}
use Rattle.conversion.proofs.MemberLemmas.{skips}
use Rattle.conversion.proofs.SameLemmas.{here}
use Rattle.conversion.proofs.TreeLemmas.{some_one, not_both}

-- ---- of one object

pub get_member-members_in : (name : List ℕ) (tree : Data) → get_member name (members_in (Some tree)) ≡ get name tree
get_member-members_in name null = refl
get_member-members_in name (boolean b) = refl
get_member-members_in name (number n) = refl
get_member-members_in name (string s) = refl
get_member-members_in name (array ds) = refl
get_member-members_in name (object ms) = refl

pub object_is : (tree : Data) → IsObject tree → tree ≡ object (members_in (Some tree))
object_is tree o = subst (λ (t : Data). t ≡ object (members_in (Some t))) (sym o.1) refl

pub members_plain : (tree : Data) → has_float tree ≡ false → members_have_float (members_in (Some tree)) ≡ false
members_plain null h = refl
members_plain (boolean b) h = refl
members_plain (number n) h = refl
members_plain (string s) h = refl
members_plain (array ds) h = refl
members_plain (object ms) h = h

-- ---- of two objects

abbrev SameMembers : Members → Members → Type 0
SameMembers ms ns = (name : List ℕ) → get_member name ms ≡ get_member name ns

none_above : (k : List ℕ) (ms : Members) → AllAbove k (names_of ms) → get_member k ms ≡ None
none_above k no_members h = refl
none_above k (member l e ms) h = skips k l e ms (below_differs k l h.0) ∙ none_above k ms h.1

tails_at : (k : List ℕ) (d e : Data) (ms ns : Members) (name : List ℕ) (b : Bool) → bytes_eq name k ≡ b → AllAbove k (names_of ms) → AllAbove k (names_of ns) → SameMembers (member k d ms) (member k e ns) → get_member name ms ≡ get_member name ns
tails_at k d e ms ns name true is up vp h =
    let same : name ≡ k = (bytes_eq-Decides name k).0 is in
    subst (λ n. get_member n ms ≡ get_member n ns) (sym same) (none_above k ms up ∙ sym (none_above k ns vp))
tails_at k d e ms ns name false is up vp h =
    let apart = λ (same : name ≡ k). absurd (let s : true ≡ false = sym ((bytes_eq-Decides name k).1 same) ∙ is in cc) in
    sym (skips name k d ms apart) ∙ h name ∙ skips name k e ns apart

heads : (k : List ℕ) (d e : Data) (ms ns : Members) → SameMembers (member k d ms) (member k e ns) → d ≡ e
heads k d e ms ns h = some_one (get_member k (member k d ms)) d e (here k d ms) (h k ∙ here k e ns)

same_at : (o : Ordering) (k l : List ℕ) (d e : Data) (ms ns : Members) → slice_cmp nat_cmp k l ≡ o → Rises (names_of (member k d ms)) → Rises (names_of (member l e ns)) → SameMembers (member k d ms) (member l e ns)
    → (SameMembers ms ns → ms ≡ ns) → member k d ms ≡ member l e ns
unfolding IsStrictlySortedBy
same_at Less k l d e ms ns is up vp h later = absurd (not_both (get_member k (member l e ns)) d (none_above k (member l e ns) (is, above_chain k l (names_of ns) is vp.0)) (sym (h k) ∙ here k d ms))
same_at Greater k l d e ms ns is up vp h later =
    let above = flip k l is in
    absurd (not_both (get_member l (member k d ms)) e (none_above l (member k d ms) (above, above_chain l k (names_of ms) above up.0)) (h l ∙ here l e ns))
same_at Equal k l d e ms ns is up vp h later =
    let same : k ≡ l = exact_bytes k l is in
    let g : SameMembers (member k d ms) (member k e ns) = subst (λ (n : List ℕ). SameMembers (member k d ms) (member n e ns)) (sym same) h in
    let above : AllAbove k (names_of ns) = subst (λ (n : List ℕ). AllAbove n (names_of ns)) (sym same) vp.0 in
    let head = heads k d e ms ns g in
    let tail = later (λ name. tails_at k d e ms ns name (bytes_eq name k) refl up.0 above g) in
    λ i. member (same i) (head i) (tail i)

-- members in order are one list where they have the same at each name
pub same_members : (ms ns : Members) → Rises (names_of ms) → Rises (names_of ns) → SameMembers ms ns → ms ≡ ns
unfolding IsStrictlySortedBy
same_members no_members no_members up vp h = refl
same_members no_members (member l e ns) up vp h = absurd (not_both (get_member l (member l e ns)) e (sym (h l)) (here l e ns))
same_members (member k d ms) no_members up vp h = absurd (not_both (get_member k (member k d ms)) d (h k) (here k d ms))
same_members (member k d ms) (member l e ns) up vp h = same_at (slice_cmp nat_cmp k l) k l d e ms ns refl up vp h (λ more. same_members ms ns up.1 vp.1 more)
