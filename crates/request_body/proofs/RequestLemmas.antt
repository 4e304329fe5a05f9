-- The fields that a request gives an object are one map.
use Rattle.std.proofs.Common.{◌≡◌, List, Option, Some, None, refl, ap, subst}
use Rattle.http_front.specs.declared.request.Request.{Request}
use Rattle.object_journal.specs.declared.key.Key.{Key}
use Rattle.object_state.specs.Objects.{AreInKeyOrder, Finds}
use Rattle.object_state.specs.State.{State}
use Rattle.object_state.specs.declared.object.Object.{Object}
use Rattle.object_state.specs.declared.object.Stored.{Stored}
use Rattle.object_state.proofs.StateLemmas.{one_object}
use Rattle.request_body.specs.Laws.{AreGivenOnce}
use Rattle.request_body.specs.Places.{Place, key_of}
use Rattle.request_body.specs.Writes.{AreGivenBy, held_fields}
use Rattle.request_body.proofs.GivenLemmas.{gives_once}
use Rattle.serde_json.specs.Data.{Data}
use Rattle.serde_json.specs.Read.{read as tree_of_text}

pub found_once : (objects : List Stored) (key : Key) (a b : Option Object) → AreInKeyOrder objects → Finds objects key a → Finds objects key b → a ≡ b
found_once objects key None None order h k = refl
found_once objects key None (Some y) order h k = absurd (h (y, k))
found_once objects key (Some x) None order h k = absurd (k (x, h))
found_once objects key (Some x) (Some y) order h k = ap Some (one_object objects key x y order h k)

one_tree : (o : Option Data) (a b : Data) → o ≡ Some a → o ≡ Some b → a ≡ b
one_tree o a b h k = cc

pub given_once : (s : State) (q : Request) (place : Place) → AreInKeyOrder s.objects → AreGivenOnce s q place
given_once s q place order name fields other h k =
    let rows = place.of.table.rows in
    let tree : h.tree ≡ k.tree = one_tree (tree_of_text q.body) h.tree k.tree h.text.read k.text.read in
    let stored : h.stored ≡ k.stored = found_once s.objects (key_of place name) h.stored k.stored order h.found k.found in
    let of_tree : AreGivenBy rows k.tree (held_fields h.stored) fields = subst (λ t. AreGivenBy rows t (held_fields h.stored) fields) tree h.given in
    let of_both : AreGivenBy rows k.tree (held_fields k.stored) fields = subst (λ o. AreGivenBy rows k.tree (held_fields o) fields) stored of_tree in
    gives_once rows k.tree (held_fields k.stored) fields other of_both k.given
