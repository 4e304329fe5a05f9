-- Requests are drawn one after another, and a seed makes one script.
use Rattle.std.proofs.Common.{◌≡◌, ℕ, List, [], ◌∷◌, ◌++◌, Option, Some, None, length, refl, sym, ◌∙◌, ap, subst, arith}
use Rattle.conversion.proofs.SameLemmas.{shows_as_one}
use Rattle.conversion.specs.Whole.{metadata}
use Rattle.fields.specs.declared.map.FieldPair.{FieldPair}
use Rattle.fields.specs.declared.table.VersionTable.{VersionTable}
use Rattle.release_view.proofs.ListLemmas.{some_is}
use Rattle.release_view.specs.Served.{served_of, shown_name}
use Rattle.release_view.specs.Views.{Viewed, table_in}
use Rattle.release_view.specs.declared.served.ServedVersion.{ServedVersion}
use Rattle.scripts.specs.declared.script.ScriptEvent.{ScriptEvent}
use Rattle.serde_json.specs.Data.{object, Members, put}
use Rattle.serde_json.specs.Written.{compact_text}
use Rattle.workload.specs.Draws.{next, draw}
use Rattle.workload.specs.Groups.{events_of}
use Rattle.workload.specs.Requests.{IsBody, HasBytes, IsCut, IsOfVersion, IsAmong, IsDrawn, named, method_of, path_of, text_with, chosen, behind_chosen}
use Rattle.workload.specs.Workload.{AreDrawn, IsWorkload}
use Rattle.workload.specs.declared.choice.Action.{Action}
use Rattle.workload.specs.declared.request.Request.{Request}

pub drawn_push : (view : Viewed) (x : ℕ) (rs : List Request) (y : ℕ) (r : Request) (z : ℕ) → AreDrawn view x rs y → IsDrawn view y r z → AreDrawn view x (rs ++ r ∷ []) z
drawn_push view x [] y r z e drawn = (z, subst (λ s. IsDrawn view s r z) e drawn, refl)
drawn_push view x (q ∷ rs) y r z (w, first, later) drawn = (w, first, drawn_push view w rs y r z later drawn)

one_body : (table : VersionTable) (held : List FieldPair) (name a b : List ℕ) → IsBody table held name a → IsBody table held name b → a ≡ b
one_body table held name a b h k =
    let same : object h.members ≡ object k.members = shows_as_one table.rows held (object h.members) (object k.members) h.shows k.shows in
    let members : h.members ≡ k.members = cc in
    h.compact ∙ ap (λ (ms : Members). compact_text (object (put metadata (named name) ms))) members ∙ sym k.compact

one_bytes : (s : ServedVersion) (table : VersionTable) (action : Action) (name : List ℕ) (fields : Option (List FieldPair)) (a b : List ℕ) → HasBytes s table action name fields a → HasBytes s table action name fields b → a ≡ b
one_bytes s table action name None a b h k = h ∙ sym k
one_bytes s table action name (Some held) a b (body, is, e) (other, also, f) =
    e ∙ ap (text_with (method_of action) (path_of s action name)) (one_body table held name body other is also) ∙ sym f

-- two requests of the same bytes, drawn from the same state
record AreOne (q r : Request) (y z : ℕ) : Type 0 where
  pub request : q ≡ r
  pub behind : y ≡ z

one_cut : (a b : List ℕ) (x : ℕ) (q r : Request) (y z : ℕ) → a ≡ b → IsCut a x q y → IsCut b x r z → AreOne q r y z
one_cut a b x q r y z same h k =
    let bytes : q.bytes ≡ r.bytes = h.whole ∙ same ∙ sym k.whole in
    let cut : q.cut ≡ r.cut = h.cut ∙ ap (λ (t : List ℕ). draw (length t) x) same ∙ sym k.cut in
    record {
      request = λ i. record { bytes = bytes i; cut = cut i };
      behind = h.behind ∙ sym k.behind;
    }

one_of : (view : Viewed) (served : List ServedVersion) (x : ℕ) (q r : Request) (y z : ℕ) → IsOfVersion view served x q y → IsOfVersion view served x r z → AreOne q r y z
one_of view served x q r y z h k =
    let version : h.version ≡ k.version = some_is h.version k.version (sym h.at ∙ k.at) in
    let table : h.table ≡ k.table = some_is h.table k.table (sym h.of ∙ ap (λ (s : ServedVersion). table_in view.versions (shown_name s)) version ∙ k.of) in
    one_with k.version k.table version table k.has k.is_cut
  where
    one_with : (v : ServedVersion) (t : VersionTable) → h.version ≡ v → h.table ≡ t
        → HasBytes v t (chosen t.rows (next x)).action (chosen t.rows (next x)).name (chosen t.rows (next x)).fields k.bytes → IsCut k.bytes (behind_chosen t.rows (next x)) r z → AreOne q r y z
    one_with v t version table has is_cut =
        let P : ServedVersion → VersionTable → Type 0 = λ w u. HasBytes w u (chosen u.rows (next x)).action (chosen u.rows (next x)).name (chosen u.rows (next x)).fields k.bytes in
        let there : P h.version h.table = subst (λ (w : ServedVersion). P w h.table) (sym version) (subst (λ (u : VersionTable). P v u) (sym table) has) in
        let cut : IsCut k.bytes (behind_chosen h.table.rows (next x)) r z = subst (λ (u : VersionTable). IsCut k.bytes (behind_chosen u.rows (next x)) r z) (sym table) is_cut in
        let c = chosen h.table.rows (next x) in
        one_cut h.bytes k.bytes (behind_chosen h.table.rows (next x)) q r y z (one_bytes h.version h.table c.action c.name c.fields h.bytes k.bytes h.has there) h.is_cut cut

one_among : (view : Viewed) (served : List ServedVersion) (x : ℕ) (q r : Request) (y z : ℕ) → IsAmong view served x q y → IsAmong view served x r z → AreOne q r y z
one_among view [] x q r y z h k = one_cut _ _ x q r y z refl h k
one_among view (s ∷ ss) x q r y z h k = one_of view (s ∷ ss) x q r y z h k

one_list : (view : Viewed) (x : ℕ) (qs rs : List Request) (y z : ℕ) → AreDrawn view x qs y → AreDrawn view x rs z → length qs ≡ length rs → qs ≡ rs
one_list view x [] [] y z h k same = refl
one_list view x [] (r ∷ rs) y z h k same = absurd (omega arith)
one_list view x (q ∷ qs) [] y z h k same = absurd (omega arith)
one_list view x (q ∷ qs) (r ∷ rs) y z (u, first, later) (v, other, more) same =
    let one = one_among view (served_of view.versions) x q r u v first other in
    let head : q ≡ r = one.request in
    let tail : qs ≡ rs = one_list view u qs rs y z later (subst (λ s. AreDrawn view s rs z) (sym one.behind) more) (omega arith) in
    cc

pub one_workload : (view : Viewed) (seed size : ℕ) (a b : List ScriptEvent) → IsWorkload view seed size a → IsWorkload view seed size b → a ≡ b
one_workload view seed size a b h k =
    h.brings ∙ ap events_of (one_list view seed h.requests k.requests h.behind k.behind h.drawn k.drawn (h.count ∙ sym k.count)) ∙ sym k.brings
