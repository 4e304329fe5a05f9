-- What is read and what is written of a request is one, and so is its step.
use Rattle.std.proofs.Common.{◌≡◌, ◌⊎◌, inl, inr, ℕ, ◌+◌, List, Option, Some, None, refl, sym, ◌∙◌, ap, subst}
use Rattle.conversion.proofs.TreeLemmas.{some_one}
use Rattle.discovery.specs.Groups.{group_page as page_of_group}
use Rattle.discovery.specs.Resources.{resource_list_page}
use Rattle.http_front.specs.declared.request.Request.{Request}
use Rattle.http_front.specs.declared.request.Verb.{Verb}
use Rattle.http_front.specs.declared.request.Verb.TheVariants.{Get, Post, Put, Delete, Patch, Head, Other}
use Rattle.object_journal.specs.declared.key.Key.{Key}
use Rattle.object_pages.proofs.PageLemmas.{one_page}
use Rattle.object_pages.specs.Documents.{IsShown, listed}
use Rattle.object_state.proofs.StateLemmas.{one_object, one_state}
use Rattle.object_state.specs.Objects.{AreInKeyOrder}
use Rattle.object_state.specs.State.{State, IsNext}
use Rattle.object_state.specs.declared.object.Change.{Change}
use Rattle.object_state.specs.declared.object.Object.{Object}
use Rattle.request_body.proofs.RequestLemmas.{given_once}
use Rattle.request_body.specs.Places.{Place, key_at, key_of}
use Rattle.request_target.specs.Laws.{AsksForOne}
use Rattle.request_target.specs.Targets.{Asked, releases, gates, groups, group, resources, everywhere, inside, object}
use Rattle.request_target.specs.Warnings.{warning}
use Rattle.serde_json.specs.Data.{Data}
use Rattle.plain_machine.proofs.OnceLemmas.{not_both, refused_once, same_about}
use Rattle.plain_machine.specs.Answers.{document, reply_to}
use Rattle.plain_machine.specs.Laws.{HasOneStep}
use Rattle.plain_machine.specs.Steps.{Decides, IsCreated, IsDocument, IsGranted, IsLeft, IsRead, IsReplaced, IsUpdated, IsWritten, Shows}
use Rattle.plain_machine.specs.declared.answer.Answer.{Answer}
use Rattle.plain_machine.specs.declared.machine.Machine.{Machine}

module _ (s : State) (order : AreInKeyOrder s.objects) where
  -- ---- what is read

  document_once : (m : Machine) (a : Asked) (t u : Data) → IsDocument m s a t → IsDocument m s a u → t ≡ u
  document_once m releases t u h k = h ∙ sym k
  document_once m gates t u h k = absurd h
  document_once m groups t u h k = h ∙ sym k
  document_once m (group name) t u h k = some_one (page_of_group m.view name) t u h k
  document_once m (resources g v) t u h k = some_one (resource_list_page m.view g v) t u h k
  document_once m (everywhere of) t u h k = (one_page of).list s.revision (listed of None s.objects) t u h k
  document_once m (inside of namespace) t u h k = (one_page of).list s.revision (listed of (Some namespace) s.objects) t u h k
  document_once m (object of namespace name) t u h k =
      let o : k.0 ≡ h.0 = one_object s.objects (key_at of namespace name) k.0 h.0 order k.1 h.1 in
      (one_page of).object (key_at of namespace name) h.0 t u h.2 (subst (λ (x : Object). IsShown of (key_at of namespace name) x u) o k.2)

  no_gates : (m : Machine) (a : Asked) (t : Data) → a ≡ gates → IsDocument m s a t → ⊥
  no_gates m a t is h = subst (λ (x : Asked). IsDocument m s x t) is h

  read_once : (m : Machine) (a : Asked) (x y : Answer) → IsRead m s a x → IsRead m s a y → x ≡ y
  read_once m a x y (inl h) (inl k) = h.1 ∙ sym k.1
  read_once m a x y (inl h) (inr k) = absurd (no_gates m a k.0 h.0 k.1)
  read_once m a x y (inr h) (inl k) = absurd (no_gates m a h.0 k.0 h.1)
  read_once m a x y (inr h) (inr k) = h.2 ∙ (ap (λ (d : Data). document 200 d) (document_once m a h.0 k.0 h.1 k.1) ∙ sym k.2)

  -- ---- what is written

  shows_once : (code : ℕ) (place : Place) (name : List ℕ) (made other : Object) (x y : Answer) → made ≡ other → Shows code place name made x → Shows code place name other y → x ≡ y
  shows_once code place name made other x y same h k =
      let e = (one_page place.of).object (key_of place name) made h.0 k.0 h.1 (subst (λ (o : Object). IsShown place.of (key_of place name) o k.0) (sym same) k.1) in
      h.2 ∙ (ap (λ (d : Data). document code d) e ∙ sym k.2)

  one_made : (a b : Object) (created revision : ℕ) → a.created ≡ created → b.created ≡ created → a.revision ≡ revision → b.revision ≡ revision → a.fields ≡ b.fields → a ≡ b
  one_made a b created revision c d r t f = λ i. record { created = (c ∙ sym d) i; revision = (r ∙ sym t) i; fields = f i }

  changed_same : (key : Key) (a b : Object) (c d : Option Change) → a ≡ b → c ≡ Some (record { key = key; object = Some a }) → d ≡ Some (record { key = key; object = Some b }) → c ≡ d
  changed_same key a b c d same h k = h ∙ (ap (λ (o : Object). Some (record { key = key; object = Some o })) same ∙ sym k)

  module _ (q : Request) (place : Place) (name : List ℕ) (x y : Answer) (c d : Option Change) where
    created_once : IsCreated s q place name x c → IsCreated s q place name y d → (x ≡ y) × (c ≡ d)
    created_once h k =
        let f = given_once s q place order name h.0.fields k.0.fields h.1 k.1 in
        let same = one_made h.0 k.0 (s.revision + 1) (s.revision + 1) h.2 k.2 h.3 k.3 f in
        (shows_once 201 place name h.0 k.0 x y same h.5 k.5, changed_same (key_of place name) h.0 k.0 c d same h.4 k.4)

    put_once : (old : Object) → (IsUpdated s q place name old x c ⊎ IsLeft s q place name old x c) → (IsUpdated s q place name old y d ⊎ IsLeft s q place name old y d) → (x ≡ y) × (c ≡ d)
    put_once old (inl h) (inl k) =
        let f = given_once s q place order name h.0.fields k.0.fields h.1 k.1 in
        let same = one_made h.0 k.0 old.created (s.revision + 1) h.3 k.3 h.4 k.4 f in
        (shows_once 200 place name h.0 k.0 x y same h.6 k.6, changed_same (key_of place name) h.0 k.0 c d same h.5 k.5)
    put_once old (inl h) (inr k) = absurd (h.2 (given_once s q place order name h.0.fields old.fields h.1 k.0))
    put_once old (inr h) (inl k) = absurd (k.2 (given_once s q place order name k.0.fields old.fields k.1 h.0))
    put_once old (inr h) (inr k) = (shows_once 200 place name old old x y refl h.2 k.2, h.1 ∙ sym k.1)

    replaced_once : IsReplaced s q place name x c → IsReplaced s q place name y d → (x ≡ y) × (c ≡ d)
    replaced_once h k =
        let o : k.0 ≡ h.0 = one_object s.objects (key_of place name) k.0 h.0 order k.1 h.1 in
        put_once h.0 h.2 (subst (λ (old : Object). IsUpdated s q place name old y d ⊎ IsLeft s q place name old y d) o k.2)

    written_once : (verb : Verb) → IsWritten s q verb place name x c → IsWritten s q verb place name y d → (x ≡ y) × (c ≡ d)
    written_once Post h k = created_once h k
    written_once Put h k = replaced_once h k
    written_once Delete h k = (h.1 ∙ sym k.1, h.0 ∙ sym k.0)
    written_once Get h k = absurd h
    written_once Patch h k = absurd h
    written_once Head h k = absurd h
    written_once Other h k = absurd h

  not_read : (q : Request) (place : Place) (name : List ℕ) (x : Answer) (c : Option Change) → q.verb ≡ Get → IsWritten s q q.verb place name x c → ⊥
  not_read q place name x c get h = subst (λ (v : Verb). IsWritten s q v place name x c) get h

  granted_once : (m : Machine) (q : Request) (a : Asked) (x y : Answer) (c d : Option Change) → IsGranted m s q a x c → IsGranted m s q a y d → (x ≡ y) × (c ≡ d)
  granted_once m q a x y c d (inl h) (inl k) = (read_once m a x y h.1 k.1, h.2 ∙ sym k.2)
  granted_once m q a x y c d (inl h) (inr k) = absurd (not_read q k.0 k.1 y d h.0 k.3)
  granted_once m q a x y c d (inr h) (inl k) = absurd (not_read q h.0 h.1 x c k.0 h.3)
  granted_once m q a x y c d (inr h) (inr k) =
      let same = same_about s order q a h.0 k.0 h.1 k.1 h.2 k.2 in
      written_once q h.0 h.1 x y c d q.verb h.3
      (subst (λ (n : List ℕ). IsWritten s q q.verb h.0 n y d) same.1 (subst (λ (r : Place). IsWritten s q q.verb r k.1 y d) same.0 k.3))

  -- ---- steps

  decides_once : (m : Machine) (q : Request) (asked : Option Asked) (x y : Answer) (c d : Option Change) → Decides m s q asked x c → Decides m s q asked y d → (x ≡ y) × (c ≡ d)
  decides_once m q asked x y c d (inl h) (inl k) = (refused_once s order q asked x y h.0 k.0, h.1 ∙ sym k.1)
  decides_once m q asked x y c d (inl h) (inr k) = absurd (not_both s order q asked x h.0 k.0)
  decides_once m q asked x y c d (inr h) (inl k) = absurd (not_both s order q asked y k.0 h.0)
  decides_once m q asked x y c d (inr h) (inr k) =
      let a : k.1.0 ≡ h.1.0 = some_one asked k.1.0 h.1.0 k.1.1 h.1.1 in
      granted_once m q h.1.0 x y c d h.1.2 (subst (λ (z : Asked). IsGranted m s q z y d) a k.1.2)

  next_once : (c : Option Change) (after later : State) → IsNext s c after → IsNext s c later → after ≡ later
  next_once None after later h k = h ∙ sym k
  next_once (Some change) after later h k = one_state s change after later h k

  pub one_step : (m : Machine) (q : Request) → AsksForOne m.view q.path → HasOneStep m s q
  one_step m q asks = λ reply other after later h k.
      let a : k.asked ≡ h.asked = asks k.asked h.asked k.asks h.asks in
      let same = decides_once m q h.asked h.answer k.answer h.change k.change h.decides (subst (λ (z : Option Asked). Decides m s q z k.answer k.change) a k.decides) in (
        h.told ∙ ((λ i. reply_to q (warning m.view (sym a i)) (same.0 i)) ∙ sym k.told),
        next_once h.change after later h.next (subst (λ (z : Option Change). IsNext s z later) (sym same.1) k.next),
      )
