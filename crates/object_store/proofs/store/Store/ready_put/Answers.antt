use Rattle.std.proofs.Common.{◌≡◌, ℕ, List, length, ◌≤◌, sym, ap, subst, ◌∙◌}
use Rattle.std.proofs.lemmas.Bool.{false≢true}
use Rattle.std.proofs.lemmas.Result.{IfOk-weaker}
use Rattle.object_journal.specs.declared.entry.Entry.{Entry}
use Rattle.object_journal.specs.Payload.{longest_payload, payload_of}
use Rattle.object_store.specs.declared.item.Item.{Item}
use Rattle.object_store.specs.Stores.{StoreRecord, Recalls, IsFull, IsPutOf, MayCommit}
use Rattle.object_store.proofs.NextLemmas.{may_put}
use Rattle.object_store.proofs.CommitLemmas.{ok_both}
use Rattle.object_store.proofs.store.Store.ready_put.Goals as goal

put_seen : (items seen : List Item) (n revision : ℕ) (key : _) (body : List ℕ) (e : Entry) → items ≡ seen → n ≡ revision → IsPutOf items n key body e → IsPutOf seen revision key body e
put_seen items seen n revision key body e is at put = subst (λ (p : List Item × ℕ). IsPutOf p.0 p.1 key body e) (λ i. (is i, at i)) put

full_inside : (items seen : List Item) (n revision : ℕ) (key : _) → items ≡ seen → n ≡ revision → IsFull seen revision key → IsFull items n key
full_inside items seen n revision key is at full = subst (λ (p : List Item × ℕ). IsFull p.0 p.1 key) (λ i. (sym is i, sym at i)) full

pub returns-clause-ok : goal.returns-clause-ok
returns-clause-ok c =
    let s = c.args.self.now in
    let e = c.next_put-entry.result in
    let items = c.as_slice-2.ensures.value ∙ ap (λ (x : StoreRecord). x.items) c.self.view_is in
    let revision = c.revision-revision.ensures ∙ ap (λ (x : StoreRecord). x.journal.revision) c.self.view_is in
    let put = put_seen _ s.items _ s.journal.revision c.args.key c.args.body e items revision c.next_put-entry.ensures in
    IfOk-weaker c.make_ready.result (λ x. x ≡ e) (λ x. IsPutOf s.items s.journal.revision c.args.key c.args.body x) (λ x is. subst (IsPutOf s.items s.journal.revision c.args.key c.args.body) (sym is) put) c.make_ready.ensures.ok

pub returns-clause-may : goal.returns-clause-may
returns-clause-may c =
    let s = c.args.self.now in
    let e = c.next_put-entry.result in
    let items = c.as_slice-2.ensures.value ∙ ap (λ (x : StoreRecord). x.items) c.self.view_is in
    let first = c.as_slice.ensures.value ∙ ap (λ (x : StoreRecord). x.items) c.self.view_is in
    let revision = c.revision-revision.ensures ∙ ap (λ (x : StoreRecord). x.journal.revision) c.self.view_is in
    let put = put_seen _ s.items _ s.journal.revision c.args.key c.args.body e items revision c.next_put-entry.ensures in
    ok_both c.make_ready.result (λ x. x ≡ e) (λ _. length (payload_of e) ≤ longest_payload) (λ x. (entries : List Entry) → Recalls s entries → MayCommit s entries x)
    (λ x is within entries recalls. subst (MayCommit s entries) (sym is) (may_put s entries c.args.key c.args.body e recalls put c.know_texts.ensures
    (λ full. false≢true (sym c.if-is_full.false ∙ c.is_full.ensures.1 (full_inside _ s.items _ s.journal.revision c.args.key first revision full))) within))
    c.make_ready.ensures.ok c.make_ready.ensures.within

pub returns-clause-full : goal.returns-clause-full
returns-clause-full c =
    let s = c.args.self.now in
    let first = c.as_slice.ensures.value ∙ ap (λ (x : StoreRecord). x.items) c.self.view_is in
    let revision = c.revision-revision.ensures ∙ ap (λ (x : StoreRecord). x.journal.revision) c.self.view_is in (
      (λ is. absurd (c.make_ready.ensures.full is)),
      (λ full. absurd (false≢true (sym c.if-is_full.false ∙ c.is_full.ensures.1 (full_inside _ s.items _ s.journal.revision c.args.key first revision full)))),
    )
