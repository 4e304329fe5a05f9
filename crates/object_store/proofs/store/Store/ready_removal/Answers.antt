use Rattle.std.proofs.Common.{◌≡◌, ◌+◌, ◌<◌, ◌≤◌, List, length, refl, sym, ap, subst, ◌∙◌, arith}
use Rattle.std.proofs.lemmas.List.Elements.{All-contains}
use Rattle.object_journal.specs.declared.entry.Entry.{Entry}
use Rattle.object_journal.specs.declared.entry.Change.TheVariants.{Removal}
use Rattle.object_journal.specs.Payload.{longest_payload, payload_of}
use Rattle.object_journal.specs.Journal.{HasLawfulTexts, last_revision}
use Rattle.object_store.specs.Stores.{StoreRecord, HaveLawfulTexts, Recalls, MayCommit}
use Rattle.object_store.proofs.NextLemmas.{may_remove}
use Rattle.object_store.proofs.CommitLemmas.{ok_both}
use Rattle.object_store.proofs.store.Store.ready_removal.Goals as goal

pub returns-clause-may : goal.returns-clause-may
returns-clause-may c =
    let s = c.args.self.now in
    let h = c.requires.held in
    let revision : c.revision-revision.result ≡ s.journal.revision = c.revision-revision.ensures ∙ ap (λ (x : StoreRecord). x.journal.revision) c.self.view_is in
    let texts = subst (λ (x : StoreRecord). HaveLawfulTexts x.items) c.self.view_is c.self.invariant.texts in
    let text = subst HasLawfulTexts h.2 (All-contains (λ r. HasLawfulTexts r.key) s.items h.0 texts h.1) in
    let e : Entry = record { key = c.args.key; revision = c.revision-revision.result + 1; change = Removal } in
    let low : s.journal.revision < last_revision = omega (arith, c.if-revision-ge-LAST_REVISION.false, revision) in
    ok_both c.make_ready.result (λ x. x ≡ e) (λ _. length (payload_of e) ≤ longest_payload) (λ x. (entries : List Entry) → Recalls s entries → MayCommit s entries x)
    (λ x is within entries recalls. subst (MayCommit s entries) (sym is) (may_remove s entries c.args.key e recalls (record { key_is = refl; next = ap (λ n. n + 1) revision; removal = refl }) text h low within))
    c.make_ready.ensures.ok c.make_ready.ensures.within
