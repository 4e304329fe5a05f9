use Rattle.std.proofs.Common.{◌++◌, ◌∷◌, ◌∙◌, [], List, refl, sym, ap, subst, arith}
use Rattle.object_journal.specs.declared.entry.Entry.{Entry}
use Rattle.object_journal.specs.Journal.{HasLawfulTexts}
use Rattle.object_journal.specs.Standing.{chosen, appended, StandsOn}
use Rattle.object_journal.proofs.StopLemmas.{is_not_ok, writes_so}
use Rattle.object_store.specs.declared.item.Item.{Item}
use Rattle.object_store.specs.Records.{IsChanged}
use Rattle.object_store.specs.Stores.{StoreRecord}
use Rattle.object_store.proofs.NextLemmas.{records_changed, texts_changed}
use Rattle.object_store.proofs.CommitLemmas.{stands_inside, follows_inside, leaves_commit}
use Rattle.object_store.proofs.store.Store.commit.Goals as goal

pub returns-in_err-append-clause-writes : goal.returns-in_err-append-clause-writes
returns-in_err-append-clause-writes g c told =
    let d = g.D.Disk in
    let old = c.args.disk.now in
    let s = c.args.self.now in
    let (entries, h, may) = c.requires.may in
    let journal = ap (λ (x : StoreRecord). x.journal) c.self.view_is in
    writes_so d.clock d.may_leave d.held d.pending old c.append.new.disk _ _ _ _ (λ ok. absurd (is_not_ok _ c.from_residual.ensures.0 ok))
    (λ i w. leaves_commit d.tells (d.held old) (d.pending old) s c.self.inside.journal entries c.framed.result.now c.args.ready i journal c.framed.ensures h may w)
    (c.append.ensures.writes told)

pub returns-clause-writes : goal.returns-clause-writes
returns-clause-writes g c told =
    let d = g.D.Disk in
    let old = c.args.disk.now in
    let s = c.args.self.now in
    let (entries, h, may) = c.requires.may in
    let journal = ap (λ (x : StoreRecord). x.journal) c.self.view_is in
    writes_so d.clock d.may_leave d.held d.pending old c.append.new.disk _ _ _ _ (λ ok. refl)
    (λ i w. leaves_commit d.tells (d.held old) (d.pending old) s c.self.inside.journal entries c.framed.result.now c.args.ready i journal c.framed.ensures h may w)
    (c.in_ok-append.ensures.writes told)

pub invariant_of-self-2 : goal.invariant_of-self-2
invariant_of-self-2 g c =
    let (entries, h, may) = c.requires.may in
    record {
      ordered = c.change.ensures.ordered;
      texts = texts_changed c.self.inside.items.items c.into_entry-entry.result c.change.new.items.items c.self.invariant.texts (subst (λ (e : Entry). HasLawfulTexts e.key) (sym c.into_entry-entry.ensures) may.follows.texts) c.change.ensures;
      room = λ some. absurd (omega (arith, some));
    }

pub returns-clause-stands : goal.returns-clause-stands
returns-clause-stands g c entries h may =
    let d = g.D.Disk in
    let s = c.args.self.now in
    let journal = ap (λ (x : StoreRecord). x.journal) c.self.view_is in
    let items = ap (λ (x : StoreRecord). x.items) c.self.view_is in
    let stands = c.in_ok-append.ensures.stands entries (stands_inside d.tells (d.held c.args.disk.now) (d.pending c.args.disk.now) s c.self.inside.journal entries journal h) (follows_inside s c.self.inside.journal entries c.framed.result.now c.args.ready journal c.framed.ensures may) in
    let changed = subst (λ (p : List Item × Entry). IsChanged p.0 p.1 c.change.new.items.items) (λ i. (items i, c.into_entry-entry.ensures i)) c.change.ensures in
    record {
      stands = subst (λ (e : Entry). StandsOn d.tells (d.held c.append.new.disk) (d.pending c.append.new.disk) c.append.new.self (entries ++ e ∷ [])) c.framed.ensures stands;
      records = records_changed entries s.items c.args.ready c.change.new.items.items h.records changed;
    }

pub returns-clause-written : goal.returns-clause-written
returns-clause-written g c told =
    let journal = ap (λ (x : StoreRecord). x.journal) c.self.view_is in
    c.in_ok-append.ensures.written told ∙ (λ i. appended (g.D.Disk.held c.args.disk.now chosen) (journal i).end (c.framed.ensures i))
