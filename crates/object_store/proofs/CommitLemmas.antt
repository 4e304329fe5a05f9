-- What a stop in a commit leaves.
use Rattle.std.proofs.Common.{◌≡◌, inl, inr, ⊎_elim, ℕ, ◌+◌, List, [], ◌∷◌, ◌++◌, sym, subst, arith}
use Rattle.std.specs.Prelude.{Result, Ok, Err, IfOk}
use Rattle.disk.specs.declared.file.File.{File}
use Rattle.disk.specs.Images.{Pending, Images}
use Rattle.object_journal.specs.declared.entry.Entry.{Entry}
use Rattle.object_journal.specs.declared.appending.Journal.{Journal}
use Rattle.object_journal.specs.Journal.{MayFollow, revision_after}
use Rattle.object_journal.specs.Standing.{StandsOn, LeavesEither, LeavesAppend}
use Rattle.object_journal.proofs.EntryLaws.{revision_more}
use Rattle.object_store.specs.Records.{AreRecords}
use Rattle.object_store.specs.Stores.{StoreRecord, HasEntries, MayCommit, LeavesRecords}
use Rattle.object_store.proofs.NextLemmas.{records_changed, can_change}

pub ok_both : {T E : Type 0} (r : Result T E) (P Q R : T → Type 0) → ((x : T) → P x → Q x → R x) → IfOk r P → IfOk r Q → IfOk r R
ok_both (Ok x) P Q R f p q = f x p q
ok_both (Err e) P Q R f p q = tt

next_greatest : (base : ℕ) (entries : List Entry) (e : Entry) (revision : ℕ) → revision ≡ revision_after base entries → e.revision ≡ revision + 1 → e.revision ≡ revision_after base (entries ++ e ∷ [])
next_greatest base entries e revision is next = let more = revision_more base entries e in omega (arith, is, next, more)

leaves_records : (pending : File → Pending) (s : StoreRecord) (entries : List Entry) (e : Entry) (images : Images)
    → s.journal.revision ≡ revision_after s.journal.base entries → AreRecords entries s.items → MayCommit s entries e → LeavesEither pending s.journal.base entries e images → LeavesRecords pending s e images
leaves_records pending s entries e images revision are may l = record {
  file = ⊎_elim
      (λ before. inl (record { base = s.journal.base; entries = entries; means = inr (inr before); records = are; revision_is = revision }))
      (λ after. let new = can_change s.items e are.ordered in
      inr (
        new.0,
        new.1,
        record {
          base = s.journal.base;
          entries = entries ++ e ∷ [];
          means = inr (inr after);
          records = records_changed entries s.items e new.0 are new.1;
          revision_is = next_greatest s.journal.base entries e s.journal.revision revision may.next;
        },
      ))
      l.file;
  others = l.others;
}

pub stands_inside : (tells : Type 0) (held : Images) (pending : File → Pending) (s : StoreRecord) (j : Journal) (entries : List Entry) → j ≡ s.journal → HasEntries tells held pending s entries → StandsOn tells held pending j entries
stands_inside tells held pending s j entries is h = subst (λ (k : Journal). StandsOn tells held pending k entries) (sym is) h.stands

pub follows_inside : (s : StoreRecord) (j : Journal) (entries : List Entry) (f e : Entry) → j ≡ s.journal → f ≡ e → MayCommit s entries e → MayFollow j.base entries f
follows_inside s j entries f e is framed may = subst (λ (p : Journal × Entry). MayFollow p.0.base entries p.1) (λ i. (sym is i, sym framed i)) may.follows

pub leaves_commit : (tells : Type 0) (held : Images) (pending : File → Pending) (s : StoreRecord) (j : Journal) (entries : List Entry) (f e : Entry) (i : Images)
    → j ≡ s.journal → f ≡ e → HasEntries tells held pending s entries → MayCommit s entries e → LeavesAppend tells held pending j f i → LeavesRecords pending s e i
leaves_commit tells held pending s j entries f e i is framed h may w =
    let either = w entries (stands_inside tells held pending s j entries is h) (follows_inside s j entries f e is framed may) in
    leaves_records pending s entries e i h.stands.revision h.records may (subst (λ (p : Journal × Entry). LeavesEither pending p.0.base entries p.1 i) (λ k. (is k, framed k)) either)
