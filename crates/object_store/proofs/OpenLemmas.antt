-- What an opening recovers.
use Rattle.std.proofs.Common.{◌≡◌, ◌⊎◌, inl, inr, ⊎_elim, ℕ, List, subst, sym, ◌∙◌}
use Rattle.std.specs.Prelude.{Result, IsErrOf}
use Rattle.disk.specs.declared.file.File.{File}
use Rattle.disk.specs.Images.{Pending, Images}
use Rattle.disk.proofs.ImageLemmas.{weaker}
use Rattle.object_journal.specs.declared.opening.OpenFault.{OpenFault}
use Rattle.object_journal.specs.declared.opening.OpenFault.TheVariants.{NotAStore, Disk, Memory}
use Rattle.object_journal.specs.declared.entry.Entry.{Entry}
use Rattle.object_journal.specs.Journal.{IsJournal, revision_after}
use Rattle.object_journal.specs.Standing.{chosen, MeansSame, LeavesMeaning, Opens}
use Rattle.object_store.specs.declared.item.Item.{Item}
use Rattle.object_store.specs.Records.{AreRecords, RecoversTo}
use Rattle.object_store.specs.Stores.{KeepsRecords, MeanOne, OpensStore}
use Rattle.object_store.proofs.NextLemmas.{one_records}

pub keeps : (old new : List ℕ) → MeansSame old new → KeepsRecords old new
keeps old new same items revision r = record { base = r.base; entries = r.entries; means = same.means r.base r.entries r.means; records = r.records; revision_is = r.revision_is }

-- an opening of the store, by that of its journal
pub opens_store : {D S T : Type 0} (clock : D → ℕ) (may_leave : D → ℕ → Images → Type 0) (held : D → Images) (pending : D → File → Pending) (old new : D) (r : Result S OpenFault) (q : Result T OpenFault)
    → ((file : File) (at : ℕ) → IsErrOf q (NotAStore file at) → IsErrOf r (NotAStore file at)) → (IsErrOf r Disk → IsErrOf q Disk)
    → (IsErrOf q Memory → (held new ≡ held old) ⊎ MeanOne (held old chosen) (held new chosen))
    → Opens clock may_leave held pending old new r → OpensStore clock may_leave held pending old new q
opens_store clock may_leave held pending old new r q refused failed memory o = record {
  journal = record {
    refused = λ file at is. o.refused file at (refused file at is);
    still = λ good. o.still (λ bad. good (failed bad));
    time = ⊎_elim (λ unsynced. inl (failed unsynced.0, unsynced.1)) (λ synced. inr synced) o.time;
    rested = o.rested;
    others = o.others;
  };
  records = ⊎_elim (λ unsynced. inl unsynced.1) (λ synced. inr (weaker clock may_leave old new (λ _. LeavesMeaning (held old) (pending old)) _ (λ t i above le l. keeps (held old chosen) (i chosen) l.file) synced.time)) o.time;
  memory = memory;
}

-- where bytes have one reading, they give one list
pub one_given : (bytes : List ℕ) (xs ys : List Item) (n m : ℕ)
    → ((a b : ℕ) (es fs : List Entry) → IsJournal bytes a es → IsJournal bytes b fs → a ≡ b)
    → ((a b : ℕ) (es fs : List Entry) → IsJournal bytes a es → IsJournal bytes b fs → es ≡ fs)
    → RecoversTo bytes xs n → RecoversTo bytes ys m → (xs ≡ ys) × (n ≡ m)
one_given bytes xs ys n m one_base one_list p q =
    let base = one_base p.base q.base p.entries q.entries p.means q.means in
    let entries = one_list p.base q.base p.entries q.entries p.means q.means in (
      one_records q.entries xs ys (subst (λ (es : List Entry). AreRecords es xs) entries p.records) q.records,
      p.revision_is ∙ (λ i. revision_after (base i) (entries i)) ∙ sym q.revision_is,
    )
