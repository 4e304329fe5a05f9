-- What an opening of the store leaves, in the words of a session over it.
use Rattle.std.proofs.Common.{◌≡◌, ◌≢◌, inl, inr, ⊎_elim, ℕ, ◌+◌, ◌≤◌, ◌<◌, List, [], ◌∷◌, ◌++◌, length, false, Contains, refl, sym, ◌∙◌, ap, subst, arith}
use Rattle.std.proofs.lemmas.Bool.{cases_lt}
use Rattle.std.proofs.lemmas.List.{length-append}
use Rattle.std.specs.Prelude.{Result, Ok, Err}
use Rattle.basis.specs.First.{IsFirst}
use Rattle.disk.proofs.ImageLemmas.{weaker}
use Rattle.disk.specs.Beside.{Beside}
use Rattle.disk.specs.Images.{Images, IsStill, OthersHold, Pending}
use Rattle.disk.specs.Moments.{Moments}
use Rattle.disk.specs.declared.file.File.{File}
use Rattle.disk.specs.declared.file.File.TheVariants as file
use Rattle.key_order.proofs.OrderLemmas.{head_there}
use Rattle.object_journal.specs.Journal.{IsJournal, Leaves, open_gate, records_of}
use Rattle.object_journal.specs.Payload.{frame_bytes}
use Rattle.object_journal.specs.Standing.{IsMended, IsSynced, LeavesMeaning, MeansSame, chosen}
use Rattle.object_journal.specs.declared.entry.Entry.{Entry}
use Rattle.object_journal.specs.declared.opening.OpenFault.{OpenFault}
use Rattle.object_journal.specs.declared.opening.OpenFault.TheVariants.{Disk}
use Rattle.object_store.specs.Records.{RecoversTo, put_of}
use Rattle.object_store.specs.Stores.{KeepsRecords, OpensStore}
use Rattle.object_store.specs.declared.item.Item.{Item}
use Rattle.plain_machine.specs.declared.machine.Machine.{Machine}
use Rattle.release_view.specs.Views.{Viewed}
use Rattle.store_session.specs.Ends.{IsStoreEnd}
use Rattle.store_session.specs.Opened.{HoldSame, IsOpening}
use Rattle.store_session.specs.Steps.{IsStartEnd}
use Rattle.store_session.specs.declared.fault.StoreFault.{StoreFault}
use Rattle.store_session.specs.declared.fault.StoreFault.TheVariants as fault

keeps_records : (old new : List ℕ) → MeansSame old new → KeepsRecords old new
keeps_records old new h items revision r = record {
  base = r.base;
  entries = r.entries;
  means = h.means r.base r.entries r.means;
  records = r.records;
  revision_is = r.revision_is;
}

module _ {W : Type 0} (clock : W → ℕ) (may_leave : W → ℕ → Images → Type 0) (held : W → Images) (pending : W → File → Pending) (old new : W) where
  pub moments_keep : Moments clock may_leave old new (λ _. LeavesMeaning (held old) (pending old)) → Moments clock may_leave old new (λ _ images. KeepsRecords (held old chosen) (images chosen))
  moments_keep = weaker clock may_leave old new _ _ (λ t images above to left. keeps_records (held old chosen) (images chosen) left.file)

  pub opening_of : {T : Type 0} (beside : W → Beside) (result : Result T OpenFault) → beside new ≡ beside old → OpensStore clock may_leave held pending old new result → IsOpening clock may_leave held pending beside old new
  opening_of beside result same h = record {
    same = same;
    records = h.records;
    rested = λ still. moments_keep (h.journal.rested still);
  }

pub hold_same : (old new : Images) → OthersHold chosen old new → new chosen ≡ old chosen → HoldSame old new
hold_same old new others same file.Choice = others file.Choice refl
hold_same old new others same file.Left = same
hold_same old new others same file.Right = others file.Right refl

pub all_same : (old new : Images) → new ≡ old → HoldSame old new
all_same old new same = λ f. ap (λ (h : Images). h f) same

-- ---- a file of records is a long one

no_entries : (b : List ℕ) (base : ℕ) (es : List Entry) → length b ≤ 17 → IsJournal b base es → es ≡ []
no_entries b base es short (inl j) = j.2
no_entries b base es short (inr (inl j)) = j.1
no_entries b base [] short (inr (inr j)) = refl
no_entries b base (e ∷ es) short (inr (inr j)) = absurd (omega (
  arith,
  short,
  ap length j.parts,
  length-append (records_of (e ∷ es)) (j.gate ∷ j.behind),
  length-append (open_gate ∷ frame_bytes e) (records_of es),
))

no_leaving : (e : Entry) → ¬ Leaves [] e
no_leaving e l = absurd (omega (arith, ap length l.parts, length-append l.before (e ∷ l.behind)))

no_items : (bytes : List ℕ) (items : List Item) (revision : ℕ) → length bytes ≤ 17 → RecoversTo bytes items revision → items ≡ []
no_items bytes [] revision short r = refl
no_items bytes (i ∷ items) revision short r =
    let none = no_entries bytes r.base r.entries short r.means in
    let left = (r.records.exact i).0 (head_there i items) in
    absurd (no_leaving (put_of i) (subst (λ (es : List Entry). Leaves es (put_of i)) none left))

pub content_same : (old new : Images) (base : ℕ) (items : List Item) (revision : ℕ) → OthersHold chosen old new → IsMended (old chosen) base (new chosen) → RecoversTo (old chosen) items revision → items ≢ [] → HoldSame old new
content_same old new base items revision others mended recovered some = ⊎_elim
    (λ (long : 17 < length (old chosen)). hold_same old new others (mended.long long))
    (λ (short : length (old chosen) ≤ 17). absurd (some (no_items (old chosen) items revision short recovered)))
    (cases_lt 17 (length (old chosen)))

-- a start is refused by one of the records
some_items : {A : Type 0} (P Q : A → Type 0) (items : List A) (x : A) → IsFirst P Q items x → items ≢ []
some_items P Q items x first none = absurd (omega (arith, ap length (sym none ∙ first.whole), length-append first.before (x ∷ first.after)))

module _ {W : Type 0} (clock : W → ℕ) (may_leave : W → ℕ → Images → Type 0) (held : W → Images) (pending : W → File → Pending) (beside : W → Beside) (old new : W) where
  pub start_end : (machine : Machine) (back : Viewed) (items : List Item) (revision : ℕ) (stop : StoreFault) → RecoversTo (held old chosen) items revision → (items ≢ [] → HoldSame (held old) (held new))
      → IsOpening clock may_leave held pending beside old new → IsStartEnd back machine.view items stop → IsStoreEnd clock may_leave held pending beside machine back old new (Err stop)
  start_end machine back items revision (fault.Undecodable key version minor) recovered content opening unreadable = (
    record { items = items; revision = revision; recovered = recovered; unreadable = unreadable },
    content (some_items _ _ items unreadable.item unreadable.first),
    opening,
  )
  start_end machine back items revision fault.Memory recovered content opening unreadable = inl opening
  start_end machine back items revision (fault.NotAStore file at) recovered content opening unreadable = absurd unreadable
  start_end machine back items revision fault.Disk recovered content opening unreadable = absurd unreadable
  start_end machine back items revision fault.Front recovered content opening unreadable = absurd unreadable
  start_end machine back items revision fault.Spent recovered content opening unreadable = absurd unreadable

-- an opening that gave a store had its first sync
pub was_synced : {D T : Type 0} (clock : D → ℕ) (may_leave : D → ℕ → Images → Type 0) (held : D → Images) (pending : D → File → Pending) (old new : D) (x : T) → OpensStore clock may_leave held pending old new (Ok x)
    → IsSynced clock may_leave held pending old new
was_synced clock may_leave held pending old new x h = ⊎_elim
    (λ failed. absurd (let same : Ok x ≡ Err Disk = failed.0 in cc))
    (λ synced. synced)
    h.journal.time
