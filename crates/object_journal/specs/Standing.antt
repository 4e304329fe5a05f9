-- A journal that stands on a disk, and what a stop during its calls may leave.
use Rattle.std.specs.Prelude.{◌≡◌, ◌≢◌, ◌⊎◌, ℕ, ◌+◌, ◌≤◌, ◌<◌, false, List, [], ◌∷◌, ◌++◌, length, Result, IsErrOf}
use Rattle.disk.specs.Counted.{counted}
use Rattle.disk.specs.declared.file.File.{File}
use Rattle.disk.specs.declared.file.File.TheVariants.{Left}
use Rattle.disk.specs.Images.{Pending, Images, IsImage, Each, IsStill, Within, OthersHold, OthersWithin, same_file, end_of_lengths, after_write, patched, resting}
use Rattle.disk.specs.Moments.{Moments}
use Rattle.object_journal.specs.declared.entry.Entry.{Entry}
use Rattle.object_journal.specs.declared.opening.OpenFault.{OpenFault}
use Rattle.object_journal.specs.declared.opening.OpenFault.TheVariants.{NotAStore, Disk}
use Rattle.object_journal.specs.declared.appending.Journal.{Journal}
use Rattle.object_journal.specs.Payload.{frame_bytes}
use Rattle.object_journal.specs.Frames.{closed_gate}
use Rattle.object_journal.specs.Journal.{AreLawful, IsGated, IsHeader, IsJournal, IsRefusal, MayFollow, last_revision, revision_after, open_gate, header_of, records_of}

-- the file of the journal
abbrev pub chosen : File
chosen = Left

-- The journal hasn't ended, and has these entries. Where the disk tells, nothing of the file is pending, and its bytes
-- are those entries, with the closed gate at the journal's end.
pub record StandsOn (tells : Type 0) (held : Images) (pending : File → Pending) (j : Journal) (entries : List Entry) : Type 0 where
  pub going : j.ended ≡ false
  pub base_fits : j.base ≤ last_revision
  pub lawful : AreLawful j.base entries
  pub revision : j.revision ≡ revision_after j.base entries
  pub end_is : j.end ≡ length (header_of j.base ++ records_of entries)
  pub short : j.end < end_of_lengths
  pub still : tells → IsStill held pending chosen
  pub gated : tells → IsGated (held chosen) j.base entries

-- the other files hold what they held, and no more of them is pending
pub record OthersStay (held_old held_new : Images) (pending_old pending_new : File → Pending) : Type 0 where
  pub held : OthersHold chosen held_old held_new
  pub pending : OthersWithin chosen pending_old pending_new

-- the images of the other files are among those of what was pending
abbrev pub OthersMayBe : (File → Pending) → Images → Type 0
OthersMayBe pending images = (f : File) → same_file f chosen ≡ false → IsImage (pending f) (images f)

-- a stop leaves of the still file what a write of n bytes may have torn
pub record LeavesWrite (held : Images) (pending : File → Pending) (at n : ℕ) (images : Images) : Type 0 where
  pub file : IsImage (after_write at n (resting (held chosen))) (images chosen)
  pub others : OthersMayBe pending images

-- How a call ends that writes to the journal's file: where it was good, the file is still again. At each of its moments
-- a stop leaves these images. The other files stay.
pub record Writes {D : Type 0} (clock : D → ℕ) (may_leave : D → ℕ → Images → Type 0) (held : D → Images)
    (pending : D → File → Pending) (old new : D) (good : Type 0) (Left : Images → Type 0) : Type 0 where
  pub still : good → IsStill (held new) (pending new) chosen
  pub time : Moments clock may_leave old new (λ _. Left)
  pub others : OthersStay (held old) (held new) (pending old) (pending new)

-- ---- an append

-- the file once the record of an entry stands behind the closed gate at the place, and that gate is opened
abbrev pub appended : List ℕ → ℕ → Entry → List ℕ
appended bytes place new = patched (patched bytes (place + 1) (frame_bytes new ++ closed_gate ∷ [])) place (open_gate ∷ [])

-- the bytes are these entries, with the closed gate at the place
pub record IsGatedAt (bytes : List ℕ) (base : ℕ) (entries : List Entry) (place : ℕ) : Type 0 where
  pub gated : IsGated bytes base entries
  pub place_is : place ≡ length (header_of base ++ records_of entries)

-- behind the closed gate at the place stand the record of one more entry and a closed gate
pub record IsReadyAt (bytes : List ℕ) (base : ℕ) (entries : List Entry) (new : Entry) (place : ℕ) : Type 0 where
  pub gate : ℕ
  pub behind : List ℕ
  pub parts : bytes ≡ (header_of base ++ records_of entries) ++ gate ∷ (frame_bytes new ++ closed_gate ∷ behind)
  pub base_fits : base ≤ last_revision
  pub lawful : AreLawful base entries
  pub closed : gate ≢ open_gate
  pub place_is : place ≡ length (header_of base ++ records_of entries)

-- a stop leaves the entries
pub record LeavesEntries (pending : File → Pending) (base : ℕ) (entries : List Entry) (images : Images) : Type 0 where
  pub file : IsGated (images chosen) base entries
  pub others : OthersMayBe pending images

-- a stop leaves the entries, or these and the new one
pub record LeavesEither (pending : File → Pending) (base : ℕ) (entries : List Entry) (new : Entry) (images : Images) : Type 0 where
  pub file : IsGated (images chosen) base entries ⊎ IsGated (images chosen) base (entries ++ new ∷ [])
  pub others : OthersMayBe pending images

-- a stop leaves the entries that the journal stands with, or these and the new one
abbrev pub LeavesAppend : Type 0 → Images → (File → Pending) → Journal → Entry → Images → Type 0
LeavesAppend tells held pending j new images = (entries : List Entry) → StandsOn tells held pending j entries
    → MayFollow j.base entries new → LeavesEither pending j.base entries new images

-- ---- an opening

-- The second bytes mean what the first do. Where these break the grammar, they are the same.
pub record MeansSame (old new : List ℕ) : Type 0 where
  pub means : (base : ℕ) (entries : List Entry) → IsJournal old base entries → IsJournal new base entries
  pub refused : (place : ℕ) → IsRefusal old place → new ≡ old

-- a fresh file has a header of base 0 and a closed gate now, one with a single gate has it closed, and any other is as
-- it was
pub record IsMended (old : List ℕ) (base : ℕ) (new : List ℕ) : Type 0 where
  pub short : length old ≤ 17 → new ≡ header_of base ++ closed_gate ∷ []
  pub long : 17 < length old → new ≡ old

-- a stop leaves the meaning of what the file held, and a file that needs no mending as it is
pub record LeavesMeaning (held : Images) (pending : File → Pending) (images : Images) : Type 0 where
  pub file : MeansSame (held chosen) (images chosen)
  pub long : 17 < length (held chosen) → images chosen ≡ held chosen
  pub others : OthersMayBe pending images

-- The first sync failed, and nothing came after it: its moment is the only one of the call.
pub record IsUnsynced {D : Type 0} (clock : D → ℕ) (may_leave : D → ℕ → Images → Type 0) (held : D → Images)
    (pending : D → File → Pending) (old new : D) : Type 0 where
  pub once : clock new ≡ counted (clock old)
  pub same : held new ≡ held old
  pub within : Within (pending new chosen) (pending old chosen)
  pub time : Moments clock may_leave old new (λ _. Each (pending old))

-- The first sync was good. Its moment is the first of the call, and from it on a stop leaves what the file held, or
-- what means the same.
pub record IsSynced {D : Type 0} (clock : D → ℕ) (may_leave : D → ℕ → Images → Type 0) (held : D → Images)
    (pending : D → File → Pending) (old new : D) : Type 0 where
  pub begun : clock old < clock new
  pub time : Moments clock may_leave old new (λ _. LeavesMeaning (held old) (pending old))

-- How an opening ends on a disk that tells. Bytes that break the grammar are refused at their place, and stay. The file
-- is still, unless the disk failed. Where it was still before, each moment of the call leaves its meaning.
pub record Opens {D T : Type 0} (clock : D → ℕ) (may_leave : D → ℕ → Images → Type 0) (held : D → Images)
    (pending : D → File → Pending) (old new : D) (result : Result T OpenFault) : Type 0 where
  pub refused : (file : File) (at : ℕ) → IsErrOf result (NotAStore file at)
      → (file ≡ chosen) × IsRefusal (held old chosen) at × (held new ≡ held old)
  pub still : ¬ IsErrOf result Disk → IsStill (held new) (pending new) chosen
  pub time : (IsErrOf result Disk × IsUnsynced clock may_leave held pending old new) ⊎ IsSynced clock may_leave held pending old new
  pub rested : IsStill (held old) (pending old) chosen → Moments clock may_leave old new (λ _. LeavesMeaning (held old) (pending old))
  pub others : OthersStay (held old) (held new) (pending old) (pending new)

-- a header of base 0 alone, or a header and one gate
abbrev pub IsHeaded : List ℕ → ℕ → Type 0
IsHeaded bytes base = ((bytes ≡ header_of 0) × (base ≡ 0)) ⊎ IsHeader bytes base

-- a stop leaves a file of no records, with this base
pub record LeavesNone (pending : File → Pending) (base : ℕ) (images : Images) : Type 0 where
  pub file : IsJournal (images chosen) base []
  pub others : OthersMayBe pending images
