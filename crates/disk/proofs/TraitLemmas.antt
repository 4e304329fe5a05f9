-- Each clause of the trait, for a disk in memory, from what its call is.
use Rattle.std.proofs.Common.{◌≡◌, ◌⊎◌, ◌↔◌, inl, inr, ⊎_elim, ℕ, ◌+◌, ◌-◌, ◌^◌, ◌≤◌, ◌<◌, Bool, true, false, if◌then◌else◌, List, length, take, Result, Ok, Err, OnOk, OnErr, refl, sym, ◌∙◌, ap, subst, arith}
use Rattle.disk.specs.Counted.{counted}
use Rattle.disk.specs.declared.failed.Failed.{Failed}
use Rattle.disk.specs.declared.file.File.{File}
use Rattle.disk.specs.declared.log.Change.{Change}
use Rattle.disk.specs.declared.log.Change.TheVariants.{Wrote, WriteFailed, Cut, CutFailed, Synced}
use Rattle.disk.specs.Images.{Pending, Within, IsImage, Images, Each, IsStill, resting, end_of_lengths, after_write, after_cut, same_file, OthersWithin, patched}
use Rattle.disk.specs.ImageLaws.{within_image, within_write, within_cut, resting_image}
use Rattle.disk.proofs.ImageLemmas.{within_refl, still_image}
use Rattle.disk.specs.Moments.{Elapses}
use Rattle.disk.specs.MemDisk.{State, resting_state, step, MemRecord, state_at, mem_held, mem_pending, mem_may_leave, InPast, KeepsHeld, IsListed, called, ticked, blamed, hungry, noted, HasFailed, IsWriteCall, IsCutCall, IsSyncCall}
use Rattle.disk.specs.MemLaws.{replay_good, mem_held_now}
use Rattle.disk.specs.Slots.{file_of}
use Rattle.disk.specs.Stops.{IsPicked}
use Rattle.disk.proofs.MemLemmas.{step_keeps, wrote_there, replay_spans, picked_image}
use Rattle.disk.proofs.CallLemmas.{made, Leaves, idle_held, idle_pending, idle_elapses, idle_leaves, one_more, state_new, noted_elapses, held_here, pending_here, noted_leaves}

-- a call that failed, where its failed change is recorded

module _ (old new : MemRecord) (past : InPast old.clock old.log) (file : File) (TooFar : Type 0) (bad : Change) (keeps : KeepsHeld bad) where
  kept_if : (b : Bool) (y : State) → (if b then step bad y else y).held ≡ y.held
  kept_if true y = step_keeps bad y keeps
  kept_if false y = refl

  noted_kept : (x s n : ℕ) → mem_held (one_more old past x s n file bad) ≡ mem_held old
  noted_kept x s n j f = (ap (λ (y : State). y.held) (state_new old past x s n file bad f) ∙ kept_if (same_file f file) (state_at old old.clock f)) j

  pub failed_held : HasFailed old new TooFar (λ d. noted d file bad) → mem_held new ≡ mem_held old
  failed_held failed = ⊎_elim
      (λ (end : (old.clock ≡ 2 ^ 64 - 1) × (new ≡ blamed (called old))). ap mem_held end.1)
      (λ (more : (new ≡ hungry (ticked (called old))) ⊎ ((IsListed old ⊎ TooFar) × (new ≡ blamed (noted (ticked (called old)) file bad)))). ⊎_elim
      (λ (is : new ≡ hungry (ticked (called old))). ap mem_held is ∙ idle_held old past (old.clock + 1) (counted old.faults) (counted old.starved) (counted old.calls) (omega arith))
      (λ (is : (IsListed old ⊎ TooFar) × (new ≡ blamed (noted (ticked (called old)) file bad))). ap mem_held is.1 ∙ noted_kept (counted old.faults) old.starved (counted old.calls))
      more)
      failed

  pub failed_leaves : (after : Pending → Pending) → ((p : Pending) → Within p (after p)) → (step bad (state_at old old.clock file)).pending ≡ after (mem_pending old file) → HasFailed old new TooFar (λ d. noted d file bad) → Leaves old new file after
  failed_leaves after grows agrees failed = ⊎_elim
      (λ (end : (old.clock ≡ 2 ^ 64 - 1) × (new ≡ blamed (called old))). subst (λ y. Leaves old y file after) (sym end.1) (idle_leaves old past old.clock (counted old.faults) old.starved (counted old.calls) (omega arith) file after grows))
      (λ (more : (new ≡ hungry (ticked (called old))) ⊎ ((IsListed old ⊎ TooFar) × (new ≡ blamed (noted (ticked (called old)) file bad)))). ⊎_elim
      (λ (is : new ≡ hungry (ticked (called old))). subst (λ y. Leaves old y file after) (sym is) (idle_leaves old past (old.clock + 1) (counted old.faults) (counted old.starved) (counted old.calls) (omega arith) file after grows))
      (λ (is : (IsListed old ⊎ TooFar) × (new ≡ blamed (noted (ticked (called old)) file bad))). subst (λ y. Leaves old y file after) (sym is.1) (noted_leaves old past (counted old.faults) old.starved (counted old.calls) file bad after agrees))
      more)
      failed

-- writes

false_true : false ≡ true → ⊥
false_true h = cc

module _ (old new : MemRecord) (past : InPast old.clock old.log) (file : File) (at : ℕ) (bytes : List ℕ) (le : at ≤ length (mem_held old file)) where
  write_fits : at + length bytes < end_of_lengths → step (Wrote at bytes) (state_at old old.clock file) ≡ record { held = patched (mem_held old file) at bytes; pending = after_write at (length bytes) (mem_pending old file) }
  write_fits short = wrote_there at bytes (state_at old old.clock file) le short

  pub write_leaves : (result : Result Unit Failed) → IsWriteCall old new file at bytes result → OnOk result (at + length bytes < end_of_lengths) → Leaves old new file (after_write at (length bytes))
  write_leaves (Ok u) call short = subst (λ y. Leaves old y file (after_write at (length bytes))) (sym call.ok)
      (noted_leaves old past old.faults old.starved (counted old.calls) file (Wrote at bytes) (after_write at (length bytes)) (ap (λ (y : State). y.pending) (write_fits short)))
  write_leaves (Err e) call short = failed_leaves old new past file (end_of_lengths ≤ at + length bytes) (WriteFailed at (length bytes)) tt (after_write at (length bytes)) (within_write at (length bytes)) refl call.err

  pub write_written : (result : Result Unit Failed) → IsWriteCall old new file at bytes result → OnOk result (at + length bytes < end_of_lengths) → OnOk result (mem_held new file ≡ patched (mem_held old file) at bytes)
  write_written (Ok u) call short = ap (λ y. mem_held y file) call.ok ∙ held_here old past old.faults old.starved (counted old.calls) file (Wrote at bytes) ∙ ap (λ (y : State). y.held) (write_fits short)
  write_written (Err e) call short = tt

  pub write_failed : (result : Result Unit Failed) → IsWriteCall old new file at bytes result → OnErr result (IsImage (after_write at (length bytes) (resting (mem_held old file))) (mem_held new file))
  write_failed (Ok u) call = tt
  write_failed (Err e) call = subst (λ (h : Images). IsImage (after_write at (length bytes) (resting (mem_held old file))) (h file)) (sym (failed_held old new past file (end_of_lengths ≤ at + length bytes) (WriteFailed at (length bytes)) tt call.err))
      (within_image (resting (mem_held old file)) (after_write at (length bytes) (resting (mem_held old file))) (mem_held old file) (within_write at (length bytes) (resting (mem_held old file))) (resting_image (mem_held old file)))

  pub write_too_far : (result : Result Unit Failed) → IsWriteCall old new file at bytes result → end_of_lengths ≤ at + length bytes → mem_held new file ≡ mem_held old file
  write_too_far (Ok u) call far = absurd (false_true (call.refused (inr far)))
  write_too_far (Err e) call far = ap (λ (h : Images). h file) (failed_held old new past file (end_of_lengths ≤ at + length bytes) (WriteFailed at (length bytes)) tt call.err)

  pub write_kept : (result : Result Unit Failed) → IsWriteCall old new file at bytes result → OnErr result (mem_held new ≡ mem_held old)
  write_kept (Ok u) call = tt
  write_kept (Err e) call = failed_held old new past file (end_of_lengths ≤ at + length bytes) (WriteFailed at (length bytes)) tt call.err

-- cuts

module _ (old new : MemRecord) (past : InPast old.clock old.log) (file : File) (to : ℕ) where
  pub cut_leaves : (result : Result Unit Failed) → IsCutCall old new file to result → Leaves old new file (after_cut to)
  cut_leaves (Ok u) call = subst (λ y. Leaves old y file (after_cut to)) (sym call.ok) (noted_leaves old past old.faults old.starved (counted old.calls) file (Cut to) (after_cut to) refl)
  cut_leaves (Err e) call = failed_leaves old new past file ⊥ (CutFailed to) tt (after_cut to) (within_cut to) refl call.err

  pub cut_shortened : (result : Result Unit Failed) → IsCutCall old new file to result → OnOk result (mem_held new file ≡ take to (mem_held old file))
  cut_shortened (Ok u) call = ap (λ y. mem_held y file) call.ok ∙ held_here old past old.faults old.starved (counted old.calls) file (Cut to)
  cut_shortened (Err e) call = tt

  pub cut_failed : (result : Result Unit Failed) → IsCutCall old new file to result → OnErr result ((mem_held new file ≡ mem_held old file) ⊎ (mem_held new file ≡ take to (mem_held old file)))
  cut_failed (Ok u) call = tt
  cut_failed (Err e) call = inl (ap (λ (h : Images). h file) (failed_held old new past file ⊥ (CutFailed to) tt call.err))

  pub cut_kept : (result : Result Unit Failed) → IsCutCall old new file to result → OnErr result (mem_held new ≡ mem_held old)
  cut_kept (Ok u) call = tt
  cut_kept (Err e) call = failed_held old new past file ⊥ (CutFailed to) tt call.err

-- syncs

pub record SyncLeaves (old new : MemRecord) (file : File) : Type 0 where
  pub held : mem_held new ≡ mem_held old
  pub others : OthersWithin file (mem_pending old) (mem_pending new)
  pub time : Elapses old.clock new.clock (mem_may_leave old) (mem_may_leave new) (λ _. Each (mem_pending old))

module _ (old new : MemRecord) (past : InPast old.clock old.log) (file : File) where
  idle_sync : (c x s n : ℕ) → old.clock ≤ c → SyncLeaves old (made old old.log c x s n) file
  idle_sync c x s n le = record {
    held = idle_held old past c x s n le;
    others = λ f other. subst (λ (p : File → Pending). Within (p f) (mem_pending old f)) (sym (idle_pending old past c x s n le)) (within_refl (mem_pending old f));
    time = idle_elapses old past c x s n le (Each (mem_pending old)) (λ i h. h);
  }

  synced_held : (b : Bool) (y : State) → (if b then step Synced y else y).held ≡ y.held
  synced_held true y = refl
  synced_held false y = refl

  synced_other : (b : Bool) (y : State) → b ≡ false → Within (if b then step Synced y else y).pending y.pending
  synced_other b y other = subst (λ z. Within (if z then step Synced y else y).pending y.pending) (sym other) (within_refl y.pending)

  synced_image : (b : Bool) (y : State) (c : List ℕ) → IsImage y.pending y.held → IsImage (if b then step Synced y else y).pending c → IsImage y.pending c
  synced_image true y c now image = subst (IsImage y.pending) (sym (still_image y.held c image)) now
  synced_image false y c now image = image

  abbrev synced_disk : MemRecord
  synced_disk = one_more old past old.faults old.starved (counted old.calls) file Synced

  noted_sync : SyncLeaves old synced_disk file
  noted_sync = record {
    held = λ j f. (ap (λ (y : State). y.held) (state_new old past old.faults old.starved (counted old.calls) file Synced f) ∙ synced_held (same_file f file) (state_at old old.clock f)) j;
    others = λ f other. subst (λ (y : State). Within y.pending (mem_pending old f)) (sym (state_new old past old.faults old.starved (counted old.calls) file Synced f)) (synced_other (same_file f file) (state_at old old.clock f) other);
    time = noted_elapses old past old.faults old.starved (counted old.calls) file Synced (Each (mem_pending old)) (λ i h f. synced_image (same_file f file) (state_at old old.clock f) (i f) (mem_held_now old f) (h f));
  }

  -- a disk that is as it was but for the clock and the counts
  failed_sync : (P : MemRecord → Type 0) → ((c x s n : ℕ) → old.clock ≤ c → P (made old old.log c x s n)) → HasFailed old new ⊥ (λ d. d) → P new
  failed_sync P idle failed = ⊎_elim
      (λ (end : (old.clock ≡ 2 ^ 64 - 1) × (new ≡ blamed (called old))). subst P (sym end.1) (idle old.clock (counted old.faults) old.starved (counted old.calls) (omega arith)))
      (λ (more : (new ≡ hungry (ticked (called old))) ⊎ ((IsListed old ⊎ ⊥) × (new ≡ blamed (ticked (called old))))). ⊎_elim
      (λ (is : new ≡ hungry (ticked (called old))). subst P (sym is) (idle (old.clock + 1) (counted old.faults) (counted old.starved) (counted old.calls) (omega arith)))
      (λ (is : (IsListed old ⊎ ⊥) × (new ≡ blamed (ticked (called old)))). subst P (sym is.1) (idle (old.clock + 1) (counted old.faults) old.starved (counted old.calls) (omega arith)))
      more)
      failed

  pub sync_leaves : (result : Result Unit Failed) → IsSyncCall old new file result → SyncLeaves old new file
  sync_leaves (Ok u) call = subst (λ y. SyncLeaves old y file) (sym call.ok) noted_sync
  sync_leaves (Err e) call = failed_sync (λ y. SyncLeaves old y file) idle_sync call.err

  pub sync_still : (result : Result Unit Failed) → IsSyncCall old new file result → OnOk result (IsStill (mem_held new) (mem_pending new) file)
  sync_still (Ok u) call = subst (λ y. IsStill (mem_held y) (mem_pending y) file) (sym call.ok)
      (subst (λ p. Within p (resting (mem_held synced_disk file))) (sym (pending_here old past old.faults old.starved (counted old.calls) file Synced))
      (subst (λ (l : List ℕ). Within (resting (mem_held old file)) (resting l)) (sym (held_here old past old.faults old.starved (counted old.calls) file Synced)) (within_refl (resting (mem_held old file)))))
  sync_still (Err e) call = tt

  pub sync_failed : (result : Result Unit Failed) → IsSyncCall old new file result → OnErr result (Within (mem_pending new file) (mem_pending old file))
  sync_failed (Ok u) call = tt
  sync_failed (Err e) call = failed_sync (λ y. Within (mem_pending y file) (mem_pending old file))
      (λ c x s n le. subst (λ (p : File → Pending). Within (p file) (mem_pending old file)) (sym (idle_pending old past c x s n le)) (within_refl (mem_pending old file))) call.err

-- the clock alone

pub record PassLeaves (old new : MemRecord) : Type 0 where
  pub held : mem_held new ≡ mem_held old
  pub pending : mem_pending new ≡ mem_pending old
  pub time : Elapses old.clock new.clock (mem_may_leave old) (mem_may_leave new) (λ _. mem_may_leave old old.clock)
  pub images : (i : Images) → mem_may_leave new new.clock i ↔ mem_may_leave old old.clock i

pub pass_leaves : (d o : MemRecord) → d ≡ o → InPast d.clock d.log → (c : ℕ) → d.clock ≤ c → PassLeaves o (record d { clock = c })
pass_leaves d o v past c le = subst (λ y. PassLeaves y (record d { clock = c })) v (record {
  held = idle_held d past c d.faults d.starved d.calls le;
  pending = idle_pending d past c d.faults d.starved d.calls le;
  time = idle_elapses d past c d.faults d.starved d.calls le (mem_may_leave d d.clock) (λ i h. h);
  images = λ i. let same = idle_pending d past c d.faults d.starved d.calls le in
      (subst (λ (p : File → Pending). Each p i) same, subst (λ (p : File → Pending). Each p i) (sym same));
})

-- stops

pub picked_images : (d : MemRecord) (t pick : ℕ) (images : Images) → ((f : File) → IsPicked pick (state_at d t f) (images f)) → mem_may_leave d t images
picked_images d t pick images picked f = picked_image pick (state_at d t f) (images f)
    (replay_good t f d.log (resting_state (file_of d.first f)) (resting_image (file_of d.first f))) (replay_spans t f d.log (file_of d.first f)) (picked f)
