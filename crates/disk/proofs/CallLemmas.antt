-- A disk in memory keeps the clauses of the trait: what each call leaves, by its record.
use Rattle.std.proofs.Common.{◌≡◌, ℕ, ◌+◌, ◌≤◌, Bool, true, false, if◌then◌else◌, List, [], ◌∷◌, ◌++◌, refl, sym, ◌∙◌, ap, subst, arith}
use Rattle.disk.specs.declared.file.File.{File}
use Rattle.disk.specs.declared.log.Entry.{Entry}
use Rattle.disk.specs.declared.log.Change.{Change}
use Rattle.disk.specs.Images.{Pending, Within, IsImage, Images, Each, same_file, at_file, Becomes, OthersHold}
use Rattle.disk.specs.ImageLaws.{within_image}
use Rattle.disk.proofs.ImageLemmas.{within_refl, same_file_refl}
use Rattle.disk.specs.Moments.{Elapses}
use Rattle.disk.specs.Slots.{file_of}
use Rattle.disk.specs.MemDisk.{State, resting_state, step, replay, MemRecord, state_at, mem_held, mem_pending, mem_may_leave, InPast}
use Rattle.disk.proofs.MemLemmas.{replay_push, replay_past, one_at, one_after, entry_of, same_is}

-- a disk with this record and these counts
abbrev pub made : MemRecord → List Entry → ℕ → ℕ → ℕ → ℕ → MemRecord
made d log clock faults starved calls = record { first = d.first; log = log; clock = clock; faults = faults; starved = starved; calls = calls; fails = d.fails }

-- what a call leaves of which no more is known than that it may have been done
pub record Leaves (old new : MemRecord) (file : File) (after : Pending → Pending) : Type 0 where
  pub others : OthersHold file (mem_held old) (mem_held new)
  pub pending : Becomes file after (mem_pending old) (mem_pending new)
  pub time : Elapses old.clock new.clock (mem_may_leave old) (mem_may_leave new) (λ _. Each (at_file file after (mem_pending old)))

within_if : (b : Bool) (after : Pending → Pending) (p : Pending) → Within p (after p) → Within p (if b then after p else p)
within_if true after p grows = grows
within_if false after p grows = within_refl p

-- a call that isn't recorded

module _ (d : MemRecord) (past : InPast d.clock d.log) (c x s n : ℕ) (le : d.clock ≤ c) where
  idle_state : (f : File) → state_at (made d d.log c x s n) c f ≡ state_at d d.clock f
  idle_state f = replay_past d.clock c f d.log (resting_state (file_of d.first f)) past le

  pub idle_held : mem_held (made d d.log c x s n) ≡ mem_held d
  idle_held j f = (idle_state f j).held

  pub idle_pending : mem_pending (made d d.log c x s n) ≡ mem_pending d
  idle_pending j f = (idle_state f j).pending

  pub idle_elapses : (Added : Images → Type 0) → ((i : Images) → Each (mem_pending d) i → Added i) → Elapses d.clock c (mem_may_leave d) (mem_may_leave (made d d.log c x s n)) (λ _. Added)
  idle_elapses Added so = record {
    later = le;
    kept = λ t i _. (λ h. h, λ h. h);
    added = λ t i above _ now. so i (λ f. subst (λ (y : State). IsImage y.pending (i f)) (replay_past d.clock t f d.log (resting_state (file_of d.first f)) past (omega (arith, above))) (now f));
  }

  pub idle_leaves : (file : File) (after : Pending → Pending) → ((p : Pending) → Within p (after p)) → Leaves d (made d d.log c x s n) file after
  idle_leaves file after grows = record {
    others = λ f other. ap (λ (y : State). y.held) (idle_state f);
    pending = λ f. subst (λ (y : State). Within y.pending (at_file file after (mem_pending d) f)) (sym (idle_state f)) (within_if (same_file f file) after (mem_pending d f) (grows (mem_pending d f)));
    time = idle_elapses (Each (at_file file after (mem_pending d))) (λ i h f. within_image _ _ (i f) (within_if (same_file f file) after (mem_pending d f) (grows (mem_pending d f))) (h f));
  }

-- a call that is recorded

module _ (d : MemRecord) (past : InPast d.clock d.log) (x s n : ℕ) (file : File) (change : Change) where
  abbrev pub one_more : MemRecord
  one_more = made d (d.log ++ entry_of (d.clock + 1) file change ∷ []) (d.clock + 1) x s n

  abbrev pub changed : File → State
  changed f = if same_file f file then step change (state_at d d.clock f) else state_at d d.clock f

  pub state_new : (f : File) → state_at one_more (d.clock + 1) f ≡ changed f
  state_new f =
      let y = resting_state (file_of d.first f) in
      let e = entry_of (d.clock + 1) file change in
      replay_push (d.clock + 1) f d.log e y ∙ one_at (d.clock + 1) f e (replay (d.clock + 1) f d.log y) (omega arith)
      ∙ ap (λ z. if same_file f file then step change z else z) (replay_past d.clock (d.clock + 1) f d.log y past (omega arith))

  state_old : (t : ℕ) (f : File) → t ≤ d.clock → state_at one_more t f ≡ state_at d t f
  state_old t f le =
      let y = resting_state (file_of d.first f) in
      let e = entry_of (d.clock + 1) file change in
      replay_push t f d.log e y ∙ one_after t f e (replay t f d.log y) (omega (arith, le))

  pub noted_elapses : (Added : Images → Type 0) → ((i : Images) → Each (λ f. (changed f).pending) i → Added i) → Elapses d.clock (d.clock + 1) (mem_may_leave d) (mem_may_leave one_more) (λ _. Added)
  noted_elapses Added so = record {
    later = omega arith;
    kept = λ t i le. let same : (λ f. state_at one_more t f) ≡ (λ f. state_at d t f) = λ j f. state_old t f le j in
        (subst (λ (y : File → State). Each (λ f. (y f).pending) i) same, subst (λ (y : File → State). Each (λ f. (y f).pending) i) (sym same));
    added = λ t i above le now.
        let is : t ≡ d.clock + 1 = omega (arith, above, le) in
        let same : (λ f. state_at one_more t f) ≡ (λ f. changed f) = λ j f. (ap (λ m. state_at one_more m f) is ∙ state_new f) j in
        so i (subst (λ (y : File → State). Each (λ f. (y f).pending) i) same now);
  }

  pub held_here : mem_held one_more file ≡ (step change (state_at d d.clock file)).held
  held_here = ap (λ (y : State). y.held) (state_new file) ∙ ap (λ b. (if b then step change (state_at d d.clock file) else state_at d d.clock file).held) (same_file_refl file)

  pub held_other : (f : File) → same_file f file ≡ false → mem_held one_more f ≡ mem_held d f
  held_other f other = ap (λ (y : State). y.held) (state_new f) ∙ ap (λ b. (if b then step change (state_at d d.clock f) else state_at d d.clock f).held) other

  pub pending_here : mem_pending one_more file ≡ (step change (state_at d d.clock file)).pending
  pending_here = ap (λ (y : State). y.pending) (state_new file) ∙ ap (λ b. (if b then step change (state_at d d.clock file) else state_at d d.clock file).pending) (same_file_refl file)

  pub noted_leaves : (after : Pending → Pending) → (step change (state_at d d.clock file)).pending ≡ after (mem_pending d file) → Leaves d one_more file after
  noted_leaves after agrees = record {
    others = held_other;
    pending = λ f. subst (λ p. Within p (at_file file after (mem_pending d) f)) (sym (ap (λ (y : State). y.pending) (state_new f) ∙ stepped f)) (within_refl (at_file file after (mem_pending d) f));
    time = noted_elapses (Each (at_file file after (mem_pending d))) (λ i h f. subst (λ p. IsImage p (i f)) (stepped f) (h f));
  }
    where
      stepped_if : (b : Bool) (f : File) → (b ≡ true → f ≡ file) → (if b then step change (state_at d d.clock f) else state_at d d.clock f).pending ≡ (if b then after (mem_pending d f) else mem_pending d f)
      stepped_if false f is = refl
      stepped_if true f is = subst (λ g. (step change (state_at d d.clock g)).pending ≡ after (mem_pending d g)) (sym (is refl)) agrees

      stepped : (f : File) → (changed f).pending ≡ at_file file after (mem_pending d) f
      stepped f = stepped_if (same_file f file) f (same_is f file)
