-- What a disk in memory reads as is one of its images at the present.
use Rattle.std.specs.Prelude.{◌≡◌, ℕ, ◌+◌, ◌≤◌, ◌<◌, Bool, true, false, ◌&&◌, nat_le, nat_lt, if◌then◌else◌, List, [], ◌∷◌, length, take, refl}
use Rattle.std.proofs.Common.{⊎_elim, ◌∙◌, arith, length-take}
use Rattle.std.proofs.lemmas.Bool.Decides.{nat_tests}
use Rattle.std.proofs.lemmas.List.{get_or-take}
use Rattle.disk.specs.declared.file.File.{File}
use Rattle.disk.specs.declared.log.Entry.{Entry}
use Rattle.disk.specs.declared.log.Change.{Change}
use Rattle.disk.specs.declared.log.Change.TheVariants.{Wrote, WriteFailed, Cut, CutFailed, Synced}
use Rattle.disk.specs.Images.{IsImage, covers, end_of_lengths, after_write, after_cut, same_file, patched}
use Rattle.disk.specs.ImageLaws.{patch, or_parts, outside_of_write, within_image, within_write, within_cut, resting_image, reached_short}
use Rattle.disk.specs.MemDisk.{State, resting_state, step, entered, replay, MemRecord, mem_held, mem_may_leave}
use Rattle.disk.specs.Slots.{file_of}

-- what the file holds is an image of it
abbrev pub IsGood : State → Type 0
IsGood s = IsImage s.pending s.held

wrote_good : (at : ℕ) (bytes : List ℕ) (s : State) → IsGood s → at ≤ length s.held
    → at + length bytes < end_of_lengths → IsImage (after_write at (length bytes) s.pending) (patched s.held at bytes)
wrote_good at bytes s h le short =
    let new = patched s.held at bytes in
    let p = patch s.held at bytes new le refl in
    let g = reached_short at (length bytes) s.pending.greatest short in
    record {
      no_shorter = omega (arith, p.size, h.no_shorter);
      no_longer = omega (arith, p.size, h.no_longer, g);
      same = λ k base long closed.
          let parts = or_parts (s.pending.free k) (covers at (length bytes) k) closed in
          let out = outside_of_write at (length bytes) k parts.1 in
          let within : k < length s.held = ⊎_elim (λ low. omega (arith, low, le)) (λ high. omega (arith, high, long, p.size)) out in
          p.outside k out ∙ h.same k base within parts.0;
    }

cut_good : (to : ℕ) (s : State) → IsGood s → IsImage (after_cut to s.pending) (take to s.held)
cut_good to s h =
    let size = length-take to s.held in
    record {
      no_shorter = omega (arith, size, h.no_shorter);
      no_longer = omega (arith, size, h.no_longer);
      same = λ k base long closed. get_or-take to s.held k 0 (omega (arith, size, long))
          ∙ h.same k base (omega (arith, size, long)) (or_parts (s.pending.free k) (nat_le to k) closed).0;
    }

if_good : (b : Bool) (x y : State) → (b ≡ true → IsGood x) → IsGood y → IsGood (if b then x else y)
if_good true x y hx hy = hx refl
if_good false x y hx hy = hy

fits_there : (at n long : ℕ) → (nat_le at long && nat_lt (at + n) end_of_lengths) ≡ true → (at ≤ long) × (at + n < end_of_lengths)
fits_there at n long h = (grind (arith, nat_tests), grind (arith, nat_tests))

step_good : (change : Change) (s : State) → IsGood s → IsGood (step change s)
step_good (Wrote at bytes) s h = if_good (nat_le at (length s.held) && nat_lt (at + length bytes) end_of_lengths) _ s
    (λ fits. let there = fits_there at (length bytes) (length s.held) fits in wrote_good at bytes s h there.0 there.1) h
step_good (WriteFailed at n) s h = within_image s.pending (after_write at n s.pending) s.held (within_write at n s.pending) h
step_good (Cut to) s h = cut_good to s h
step_good (CutFailed to) s h = within_image s.pending (after_cut to s.pending) s.held (within_cut to s.pending) h
step_good Synced s h = resting_image s.held

pub replay_good : (t : ℕ) (f : File) (es : List Entry) (s : State) → IsGood s → IsGood (replay t f es s)
replay_good t f [] s h = h
replay_good t f (e ∷ es) s h = replay_good t f es (entered t f e s)
    (if_good (nat_le e.moment t && same_file f e.file) (step e.change s) s (λ _. step_good e.change s h) h)

pub mem_held_now : (d : MemRecord) → mem_may_leave d d.clock (mem_held d)
mem_held_now d f = replay_good d.clock f d.log (resting_state (file_of d.first f)) (resting_image (file_of d.first f))
