-- What a stop in a write to the journal's file leaves.
use Rattle.std.proofs.Common.{◌≡◌, ℕ, false, subst, ◌∙◌}
use Rattle.std.specs.Prelude.{Result, Ok, Err, OnOk, IsOk, IsErr}
use Rattle.std.proofs.lemmas.Bool.{false≢true}
use Rattle.disk.specs.declared.file.File.{File}
use Rattle.disk.specs.Images.{Pending, Within, Images, IsImage, Each, IsStill, Becomes, OthersHold, OthersWithin, at_file, after_write, same_file}
use Rattle.disk.specs.Moments.{Moments}
use Rattle.disk.specs.ImageLaws.{within_image}
use Rattle.disk.proofs.ImageLemmas.{at_file_other, within_trans, write_image, goes_on, stays, weaker, within_refl}
use Rattle.object_journal.specs.Standing.{chosen, OthersStay, OthersMayBe, LeavesWrite, Writes}

pub leaves_write : (held : Images) (pending : File → Pending) (at n : ℕ) (i : Images) → IsStill held pending chosen → Each (at_file chosen (after_write at n) pending) i → LeavesWrite held pending at n i
leaves_write held pending at n i still each = record {
  file = write_image chosen at n held pending i still each;
  others = λ f other. subst (λ (p : Pending). IsImage p (i f)) (at_file_other f chosen (after_write at n) pending other) (each f);
}

-- the images of other files after a call are among those before it
pub others_back : (held_old held_mid : Images) (pending_old pending_mid : File → Pending) (i : Images) → OthersStay held_old held_mid pending_old pending_mid → OthersMayBe pending_mid i → OthersMayBe pending_old i
others_back held_old held_mid pending_old pending_mid i s h f other = within_image _ _ (i f) (s.pending f other) (h f other)

-- a refusal isn't good
pub is_not_ok : {T E : Type 0} (r : Result T E) → IsErr r → IsOk r → ⊥
is_not_ok (Ok x) bad ok = absurd (false≢true bad)
is_not_ok (Err e) bad ok = absurd (false≢true ok)

-- what is said of a good answer, at one
pub at_ok : {T E : Type 0} (r : Result T E) (P : Type 0) → OnOk r P → IsOk r → P
at_ok (Ok x) P p ok = p
at_ok (Err e) P p ok = absurd (false≢true ok)

pub stay_twice : (a b c : Images) (p q r : File → Pending) → OthersStay a b p q → OthersStay b c q r → OthersStay a c p r
stay_twice a b c p q r first second = record {
  held = λ f other. second.held f other ∙ first.held f other;
  pending = λ f other. within_trans (r f) (q f) (p f) (second.pending f other) (first.pending f other);
}

other_within : (f : File) (step : Pending → Pending) (old new : File → Pending) → same_file f chosen ≡ false → Becomes chosen step old new → Within (new f) (old f)
other_within f step old new other becomes = subst (λ (p : Pending). Within (new f) p) (at_file_other f chosen step old other) (becomes f)

module _ {D : Type 0} (clock : D → ℕ) (may_leave : D → ℕ → Images → Type 0) (held : D → Images) (pending : D → File → Pending) where
  -- no call
  pub writes_none : (d : D) (good : Type 0) (Left : Images → Type 0) → (good → IsStill (held d) (pending d) chosen) → Writes clock may_leave held pending d d good Left
  writes_none d good Left still = record {
    still = still;
    time = stays clock may_leave d (λ _. Left);
    others = record { held = λ f other. refl_held f; pending = λ f other. within_refl (pending d f) };
  }
    where
      refl_held : (f : File) → held d f ≡ held d f
      refl_held f = λ i. held d f

  -- of the images less is said
  pub writes_so : (old new : D) (good best : Type 0) (P Q : Images → Type 0) → (best → good) → ((i : Images) → P i → Q i) → Writes clock may_leave held pending old new good P → Writes clock may_leave held pending old new best Q
  writes_so old new good best P Q so less w = record {
    still = λ b. w.still (so b);
    time = weaker clock may_leave old new (λ _. P) (λ _. Q) (λ t i above le p. less i p) w.time;
    others = w.others;
  }

  -- two calls
  pub writes_on : (old mid new : D) (first_good good : Type 0) (P Q R : Images → Type 0) → ((i : Images) → P i → R i) → ((i : Images) → Q i → R i)
      → Writes clock may_leave held pending old mid first_good P → Writes clock may_leave held pending mid new good Q → Writes clock may_leave held pending old new good R
  writes_on old mid new first_good good P Q R p q first second = record {
    still = second.still;
    time = goes_on clock may_leave old mid new (λ _. R)
        (weaker clock may_leave old mid (λ _. P) (λ _. R) (λ t i above le x. p i x) first.time)
        (weaker clock may_leave mid new (λ _. Q) (λ _. R) (λ t i above le x. q i x) second.time);
    others = stay_twice (held old) (held mid) (held new) (pending old) (pending mid) (pending new) first.others second.others;
  }

  -- a write alone
  pub write_alone : (old mid : D) (at n : ℕ) (good : Type 0) → (good → IsStill (held mid) (pending mid) chosen)
      → IsStill (held old) (pending old) chosen → OthersHold chosen (held old) (held mid) → Becomes chosen (after_write at n) (pending old) (pending mid)
      → Moments clock may_leave old mid (λ _. Each (at_file chosen (after_write at n) (pending old)))
      → Writes clock may_leave held pending old mid good (LeavesWrite (held old) (pending old) at n)
  write_alone old mid at n good now still others becomes m = record {
    still = now;
    time = weaker clock may_leave old mid (λ _. Each (at_file chosen (after_write at n) (pending old))) _ (λ t i above le each. leaves_write (held old) (pending old) at n i still each) m;
    others = record { held = others; pending = λ f other. other_within f (after_write at n) (pending old) (pending mid) other becomes };
  }

  -- a write and a sync
  pub write_and_sync : (old mid new : D) (at n : ℕ) (good : Type 0) → (good → IsStill (held new) (pending new) chosen)
      → IsStill (held old) (pending old) chosen → OthersHold chosen (held old) (held mid) → Becomes chosen (after_write at n) (pending old) (pending mid)
      → held new ≡ held mid → OthersWithin chosen (pending mid) (pending new)
      → Moments clock may_leave old mid (λ _. Each (at_file chosen (after_write at n) (pending old))) → Moments clock may_leave mid new (λ _. Each (pending mid))
      → Writes clock may_leave held pending old new good (LeavesWrite (held old) (pending old) at n)
  write_and_sync old mid new at n good now still others becomes same within first second = record {
    still = now;
    time = goes_on clock may_leave old mid new _
        (weaker clock may_leave old mid (λ _. Each (at_file chosen (after_write at n) (pending old))) _ (λ t i above le each. leaves_write (held old) (pending old) at n i still each) first)
        (weaker clock may_leave mid new (λ _. Each (pending mid)) _ (λ t i above le each. leaves_write (held old) (pending old) at n i still (λ f. within_image _ _ (i f) (becomes f) (each f))) second);
    others = record {
      held = λ f other. (λ k. same k f) ∙ others f other;
      pending = λ f other. within_trans (pending new f) (pending mid f) (pending old f) (within f other) (other_within f (after_write at n) (pending old) (pending mid) other becomes);
    };
  }
