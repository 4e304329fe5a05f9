-- What follows from the disk model, for the layers above.
use Rattle.std.proofs.Common.{◌≡◌, ◌≢◌, ◌⊎◌, inl, inr, ⊎_elim, ℕ, ◌+◌, ◌-◌, ◌≤◌, ◌<◌, max, Bool, true, false, ◌||◌, List, [], ◌∷◌, length, get_or, take, refl, sym, ◌∙◌, ap, subst, arith, IsFalse, if◌then◌else◌}
use Rattle.std.proofs.lemmas.List.{ext_get_or, get_or-take, length-take-le, get_or_past}
use Rattle.std.proofs.lemmas.Bool.Decides.{nat_tests}
use Rattle.disk.specs.declared.file.File.{File}
use Rattle.disk.specs.declared.file.File.TheVariants.{Choice, Left, Right}
use Rattle.disk.specs.Images.{Pending, Within, IsImage, Images, Each, IsStill, resting, covers, reached, after_write, at_file, same_file, patched}
use Rattle.disk.specs.Moments.{Moments}
use Rattle.disk.specs.ImageLaws.{IsPatch, patch, within_image}

-- files

pub same_file_refl : (f : File) → same_file f f ≡ true
same_file_refl Choice = refl
same_file_refl Left = refl
same_file_refl Right = refl

pub at_file_here : (f : File) (step : Pending → Pending) (pending : File → Pending) → at_file f step pending f ≡ step (pending f)
at_file_here f step pending = ap (λ b. if b then step (pending f) else pending f) (same_file_refl f)

pub at_file_other : (f file : File) (step : Pending → Pending) (pending : File → Pending) → same_file f file ≡ false → at_file file step pending f ≡ pending f
at_file_other f file step pending other = ap (λ b. if b then step (pending f) else pending f) other

-- tests

pub or_none : (a b : Bool) → IsFalse a → IsFalse b → IsFalse (a || b)
or_none a b f g = grind (arith, nat_tests)

pub uncovered : (at n k : ℕ) → (k < at) ⊎ (at + n ≤ k) → IsFalse (covers at n k)
uncovered at n k out = grind (arith, nat_tests)

-- lengths

pub reached_more : (at n g h : ℕ) → g ≤ h → reached at n g ≤ reached at n h
reached_more at n g h le = grind (arith, nat_tests)

pub reached_most : (at n g : ℕ) → reached at n g ≤ max g (at + n)
reached_most at n g = grind (arith, nat_tests)

-- what is pending

pub within_refl : (p : Pending) → Within p p
within_refl p = record { base = refl; least = omega arith; greatest = omega arith; free = λ k h. h }

pub within_trans : (p q r : Pending) → Within p q → Within q r → Within p r
within_trans p q r a b = record {
  base = a.base ∙ b.base;
  least = omega (arith, a.least, b.least);
  greatest = omega (arith, a.greatest, b.greatest);
  free = λ k h. a.free k (b.free k h);
}

or_false : (a b x : Bool) → (IsFalse b → IsFalse a) → IsFalse (b || x) → IsFalse (a || x)
or_false a b x h f = grind (arith, nat_tests)

pub write_within : (at n : ℕ) (p q : Pending) → Within p q → Within (after_write at n p) (after_write at n q)
write_within at n p q w = record {
  base = w.base;
  least = w.least;
  greatest = reached_more at n p.greatest q.greatest w.greatest;
  free = λ k f. or_false (p.free k) (q.free k) (covers at n k) (w.free k) f;
}

-- images

-- a file of which nothing is pending has one image, what it holds
pub still_image : (b c : List ℕ) → IsImage (resting b) c → c ≡ b
still_image b c image = let size : length c ≡ length b = omega (arith, image.no_shorter, image.no_longer) in
    ext_get_or 0 c b size (λ k below. image.same k (omega (arith, below, size)) below refl)

pub image_now : (held : Images) (pending : File → Pending) (file : File) (i : Images) → IsStill held pending file → Each pending i → i file ≡ held file
image_now held pending file i still each = still_image (held file) (i file) (within_image _ _ (i file) still (each file))

-- a place stays sure beside a write, and before a cut
pub sure_beside_write : (at n k : ℕ) (p : Pending) → IsFalse (p.free k) → (k < at) ⊎ (at + n ≤ k) → IsFalse ((after_write at n p).free k)
sure_beside_write at n k p sure out = or_none (p.free k) (covers at n k) sure (uncovered at n k out)

-- each image agrees with the bytes of the last good sync before a place up to which nothing was done
pub same_front : (p : Pending) (c : List ℕ) (q : ℕ) → IsImage p c → q ≤ p.least → q ≤ length p.base → ((k : ℕ) → k < q → IsFalse (p.free k)) → take q c ≡ take q p.base
same_front p c q image least base closed =
    let long : q ≤ length c = omega (arith, least, image.no_shorter) in
    let lc = length-take-le q c long in
    let lb = length-take-le q p.base base in
    ext_get_or 0 (take q c) (take q p.base) (lc ∙ sym lb) (λ k below.
    let at : k < q = omega (arith, below, lc) in
    get_or-take q c k 0 at ∙ image.same k (omega (arith, at, base)) (omega (arith, at, long)) (closed k at) ∙ sym (get_or-take q p.base k 0 at))

-- after a write to a still file each image agrees before the write with what the file held
pub front_after_write : (at n q : ℕ) (b c : List ℕ) → IsImage (after_write at n (resting b)) c → q ≤ at → q ≤ length b → take q c ≡ take q b
front_after_write at n q b c image le long = same_front (after_write at n (resting b)) c q image long long (λ k below. sure_beside_write at n k (resting b) refl (inl (omega (arith, below, le))))

-- a list that is written over place by place is that list
pub patch_is : (old : List ℕ) (at : ℕ) (bytes new : List ℕ) → at ≤ length old → IsPatch old at bytes new → new ≡ patched old at bytes
patch_is old at bytes new le p =
    let whole = patch old at bytes (patched old at bytes) le refl in
    ext_get_or 0 new (patched old at bytes) (p.size ∙ sym whole.size) (λ k below. ⊎_elim
    (λ (out : (k < at) ⊎ (at + length bytes ≤ k)). p.outside k out ∙ sym (whole.outside k out))
    (λ (mid : (at ≤ k) × (k < at + length bytes)).
    let there : k ≡ at + (k - at) = omega (arith, mid.0) in
    let less : k - at < length bytes = omega (arith, mid.0, mid.1) in
    ap (λ m. get_or new m 0) there ∙ p.inside (k - at) less ∙ sym (whole.inside (k - at) less) ∙ ap (λ m. get_or (patched old at bytes) m 0) (sym there))
    (place at (length bytes) k))
  where
    place : (at n k : ℕ) → ((k < at) ⊎ (at + n ≤ k)) ⊎ ((at ≤ k) × (k < at + n))
    place at n k = grind arith

-- each image after a write of one byte over another one differs at that byte alone
pub one_byte : (b c : List ℕ) (at : ℕ) → at < length b → IsImage (after_write at 1 (resting b)) c → c ≡ patched b at (get_or c at 0 ∷ [])
one_byte b c at inside image =
    let most = reached_most at 1 (length b) in
    patch_is b at (get_or c at 0 ∷ []) c (omega (arith, inside)) (record {
      size = omega (arith, image.no_shorter, image.no_longer, most, inside);
      inside = λ k below. let none : k ≡ 0 = omega (arith, below) in ap (λ m. get_or c (at + m) 0) none ∙ ap (λ m. get_or c m 0) (omega arith) ∙ sym (ap (λ m. get_or (get_or c at 0 ∷ []) m 0) none);
      outside = λ k out. ⊎_elim
          (λ (below : k < length b). image.same k below (omega (arith, below, image.no_shorter)) (or_none false (covers at 1 k) refl (uncovered at 1 k out)))
          (λ (past : length b ≤ k). get_or_past c k 0 (omega (arith, past, image.no_longer, most, inside)) ∙ sym (get_or_past b k 0 past))
          (below_or_past k (length b));
    })
  where
    below_or_past : (k n : ℕ) → (k < n) ⊎ (n ≤ k)
    below_or_past k n = grind arith

-- so there are two kinds: those with the byte that was written, which are what a good write leaves, and those with another one
pub one_byte_kinds : (b c : List ℕ) (at x : ℕ) → at < length b → IsImage (after_write at 1 (resting b)) c → (c ≡ patched b at (x ∷ [])) ⊎ ((get_or c at 0 ≢ x) × (c ≡ patched b at (get_or c at 0 ∷ [])))
one_byte_kinds b c at x inside image = ⊎_elim
    (λ (same : get_or c at 0 ≡ x). inl (one_byte b c at inside image ∙ ap (λ y. patched b at (y ∷ [])) same))
    (λ (other : get_or c at 0 ≢ x). inr (other, one_byte b c at inside image))
    (same_or_other (get_or c at 0) x)
  where
    same_or_other : (m n : ℕ) → (m ≡ n) ⊎ (m ≢ n)
    same_or_other m n = grind arith

-- two runs of calls are one
nat_cases : (t m : ℕ) → (t ≤ m) ⊎ (m < t)
nat_cases t m = grind arith

pub goes_on : {D : Type 0} (clock : D → ℕ) (may_leave : D → ℕ → Images → Type 0) (old mid new : D) (P : ℕ → Images → Type 0) → Moments clock may_leave old mid P → Moments clock may_leave mid new P → Moments clock may_leave old new P
goes_on clock may_leave old mid new P first second = record {
  later = omega (arith, first.later, second.later);
  kept = λ t i le. let a = first.kept t i le in let b = second.kept t i (omega (arith, le, first.later)) in (λ x. a.0 (b.0 x), λ x. b.1 (a.1 x));
  added = λ t i above le now. ⊎_elim
      (λ early. first.added t i above early ((second.kept t i early).0 now))
      (λ late. second.added t i late le now)
      (nat_cases t (clock mid));
}

-- a weaker fact of the images that a run adds
pub weaker : {D : Type 0} (clock : D → ℕ) (may_leave : D → ℕ → Images → Type 0) (old new : D) (P Q : ℕ → Images → Type 0) → ((t : ℕ) (i : Images) → clock old < t → t ≤ clock new → P t i → Q t i) → Moments clock may_leave old new P → Moments clock may_leave old new Q
weaker clock may_leave old new P Q h m = record { later = m.later; kept = m.kept; added = λ t i above le now. h t i above le (m.added t i above le now) }

-- a run of no calls
pub stays : {D : Type 0} (clock : D → ℕ) (may_leave : D → ℕ → Images → Type 0) (d : D) (P : ℕ → Images → Type 0) → Moments clock may_leave d d P
stays clock may_leave d P = record { later = omega arith; kept = λ t i le. (λ x. x, λ x. x); added = λ t i above le now. absurd (omega (arith, above, le)) }

-- what a stop in a write to a still file leaves of that file
pub write_image : (file : File) (at n : ℕ) (held : Images) (pending : File → Pending) (i : Images) → IsStill held pending file → Each (at_file file (after_write at n) pending) i → IsImage (after_write at n (resting (held file))) (i file)
write_image file at n held pending i still each =
    within_image _ _ (i file) (write_within at n _ _ still) (subst (λ (p : Pending). IsImage p (i file)) (at_file_here file (after_write at n) pending) (each file))
