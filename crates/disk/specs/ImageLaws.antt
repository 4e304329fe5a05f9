-- What of the images the laws of a disk in memory stand on.
use Rattle.std.proofs.Common.{◌≡◌, ◌⊎◌, ⊎_elim, ℕ, ◌+◌, ◌-◌, ◌≤◌, ◌<◌, max, Bool, ◌||◌, List, ◌++◌, length, get_or, take, drop, refl, sym, ◌∙◌, ap, subst, arith, IsFalse, length-append, length-drop}
use Rattle.std.proofs.lemmas.List.{get_or-take, get_or-drop, get_or_append_left, get_or-append_right, length-take-le}
use Rattle.std.proofs.lemmas.Bool.Decides.{nat_tests}
use Rattle.disk.specs.Images.{Pending, Within, IsImage, resting, covers, end_of_lengths, reached, after_write, after_cut, patched}

pub or_parts : (a b : Bool) → IsFalse (a || b) → IsFalse a × IsFalse b
or_parts a b f = (grind (arith, nat_tests), grind (arith, nat_tests))

pub outside_of_write : (at n k : ℕ) → IsFalse (covers at n k) → (k < at) ⊎ (at + n ≤ k)
outside_of_write at n k f = grind (arith, nat_tests)

pub reached_later : (at n g : ℕ) → g ≤ reached at n g
reached_later at n g = grind (arith, nat_tests)

pub reached_short : (at n g : ℕ) → at + n < end_of_lengths → reached at n g ≡ max g (at + n)
reached_short at n g short = grind (arith, nat_tests)

pub within_write : (at n : ℕ) (p : Pending) → Within p (after_write at n p)
within_write at n p = record {
  base = refl;
  least = omega arith;
  greatest = reached_later at n p.greatest;
  free = λ k h. (or_parts (p.free k) _ h).0;
}

pub within_cut : (to : ℕ) (p : Pending) → Within p (after_cut to p)
within_cut to p = record { base = refl; least = omega arith; greatest = omega arith; free = λ k h. (or_parts (p.free k) _ h).0 }

pub within_image : (p q : Pending) (c : List ℕ) → Within p q → IsImage p c → IsImage q c
within_image p q c w image = record {
  no_shorter = omega (arith, w.least, image.no_shorter);
  no_longer = omega (arith, w.greatest, image.no_longer);
  same = λ k at long closed.
      let there : k < length p.base = subst (λ (l : List ℕ). k < length l) (sym w.base) at in
      image.same k there long (w.free k closed) ∙ ap (λ (l : List ℕ). get_or l k 0) w.base;
}

pub resting_image : (bytes : List ℕ) → IsImage (resting bytes) bytes
resting_image bytes = record { no_shorter = omega arith; no_longer = omega arith; same = λ k base long closed. refl }

-- what was written over, place by place
pub record IsPatch (old : List ℕ) (at : ℕ) (bytes new : List ℕ) : Type 0 where
  pub size : length new ≡ max (length old) (at + length bytes)
  pub inside : (k : ℕ) → k < length bytes → get_or new (at + k) 0 ≡ get_or bytes k 0
  pub outside : (k : ℕ) → (k < at) ⊎ (at + length bytes ≤ k) → get_or new k 0 ≡ get_or old k 0

pub patch : (old : List ℕ) (at : ℕ) (bytes new : List ℕ) → at ≤ length old → new ≡ patched old at bytes → IsPatch old at bytes new
patch old at bytes new le is =
    let n = length bytes in
    let lt = length-take-le at old le in
    let lf : length (take at old ++ bytes) ≡ at + n = length-append (take at old) bytes ∙ ap (λ m. m + n) lt in
    let front : (k : ℕ) → k < at + n → get_or new k 0 ≡ get_or (take at old ++ bytes) k 0 =
    λ k below. ap (λ (l : List ℕ). get_or l k 0) is
    ∙ get_or_append_left (take at old ++ bytes) (drop (at + n) old) 0 k (omega (arith, below, lf)) in
    record {
      size = ap length is ∙ length-append (take at old ++ bytes) (drop (at + n) old) ∙ omega (arith, lf, length-drop (at + n) old);
      inside = λ k below. front (at + k) (omega (arith, below))
          ∙ get_or-append_right (take at old) bytes at (at + k) 0 lt (omega arith)
          ∙ ap (λ m. get_or bytes m 0) (omega arith);
      outside = λ k out. ⊎_elim
          (λ low. front k (omega (arith, low)) ∙ get_or_append_left (take at old) bytes 0 k (omega (arith, low, lt))
          ∙ get_or-take at old k 0 low)
          (λ high. ap (λ (l : List ℕ). get_or l k 0) is
          ∙ get_or-append_right (take at old ++ bytes) (drop (at + n) old) (at + n) k 0 lf high
          ∙ get_or-drop (at + n) old (k - (at + n)) 0 ∙ ap (λ m. get_or old m 0) (omega (arith, high)))
          out;
    }
