-- Bytes that are put over the end of a list, and then over what was there.
use Rattle.std.proofs.Common.{◌≡◌, ◌⊎◌, inl, inr, ⊎_elim, ℕ, ◌+◌, ◌-◌, ◌≤◌, ◌<◌, min, List, [], ◌++◌, length, get_or, take, drop, sym, ◌∙◌, ap, refl, subst, arith, length-append, length-take, length-drop}
use Rattle.std.proofs.lemmas.List.{get_or-take, get_or-drop, get_or_append_left, get_or-append_right, get_or_past, drop_all}
use Rattle.std.proofs.Math.Seq.{take-append_seam}
use Rattle.disk.specs.Images.{patched}
use Rattle.disk.proofs.ImageLemmas.{patch_is}

below_or_past : (k n : ℕ) → (k < n) ⊎ (n ≤ k)
below_or_past k n = grind arith

pub patched_in_place : (old bytes z : List ℕ) (at m : ℕ) → at ≤ length old → m ≡ min (length bytes) (length old - at) → length z ≡ length (old ++ drop m bytes)
    → ((k : ℕ) → k < length (take m bytes) → get_or z (at + k) 0 ≡ get_or (take m bytes) k 0)
    → ((k : ℕ) → (k < at) ⊎ (at + length (take m bytes) ≤ k) → get_or z k 0 ≡ get_or (old ++ drop m bytes) k 0)
    → z ≡ patched old at bytes
patched_in_place old bytes z at m le least size over outside =
    let lt = length-take m bytes in
    let ld = length-drop m bytes in
    let la = length-append old (drop m bytes) in
    patch_is old at bytes z le (record {
      size = omega (arith, size, la, ld, least);
      inside = λ k below. ⊎_elim
          (λ (near : k < m). over k (omega (arith, lt, near, below)) ∙ get_or-take m bytes k 0 near)
          (λ (far : m ≤ k). outside (at + k) (inr (omega (arith, lt, far))) ∙ get_or-append_right old (drop m bytes) (length old) (at + k) 0 refl (omega (arith, far, least, below)) ∙ get_or-drop m bytes (at + k - length old) 0 ∙ ap (λ j. get_or bytes j 0) (omega (arith, far, least, below, le)))
          (below_or_past k m);
      outside = λ k out.
          let outer : (k < at) ⊎ (at + length (take m bytes) ≤ k) = ⊎_elim (λ (a : k < at). inl a) (λ (b : at + length bytes ≤ k). inr (omega (arith, b, lt))) out in
          outside k outer ∙ ⊎_elim
          (λ (near : k < length old). get_or_append_left old (drop m bytes) 0 k near)
          (λ (far : length old ≤ k). get_or-append_right old (drop m bytes) (length old) k 0 refl far ∙ get_or_past (drop m bytes) (k - length old) 0 (ends k far out) ∙ sym (get_or_past old k 0 far))
          (below_or_past k (length old));
    })
  where
    ends : (k : ℕ) → length old ≤ k → (k < at) ⊎ (at + length bytes ≤ k) → length (drop m bytes) ≤ k - length old
    ends k far out = ⊎_elim
        (λ (a : k < at). absurd (omega (arith, a, far, le)))
        (λ (b : at + length bytes ≤ k). let ld = length-drop m bytes in omega (arith, b, ld, least, far))
        out

-- the same by the parts
pub patched_by_parts : (old bytes over beyond extended z : List ℕ) (at m : ℕ) → at ≤ length old → m ≡ min (length bytes) (length old - at) → over ≡ take m bytes → beyond ≡ drop m bytes → extended ≡ old ++ beyond → length z ≡ length extended
    → ((k : ℕ) → k < length over → get_or z (at + k) 0 ≡ get_or over k 0)
    → ((k : ℕ) → (k < at) ⊎ (at + length over ≤ k) → get_or z k 0 ≡ get_or extended k 0)
    → z ≡ patched old at bytes
patched_by_parts old bytes over beyond extended z at m le least front back grown size inside outside =
    patched_in_place old bytes z at m le least (size ∙ ap length grown ∙ ap (λ l. length (old ++ l)) back)
    (λ k below. inside k (subst (λ l. k < length l) (sym front) below) ∙ ap (λ l. get_or l k 0) front)
    (λ k out. outside k (subst (λ l. (k < at) ⊎ (at + length l ≤ k)) (sym front) out) ∙ ap (λ l. get_or l k 0) (grown ∙ ap (λ l. old ++ l) back))

-- a list that was written back whole
pub whole : (n : ℕ) (z extended : List ℕ) → length z ≡ n → length extended ≡ n → take n (z ++ drop (length z) extended) ≡ z
whole n z extended lz le =
    let none : drop (length z) extended ≡ [] = drop_all (length z) extended (omega (arith, lz, le)) in
    ap (λ l. take n (z ++ l)) none ∙ ap (λ m. take m (z ++ [])) (sym lz) ∙ take-append_seam z []
