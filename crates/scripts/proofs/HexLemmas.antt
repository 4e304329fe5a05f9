-- Digits write bytes in one way.
use Rattle.std.proofs.Common.{◌≡◌, inl, inr, ℕ, ◌+◌, ◌*◌, ◌/◌, ◌%◌, ◌<◌, List, [], ◌∷◌, ◌++◌, length, get_or, arith, sym, ◌∙◌, ap, subst}
use Rattle.std.proofs.lemmas.List.{ext_get_or, get_or_append_left, get_or_push}
use Rattle.std.proofs.lemmas.Bool.{cases_lt}
use Rattle.scripts.specs.Writing.{IsHexDigit, IsHexByte, IsHex}

digit_once : (d v w : ℕ) → IsHexDigit d v → IsHexDigit d w → v ≡ w
digit_once d v w h k = grind arith

byte_once : (high low a b : ℕ) → IsHexByte high low a → IsHexByte high low b → a ≡ b
byte_once high low a b h k =
    let highs : h.0 ≡ k.0 = digit_once high h.0 k.0 h.2 k.2 in
    let lows : h.1 ≡ k.1 = digit_once low h.1 k.1 h.3 k.3 in
    let left : a ≡ 16 * h.0 + h.1 = h.4 in
    let right : b ≡ 16 * k.0 + k.1 = k.4 in
    omega arith

pub hex_once : (hex a b : List ℕ) → IsHex hex a → IsHex hex b → a ≡ b
hex_once hex a b h k =
    let same : length a ≡ length b = omega (arith, h.two, k.two) in
    ext_get_or 0 a b same (λ i below. byte_once (get_or hex (2 * i) 0) (get_or hex (2 * i + 1) 0) (get_or a i 0) (get_or b i 0) (h.each i below) (k.each i (omega arith)))

-- the digits at k write the byte at k, for each k below n
abbrev pub WriteBelow : List ℕ → List ℕ → ℕ → Type 0
WriteBelow hex bytes n = (j : ℕ) → j < n → IsHexByte (get_or hex (2 * j) 0) (get_or hex (2 * j + 1) 0) (get_or bytes j 0)

-- one byte more
pub each_more : (hex old new : List ℕ) (k byte : ℕ) → length old ≡ k → new ≡ old ++ byte ∷ [] → WriteBelow hex old k
    → IsHexByte (get_or hex (2 * k) 0) (get_or hex (2 * k + 1) 0) byte → WriteBelow hex new (k + 1)
each_more hex old new k byte count is each here j below = elim (cases_lt j k) [
  | inl inside ↦
      let within : j < length old = omega arith in
      let same : get_or new j 0 ≡ get_or old j 0 = ap (λ l. get_or l j 0) is ∙ get_or_append_left old (byte ∷ []) 0 j within in
      subst (λ (b : ℕ). IsHexByte (get_or hex (2 * j) 0) (get_or hex (2 * j + 1) 0) b) (sym same) (each j inside)
  | inr up ↦
      let at : k ≡ j = omega arith in
      let last : get_or new k 0 ≡ byte = ap (λ l. get_or l k 0) is ∙ get_or_push old byte 0 k count in
      let there = subst (λ (b : ℕ). IsHexByte (get_or hex (2 * k) 0) (get_or hex (2 * k + 1) 0) b) (sym last) here in
      subst (λ (i : ℕ). IsHexByte (get_or hex (2 * i) 0) (get_or hex (2 * i + 1) 0) (get_or new i 0)) at there
]

-- all bytes
pub hex_whole : (hex items bytes : List ℕ) (k : ℕ) → (length hex % 2 ≡ 1 → ⊥) → k ≡ length hex / 2 → length items ≡ k → WriteBelow hex items k → bytes ≡ items → IsHex hex bytes
hex_whole hex items bytes k even half count each is = subst (IsHex hex) (sym is) (record {
  two = omega arith;
  each = λ j below. each j (omega arith);
})
