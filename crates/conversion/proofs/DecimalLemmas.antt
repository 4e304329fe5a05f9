-- A whole number's decimal text is read as that number.
use Rattle.std.proofs.Common.{◌≡◌, ℕ, suc, ◌<◌, ◌^◌, Bool, false, List, ◌∷◌, ℤ, pos, negsuc, Result, Ok, Err, decimal, refl, sym, ◌∙◌, ap, subst, arith, bytes_eq}
use Rattle.std.specs.Fmt.{signed_decimal}
use Rattle.std.specs.Prelude.{FitsSigned}
use Rattle.std.specs.Int.{w64}
use Rattle.std.specs.Result.{OkIff}
use Rattle.std.specs.Str.Parse.{ParsesSigned, IsNumeral, signed_digits_value, without_leading_sign}
use Rattle.std.proofs.lemmas.Fmt.{decimal_is_IsNumeral, parse-signed_decimal}
use Rattle.std.proofs.lemmas.Int.{ints}
use Rattle.std.proofs.lemmas.Slice.Eq.{bytes_eq-Decides}
use Rattle.fields.specs.Table.{IsInt64}

ok_from_iff : {T E : Type 0} (r : Result T E) (P : Type 0) (v : T) → OkIff r P v → P → r ≡ Ok v
ok_from_iff (Ok x) P v h p = ap Ok h.1
ok_from_iff (Err e) P v h p = absurd (h p)

read_negative : {E : Type 0} (n : ℕ) (r : Result ℤ E) → IsInt64 (negsuc n) → ParsesSigned w64 10 (45 ∷ decimal (suc n)) r → r ≡ Ok (negsuc n)
read_negative n r whole h =
    let small : suc n < 2 ^ 64 = omega (arith, ints) in
    let numeral = decimal_is_IsNumeral (suc n) small in
    let value : signed_digits_value 10 (45 ∷ decimal (suc n)) ≡ negsuc n = rw numeral.1 refl in
    ok_from_iff r (IsNumeral 10 (without_leading_sign (45 ∷ decimal (suc n))) × FitsSigned w64 (signed_digits_value 10 (45 ∷ decimal (suc n)))) (signed_digits_value 10 (45 ∷ decimal (suc n))) h
    (numeral.0, subst (FitsSigned w64) (sym value) whole) ∙ ap Ok value

pub read_decimal : {E : Type 0} (z : ℤ) (text : List ℕ) (r : Result ℤ E) → IsInt64 z → text ≡ signed_decimal z → ParsesSigned w64 10 text r → r ≡ Ok z
read_decimal (pos n) text r whole is h = parse-signed_decimal w64 (pos n) text r whole (omega (arith, ints)) is h
read_decimal (negsuc n) text r whole is h = read_negative n r whole (subst (λ t. ParsesSigned w64 10 t r) is h)

pub not_refused : {T E : Type 0} (r : Result T E) (v : T) (e : E) → r ≡ Err e → r ≡ Ok v → ⊥
not_refused r v e a b = cc

pub same_read : {T E : Type 0} (r : Result T E) (v w : T) → r ≡ Ok v → r ≡ Ok w → v ≡ w
same_read r v w a b = cc

pub differs : (xs ys : List ℕ) (b : Bool) → b ≡ bytes_eq xs ys → b ≡ false → xs ≡ ys → ⊥
differs xs ys b a n e = let t = (bytes_eq-Decides xs ys).1 e in cc
