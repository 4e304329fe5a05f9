-- The number that digits write, and the one of a list of values.
use Rattle.std.proofs.Common.{◌≡◌, Bor, Some, None, inl, inr, ◌-◌, ℕ, ◌+◌, ◌*◌, ◌^◌, ◌<◌, ◌≤◌, true, false, List, [], ◌∷◌, map, length, take, get_or, refl, sym, ◌∙◌, arith}
use Rattle.std.specs.Prelude.{nat_lt, nat_le}
use Rattle.std.specs.List.{list_all}
use Rattle.std.specs.Char.{is_ascii_digit, digit_value}
use Rattle.std.specs.Str.Parse.{AllDigits, digits_value}
use Rattle.std.proofs.lemmas.Bool.{and_parts, cases_Bool, cond-true, cond-false, false≢true, leb-true}
use Rattle.std.proofs.lemmas.List.Folds.{list_all_at}
use Rattle.std.proofs.lemmas.Bool.Decides.{nat_tests}
use Rattle.std.proofs.lemmas.Int.Digits.{digits_value-lt, digits_value_more}
use Rattle.std.proofs.lemmas.Str.Parse.{digits_value-take-le}
use Rattle.std.proofs.Math.Nat.{pow-le-pow_right}
use Rattle.http_front.specs.Said.{is_length_text, lawful_length}

-- ---- numbers

digit_small : (c : ℕ) → is_ascii_digit c ≡ true → digit_value c < 10
digit_small c h = grind (arith, nat_tests)

all_digits : (ds : List ℕ) → list_all is_ascii_digit ds ≡ true → AllDigits 10 ds
all_digits [] h = tt
all_digits (c ∷ cs) h =
    let parts = and_parts (is_ascii_digit c) (list_all is_ascii_digit cs) h in
    (digit_small c parts.0, all_digits cs parts.1)

pub text_digits : (ds : List ℕ) → is_length_text ds ≡ true → list_all is_ascii_digit ds ≡ true
text_digits ds h = (and_parts (nat_le (length ds) 19) (list_all is_ascii_digit ds) (and_parts (nat_lt 0 (length ds)) _ h).1).1

text_short : (ds : List ℕ) → is_length_text ds ≡ true → length ds ≤ 19
text_short ds h =
    leb-true (length ds) 19 (and_parts (nat_le (length ds) 19) (list_all is_ascii_digit ds) (and_parts (nat_lt 0 (length ds)) _ h).1).0

below_limit : (v n : ℕ) → v < 10 ^ n → n ≤ 19 → v < 10 ^ 19
below_limit v n small short =
    let ten : 0 < 10 = omega arith in
    let wide : 10 ^ n ≤ 10 ^ 19 = pow-le-pow_right {n = 10} ten {i = n} {j = 19} short in
    omega (arith, small, wide)

pub text_fits : (ds : List ℕ) → is_length_text ds ≡ true → digits_value 10 ds < 10 ^ 19
text_fits ds h = below_limit (digits_value 10 ds) (length ds) (digits_value-lt 10 ds (all_digits ds (text_digits ds h))) (text_short ds h)

-- the number with one digit more is at most the whole
pub next_fits : (ds : List ℕ) (i n d : ℕ) → is_length_text ds ≡ true → i < length ds → n ≡ digits_value 10 (take i ds) → digit_value (get_or ds i 0) ≡ d → n * 10 + d < 10 ^ 19
next_fits ds i n d h below is at =
    omega (arith, text_fits ds h, digits_value-take-le 10 ds (i + 1) (omega arith), digits_value_more 10 ds i below, is, at)

-- ---- the lines with a length

abbrev lent : List (Bor (List ℕ)) → List (List ℕ)
lent values = map (λ (r : Bor (List ℕ)). r.now) values

pub lawful_empty : (values : List (Bor (List ℕ))) → length values ≡ 0 → Some 0 ≡ lawful_length (lent values)
lawful_empty [] none = refl
lawful_empty (v ∷ vs) none = absurd (omega arith)

pub lawful_many : (values : List (Bor (List ℕ))) → 1 < length values → None ≡ lawful_length (lent values)
lawful_many [] many = absurd (omega arith)
lawful_many (v ∷ []) many = absurd (omega arith)
lawful_many (v ∷ w ∷ vs) many = refl

pub lawful_one : (values : List (Bor (List ℕ))) (d : Bor (List ℕ)) → 0 < length values → length values ≤ 1 → is_length_text (get_or values 0 d).now ≡ true → Some (digits_value 10 (get_or values 0 d).now) ≡ lawful_length (lent values)
lawful_one [] d some one is = absurd (omega arith)
lawful_one (v ∷ []) d some one is = sym (cond-true (is_length_text v.now) (Some (digits_value 10 v.now)) None is)
lawful_one (v ∷ w ∷ vs) d some one is = absurd (omega arith)

pub unlawful_one : (values : List (Bor (List ℕ))) (d : Bor (List ℕ)) → 0 < length values → length values ≤ 1 → is_length_text (get_or values 0 d).now ≡ false → None ≡ lawful_length (lent values)
unlawful_one [] d some one is = absurd (omega arith)
unlawful_one (v ∷ []) d some one is = sym (cond-false (is_length_text v.now) (Some (digits_value 10 v.now)) None is)
unlawful_one (v ∷ w ∷ vs) d some one is = absurd (omega arith)

-- ---- digits

digit_from : (c : ℕ) → is_ascii_digit c ≡ true → 48 ≤ c
digit_from c h = grind (arith, nat_tests)

digit_to : (c : ℕ) → is_ascii_digit c ≡ true → c ≤ 57
digit_to c h = grind (arith, nat_tests)

digit_is : (c : ℕ) → is_ascii_digit c ≡ true → digit_value c ≡ c - 48
digit_is c h = grind (arith, nat_tests)

is_digit_at : (ds : List ℕ) (i : ℕ) → is_length_text ds ≡ true → i < length ds → is_ascii_digit (get_or ds i 0) ≡ true
is_digit_at ds i h below = elim (cases_Bool (is_ascii_digit (get_or ds i 0))) [
  | inl is ↦ is
  | inr other ↦ absurd (false≢true (sym (list_all_at is_ascii_digit ds i 0 below other) ∙ text_digits ds h))
]

-- the digit at this place, and its number
pub digit_at : (ds : List ℕ) (i : ℕ) → is_length_text ds ≡ true → i < length ds → (48 ≤ get_or ds i 0) × (get_or ds i 0 ≤ 57) × (digit_value (get_or ds i 0) ≡ get_or ds i 0 - 48)
digit_at ds i h below =
    let is = is_digit_at ds i h below in
    (digit_from (get_or ds i 0) is, digit_to (get_or ds i 0) is, digit_is (get_or ds i 0) is)
