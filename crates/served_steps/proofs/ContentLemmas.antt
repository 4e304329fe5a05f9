-- What the strings of a text in UTF-8 stand for is UTF-8.
use Rattle.std.proofs.Common.{◌≡◌, ◌≢◌, ⊎_elim, ℕ, zero, suc, ◌+◌, ◌-◌, ◌*◌, ◌<◌, ◌≤◌, ◌==◌, ◌&&◌, ◌||◌, not, nat_lt, Bool, true, false, cond, List, [], ◌∷◌, ◌++◌, length, get_or, take, drop, Option, Some, None, option_and_then, IsUtf8, refl, sym, ◌∙◌, ap, subst, arith, lit<}
use Rattle.std.specs.Char.{digit_value, is_digit, encode_utf8}
use Rattle.std.specs.List.{prefix_len}
use Rattle.std.proofs.Math.Utf8.{scalar, low_scalar}
use Rattle.std.proofs.lemmas.Bool.{cases_lt, cases_eq, and_parts, or_parts, not-true, false≢true, true≢false, ltb-true, le-ltb, lt-ltb, le-leb, leb-true, eqb-true, ne_eqb}
use Rattle.std.proofs.lemmas.List.{append_assoc, drop_more, length-drop, drop_all}
use Rattle.std.proofs.lemmas.Str.{IsUtf8-append, IsUtf8-nil, IsUtf8-drop, IsUtf8-take, IsUtf8-encode, IsCharBoundary-before_ascii, IsCharBoundary-after_ascii}
use Rattle.json.proofs.Printed.Utf8.{IsUtf8-are_ascii}
use Rattle.json.specs.Text.{content, code_unit, short_escape, is_high_surrogate, is_low_surrogate, surrogate_pair, plain, after_backslash, after_u, after_high, prepend}

same_text : (a b : List ℕ) → Some a ≡ Some b → a ≡ b
same_text a b e = cc

no_text : (a : List ℕ) → None ≡ Some a → ⊥
no_text a e = cc

same_code : (a b : ℕ) → Some a ≡ Some b → a ≡ b
same_code a b e = cc

no_code : (a : ℕ) → None ≡ Some a → ⊥
no_code a e = cc

-- what is behind an ASCII byte is UTF-8
pub ascii_rest : (x : ℕ) (xs : List ℕ) → x < 128 → IsUtf8 (x ∷ xs) → IsUtf8 xs
ascii_rest x xs small u = IsUtf8-drop (x ∷ xs) 1 u (IsCharBoundary-after_ascii (x ∷ xs) 0 u (omega arith) small)

-- ---- escapes

digit_high : (c : ℕ) → 128 ≤ c → digit_value c ≡ 36
digit_high c h =
    λ i. cond (le-ltb c 48 (omega arith) i) 36 (cond (le-ltb c 58 (omega arith) i) (c - 48) (cond (le-ltb c 65 (omega arith) i) 36 (cond (le-ltb c 91 (omega arith) i) (c - 55) (cond (le-ltb c 97 (omega arith) i) 36 (cond (le-ltb c 123 (omega arith) i) (c - 87) 36)))))

digit_small : (c : ℕ) → is_digit c 16 ≡ true → (c < 128) × (digit_value c < 16)
digit_small c h =
    let low : digit_value c < 16 = ltb-true (digit_value c) 16 h in (
      ⊎_elim (λ (small : c < 128). small) (λ (high : 128 ≤ c). absurd (let is = digit_high c high in omega (arith, is, low))) (cases_lt c 128),
      low,
    )

four_true : (p q r s : Bool) → (p && q && r && s) ≡ true → (p ≡ true) × (q ≡ true) × (r ≡ true) × (s ≡ true)
four_true true true true true h = (refl, refl, refl, refl)
four_true true true true false h = absurd (false≢true h)
four_true true true false s h = absurd (false≢true h)
four_true true false r s h = absurd (false≢true h)
four_true false q r s h = absurd (false≢true h)

record IsUnit (a b c d u : ℕ) : Type 0 where
  first : a < 128
  second : b < 128
  third : c < 128
  fourth : d < 128
  small : u < 65536

unit_sum : (p q r s u : ℕ) → p < 16 → q < 16 → r < 16 → s < 16 → p * 4096 + q * 256 + r * 16 + s ≡ u → u < 65536
unit_sum p q r s u hp hq hr hs e = omega arith

unit_at : (a b c d u : ℕ) (t : Bool) → (is_digit a 16 && is_digit b 16 && is_digit c 16 && is_digit d 16) ≡ t → cond t (Some (digit_value a * 4096 + digit_value b * 256 + digit_value c * 16 + digit_value d)) None ≡ Some u → IsUnit a b c d u
unit_at a b c d u true is e =
    let all = four_true (is_digit a 16) (is_digit b 16) (is_digit c 16) (is_digit d 16) is in
    let pa = digit_small a all.0 in
    let pb = digit_small b all.1 in
    let pc = digit_small c all.2 in
    let pd = digit_small d all.3 in
    record {
      first = pa.0;
      second = pb.0;
      third = pc.0;
      fourth = pd.0;
      small = unit_sum (digit_value a) (digit_value b) (digit_value c) (digit_value d) u pa.1 pb.1 pc.1 pd.1 (same_code _ u e);
    }
unit_at a b c d u false is e = absurd (no_code u e)

unit_parts : (a b c d u : ℕ) → code_unit a b c d ≡ Some u → IsUnit a b c d u
unfolding code_unit
unit_parts a b c d u e = unit_at a b c d u (is_digit a 16 && is_digit b 16 && is_digit c 16 && is_digit d 16) refl e

high_scalar : (c : ℕ) → 57344 ≤ c → c < 1114112 → scalar c ≡ true
high_scalar c low high = λ i. cond (le-ltb c 55296 (omega arith) i) true (le-leb 57344 c low i && lt-ltb c 1114112 high i)

both_true : (a b : Bool) → a ≡ true → b ≡ true → (a && b) ≡ true
both_true true b h k = k
both_true false b h k = h

-- a unit that is no half of a pair is a character
unit_scalar : (u : ℕ) → u < 65536 → is_high_surrogate u ≡ false → is_low_surrogate u ≡ false → scalar u ≡ true
unit_scalar u small high low = ⊎_elim
    (λ (below : u < 55296). low_scalar u below)
    (λ (from : 55296 ≤ u). ⊎_elim
    (λ (first : u < 56320). absurd (true≢false (sym (both_true _ _ (le-leb 55296 u from) (lt-ltb u 56320 first)) ∙ high)))
    (λ (from_low : 56320 ≤ u). ⊎_elim
    (λ (second : u < 57344). absurd (true≢false (sym (both_true _ _ (le-leb 56320 u from_low) (lt-ltb u 57344 second)) ∙ low)))
    (λ (above : 57344 ≤ u). high_scalar u above (omega arith))
    (cases_lt u 57344))
    (cases_lt u 56320))
    (cases_lt u 55296)

pair_bound : (h l : ℕ) → 55296 ≤ h → h < 56320 → 56320 ≤ l → l < 57344 → (57344 ≤ surrogate_pair h l) × (surrogate_pair h l < 1114112)
pair_bound h l a b c d = (omega arith, omega arith)

record IsHigh (h : ℕ) : Type 0 where
  from : 55296 ≤ h
  to : h < 56320

high_parts : (h : ℕ) → is_high_surrogate h ≡ true → IsHigh h
high_parts h e = let p = and_parts _ _ e in record { from = leb-true 55296 h p.0; to = ltb-true h 56320 p.1 }

pair_scalar : (h l : ℕ) → IsHigh h → is_low_surrogate l ≡ true → scalar (surrogate_pair h l) ≡ true
pair_scalar h l high low =
    let p = and_parts _ _ low in
    let bound = pair_bound h l high.from high.to (leb-true 56320 l p.0) (ltb-true l 57344 p.1) in
    high_scalar (surrogate_pair h l) bound.0 bound.1

short_none : (x : ℕ) → 128 ≤ x → short_escape x ≡ None
unfolding short_escape
short_none x h =
    λ i. cond ((ne_eqb x 34 (λ e. omega (arith, e, h)) i) || (ne_eqb x 92 (λ e. omega (arith, e, h)) i) || (ne_eqb x 47 (λ e. omega (arith, e, h)) i)) (Some x)
    (cond (ne_eqb x 98 (λ e. omega (arith, e, h)) i) (Some 8) (cond (ne_eqb x 102 (λ e. omega (arith, e, h)) i) (Some 12) (cond (ne_eqb x 110 (λ e. omega (arith, e, h)) i) (Some 10)
    (cond (ne_eqb x 114 (λ e. omega (arith, e, h)) i) (Some 13) (cond (ne_eqb x 116 (λ e. omega (arith, e, h)) i) (Some 9) None)))))

pick : (t : Bool) (o p : Option ℕ) (c : ℕ) → (o ≡ Some c → c < 128) → (p ≡ Some c → c < 128) → cond t o p ≡ Some c → c < 128
pick true o p c h k e = h e
pick false o p c h k e = k e

is_small : (n c : ℕ) → n < 128 → Some n ≡ Some c → c < 128
is_small n c small e = subst (λ (m : ℕ). m < 128) (same_code n c e) small

short_value : (x c : ℕ) → x < 128 → short_escape x ≡ Some c → c < 128
unfolding short_escape
short_value x c small e =
    let t = cond (x == 116) (Some 9) None in
    let r = cond (x == 114) (Some 13) t in
    let n = cond (x == 110) (Some 10) r in
    let f = cond (x == 102) (Some 12) n in
    let b = cond (x == 98) (Some 8) f in
    pick ((x == 34) || (x == 92) || (x == 47)) (Some x) b c (is_small x c small)
    (pick (x == 98) (Some 8) f c (is_small 8 c (lit< tt))
    (pick (x == 102) (Some 12) n c (is_small 12 c (lit< tt))
    (pick (x == 110) (Some 10) r c (is_small 10 c (lit< tt))
    (pick (x == 114) (Some 13) t c (is_small 13 c (lit< tt))
    (pick (x == 116) (Some 9) None c (is_small 9 c (lit< tt)) (λ none. absurd (no_code c none))))))) e

short_small : (x c : ℕ) → short_escape x ≡ Some c → x < 128
short_small x c e = ⊎_elim (λ (small : x < 128). small) (λ (high : 128 ≤ x). absurd (no_code c (sym (short_none x high) ∙ e))) (cases_lt x 128)

pub one_utf8 : (c : ℕ) → c < 128 → IsUtf8 (c ∷ [])
one_utf8 c small = IsUtf8-are_ascii (c ∷ []) (both_true _ true (lt-ltb c 128 small) refl)

-- ---- what is read behind a backslash

-- what stands before a text in UTF-8
prepended : (front : List ℕ) (o : Option (List ℕ)) (s : List ℕ) → IsUtf8 front → ((t : List ℕ) → o ≡ Some t → IsUtf8 t) → prepend front o ≡ Some s → IsUtf8 s
prepended front None s u more e = absurd (no_text s e)
prepended front (Some t) s u more e = subst IsUtf8 (same_text (front ++ t) s e) (IsUtf8-append front t u (more t refl))

-- whatever is read of a shorter text in UTF-8 is UTF-8
abbrev ReadsBelow : ℕ → Type 0
ReadsBelow k = (xs s : List ℕ) → length xs < k → IsUtf8 xs → content plain xs ≡ Some s → IsUtf8 s

module _ (k : ℕ) (below : ReadsBelow k) where
  pair_read : (h : ℕ) → IsHigh h → (xs s : List ℕ) → (o : Option ℕ) → length xs < k → IsUtf8 xs → option_and_then (λ l. cond (is_low_surrogate l) (prepend (encode_utf8 (surrogate_pair h l)) (content plain xs)) None) o ≡ Some s → IsUtf8 s
  pair_read h high xs s None short u e = absurd (no_text s e)
  pair_read h high xs s (Some l) short u e = by (is_low_surrogate l) refl e
    where
      by : (t : Bool) → is_low_surrogate l ≡ t → cond t (prepend (encode_utf8 (surrogate_pair h l)) (content plain xs)) None ≡ Some s → IsUtf8 s
      by true is e = prepended (encode_utf8 (surrogate_pair h l)) (content plain xs) s (IsUtf8-encode (surrogate_pair h l) (pair_scalar h l high is)) (λ t read. below xs t short u read) e
      by false is e = absurd (no_text s e)

  four_rest : (a b c d u : ℕ) (xs : List ℕ) → IsUnit a b c d u → IsUtf8 (a ∷ b ∷ c ∷ d ∷ xs) → IsUtf8 xs
  four_rest a b c d u xs parts text =
      ascii_rest d xs parts.fourth (ascii_rest c (d ∷ xs) parts.third (ascii_rest b (c ∷ d ∷ xs) parts.second (ascii_rest a (b ∷ c ∷ d ∷ xs) parts.first text)))

  slash_at : (b : Bool) (o : Option (List ℕ)) (s : List ℕ) → cond b o None ≡ Some s → (b ≡ true) × (o ≡ Some s)
  slash_at true o s e = (refl, e)
  slash_at false o s e = absurd (no_text s e)

  unit_read : (h a b c d : ℕ) (xs s : List ℕ) (o : Option ℕ) → IsHigh h → code_unit a b c d ≡ o → length xs < k → IsUtf8 (a ∷ b ∷ c ∷ d ∷ xs)
      → option_and_then (λ l. cond (is_low_surrogate l) (prepend (encode_utf8 (surrogate_pair h l)) (content plain xs)) None) o ≡ Some s → IsUtf8 s
  unit_read h a b c d xs s None high is short u e = absurd (no_text s e)
  unit_read h a b c d xs s (Some l) high is short u e = pair_read h high xs s (Some l) short (four_rest a b c d l xs (unit_parts a b c d l is) u) e

  high_read : (h : ℕ) → IsHigh h → (xs s : List ℕ) → length xs ≤ k → IsUtf8 xs → content (after_high h) xs ≡ Some s → IsUtf8 s
  unfolding content
  high_read h high [] s short u e = absurd (no_text s e)
  high_read h high (x ∷ []) s short u e = absurd (no_text s e)
  high_read h high (x ∷ y ∷ []) s short u e = absurd (no_text s e)
  high_read h high (x ∷ y ∷ a ∷ []) s short u e = absurd (no_text s e)
  high_read h high (x ∷ y ∷ a ∷ b ∷ []) s short u e = absurd (no_text s e)
  high_read h high (x ∷ y ∷ a ∷ b ∷ c ∷ []) s short u e = absurd (no_text s e)
  high_read h high (x ∷ y ∷ a ∷ b ∷ c ∷ d ∷ xs) s short u e =
      let at = slash_at ((x == 92) && (y == 117)) (option_and_then (λ l. cond (is_low_surrogate l) (prepend (encode_utf8 (surrogate_pair h l)) (content plain xs)) None) (code_unit a b c d)) s e in
      let parts = and_parts (x == 92) (y == 117) at.0 in
      let first : x ≡ 92 = eqb-true x 92 parts.0 in
      let second : y ≡ 117 = eqb-true y 117 parts.1 in
      let rest = ascii_rest y (a ∷ b ∷ c ∷ d ∷ xs) (omega (arith, second)) (ascii_rest x (y ∷ a ∷ b ∷ c ∷ d ∷ xs) (omega (arith, first)) u) in
      unit_read h a b c d xs s (code_unit a b c d) high refl (omega (arith, short)) rest at.1

  code_read : (a b c d : ℕ) (xs s : List ℕ) (o : Option ℕ) → code_unit a b c d ≡ o → length xs < k → IsUtf8 (a ∷ b ∷ c ∷ d ∷ xs)
      → option_and_then (λ u. cond (is_high_surrogate u) (content (after_high u) xs) (cond (is_low_surrogate u) None (prepend (encode_utf8 u) (content plain xs)))) o ≡ Some s → IsUtf8 s
  code_read a b c d xs s None is short text e = absurd (no_text s e)
  code_read a b c d xs s (Some u) is short text e = by (is_high_surrogate u) refl e
    where
      parts : IsUnit a b c d u
      parts = unit_parts a b c d u is

      rest : IsUtf8 xs
      rest = four_rest a b c d u xs parts text

      low : (t : Bool) → is_high_surrogate u ≡ false → is_low_surrogate u ≡ t → cond t None (prepend (encode_utf8 u) (content plain xs)) ≡ Some s → IsUtf8 s
      low true high is e = absurd (no_text s e)
      low false high is e = prepended (encode_utf8 u) (content plain xs) s (IsUtf8-encode u (unit_scalar u parts.small high is)) (λ t read. below xs t short rest read) e

      by : (t : Bool) → is_high_surrogate u ≡ t → cond t (content (after_high u) xs) (cond (is_low_surrogate u) None (prepend (encode_utf8 u) (content plain xs))) ≡ Some s → IsUtf8 s
      by true high e = high_read u (high_parts u high) xs s (omega (arith, short)) rest e
      by false high e = low (is_low_surrogate u) high refl e

  unicode_read : (xs s : List ℕ) → length xs ≤ k → IsUtf8 xs → content after_u xs ≡ Some s → IsUtf8 s
  unfolding content
  unicode_read [] s short u e = absurd (no_text s e)
  unicode_read (a ∷ []) s short u e = absurd (no_text s e)
  unicode_read (a ∷ b ∷ []) s short u e = absurd (no_text s e)
  unicode_read (a ∷ b ∷ c ∷ []) s short u e = absurd (no_text s e)
  unicode_read (a ∷ b ∷ c ∷ d ∷ xs) s short u e = code_read a b c d xs s (code_unit a b c d) refl (omega (arith, short)) u e

  short_read : (x : ℕ) (xs s : List ℕ) (o : Option ℕ) → short_escape x ≡ o → length xs < k → IsUtf8 (x ∷ xs) → option_and_then (λ c. prepend (c ∷ []) (content plain xs)) o ≡ Some s → IsUtf8 s
  short_read x xs s None is short u e = absurd (no_text s e)
  short_read x xs s (Some c) is short u e =
      let small = short_small x c is in
      prepended (c ∷ []) (content plain xs) s (one_utf8 c (short_value x c small is)) (λ t read. below xs t short (ascii_rest x xs small u) read) e

  escape_read : (xs s : List ℕ) → length xs ≤ k → IsUtf8 xs → content after_backslash xs ≡ Some s → IsUtf8 s
  unfolding content
  escape_read [] s short u e = absurd (no_text s e)
  escape_read (x ∷ xs) s short u e = by (x == 117) refl e
    where
      by : (t : Bool) → (x == 117) ≡ t → cond t (content after_u xs) (option_and_then (λ c. prepend (c ∷ []) (content plain xs)) (short_escape x)) ≡ Some s → IsUtf8 s
      by true is e = let same : x ≡ 117 = eqb-true x 117 is in unicode_read xs s (omega (arith, short)) (ascii_rest x xs (omega (arith, same)) u) e
      by false is e = short_read x xs s (short_escape x) refl (omega (arith, short)) u e

-- ---- plain bytes

-- the byte stands for itself
abbrev is_plain : ℕ → Bool
is_plain x = not ((x == 34) || (x == 92) || nat_lt x 32)

prepend_more : (a b : List ℕ) (r : Option (List ℕ)) → prepend a (prepend b r) ≡ prepend (a ++ b) r
prepend_more a b None = refl
prepend_more a b (Some s) = ap Some (sym (append_assoc a b s))

prepend_none : (r : Option (List ℕ)) → prepend [] r ≡ r
prepend_none None = refl
prepend_none (Some s) = refl

run_byte : (p : Bool) (x n : ℕ) (xs : List ℕ) → p ≡ is_plain x → content plain xs ≡ prepend (take n xs) (content plain (drop n xs))
    → content plain (x ∷ xs) ≡ prepend (take (cond p (1 + n) 0) (x ∷ xs)) (content plain (drop (cond p (1 + n) 0) (x ∷ xs)))
unfolding content
run_byte false x n xs e more = sym (prepend_none _)
run_byte true x n xs e more =
    let next : suc n ≡ 1 + n = omega arith in
    let none = or_parts ((x == 34) || (x == 92)) _ (not-true _ (sym e)) in
    let tests = or_parts (x == 34) _ none.0 in
    (λ i. cond (tests.0 i) (Some []) (cond (tests.1 i) (content after_backslash xs) (cond (none.1 i) None (prepend (x ∷ []) (more i)))))
    ∙ prepend_more (x ∷ []) (take n xs) _ ∙ ap (λ k. prepend (take k (x ∷ xs)) (content plain (drop k (x ∷ xs)))) next

-- plain bytes stand for themselves
content_run : (xs : List ℕ) → content plain xs ≡ prepend (take (prefix_len is_plain xs) xs) (content plain (drop (prefix_len is_plain xs) xs))
content_run [] = sym (prepend_none _)
content_run (x ∷ xs) = run_byte (is_plain x) x (prefix_len is_plain xs) xs refl (content_run xs)

stops_byte : (p : Bool) (x n : ℕ) (xs : List ℕ) → p ≡ is_plain x → (n < length xs → is_plain (get_or xs n 0) ≡ false) → cond p (1 + n) 0 < length (x ∷ xs) → is_plain (get_or (x ∷ xs) (cond p (1 + n) 0) 0) ≡ false
stops_byte false x n xs e more h = sym e
stops_byte true x n xs e more h = let next : 1 + n ≡ suc n = omega arith in ap (λ k. is_plain (get_or (x ∷ xs) k 0)) next ∙ more (omega arith)

-- the byte behind them isn't plain
stops_there : (xs : List ℕ) → prefix_len is_plain xs < length xs → is_plain (get_or xs (prefix_len is_plain xs) 0) ≡ false
stops_there [] h = let no : ⊥ = omega arith in absurd no
stops_there (x ∷ xs) h = stops_byte (is_plain x) x (prefix_len is_plain xs) xs refl (stops_there xs) h

at_quote : (d : List ℕ) (i : ℕ) → i < length d → get_or d i 0 ≡ 34 → content plain (drop i d) ≡ Some []
unfolding content
at_quote d i h e = ap (content plain) (drop_more d i 0 h ∙ ap (λ x. x ∷ drop (i + 1) d) e)

at_backslash : (d : List ℕ) (i : ℕ) → i < length d → get_or d i 0 ≡ 92 → content plain (drop i d) ≡ content after_backslash (drop (i + 1) d)
unfolding content
at_backslash d i h e = ap (content plain) (drop_more d i 0 h ∙ ap (λ x. x ∷ drop (i + 1) d) e)

at_control : (d : List ℕ) (i : ℕ) → i < length d → get_or d i 0 < 32 → content plain (drop i d) ≡ None
unfolding content
at_control d i h e =
    let x = get_or d i 0 in
    ap (content plain) (drop_more d i 0 h) ∙ (λ j. cond (ne_eqb x 34 (λ z. omega arith) j) (Some []) (cond (ne_eqb x 92 (λ z. omega arith) j) (content after_backslash (drop (i + 1) d))
    (cond (lt-ltb x 32 e j) None (prepend (x ∷ []) (content plain (drop (i + 1) d))))))

at_end : (d : List ℕ) (i : ℕ) → length d ≤ i → content plain (drop i d) ≡ None
unfolding content
at_end d i h = ap (content plain) (drop_all i d h)

last_test : (b : Bool) → not (b || false) ≡ false → b ≡ true
last_test true e = refl
last_test false e = absurd (true≢false e)

-- a stop that is no quote and no control byte is a backslash
stop_is_slash : (xs : List ℕ) (n : ℕ) → n ≡ prefix_len is_plain xs → n < length xs → (get_or xs n 0 ≡ 34 → ⊥) → 32 ≤ get_or xs n 0 → get_or xs n 0 ≡ 92
stop_is_slash xs n is h q l =
    let x = get_or xs n 0 in
    let there : is_plain x ≡ false = ap (λ k. is_plain (get_or xs k 0)) is ∙ stops_there xs (subst (λ (k : ℕ). k < length xs) is h) in
    eqb-true x 92 (last_test (x == 92) (sym (λ j. not (ne_eqb x 34 q j || (x == 92) || le-ltb x 32 l j)) ∙ there))

module _ (k : ℕ) (below : ReadsBelow k) (xs s : List ℕ) (short : length xs ≤ k) (text : IsUtf8 xs) (n : ℕ) (is : n ≡ prefix_len is_plain xs) (e : prepend (take n xs) (content plain (drop n xs)) ≡ Some s) where
  -- the run of plain bytes ends at a byte of ASCII
  run_utf8 : n < length xs → get_or xs n 0 < 128 → IsUtf8 (take n xs)
  run_utf8 within small = IsUtf8-take xs n text (IsCharBoundary-before_ascii xs n within small)

  at_quote_read : n < length xs → get_or xs n 0 ≡ 34 → IsUtf8 s
  at_quote_read within quote =
      let small : get_or xs n 0 < 128 = omega (arith, quote) in
      prepended (take n xs) (content plain (drop n xs)) s (run_utf8 within small)
      (λ t read. subst IsUtf8 (same_text [] t (sym (at_quote xs n within quote) ∙ read)) IsUtf8-nil) e

  at_slash_read : n < length xs → get_or xs n 0 ≡ 92 → IsUtf8 s
  at_slash_read within slash =
      let small : get_or xs n 0 < 128 = omega (arith, slash) in
      let rest : IsUtf8 (drop (n + 1) xs) = IsUtf8-drop xs (n + 1) text (IsCharBoundary-after_ascii xs n text within small) in
      let long = length-drop (n + 1) xs in
      prepended (take n xs) (content plain (drop n xs)) s (run_utf8 within small)
      (λ t read. escape_read k below (drop (n + 1) xs) t (omega (arith, long, short)) rest (sym (at_backslash xs n within slash) ∙ read)) e

  nothing_read : content plain (drop n xs) ≡ None → IsUtf8 s
  nothing_read none = absurd (no_text s (ap (prepend (take n xs)) (sym none) ∙ e))

  stop_read : IsUtf8 s
  stop_read = ⊎_elim
      (λ (within : n < length xs). ⊎_elim
      (λ (quote : get_or xs n 0 ≡ 34). at_quote_read within quote)
      (λ (other : get_or xs n 0 ≢ 34). ⊎_elim
      (λ (control : get_or xs n 0 < 32). nothing_read (at_control xs n within control))
      (λ (high : 32 ≤ get_or xs n 0). at_slash_read within (stop_is_slash xs n is within other high))
      (cases_lt (get_or xs n 0) 32))
      (cases_eq (get_or xs n 0) 34))
      (λ (out : length xs ≤ n). nothing_read (at_end xs n out))
      (cases_lt n (length xs))

reads_below : (k : ℕ) → ReadsBelow k
reads_below zero = λ xs s short u e. absurd (omega (arith, short))
reads_below (suc k) = λ xs s short u e.
    stop_read k (reads_below k) xs s (omega (arith, short)) u (prefix_len is_plain xs) refl (sym (content_run xs) ∙ e)

pub content_utf8 : (xs s : List ℕ) → IsUtf8 xs → content plain xs ≡ Some s → IsUtf8 s
content_utf8 xs s u e = reads_below (suc (length xs)) xs s (omega arith) u e
