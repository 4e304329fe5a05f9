-- A refused text is no number's: its digits would have been read, and printed again as the text.
use Rattle.std.proofs.Common.{◌≡◌, ℕ, ◌<◌, ◌^◌, List, Ok, Err, Result, decimal, arith, sym, ◌∙◌, ap, Bool, false}
use Rattle.std.specs.Str.{bytes_eq}
use Rattle.std.proofs.lemmas.Slice.Eq.{bytes_eq-Decides}
use Rattle.std.proofs.lemmas.Str.{IsUtf8-from_ascii}
use Rattle.std.proofs.lemmas.Fmt.{IsAscii-decimal, parse-decimal}
use Rattle.std.specs.Str.Parse.{ParsesUnsigned}
use Rattle.scripts.proofs.number.number_of.Goals as goal

is_read : {E : Type 0} (r : Result ℕ E) (c : ℕ) (text : List ℕ) → c < 2 ^ 32 → text ≡ decimal c → ParsesUnsigned 32 10 text r → r ≡ Ok c
is_read r c text small is h = parse-decimal 32 c text r small (omega arith) is h

is_not_refused : {E : Type 0} (r : Result ℕ E) (c : ℕ) (e : E) → r ≡ Err e → r ≡ Ok c → ⊥
is_not_refused r c e a b = cc

same_number : {E : Type 0} (r : Result ℕ E) (m n : ℕ) → r ≡ Ok m → r ≡ Ok n → m ≡ n
same_number r m n a b = cc

differs : (xs ys : List ℕ) (b : Bool) → b ≡ bytes_eq xs ys → b ≡ false → xs ≡ ys → ⊥
differs xs ys b a n e = let t = (bytes_eq-Decides xs ys).1 e in cc

pub returns-in_default-clause-none : goal.returns-in_default-clause-none
returns-in_default-clause-none c = λ n small e. c.in_default.ensures.cases.0 (rw e (IsUtf8-from_ascii _ (IsAscii-decimal n (omega arith))))

pub returns-in_default-parse-clause-none : goal.returns-in_default-parse-clause-none
returns-in_default-parse-clause-none c = λ n small e.
    is_not_refused c.parse.result n _ c.in_default-parse.is (is_read c.parse.result n c.in-Ok.digits.now small (c.in-Ok.ensures.cases.0 ∙ e) c.parse.ensures.value.0)

pub returns-else-eq-clause-none : goal.returns-else-eq-clause-none
returns-else-eq-clause-none c = λ n small e.
    let is : c.in-Ok-parse.number ≡ n = same_number c.parse.result _ _ c.in-Ok-parse.is (is_read c.parse.result n c.in-Ok.digits.now small (c.in-Ok.ensures.cases.0 ∙ e) c.parse.ensures.value.0) in
    differs _ _ _ c.eq.ensures c.if-eq.false (c.format.ensures.text ∙ ap decimal is ∙ sym e ∙ sym c.in-Ok.ensures.cases.0)
