-- A refused text is no number's: its digits would have been read, and printed again as the text.
use Rattle.std.proofs.Common.{◌≡◌, ℕ, ◌<◌, ◌^◌, List, Ok, Err, Result, decimal, arith, sym, ◌∙◌, ap, Bool, false}
use Rattle.std.specs.Str.{bytes_eq}
use Rattle.std.proofs.lemmas.Slice.Eq.{bytes_eq-Decides}
use Rattle.std.proofs.lemmas.Fmt.{parse-decimal}
use Rattle.std.specs.Str.Parse.{ParsesUnsigned}
use Rattle.words.proofs.decimal.decimal_number.Goals as goal

is_read : {E : Type 0} (r : Result ℕ E) (n : ℕ) (text : List ℕ) → n < 2 ^ 64 → text ≡ decimal n → ParsesUnsigned 64 10 text r → r ≡ Ok n
is_read r n text small is h = parse-decimal 64 n text r (omega arith) (omega arith) is h

is_not_refused : {E : Type 0} (r : Result ℕ E) (n : ℕ) (e : E) → r ≡ Err e → r ≡ Ok n → ⊥
is_not_refused r n e a b = cc

same_number : {E : Type 0} (r : Result ℕ E) (m n : ℕ) → r ≡ Ok m → r ≡ Ok n → m ≡ n
same_number r m n a b = cc

differs : (xs ys : List ℕ) (b : Bool) → b ≡ bytes_eq xs ys → b ≡ false → xs ≡ ys → ⊥
differs xs ys b a n e = let t = (bytes_eq-Decides xs ys).1 e in cc

pub returns-in_default-clause-none : goal.returns-in_default-clause-none
returns-in_default-clause-none c = λ n small e.
    is_not_refused c.parse.result n _ c.in_default.is (is_read c.parse.result n c.args.text.now small e c.parse.ensures.value.0)

pub returns-else-eq-clause-none : goal.returns-else-eq-clause-none
returns-else-eq-clause-none c = λ n small e.
    let is : c.in-Ok.number ≡ n = same_number c.parse.result _ _ c.in-Ok.is (is_read c.parse.result n c.args.text.now small e c.parse.ensures.value.0) in
    differs _ _ _ c.eq.ensures c.if-eq.false (c.format.ensures.text ∙ ap decimal is ∙ sym e)
