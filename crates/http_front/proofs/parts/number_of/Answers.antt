use Rattle.std.proofs.Common.{ℕ, ◌-◌, List, get_or, arith}
use Rattle.std.proofs.lemmas.Int.Digits.{digits_value_more}
use Rattle.http_front.proofs.PartLemmas.{digit_at, next_fits}
use Rattle.http_front.proofs.parts.number_of.Goals as goal

pub overflow_mul-number : goal.overflow_mul-number
overflow_mul-number c =
    let ds : List ℕ = c.args.digits.now in
    let i : ℕ = c.loop-digit.digit-index in
    let digit = digit_at ds i c.requires c.loop-digit-test.true in
    omega (arith, next_fits ds i c.loop-digit.number (get_or ds i 0 - 48) c.requires c.loop-digit-test.true c.loop-digit.invariant digit.2)

pub overflow_add-number : goal.overflow_add-number
overflow_add-number c =
    let ds : List ℕ = c.args.digits.now in
    let i : ℕ = c.loop-digit.digit-index in
    let digit = digit_at ds i c.requires c.loop-digit-test.true in
    omega (arith, c.from.ensures, next_fits ds i c.loop-digit.number (get_or ds i 0 - 48) c.requires c.loop-digit-test.true c.loop-digit.invariant digit.2)

pub loop-digit-preserved : goal.loop-digit-preserved
loop-digit-preserved c =
    let ds : List ℕ = c.args.digits.now in
    let i : ℕ = c.loop-digit.digit-index in
    let digit = digit_at ds i c.requires c.loop-digit-test.true in
    omega (arith, c.from.ensures, c.loop-digit.invariant, digit.2, digits_value_more 10 ds i c.loop-digit-test.true)
