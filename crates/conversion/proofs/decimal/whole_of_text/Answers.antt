use Rattle.std.proofs.Common.{◌≡◌, sym, ◌∙◌, ap, subst}
use Rattle.std.specs.Int.{w64}
use Rattle.std.proofs.lemmas.Int.{to_z-of_z}
use Rattle.fields.specs.Table.{IsInt64}
use Rattle.std.specs.Fmt.{signed_decimal}
use Rattle.conversion.proofs.DecimalLemmas.{read_decimal, not_refused, same_read, differs}
use Rattle.conversion.proofs.decimal.whole_of_text.Goals as goal

pub returns-in_default-clause-none : goal.returns-in_default-clause-none
returns-in_default-clause-none c = λ z whole e. not_refused c.parse.result z c.in_default.field-0 c.in_default.is (read_decimal z c.args.text.now c.parse.result whole e c.parse.ensures.value.0)

pub returns-else-eq-clause-none : goal.returns-else-eq-clause-none
returns-else-eq-clause-none c = λ z whole e.
    let is : c.in-Ok.number ≡ z = same_read c.parse.result c.in-Ok.number z c.in-Ok.is (read_decimal z c.args.text.now c.parse.result whole e c.parse.ensures.value.0) in
    let fits : IsInt64 c.in-Ok.number = subst IsInt64 (sym is) whole in
    let printed : c.format.result.now ≡ signed_decimal c.in-Ok.number = c.format.ensures.text ∙ ap signed_decimal (to_z-of_z w64 c.in-Ok.number fits) in
    differs c.format.result.now c.args.text.now c.eq.result c.eq.ensures c.if-eq.false (printed ∙ ap signed_decimal is ∙ sym e)
