use Rattle.std.proofs.Common.{◌≡◌, ◌<◌, [], length, ap, sym, ◌∙◌, rules, tests, arith, Some}
use Rattle.http_front.proofs.PartLemmas.{lawful_empty, lawful_many, lawful_one, unlawful_one}
use Rattle.http_front.proofs.parts.lawful_length.Goals as goal

pub returns-then-is_empty : goal.returns-then-is_empty
returns-then-is_empty c =
    let none : length c.args.values.now ≡ 0 = search (rules, tests) in
    lawful_empty c.args.values.now none

pub returns-then-values-gt-MOST_LENGTHS : goal.returns-then-values-gt-MOST_LENGTHS
returns-then-values-gt-MOST_LENGTHS c = lawful_many c.args.values.now (omega arith)

pub returns-then-is_length_text : goal.returns-then-is_length_text
returns-then-is_length_text c =
    let some : 0 < length c.args.values.now = search (rules, tests) in
    ap Some c.number_of.ensures ∙ lawful_one c.args.values.now (record { ref_ptr = (0, 0); now = [] }) some (omega arith) (sym c.is_length_text.ensures ∙ c.if-is_length_text.true)

pub returns-else-is_length_text : goal.returns-else-is_length_text
returns-else-is_length_text c =
    let some : 0 < length c.args.values.now = search (rules, tests) in
    unlawful_one c.args.values.now (record { ref_ptr = (0, 0); now = [] }) some (omega arith) (sym c.is_length_text.ensures ∙ c.if-is_length_text.false)
