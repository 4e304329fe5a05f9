use Rattle.std.proofs.Common.{◌≡◌, sym, ◌∙◌, ap}
use Rattle.std.proofs.lemmas.Slice.Eq.{bytes_eq-Decides, slice_eq-Decides}
use Rattle.fields.specs.declared.value.FieldValue.TheVariants.{List as Texts}
use Rattle.fields.proofs.value.FieldValue.same.Goals as goal

pub returns-in-List-List : goal.returns-in-List-List
returns-in-List-List c =
    let says = slice_eq-Decides bytes_eq-Decides c.items.result.now c.items-in-List-List.result.now c.eq-in-List-List.result c.eq-in-List-List.ensures in (
      λ h. (let e : c.items.result.now ≡ c.items-in-List-List.result.now = says.0 h in let l : Texts c.in-List-List.one ≡ Texts c.in-List-List.other = ap Texts (sym c.items.ensures ∙ e ∙ c.items-in-List-List.ensures) in cc),
      λ h. says.1 (let l : Texts c.in-List-List.one ≡ Texts c.in-List-List.other = cc in let k : c.in-List-List.one ≡ c.in-List-List.other = cc in cc),
    )
