use Rattle.std.proofs.Common.{◌≡◌, ◌↔◌, List, IsTrue, Bool, subst, ap}
use Rattle.fields.specs.Map.{IsMap, value_at, AreAlike}
use Rattle.fields.specs.declared.map.FieldPair.{FieldPair}
use Rattle.fields.proofs.MapLemmas.{one_list}
use Rattle.fields.proofs.map.Fields.same.Goals as goal

-- equal lists hold the same, and lists in order that hold the same are equal
alike : (r : Bool) (ps qs : List FieldPair) → IsMap ps → IsMap qs → IsTrue r ↔ (ps ≡ qs) → IsTrue r ↔ AreAlike ps qs
alike r ps qs up vp h = (λ t id. ap (λ (xs : List FieldPair). value_at xs id) (h.0 t), λ same. h.1 (one_list ps qs up vp same))

pub returns-clause-alike : goal.returns-clause-alike
returns-clause-alike c =
    subst (λ (ps : List FieldPair). IsTrue c.same_pairs.result ↔ AreAlike ps c.args.other.now) c.pairs.ensures.value
    (subst (λ (ps : List FieldPair). IsTrue c.same_pairs.result ↔ AreAlike c.pairs.result.now ps) c.pairs-2.ensures.value
    (alike c.same_pairs.result c.pairs.result.now c.pairs-2.result.now c.pairs.ensures.map c.pairs-2.ensures.map c.same_pairs.ensures))
