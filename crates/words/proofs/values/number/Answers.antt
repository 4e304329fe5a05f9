-- A number out of the range is the only one that the text is of.
use Rattle.std.proofs.Common.{◌≡◌, ℕ, ◌≤◌, List, [], ◌∷◌, decimal, sym, ◌∙◌, arith}
use Rattle.std.proofs.lemmas.Fmt.{decimal_injective}
use Rattle.words.proofs.KindLemmas.{not_both}
use Rattle.words.proofs.values.number.Goals as goal

same_text : (values : List (List ℕ)) (t u : List ℕ) → values ≡ t ∷ [] → values ≡ u ∷ [] → t ≡ u
same_text values t u h k = let e = sym h ∙ k in cc

pub returns-else-is_between-clause-usage : goal.returns-else-is_between-clause-usage
returns-else-is_between-clause-usage c = λ n h.
    let m = c.in-Some-decimal_number.n in
    let texts : decimal n ≡ decimal m = same_text _ _ _ h.0 c.in-Some.ensures.some ∙ c.in-Some-decimal_number.ensures.some in
    let same : n ≡ m = decimal_injective n m (omega arith) (omega arith) texts in
    let holds : (c.args.low ≤ m) × (m ≤ c.args.high) = (omega arith, omega arith) in
    let yes = c.is_between.ensures.1 holds in
    not_both c.is_between.result c.if-is_between.false yes
