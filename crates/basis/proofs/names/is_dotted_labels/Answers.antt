-- The test goes over the parts of the text, and answers true exactly where each is a label.
use Rattle.std.proofs.Common.{rules, tests, ◌↔◌, ◌≡◌, ◌==◌, ◌<◌, ℕ, length, Bool, true, false, List, [], All, IsTrue, MatchBool, arith}
use Rattle.std.specs.List.{AllWithin, HoldsAt}
use Rattle.std.proofs.lemmas.Iterator.{cases_from_all}
use Rattle.std.proofs.lemmas.Iterator.Splits.{YieldsList-from_slice_split}
use Rattle.basis.specs.Names.{IsLabel}
use Rattle.basis.proofs.names.is_dotted_labels.Goals as goal

decides_all : (P : List ℕ → Type 0) (xs : List (List ℕ)) (r : Bool) → MatchBool r (AllWithin P xs 0 (length xs)) ((k : ℕ) × (k < length xs) × HoldsAt (λ x. P x → ⊥) xs k) → IsTrue r ↔ All P xs
decides_all P xs true h = ((λ _ k d below. h k d (omega arith) below), (λ _. search rules))
decides_all P xs false h = ((λ t. absurd (let e : false ≡ true = t in cc)), (λ all. absurd (h.2 [] (all h.0 [] h.1))))

pub returns : goal.returns
returns c = decides_all IsLabel _ c.all.result
    (cases_from_all _ _ _ IsLabel (λ x. IsLabel x → ⊥) c.all.ensures.ran
    (YieldsList-from_slice_split _ (λ b. b == 46) c.args.text.now c.split.ensures.rest c.split.ensures.done c.split.ensures.closure (λ x r q k. search (rules, tests)))
    (λ x q k. search (rules, tests)) (λ x q k. search (rules, tests)))
