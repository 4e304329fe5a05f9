-- The test goes over the segments of the text, and answers true exactly where each is one.
use Rattle.std.proofs.Common.{rules, tests, ◌↔◌, ◌≡◌, ◌<◌, ℕ, length, Bool, true, false, List, [], All, IsTrue, MatchBool, arith}
use Rattle.std.specs.List.{AllWithin, HoldsAt}
use Rattle.std.proofs.lemmas.Iterator.{cases_from_all}
use Rattle.std.proofs.lemmas.Iterator.Splits.{YieldsList-from_str_split}
use Rattle.basis.specs.Names.{BeginsLower, IsLetterOrDigit}
use Rattle.history_reader.proofs.words.are_segments.Goals as goal

decides_all : (P : List ℕ → Type 0) (xs : List (List ℕ)) (r : Bool) → MatchBool r (AllWithin P xs 0 (length xs)) ((k : ℕ) × (k < length xs) × HoldsAt (λ x. P x → ⊥) xs k) → IsTrue r ↔ All P xs
decides_all P xs true h = ((λ _ k d below. h k d (omega arith) below), (λ _. search rules))
decides_all P xs false h = ((λ t. absurd (let e : false ≡ true = t in cc)), (λ all. absurd (h.2 [] (all h.0 [] h.1))))

pub returns : goal.returns
returns c = decides_all (BeginsLower 32 IsLetterOrDigit) _ c.all.result
    (cases_from_all _ _ _ (BeginsLower 32 IsLetterOrDigit) (λ x. BeginsLower 32 IsLetterOrDigit x → ⊥) c.all.ensures.ran
    (YieldsList-from_str_split 46 c.args.text.now (omega arith) c.split.ensures.text c.split.ensures.has_more c.split.ensures.pattern)
    (λ x q k. search (rules, tests)) (λ x q k. search (rules, tests)))
