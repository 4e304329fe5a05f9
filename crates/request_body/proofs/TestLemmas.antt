-- Conditions that are given, and lists whose items pass one after another.
use Rattle.std.proofs.Common.{◌≡◌, ◌↔◌, ℕ, ◌+◌, ◌<◌, Bool, true, false, List, [], ◌∷◌, ◌++◌, length, get_or, take, Option, Some, All, refl, sym, ◌∙◌, ap, subst}
use Rattle.std.proofs.lemmas.List.{take_more}
use Rattle.std.proofs.lemmas.List.Elements.{All-push}
use Rattle.std.specs.Prelude.{IsTrue, not}
use Rattle.request_body.specs.Writes.{IsAnother, IsCondition}
use Rattle.serde_json.specs.Data.{Data, string}

one_text : (o : Option Data) (a b : List ℕ) → o ≡ Some (string a) → o ≡ Some (string b) → a ≡ b
one_text o a b h k = cc

-- a condition that is given, and whether it is the object's own text
pub another : (o : Option Data) (own text : List ℕ) (b : Bool) → IsCondition o text → IsTrue b ↔ (text ≡ own) → IsTrue (not b) ↔ IsAnother o own
another o own text true c h = (λ t. absurd cc, λ k. absurd (let same : text ≡ k.0 = one_text o text k.0 c.0 k.1.0 in k.2 (sym same ∙ h.0 refl)))
another o own text false c h = (λ t. (text, c, λ e. (let t = h.1 e in cc)), λ k. refl)

-- one more item that passes
pub all_more : {A : Type 0} (P : A → Type 0) (xs : List A) (i : ℕ) (x : A) → i < length xs → x ≡ get_or xs i x → All P (take i xs) → P x → All P (take (i + 1) xs)
all_more P xs i x below is all here = subst (All P) (sym (take_more xs i x below ∙ ap (λ y. take i xs ++ y ∷ []) (sym is))) (All-push P (take i xs) x all here)
