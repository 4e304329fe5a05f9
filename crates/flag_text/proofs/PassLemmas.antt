-- A pass over pieces that stops at its first fault.
use Rattle.std.proofs.Common.{◌≡◌, ◌⊎◌, inl, inr, ap₂, ℕ, ◌+◌, ◌<◌, ◌≤◌, Bool, true, List, Option, Some, None, IsSome, All, length, take, get_or, refl, sym, ◌∙◌, ap, subst}
use Rattle.std.proofs.lemmas.List.{take_all}
use Rattle.std.proofs.lemmas.List.Elements.{All-more, All-weaker, All-from_recursion}
use Rattle.std.specs.Option.{is_some, option_and_then}
use Rattle.basis.proofs.FirstLemmas.{first_at as at_read, first_refutes as refutes, first_is_one, first_or_none}
use Rattle.flag_text.specs.Pieces.{FlagPiece}
use Rattle.flag_text.specs.Passes.{StopsAt, HasBoolean, LacksBoolean}
use Rattle.flag_text.specs.Said.{said}
use Rattle.flag_text.specs.Words.{bool_of}
use Rattle.flag_text.specs.declared.pass.PairCause.{PairCause}
use Rattle.flag_text.specs.declared.pass.PairCause.TheVariants.{NoValue, NoBoolean}
use Rattle.flag_text.specs.declared.vocabulary.Vocabulary.{Vocabulary}

pub first_at : (Fine Faulty : FlagPiece → Type 0) (ps : List FlagPiece) (k : ℕ) (p : FlagPiece) (place : ℕ) → k < length ps → p ≡ get_or ps k p → All Fine (take k ps) → Faulty p → p.place ≡ place → StopsAt Fine Faulty ps place
first_at Fine Faulty ps k p place below is fine faulty at = record { piece = p; first = at_read Fine Faulty ps k p below is fine faulty; at = at }

pub fine_more : (Fine : FlagPiece → Type 0) (ps : List FlagPiece) (k : ℕ) (p : FlagPiece) → k < length ps → p ≡ get_or ps k p → All Fine (take k ps) → Fine p → All Fine (take (k + 1) ps)
fine_more Fine ps k p below is fine here = All-more Fine ps k p below fine (subst Fine is here)

pub fine_all : (Fine : FlagPiece → Type 0) (ps : List FlagPiece) (k : ℕ) → length ps ≤ k → All Fine (take k ps) → All Fine ps
fine_all Fine ps k whole fine = subst (λ qs. All Fine qs) (take_all k ps whole) fine

pub first_refutes : (Fine Faulty : FlagPiece → Type 0) (ps : List FlagPiece) (place : ℕ) → ((p : FlagPiece) → Faulty p → Fine p → ⊥) → StopsAt Fine Faulty ps place → All Fine ps → ⊥
first_refutes Fine Faulty ps place apart h all = refutes Fine Faulty ps h.piece (apart h.piece) h.first all

-- where the cause is determined by the piece, the fault is one
pub one_at : {C F : Type 0} (At : ℕ → C → F) (Fine : FlagPiece → Type 0) (Faulty : FlagPiece → C → Type 0) (ps : List FlagPiece) (m n : ℕ) (c d : C) → ((p : FlagPiece) (c : C) → Faulty p c → Fine p → ⊥)
    → ((p : FlagPiece) (c d : C) → Faulty p c → Faulty p d → c ≡ d) → StopsAt Fine (λ p. Faulty p c) ps m → StopsAt Fine (λ p. Faulty p d) ps n → At m c ≡ At n d
one_at At Fine Faulty ps m n c d apart one h k =
    let same : h.piece ≡ k.piece = first_is_one Fine (λ p. Faulty p c) (λ p. Faulty p d) ps h.piece k.piece (λ p. apart p c) (λ p. apart p d) h.first k.first in
    let place : m ≡ n = sym h.at ∙ ap (λ p. p.place) same ∙ k.at in
    let cause : c ≡ d = one h.piece c d h.first.faulty (subst (λ p. Faulty p d) (sym same) k.first.faulty) in
    ap₂ At place cause

-- the same first piece by other tests
pub first_with : (Fine Other F G : FlagPiece → Type 0) (ps : List FlagPiece) (place : ℕ) → ((p : FlagPiece) → Fine p → Other p) → (h : StopsAt Fine F ps place) → G h.piece → StopsAt Other G ps place
first_with Fine Other F G ps place fine h faulty = record {
  piece = h.piece;
  first = record {
    before = h.first.before;
    after = h.first.after;
    whole = h.first.whole;
    fine = All-weaker Fine Other fine h.first.before h.first.fine;
    faulty = faulty;
  };
  at = h.at;
}

-- where each piece is fine or faulty, all are fine or the pass stops
pub stops_or_none : {C : Type 0} (Fine : FlagPiece → Type 0) (Faulty : FlagPiece → C → Type 0) (ps : List FlagPiece) → ((p : FlagPiece) → Fine p ⊎ ((c : C) × Faulty p c))
    → All Fine ps ⊎ ((place : ℕ) × (c : C) × StopsAt Fine (λ p. Faulty p c) ps place)
stops_or_none {C = C} Fine Faulty ps either = elim (first_or_none Fine (λ p. (c : C) × Faulty p c) ps either) [
  | inl all ↦ inl (All-from_recursion Fine ps all)
  | inr (p, first) ↦ inr (
    p.place,
    first.faulty.0,
    record {
      piece = p;
      first = record { before = first.before; after = first.after; whole = first.whole; fine = first.fine; faulty = first.faulty.1 };
      at = refl;
    },
  )
]

no_boolean : (words : Vocabulary) (o : Option (List ℕ)) → o ≡ None → is_some (option_and_then (bool_of words) o) ≡ true → ⊥
no_boolean words o none some = let e : is_some (option_and_then (bool_of words) None) ≡ true = subst (λ v. is_some (option_and_then (bool_of words) v) ≡ true) none some in cc

-- a piece is a pair, or isn't for one cause
pub pair_refutes : (words : Vocabulary) (p : FlagPiece) (c : PairCause) → LacksBoolean words p c → HasBoolean words p → ⊥
pair_refutes words p NoValue h a = no_boolean words p.value h a
pair_refutes words p NoBoolean h a = let e : is_some {T = Bool} None ≡ true = subst (λ o. is_some o ≡ true) h.1 a in cc

cause_by : (words : Vocabulary) (p : FlagPiece) (value : Option (List ℕ)) (boolean : Option Bool) → p.value ≡ value → said words p ≡ boolean → HasBoolean words p ⊎ ((c : PairCause) × LacksBoolean words p c)
cause_by words p value (Some b) is says = inl (ap is_some says)
cause_by words p None None is says = inr (NoValue, is)
cause_by words p (Some word) None is says = inr (NoBoolean, (ap is_some is, says))

pub pair_or_not : (words : Vocabulary) (p : FlagPiece) → HasBoolean words p ⊎ ((c : PairCause) × LacksBoolean words p c)
pair_or_not words p = cause_by words p p.value (said words p) refl refl

valued : (o : Option (List ℕ)) → o ≡ None → IsSome o → ⊥
valued None none some = cc
valued (Some word) none some = cc

pub one_pair_cause : (words : Vocabulary) (p : FlagPiece) (c d : PairCause) → LacksBoolean words p c → LacksBoolean words p d → c ≡ d
one_pair_cause words p NoValue NoValue h k = refl
one_pair_cause words p NoBoolean NoBoolean h k = refl
one_pair_cause words p NoValue NoBoolean h k = absurd (valued p.value h k.0)
one_pair_cause words p NoBoolean NoValue h k = absurd (valued p.value k h.0)
