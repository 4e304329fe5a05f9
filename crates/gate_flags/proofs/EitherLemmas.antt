-- A text is valid or has a fault.
use Rattle.std.proofs.Common.{◌≡◌, ◌⊎◌, inl, inr, ℕ, Bool, true, false, List, Option, Some, None, refl, sym, ◌∙◌}
use Rattle.std.specs.Prelude.{codes}
use Rattle.std.specs.Str.{bytes_eq}
use Rattle.std.proofs.lemmas.Bool.{cases_Bool, false≢true}
use Rattle.std.proofs.lemmas.Slice.Eq.{bytes_eq-Decides}
use Rattle.gate_spec.specs.declared.entry.GateEntry.{GateEntry}
use Rattle.gate_spec.specs.declared.entry.SpecAt.{SpecAt}
use Rattle.gate_spec.specs.declared.entry.SpecAt.TheVariants.{Found, Removed, Never, PreAlpha as ComesLater}
use Rattle.gate_spec.specs.Gates.{RisesInDate, cutoff, IsSpecAt}
use Rattle.gate_spec.proofs.ThereLemmas.{spec_there}
use Rattle.flag_text.specs.Pieces.{FlagPiece, pieces}
use Rattle.flag_text.specs.Said.{said}
use Rattle.flag_text.specs.declared.vocabulary.Vocabulary.TheVariants.{Go}
use Rattle.flag_text.proofs.PassLemmas.{pair_or_not}
use Rattle.flag_text.proofs.TwoPassLemmas.{stop_or_none}
use Rattle.flag_text.specs.Passes.{LacksBoolean}
use Rattle.flag_text.specs.declared.pass.PairCause.{PairCause}
use Rattle.flag_text.specs.declared.pass.PairCause.TheVariants.{NoValue, NoBoolean}
use Rattle.gate_flags.specs.Flags.{IsAssignment, IsAllWord, IsAccepted, HasFault, IsRefused}
use Rattle.gate_flags.specs.Laws.{IsValidOrFaulty}
use Rattle.gate_flags.specs.declared.fault.GateCause.{GateCause}
use Rattle.gate_flags.specs.declared.fault.GateCause.TheVariants.{Missing, BadBool, Unknown, PreAlpha, Locked}
use Rattle.gate_flags.specs.declared.fault.GateFault.TheVariants.{At}

named : (p : FlagPiece) (c : PairCause) → LacksBoolean Go p c → (d : GateCause) × HasFault p d
named p NoValue h = (Missing, h)
named p NoBoolean h = (BadBool, h)

fine_or_not : (p : FlagPiece) → IsAssignment p ⊎ ((c : GateCause) × HasFault p c)
fine_or_not p = elim (pair_or_not Go p) [ inl fine ↦ inl fine | inr (c, h) ↦ inr (named p c h) ]

is_text : (a b : List ℕ) → (a ≡ b) ⊎ (a ≡ b → ⊥)
is_text a b = elim (cases_Bool (bytes_eq a b)) [
  | inl holds ↦ inl ((bytes_eq-Decides a b).0 holds)
  | inr fails ↦ inr (λ same. false≢true (sym fails ∙ (bytes_eq-Decides a b).1 same))
]

is_all_word : (name : List ℕ) → IsAllWord name ⊎ (IsAllWord name → ⊥)
is_all_word name = elim (is_text name (codes "AllAlpha")) [
  | inl alpha ↦ inl (inl alpha)
  | inr other ↦ elim (is_text name (codes "AllBeta")) [
    | inl beta ↦ inl (inr beta)
    | inr neither ↦ inr (λ word. elim word [ inl alpha ↦ other alpha | inr beta ↦ neither beta ])
  ]
]

says_or_not : (o : Option Bool) (d : Bool) → (o ≡ Some d) ⊎ (o ≡ Some d → ⊥)
says_or_not None d = inr (λ same. cc)
says_or_not (Some true) true = inl refl
says_or_not (Some false) false = inl refl
says_or_not (Some true) false = inr (λ same. let e : true ≡ false = cc in cc)
says_or_not (Some false) true = inr (λ same. let e : false ≡ true = cc in cc)

module _ (entries : List GateEntry) (e : ℕ) (p : FlagPiece) (other : IsAllWord p.name → ⊥) where
  by_spec : (s : SpecAt) → IsSpecAt entries p.name e s → IsAccepted (cutoff entries e) p ⊎ ((c : GateCause) × IsRefused entries e p c)
  by_spec (Found stage default true) h = elim (says_or_not (said Go p) default) [
    | inl holds ↦ inl (inr (stage, default, true, h, λ _. holds))
    | inr fails ↦ inr (Locked default, (other, (stage, h), fails))
  ]
  by_spec (Found stage default false) h = inl (inr (stage, default, false, h, λ locked. absurd (false≢true locked)))
  by_spec (Removed value) h = inr (Unknown, (other, inr (value, h)))
  by_spec ComesLater h = inr (PreAlpha, (other, h))
  by_spec Never h = inr (Unknown, (other, inl h))

accepted_or_not : (entries : List GateEntry) (e : ℕ) → RisesInDate entries → (p : FlagPiece) → IsAccepted (cutoff entries e) p ⊎ ((c : GateCause) × IsRefused entries e p c)
accepted_or_not entries e up p = elim (is_all_word p.name) [
  | inl word ↦ inl (inl word)
  | inr other ↦ (let there = spec_there entries p.name e up in by_spec entries e p other there.0 there.1)
]

pub valid_or_faulty : (entries : List GateEntry) (e : ℕ) (text : List ℕ) → RisesInDate entries → IsValidOrFaulty entries e text
valid_or_faulty entries e text up =
    elim (stop_or_none IsAssignment (IsAccepted (cutoff entries e)) HasFault (IsRefused entries e) (pieces text) fine_or_not (accepted_or_not entries e up)) [
      | inl good ↦ inl (record { assignments = good.0; accepted = good.1 })
      | inr stop ↦ inr (At stop.0 stop.1, (λ same. cc), stop.2)
    ]
