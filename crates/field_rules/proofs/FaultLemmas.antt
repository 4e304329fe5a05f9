-- Which fault each test finds, behind those that find none.
use Rattle.std.proofs.Common.{ℕ, refl, inl, inr}
use Rattle.schemas.specs.declared.array.Array.TheVariants.{Field as FieldArray, Spell as SpellArray}
use Rattle.schemas.specs.Places.{Each, Breaks, IsLeast}
use Rattle.schemas.proofs.PlaceLemmas.{unbroken}
use Rattle.schemas.specs.FieldRules.{BelongsToResource, IsRequiredFairly, HasKnownGate, IsSpelledThroughout}
use Rattle.schemas.specs.Dated.{Dated}
use Rattle.schemas.specs.Rules.{first_of, field_checks, IsUnbroken, IsFirstFault}
use Rattle.schemas.specs.SpellRules.{SpellsPairOnce, HasOwnPath, FitsField}

abbrev pub EachBelongs : Dated → Type 0
EachBelongs h = Each (BelongsToResource (first_of h) h.apis) h.fields

abbrev pub FirstBelongs : Dated → ℕ → Type 0
FirstBelongs h n = IsLeast (Breaks (BelongsToResource (first_of h) h.apis) h.fields) n

abbrev pub EachRequired : Dated → Type 0
EachRequired h = Each (IsRequiredFairly h.apis) h.fields

abbrev pub FirstRequired : Dated → ℕ → Type 0
FirstRequired h n = IsLeast (Breaks (IsRequiredFairly h.apis) h.fields) n

abbrev pub EachGated : Dated → Type 0
EachGated h = Each (HasKnownGate (first_of h) h.gates) h.fields

abbrev pub FirstGated : Dated → ℕ → Type 0
FirstGated h n = IsLeast (Breaks (HasKnownGate (first_of h) h.gates) h.fields) n

abbrev pub EachSpelled : Dated → Type 0
EachSpelled h = Each (IsSpelledThroughout h.apis h.spells) h.fields

abbrev pub FirstSpelled : Dated → ℕ → Type 0
FirstSpelled h n = IsLeast (Breaks (IsSpelledThroughout h.apis h.spells) h.fields) n

abbrev pub EachPaired : Dated → Type 0
EachPaired h = Each (SpellsPairOnce h.apis h.fields) h.spells

abbrev pub FirstPaired : Dated → ℕ → Type 0
FirstPaired h n = IsLeast (Breaks (SpellsPairOnce h.apis h.fields) h.spells) n

abbrev pub EachOwnPath : Dated → Type 0
EachOwnPath h = Each (HasOwnPath) h.spells

abbrev pub FirstOwnPath : Dated → ℕ → Type 0
FirstOwnPath h n = IsLeast (Breaks (HasOwnPath) h.spells) n

abbrev pub EachFits : Dated → Type 0
EachFits h = Each (FitsField h.fields) h.spells

abbrev pub FirstFits : Dated → ℕ → Type 0
FirstFits h n = IsLeast (Breaks (FitsField h.fields) h.spells) n

pub belongs_fault : (h : Dated) (n : ℕ) → FirstBelongs h n → IsFirstFault h field_checks 11 FieldArray n
belongs_fault h n first = inl (refl, refl, first)

pub required_fault : (h : Dated) (n : ℕ) → EachBelongs h → FirstRequired h n → IsFirstFault h field_checks 12 FieldArray n
required_fault h n e0 first = inr (unbroken (BelongsToResource (first_of h) h.apis) h.fields e0, inl (refl, refl, first))

pub gated_fault : (h : Dated) (n : ℕ) → EachBelongs h → EachRequired h → FirstGated h n → IsFirstFault h field_checks 13 FieldArray n
gated_fault h n e0 e1 first = inr (unbroken (BelongsToResource (first_of h) h.apis) h.fields e0, inr (unbroken (IsRequiredFairly h.apis) h.fields e1, inl (refl, refl, first)))

pub spelled_fault : (h : Dated) (n : ℕ) → EachBelongs h → EachRequired h → EachGated h → FirstSpelled h n → IsFirstFault h field_checks 14 FieldArray n
spelled_fault h n e0 e1 e2 first = inr (unbroken (BelongsToResource (first_of h) h.apis) h.fields e0, inr (unbroken (IsRequiredFairly h.apis) h.fields e1, inr (unbroken (HasKnownGate (first_of h) h.gates) h.fields e2, inl (refl, refl, first))))

pub paired_fault : (h : Dated) (n : ℕ) → EachBelongs h → EachRequired h → EachGated h → EachSpelled h → FirstPaired h n → IsFirstFault h field_checks 14 SpellArray n
paired_fault h n e0 e1 e2 e3 first = inr (unbroken (BelongsToResource (first_of h) h.apis) h.fields e0, inr (unbroken (IsRequiredFairly h.apis) h.fields e1, inr (unbroken (HasKnownGate (first_of h) h.gates) h.fields e2, inr (unbroken (IsSpelledThroughout h.apis h.spells) h.fields e3, inl (refl, refl, first)))))

pub own_path_fault : (h : Dated) (n : ℕ) → EachBelongs h → EachRequired h → EachGated h → EachSpelled h → EachPaired h → FirstOwnPath h n → IsFirstFault h field_checks 15 SpellArray n
own_path_fault h n e0 e1 e2 e3 e4 first = inr (unbroken (BelongsToResource (first_of h) h.apis) h.fields e0, inr (unbroken (IsRequiredFairly h.apis) h.fields e1, inr (unbroken (HasKnownGate (first_of h) h.gates) h.fields e2, inr (unbroken (IsSpelledThroughout h.apis h.spells) h.fields e3, inr (unbroken (SpellsPairOnce h.apis h.fields) h.spells e4, inl (refl, refl, first))))))

pub fits_fault : (h : Dated) (n : ℕ) → EachBelongs h → EachRequired h → EachGated h → EachSpelled h → EachPaired h → EachOwnPath h → FirstFits h n → IsFirstFault h field_checks 16 SpellArray n
fits_fault h n e0 e1 e2 e3 e4 e5 first = inr (unbroken (BelongsToResource (first_of h) h.apis) h.fields e0, inr (unbroken (IsRequiredFairly h.apis) h.fields e1, inr (unbroken (HasKnownGate (first_of h) h.gates) h.fields e2, inr (unbroken (IsSpelledThroughout h.apis h.spells) h.fields e3, inr (unbroken (SpellsPairOnce h.apis h.fields) h.spells e4, inr (unbroken (HasOwnPath) h.spells e5, inl (refl, refl, first)))))))

pub no_fault : (h : Dated) → EachBelongs h → EachRequired h → EachGated h → EachSpelled h → EachPaired h → EachOwnPath h → EachFits h → IsUnbroken h field_checks
no_fault h e0 e1 e2 e3 e4 e5 e6 = (
  unbroken (BelongsToResource (first_of h) h.apis) h.fields e0,
  (
    unbroken (IsRequiredFairly h.apis) h.fields e1,
    (
      unbroken (HasKnownGate (first_of h) h.gates) h.fields e2,
      (
        unbroken (IsSpelledThroughout h.apis h.spells) h.fields e3,
        (unbroken (SpellsPairOnce h.apis h.fields) h.spells e4, (unbroken HasOwnPath h.spells e5, (unbroken (FitsField h.fields) h.spells e6, tt))),
      ),
    ),
  ),
)
