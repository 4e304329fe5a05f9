-- A text is valid or has a fault.
use Rattle.std.proofs.Common.{◌≡◌, ◌⊎◌, inl, inr, ℕ, Bool, true, false, List, [], ◌∷◌, Option, Some, None, refl, sym, ◌∙◌, ap}
use Rattle.std.specs.Str.{bytes_eq}
use Rattle.std.proofs.lemmas.Bool.{cases_Bool, false≢true}
use Rattle.std.proofs.lemmas.Slice.Eq.{bytes_eq-Decides}
use Rattle.flag_text.specs.Pieces.{FlagPiece, pieces, last_pieces}
use Rattle.flag_text.specs.Said.{said}
use Rattle.flag_text.specs.declared.vocabulary.Vocabulary.TheVariants.{Plain}
use Rattle.flag_text.proofs.PassLemmas.{pair_or_not}
use Rattle.flag_text.proofs.TwoPassLemmas.{stop_or_none}
use Rattle.flag_text.specs.Passes.{LacksBoolean}
use Rattle.flag_text.specs.declared.pass.PairCause.{PairCause}
use Rattle.flag_text.specs.declared.pass.PairCause.TheVariants.{NoValue, NoBoolean}
use Rattle.lifecycle.specs.Tables.{cutoff}
use Rattle.lifecycle.specs.declared.entry.ApiEntry.{ApiEntry}
use Rattle.runtime_config.specs.Config.{IsPair, IsTakenKey, IsOnlyAllFalse, HasFault, IsRefused, names_some, names_introduced, names_live}
use Rattle.runtime_config.specs.Keys.{all_key, is_api_key}
use Rattle.runtime_config.specs.Laws.{IsValidOrFaulty}
use Rattle.runtime_config.specs.declared.fault.ConfigCause.{ConfigCause}
use Rattle.runtime_config.specs.declared.fault.ConfigCause.TheVariants.{BadPair, BadBool, UnknownApi, AfterEmulated, RemovedApi}
use Rattle.runtime_config.specs.declared.fault.ConfigFault.TheVariants.{At, OnlyAllFalse}

named : (p : FlagPiece) (c : PairCause) → LacksBoolean Plain p c → (d : ConfigCause) × HasFault p d
named p NoValue h = (BadPair, h)
named p NoBoolean h = (BadBool, h)

fine_or_not : (p : FlagPiece) → IsPair p ⊎ ((c : ConfigCause) × HasFault p c)
fine_or_not p = elim (pair_or_not Plain p) [ inl fine ↦ inl fine | inr (c, h) ↦ inr (named p c h) ]

taken_or_not : (entries : List ApiEntry) (e : ℕ) (p : FlagPiece) → IsTakenKey (cutoff entries e) p.name ⊎ ((c : ConfigCause) × IsRefused entries e p c)
taken_or_not entries e p = elim (cases_Bool (is_api_key p.name)) [
  | inl api ↦ inl (inl api)
  | inr other ↦ elim (cases_Bool (names_live p.name (cutoff entries e))) [
    | inl there ↦ inl (inr there)
    | inr gone ↦ elim (cases_Bool (names_introduced p.name (cutoff entries e))) [
      | inl once ↦ inr (RemovedApi, record { no_api_key = other; none_live = gone; introduced = once })
      | inr never ↦ elim (cases_Bool (names_some p.name entries)) [
        | inl some ↦ inr (AfterEmulated, record { no_api_key = other; something = some; none_live = gone; none_introduced = never })
        | inr nothing ↦ inr (UnknownApi, record { no_api_key = other; nothing = nothing })
      ]
    ]
  ]
]

says_off : (o : Option Bool) → (o ≡ Some false) ⊎ (o ≡ Some false → ⊥)
says_off None = inr (λ same. cc)
says_off (Some false) = inl refl
says_off (Some true) = inr (λ same. let e : true ≡ false = cc in cc)

-- of lists of one piece only that of `api/all=false` is all off
only_one : (ps last : List FlagPiece) → last_pieces ps ≡ last → IsOnlyAllFalse ps ⊎ (IsOnlyAllFalse ps → ⊥)
only_one ps [] is = inr (λ only. let e : [] ≡ only.0 ∷ [] = sym is ∙ only.1 in cc)
only_one ps (p ∷ q ∷ rest) is = inr (λ only. let e : p ∷ q ∷ rest ≡ only.0 ∷ [] = sym is ∙ only.1 in cc)
only_one ps (p ∷ []) is = elim (cases_Bool (bytes_eq p.name all_key)) [
  | inr other ↦ inr (λ only.
      let e : p ∷ [] ≡ only.0 ∷ [] = sym is ∙ only.1 in
      let same : p ≡ only.0 = cc in
      false≢true (sym other ∙ (bytes_eq-Decides p.name all_key).1 (ap (λ (r : FlagPiece). r.name) same ∙ only.2)))
  | inl all ↦ elim (says_off (said Plain p)) [
    | inl off ↦ inl (p, is, (bytes_eq-Decides p.name all_key).0 all, off)
    | inr on ↦ inr (λ only.
        let e : p ∷ [] ≡ only.0 ∷ [] = sym is ∙ only.1 in
        let same : p ≡ only.0 = cc in
        on (ap (said Plain) same ∙ only.3))
  ]
]

pub valid_or_faulty : (entries : List ApiEntry) (e : ℕ) (text : List ℕ) → IsValidOrFaulty entries e text
valid_or_faulty entries e text =
    elim (stop_or_none IsPair (λ p. IsTakenKey (cutoff entries e) p.name) HasFault (IsRefused entries e) (pieces text) fine_or_not (taken_or_not entries e)) [
      | inl good ↦ elim (only_one (pieces text) (last_pieces (pieces text)) refl) [
        | inl only ↦ inr (OnlyAllFalse, (λ same. cc), record { pairs = good.0; only = only })
        | inr more ↦ inl (record { pairs = good.0; taken = good.1; more = more })
      ]
      | inr stop ↦ inr (At stop.0 stop.1, (λ same. cc), stop.2)
    ]
