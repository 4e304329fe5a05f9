-- Why a key isn't taken, by its standing.
use Rattle.std.proofs.Common.{◌≡◌, ◌&&◌, ◌||◌, ℕ, Bool, true, false, List, [], ◌∷◌, Option, Some, None, refl, sym, ◌∙◌, ap, subst, inl, inr, filter, All, Result, Ok, Err, IfErr}
use Rattle.std.specs.Prelude.{nat_le, IfSome, IfNone}
use Rattle.std.specs.List.{list_any}
use Rattle.std.proofs.lemmas.Bool.{cases_Bool, false≢true, and_parts, or_cases, or_left, or_right}
use Rattle.flag_text.specs.Pieces.{FlagPiece, pieces, last_pieces}
use Rattle.flag_text.specs.declared.vocabulary.Vocabulary.TheVariants.{Plain}
use Rattle.flag_text.proofs.PassLemmas.{pair_refutes}
use Rattle.flag_text.proofs.TwoPassLemmas.{stop_refutes}
use Rattle.flag_text.specs.declared.pass.PairCause.TheVariants.{NoValue, NoBoolean}
use Rattle.lifecycle.specs.Entry.{subject}
use Rattle.lifecycle.specs.Tables.{cutoff, is_introduction, live}
use Rattle.lifecycle.specs.declared.entry.ApiEntry.{ApiEntry}
use Rattle.runtime_config.specs.Keys.{is_api_key, names}
use Rattle.runtime_config.specs.Config.{IsPair, IsTakenKey, IsRuntimeText, HasFault, IsUnknownKey, IsRemovedKey, IsLaterKey, IsRefused, IsSecondPassFault, IsTextFault, names_some, names_introduced, names_live}
use Rattle.runtime_config.specs.Standings.{standing_of, standing, cause_of}
use Rattle.runtime_config.specs.declared.fault.ConfigCause.{ConfigCause}
use Rattle.runtime_config.specs.declared.fault.ConfigCause.TheVariants.{BadPair, BadBool, UnknownApi, AfterEmulated, RemovedApi}
use Rattle.runtime_config.specs.declared.fault.ConfigFault.{ConfigFault}
use Rattle.runtime_config.specs.declared.fault.ConfigFault.TheVariants.{Memory, At, OnlyAllFalse}
use Rattle.runtime_config.specs.declared.standing.Standing.{Standing}
use Rattle.runtime_config.specs.declared.standing.Standing.TheVariants.{Later, Gone, Live}

pub list_any-filter : {X : Type 0} (p q : X → Bool) (xs : List X) → list_any p (filter q xs) ≡ list_any (λ x. q x && p x) xs
list_any-filter p q [] = refl
list_any-filter p q (x ∷ xs) = elim (cases_Bool (q x)) [
  | inl passes ↦ rw passes (ap (λ o. p x || o) (list_any-filter p q xs))
  | inr fails ↦ rw fails (list_any-filter p q xs)
]

live_of : (a b c : Bool) → Some Live ≡ standing_of a b c → c ≡ true
live_of a b true h = refl
live_of a true false h = absurd (let e : Live ≡ Gone = cc in cc)
live_of true false false h = absurd (let e : Live ≡ Later = cc in cc)
live_of false false false h = cc

gone_of : (a b c : Bool) → Some Gone ≡ standing_of a b c → (c ≡ false) × (b ≡ true)
gone_of a b true h = absurd (let e : Gone ≡ Live = cc in cc)
gone_of a true false h = (refl, refl)
gone_of true false false h = absurd (let e : Gone ≡ Later = cc in cc)
gone_of false false false h = absurd (cc)

later_of : (a b c : Bool) → Some Later ≡ standing_of a b c → (c ≡ false) × (b ≡ false) × (a ≡ true)
later_of a b true h = absurd (let e : Later ≡ Live = cc in cc)
later_of a true false h = absurd (let e : Later ≡ Gone = cc in cc)
later_of true false false h = (refl, refl, refl)
later_of false false false h = absurd (cc)

none_of : (a b c : Bool) → None ≡ standing_of a b c → a ≡ false
none_of a b true h = cc
none_of a true false h = cc
none_of true false false h = cc
none_of false false false h = refl

module _ (entries : List ApiEntry) (e : ℕ) (key : List ℕ) where
  abbrev some_named : Bool
  some_named = list_any (λ x. names key (subject x)) entries

  abbrev some_introduced : Bool
  some_introduced = list_any (λ x. nat_le x.since e && (names key (subject x) && is_introduction x.change)) entries

  abbrev some_live : Bool
  some_live = list_any (λ x. nat_le x.since e && (names key (subject x) && live (cutoff entries e) (subject x))) entries

  introduced_is : names_introduced key (cutoff entries e) ≡ some_introduced
  introduced_is = list_any-filter (λ x. names key (subject x) && is_introduction x.change) (λ x. nat_le x.since e) entries

  live_is : names_live key (cutoff entries e) ≡ some_live
  live_is = list_any-filter (λ x. names key (subject x) && live (cutoff entries e) (subject x)) (λ x. nat_le x.since e) entries

  taken_live : Some Live ≡ standing (cutoff entries e) e entries key → IsTakenKey (cutoff entries e) key
  taken_live h = inr (live_is ∙ live_of some_named some_introduced some_live h)

  refused_gone : is_api_key key ≡ false → Some Gone ≡ standing (cutoff entries e) e entries key → IsRemovedKey (cutoff entries e) key
  refused_gone other h = let is = gone_of some_named some_introduced some_live h in record { no_api_key = other; none_live = live_is ∙ is.0; introduced = introduced_is ∙ is.1 }

  refused_later : is_api_key key ≡ false → Some Later ≡ standing (cutoff entries e) e entries key → IsLaterKey entries (cutoff entries e) key
  refused_later other h =
      let is = later_of some_named some_introduced some_live h in
      record { no_api_key = other; something = is.2; none_live = live_is ∙ is.0; none_introduced = introduced_is ∙ is.1 }

  refused_none : is_api_key key ≡ false → None ≡ standing (cutoff entries e) e entries key → IsUnknownKey entries key
  refused_none other h = record { no_api_key = other; nothing = none_of some_named some_introduced some_live h }

pub refused_by : (entries : List ApiEntry) (e : ℕ) (p : FlagPiece) (found : Option Standing) → is_api_key p.name ≡ false → found ≡ standing (cutoff entries e) e entries p.name → IfSome (cause_of found) (IsRefused entries e p)
refused_by entries e p None other h = refused_none entries e p.name other h
refused_by entries e p (Some Live) other h = tt
refused_by entries e p (Some Gone) other h = refused_gone entries e p.name other h
refused_by entries e p (Some Later) other h = refused_later entries e p.name other h

pub taken_by : (entries : List ApiEntry) (e : ℕ) (p : FlagPiece) (found : Option Standing) → found ≡ standing (cutoff entries e) e entries p.name → IfNone (cause_of found) (IsTakenKey (cutoff entries e) p.name)
taken_by entries e p None h = tt
taken_by entries e p (Some Live) h = taken_live entries e p.name h
taken_by entries e p (Some Gone) h = tt
taken_by entries e p (Some Later) h = tt

both_ways : {b : Bool} → b ≡ true → b ≡ false → ⊥
both_ways on off = false≢true (sym off ∙ on)

pub any_weaker : {X : Type 0} (p q : X → Bool) (xs : List X) → ((x : X) → p x ≡ true → q x ≡ true) → list_any p xs ≡ true → list_any q xs ≡ true
any_weaker p q [] f h = h
any_weaker p q (x ∷ xs) f h = elim (or_cases (p x) (list_any p xs) h) [
  | inl here ↦ or_left (q x) (list_any q xs) (f x here)
  | inr more ↦ or_right (q x) (list_any q xs) (any_weaker p q xs f more)
]

-- a key that names something live names something
pub live_is_named : (entries : List ApiEntry) (e : ℕ) (key : List ℕ) → names_live key (cutoff entries e) ≡ true → names_some key entries ≡ true
live_is_named entries e key h =
    any_weaker (λ x. nat_le x.since e && (names key (subject x) && live (cutoff entries e) (subject x))) (λ x. names key (subject x)) entries
    (λ x both. (and_parts (names key (subject x)) (live (cutoff entries e) (subject x)) (and_parts (nat_le x.since e) (names key (subject x) && live (cutoff entries e) (subject x)) both).1).0) (sym (live_is entries e key) ∙ h)

pub introduced_is_named : (entries : List ApiEntry) (e : ℕ) (key : List ℕ) → names_introduced key (cutoff entries e) ≡ true → names_some key entries ≡ true
introduced_is_named entries e key h =
    any_weaker (λ x. nat_le x.since e && (names key (subject x) && is_introduction x.change)) (λ x. names key (subject x)) entries
    (λ x both. (and_parts (names key (subject x)) (is_introduction x.change) (and_parts (nat_le x.since e) (names key (subject x) && is_introduction x.change) both).1).0) (sym (introduced_is entries e key) ∙ h)

pub fault_refutes : (p : FlagPiece) (c : ConfigCause) → HasFault p c → IsPair p → ⊥
fault_refutes p BadPair h a = pair_refutes Plain p NoValue h a
fault_refutes p BadBool h a = pair_refutes Plain p NoBoolean h a
fault_refutes p UnknownApi h a = h
fault_refutes p AfterEmulated h a = h
fault_refutes p RemovedApi h a = h

pub refusal_refutes : (entries : List ApiEntry) (e : ℕ) (p : FlagPiece) (c : ConfigCause) → IsRefused entries e p c → IsTakenKey (cutoff entries e) p.name → ⊥
refusal_refutes entries e p BadPair h a = h
refusal_refutes entries e p BadBool h a = h
refusal_refutes entries e p UnknownApi h (inl api) = both_ways api h.no_api_key
refusal_refutes entries e p UnknownApi h (inr there) = both_ways (live_is_named entries e p.name there) h.nothing
refusal_refutes entries e p AfterEmulated h (inl api) = both_ways api h.no_api_key
refusal_refutes entries e p AfterEmulated h (inr there) = both_ways there h.none_live
refusal_refutes entries e p RemovedApi h (inl api) = both_ways api h.no_api_key
refusal_refutes entries e p RemovedApi h (inr there) = both_ways there h.none_live

-- a text with a fault isn't valid in the tables of the release
pub fault_refuses : (entries : List ApiEntry) (e : ℕ) (text : List ℕ) (fault : ConfigFault) → IsTextFault entries e text fault → (fault ≡ Memory → ⊥) → IsRuntimeText (cutoff entries e) text → ⊥
fault_refuses entries e text Memory h some valid = some refl
fault_refuses entries e text OnlyAllFalse h some valid = valid.more h.only
fault_refuses entries e text (At place cause) h some valid =
    stop_refutes IsPair (λ p. IsTakenKey (cutoff entries e) p.name) HasFault (IsRefused entries e) (pieces text) place cause fault_refutes (refusal_refutes entries e) h valid.pairs valid.taken

pub refusal_is : (entries : List ApiEntry) (e : ℕ) (text : List ℕ) (last : List FlagPiece) (fault : ConfigFault) → All IsPair (pieces text) → last ≡ last_pieces (pieces text) → IsSecondPassFault entries e last fault → IsTextFault entries e text fault
refusal_is entries e text last Memory first same h = tt
refusal_is entries e text last OnlyAllFalse first same h = absurd h
refusal_is entries e text last (At place cause) first same h = inr (first, subst (λ ps. IsSecondPassFault entries e ps (At place cause)) same h)

pub refused_from : {T : Type 0} (entries : List ApiEntry) (e : ℕ) (text : List ℕ) (r : Result T ConfigFault) → IfErr r (IsTextFault entries e text) → IfErr r (λ fault. (fault ≡ Memory → ⊥) → IsRuntimeText (cutoff entries e) text → ⊥)
refused_from entries e text (Ok v) h = tt
refused_from entries e text (Err fault) h = fault_refuses entries e text fault h
