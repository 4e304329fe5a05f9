-- A runtime configuration has one answer: one served set, one fault at most, and none where it is valid.
use Rattle.std.proofs.Common.{◌≡◌, ℕ, List, [], ◌∷◌, All, inl, refl, sym, ◌∙◌, ap, subst}
use Rattle.std.proofs.lemmas.Bool.{false≢true}
use Rattle.std.proofs.lemmas.List.Elements.{All-from_recursion}
use Rattle.flag_text.specs.Pieces.{FlagPiece, pieces, last_pieces}
use Rattle.flag_text.proofs.PassLemmas.{one_pair_cause}
use Rattle.flag_text.proofs.TwoPassLemmas.{one_stop, stop_refutes}
use Rattle.flag_text.specs.declared.vocabulary.Vocabulary.TheVariants.{Plain}
use Rattle.flag_text.specs.declared.pass.PairCause.TheVariants.{NoValue, NoBoolean}
use Rattle.lifecycle.specs.Tables.{cutoff}
use Rattle.lifecycle.specs.declared.entry.ApiEntry.{ApiEntry}
use Rattle.runtime_config.specs.Config.{IsPair, IsTakenKey, IsOnlyAllFalse, HasFault, IsRefused, IsTextFault}
use Rattle.runtime_config.specs.Keys.{is_api_key}
use Rattle.runtime_config.specs.Laws.{HasOneServedSet, HasOneFault, IsFaultlessWhereValid}
use Rattle.runtime_config.specs.Served.{by_name}
use Rattle.runtime_config.specs.declared.fault.ConfigCause.{ConfigCause}
use Rattle.runtime_config.specs.declared.fault.ConfigCause.TheVariants.{BadPair, BadBool, UnknownApi, AfterEmulated, RemovedApi}
use Rattle.runtime_config.specs.declared.fault.ConfigFault.TheVariants.{Memory, At, OnlyAllFalse}
use Rattle.runtime_config.proofs.NameLemmas.{by_name_total}
use Rattle.basis.proofs.OrderLemmas.{one_in_order}
use Rattle.runtime_config.proofs.RefusalLemmas.{fault_refutes, refusal_refutes, fault_refuses, introduced_is_named}

pub one_set : (entries : List ApiEntry) (e : ℕ) (text : List ℕ) → HasOneServedSet entries e text
one_set entries e text a b h k = one_in_order by_name by_name_total a b h.order k.order (λ x. ((λ c. (k.exact x).1 ((h.exact x).0 c)), (λ c. (h.exact x).1 ((k.exact x).0 c))))

one_cause : (p : FlagPiece) (c d : ConfigCause) → HasFault p c → HasFault p d → c ≡ d
one_cause p BadPair BadPair h k = refl
one_cause p BadBool BadBool h k = refl
one_cause p BadPair BadBool h k = absurd (let e : NoValue ≡ NoBoolean = one_pair_cause Plain p NoValue NoBoolean h k in cc)
one_cause p BadBool BadPair h k = absurd (let e : NoBoolean ≡ NoValue = one_pair_cause Plain p NoBoolean NoValue h k in cc)
one_cause p UnknownApi d h k = absurd h
one_cause p AfterEmulated d h k = absurd h
one_cause p RemovedApi d h k = absurd h
one_cause p BadPair UnknownApi h k = absurd k
one_cause p BadPair AfterEmulated h k = absurd k
one_cause p BadPair RemovedApi h k = absurd k
one_cause p BadBool UnknownApi h k = absurd k
one_cause p BadBool AfterEmulated h k = absurd k
one_cause p BadBool RemovedApi h k = absurd k

-- what is introduced is spoken of, so the three causes exclude each other
one_refusal : (entries : List ApiEntry) (e : ℕ) (p : FlagPiece) (c d : ConfigCause) → IsRefused entries e p c → IsRefused entries e p d → c ≡ d
one_refusal entries e p UnknownApi UnknownApi h k = refl
one_refusal entries e p UnknownApi AfterEmulated h k = absurd (false≢true (sym h.nothing ∙ k.something))
one_refusal entries e p UnknownApi RemovedApi h k = absurd (false≢true (sym h.nothing ∙ introduced_is_named entries e p.name k.introduced))
one_refusal entries e p AfterEmulated UnknownApi h k = absurd (false≢true (sym k.nothing ∙ h.something))
one_refusal entries e p AfterEmulated AfterEmulated h k = refl
one_refusal entries e p AfterEmulated RemovedApi h k = absurd (false≢true (sym h.none_introduced ∙ k.introduced))
one_refusal entries e p RemovedApi UnknownApi h k = absurd (false≢true (sym k.nothing ∙ introduced_is_named entries e p.name h.introduced))
one_refusal entries e p RemovedApi AfterEmulated h k = absurd (false≢true (sym k.none_introduced ∙ h.introduced))
one_refusal entries e p RemovedApi RemovedApi h k = refl
one_refusal entries e p BadPair d h k = absurd h
one_refusal entries e p BadBool d h k = absurd h
one_refusal entries e p UnknownApi BadPair h k = absurd k
one_refusal entries e p UnknownApi BadBool h k = absurd k
one_refusal entries e p AfterEmulated BadPair h k = absurd k
one_refusal entries e p AfterEmulated BadBool h k = absurd k
one_refusal entries e p RemovedApi BadPair h k = absurd k
one_refusal entries e p RemovedApi BadBool h k = absurd k

module _ (entries : List ApiEntry) (e : ℕ) (text : List ℕ) where
  abbrev Taken : FlagPiece → Type 0
  Taken p = IsTakenKey (cutoff entries e) p.name

  no_stop : (m : ℕ) (c : ConfigCause) → IsTextFault entries e text (At m c) → All IsPair (pieces text) → All Taken (last_pieces (pieces text)) → ⊥
  no_stop m c h fine taken = stop_refutes IsPair Taken HasFault (IsRefused entries e) (pieces text) m c fault_refutes (refusal_refutes entries e) h fine taken

  -- every release takes the key `api/all`
  only_taken : IsOnlyAllFalse (pieces text) → All Taken (last_pieces (pieces text))
  only_taken only = subst (λ ps. All Taken ps) (sym only.1) (All-from_recursion Taken (only.0 ∷ []) (inl (ap is_api_key only.2), tt))

  pub one_fault : HasOneFault entries e text
  one_fault Memory g some other h k = absurd (some refl)
  one_fault (At m c) Memory some other h k = absurd (other refl)
  one_fault OnlyAllFalse Memory some other h k = absurd (other refl)
  one_fault OnlyAllFalse OnlyAllFalse some other h k = refl
  one_fault OnlyAllFalse (At n d) some other h k = absurd (no_stop n d k h.pairs (only_taken h.only))
  one_fault (At m c) OnlyAllFalse some other h k = absurd (no_stop m c h k.pairs (only_taken k.only))
  one_fault (At m c) (At n d) some other h k =
      one_stop At IsPair Taken HasFault (IsRefused entries e) (pieces text) m n c d fault_refutes (refusal_refutes entries e) one_cause (one_refusal entries e) h k

  pub either : IsFaultlessWhereValid entries e text
  either valid Memory h = refl
  either valid OnlyAllFalse h = absurd (fault_refuses entries e text OnlyAllFalse h (λ same. cc) valid)
  either valid (At place cause) h = absurd (fault_refuses entries e text (At place cause) h (λ same. cc) valid)
