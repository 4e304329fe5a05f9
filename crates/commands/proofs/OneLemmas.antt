-- A command has one answer on a history.
use Rattle.std.proofs.Common.{◌≡◌, ◌≤◌, inl, inr, ℕ, List, [], ◌∷◌, ◌++◌, Option, Some, None, refl, sym, ◌∙◌, ap, subst, arith}
use Rattle.std.specs.Prelude.{codes, unwrap_or}
use Rattle.answer_lines.specs.Options.{config_line, gate_line as gate_fault_line}
use Rattle.serde_json.specs.Written.{compact_text}
use Rattle.flag_text.specs.Pieces.{pieces}
use Rattle.gate_flags.proofs.AnswerLemmas.{one_fault as one_gate_fault, either as no_gate_fault}
use Rattle.gate_flags.proofs.CutLemmas.{values_one}
use Rattle.gate_flags.specs.declared.fault.GateFault.{GateFault}
use Rattle.gate_flags.specs.declared.fault.GateFault.TheVariants as gate_fault
use Rattle.gate_spec.specs.Gates.{RisesInDate, cutoff as gate_cutoff}
use Rattle.history_cut.specs.Range.{IsOutside, IsWithin}
use Rattle.history_toml.specs.Layout.{history_text}
use Rattle.minor_version.specs.Release.{NamesRelease}
use Rattle.object_convert.proofs.AnswerLemmas.{one_answer as one_conversion}
use Rattle.release_choice.proofs.ChoiceLemmas.{one_emulated, one_refusal, one_release, refused_or_emulated}
use Rattle.release_choice.specs.declared.fault.VersionFault.{VersionFault}
use Rattle.release_choice.specs.declared.fault.VersionFault.TheVariants.{NotAVersion, OutOfRange}
use Rattle.release_view.proofs.ViewLemmas.{one_by_texts}
use Rattle.release_view.specs.Views.{Viewed}
use Rattle.runtime_config.proofs.AnswerLemmas.{one_fault as one_config_fault, either as no_config_fault}
use Rattle.schemas.proofs.LawLemmas.{gates_rise}
use Rattle.schemas.specs.Cutoff.{cutoff}
use Rattle.schemas.specs.Dated.{Dated}
use Rattle.schemas.specs.Rules.{IsAccepted, first_of, last_of}
use Rattle.served_history.specs.Releases.{FlagTexts}
use Rattle.twin.proofs.OneLemmas.{twin_one}
use Rattle.twin.proofs.TextsLemmas.{refused_or_twin, texts_one}
use Rattle.words.specs.declared.command.Command.{Command}
use Rattle.words.specs.declared.command.Command.TheVariants.{Check, Convert, Cut, Discover, Fold, Gates, Replay, Serve, Twin}
use Rattle.commands.specs.Convert.{convert_fault_line, IsConversionAt, IsConversionBy}
use Rattle.commands.specs.Cut.{IsCutting, IsRefusedAt, at_line}
use Rattle.commands.specs.Discover.{group_list_text, IsGroupListLine, IsListingAt}
use Rattle.commands.specs.Gates.{gate_lines, IsGateListingAt}
use Rattle.commands.specs.Endings.{fault_line as serving_line}
use Rattle.commands.specs.Laws.{AreOne, HasOneAnswer}
use Rattle.commands.specs.Releases.{AtRelease, emulated_line}
use Rattle.commands.specs.Texts.{texts_given}
use Rattle.commands.specs.Twins.{IsTwinning, equal_line}
use Rattle.commands.specs.Work.{IsWork}
use Rattle.commands.specs.declared.status.Status.{Status}
use Rattle.commands.specs.declared.status.Status.TheVariants as status

pub one_of : {s t : Status} {line other : List ℕ} (r : Status) → s ≡ r → t ≡ r → line ≡ other → AreOne s t line other
one_of r a b same = record { statuses = a ∙ sym b; texts = same }

-- ---- at a release

at_one : (o : Option (List ℕ)) (h : Dated) (W : ℕ → Status → List ℕ → Type 0) (s t : Status) (x y : List ℕ) → last_of h ≤ 999
    → ((e : ℕ) → W e s x → W e t y → AreOne s t x y) → AtRelease o h W s x → AtRelease o h W t y → AreOne s t x y
at_one o h W s t x y few work (inl a) (inl b) =
    let same = one_refusal (first_of h) (last_of h) few o a.1.0 b.1.0 a.1.1 b.1.1 in
    one_of status.Flags a.0 b.0 (a.1.2 ∙ ap (emulated_line h) same ∙ sym b.1.2)
at_one o h W s t x y few work (inl a) (inr b) = absurd (refused_or_emulated (first_of h) (last_of h) few o a.1.0 b.0 a.1.1 b.1)
at_one o h W s t x y few work (inr a) (inl b) = absurd (refused_or_emulated (first_of h) (last_of h) few o b.1.0 a.0 b.1.1 a.1)
at_one o h W s t x y few work (inr a) (inr b) =
    let same : b.0 ≡ a.0 = one_emulated (first_of h) (last_of h) few o b.0 a.0 b.1 a.1 in
    work a.0 a.2 (subst (λ e. W e t y) same b.2)

-- ---- `gates`

abbrev fault_line : GateFault → List ℕ
fault_line gate_fault.Memory = []
fault_line (gate_fault.At place cause) = gate_fault_line place cause

gates_one : (h : Dated) (features : List ℕ) → RisesInDate h.gates → (e : ℕ) (s t : Status) (x y : List ℕ)
    → IsGateListingAt h features e s x → IsGateListingAt h features e t y → AreOne s t x y
gates_one h features up e s t x y (inl a) (inl b) =
    let same = values_one (gate_cutoff h.gates e) (pieces features) a.1.0 b.1.0 a.1.2 b.1.2 in
    one_of status.Ok a.0 b.0 (a.1.3 ∙ ap (λ v. gate_lines v.rows) same ∙ sym b.1.3)
gates_one h features up e s t x y (inl a) (inr b) =
    let none : gate_fault.At b.1.0 b.1.1 ≡ gate_fault.Memory = no_gate_fault h.gates e features up a.1.1 (gate_fault.At b.1.0 b.1.1) b.1.2 in absurd cc
gates_one h features up e s t x y (inr a) (inl b) =
    let none : gate_fault.At a.1.0 a.1.1 ≡ gate_fault.Memory = no_gate_fault h.gates e features up b.1.1 (gate_fault.At a.1.0 a.1.1) a.1.2 in absurd cc
gates_one h features up e s t x y (inr a) (inr b) =
    let same = one_gate_fault h.gates e features up (gate_fault.At a.1.0 a.1.1) (gate_fault.At b.1.0 b.1.1) (λ same. cc) (λ same. cc) a.1.2 b.1.2 in
    one_of status.Flags a.0 b.0 (a.1.3 ∙ ap fault_line same ∙ sym b.1.3)

-- ---- `discover`

list_one : (h : Dated) (e : ℕ) (runtime x y : List ℕ) → IsGroupListLine h e runtime x → IsGroupListLine h e runtime y → x ≡ y
list_one h e runtime x y a b = a.written ∙ ap group_list_text (one_by_texts h e [] runtime a.view b.view a.viewed b.viewed) ∙ sym b.written

listing_one : (h : Dated) (runtime : List ℕ) (e : ℕ) (s t : Status) (x y : List ℕ)
    → IsListingAt h runtime e s x → IsListingAt h runtime e t y → AreOne s t x y
listing_one h runtime e s t x y (inl a) (inl b) = one_of status.Ok a.0 b.0 (list_one h e runtime x y a.1 b.1)
listing_one h runtime e s t x y (inl a) (inr b) = absurd (b.1.1 (no_config_fault h.apis e runtime a.1.valid b.1.0 b.1.2))
listing_one h runtime e s t x y (inr a) (inl b) = absurd (a.1.1 (no_config_fault h.apis e runtime b.1.valid a.1.0 a.1.2))
listing_one h runtime e s t x y (inr a) (inr b) =
    let same = one_config_fault h.apis e runtime a.1.0 b.1.0 a.1.1 b.1.1 a.1.2 b.1.2 in
    one_of status.Flags a.0 b.0 (a.1.3 ∙ ap config_line same ∙ sym b.1.3)

-- ---- `convert`

conversion_by : (view : Viewed) (json to : List ℕ) (s t : Status) (x y : List ℕ)
    → IsConversionBy view json to s x → IsConversionBy view json to t y → AreOne s t x y
conversion_by view json to s t x y (inl a) (inl b) =
    let same = (one_conversion view.versions json to).one_object a.1.0 b.1.0 a.1.1 b.1.1 in
    one_of status.Ok a.0 b.0 (a.1.2 ∙ ap (λ tree. compact_text tree ++ 10 ∷ []) same ∙ sym b.1.2)
conversion_by view json to s t x y (inl a) (inr b) = absurd (b.1.1 ((one_conversion view.versions json to).either a.1.0 b.1.0 a.1.1 b.1.2))
conversion_by view json to s t x y (inr a) (inl b) = absurd (a.1.1 ((one_conversion view.versions json to).either b.1.0 a.1.0 b.1.1 a.1.2))
conversion_by view json to s t x y (inr a) (inr b) =
    let same = (one_conversion view.versions json to).one_fault a.1.0 b.1.0 a.1.2 b.1.2 a.1.1 b.1.1 in
    one_of status.Flags a.0 b.0 (a.1.3 ∙ ap convert_fault_line same ∙ sym b.1.3)

conversion_one : (h : Dated) (json to : List ℕ) (e : ℕ) (s t : Status) (x y : List ℕ)
    → IsConversionAt h json to e s x → IsConversionAt h json to e t y → AreOne s t x y
conversion_one h json to e s t x y a b =
    let same = one_by_texts h e [] [] a.0 b.0 a.1 b.1 in
    conversion_by b.0 json to s t x y (subst (λ v. IsConversionBy v json to s x) same a.2) b.2

-- ---- `cut`

no_outside : (h : Dated) (o : ℕ) → IsOutside h o → IsWithin h o → ⊥
no_outside h o (inl below) within = omega (arith, below, within.from)
no_outside h o (inr above) within = omega (arith, above, within.to)

one_at : (h : Dated) (at : List ℕ) (f g : VersionFault) → IsRefusedAt h at f → IsRefusedAt h at g → f ≡ g
one_at h at NotAVersion NotAVersion a b = refl
one_at h at NotAVersion OutOfRange a b = absurd (a b.0 b.1 b.2)
one_at h at OutOfRange NotAVersion a b = absurd (b a.0 a.1 a.2)
one_at h at OutOfRange OutOfRange a b = refl

refused_or_cut : (h : Dated) (at : List ℕ) (f : VersionFault) (o : ℕ) → o ≤ 999 → IsRefusedAt h at f → IsWithin h o → NamesRelease at o → ⊥
refused_or_cut h at NotAVersion o few a within named = a o few named
refused_or_cut h at OutOfRange o few a within named =
    no_outside h o (subst (IsOutside h) (one_release at a.0 o a.1 few a.2 named) a.3) within

cut_one : (h : Dated) (at : List ℕ) (s t : Status) (x y : List ℕ) → IsCutting at h s x → IsCutting at h t y → AreOne s t x y
cut_one h at s t x y (inl a) (inl b) =
    one_of status.Flags a.0 b.0 (a.1.2 ∙ ap (at_line h) (one_at h at a.1.0 b.1.0 a.1.1 b.1.1) ∙ sym b.1.2)
cut_one h at s t x y (inl a) (inr b) = absurd (refused_or_cut h at a.1.0 b.0 b.1 a.1.1 b.3 b.2)
cut_one h at s t x y (inr a) (inl b) = absurd (refused_or_cut h at b.1.0 a.0 a.1 b.1.1 a.3 a.2)
cut_one h at s t x y (inr a) (inr b) =
    let same = one_release at a.0 b.0 a.1 b.1 a.2 b.2 in
    one_of status.Ok a.4.0 b.4.0 (a.4.1 ∙ ap (λ o. history_text (cutoff h o)) same ∙ sym b.4.1)

-- ---- `twin`

twinning_one : (h : Dated) (o : FlagTexts) (seed size : ℕ) → IsAccepted h → last_of h ≤ 999 → (s t : Status) (x y : List ℕ)
    → IsTwinning o seed size h s x → IsTwinning o seed size h t y → AreOne s t x y
twinning_one h o seed size accepted few s t x y (inl a) (inl b) =
    one_of status.Ok a.0 b.0 (a.1.2 ∙ ap equal_line (twin_one h o seed size a.1.0 b.1.0 few a.1.1 b.1.1) ∙ sym b.1.2)
twinning_one h o seed size accepted few s t x y (inl a) (inr b) =
    absurd (refused_or_twin h o accepted few b.1.0 seed size a.1.0 b.1.1 b.1.2 a.1.1)
twinning_one h o seed size accepted few s t x y (inr a) (inl b) =
    absurd (refused_or_twin h o accepted few a.1.0 seed size b.1.0 a.1.1 a.1.2 b.1.1)
twinning_one h o seed size accepted few s t x y (inr a) (inr b) =
    let same = texts_one h o accepted few a.1.0 b.1.0 a.1.1 b.1.1 a.1.2 b.1.2 in
    one_of status.Flags a.0 b.0 (a.1.3 ∙ ap (serving_line h) same ∙ sym b.1.3)

-- ---- the commands

pub work_one : (h : Dated) → HasOneAnswer h
work_one h Check s t x y accepted few a b = one_of status.Ok a.0 b.0 (a.1 ∙ sym b.1)
work_one h Fold s t x y accepted few a b = one_of status.Ok a.0 b.0 (a.1 ∙ sym b.1)
work_one h (Cut at) s t x y accepted few a b = cut_one h at s t x y a b
work_one h (Discover emulated runtime) s t x y accepted few a b =
    at_one emulated h (IsListingAt h (unwrap_or runtime [])) s t x y few (λ e. listing_one h (unwrap_or runtime []) e s t x y) a b
work_one h (Gates emulated features) s t x y accepted few a b =
    at_one emulated h (IsGateListingAt h (unwrap_or features [])) s t x y few (λ e. gates_one h (unwrap_or features []) (gates_rise h accepted) e s t x y) a b
work_one h (Convert emulated object to) s t x y accepted few a b =
    at_one emulated h (IsConversionAt h object to) s t x y few (λ e. conversion_one h object to e s t x y) a b
work_one h (Twin flags seed size) s t x y accepted few a b = twinning_one h (texts_given flags) seed size accepted few s t x y a b
work_one h (Serve flags store port connections) s t x y accepted few a b = absurd a
work_one h (Replay flags store script) s t x y accepted few a b = absurd a
