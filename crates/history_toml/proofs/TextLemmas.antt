-- What a text of a history says to its reader.
use Rattle.std.proofs.Common.{◌≡◌, ℕ, ◌<◌, ◌≤◌, List, length, Result, Ok, Err, IfOk, refl, sym, ap, subst, ◌∙◌, inl, inr, ◌⊎◌}
use Rattle.std.specs.Str.{IsUtf8}
use Rattle.toml.specs.Parse.{parse_document}
use Rattle.schemas.specs.Dated.{Dated, IsShaped}
use Rattle.history_reader.specs.declared.read.HistoryFault.{HistoryFault}
use Rattle.history_reader.specs.declared.read.HistoryFault.TheVariants.{Memory, TooLong, NotToml, BadEntry}
use Rattle.history_reader.specs.Meaning.{MeansHistory, IsRefused, longest_document}
use Rattle.history_reader.proofs.LawLemmas.{one_history, means_or_is_refused}
use Rattle.history_toml.specs.Tables.{history_table}
use Rattle.history_toml.specs.Layout.{history_text}
use Rattle.history_toml.specs.Texts.{TellsHistory, IsReadBack}
use Rattle.history_toml.proofs.TreeLemmas.{IsTree, history_tree}

told : (h : Dated) (text : List ℕ) → IsShaped h → IsUtf8 text → text ≡ history_text h → TellsHistory text h
told h text shaped valid same =
    let tree : IsTree h = history_tree h shaped in
    record { tree = history_table h; reads = record { utf8 = valid; parsed = ap parse_document same ∙ tree.parsed }; means = tree.means }

document : (h : Dated) (text : List ℕ) → TellsHistory text h → length text ≤ longest_document → MeansHistory text h
document h text tells short = record { short = short; tree = tells.tree; reads = tells.reads; holds = tells.means }

read_as : (h : Dated) (text : List ℕ) → TellsHistory text h → (k : Dated) → MeansHistory text k → k ≡ h
read_as h text tells k means = one_history text k h means (document h text tells means.short)

refused_for : (h : Dated) (text : List ℕ) → TellsHistory text h → (fault : HistoryFault) → IsRefused text fault → (fault ≡ Memory) ⊎ ((fault ≡ TooLong) × (longest_document < length text))
refused_for h text tells Memory refused = inl refl
refused_for h text tells TooLong refused = inr (refl, refused)
refused_for h text tells NotToml refused = absurd (refused.1 tells.tree tells.reads)
refused_for h text tells (BadEntry array index name) refused =
    inl (means_or_is_refused text h (BadEntry array index name) (document h text tells refused.short) refused)

if_ok : {A E : Type 0} (P Q : A → Type 0) (r : Result A E) → ((x : A) → P x → Q x) → IfOk r P → IfOk r Q
if_ok P Q (Ok x) f h = f x h
if_ok P Q (Err e) f h = tt

pub all_told : {E : Type 0} (h : Dated) (text : List ℕ) (r : Result (List ℕ) E) → IsShaped h → IsUtf8 text → text ≡ history_text h → IfOk r (λ t. t ≡ text) → IfOk r (λ t. TellsHistory t h)
all_told h text r shaped valid same is =
    let tells : TellsHistory text h = told h text shaped valid same in
    if_ok (λ t. t ≡ text) _ r (λ t e. subst (λ (u : List ℕ). TellsHistory u h) (sym e) tells) is

pub all_documents : {E : Type 0} (h : Dated) (r : Result (List ℕ) E) → IfOk r (λ t. TellsHistory t h) → IfOk r (λ t. length t ≤ longest_document → MeansHistory t h)
all_documents h r tells = if_ok (λ t. TellsHistory t h) _ r (λ t told. document h t told) tells

pub all_read_back : {E : Type 0} (h : Dated) (r : Result (List ℕ) E) → IfOk r (λ t. TellsHistory t h) → IfOk r (λ t. IsReadBack t h)
all_read_back h r tells = if_ok (λ t. TellsHistory t h) _ r (λ t told. record { same = read_as h t told; refused = refused_for h t told }) tells
