-- Entries with one more.
use Rattle.std.proofs.Common.{◌≡◌, ◌≢◌, ℕ, List, [], ◌∷◌, ◌++◌, sym, ap, ◌∙◌, append_assoc}
use Rattle.std.proofs.lemmas.List.{append-nil}
use Rattle.object_journal.specs.declared.entry.Entry.{Entry}
use Rattle.object_journal.specs.Payload.{frame_bytes}
use Rattle.object_journal.proofs.EntryLaws.{lawful_more}
use Rattle.object_journal.specs.Journal.{MayFollow, IsGated, open_gate, header_of, records_of}

pub records_more : (es : List Entry) (e : Entry) → records_of (es ++ e ∷ []) ≡ records_of es ++ (open_gate ∷ frame_bytes e)
records_more [] e = append-nil (open_gate ∷ frame_bytes e)
records_more (x ∷ es) e = ap (λ (t : List ℕ). (open_gate ∷ frame_bytes x) ++ t) (records_more es e) ∙ sym (append_assoc (open_gate ∷ frame_bytes x) (records_of es) (open_gate ∷ frame_bytes e))

pub read_again : (base gate : ℕ) (es : List Entry) (e : Entry) (bytes behind : List ℕ) → IsGated bytes base es → MayFollow base es e → gate ≢ open_gate
    → IsGated (header_of base ++ (records_of es ++ ((open_gate ∷ frame_bytes e) ++ gate ∷ behind))) base (es ++ e ∷ [])
read_again base gate es e bytes behind was may closed = record {
  gate = gate;
  behind = behind;
  parts = ap (λ (t : List ℕ). header_of base ++ t) (sym (append_assoc (records_of es) (open_gate ∷ frame_bytes e) (gate ∷ behind)) ∙ ap (λ (t : List ℕ). t ++ gate ∷ behind) (sym (records_more es e)));
  base_fits = was.base_fits;
  lawful = lawful_more base es e was.lawful may;
  closed = closed;
}
