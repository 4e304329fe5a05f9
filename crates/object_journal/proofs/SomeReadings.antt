-- No bytes have neither a reading nor a place where they break the grammar.
use Rattle.std.proofs.Common.{◌≡◌, ◌≢◌, ⊎_elim, inl, inr, ℕ, zero, suc, ◌≤◌, ◌<◌, List, [], ◌∷◌, ◌++◌, length, refl, sym, ap, ◌∙◌, append_assoc, length-append, arith}
use Rattle.std.proofs.lemmas.Bool.{cases_eq, cases_lt}
use Rattle.object_journal.specs.declared.entry.Entry.{Entry}
use Rattle.object_journal.specs.Payload.{frame_bytes}
use Rattle.object_journal.specs.Journal.{AreLawful, MayFollow, HasNoNext, IsJournal, IsRefusal, last_revision, open_gate, header_of, records_of}
use Rattle.object_journal.proofs.EntryLaws.{not_empty, lawful_more}
use Rattle.object_journal.proofs.Appends.{records_more}

abbrev None : List ℕ → Type 0
None b = (base : ℕ) (es : List Entry) → IsJournal b base es → ⊥

abbrev Whole : List ℕ → Type 0
Whole b = (place : ℕ) → IsRefusal b place → ⊥

-- lawful records, and a gate behind them
record Reached (b : List ℕ) (base : ℕ) (es : List Entry) (gate : ℕ) (rest : List ℕ) : Type 0 where
  parts : b ≡ header_of base ++ (records_of es ++ gate ∷ rest)
  long : 17 < length b
  base_fits : base ≤ last_revision
  lawful : AreLawful base es

one_more : (b : List ℕ) (base : ℕ) (es : List Entry) (rest : List ℕ) (e : Entry) (gate : ℕ) (behind : List ℕ) → Reached b base es open_gate rest → rest ≡ frame_bytes e ++ gate ∷ behind → MayFollow base es e → Reached b base (es ++ e ∷ []) gate behind
one_more b base es rest e gate behind r is may = record {
  parts = r.parts ∙ ap (λ (t : List ℕ). header_of base ++ (records_of es ++ open_gate ∷ t)) is ∙ ap (λ (t : List ℕ). header_of base ++ t) (sym (append_assoc (records_of es) (open_gate ∷ frame_bytes e) (gate ∷ behind)) ∙ ap (λ (t : List ℕ). t ++ gate ∷ behind) (sym (records_more es e)));
  long = r.long;
  base_fits = r.base_fits;
  lawful = lawful_more base es e r.lawful may;
}

shorter : (n : ℕ) (rest : List ℕ) (e : Entry) (gate : ℕ) (behind : List ℕ) → length rest ≤ suc n → rest ≡ frame_bytes e ++ gate ∷ behind → length behind ≤ n
shorter n rest e gate behind small is = omega (arith, small, ap length is, length-append (frame_bytes e) (gate ∷ behind))

shut : (b : List ℕ) (base : ℕ) (es : List Entry) (gate : ℕ) (rest : List ℕ) → Reached b base es gate rest → gate ≢ open_gate → None b → ⊥
shut b base es gate rest r closed none = none base es (inr (inr (record { gate = gate; behind = rest; parts = r.parts; base_fits = r.base_fits; lawful = r.lawful; closed = closed })))

opened : (b : List ℕ) (base : ℕ) (es : List Entry) (rest : List ℕ) → Reached b base es open_gate rest → HasNoNext base es rest → Whole b → ⊥
opened b base es rest r last whole = whole (length (header_of base ++ records_of es)) (inr (r.long, record { base = base; entries = es; rest = rest; parts = r.parts; base_fits = r.base_fits; lawful = r.lawful; none = last; place_is = refl }))

as_open : (b : List ℕ) (base : ℕ) (es : List Entry) (gate : ℕ) (rest : List ℕ) → Reached b base es gate rest → gate ≡ open_gate → Reached b base es open_gate rest
as_open b base es gate rest r is = record { parts = r.parts ∙ ap (λ (g : ℕ). header_of base ++ (records_of es ++ g ∷ rest)) is; long = r.long; base_fits = r.base_fits; lawful = r.lawful }

from_gate : (n : ℕ) (b : List ℕ) (base : ℕ) (es : List Entry) (gate : ℕ) (rest : List ℕ) → length rest ≤ n → Reached b base es gate rest → None b → Whole b → ⊥
from_gate zero b base es gate rest small r none whole = ⊎_elim
    (λ (is : gate ≡ open_gate). opened b base es rest (as_open b base es gate rest r is) (λ e g behind p may. absurd (omega (arith, small, ap length p, length-append (frame_bytes e) (g ∷ behind)))) whole)
    (λ (closed : gate ≢ open_gate). shut b base es gate rest r closed none)
    (cases_eq gate open_gate)
from_gate (suc n) b base es gate rest small r none whole = ⊎_elim
    (λ (is : gate ≡ open_gate). opened b base es rest (as_open b base es gate rest r is) (λ e g behind p may. from_gate n b base (es ++ e ∷ []) g behind (shorter n rest e g behind small p) (one_more b base es rest e g behind (as_open b base es gate rest r is) p may) none whole) whole)
    (λ (closed : gate ≢ open_gate). shut b base es gate rest r closed none)
    (cases_eq gate open_gate)

headed : (b : List ℕ) (base : ℕ) (rest : List ℕ) → 16 < length b → base ≤ last_revision → b ≡ header_of base ++ rest → None b → Whole b → ⊥
headed b base [] long fits is none whole = absurd (omega (arith, long, ap length is))
headed b base (gate ∷ []) long fits is none whole = none base [] (inr (inl (record { gate = gate; parts = is; base_fits = fits }, refl)))
headed b base (gate ∷ x ∷ rest) long fits is none whole =
    from_gate (length (x ∷ rest)) b base [] gate (x ∷ rest) (omega arith) (record { parts = is; long = omega (arith, ap length is); base_fits = fits; lawful = λ before e behind p. absurd (not_empty before e behind p) }) none whole

pub some_reading : (b : List ℕ) → None b → Whole b → ⊥
some_reading b none whole = ⊎_elim
    (λ (long : 16 < length b). whole 0 (inl (long, (λ base rest fits is. headed b base rest long fits is none whole), refl)))
    (λ (short : length b ≤ 16). none 0 [] (inl (short, refl, refl)))
    (cases_lt 16 (length b))
