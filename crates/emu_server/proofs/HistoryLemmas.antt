-- Bytes are one accepted history, or none for one reason.
use Rattle.std.proofs.Common.{◌≡◌, ◌≤◌, inl, inr, ℕ, List, ◌++◌, length, Option, Some, None, sym, ◌∙◌, ap, subst, arith}
use Rattle.std.specs.Prelude.{unwrap_or, IfSome}
use Rattle.std.proofs.lemmas.List.{length-append}
use Rattle.history_reader.proofs.LawLemmas.{one_history, means_or_is_refused, one_fault as one_reading_fault}
use Rattle.history_reader.proofs.ShapeLemmas.{meaning_is_shaped}
use Rattle.history_reader.specs.Meaning.{IsRefused, MeansHistory}
use Rattle.history_reader.specs.declared.read.HistoryFault.{HistoryFault}
use Rattle.history_reader.specs.declared.read.HistoryFault.TheVariants as fault
use Rattle.schemas.proofs.JoinLemmas.{accepted_unbroken}
use Rattle.schemas.proofs.LawLemmas.{no_first_fault, one_first_fault}
use Rattle.schemas.specs.Dated.{Dated}
use Rattle.schemas.specs.Rules.{checks, last_of}
use Rattle.schemas.specs.Shapes.{IsMinor}
use Rattle.emu_server.specs.Histories.{IsHistoryRefusal, IsReadingRefusal, IsBrokenHistory, IsRuleRefusal, MeansAccepted}
use Rattle.emu_server.specs.Lines.{reading_line, rule_line}

few_by : (o : Option ℕ) → IfSome o IsMinor → unwrap_or o 0 ≤ 999
few_by None h = omega arith
few_by (Some k) h = h

pub few_releases : (bytes : List ℕ) (h : Dated) → MeansHistory bytes h → last_of h ≤ 999
few_releases bytes h means = few_by h.last (meaning_is_shaped bytes h means).last

pub one_accepted : (bytes : List ℕ) (h k : Dated) → MeansAccepted bytes h → MeansAccepted bytes k → h ≡ k
one_accepted bytes h k a b = one_history bytes h k a.means b.means

broken_same : (bytes : List ℕ) (h k : Dated) (line : List ℕ) → h ≡ k → IsRuleRefusal h line → IsRuleRefusal k line
broken_same bytes h k line same r = subst (λ (x : Dated). IsRuleRefusal x line) same r

pub refused_or_accepted : (bytes line : List ℕ) (h : Dated) → IsHistoryRefusal bytes line → MeansAccepted bytes h → ⊥
refused_or_accepted bytes line h (inl r) m = r.known (means_or_is_refused bytes h r.cause m.means r.refused)
refused_or_accepted bytes line h (inr b) m =
    let r = broken_same bytes b.history h line (one_history bytes b.history h b.means m.means) b.broken in
    no_first_fault h checks r.rule r.array r.number (accepted_unbroken h (meaning_is_shaped bytes h m.means) m.accepted) r.broken

pub one_line : (bytes x y : List ℕ) → IsHistoryRefusal bytes x → IsHistoryRefusal bytes y → x ≡ y
one_line bytes x y (inl a) (inl b) =
    a.written ∙ ap reading_line (one_reading_fault bytes a.cause b.cause a.known b.known a.refused b.refused) ∙ sym b.written
one_line bytes x y (inl a) (inr b) = absurd (a.known (means_or_is_refused bytes b.history a.cause b.means a.refused))
one_line bytes x y (inr a) (inl b) = absurd (b.known (means_or_is_refused bytes a.history b.cause a.means b.refused))
one_line bytes x y (inr a) (inr b) =
    let r = broken_same bytes a.history b.history x (one_history bytes a.history b.history a.means b.means) a.broken in
    let q = b.broken in
    let same = one_first_fault b.history checks r.rule q.rule r.array q.array r.number q.number r.broken q.broken in
    r.written ∙ (λ i. rule_line (same.rule i) (same.array i) (same.number i)) ∙ sym q.written

-- ---- of the bytes that were taken, up to those that there are

reading_up : (v rest : List ℕ) (f : HistoryFault) → (length v ≤ 1048576 → v ≡ v ++ rest) → IsRefused v f → IsRefused (v ++ rest) f
reading_up v rest fault.Memory whole h = tt
reading_up v rest fault.TooLong whole h = omega (arith, length-append v rest)
reading_up v rest fault.NotToml whole h = subst (λ b. IsRefused b fault.NotToml) (whole h.0) h
reading_up v rest (fault.BadEntry a n m) whole h = subst (λ b. IsRefused b (fault.BadEntry a n m)) (whole h.short) h

pub refusal_up : (v rest line : List ℕ) → (length v ≤ 1048576 → v ≡ v ++ rest) → IsHistoryRefusal v line → IsHistoryRefusal (v ++ rest) line
refusal_up v rest line whole (inl h) =
    inl (record { cause = h.cause; known = h.known; refused = reading_up v rest h.cause whole h.refused; written = h.written })
refusal_up v rest line whole (inr h) =
    inr (record { history = h.history; means = subst (λ b. MeansHistory b h.history) (whole h.means.short) h.means; broken = h.broken })

pub accepted_up : (v rest : List ℕ) (h : Dated) → (length v ≤ 1048576 → v ≡ v ++ rest) → MeansAccepted v h → MeansAccepted (v ++ rest) h
accepted_up v rest h whole m = record { means = subst (λ b. MeansHistory b h) (whole m.means.short) m.means; accepted = m.accepted }
