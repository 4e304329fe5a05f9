-- Which entry may follow others, and what follows from it.
use Rattle.std.proofs.Common.{◌≡◌, ◌≢◌, ◌↔◌, ⊎_elim, ℕ, ◌+◌, ◌≤◌, ◌<◌, List, [], ◌∷◌, ◌++◌, length, take, drop, refl, sym, ap, subst, ◌∙◌, arith, length-append}
use Rattle.std.specs.Prelude.{max, nat_eq, true}
use Rattle.std.proofs.lemmas.Bool.Decides.{nat_tests}
use Rattle.std.proofs.lemmas.Bool.{cases_lt}
use Rattle.std.proofs.lemmas.List.{take-append-drop, take_at}
use Rattle.object_journal.specs.declared.entry.Entry.{Entry}
use Rattle.object_journal.specs.declared.entry.Change.{Change}
use Rattle.object_journal.specs.declared.entry.Change.TheVariants.{Removal}
use Rattle.object_journal.specs.Payload.{frame_bytes}
use Rattle.object_journal.specs.Journal.{IsHeld, IsNextRevision, IsLawfulChange, MayFollow, AreLawful, HasNoNext, last_revision, revision_after}
use Rattle.object_journal.specs.Parts.{IsRecordAt}
use Rattle.object_journal.proofs.EntryLaws.{base_below, revision_more}
use Rattle.object_journal.proofs.Readings.{IsRecord, record_of_lawful, one_record}

strictly : (a b : ℕ) → a ≤ b → b ≢ a → a < b
strictly a b le apart = ⊎_elim (λ lt. lt) (λ ge. absurd (apart (let e : b ≡ a = omega (arith, le, ge) in e))) (cases_lt a b)

pub next_above : (base greatest revision : ℕ) (before : List Entry) → greatest ≡ revision_after base before → greatest ≢ base → 1 ≤ revision → revision ≤ last_revision → (revision ≡ greatest + 1) ↔ IsNextRevision base before revision
next_above base greatest revision before is apart first fits = (
  (λ e. record { first = first; fits = fits; at_base = λ same. absurd (apart (is ∙ same)); above_base = λ above. e ∙ ap (λ (n : ℕ). n + 1) is }),
  (λ next. next.above_base (strictly base (revision_after base before) (base_below base before) (λ same. apart (is ∙ same))) ∙ ap (λ (n : ℕ). n + 1) (sym is)),
)

removal_law : (before : List Entry) (e : Entry) (change : Change) → change ≡ Removal → IsHeld before e.key ↔ IsLawfulChange before e change
removal_law before e change is = ((λ h. subst (IsLawfulChange before e) (sym is) h), (λ h. subst (IsLawfulChange before e) is h))

pub removal_lawful : (before : List Entry) (e : Entry) (P : Type 0) → e.change ≡ Removal → P ↔ IsHeld before e.key → P ↔ IsLawfulChange before e e.change
removal_lawful before e P is held = let law = removal_law before e e.change is in ((λ p. law.0 (held.0 p)), (λ l. held.1 (law.1 l)))

-- ---- records

is_record : (e : Entry) (bytes : List ℕ) (place : ℕ) → IsRecordAt bytes e place → IsRecord e
is_record e bytes place r = record { fits = record { short = r.payload.texts.short; revision = r.payload.revision; created = r.payload.created }; within = r.within }

-- where the record in front is unlawful, no lawful one is there
pub unlawful : (base place : ℕ) (before : List Entry) (e : Entry) (bytes : List ℕ) → IsRecordAt bytes e place → (MayFollow base before e → ⊥) → HasNoNext base before bytes
unlawful base place before e bytes r not f gate behind is may =
    let whole : bytes ≡ frame_bytes e ++ drop place bytes = sym (take-append-drop place bytes) ∙ ap (λ (t : List ℕ). t ++ drop place bytes) r.parts in
    let one = one_record e f (drop place bytes) (gate ∷ behind) (is_record e bytes place r) (record_of_lawful base before f may) (sym whole ∙ is) in
    not (subst (MayFollow base before) (sym one.0) may)

-- where no record is in front, no lawful one is there
pub none_there : (base : ℕ) (before : List Entry) (bytes : List ℕ) → ((e : Entry) (place : ℕ) → IsRecordAt bytes e place → ⊥) → HasNoNext base before bytes
none_there base before bytes none e gate behind is may =
    let r = record_of_lawful base before e may in
    none e (length (frame_bytes e)) (record {
      payload = record { parts = refl; texts = may.texts; revision = r.fits.revision; created = r.fits.created };
      within = r.within;
      parts = ap (λ (t : List ℕ). take (length (frame_bytes e)) t) is ∙ take_at (frame_bytes e) (gate ∷ behind) (length (frame_bytes e)) refl;
      gate = omega (arith, ap length is, length-append (frame_bytes e) (gate ∷ behind));
      place_is = refl;
    })

pub is_true_equal : (a b : ℕ) → nat_eq a b ≡ true → a ≡ b
is_true_equal a b t = grind (arith, nat_tests)

pub equal_is_true : (a b : ℕ) → a ≡ b → nat_eq a b ≡ true
equal_is_true a b e = grind (arith, nat_tests)

last_is : (base n r : ℕ) → base ≤ n → (base < n → r ≡ n + 1) → base < max n r → max n r ≡ r
last_is base n r low next above = ⊎_elim (λ lt. omega (arith, next lt)) (λ ge. omega (arith, low, ge, above)) (cases_lt base n)

pub last_greatest : (base : ℕ) (es front : List Entry) (last : Entry) → AreLawful base es → base < revision_after base es → es ≡ front ++ last ∷ [] → revision_after base es ≡ last.revision
last_greatest base es front last lawful above is =
    let may = lawful front last [] is in
    let split : revision_after base es ≡ max (revision_after base front) last.revision = ap (revision_after base) is ∙ revision_more base front last in
    split ∙ last_is base (revision_after base front) last.revision (base_below base front) may.revision.above_base (subst (λ n. base < n) split above)
