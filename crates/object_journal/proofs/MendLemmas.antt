-- What mending leaves of a short file.
use Rattle.std.proofs.Common.{◌≡◌, ◌⊎◌, inl, inr, ⊎_elim, ℕ, ◌≤◌, List, [], ◌∷◌, ◌++◌, length, get_or, take, drop, refl, sym, ap, subst, ◌∙◌, length-append, length-drop, arith}
use Rattle.std.proofs.lemmas.List.{take-append-drop}
use Rattle.disk.specs.declared.file.File.{File}
use Rattle.disk.specs.Images.{Pending, Images, IsImage, after_write, resting}
use Rattle.disk.proofs.ImageLemmas.{front_after_write, reached_most}
use Rattle.object_journal.specs.declared.entry.Entry.{Entry}
use Rattle.object_journal.specs.Payload.{frame_bytes}
use Rattle.object_journal.specs.Journal.{IsHeader, IsGated, IsJournal, last_revision, header_of, records_of, open_gate}
use Rattle.object_journal.specs.Standing.{chosen, OthersStay, LeavesWrite, IsHeaded, LeavesNone, MeansSame, LeavesMeaning}
use Rattle.object_journal.proofs.Readings.{one_reading, long_header}
use Rattle.object_journal.proofs.Refusals.{reads_or_breaks}
use Rattle.object_journal.proofs.ReaderLemmas.{one_left}
use Rattle.object_journal.proofs.StopLemmas.{others_back}

-- ---- short files

-- a file of at most 17 bytes has no records
pub no_entries : (b : List ℕ) (base : ℕ) (es : List Entry) → length b ≤ 17 → IsJournal b base es → es ≡ []
no_entries b base es short (inl j) = j.2
no_entries b base es short (inr (inl j)) = j.1
no_entries b base [] short (inr (inr j)) = refl
no_entries b base (e ∷ es) short (inr (inr j)) = absurd (omega (
  arith,
  short,
  ap length j.parts,
  length-append (records_of (e ∷ es)) (j.gate ∷ j.behind),
  length-append (open_gate ∷ frame_bytes e) (records_of es),
))

none_behind : (l : List ℕ) → length l ≡ 0 → l ≡ []
none_behind [] size = refl
none_behind (a ∷ l) size = absurd (omega (arith, size))

gated_header : (b : List ℕ) (base : ℕ) (es : List Entry) → length b ≡ 17 → es ≡ [] → IsGated b base es → IsHeader b base
gated_header b base es size none j =
    let parts : b ≡ header_of base ++ j.gate ∷ j.behind = j.parts ∙ ap (λ (xs : List Entry). header_of base ++ (records_of xs ++ j.gate ∷ j.behind)) none in
    record {
      gate = j.gate;
      parts = parts ∙ ap (λ (t : List ℕ). header_of base ++ j.gate ∷ t) (none_behind j.behind (omega (arith, ap length parts, size)));
      base_fits = j.base_fits;
    }

-- one of 17 has a header and a gate
pub headed_gate : (b : List ℕ) (base : ℕ) (es : List Entry) → length b ≡ 17 → IsJournal b base es → IsHeaded b base
headed_gate b base es size (inl j) = absurd (omega (arith, j.0, size))
headed_gate b base es size (inr (inl j)) = inr j.0
headed_gate b base es size (inr (inr j)) = inr (gated_header b base es size (no_entries b base es (omega (arith, size)) (inr (inr j))) j)

-- one of less has base 0
pub fresh_base : (b : List ℕ) (base : ℕ) (es : List Entry) → length b ≤ 16 → IsJournal b base es → base ≡ 0
fresh_base b base es short (inl j) = j.1
fresh_base b base es short (inr (inl j)) = absurd (omega (arith, short, long_header b base j.0))
fresh_base b base es short (inr (inr j)) = absurd (omega (arith, short, ap length j.parts, length-append (records_of es) (j.gate ∷ j.behind)))

-- bytes that mean what others mean, where these have no records
pub same_none : (b c : List ℕ) (base : ℕ) (es : List Entry) → IsJournal b base es → es ≡ [] → IsJournal c base [] → MeansSame b c
same_none b c base es j none now = record {
  means = λ base2 es2 k.
      let same = one_reading b base base2 es es2 j k in
      subst (λ (p : ℕ × List Entry). IsJournal c p.0 p.1) (λ i. (same.base i, (sym none ∙ same.entries) i)) now;
  refused = λ place r. absurd (reads_or_breaks b base place es j r);
}

-- ---- images

headed_front : (b : List ℕ) (base : ℕ) → IsHeaded b base → take 16 b ≡ header_of base
headed_front b base (inl h) = ap (λ (t : List ℕ). take 16 t) h.0 ∙ ap header_of (sym h.1)
headed_front b base (inr h) = ap (λ (t : List ℕ). take 16 t) h.parts

headed_fits : (b : List ℕ) (base : ℕ) → IsHeaded b base → base ≤ last_revision
headed_fits b base (inl h) = omega (arith, h.1)
headed_fits b base (inr h) = h.base_fits

headed_size : (b : List ℕ) (base : ℕ) → IsHeaded b base → (length b ≡ 17) ⊎ ((length b ≡ 16) × (base ≡ 0))
headed_size b base (inl h) = inr (ap length h.0, h.1)
headed_size b base (inr h) = inl (ap length h.parts)

size_cases : (n b : ℕ) → b ≤ n → n ≤ 17 → 16 ≤ b → (n ≡ 17) ⊎ ((n ≡ 16) × (b ≡ 16))
size_cases n b low high least = grind arith

pub image_of_first_gate : (b c : List ℕ) (base : ℕ) → IsHeaded b base → IsImage (after_write 16 1 (resting b)) c → IsJournal c base []
image_of_first_gate b c base h image =
    let least : 16 ≤ length b = ⊎_elim (λ (l : length b ≡ 17). omega (arith, l)) (λ s. omega (arith, s.0)) (headed_size b base h) in
    let most : length c ≤ 17 = ⊎_elim (λ (l : length b ≡ 17). omega (arith, l, image.no_longer, reached_most 16 1 (length b))) (λ s. omega (arith, s.0, image.no_longer, reached_most 16 1 (length b))) (headed_size b base h) in
    let front : take 16 c ≡ header_of base = front_after_write 16 1 16 b c image (omega arith) least ∙ headed_front b base h in
    ⊎_elim
    (λ (long : length c ≡ 17). inr (inl (
      record {
        gate = get_or (drop 16 c) 0 0;
        parts = sym (take-append-drop 16 c) ∙ (λ i. front i ++ one_left (drop 16 c) (omega (arith, length-drop 16 c, long)) i);
        base_fits = headed_fits b base h;
      },
      refl,
    )))
    (λ short. inl (omega (arith, short.0), ⊎_elim (λ (l : length b ≡ 17). absurd (omega (arith, l, short.1))) (λ s. s.1) (headed_size b base h), refl))
    (size_cases (length c) (length b) image.no_shorter most least)

-- ---- what a stop leaves

pub leaves_none : (held : Images) (pending : File → Pending) (i : Images) → LeavesWrite held pending 16 1 i → (base : ℕ) → IsHeaded (held chosen) base → LeavesNone pending base i
leaves_none held pending i w base h = record { file = image_of_first_gate (held chosen) (i chosen) base h w.file; others = w.others }

-- a header over a fresh file leaves one
pub leaves_header : (held : Images) (pending : File → Pending) (i : Images) → length (held chosen) ≤ 16 → LeavesWrite held pending 0 16 i → LeavesNone pending 0 i
leaves_header held pending i short w = record {
  file = inl (omega (arith, w.file.no_longer, reached_most 0 16 (length (held chosen)), short), refl, refl);
  others = w.others;
}

pub none_means : (held : Images) (pending : File → Pending) (i : Images) (base : ℕ) (es : List Entry) → length (held chosen) ≤ 17 → IsJournal (held chosen) base es → LeavesNone pending base i → LeavesMeaning held pending i
none_means held pending i base es short j w = record { file = same_none (held chosen) (i chosen) base es j (no_entries (held chosen) base es short j) w.file; long = λ more. absurd (omega (arith, more, short)); others = w.others }

-- a file of 17 bytes
pub gate_alone_means : (held : Images) (pending : File → Pending) (i : Images) → length (held chosen) ≡ 17 → ((b : ℕ) → IsHeaded (held chosen) b → LeavesNone pending b i)
    → (base : ℕ) (es : List Entry) → IsJournal (held chosen) base es → LeavesMeaning held pending i
gate_alone_means held pending i size w base es j = none_means held pending i base es (omega (arith, size)) j (w base (headed_gate (held chosen) base es size j))

-- a fresh file
pub fresh_means : (held : Images) (pending : File → Pending) (i : Images) → length (held chosen) ≤ 16 → LeavesNone pending 0 i
    → (base : ℕ) (es : List Entry) → IsJournal (held chosen) base es → LeavesMeaning held pending i
fresh_means held pending i short w base es j =
    none_means held pending i base es (omega (arith, short)) j (subst (λ (b : ℕ). LeavesNone pending b i) (sym (fresh_base (held chosen) base es short j)) w)

pub none_back : (held_old held_mid : Images) (pending_old pending_mid : File → Pending) (i : Images) → OthersStay held_old held_mid pending_old pending_mid → LeavesNone pending_mid 0 i → LeavesNone pending_old 0 i
none_back held_old held_mid pending_old pending_mid i s w = record { file = w.file; others = others_back held_old held_mid pending_old pending_mid i s w.others }
