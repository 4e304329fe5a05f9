-- Bytes have at most one reading.
use Rattle.std.proofs.Common.{◌≡◌, ◌≢◌, inl, inr, ℕ, ◌^◌, ◌≤◌, ◌<◌, List, [], ◌∷◌, ◌++◌, length, get_or, take, drop, refl, sym, ap, subst, ◌∙◌, append_assoc, length-append, arith}
use Rattle.std.specs.Int.{w32, w64, from_be_bytes}
use Rattle.std.proofs.lemmas.List.{take_at, drop_at}
use Rattle.std.proofs.lemmas.Nat.{from_be_bytes-to_be_bytes_4, from_be_bytes-to_be_bytes_8}
use Rattle.object_journal.specs.declared.entry.Entry.{Entry}
use Rattle.object_journal.specs.declared.entry.Change.{Change}
use Rattle.object_journal.specs.declared.entry.Change.TheVariants.{Put, Removal}
use Rattle.object_journal.specs.Payload.{longest_payload, payload_of, frame_bytes, created_of}
use Rattle.object_journal.specs.Frames.{entry_in}
use Rattle.object_journal.specs.Journal.{IsLawfulChange, last_revision, MayFollow, AreLawful, IsHeader, IsGated, IsJournal, open_gate, header_of, records_of}
use Rattle.object_journal.proofs.Fields.{Fits, entry_again}

-- ---- one record

pub record IsRecord (e : Entry) : Type 0 where
  pub fits : Fits e
  pub within : length (payload_of e) ≤ longest_payload

created_fits : (before : List Entry) (e : Entry) (change : Change) → e.revision ≤ last_revision → IsLawfulChange before e change → created_of change < 2 ^ 64
created_fits before e (Put created body) small lawful = omega (arith, small, lawful.1)
created_fits before e Removal small lawful = omega arith

pub record_of_lawful : (base : ℕ) (before : List Entry) (e : Entry) → MayFollow base before e → IsRecord e
record_of_lawful base before e may = record {
  fits = record { short = may.texts.short; revision = omega (arith, may.revision.fits); created = created_fits before e e.change may.revision.fits may.change };
  within = may.within;
}

size_again : (e : Entry) (rest : List ℕ) → IsRecord e → from_be_bytes w32 (take 4 (frame_bytes e ++ rest)) ≡ length (payload_of e)
size_again e rest is = from_be_bytes-to_be_bytes_4 (length (payload_of e)) (omega (arith, is.within))

pub one_record : (e f : Entry) (a b : List ℕ) → IsRecord e → IsRecord f → frame_bytes e ++ a ≡ frame_bytes f ++ b → (e ≡ f) × (a ≡ b)
one_record e f a b is_e is_f h =
    let size : length (payload_of e) ≡ length (payload_of f) = sym (size_again e a is_e) ∙ ap (λ (t : List ℕ). from_be_bytes w32 (take 4 t)) h ∙ size_again f b is_f in
    let behind : payload_of e ++ a ≡ payload_of f ++ b = ap (λ (t : List ℕ). drop 4 t) h in
    let payload : payload_of e ≡ payload_of f = sym (take_at (payload_of e) a (length (payload_of f)) size) ∙ ap (λ (t : List ℕ). take (length (payload_of f)) t) behind ∙ take_at (payload_of f) b (length (payload_of f)) refl in
    let rest : a ≡ b = sym (drop_at (payload_of e) a (length (payload_of f)) size) ∙ ap (λ (t : List ℕ). drop (length (payload_of f)) t) behind ∙ drop_at (payload_of f) b (length (payload_of f)) refl in
    (sym (entry_again e is_e.fits) ∙ ap entry_in payload ∙ entry_again f is_f.fits, rest)

-- ---- records

abbrev pub AreRecords : List Entry → Type 0
AreRecords [] = Unit {0}
AreRecords (e ∷ es) = IsRecord e × AreRecords es

are_records : (es : List Entry) → ((before : List Entry) (e : Entry) (behind : List Entry) → es ≡ before ++ e ∷ behind → IsRecord e) → AreRecords es
are_records [] h = tt
are_records (e ∷ es) h = (h [] e es refl, are_records es (λ before x behind p. h (e ∷ before) x behind (ap (λ (t : List Entry). e ∷ t) p)))

pub lawful_records : (base : ℕ) (es : List Entry) → AreLawful base es → AreRecords es
lawful_records base es lawful = are_records es (λ before e behind p. record_of_lawful base before e (lawful before e behind p))

pub first_is : (a b : ℕ) (s t : List ℕ) → a ∷ s ≡ b ∷ t → a ≡ b
first_is a b s t e = ap (λ (l : List ℕ). get_or l 0 0) e

pub behind_gate : (e : Entry) (es : List Entry) (t : List ℕ) → records_of (e ∷ es) ++ t ≡ open_gate ∷ (frame_bytes e ++ (records_of es ++ t))
behind_gate e es t = append_assoc (open_gate ∷ frame_bytes e) (records_of es) t

pub one_list : (xs ys : List Entry) (g h : ℕ) (a b : List ℕ) → AreRecords xs → AreRecords ys → g ≢ open_gate → h ≢ open_gate → records_of xs ++ g ∷ a ≡ records_of ys ++ h ∷ b → xs ≡ ys
one_list [] [] g h a b is_xs is_ys shut_g shut_h e = refl
one_list [] (y ∷ ys) g h a b is_xs is_ys shut_g shut_h e = absurd (shut_g (first_is g open_gate a (frame_bytes y ++ (records_of ys ++ h ∷ b)) (e ∙ behind_gate y ys (h ∷ b))))
one_list (x ∷ xs) [] g h a b is_xs is_ys shut_g shut_h e = absurd (shut_h (sym (first_is open_gate h (frame_bytes x ++ (records_of xs ++ g ∷ a)) b (sym (behind_gate x xs (g ∷ a)) ∙ e))))
one_list (x ∷ xs) (y ∷ ys) g h a b is_xs is_ys shut_g shut_h e =
    let step = one_record x y _ _ is_xs.0 is_ys.0 (ap (λ (t : List ℕ). drop 1 t) (sym (behind_gate x xs (g ∷ a)) ∙ e ∙ behind_gate y ys (h ∷ b))) in
    let more = one_list xs ys g h a b is_xs.1 is_ys.1 shut_g shut_h step.1 in
    λ i. step.0 i ∷ more i

-- ---- headers

pub one_header : (a b : ℕ) (s t : List ℕ) → a ≤ last_revision → b ≤ last_revision → header_of a ++ s ≡ header_of b ++ t → (a ≡ b) × (s ≡ t)
one_header a b s t fits_a fits_b e =
    let base : a ≡ b = sym (from_be_bytes-to_be_bytes_8 a (omega (arith, fits_a))) ∙ ap (λ (l : List ℕ). from_be_bytes w64 (take 8 (drop 8 l))) e ∙ from_be_bytes-to_be_bytes_8 b (omega (arith, fits_b)) in
    (base, ap (λ (l : List ℕ). drop 16 l) e)

-- ---- readings

pub record IsSame (a b : ℕ) (xs ys : List Entry) : Type 0 where
  pub base : a ≡ b
  pub entries : xs ≡ ys

swapped : {a b : ℕ} {xs ys : List Entry} → IsSame a b xs ys → IsSame b a ys xs
swapped s = record { base = sym s.base; entries = sym s.entries }

pub long_header : (bytes : List ℕ) (base : ℕ) → IsHeader bytes base → length bytes ≡ 17
long_header bytes base h = ap length h.parts

pub long_gated : (bytes : List ℕ) (base : ℕ) (es : List Entry) → IsGated bytes base es → 17 ≤ length bytes
long_gated bytes base es h = omega (arith, ap length h.parts, length-append (records_of es) (h.gate ∷ h.behind))

short_records : (gate g : ℕ) (es : List Entry) (behind : List ℕ) → gate ∷ [] ≡ records_of es ++ g ∷ behind → [] ≡ es
short_records gate g [] behind e = refl
short_records gate g (x ∷ es) behind e = absurd (omega (arith, ap length (e ∙ behind_gate x es (g ∷ behind)), length-append (frame_bytes x) (records_of es ++ g ∷ behind), length-append (records_of es) (g ∷ behind)))

header_header : (bytes : List ℕ) (a b : ℕ) → IsHeader bytes a → IsHeader bytes b → a ≡ b
header_header bytes a b p q = (one_header a b (p.gate ∷ []) (q.gate ∷ []) p.base_fits q.base_fits (sym p.parts ∙ q.parts)).0

header_gated : (bytes : List ℕ) (a b : ℕ) (ys : List Entry) → IsHeader bytes a → IsGated bytes b ys → IsSame a b [] ys
header_gated bytes a b ys p q =
    let both = one_header a b (p.gate ∷ []) (records_of ys ++ q.gate ∷ q.behind) p.base_fits q.base_fits (sym p.parts ∙ q.parts) in
    record { base = both.0; entries = short_records p.gate q.gate ys q.behind both.1 }

gated_gated : (bytes : List ℕ) (a b : ℕ) (xs ys : List Entry) → IsGated bytes a xs → IsGated bytes b ys → IsSame a b xs ys
gated_gated bytes a b xs ys p q =
    let both = one_header a b (records_of xs ++ p.gate ∷ p.behind) (records_of ys ++ q.gate ∷ q.behind) p.base_fits q.base_fits (sym p.parts ∙ q.parts) in
    record { base = both.0; entries = one_list xs ys p.gate q.gate p.behind q.behind (lawful_records a xs p.lawful) (lawful_records b ys q.lawful) p.closed q.closed both.1 }

same_empty : (a b : ℕ) (xs ys : List Entry) → a ≡ b → xs ≡ [] → ys ≡ [] → IsSame a b xs ys
same_empty a b xs ys base x y = record { base = base; entries = x ∙ sym y }

pub one_reading : (bytes : List ℕ) (a b : ℕ) (xs ys : List Entry) → IsJournal bytes a xs → IsJournal bytes b ys → IsSame a b xs ys
one_reading bytes a b xs ys (inl p) (inl q) = same_empty a b xs ys (p.1 ∙ sym q.1) p.2 q.2
one_reading bytes a b xs ys (inl p) (inr (inl q)) = absurd (omega (arith, p.0, long_header bytes b q.0))
one_reading bytes a b xs ys (inl p) (inr (inr q)) = absurd (omega (arith, p.0, long_gated bytes b ys q))
one_reading bytes a b xs ys (inr (inl p)) (inl q) = absurd (omega (arith, q.0, long_header bytes a p.0))
one_reading bytes a b xs ys (inr (inl p)) (inr (inl q)) = same_empty a b xs ys (header_header bytes a b p.0 q.0) p.1 q.1
one_reading bytes a b xs ys (inr (inl p)) (inr (inr q)) = subst (λ (l : List Entry). IsSame a b l ys) (sym p.1) (header_gated bytes a b ys p.0 q)
one_reading bytes a b xs ys (inr (inr p)) (inl q) = absurd (omega (arith, q.0, long_gated bytes a xs p))
one_reading bytes a b xs ys (inr (inr p)) (inr (inl q)) = subst (λ (l : List Entry). IsSame a b xs l) (sym q.1) (swapped (header_gated bytes b a xs q.0 p))
one_reading bytes a b xs ys (inr (inr p)) (inr (inr q)) = gated_gated bytes a b xs ys p q
