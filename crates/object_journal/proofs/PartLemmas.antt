-- What bytes are parted into is one, so where a part is missing there is no whole.
use Rattle.std.proofs.Common.{◌≡◌, ℕ, ◌+◌, ◌^◌, ◌≤◌, ◌<◌, List, ◌++◌, length, get_or, take, drop, refl, sym, ap, ◌∙◌, append_assoc, length-append, length-take, arith}
use Rattle.std.specs.Int.{w32, w64, from_be_bytes, to_be_bytes}
use Rattle.std.proofs.lemmas.List.{take_at, take-append-drop}
use Rattle.std.proofs.Math.Seq.{take-append-add}
use Rattle.std.proofs.lemmas.Nat.{from_be_bytes-to_be_bytes_4, from_be_bytes-to_be_bytes_8}
use Rattle.object_journal.specs.declared.key.Key.{Key}
use Rattle.object_journal.specs.declared.entry.Entry.{Entry}
use Rattle.object_journal.specs.declared.entry.Change.{Change}
use Rattle.object_journal.specs.Payload.{longest_payload, payload_of, frame_bytes, tag_of, created_of, body_of, text_field, key_fields, number_fields}
use Rattle.object_journal.specs.Frames.{text_at, behind_text, key_at, behind_key}
use Rattle.object_journal.specs.Parts.{IsText, AreTwoTexts, IsKey, IsChange, IsPayload, IsRecordAt}
use Rattle.object_journal.proofs.Fields.{text_again, behind_again, key_again, behind_key_again, whole_key}

one_text : (bytes t r u s : List ℕ) → IsText bytes t r → IsText bytes u s → (t ≡ u) × (r ≡ s)
one_text bytes t r u s p q =
    let same = sym p.parts ∙ q.parts in
    (sym (text_again t r p.short) ∙ ap text_at same ∙ text_again u s q.short, sym (behind_again t r p.short) ∙ ap behind_text same ∙ behind_again u s q.short)

first_of : (bytes a b r : List ℕ) → AreTwoTexts bytes a b r → IsText bytes a (text_field b ++ r)
first_of bytes a b r p = record { parts = p.parts; short = p.short_a; utf8 = p.utf8_a }

pub no_second : (bytes first rest : List ℕ) → IsText bytes first rest → ((t r : List ℕ) → IsText rest t r → ⊥) → (a b r : List ℕ) → AreTwoTexts bytes a b r → ⊥
no_second bytes first rest is none a b r two =
    let same = one_text bytes first rest a (text_field b ++ r) is (first_of bytes a b r two) in
    none b r (record { parts = same.1; short = two.short_b; utf8 = two.utf8_b })

rest_of_two : (bytes a b r x y s : List ℕ) → AreTwoTexts bytes a b r → AreTwoTexts bytes x y s → r ≡ s
rest_of_two bytes a b r x y s p q =
    let first = one_text bytes a (text_field b ++ r) x (text_field y ++ s) (first_of bytes a b r p) (first_of bytes x y s q) in
    (one_text (text_field b ++ r) b r y s (record { parts = refl; short = p.short_b; utf8 = p.utf8_b }) (record { parts = first.1; short = q.short_b; utf8 = q.utf8_b })).1

pub no_end_of_key : (bytes a b rest : List ℕ) → AreTwoTexts bytes a b rest → ((x y r : List ℕ) → AreTwoTexts rest x y r → ⊥) → (k : Key) (r : List ℕ) → IsKey bytes k r → ⊥
no_end_of_key bytes a b rest two none k r key =
    let t = key.texts in
    let begin : AreTwoTexts bytes k.group k.resource (text_field k.namespace ++ (text_field k.name ++ r)) = record { parts = key.parts ∙ whole_key k r; short_a = t.short.group; short_b = t.short.resource; utf8_a = t.group; utf8_b = t.resource } in
    none k.namespace k.name r (record { parts = rest_of_two bytes a b rest k.group k.resource _ two begin; short_a = t.short.namespace; short_b = t.short.name; utf8_a = t.namespace; utf8_b = t.name })

one_key : (bytes : List ℕ) (k : Key) (r : List ℕ) (l : Key) (s : List ℕ) → IsKey bytes k r → IsKey bytes l s → (k ≡ l) × (r ≡ s)
one_key bytes k r l s p q =
    let same = sym p.parts ∙ q.parts in
    (sym (key_again k r p.texts.short) ∙ ap key_at same ∙ key_again l s q.texts.short, sym (behind_key_again k r p.texts.short) ∙ ap behind_key same ∙ behind_key_again l s q.texts.short)

-- the parts of a payload, seen from its bytes
whole_payload : (e : Entry) → payload_of e ≡ number_fields (tag_of e.change) e.revision (created_of e.change) ++ (key_fields e.key ++ body_of e.change)
whole_payload e = append_assoc (number_fields (tag_of e.change) e.revision (created_of e.change)) (key_fields e.key) (body_of e.change)

pub no_change : (bytes : List ℕ) (tag revision created : ℕ) (rest : List ℕ) (k : Key) (body : List ℕ) → bytes ≡ number_fields tag revision created ++ rest → created < 2 ^ 64 → IsKey rest k body → ((c : Change) → IsChange tag created body c → ⊥) → (e : Entry) → IsPayload bytes e → ⊥
no_change bytes tag revision created rest k body front fits key none e p =
    let same : number_fields tag revision created ++ rest ≡ number_fields (tag_of e.change) e.revision (created_of e.change) ++ (key_fields e.key ++ body_of e.change) = sym front ∙ p.parts ∙ whole_payload e in
    let made : created ≡ created_of e.change = sym (from_be_bytes-to_be_bytes_8 created fits) ∙ ap (λ (l : List ℕ). from_be_bytes w64 (take 8 (drop 9 l))) same ∙ from_be_bytes-to_be_bytes_8 (created_of e.change) p.created in
    let behind : rest ≡ key_fields e.key ++ body_of e.change = ap (λ (l : List ℕ). drop 17 l) same in
    let both = one_key rest k body e.key (body_of e.change) key (record { parts = behind; texts = p.texts }) in
    none e.change (record { tag_is = ap (λ (l : List ℕ). get_or l 0 0) same; created_is = made; body_is = both.1 })

-- ---- records

pub record_at : (bytes rest : List ℕ) (size place : ℕ) (e : Entry) → bytes ≡ to_be_bytes w32 size ++ rest → size ≤ longest_payload → size < length rest → place ≡ 4 + size → IsPayload (take size rest) e → IsRecordAt bytes e place
record_at bytes rest size place e front small long place_is p =
    let count : length (payload_of e) ≡ size = omega (arith, ap length p.parts, length-take size rest, long) in
    let cut : take place bytes ≡ to_be_bytes w32 size ++ take size rest = (λ i. take (place_is i) (front i)) ∙ take-append-add (to_be_bytes w32 size) rest size in
    record {
      payload = record { parts = refl; texts = p.texts; revision = p.revision; created = p.created };
      within = omega (arith, count, small);
      parts = cut ∙ (λ i. to_be_bytes w32 (sym count i) ++ p.parts i);
      gate = omega (arith, place_is, ap length front, length-append (to_be_bytes w32 size) rest, long);
      place_is = omega (arith, place_is, count, length-append (to_be_bytes w32 (length (payload_of e))) (payload_of e));
    }

pub no_record : (bytes rest : List ℕ) (size : ℕ) → bytes ≡ to_be_bytes w32 size ++ rest → size ≤ longest_payload → ((e : Entry) → IsPayload (take size rest) e → ⊥) → (e : Entry) (place : ℕ) → IsRecordAt bytes e place → ⊥
no_record bytes rest size front small none e place r =
    let p = payload_of e in
    let whole : bytes ≡ frame_bytes e ++ drop place bytes = sym (take-append-drop place bytes) ∙ ap (λ (t : List ℕ). t ++ drop place bytes) r.parts in
    let same : to_be_bytes w32 size ++ rest ≡ (to_be_bytes w32 (length p) ++ p) ++ drop place bytes = sym front ∙ whole in
    let count : size ≡ length p = sym (from_be_bytes-to_be_bytes_4 size (omega (arith, small))) ∙ ap (λ (l : List ℕ). from_be_bytes w32 (take 4 l)) same ∙ from_be_bytes-to_be_bytes_4 (length p) (omega (arith, r.within)) in
    let behind : rest ≡ p ++ drop place bytes = ap (λ (l : List ℕ). drop 4 l) same in
    let cut : take size rest ≡ p = ap (λ (l : List ℕ). take size l) behind ∙ take_at p (drop place bytes) size (sym count) in
    none e (record { parts = cut; texts = r.payload.texts; revision = r.payload.revision; created = r.payload.created })
