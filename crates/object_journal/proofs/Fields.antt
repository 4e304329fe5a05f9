-- A number or a text behind its length is read again, and a payload is that of one entry.
use Rattle.std.proofs.Common.{◌≡◌, ℕ, ◌^◌, ◌-◌, ◌<◌, ◌≤◌, List, [], ◌∷◌, ◌++◌, length, take, drop, refl, sym, ap, subst, ◌∙◌, append_assoc, length-append, arith, if◌then◌else◌}
use Rattle.std.specs.Prelude.{◌==◌}
use Rattle.std.specs.Int.{w16, w64, from_be_bytes}
use Rattle.std.proofs.lemmas.List.{take_at, drop_at}
use Rattle.std.proofs.lemmas.Nat.{from_be_bytes-to_be_bytes_2, from_be_bytes-to_be_bytes_8}
use Rattle.object_journal.specs.declared.key.Key.{Key}
use Rattle.object_journal.specs.declared.entry.Entry.{Entry}
use Rattle.object_journal.specs.declared.entry.Change.{Change}
use Rattle.object_journal.specs.declared.entry.Change.TheVariants.{Put, Removal}
use Rattle.object_journal.specs.Payload.{HasShortTexts, longest_payload, payload_of, frame_bytes, tag_of, created_of, body_of, text_field, key_fields}
use Rattle.object_journal.specs.Frames.{IsFrame, closed_gate, entry_of, entry_in, text_at, behind_text, key_at, behind_key}

-- ---- texts

text_length_again : (text rest : List ℕ) → length text ≤ 65535 → from_be_bytes w16 (take 2 (text_field text ++ rest)) ≡ length text
text_length_again text rest short = from_be_bytes-to_be_bytes_2 (length text) (omega (arith, short))

pub text_again : (text rest : List ℕ) → length text ≤ 65535 → text_at (text_field text ++ rest) ≡ text
text_again text rest short = rw (text_length_again text rest short) (take_at text rest (length text) refl)

pub behind_again : (text rest : List ℕ) → length text ≤ 65535 → behind_text (text_field text ++ rest) ≡ rest
behind_again text rest short = rw (text_length_again text rest short) (drop_at text rest (length text) refl)

-- ---- keys

regroup : (a b c d rest : List ℕ) → (((a ++ b) ++ c) ++ d) ++ rest ≡ a ++ (b ++ (c ++ (d ++ rest)))
regroup a b c d rest = simp append_assoc

-- what is behind each text
record Behind (k : Key) (rest : List ℕ) : Type 0 where
  one : behind_text (key_fields k ++ rest) ≡ text_field k.resource ++ (text_field k.namespace ++ (text_field k.name ++ rest))
  two : behind_text (behind_text (key_fields k ++ rest)) ≡ text_field k.namespace ++ (text_field k.name ++ rest)
  three : behind_text (behind_text (behind_text (key_fields k ++ rest))) ≡ text_field k.name ++ rest

pub whole_key : (k : Key) (rest : List ℕ) → key_fields k ++ rest ≡ text_field k.group ++ (text_field k.resource ++ (text_field k.namespace ++ (text_field k.name ++ rest)))
whole_key k rest = regroup (text_field k.group) (text_field k.resource) (text_field k.namespace) (text_field k.name) rest

behind_each : (k : Key) (rest : List ℕ) → HasShortTexts k → Behind k rest
behind_each k rest short =
    let one : behind_text (key_fields k ++ rest) ≡ text_field k.resource ++ (text_field k.namespace ++ (text_field k.name ++ rest)) = ap behind_text (whole_key k rest) ∙ behind_again k.group _ short.group in
    let two : behind_text (behind_text (key_fields k ++ rest)) ≡ text_field k.namespace ++ (text_field k.name ++ rest) = ap behind_text one ∙ behind_again k.resource _ short.resource in
    record { one = one; two = two; three = ap behind_text two ∙ behind_again k.namespace _ short.namespace }

pub key_again : (k : Key) (rest : List ℕ) → HasShortTexts k → key_at (key_fields k ++ rest) ≡ k
key_again k rest short =
    let b = behind_each k rest short in
    let g = ap text_at (whole_key k rest) ∙ text_again k.group _ short.group in
    let r = ap text_at b.one ∙ text_again k.resource _ short.resource in
    let s = ap text_at b.two ∙ text_again k.namespace _ short.namespace in
    let n = ap text_at b.three ∙ text_again k.name rest short.name in
    λ i. record { group = g i; resource = r i; namespace = s i; name = n i }

pub behind_key_again : (k : Key) (rest : List ℕ) → HasShortTexts k → behind_key (key_fields k ++ rest) ≡ rest
behind_key_again k rest short = ap behind_text (behind_each k rest short).three ∙ behind_again k.name rest short.name

-- ---- entries

-- what has a payload
pub record Fits (e : Entry) : Type 0 where
  pub short : HasShortTexts e.key
  pub revision : e.revision < 2 ^ 64
  pub created : created_of e.change < 2 ^ 64

change_again : (change : Change) (created : ℕ) (body : List ℕ) → created ≡ created_of change → body ≡ body_of change → (if tag_of change == 0 then Put created body else Removal) ≡ change
change_again (Put c b) created body is_created is_body = λ i. Put (is_created i) (is_body i)
change_again Removal created body is_created is_body = refl

pub entry_again : (e : Entry) → Fits e → entry_in (payload_of e) ≡ e
entry_again e fits =
    let texts : drop 17 (payload_of e) ≡ key_fields e.key ++ body_of e.change = refl in
    let k : key_at (drop 17 (payload_of e)) ≡ e.key = key_again e.key (body_of e.change) fits.short in
    let r : from_be_bytes w64 (take 8 (drop 1 (payload_of e))) ≡ e.revision = from_be_bytes-to_be_bytes_8 e.revision fits.revision in
    let c : from_be_bytes w64 (take 8 (drop 9 (payload_of e))) ≡ created_of e.change = from_be_bytes-to_be_bytes_8 (created_of e.change) fits.created in
    let b : behind_key (drop 17 (payload_of e)) ≡ body_of e.change = behind_key_again e.key (body_of e.change) fits.short in
    let ch = change_again e.change _ _ c b in
    λ i. record { key = k i; revision = r i; change = ch i }

front_of : (bytes : List ℕ) (x : ℕ) → take (length (bytes ++ x ∷ []) - 1) (bytes ++ x ∷ []) ≡ bytes
front_of bytes x = take_at bytes (x ∷ []) (length (bytes ++ x ∷ []) - 1) (omega (arith, length-append bytes (x ∷ [])))

pub entry_of_frame : (e : Entry) (bytes : List ℕ) → Fits e → bytes ≡ frame_bytes e ++ closed_gate ∷ [] → entry_of bytes ≡ e
entry_of_frame e bytes fits is = ap entry_of is ∙ ap (λ (t : List ℕ). entry_in (drop 4 t)) (front_of (frame_bytes e) closed_gate) ∙ entry_again e fits

pub is_frame_of : (e : Entry) (bytes : List ℕ) → HasShortTexts e.key → e.revision < 2 ^ 64 → created_of e.change < 2 ^ 64 → bytes ≡ frame_bytes e ++ closed_gate ∷ [] → length (payload_of e) ≤ longest_payload → IsFrame (entry_of bytes) bytes
is_frame_of e bytes short revision created is within =
    let seen = entry_of_frame e bytes (record { short = short; revision = revision; created = created }) is in
    subst (λ (x : Entry). IsFrame x bytes) (sym seen) (record { bytes_are = is; short = short; within = within })

-- ---- writing

pub three_put : (old a b c b' c' one two three : List ℕ) → b' ≡ b → c' ≡ c → one ≡ old ++ a → two ≡ one ++ b' → three ≡ two ++ c' → three ≡ old ++ (a ++ b ++ c)
three_put old a b c b' c' one two three is_b is_c p q r = r ∙ (λ i. (q ∙ (λ j. p j ++ is_b j)) i ++ is_c i) ∙ simp append_assoc
