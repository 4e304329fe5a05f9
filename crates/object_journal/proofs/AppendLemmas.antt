-- What an append leaves of the file, at each of its moments.
use Rattle.std.proofs.Common.{◌≡◌, ◌≢◌, ◌⊎◌, inl, inr, ⊎_elim, ℕ, ◌+◌, ◌≤◌, ◌<◌, List, [], ◌∷◌, ◌++◌, length, get_or, take, drop, sym, ap, subst, ◌∙◌, append_assoc, length-append, arith}
use Rattle.std.proofs.lemmas.List.{take_at, drop_at, take-append-drop}
use Rattle.disk.specs.declared.file.File.{File}
use Rattle.disk.specs.Images.{Pending, Images, IsImage, after_write, resting, patched}
use Rattle.disk.proofs.ImageLemmas.{front_after_write, one_byte_kinds}
use Rattle.object_journal.specs.declared.entry.Entry.{Entry}
use Rattle.object_journal.specs.Payload.{frame_bytes}
use Rattle.object_journal.specs.Frames.{IsFrame, closed_gate}
use Rattle.object_journal.specs.Journal.{MayFollow, IsGated, open_gate, header_of, records_of}
use Rattle.object_journal.specs.Standing.{chosen, OthersStay, LeavesWrite, IsGatedAt, IsReadyAt, LeavesEntries, LeavesEither}
use Rattle.object_journal.proofs.Appends.{read_again, records_more}
use Rattle.object_journal.proofs.StopLemmas.{others_back}

-- the bytes in front of the gate
abbrev front : ℕ → List Entry → List ℕ
front base es = header_of base ++ records_of es

-- ---- behind a closed gate

whole : (b : List ℕ) (base : ℕ) (es : List Entry) (place : ℕ) (g : IsGatedAt b base es place) → b ≡ (front base es ++ g.gated.gate ∷ []) ++ g.gated.behind
whole b base es place g = g.gated.parts ∙ sym (append_assoc (header_of base) (records_of es) (g.gated.gate ∷ g.gated.behind)) ∙ sym (append_assoc (front base es) (g.gated.gate ∷ []) g.gated.behind)

one_longer : (place gate : ℕ) (f : List ℕ) → place ≡ length f → length (f ++ gate ∷ []) ≡ place + 1
one_longer place gate f is = omega (arith, is, length-append f (gate ∷ []))

pub gate_inside : (b : List ℕ) (base : ℕ) (es : List Entry) (place : ℕ) → IsGatedAt b base es place → place + 1 ≤ length b
gate_inside b base es place g = omega (arith, ap length (whole b base es place g), length-append (front base es ++ g.gated.gate ∷ []) g.gated.behind, one_longer place g.gated.gate (front base es) g.place_is)

front_is : (b : List ℕ) (base : ℕ) (es : List Entry) (place : ℕ) (g : IsGatedAt b base es place) → take (place + 1) b ≡ front base es ++ g.gated.gate ∷ []
front_is b base es place g = ap (λ (t : List ℕ). take (place + 1) t) (whole b base es place g) ∙ take_at (front base es ++ g.gated.gate ∷ []) g.gated.behind (place + 1) (one_longer place g.gated.gate (front base es) g.place_is)

-- bytes that are the same up to the gate mean the same
gated_like : (b c : List ℕ) (base : ℕ) (es : List Entry) (place : ℕ) → IsGatedAt b base es place → take (place + 1) c ≡ take (place + 1) b → IsGated c base es
gated_like b c base es place g same = record {
  gate = g.gated.gate;
  behind = drop (place + 1) c;
  parts = sym (take-append-drop (place + 1) c) ∙ ap (λ (t : List ℕ). t ++ drop (place + 1) c) (same ∙ front_is b base es place g) ∙ append_assoc (front base es) (g.gated.gate ∷ []) (drop (place + 1) c) ∙ append_assoc (header_of base) (records_of es) (g.gated.gate ∷ drop (place + 1) c);
  base_fits = g.gated.base_fits;
  lawful = g.gated.lawful;
  closed = g.gated.closed;
}

pub image_behind : (b c : List ℕ) (base : ℕ) (es : List Entry) (place n : ℕ) → IsGatedAt b base es place → IsImage (after_write (place + 1) n (resting b)) c → IsGated c base es
image_behind b c base es place n g image = gated_like b c base es place g (front_after_write (place + 1) n (place + 1) b c image (omega arith) (gate_inside b base es place g))

pub ready_now : (b new bytes : List ℕ) (base : ℕ) (es : List Entry) (x : Entry) (place : ℕ) → IsGatedAt b base es place → IsFrame x bytes → new ≡ patched b (place + 1) bytes → IsReadyAt new base es x place
ready_now b new bytes base es x place g frame is =
    let f = front base es in
    let gate = g.gated.gate in
    let rest = drop (place + 1 + length bytes) b in
    let put : new ≡ ((f ++ gate ∷ []) ++ (frame_bytes x ++ closed_gate ∷ [])) ++ rest = is ∙ (λ i. (front_is b base es place g i ++ frame.bytes_are i) ++ rest) in
    record {
      gate = gate;
      behind = rest;
      parts = put ∙ append_assoc (f ++ gate ∷ []) (frame_bytes x ++ closed_gate ∷ []) rest ∙ append_assoc f (gate ∷ []) ((frame_bytes x ++ closed_gate ∷ []) ++ rest) ∙ ap (λ (t : List ℕ). f ++ gate ∷ t) (append_assoc (frame_bytes x) (closed_gate ∷ []) rest);
      base_fits = g.gated.base_fits;
      lawful = g.gated.lawful;
      closed = g.gated.closed;
      place_is = g.place_is;
    }

-- ---- the gate

pub ready_inside : (b : List ℕ) (base : ℕ) (es : List Entry) (x : Entry) (place : ℕ) → IsReadyAt b base es x place → place < length b
ready_inside b base es x place r = omega (arith, ap length r.parts, length-append (front base es) (r.gate ∷ (frame_bytes x ++ closed_gate ∷ r.behind)), r.place_is)

-- the bytes with another gate
with_gate : (b : List ℕ) (base : ℕ) (es : List Entry) (x : Entry) (place y : ℕ) (r : IsReadyAt b base es x place) → patched b place (y ∷ []) ≡ front base es ++ y ∷ (frame_bytes x ++ closed_gate ∷ r.behind)
with_gate b base es x place y r =
    let f = front base es in
    let tail = frame_bytes x ++ closed_gate ∷ r.behind in
    let low : take place b ≡ f = ap (λ (t : List ℕ). take place t) r.parts ∙ take_at f (r.gate ∷ tail) place (sym r.place_is) in
    let high : drop (place + 1) b ≡ tail = ap (λ (t : List ℕ). drop (place + 1) t) (r.parts ∙ sym (append_assoc f (r.gate ∷ []) tail)) ∙ drop_at (f ++ r.gate ∷ []) tail (place + 1) (one_longer place r.gate f r.place_is) in
    (λ i. (low i ++ y ∷ []) ++ high i) ∙ append_assoc f (y ∷ []) tail

-- bytes with the gate closed, whatever its byte
shut_gate : (b c : List ℕ) (base : ℕ) (es : List Entry) (x : Entry) (place y : ℕ) (r : IsReadyAt b base es x place) → y ≢ open_gate → c ≡ patched b place (y ∷ []) → IsGated c base es
shut_gate b c base es x place y r closed is = record {
  gate = y;
  behind = frame_bytes x ++ closed_gate ∷ r.behind;
  parts = is ∙ with_gate b base es x place y r ∙ append_assoc (header_of base) (records_of es) (y ∷ (frame_bytes x ++ closed_gate ∷ r.behind));
  base_fits = r.base_fits;
  lawful = r.lawful;
  closed = closed;
}

pub not_open : closed_gate ≢ open_gate
not_open e = absurd (omega (arith, e))

pub opened_gate : (b c : List ℕ) (base : ℕ) (es : List Entry) (x : Entry) (place : ℕ) → IsReadyAt b base es x place → MayFollow base es x → c ≡ patched b place (open_gate ∷ []) → IsGated c base (es ++ x ∷ [])
opened_gate b c base es x place r may is =
    let was : IsGated b base es = record {
      gate = r.gate;
      behind = frame_bytes x ++ closed_gate ∷ r.behind;
      parts = r.parts ∙ append_assoc (header_of base) (records_of es) (r.gate ∷ (frame_bytes x ++ closed_gate ∷ r.behind));
      base_fits = r.base_fits;
      lawful = r.lawful;
      closed = r.closed;
    } in
    let again = read_again base closed_gate es x b r.behind was may not_open in
    let parts : c ≡ header_of base ++ (records_of es ++ ((open_gate ∷ frame_bytes x) ++ closed_gate ∷ r.behind)) = is ∙ with_gate b base es x place open_gate r ∙ append_assoc (header_of base) (records_of es) (open_gate ∷ (frame_bytes x ++ closed_gate ∷ r.behind)) in
    subst (λ (t : List ℕ). IsGated t base (es ++ x ∷ [])) (sym parts) again

pub image_of_gate : (b c : List ℕ) (base : ℕ) (es : List Entry) (x : Entry) (place : ℕ) → IsReadyAt b base es x place → MayFollow base es x → IsImage (after_write place 1 (resting b)) c → IsGated c base es ⊎ IsGated c base (es ++ x ∷ [])
image_of_gate b c base es x place r may image = ⊎_elim
    (λ whole. inr (opened_gate b c base es x place r may whole))
    (λ torn. inl (shut_gate b c base es x place (get_or c place 0) r torn.0 torn.1))
    (one_byte_kinds b c place open_gate (ready_inside b base es x place r) image)

-- ---- what a stop leaves

pub leaves_record : (held : Images) (pending : File → Pending) (i : Images) (place n : ℕ) → LeavesWrite held pending (place + 1) n i → (base : ℕ) (es : List Entry) → IsGatedAt (held chosen) base es place → LeavesEntries pending base es i
leaves_record held pending i place n w base es g = record { file = image_behind (held chosen) (i chosen) base es place n g w.file; others = w.others }

pub leaves_gate : (held : Images) (pending : File → Pending) (i : Images) (place : ℕ) → LeavesWrite held pending place 1 i
    → (base : ℕ) (es : List Entry) (x : Entry) → IsReadyAt (held chosen) base es x place → MayFollow base es x → LeavesEither pending base es x i
leaves_gate held pending i place w base es x r may = record { file = image_of_gate (held chosen) (i chosen) base es x place r may w.file; others = w.others }

pub leaves_first : (pending : File → Pending) (i : Images) (base : ℕ) (es : List Entry) (x : Entry) → LeavesEntries pending base es i → LeavesEither pending base es x i
leaves_first pending i base es x w = record { file = inl w.file; others = w.others }

pub either_back : (held_old held_mid : Images) (pending_old pending_mid : File → Pending) (i : Images) (base : ℕ) (es : List Entry) (x : Entry) → OthersStay held_old held_mid pending_old pending_mid → LeavesEither pending_mid base es x i → LeavesEither pending_old base es x i
either_back held_old held_mid pending_old pending_mid i base es x s w = record { file = w.file; others = others_back held_old held_mid pending_old pending_mid i s w.others }

-- ---- the end of the journal

pub end_more : (base place : ℕ) (es : List Entry) (x : Entry) (bytes : List ℕ) → place ≡ length (header_of base ++ records_of es) → IsFrame x bytes → place + length bytes ≡ length (header_of base ++ records_of (es ++ x ∷ []))
end_more base place es x bytes is frame = omega (
  arith,
  is,
  ap length frame.bytes_are,
  length-append (frame_bytes x) (closed_gate ∷ []),
  ap length (records_more es x),
  length-append (records_of es) (open_gate ∷ frame_bytes x),
  length-append (header_of base) (records_of es),
  length-append (header_of base) (records_of (es ++ x ∷ [])),
)
