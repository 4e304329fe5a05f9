-- How a reader goes from gate to gate.
use Rattle.std.proofs.Common.{◌≡◌, ◌≢◌, inl, inr, ℕ, suc, ◌+◌, ◌≤◌, ◌<◌, List, [], ◌∷◌, ◌++◌, length, get_or, take, drop, refl, sym, ap, subst, ◌∙◌, append_assoc, length-take, length-drop, drop-cons, add-one, arith}
use Rattle.std.specs.BTreeSet.{BTreeSet}
use Rattle.std.specs.BTreeMap.{is_at}
use Rattle.std.specs.List.{list_any}
use Rattle.std.proofs.lemmas.Bool.{false≢true}
use Rattle.std.proofs.lemmas.List.{take-append-drop}
use Rattle.std.proofs.Math.Seq.{take-append-add}
use Rattle.object_journal.specs.declared.key.Key.{Key}
use Rattle.object_journal.specs.declared.entry.Entry.{Entry}
use Rattle.object_journal.specs.declared.reading.Reading.{Reading}
use Rattle.object_journal.specs.Payload.{frame_bytes}
use Rattle.object_journal.specs.KeyOrder.{by_key}
use Rattle.object_journal.specs.Journal.{HasNoNext, IsHeader, IsBrokenAt, last_revision, open_gate, header_of, records_of}
use Rattle.object_journal.specs.HeldKeys.{AreHeld}
use Rattle.object_journal.specs.Readings.{Begins, Advances, HasHeader, IsReadTo, IsWholeReading}
use Rattle.object_journal.proofs.EntryLaws.{not_empty}
use Rattle.object_journal.proofs.Appends.{records_more}

none_held : (held : BTreeSet Key) → held.keys ≡ [] → AreHeld held []
none_held held none k = (
  (λ there. absurd (false≢true (sym (ap (list_any (is_at (by_key k))) none) ∙ there))),
  (λ h. absurd (not_empty h.1.before h.0 h.1.behind h.1.parts)),
)

pub begins : (base : ℕ) (held : BTreeSet Key) → base ≤ last_revision → held.keys ≡ [] → Begins (record { base = base; revision = base; held = held }) base
begins base held fits empty = record {
  state = record {
    base_fits = fits;
    lawful = λ before e behind p. absurd (not_empty before e behind p);
    held = none_held held empty;
    revision = refl;
    revision_fits = fits;
  };
  base_is = refl;
}

-- the bytes in front of a gate, the gate, and those behind it
at_gate : (bytes front : List ℕ) (place gate : ℕ) → take place bytes ≡ front → place < length bytes → get_or bytes place 0 ≡ gate → bytes ≡ front ++ gate ∷ drop (place + 1) bytes
at_gate bytes front place gate is within byte =
    let behind : drop place bytes ≡ get_or bytes place 0 ∷ drop (place + 1) bytes = rw (add-one, drop-cons bytes place 0 within) refl in
    sym (take-append-drop place bytes) ∙ (λ i. is i ++ behind i) ∙ ap (λ (g : ℕ). front ++ g ∷ drop (place + 1) bytes) byte

whole_at : (r : Reading) (es : List Entry) (bytes : List ℕ) (place gate : ℕ) → IsReadTo r es bytes place → get_or bytes place 0 ≡ gate → bytes ≡ header_of r.base ++ (records_of es ++ gate ∷ drop (place + 1) bytes)
whole_at r es bytes place gate h byte = at_gate bytes (header_of r.base ++ records_of es) place gate h.front h.within byte ∙ append_assoc (header_of r.base) (records_of es) (gate ∷ drop (place + 1) bytes)

pub ends : (r : Reading) (es : List Entry) (bytes : List ℕ) (place : ℕ) → IsReadTo r es bytes place → get_or bytes place 0 ≢ open_gate → IsWholeReading r es bytes place
ends r es bytes place h closed = record {
  means = inr (inr (record {
    gate = get_or bytes place 0;
    behind = drop (place + 1) bytes;
    parts = whole_at r es bytes place (get_or bytes place 0) h refl;
    base_fits = h.state.base_fits;
    lawful = h.state.lawful;
    closed = closed;
  }));
  state = h.state;
  gate = omega (arith, ap length h.front, length-take place bytes, h.within);
}

pub breaks : (r : Reading) (es : List Entry) (bytes : List ℕ) (place : ℕ) → IsReadTo r es bytes place → get_or bytes place 0 ≡ open_gate → HasNoNext r.base es (drop (place + 1) bytes) → IsBrokenAt bytes place
breaks r es bytes place h opened none = record {
  base = r.base;
  entries = es;
  rest = drop (place + 1) bytes;
  parts = whole_at r es bytes place open_gate h opened;
  base_fits = h.state.base_fits;
  lawful = h.state.lawful;
  none = none;
  place_is = omega (arith, ap length h.front, length-take place bytes, h.within);
}

first_more : (n g : ℕ) (d front : List ℕ) → take n d ≡ front → take (1 + n) (g ∷ d) ≡ g ∷ front
first_more n g d front is =
    let one_more : 1 + n ≡ suc n = omega arith in
    ap (λ (k : ℕ). take k (g ∷ d)) one_more ∙ ap (λ (t : List ℕ). g ∷ t) is

pub goes_on : (r s : Reading) (es : List Entry) (e : Entry) (bytes : List ℕ) (place next : ℕ) → IsReadTo r es bytes place → get_or bytes place 0 ≡ open_gate → Advances r s es (drop (place + 1) bytes) e next → IsReadTo s (es ++ e ∷ []) bytes (place + (1 + next))
goes_on r s es e bytes place next h opened a =
    let front = header_of r.base ++ records_of es in
    let d = drop (place + 1) bytes in
    let whole : bytes ≡ front ++ (open_gate ∷ d) = at_gate bytes front place open_gate h.front h.within opened in
    let size : length front ≡ place = omega (arith, ap length h.front, length-take place bytes, h.within) in
    let cut : take (place + (1 + next)) bytes ≡ front ++ take (1 + next) (open_gate ∷ d) = (λ i. take (sym size i + (1 + next)) (whole i)) ∙ take-append-add front (open_gate ∷ d) (1 + next) in
    let piece : take (1 + next) (open_gate ∷ d) ≡ open_gate ∷ frame_bytes e = first_more next open_gate d (frame_bytes e) a.at_front in
    let joined : front ++ (open_gate ∷ frame_bytes e) ≡ header_of r.base ++ records_of (es ++ e ∷ []) = append_assoc (header_of r.base) (records_of es) (open_gate ∷ frame_bytes e) ∙ ap (λ (t : List ℕ). header_of r.base ++ t) (sym (records_more es e)) in
    record {
      state = a.state;
      front = cut ∙ ap (λ (t : List ℕ). front ++ t) piece ∙ joined ∙ ap (λ (n : ℕ). header_of n ++ records_of (es ++ e ∷ [])) (sym a.base);
      within = omega (arith, a.within, length-drop (place + 1) bytes, h.within);
    }

pub one_left : (l : List ℕ) → length l ≡ 1 → l ≡ get_or l 0 0 ∷ []
one_left [] size = absurd (omega (arith, size))
one_left (a ∷ []) size = refl
one_left (a ∷ b ∷ l) size = absurd (omega (arith, size))

alone : (bytes : List ℕ) (base : ℕ) → HasHeader bytes base → length bytes ≡ 17 → IsHeader bytes base
alone bytes base h size = record {
  gate = get_or (drop 16 bytes) 0 0;
  parts = h.parts ∙ ap (λ (t : List ℕ). header_of base ++ t) (one_left (drop 16 bytes) (omega (arith, length-drop 16 bytes, size)));
  base_fits = h.base_fits;
}

pub header_alone : (r : Reading) (bytes : List ℕ) (base : ℕ) → Begins r base → HasHeader bytes base → length bytes ≡ 17 → IsWholeReading r [] bytes 16
header_alone r bytes base b h size = record {
  means = inr (inl (subst (IsHeader bytes) (sym b.base_is) (alone bytes base h size), refl));
  state = b.state;
  gate = refl;
}
