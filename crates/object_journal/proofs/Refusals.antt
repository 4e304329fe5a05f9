-- Bytes that mean something break the grammar nowhere, and others at one place.
use Rattle.std.proofs.Common.{◌≡◌, ◌≢◌, inl, inr, ℕ, List, [], ◌∷◌, ◌++◌, length, drop, refl, sym, ap, subst, ◌∙◌, arith}
use Rattle.object_journal.specs.declared.entry.Entry.{Entry}
use Rattle.object_journal.specs.Payload.{frame_bytes}
use Rattle.object_journal.specs.Journal.{MayFollow, AreLawful, IsBrokenAt, IsRefusal, IsGated, IsJournal, open_gate, header_of, records_of}
use Rattle.object_journal.proofs.Readings.{AreRecords, lawful_records, behind_gate, first_is, one_record, one_header, long_header}

abbrev Follows : Type 1
Follows = List Entry → Entry → Type 0

-- each entry of a list follows those before it
abbrev Each : Follows → List Entry → Type 0
Each M es = (before : List Entry) (e : Entry) (behind : List Entry) → es ≡ before ++ e ∷ behind → M before e

-- no record that may follow these entries stands in front of a gate
abbrev NoNext : Follows → List Entry → List ℕ → Type 0
NoNext M es rest = (e : Entry) (gate : ℕ) (behind : List ℕ) → rest ≡ frame_bytes e ++ gate ∷ behind → M es e → ⊥

each_tail : (M : Follows) (e : Entry) (es : List Entry) → Each M (e ∷ es) → Each (λ before x. M (e ∷ before) x) es
each_tail M e es h before x behind p = h (e ∷ before) x behind (ap (λ (t : List Entry). e ∷ t) p)

-- records and a byte begin with a byte
front : (es : List Entry) (g : ℕ) (t : List ℕ) → (first : ℕ) × (behind : List ℕ) × (records_of es ++ g ∷ t ≡ first ∷ behind)
front [] g t = (g, t, refl)
front (e ∷ es) g t = (open_gate, frame_bytes e ++ (records_of es ++ g ∷ t), behind_gate e es (g ∷ t))

too_early : (M : Follows) (y : Entry) (ys : List Entry) (h : ℕ) (rest b : List ℕ) → Each M (y ∷ ys) → NoNext M [] rest → open_gate ∷ rest ≡ records_of (y ∷ ys) ++ h ∷ b → ⊥
too_early M y ys h rest b each none e =
    let f = front ys h b in
    let rest_is : rest ≡ frame_bytes y ++ f.0 ∷ f.1 = ap (λ (t : List ℕ). drop 1 t) (e ∙ behind_gate y ys (h ∷ b)) ∙ ap (λ (t : List ℕ). frame_bytes y ++ t) f.2 in
    none y f.0 f.1 rest_is (each [] y ys refl)

same_front : (x y : Entry) (xs ys : List Entry) (g h : ℕ) (a b : List ℕ) → AreRecords (x ∷ xs) → AreRecords (y ∷ ys) → records_of (x ∷ xs) ++ g ∷ a ≡ records_of (y ∷ ys) ++ h ∷ b → (x ≡ y) × (records_of xs ++ g ∷ a ≡ records_of ys ++ h ∷ b)
same_front x y xs ys g h a b is_xs is_ys e = one_record x y _ _ is_xs.0 is_ys.0 (ap (λ (t : List ℕ). drop 1 t) (sym (behind_gate x xs (g ∷ a)) ∙ e ∙ behind_gate y ys (h ∷ b)))

none_tail : (M : Follows) (x y : Entry) (xs : List Entry) (rest : List ℕ) → x ≡ y → NoNext M (x ∷ xs) rest → NoNext (λ before z. M (y ∷ before) z) xs rest
none_tail M x y xs rest is none e gate behind p m = none e gate behind p (subst (λ (z : Entry). M (z ∷ xs) e) (sym is) m)

-- a closed gate isn't where no record follows an open one
closed_or_broken : (M : Follows) (xs ys : List Entry) (h : ℕ) (rest b : List ℕ) → Each M ys → NoNext M xs rest → AreRecords xs → AreRecords ys → h ≢ open_gate → records_of xs ++ open_gate ∷ rest ≡ records_of ys ++ h ∷ b → ⊥
closed_or_broken M [] [] h rest b each none is_xs is_ys shut e = shut (sym (first_is open_gate h rest b e))
closed_or_broken M [] (y ∷ ys) h rest b each none is_xs is_ys shut e = too_early M y ys h rest b each none e
closed_or_broken M (x ∷ xs) [] h rest b each none is_xs is_ys shut e = shut (sym (first_is open_gate h _ b (sym (behind_gate x xs (open_gate ∷ rest)) ∙ e)))
closed_or_broken M (x ∷ xs) (y ∷ ys) h rest b each none is_xs is_ys shut e =
    let step = same_front x y xs ys open_gate h rest b is_xs is_ys e in
    closed_or_broken (λ before z. M (y ∷ before) z) xs ys h rest b (each_tail M y ys each) (none_tail M x y xs rest step.0 none) is_xs.1 is_ys.1 shut step.1

-- the records before such a place are the same
same_broken : (M : Follows) (xs ys : List Entry) (rest b : List ℕ) → Each M xs → Each M ys → NoNext M xs rest → NoNext M ys b → AreRecords xs → AreRecords ys → records_of xs ++ open_gate ∷ rest ≡ records_of ys ++ open_gate ∷ b → xs ≡ ys
same_broken M [] [] rest b each_x each_y none_x none_y is_xs is_ys e = refl
same_broken M [] (y ∷ ys) rest b each_x each_y none_x none_y is_xs is_ys e = absurd (too_early M y ys open_gate rest b each_y none_x e)
same_broken M (x ∷ xs) [] rest b each_x each_y none_x none_y is_xs is_ys e = absurd (too_early M x xs open_gate b rest each_x none_y (sym e))
same_broken M (x ∷ xs) (y ∷ ys) rest b each_x each_y none_x none_y is_xs is_ys e =
    let step = same_front x y xs ys open_gate open_gate rest b is_xs is_ys e in
    let each : Each (λ before z. M (y ∷ before) z) xs = subst (λ (w : Entry). Each (λ before z. M (w ∷ before) z) xs) step.0 (each_tail M x xs each_x) in
    let more = same_broken (λ before z. M (y ∷ before) z) xs ys rest b each (each_tail M y ys each_y) (none_tail M x y xs rest step.0 none_x) none_y is_xs.1 is_ys.1 step.1 in
    λ i. step.0 i ∷ more i

-- ---- whole files

gated_or_broken : (bytes : List ℕ) (base place : ℕ) (es : List Entry) → IsGated bytes base es → IsBrokenAt bytes place → ⊥
gated_or_broken bytes base place es g r =
    let both = one_header r.base base (records_of r.entries ++ open_gate ∷ r.rest) (records_of es ++ g.gate ∷ g.behind) r.base_fits g.base_fits (sym r.parts ∙ g.parts) in
    let lawful : AreLawful r.base es = subst (λ (n : ℕ). AreLawful n es) (sym both.0) g.lawful in
    closed_or_broken (λ before e. MayFollow r.base before e) r.entries es g.gate r.rest g.behind lawful r.none (lawful_records r.base r.entries r.lawful) (lawful_records base es g.lawful) g.closed both.1

one_broken : (bytes : List ℕ) (p q : ℕ) → IsBrokenAt bytes p → IsBrokenAt bytes q → p ≡ q
one_broken bytes p q r s =
    let both = one_header r.base s.base (records_of r.entries ++ open_gate ∷ r.rest) (records_of s.entries ++ open_gate ∷ s.rest) r.base_fits s.base_fits (sym r.parts ∙ s.parts) in
    let M : Follows = λ before e. MayFollow r.base before e in
    let lawful : AreLawful r.base s.entries = subst (λ (n : ℕ). AreLawful n s.entries) (sym both.0) s.lawful in
    let none : NoNext M s.entries s.rest = subst (λ (n : ℕ). NoNext (λ before e. MayFollow n before e) s.entries s.rest) (sym both.0) s.none in
    let entries = same_broken M r.entries s.entries r.rest s.rest r.lawful lawful r.none none (lawful_records r.base r.entries r.lawful) (lawful_records s.base s.entries s.lawful) both.1 in
    r.place_is ∙ (λ i. length (header_of (both.0 i) ++ records_of (entries i))) ∙ sym s.place_is

pub reads_or_breaks : (bytes : List ℕ) (base place : ℕ) (es : List Entry) → IsJournal bytes base es → IsRefusal bytes place → ⊥
reads_or_breaks bytes base place es (inl j) (inl r) = absurd (omega (arith, j.0, r.0))
reads_or_breaks bytes base place es (inl j) (inr r) = absurd (omega (arith, j.0, r.0))
reads_or_breaks bytes base place es (inr (inl j)) (inl r) = r.1 base (j.0.gate ∷ []) j.0.base_fits j.0.parts
reads_or_breaks bytes base place es (inr (inl j)) (inr r) = absurd (omega (arith, long_header bytes base j.0, r.0))
reads_or_breaks bytes base place es (inr (inr j)) (inl r) = r.1 base (records_of es ++ j.gate ∷ j.behind) j.base_fits j.parts
reads_or_breaks bytes base place es (inr (inr j)) (inr r) = gated_or_broken bytes base place es j r.1

pub one_place : (bytes : List ℕ) (p q : ℕ) → IsRefusal bytes p → IsRefusal bytes q → p ≡ q
one_place bytes p q (inl r) (inl s) = r.2 ∙ sym s.2
one_place bytes p q (inl r) (inr s) = absurd (r.1 s.1.base (records_of s.1.entries ++ open_gate ∷ s.1.rest) s.1.base_fits s.1.parts)
one_place bytes p q (inr r) (inl s) = absurd (s.1 r.1.base (records_of r.1.entries ++ open_gate ∷ r.1.rest) r.1.base_fits r.1.parts)
one_place bytes p q (inr r) (inr s) = one_broken bytes p q r.1 s.1
