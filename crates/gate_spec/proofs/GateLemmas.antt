-- What one more entry says of a gate, and that a release knows one thing of it.
use Rattle.std.proofs.Common.{◌≡◌, inl, inr, ℕ, ◌+◌, ◌<◌, ◌≤◌, Bool, true, false, List, [], ◌∷◌, ◌++◌, All, length, take, get_or, refl, sym, ◌∙◌, ap, subst, arith}
use Rattle.std.proofs.lemmas.Bool.{le-leb, lt-leb, cases_lt}
use Rattle.std.proofs.lemmas.List.Elements.{All-push, All-weaker, All-filter, All-contains, All-from_get_or, Contains-push, Contains-append_left}
use Rattle.std.proofs.lemmas.List.{get_or-take, length-take, take_more}
use Rattle.std.specs.Prelude.{nat_le}
use Rattle.std.proofs.lemmas.List.Kept.{AllPairs-filter}
use Rattle.std.proofs.lemmas.List.Quantifiers.{all_pairs_push}
use Rattle.gate_spec.specs.Gates.{RisesInDate, cutoff, HasGate, IsNewest, IsFoundIn, is_spec, specs_of, IsLastDefault, IsRemovedIn, IsSpecAt}
use Rattle.gate_spec.specs.declared.entry.GateEntry.{GateEntry}
use Rattle.gate_spec.specs.declared.entry.GateChange.{GateChange}
use Rattle.gate_spec.specs.declared.entry.GateChange.TheVariants.{Spec, Gone}
use Rattle.gate_spec.specs.declared.entry.Stage.{Stage}
use Rattle.gate_spec.specs.declared.entry.SpecAt.{SpecAt}
use Rattle.gate_spec.specs.declared.entry.SpecAt.TheVariants.{Found, PreAlpha, Removed, Never}
use Rattle.basis.proofs.ElementLemmas.{Any-from, Any-push_left, Any-push, Any-push_cases, AllPairs-cases}
use Rattle.basis.proofs.FilterLemmas.{Contains-filter, filter-push, filter-push_not, Any-from_filter}

pub cutoff-push : (xs : List GateEntry) (x : GateEntry) (e : ℕ) → x.since ≤ e → cutoff (xs ++ x ∷ []) e ≡ cutoff xs e ++ x ∷ []
cutoff-push xs x e h = filter-push _ xs x (le-leb x.since e h)

pub cutoff-push_later : (xs : List GateEntry) (x : GateEntry) (e : ℕ) → e < x.since → cutoff (xs ++ x ∷ []) e ≡ cutoff xs e
cutoff-push_later xs x e h = filter-push_not _ xs x (lt-leb x.since e h)

pub newest_push : (xs : List GateEntry) (x : GateEntry) → All (λ y. y.name ≡ x.name → y.since < x.since) xs → IsNewest (xs ++ x ∷ []) x.name x
newest_push xs x older = record {
  among = Contains-push xs x;
  named = refl;
  newest = All-push (λ y. y.name ≡ x.name → y.since ≤ x.since) xs x
      (All-weaker (λ y. y.name ≡ x.name → y.since < x.since) (λ y. y.name ≡ x.name → y.since ≤ x.since) (λ y h same. let before : y.since < x.since = h same in omega arith) xs older)
      (λ _. omega arith);
}

pub newest_other : (xs : List GateEntry) (x y : GateEntry) (name : List ℕ) → (x.name ≡ name → ⊥) → IsNewest xs name y → IsNewest (xs ++ x ∷ []) name y
newest_other xs x y name other h = record {
  among = Contains-append_left xs (x ∷ []) y h.among;
  named = h.named;
  newest = All-push (λ z. z.name ≡ name → z.since ≤ y.since) xs x h.newest (λ same. absurd (other same));
}

pub newest_spec : (xs : List GateEntry) (x : GateEntry) (name : List ℕ) → is_spec x.change ≡ true → IsNewest xs name x → IsNewest (specs_of xs) name x
newest_spec xs x name spec h = record {
  among = Contains-filter (λ y. is_spec y.change) xs x h.among spec;
  named = h.named;
  newest = All-filter (λ y. is_spec y.change) (λ y. y.name ≡ name → y.since ≤ x.since) xs h.newest;
}

pub no_gate_other : (xs : List GateEntry) (x : GateEntry) (name : List ℕ) → (x.name ≡ name → ⊥) → (HasGate xs name → ⊥) → HasGate (xs ++ x ∷ []) name → ⊥
no_gate_other xs x name other none h = elim (Any-push_cases (λ y. y.name ≡ name) xs x h) [ inl before ↦ none before | inr same ↦ other same ]

pub last_default_gone : (xs : List GateEntry) (x : GateEntry) (name : List ℕ) (d : Bool) → x.change ≡ Gone → IsLastDefault xs name d → IsLastDefault (xs ++ x ∷ []) name d
last_default_gone xs x name d gone h =
    let same : specs_of (xs ++ x ∷ []) ≡ specs_of xs = filter-push_not (λ y. is_spec y.change) xs x (ap is_spec gone) in
    rw same h

last_default_other : (xs : List GateEntry) (x : GateEntry) (name : List ℕ) (d : Bool) (k : GateChange) → x.change ≡ k → (x.name ≡ name → ⊥) → IsLastDefault xs name d → IsLastDefault (xs ++ x ∷ []) name d
last_default_other xs x name d Gone is other h = last_default_gone xs x name d is h
last_default_other xs x name d (Spec a b c) is other h =
    let more : specs_of (xs ++ x ∷ []) ≡ specs_of xs ++ x ∷ [] = filter-push (λ y. is_spec y.change) xs x (ap is_spec is) in
    elim h [
      | inl (y, newest, spec) ↦ inl (y, rw more (newest_other (specs_of xs) x y name other newest), spec)
      | inr (none, d) ↦ inr ((λ some. no_gate_other (specs_of xs) x name other none (rw more at some)), d)
    ]

-- what holds of tables, and still with one entry more, holds of the tables of a history with one entry more
pub cutoff_more : (P : List GateEntry → Type 0) (xs : List GateEntry) (x : GateEntry) (e : ℕ) → (P (cutoff xs e) → P (cutoff xs e ++ x ∷ [])) → P (cutoff xs e) → P (cutoff (xs ++ x ∷ []) e)
cutoff_more P xs x e more h =
    elim (cases_lt e x.since) [
      | inl later ↦ subst P (sym (cutoff-push_later xs x e later)) h
      | inr known ↦ subst P (sym (cutoff-push xs x e known)) (more h)
    ]

pub spec_at_other : (xs : List GateEntry) (x : GateEntry) (name : List ℕ) (e : ℕ) (s : SpecAt) → (x.name ≡ name → ⊥) → IsSpecAt xs name e s → IsSpecAt (xs ++ x ∷ []) name e s
spec_at_other xs x name e (Found stage default locked) other h =
    cutoff_more (λ t. IsFoundIn t name stage default locked) xs x e (λ g. (g.0, newest_other (cutoff xs e) x g.0 name other g.1, g.2)) h
spec_at_other xs x name e (Removed value) other h =
    cutoff_more (λ t. IsRemovedIn t name value) xs x e
    (λ g. (g.0, newest_other (cutoff xs e) x g.0 name other g.1, g.2, last_default_other (cutoff xs e) x name value x.change refl other g.3)) h
spec_at_other xs x name e PreAlpha other h =
    (cutoff_more (λ t. HasGate t name → ⊥) xs x e (no_gate_other (cutoff xs e) x name other) h.0, Any-push_left (λ y. y.name ≡ name) xs x h.1)
spec_at_other xs x name e Never other h = no_gate_other xs x name other h

pub spec_at_later : (xs : List GateEntry) (x : GateEntry) (name : List ℕ) (e : ℕ) (s : SpecAt) → e < x.since → (s ≡ Never → ⊥) → IsSpecAt xs name e s → IsSpecAt (xs ++ x ∷ []) name e s
spec_at_later xs x name e (Found stage default locked) later some h = subst (λ t. IsFoundIn t name stage default locked) (sym (cutoff-push_later xs x e later)) h
spec_at_later xs x name e (Removed value) later some h = subst (λ t. IsRemovedIn t name value) (sym (cutoff-push_later xs x e later)) h
spec_at_later xs x name e PreAlpha later some h =
    (subst (λ t. HasGate t name → ⊥) (sym (cutoff-push_later xs x e later)) h.0, Any-push_left (λ y. y.name ≡ name) xs x h.1)
spec_at_later xs x name e Never later some h = absurd (some refl)

pub spec_at_first : (xs : List GateEntry) (x : GateEntry) (e : ℕ) → e < x.since → IsSpecAt xs x.name e Never → IsSpecAt (xs ++ x ∷ []) x.name e PreAlpha
spec_at_first xs x e later none =
    ((λ some. none (Any-from_filter (λ y. y.name ≡ x.name) (λ y. nat_le y.since e) xs (subst (λ t. HasGate t x.name) (cutoff-push_later xs x e later) some))), Any-push (λ y. y.name ≡ x.name) xs x refl)

newest_known : (xs : List GateEntry) (x : GateEntry) (e : ℕ) → x.since ≤ e → All (λ y. y.name ≡ x.name → y.since < x.since) xs → IsNewest (cutoff (xs ++ x ∷ []) e) x.name x
newest_known xs x e known older =
    subst (λ t. IsNewest t x.name x) (sym (cutoff-push xs x e known))
    (newest_push (cutoff xs e) x (All-filter (λ y. nat_le y.since e) (λ y. y.name ≡ x.name → y.since < x.since) xs older))

pub spec_at_spec : (xs : List GateEntry) (x : GateEntry) (e : ℕ) (stage : Stage) (default locked : Bool) → x.since ≤ e → x.change ≡ Spec stage default locked → All (λ y. y.name ≡ x.name → y.since < x.since) xs
    → IsSpecAt (xs ++ x ∷ []) x.name e (Found stage default locked)
spec_at_spec xs x e stage default locked known is older = (x, newest_known xs x e known older, is)

pub spec_at_gone : (xs : List GateEntry) (x : GateEntry) (e : ℕ) (value : Bool) → x.since ≤ e → x.change ≡ Gone → All (λ y. y.name ≡ x.name → y.since < x.since) xs → IsLastDefault (cutoff xs e) x.name value
    → IsSpecAt (xs ++ x ∷ []) x.name e (Removed value)
spec_at_gone xs x e value known is older last =
    (x, newest_known xs x e known older, is, subst (λ t. IsLastDefault t x.name value) (sym (cutoff-push xs x e known)) (last_default_gone (cutoff xs e) x x.name value is last))

-- the default that a removal would keep
pub last_default_found : (xs : List GateEntry) (name : List ℕ) (stage : Stage) (default locked : Bool) → IsFoundIn xs name stage default locked → IsLastDefault xs name default
last_default_found xs name stage default locked h = inl (h.0, newest_spec xs h.0 name (ap is_spec h.2) h.1, (stage, locked, h.2))

pub last_default_none : (xs : List GateEntry) (name : List ℕ) → (HasGate xs name → ⊥) → IsLastDefault xs name false
last_default_none xs name none = inr ((λ some. none (Any-from_filter (λ y. y.name ≡ name) (λ y. is_spec y.change) xs some)), refl)

pub no_gate_cutoff : (xs : List GateEntry) (name : List ℕ) (e : ℕ) → (HasGate xs name → ⊥) → HasGate (cutoff xs e) name → ⊥
no_gate_cutoff xs name e none some = none (Any-from_filter (λ y. y.name ≡ name) (λ y. nat_le y.since e) xs some)

-- every earlier entry of the gate is dated before the entry at k
pub rises_at : (xs : List GateEntry) (k : ℕ) (d : GateEntry) → RisesInDate xs → k < length xs → All (λ y. y.name ≡ (get_or xs k d).name → y.since < (get_or xs k d).since) (take k xs)
rises_at xs k d up below = All-from_get_or (λ y. y.name ≡ (get_or xs k d).name → y.since < (get_or xs k d).since) (take k xs) d
    (λ i h. let before : i < k = omega (arith, length-take k xs) in rw (get_or-take k xs i d before) (up i k d before below))

-- the entry at k of the gate, read after those before it
pub spec_at_read : (xs : List GateEntry) (k : ℕ) (x : GateEntry) (name : List ℕ) (e : ℕ) (s t : SpecAt) → RisesInDate xs → k < length xs → x ≡ get_or xs k x → x.name ≡ name → IsSpecAt (take k xs) name e s
    → ((earlier : List GateEntry) → All (λ y. y.name ≡ x.name → y.since < x.since) earlier → IsSpecAt earlier x.name e s → IsSpecAt (earlier ++ x ∷ []) x.name e t) → IsSpecAt (take (k + 1) xs) name e t
spec_at_read xs k x name e s t up below is same before step =
    let more : take (k + 1) xs ≡ take k xs ++ x ∷ [] = take_more xs k x below ∙ ap (λ y. take k xs ++ y ∷ []) (sym is) in
    let older : All (λ y. y.name ≡ x.name → y.since < x.since) (take k xs) = subst (λ z. All (λ y. y.name ≡ z.name → y.since < z.since) (take k xs)) (sym is) (rises_at xs k x up below) in
    subst (λ ys. IsSpecAt ys name e t) (sym more) (subst (λ n. IsSpecAt (take k xs ++ x ∷ []) n e t) same (step (take k xs) older (subst (λ n. IsSpecAt (take k xs) n e s) (sym same) before)))

-- the entry at k of another gate
pub spec_at_passed : (xs : List GateEntry) (k : ℕ) (x : GateEntry) (name : List ℕ) (e : ℕ) (s : SpecAt) → k < length xs → x ≡ get_or xs k x → (x.name ≡ name → ⊥) → IsSpecAt (take k xs) name e s → IsSpecAt (take (k + 1) xs) name e s
spec_at_passed xs k x name e s below is other before =
    let more : take (k + 1) xs ≡ take k xs ++ x ∷ [] = take_more xs k x below ∙ ap (λ y. take k xs ++ y ∷ []) (sym is) in
    subst (λ ys. IsSpecAt ys name e s) (sym more) (spec_at_other (take k xs) x name e s other before)

newest_one : (xs : List GateEntry) (name : List ℕ) (x y : GateEntry) → RisesInDate xs → IsNewest xs name x → IsNewest xs name y → x ≡ y
newest_one xs name x y up a b =
    let same : x.name ≡ y.name = a.named ∙ sym b.named in
    let below : y.since ≤ x.since = All-contains (λ z. z.name ≡ name → z.since ≤ x.since) xs y a.newest b.among b.named in
    let above : x.since ≤ y.since = All-contains (λ z. z.name ≡ name → z.since ≤ y.since) xs x b.newest a.among a.named in
    elim (AllPairs-cases (λ z w. z.name ≡ w.name → z.since < w.since) xs x y up a.among b.among) [
      | inl e ↦ e
      | inr (inl before) ↦ absurd (let h : x.since < y.since = before same in omega arith)
      | inr (inr after) ↦ absurd (let h : y.since < x.since = after (sym same) in omega arith)
    ]

no_newest : (xs : List GateEntry) (name : List ℕ) (x : GateEntry) → IsNewest xs name x → (HasGate xs name → ⊥) → ⊥
no_newest xs name x h none = none (Any-from (λ y. y.name ≡ name) xs x h.among h.named)

last_default_one : (xs : List GateEntry) (name : List ℕ) (a b : Bool) → RisesInDate xs → IsLastDefault xs name a → IsLastDefault xs name b → a ≡ b
last_default_one xs name a b up (inl h) (inl k) =
    let same : h.0 ≡ k.0 = newest_one (specs_of xs) name h.0 k.0 (AllPairs-filter (λ x y. x.name ≡ y.name → x.since < y.since) (λ x. is_spec x.change) xs up) h.1 k.1 in
    let change : Spec h.2.0 a h.2.1 ≡ Spec k.2.0 b k.2.1 = sym h.2.2 ∙ ap (λ x. x.change) same ∙ k.2.2 in
    cc
last_default_one xs name a b up (inl h) (inr k) = absurd (no_newest (specs_of xs) name h.0 h.1 k.0)
last_default_one xs name a b up (inr h) (inl k) = absurd (no_newest (specs_of xs) name k.0 k.1 h.0)
last_default_one xs name a b up (inr h) (inr k) = h.1 ∙ sym k.1

-- a release knows one thing of a gate
pub spec_at_one : (xs : List GateEntry) (name : List ℕ) (e : ℕ) (s t : SpecAt) → RisesInDate xs → IsSpecAt xs name e s → IsSpecAt xs name e t → s ≡ t
spec_at_one xs name e (Found a b c) (Found d f g) up h k =
    let same : h.0 ≡ k.0 = newest_one (cutoff xs e) name h.0 k.0 (AllPairs-filter (λ x y. x.name ≡ y.name → x.since < y.since) (λ x. nat_le x.since e) xs up) h.1 k.1 in
    let change : Spec a b c ≡ Spec d f g = sym h.2 ∙ ap (λ x. x.change) same ∙ k.2 in
    cc
spec_at_one xs name e (Found a b c) (Removed v) up h k =
    let same : h.0 ≡ k.0 = newest_one (cutoff xs e) name h.0 k.0 (AllPairs-filter (λ x y. x.name ≡ y.name → x.since < y.since) (λ x. nat_le x.since e) xs up) h.1 k.1 in
    let change : Spec a b c ≡ Gone = sym h.2 ∙ ap (λ x. x.change) same ∙ k.2 in
    absurd cc
spec_at_one xs name e (Removed v) (Found a b c) up h k =
    let same : h.0 ≡ k.0 = newest_one (cutoff xs e) name h.0 k.0 (AllPairs-filter (λ x y. x.name ≡ y.name → x.since < y.since) (λ x. nat_le x.since e) xs up) h.1 k.1 in
    let change : Gone ≡ Spec a b c = sym h.2 ∙ ap (λ x. x.change) same ∙ k.2 in
    absurd cc
spec_at_one xs name e (Removed v) (Removed w) up h k =
    ap Removed (last_default_one (cutoff xs e) name v w (AllPairs-filter (λ x y. x.name ≡ y.name → x.since < y.since) (λ x. nat_le x.since e) xs up) h.3 k.3)
spec_at_one xs name e (Found a b c) PreAlpha up h k = absurd (no_newest (cutoff xs e) name h.0 h.1 k.0)
spec_at_one xs name e (Found a b c) Never up h k = absurd (no_newest (cutoff xs e) name h.0 h.1 (no_gate_cutoff xs name e k))
spec_at_one xs name e (Removed v) PreAlpha up h k = absurd (no_newest (cutoff xs e) name h.0 h.1 k.0)
spec_at_one xs name e (Removed v) Never up h k = absurd (no_newest (cutoff xs e) name h.0 h.1 (no_gate_cutoff xs name e k))
spec_at_one xs name e PreAlpha (Found a b c) up h k = absurd (no_newest (cutoff xs e) name k.0 k.1 h.0)
spec_at_one xs name e Never (Found a b c) up h k = absurd (no_newest (cutoff xs e) name k.0 k.1 (no_gate_cutoff xs name e h))
spec_at_one xs name e PreAlpha (Removed v) up h k = absurd (no_newest (cutoff xs e) name k.0 k.1 h.0)
spec_at_one xs name e Never (Removed v) up h k = absurd (no_newest (cutoff xs e) name k.0 k.1 (no_gate_cutoff xs name e h))
spec_at_one xs name e PreAlpha PreAlpha up h k = refl
spec_at_one xs name e Never Never up h k = refl
spec_at_one xs name e PreAlpha Never up h k = absurd (k h.1)
spec_at_one xs name e Never PreAlpha up h k = absurd (h k.1)

pub rises_later : (xs : List GateEntry) (k : ℕ) (x : GateEntry) (ys : List GateEntry) → k < length xs → x ≡ get_or xs k x → ys ≡ take k xs → RisesInDate xs → All (λ y. y.name ≡ x.name → y.since < x.since) ys
rises_later xs k x ys below is front up = subst (λ zs. All (λ y. y.name ≡ x.name → y.since < x.since) zs) (sym front) (subst (λ z. All (λ y. y.name ≡ z.name → y.since < z.since) (take k xs)) (sym is) (rises_at xs k x up below))

pub rises_more : (xs : List GateEntry) (k : ℕ) (x : GateEntry) (ys : List GateEntry) → k < length xs → x ≡ get_or xs k x → ys ≡ take k xs → RisesInDate (take k xs) → All (λ y. y.name ≡ x.name → y.since < x.since) ys → RisesInDate (take (k + 1) xs)
rises_more xs k x ys below is front up older =
    let more : take (k + 1) xs ≡ take k xs ++ x ∷ [] = take_more xs k x below ∙ ap (λ y. take k xs ++ y ∷ []) (sym is) in
    let before : All (λ y. y.name ≡ x.name → y.since < x.since) (take k xs) = subst (λ zs. All (λ y. y.name ≡ x.name → y.since < x.since) zs) front older in
    subst RisesInDate (sym more) (all_pairs_push (λ y z. y.name ≡ z.name → y.since < z.since) (take k xs) x up before)
