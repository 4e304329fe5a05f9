-- What follows of entries with one more.
use Rattle.std.proofs.Common.{◌≡◌, ◌≢◌, ◌⊎◌, inl, inr, ⊎_elim, ℕ, ◌≤◌, List, [], ◌∷◌, ◌++◌, length, get_or, drop, Some, refl, sym, ap, subst, ◌∙◌, append_assoc, arith}
use Rattle.std.specs.Prelude.{max}
use Rattle.std.proofs.lemmas.List.Elements.{All-push, All-pop, All-nil}
use Rattle.object_journal.specs.declared.key.Key.{Key}
use Rattle.object_journal.specs.declared.entry.Entry.{Entry}
use Rattle.object_journal.specs.Journal.{IsPut, Leaves, IsHeld, MayFollow, AreLawful, revision_after}

head_is : (x y : Entry) (xs ys : List Entry) → x ∷ xs ≡ y ∷ ys → x ≡ y
head_is x y xs ys e = ap (λ (l : List Entry). get_or l 0 x) e

tail_is : (x y : Entry) (xs ys : List Entry) → x ∷ xs ≡ y ∷ ys → xs ≡ ys
tail_is x y xs ys e = ap (λ (l : List Entry). drop 1 l) e

pub not_empty : (xs : List Entry) (x : Entry) (ys : List Entry) → [] ≡ xs ++ x ∷ ys → ⊥
not_empty [] x ys e = absurd (omega (arith, ap length e))
not_empty (y ∷ xs) x ys e = absurd (omega (arith, ap length e))

-- an entry of a list with one more is the one more, or one of the list
pub last_or_earlier : (es : List Entry) (e : Entry) (before : List Entry) (x : Entry) (behind : List Entry) → es ++ e ∷ [] ≡ before ++ x ∷ behind
    → ((before ≡ es) × (x ≡ e)) ⊎ ((rest : List Entry) × (es ≡ before ++ x ∷ rest) × (behind ≡ rest ++ e ∷ []))
last_or_earlier [] e [] x behind h = inl (refl, sym (head_is e x [] behind h))
last_or_earlier [] e (b ∷ before) x behind h = absurd (not_empty before x behind (tail_is e b [] (before ++ x ∷ behind) h))
last_or_earlier (y ∷ es) e [] x behind h = inr (es, ap (λ (z : Entry). z ∷ es) (head_is y x (es ++ e ∷ []) behind h), sym (tail_is y x (es ++ e ∷ []) behind h))
last_or_earlier (y ∷ es) e (b ∷ before) x behind h =
    let first = head_is y b (es ++ e ∷ []) (before ++ x ∷ behind) h in
    ⊎_elim (λ p. inl ((λ i. sym first i ∷ p.0 i), p.1)) (λ r. inr (r.0, (λ i. first i ∷ r.1 i), r.2)) (last_or_earlier es e before x behind (tail_is y b (es ++ e ∷ []) (before ++ x ∷ behind) h))

pub lawful_more : (base : ℕ) (es : List Entry) (e : Entry) → AreLawful base es → MayFollow base es e → AreLawful base (es ++ e ∷ [])
lawful_more base es e lawful may before x behind h =
    ⊎_elim (λ p. subst (λ (q : List Entry × Entry). MayFollow base q.0 q.1) (λ i. (sym p.0 i, sym p.1 i)) may) (λ r. lawful before x r.0 r.1) (last_or_earlier es e before x behind h)

-- ---- what they leave

pub leaves_last : (es : List Entry) (e : Entry) → IsPut e.change → Leaves (es ++ e ∷ []) e
leaves_last es e put = record { before = es; behind = []; parts = refl; put = put; last = All-nil (λ other. other.key ≢ e.key) }

pub leaves_more : (es : List Entry) (e x : Entry) → Leaves es x → e.key ≢ x.key → Leaves (es ++ e ∷ []) x
leaves_more es e x l apart = record {
  before = l.before;
  behind = l.behind ++ e ∷ [];
  parts = ap (λ (t : List Entry). t ++ e ∷ []) l.parts ∙ append_assoc l.before (x ∷ l.behind) (e ∷ []);
  put = l.put;
  last = All-push (λ other. other.key ≢ x.key) l.behind e l.last apart;
}

pub leaves_cases : (es : List Entry) (e x : Entry) → Leaves (es ++ e ∷ []) x → (x ≡ e) ⊎ (Leaves es x × (e.key ≢ x.key))
leaves_cases es e x l =
    ⊎_elim (λ p. inl p.1) (λ r.
    let both = All-pop (λ other. other.key ≢ x.key) l.behind r.0 (Some e) r.2 l.last in
    inr (record { before = l.before; behind = r.0; parts = r.1; put = l.put; last = both.0 }, both.1)) (last_or_earlier es e l.before x l.behind l.parts)

pub held_cases : (es : List Entry) (e : Entry) (k : Key) → IsHeld (es ++ e ∷ []) k → ((e.key ≡ k) × IsPut e.change) ⊎ ((e.key ≢ k) × IsHeld es k)
held_cases es e k h =
    ⊎_elim (λ is. inl (ap (λ (y : Entry). y.key) (sym is) ∙ h.2, subst (λ (y : Entry). IsPut y.change) is h.1.put)) (λ p. inr ((λ same-key. p.1 (same-key ∙ sym h.2)), (h.0, p.0, h.2))) (leaves_cases es e h.0 h.1)

pub held_more : (es : List Entry) (e : Entry) (k : Key) → e.key ≢ k → IsHeld es k → IsHeld (es ++ e ∷ []) k
held_more es e k apart h = (h.0, leaves_more es e h.0 h.1 (λ same-key. apart (same-key ∙ h.2)), h.2)

-- ---- the greatest revision

pub base_below : (base : ℕ) (es : List Entry) → base ≤ revision_after base es
base_below base [] = omega arith
base_below base (e ∷ es) = omega (arith, base_below base es)

pub revision_more : (base : ℕ) (es : List Entry) (e : Entry) → revision_after base (es ++ e ∷ []) ≡ max (revision_after base es) e.revision
revision_more base [] e = omega arith
revision_more base (x ∷ es) e = omega (arith, revision_more base es e)
