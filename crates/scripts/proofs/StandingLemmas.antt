-- The connections that events leave open, with one event more.
use Rattle.std.proofs.Common.{◌≡◌, inl, inr, ℕ, ◌+◌, ◌<◌, ◌≤◌, IsTrue, Bool, true, false, cond, not, List, [], ◌∷◌, ◌++◌, Contains, refl, sym, ◌∙◌, ap, subst, arith}
use Rattle.std.specs.Prelude.{◌≢◌}
use Rattle.std.specs.Ordering.{nat_cmp}
use Rattle.std.specs.BTreeMap.{is_at}
use Rattle.std.specs.BTreeSet.{BTreeSet, contains, btree_set_len}
use Rattle.std.proofs.lemmas.Bool.{cases_eq, false≢true}
use Rattle.std.proofs.lemmas.List.Sums.{sum_by-append}
use Rattle.std.proofs.lemmas.List.Elements.{Contains-append_left, Contains-push, Contains-push_cases}
use Rattle.scripts.specs.Lawful.{opens, closes, opened, closed, IsOpen, MayFollow}
use Rattle.scripts.specs.Standing.{IsStanding}
use Rattle.scripts.specs.declared.connections.Connections.{Connections}
use Rattle.scripts.specs.declared.script.ScriptEvent.{ScriptEvent}
use Rattle.scripts.specs.declared.script.ScriptEvent.TheVariants.{Open, Piece, Close}

-- ---- counts

opened_push : (events : List ScriptEvent) (event : ScriptEvent) → opened (events ++ event ∷ []) ≡ opened events + opened (event ∷ [])
opened_push events event = sum_by-append (λ e. cond (opens e) 1 0) events (event ∷ [])

closed_push : (events : List ScriptEvent) (event : ScriptEvent) → closed (events ++ event ∷ []) ≡ closed events + closed (event ∷ [])
closed_push events event = sum_by-append (λ e. cond (closes e) 1 0) events (event ∷ [])

-- ---- what is closed

still_closed : (events : List ScriptEvent) (event : ScriptEvent) (c : ℕ) → Contains events (Close c) → Contains (events ++ event ∷ []) (Close c)
still_closed events event c h = Contains-append_left events (event ∷ []) (Close c) h

closed_before : (events : List ScriptEvent) (event : ScriptEvent) (c : ℕ) → event ≢ Close c → Contains (events ++ event ∷ []) (Close c) → Contains events (Close c)
closed_before events event c other h = elim (Contains-push_cases events event (Close c) h) [
  | inl was ↦ was
  | inr now ↦ absurd (other now)
]

-- ---- sets of numbers

at_same : (k q : ℕ) → k ≡ q → is_at (nat_cmp k) q ≡ true
at_same k q e = grind (arith, e)

at_other : (k q : ℕ) → k ≢ q → is_at (nat_cmp k) q ≡ false
at_other k q apart = grind (arith, apart)

-- what a set has where the answer at one number is changed
abbrev pub Changes : ℕ → Bool → BTreeSet ℕ → BTreeSet ℕ → Type 0
Changes k b s n = (q : ℕ) → contains nat_cmp n q ≡ cond (is_at (nat_cmp k) q) b (contains nat_cmp s q)

changed_here : (k : ℕ) (b : Bool) (s n : BTreeSet ℕ) (q : ℕ) → Changes k b s n → k ≡ q → contains nat_cmp n q ≡ b
changed_here k b s n q changes e = changes q ∙ ap (λ t. cond t b (contains nat_cmp s q)) (at_same k q e)

kept_there : (k : ℕ) (b : Bool) (s n : BTreeSet ℕ) (q : ℕ) → Changes k b s n → k ≢ q → contains nat_cmp n q ≡ contains nat_cmp s q
kept_there k b s n q changes apart = changes q ∙ ap (λ t. cond t b (contains nat_cmp s q)) (at_other k q apart)

-- ---- one event more

pub standing_nothing : (connections : Connections) → connections.opened ≡ 0 → btree_set_len connections.current ≡ 0 → ((c : ℕ) → contains nat_cmp connections.current c ≡ false) → IsStanding connections []
standing_nothing connections none empty absent = record {
  total = none;
  count = omega arith;
  few = omega arith;
  known = λ c h. absurd (let below : h.0 < 0 = h.1 in omega arith);
  current = λ c. ((λ h. absurd (false≢true (sym (absent c) ∙ h))), (λ h. absurd (let below : c < 0 = h.0 in omega arith)));
}

no_true : (b : Bool) → (IsTrue b → ⊥) → b ≡ false
no_true true h = absurd (h refl)
no_true false h = refl

open_no_close : (c : ℕ) → Open ≢ Close c
open_no_close c e = cc

piece_no_close : (d : ℕ) (bytes : List ℕ) (c : ℕ) → Piece d bytes ≢ Close c
piece_no_close d bytes c e = cc

-- where an event closes nothing, what is open stays open
open_later : (events : List ScriptEvent) (event : ScriptEvent) (c : ℕ) → event ≢ Close c → IsOpen events c → IsOpen (events ++ event ∷ []) c
open_later events event c other h =
    let more : opened (events ++ event ∷ []) ≡ opened events + opened (event ∷ []) = opened_push events event in
    let below : c < opened events = h.0 in
    ((omega arith), (λ k. h.1 (closed_before events event c other k)))

-- and what isn't opened by it was open
open_before : (events : List ScriptEvent) (event : ScriptEvent) (c : ℕ) → c < opened events → IsOpen (events ++ event ∷ []) c → IsOpen events c
open_before events event c below h = (below, λ k. h.1 (still_closed events event c k))

inside_of : (n m c : ℕ) → m ≡ n → m ≢ c → c < n + 1 → c < n
inside_of n m c is apart below = elim (cases_eq m c) [
  | inl same ↦ absurd (apart same)
  | inr other ↦ grind (arith, other)
]

close_number : (c d : ℕ) → Close c ≡ Close d → c ≡ d
close_number c d e = cc

pub standing_open : (old after : Connections) (events : List ScriptEvent) (added : Bool) → IsStanding old events → MayFollow events Open
    → after.opened ≡ old.opened + 1 → Changes old.opened true old.current after.current
    → added ≡ not (contains nat_cmp old.current old.opened) → btree_set_len after.current ≡ btree_set_len old.current + cond added 1 0
    → IsStanding after (events ++ Open ∷ [])
standing_open old after events added h may next changes is len =
    let more : opened (events ++ Open ∷ []) ≡ opened events + 1 = opened_push events Open in
    let same : closed (events ++ Open ∷ []) ≡ closed events + 0 = closed_push events Open in
    let at : old.opened ≡ opened events = h.total in
    let low : opened events < 1000000 = may.1 in
    let before : btree_set_len old.current + closed events ≡ opened events = h.count in
    let new : contains nat_cmp old.current old.opened ≡ false = no_true (contains nat_cmp old.current old.opened) (λ t. let below : old.opened < opened events = ((h.current old.opened).0 t).0 in omega arith) in
    let counted : btree_set_len after.current ≡ btree_set_len old.current + 1 = len ∙ ap (λ b. btree_set_len old.current + cond b 1 0) (is ∙ ap not new) in
    record {
      total = omega arith;
      count = omega arith;
      few = omega arith;
      known = λ c k. let below : c < opened events = h.known c (closed_before events Open c (open_no_close c) k) in omega arith;
      current = λ c. elim (cases_eq old.opened c) [
        | inl here ↦ (
          (λ t. ((omega arith), (λ k. let below : c < opened events = h.known c (closed_before events Open c (open_no_close c) k) in omega arith))),
          (λ k. changed_here old.opened true old.current after.current c changes here),
        )
        | inr there ↦
            let kept = kept_there old.opened true old.current after.current c changes there in (
              (λ t. open_later events Open c (open_no_close c) ((h.current c).0 (sym kept ∙ t))),
              (λ k.
                  let below : c < opened (events ++ Open ∷ []) = k.0 in
                  let inside : c < opened events = inside_of (opened events) old.opened c at there (omega arith) in
                  kept ∙ (h.current c).1 (open_before events Open c inside k)),
            )
      ];
    }

pub standing_piece : (connections : Connections) (events : List ScriptEvent) (d : ℕ) (bytes : List ℕ) → IsStanding connections events → IsStanding connections (events ++ Piece d bytes ∷ [])
standing_piece connections events d bytes h =
    let more : opened (events ++ Piece d bytes ∷ []) ≡ opened events + 0 = opened_push events (Piece d bytes) in
    let same : closed (events ++ Piece d bytes ∷ []) ≡ closed events + 0 = closed_push events (Piece d bytes) in
    let at : connections.opened ≡ opened events = h.total in
    let before : btree_set_len connections.current + closed events ≡ opened events = h.count in
    record {
      total = omega arith;
      count = omega arith;
      few = h.few;
      known = λ c k. let below : c < opened events = h.known c (closed_before events (Piece d bytes) c (piece_no_close d bytes c) k) in omega arith;
      current = λ c. (
        (λ t. open_later events (Piece d bytes) c (piece_no_close d bytes c) ((h.current c).0 t)),
        (λ k. let below : c < opened (events ++ Piece d bytes ∷ []) = k.0 in (h.current c).1 (open_before events (Piece d bytes) c (omega arith) k)),
      );
    }

pub standing_close : (old after : Connections) (events : List ScriptEvent) (d : ℕ) (removed : Bool) → IsStanding old events → MayFollow events (Close d)
    → after.opened ≡ old.opened → Changes d false old.current after.current
    → removed ≡ contains nat_cmp old.current d → btree_set_len after.current + cond removed 1 0 ≡ btree_set_len old.current
    → IsStanding after (events ++ Close d ∷ [])
standing_close old after events d removed h may next changes is len =
    let more : opened (events ++ Close d ∷ []) ≡ opened events + 0 = opened_push events (Close d) in
    let same : closed (events ++ Close d ∷ []) ≡ closed events + 1 = closed_push events (Close d) in
    let at : old.opened ≡ opened events = h.total in
    let low : old.opened ≤ 1000000 = h.few in
    let before : btree_set_len old.current + closed events ≡ opened events = h.count in
    let counted : btree_set_len after.current + 1 ≡ btree_set_len old.current = ap (λ b. btree_set_len after.current + cond b 1 0) (sym (is ∙ (h.current d).1 may)) ∙ len in
    let inside : d < opened events = may.0 in
    record {
      total = omega arith;
      count = omega arith;
      few = omega arith;
      known = λ c k. elim (Contains-push_cases events (Close d) (Close c) k) [
        | inl was ↦ let below : c < opened events = h.known c was in omega arith
        | inr now ↦ let one : d ≡ c = cc in omega arith
      ];
      current = λ c. elim (cases_eq d c) [
        | inl here ↦ (
          (λ t. absurd (false≢true (sym (changed_here d false old.current after.current c changes here) ∙ t))),
          (λ k. absurd (k.1 (subst (λ (q : ℕ). Contains (events ++ Close d ∷ []) (Close q)) here (Contains-push events (Close d))))),
        )
        | inr there ↦
            let kept = kept_there d false old.current after.current c changes there in
            let other : Close d ≢ Close c = (λ e. there (close_number d c e)) in (
              (λ t. open_later events (Close d) c other ((h.current c).0 (sym kept ∙ t))),
              (λ k. let below : c < opened (events ++ Close d ∷ []) = k.0 in kept ∙ (h.current c).1 (open_before events (Close d) c (omega arith) k)),
            )
      ];
    }
