-- A disk in memory: what its states are after a call, by those before it.
use Rattle.std.proofs.Common.{◌≡◌, ◌⊎◌, inl, inr, ⊎_elim, ℕ, ◌+◌, ◌≤◌, ◌<◌, Bool, true, false, ◌&&◌, nat_le, nat_lt, if◌then◌else◌, List, [], ◌∷◌, ◌++◌, length, take, refl, sym, ◌∙◌, ap, subst, arith}
use Rattle.std.proofs.lemmas.Bool.Decides.{nat_tests}
use Rattle.disk.specs.declared.file.File.{File}
use Rattle.disk.specs.declared.file.File.TheVariants.{Choice, Left, Right}
use Rattle.disk.specs.declared.log.Entry.{Entry}
use Rattle.disk.specs.declared.log.Change.{Change}
use Rattle.disk.specs.declared.log.Change.TheVariants.{Wrote, WriteFailed, Cut, CutFailed, Synced}
use Rattle.disk.specs.Images.{Pending, IsImage, Images, resting, end_of_lengths, after_write, after_cut, same_file, OthersHold, patched}
use Rattle.disk.specs.ImageLaws.{reached_later}
use Rattle.disk.proofs.ImageLemmas.{same_file_refl}
use Rattle.disk.specs.Slots.{Three, file_of}
use Rattle.disk.specs.MemDisk.{State, resting_state, step, entered, replay, state_in, MemRecord, state_at, mem_held, InPast, KeepsHeld}
use Rattle.disk.specs.MemLaws.{IsGood}
use Rattle.disk.specs.Stops.{IsPicked}

-- the record of calls

pub replay_push : (t : ℕ) (f : File) (es : List Entry) (e : Entry) (s : State) → replay t f (es ++ e ∷ []) s ≡ entered t f e (replay t f es s)
replay_push t f [] e s = refl
replay_push t f (x ∷ es) e s = replay_push t f es e (entered t f x s)

le_true : (a b : ℕ) → a ≤ b → nat_le a b ≡ true
le_true a b h = grind (arith, nat_tests)

le_false : (a b : ℕ) → b < a → nat_le a b ≡ false
le_false a b h = grind (arith, nat_tests)

pub one_at : (t : ℕ) (f : File) (e : Entry) (s : State) → e.moment ≤ t → entered t f e s ≡ (if same_file f e.file then step e.change s else s)
one_at t f e s le = ap (λ b. if b && same_file f e.file then step e.change s else s) (le_true e.moment t le)

pub one_after : (t : ℕ) (f : File) (e : Entry) (s : State) → t < e.moment → entered t f e s ≡ s
one_after t f e s lt = ap (λ b. if b && same_file f e.file then step e.change s else s) (le_false e.moment t lt)

pub replay_past : (c t : ℕ) (f : File) (es : List Entry) (s : State) → InPast c es → c ≤ t → replay t f es s ≡ replay c f es s
replay_past c t f [] s past le = refl
replay_past c t f (e ∷ es) s past le =
    replay_past c t f es (entered t f e s) past.1 le
    ∙ ap (λ x. replay c f es x) (one_at t f e s (omega (arith, past.0, le)) ∙ sym (one_at c f e s past.0))

past_later : (c d : ℕ) (es : List Entry) → InPast c es → c ≤ d → InPast d es
past_later c d [] past le = tt
past_later c d (e ∷ es) past le = (omega (arith, past.0, le), past_later c d es past.1 le)

past_push : (c : ℕ) (es : List Entry) (e : Entry) → InPast c es → e.moment ≤ c → InPast c (es ++ e ∷ [])
past_push c [] e past at = (at, tt)
past_push c (x ∷ es) e past at = (past.0, past_push c es e past.1 at)

-- the invariant

pub record Stands (now : Images) (first : Three) (log : List Entry) (clock : ℕ) : Type 0 where
  pub past : InPast clock log
  pub held : (f : File) → now f ≡ (state_in first log clock f).held

pub stands_later : (held : Images) (first : Three) (log : List Entry) (c d : ℕ) → Stands held first log c → c ≤ d → Stands held first log d
stands_later held first log c d h le = record {
  past = past_later c d log h.past le;
  held = λ f. h.held f ∙ sym (ap (λ (s : State). s.held) (replay_past c d f log (resting_state (file_of first f)) h.past le));
}

pub step_keeps : (change : Change) (s : State) → KeepsHeld change → (step change s).held ≡ s.held
step_keeps (WriteFailed at n) s keeps = refl
step_keeps (CutFailed to) s keeps = refl
step_keeps Synced s keeps = refl
step_keeps (Wrote at bytes) s keeps = absurd keeps
step_keeps (Cut to) s keeps = absurd keeps

abbrev pub entry_of : ℕ → File → Change → Entry
entry_of moment file change = record { moment = moment; file = file; change = change }

-- a change more, recorded at the present
module _ (first : Three) (log : List Entry) (clock : ℕ) (file : File) (change : Change) where
  pub pushed : (f : File) → state_in first (log ++ entry_of clock file change ∷ []) clock f ≡ (if same_file f file then step change (state_in first log clock f) else state_in first log clock f)
  pushed f = let s = resting_state (file_of first f) in
      replay_push clock f log (entry_of clock file change) s ∙ one_at clock f (entry_of clock file change) (replay clock f log s) (omega arith)

bool_cases : (b : Bool) → (b ≡ true) ⊎ (b ≡ false)
bool_cases true = inl refl
bool_cases false = inr refl

pub same_is : (f g : File) → same_file f g ≡ true → f ≡ g
same_is Choice Choice h = refl
same_is Left Left h = refl
same_is Right Right h = refl
same_is Choice Left h = cc
same_is Choice Right h = cc
same_is Left Choice h = cc
same_is Left Right h = cc
same_is Right Choice h = cc
same_is Right Left h = cc

-- the file holds what the change makes of it, and the others what they held
pub stands_pushed : (held new : Images) (first : Three) (log : List Entry) (clock : ℕ) (file : File) (change : Change) → Stands held first log clock
    → new file ≡ (step change (state_in first log clock file)).held → OthersHold file held new → Stands new first (log ++ entry_of clock file change ∷ []) clock
stands_pushed held new first log clock file change h here others = record {
  past = past_push clock log (entry_of clock file change) h.past (omega arith);
  held = λ f. ⊎_elim
      (λ (is : same_file f file ≡ true). subst (λ g. new g ≡ (state_in first (log ++ entry_of clock file change ∷ []) clock g).held) (sym (same_is f file is))
      (here ∙ sym (ap (λ (s : State). s.held) (pushed first log clock file change file ∙ ap (λ b. if b then step change (state_in first log clock file) else state_in first log clock file) (same_file_refl file)))))
      (λ (other : same_file f file ≡ false). others f other ∙ h.held f
      ∙ sym (ap (λ (s : State). s.held) (pushed first log clock file change f ∙ ap (λ b. if b then step change (state_in first log clock f) else state_in first log clock f) other)))
      (bool_cases (same_file f file));
}

pub stands_noted : (held : Images) (first : Three) (log : List Entry) (clock : ℕ) (file : File) (change : Change) → Stands held first log clock → KeepsHeld change → Stands held first (log ++ entry_of clock file change ∷ []) clock
stands_noted held first log clock file change h keeps =
    stands_pushed held held first log clock file change h (h.held file ∙ sym (step_keeps change (state_in first log clock file) keeps)) (λ f other. refl)

pub wrote_there : (at : ℕ) (bytes : List ℕ) (s : State) → at ≤ length s.held → at + length bytes < end_of_lengths → step (Wrote at bytes) s ≡ record { held = patched s.held at bytes; pending = after_write at (length bytes) s.pending }
wrote_there at bytes s le short = ap (λ b. if b then record { held = patched s.held at bytes; pending = after_write at (length bytes) s.pending } else s) (both at (length bytes) (length s.held) le short)
  where
    both : (a n long : ℕ) → a ≤ long → a + n < end_of_lengths → (nat_le a long && nat_lt (a + n) end_of_lengths) ≡ true
    both a n long h k = grind (arith, nat_tests)

-- ends of the calls that change what a file holds

pub place_in : (d o : MemRecord) → d ≡ o → (held : Images) → ((f : File) → held f ≡ mem_held d f) → (file : File) (at : ℕ) → at ≤ length (mem_held o file) → at ≤ length (held file)
place_in d o v held is file at le = subst (λ (l : List ℕ). at ≤ length l) (sym (is file)) (subst (λ y. at ≤ length (mem_held y file)) (sym v) le)

moved : (new : Images) (first first' : Three) (log log' : List Entry) (clock : ℕ) → first' ≡ first → log' ≡ log → Stands new first log clock → Stands new first' log' clock
moved new first first' log log' clock a b h = subst (λ x. Stands new x log' clock) (sym a) (subst (λ l. Stands new first l clock) (sym b) h)

pub stands_written : (held new : Images) (first first' : Three) (log log' : List Entry) (clock : ℕ) (file : File) (at : ℕ) (bytes : List ℕ) → Stands held first log clock → at ≤ length (held file) → at + length bytes < end_of_lengths
    → new file ≡ patched (held file) at bytes → OthersHold file held new → first' ≡ first → log' ≡ log ++ entry_of clock file (Wrote at bytes) ∷ [] → Stands new first' log' clock
stands_written held new first first' log log' clock file at bytes h le short here others a b =
    let s = state_in first log clock file in
    let long : at ≤ length s.held = subst (λ (l : List ℕ). at ≤ length l) (h.held file) le in
    moved new first first' (log ++ entry_of clock file (Wrote at bytes) ∷ []) log' clock a b
    (stands_pushed held new first log clock file (Wrote at bytes) h
    (here ∙ ap (λ (l : List ℕ). patched l at bytes) (h.held file) ∙ sym (ap (λ (x : State). x.held) (wrote_there at bytes s long short))) others)

pub stands_cut : (held new : Images) (first first' : Three) (log log' : List Entry) (clock : ℕ) (file : File) (to : ℕ) → Stands held first log clock
    → new file ≡ take to (held file) → OthersHold file held new → first' ≡ first → log' ≡ log ++ entry_of clock file (Cut to) ∷ [] → Stands new first' log' clock
stands_cut held new first first' log log' clock file to h here others a b =
    moved new first first' (log ++ entry_of clock file (Cut to) ∷ []) log' clock a b
    (stands_pushed held new first log clock file (Cut to) h (here ∙ ap (λ (l : List ℕ). take to l) (h.held file)) others)

-- the states of the present, at a later clock
pub state_later : (d o : MemRecord) → d ≡ o → InPast d.clock d.log → (c : ℕ) → d.clock ≤ c → (f : File) → state_in d.first d.log c f ≡ state_at o o.clock f
state_later d o v past c le f = replay_past d.clock c f d.log (resting_state (file_of d.first f)) past le ∙ ap (λ y. state_at y y.clock f) v

-- the lengths at the last good sync and since

pub record Spans (p : Pending) : Type 0 where
  pub shorter : p.least ≤ length p.base
  pub longer : length p.base ≤ p.greatest

spans_if : (b : Bool) (x y : State) → Spans x.pending → Spans y.pending → Spans (if b then x else y).pending
spans_if true x y hx hy = hx
spans_if false x y hx hy = hy

write_spans : (at n : ℕ) (p : Pending) → Spans p → Spans (after_write at n p)
write_spans at n p h = let g = reached_later at n p.greatest in record { shorter = h.shorter; longer = omega (arith, h.longer, g) }

cut_spans : (to : ℕ) (p : Pending) → Spans p → Spans (after_cut to p)
cut_spans to p h = record { shorter = omega (arith, h.shorter); longer = h.longer }

resting_spans : (bytes : List ℕ) → Spans (resting bytes)
resting_spans bytes = record { shorter = omega arith; longer = omega arith }

step_spans : (change : Change) (s : State) → Spans s.pending → Spans (step change s).pending
step_spans (Wrote at bytes) s h = spans_if (nat_le at (length s.held) && nat_lt (at + length bytes) end_of_lengths) _ s (write_spans at (length bytes) s.pending h) h
step_spans (WriteFailed at n) s h = write_spans at n s.pending h
step_spans (Cut to) s h = cut_spans to s.pending h
step_spans (CutFailed to) s h = cut_spans to s.pending h
step_spans Synced s h = resting_spans s.held

spans_from : (t : ℕ) (f : File) (es : List Entry) (s : State) → Spans s.pending → Spans (replay t f es s).pending
spans_from t f [] s h = h
spans_from t f (e ∷ es) s h = spans_from t f es (entered t f e s) (spans_if (nat_le e.moment t && same_file f e.file) (step e.change s) s (step_spans e.change s h) h)

pub replay_spans : (t : ℕ) (f : File) (es : List Entry) (bytes : List ℕ) → Spans (replay t f es (resting_state bytes)).pending
replay_spans t f es bytes = spans_from t f es (resting_state bytes) (resting_spans bytes)

-- one entry more
pub replay_more : (t : ℕ) (f : File) (es : List Entry) (i : ℕ) (e : Entry) (s : State) → take (i + 1) es ≡ take i es ++ e ∷ [] → replay t f (take (i + 1) es) s ≡ entered t f e (replay t f (take i es) s)
replay_more t f es i e s is = ap (λ l. replay t f l s) is ∙ replay_push t f (take i es) e s

-- each pick leaves an image
pub picked_image : (pick : ℕ) (s : State) (image : List ℕ) → IsGood s → Spans s.pending → IsPicked pick s image → IsImage s.pending image
picked_image pick s image good spans picked = ⊎_elim
    (λ (is : pick ≡ 0). subst (IsImage s.pending) (sym (picked.lost is)) (record { no_shorter = spans.shorter; no_longer = spans.longer; same = λ k base long closed. refl }))
    (λ (some : (pick ≡ 1) ⊎ (1 < pick)). ⊎_elim
    (λ (is : pick ≡ 1). subst (IsImage s.pending) (sym (picked.kept is)) good)
    (λ (more : 1 < pick). let f = picked.filled more in record {
      no_shorter = omega (arith, f.size, spans.shorter, spans.longer);
      no_longer = omega (arith, f.size);
      same = λ k base long closed. f.kept k base (omega (arith, long, f.size)) closed;
    })
    some)
    (picks pick)
  where
    picks : (n : ℕ) → (n ≡ 0) ⊎ ((n ≡ 1) ⊎ (1 < n))
    picks n = grind arith
