-- Lines and their events, one by one.
use Rattle.std.proofs.Common.{◌≡◌, inl, inr, ℕ, zero, suc, ◌+◌, ◌-◌, ◌<◌, ◌≤◌, List, [], ◌∷◌, ◌++◌, length, take, drop, get_or, map, Bor, refl, sym, ◌∙◌, ap, subst, arith}
use Rattle.std.proofs.lemmas.List.{take_more, take_all, take-take, take-append-drop, get_or-map, length-map}
use Rattle.std.proofs.lemmas.Bool.{cases_lt}
use Rattle.scripts.specs.Lawful.{MayFollow, IsLawful}
use Rattle.scripts.specs.Writing.{Writes}
use Rattle.scripts.specs.Reading.{AreWritten, AreOf, IsFirstBad, GoesOn, IsBadBehind}
use Rattle.scripts.specs.declared.script.ScriptEvent.{ScriptEvent}
use Rattle.scripts.proofs.LawfulLemmas.{lawful_nothing, lawful_push, lawful_last, lawful_front}
use Rattle.scripts.proofs.WritingLemmas.{writes_once}

written_once : (lines : List (List ℕ)) (a b : List ScriptEvent) → AreWritten lines a → AreWritten lines b → a ≡ b
written_once [] [] [] h k = refl
written_once [] [] (f ∷ fs) h k = absurd k
written_once [] (e ∷ es) b h k = absurd h
written_once (l ∷ ls) [] b h k = absurd h
written_once (l ∷ ls) (e ∷ es) [] h k = absurd k
written_once (l ∷ ls) (e ∷ es) (f ∷ fs) h k =
    let head : e ≡ f = writes_once l e f h.0 k.0 in
    let tail : es ≡ fs = written_once ls es fs h.1 k.1 in
    cc

-- lines have the events of one script
pub of_once : (lines : List (List ℕ)) (a b : List ScriptEvent) → AreOf lines a → AreOf lines b → a ≡ b
of_once lines a b h k = written_once lines a b h.written k.written

written_push : (lines : List (List ℕ)) (events : List ScriptEvent) (line : List ℕ) (event : ScriptEvent) → AreWritten lines events → Writes line event → AreWritten (lines ++ line ∷ []) (events ++ event ∷ [])
written_push [] [] line event h w = (w, tt)
written_push [] (e ∷ es) line event h w = absurd h
written_push (l ∷ ls) [] line event h w = absurd h
written_push (l ∷ ls) (e ∷ es) line event h w = (h.0, written_push ls es line event h.1 w)

-- the last line writes the last event
written_last : (lines : List (List ℕ)) (events : List ScriptEvent) (line : List ℕ) → AreWritten (lines ++ line ∷ []) events
    → (before : List ScriptEvent) × (event : ScriptEvent) × (events ≡ before ++ event ∷ []) × AreWritten lines before × Writes line event
written_last [] [] line h = absurd h
written_last [] (e ∷ []) line h = ([], e, refl, tt, h.0)
written_last [] (e ∷ f ∷ es) line h = absurd h.1
written_last (l ∷ ls) [] line h = absurd h
written_last (l ∷ ls) (e ∷ es) line h =
    let rest = written_last ls es line h.1 in
    (e ∷ rest.0, rest.1, ap (λ (fs : List ScriptEvent). e ∷ fs) rest.2, (h.0, rest.3), rest.4)

written_take : (n : ℕ) (lines : List (List ℕ)) (events : List ScriptEvent) → AreWritten lines events → AreWritten (take n lines) (take n events)
written_take zero lines events h = tt
written_take (suc n) [] [] h = tt
written_take (suc n) [] (e ∷ es) h = absurd h
written_take (suc n) (l ∷ ls) [] h = absurd h
written_take (suc n) (l ∷ ls) (e ∷ es) h = (h.0, written_take n ls es h.1)

-- the lines at the front of those of a script have one
of_take : (n : ℕ) (lines : List (List ℕ)) (events : List ScriptEvent) → AreOf lines events → AreOf (take n lines) (take n events)
of_take n lines events h = record {
  written = written_take n lines events h.written;
  lawful = lawful_front (take n events) (drop n events) (subst (λ (es : List ScriptEvent). IsLawful es) (sym (take-append-drop n events)) h.lawful);
}

pub of_nothing : (lines : List (List ℕ)) → AreOf (take 0 lines) []
of_nothing lines = record { written = tt; lawful = lawful_nothing }

of_push : (lines : List (List ℕ)) (line : List ℕ) (old new : List ScriptEvent) → AreOf lines old → GoesOn line old new → AreOf (lines ++ line ∷ []) new
of_push lines line old new h more = subst (λ (es : List ScriptEvent). AreOf (lines ++ line ∷ []) es) (sym more.appended) (record {
  written = written_push lines old line more.event h.written more.writes;
  lawful = lawful_push old more.event h.lawful more.may;
})

-- one line more
pub of_more : (lines : List (List ℕ)) (k : ℕ) (line : List ℕ) (old new : List ScriptEvent) → k < length lines → line ≡ get_or lines k [] → AreOf (take k lines) old → GoesOn line old new → AreOf (take (k + 1) lines) new
of_more lines k line old new below is h more =
    subst (λ (ls : List (List ℕ)). AreOf ls new) (ap (λ l. take k lines ++ l ∷ []) is ∙ sym (take_more lines k [] below)) (of_push (take k lines) line old new h more)

bad_push : (lines : List (List ℕ)) (line : List ℕ) (events : List ScriptEvent) → AreOf lines events → IsBadBehind line events → (more : List ScriptEvent) → AreOf (lines ++ line ∷ []) more → ⊥
bad_push lines line events h bad more k =
    let last = written_last lines more line k.written in
    let same : last.0 ≡ events = written_once lines last.0 events last.3 h.written in
    let may : MayFollow last.0 last.1 = lawful_last last.0 last.1 (subst (λ (es : List ScriptEvent). IsLawful es) last.2 k.lawful) in
    bad last.1 last.4 (subst (λ (es : List ScriptEvent). MayFollow es last.1) same may)

-- a bad line behind those of a script is the first
pub bad_at : (lines : List (List ℕ)) (k : ℕ) (line : List ℕ) (events : List ScriptEvent) → k < length lines → line ≡ get_or lines k [] → AreOf (take k lines) events → IsBadBehind line events → IsFirstBad lines (k + 1)
bad_at lines k line events below is h bad =
    let front : k + 1 - 1 ≡ k = omega arith in
    let whole : take (k + 1) lines ≡ take k lines ++ line ∷ [] = take_more lines k [] below ∙ ap (λ l. take k lines ++ l ∷ []) (sym is) in
    record {
      some = omega arith;
      inside = omega arith;
      before = (events, subst (λ (n : ℕ). AreOf (take n lines) events) (sym front) h);
      bad = λ more k'. bad_push (take k lines) line events h bad more (subst (λ (ls : List (List ℕ)). AreOf ls more) whole k');
    }

pub of_all : (lines : List (List ℕ)) (k : ℕ) (events : List ScriptEvent) → length lines ≤ k → AreOf (take k lines) events → AreOf lines events
of_all lines k events whole h = subst (λ (ls : List (List ℕ)). AreOf ls events) (take_all k lines whole) h

-- lines of a script have no first bad one
pub good_or_bad : (lines : List (List ℕ)) (events : List ScriptEvent) (number : ℕ) → AreOf lines events → IsFirstBad lines number → ⊥
good_or_bad lines events number h bad = bad.bad (take number events) (of_take number lines events h)

not_before : (lines : List (List ℕ)) (m n : ℕ) → IsFirstBad lines m → IsFirstBad lines n → m < n → ⊥
not_before lines m n h k below =
    let front : m ≤ n - 1 = omega arith in
    let good = of_take m (take (n - 1) lines) k.before.0 k.before.1 in
    h.bad (take m k.before.0) (subst (λ (ls : List (List ℕ)). AreOf ls (take m k.before.0)) (take-take m (n - 1) lines front) good)

pub bad_once : (lines : List (List ℕ)) (m n : ℕ) → IsFirstBad lines m → IsFirstBad lines n → m ≡ n
bad_once lines m n h k = elim (cases_lt m n) [
  | inl below ↦ absurd (not_before lines m n h k below)
  | inr up ↦ elim (cases_lt n m) [
    | inl below ↦ absurd (not_before lines n m k h below)
    | inr down ↦ omega arith
  ]
]

-- ---- the lines as a loop over borrowed lines reads them

abbrev texts_of : List (Bor (List ℕ)) → List (List ℕ)
texts_of items = map (λ (r : Bor (List ℕ)). r.now) items

line_at : (items : List (Bor (List ℕ))) (i : ℕ) (d : Bor (List ℕ)) → i < length items → (get_or items i d).now ≡ get_or (texts_of items) i []
line_at items i d below = sym (get_or-map (λ (r : Bor (List ℕ)). r.now) items i d [] below)

inside : (items : List (Bor (List ℕ))) (i : ℕ) → i < length items → i < length (texts_of items)
inside items i below = omega (arith, length-map items (λ (r : Bor (List ℕ)). r.now))

pub bad_read : (items : List (Bor (List ℕ))) (lines : List (List ℕ)) (i : ℕ) (d : Bor (List ℕ)) (events : List ScriptEvent) → map (λ (r : Bor (List ℕ)). r.now) items ≡ lines → i < length items
    → AreOf (take i (map (λ (r : Bor (List ℕ)). r.now) items)) events → IsBadBehind (get_or items i d).now events → IsFirstBad lines (i + 1)
bad_read items lines i d events whole below h bad =
    subst (λ (ls : List (List ℕ)). IsFirstBad ls (i + 1)) whole (bad_at (texts_of items) i (get_or items i d).now events (inside items i below) (line_at items i d below) h bad)

pub more_read : (items : List (Bor (List ℕ))) (i : ℕ) (d : Bor (List ℕ)) (old new : List ScriptEvent) → i < length items
    → AreOf (take i (map (λ (r : Bor (List ℕ)). r.now) items)) old → GoesOn (get_or items i d).now old new → AreOf (take (i + 1) (map (λ (r : Bor (List ℕ)). r.now) items)) new
more_read items i d old new below h more =
    of_more (texts_of items) i (get_or items i d).now old new (inside items i below) (line_at items i d below) h more
