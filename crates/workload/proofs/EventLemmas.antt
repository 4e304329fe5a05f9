-- Events of open connections, one more, and lists in slices.
use Rattle.std.proofs.Common.{◌≡◌, inl, inr, ℕ, zero, suc, ◌+◌, ◌*◌, ◌<◌, ◌≤◌, lit<, cond, List, [], ◌∷◌, ◌++◌, length, take, drop, map, All, Contains, refl, sym, ◌∙◌, ap, subst, append_assoc, add-one, arith}
use Rattle.std.specs.Int.{div_ceil}
use Rattle.std.specs.List.{flat_map}
use Rattle.std.proofs.lemmas.Grind.{div_ceil_times, flat_map-append}
use Rattle.std.proofs.lemmas.List.{append-nil, map-append, length-take, length-drop}
use Rattle.std.proofs.lemmas.List.Sums.{sum_by-append}
use Rattle.std.proofs.lemmas.List.Elements.{All-take, All-drop, Contains-push_cases, Contains-append_cases}
use Rattle.scripts.specs.Lawful.{opens as is_open, opened, MayFollow}
use Rattle.scripts.specs.declared.script.ScriptEvent.{ScriptEvent}
use Rattle.scripts.specs.declared.script.ScriptEvent.TheVariants.{Open, Piece, Close}
use Rattle.workload.specs.Groups.{front_of, back_of, fronts, backs, opens, closes, group_events}
use Rattle.workload.specs.Parts.{slice_at, first_slices, pieces, AreOpen}
use Rattle.workload.specs.declared.request.Request.{Request}

-- ---- open connections

opened_with : (events more : List ScriptEvent) → opened (events ++ more) ≡ opened events + opened more
opened_with events more = sum_by-append (λ e. cond (is_open e) 1 0) events more

pub open_piece : (events : List ScriptEvent) (c : ℕ) (part : List ℕ) → AreOpen events → AreOpen (events ++ Piece c part ∷ [])
open_piece events c part ready = record {
  four = let sum = opened_with events (Piece c part ∷ []) in let four = ready.four in omega arith;
  none_closed = λ d h. elim (Contains-push_cases events (Piece c part) (Close d) h) [
    | inl was ↦ ready.none_closed d was
    | inr now ↦ cc
  ];
}

pub may_piece : (events : List ScriptEvent) (c : ℕ) (part : List ℕ) → AreOpen events → c < 4 → 0 < length part → length part ≤ 4096 → MayFollow events (Piece c part)
may_piece events c part ready known some short = ((let four = ready.four in let within : c < opened events = omega arith in within, ready.none_closed c), some, short)

-- ---- opening and closing

pub may_open : (c : ℕ) → c < 4 → MayFollow (take c opens) Open
may_open zero h = (lit< tt, lit< tt)
may_open (suc zero) h = (lit< tt, lit< tt)
may_open (suc (suc zero)) h = (lit< tt, lit< tt)
may_open (suc (suc (suc zero))) h = (lit< tt, lit< tt)
may_open (suc (suc (suc (suc c)))) h = absurd (omega arith)

pub open_more : (c : ℕ) → c < 4 → take (suc c) opens ≡ take c opens ++ Open ∷ []
open_more zero h = refl
open_more (suc zero) h = refl
open_more (suc (suc zero)) h = refl
open_more (suc (suc (suc zero))) h = refl
open_more (suc (suc (suc (suc c)))) h = absurd (omega arith)

none_of_nothing : (d : ℕ) → Contains [] (Close d) → d < 0
none_of_nothing d h = absurd (let below : h.0 < 0 = h.1 in omega arith)

closed_more : (front : List ScriptEvent) (c d : ℕ) → (Contains front (Close d) → d < c) → Contains (front ++ Close c ∷ []) (Close d) → d < suc c
closed_more front c d was h = elim (Contains-push_cases front (Close c) (Close d) h) [
  | inl before ↦ let less = was before in omega arith
  | inr now ↦ let same : c ≡ d = cc in omega arith
]

closed_one : (d : ℕ) → Contains (take 1 closes) (Close d) → d < 1
closed_one d h = closed_more [] 0 d (none_of_nothing d) h

closed_two : (d : ℕ) → Contains (take 2 closes) (Close d) → d < 2
closed_two d h = closed_more (take 1 closes) 1 d (closed_one d) h

closed_three : (d : ℕ) → Contains (take 3 closes) (Close d) → d < 3
closed_three d h = closed_more (take 2 closes) 2 d (closed_two d) h

closed_below : (c d : ℕ) → c < 4 → Contains (take c closes) (Close d) → d < c
closed_below zero d known h = none_of_nothing d h
closed_below (suc zero) d known h = closed_one d h
closed_below (suc (suc zero)) d known h = closed_two d h
closed_below (suc (suc (suc zero))) d known h = closed_three d h
closed_below (suc (suc (suc (suc c)))) d known h = absurd (omega arith)

opens_none : (c : ℕ) → c < 4 → opened (take c closes) ≡ 0
opens_none zero known = refl
opens_none (suc zero) known = refl
opens_none (suc (suc zero)) known = refl
opens_none (suc (suc (suc zero))) known = refl
opens_none (suc (suc (suc (suc c)))) known = absurd (omega arith)

pub may_close : (events : List ScriptEvent) (c : ℕ) → AreOpen events → c < 4 → MayFollow (events ++ take c closes) (Close c)
may_close events c ready known = (
  (let sum = opened_with events (take c closes) in let none = opens_none c known in let four = ready.four in let within : c < opened (events ++ take c closes) = omega arith in within),
  λ h. elim (Contains-append_cases events (take c closes) (Close c) h) [
    | inl was ↦ ready.none_closed c was
    | inr now ↦ let less = closed_below c c known now in omega arith
  ],
)

close_step : (c : ℕ) → c < 4 → take (suc c) closes ≡ take c closes ++ Close c ∷ []
close_step zero h = refl
close_step (suc zero) h = refl
close_step (suc (suc zero)) h = refl
close_step (suc (suc (suc zero))) h = refl
close_step (suc (suc (suc (suc c)))) h = absurd (omega arith)

pub close_more : (events : List ScriptEvent) (c : ℕ) → c < 4 → events ++ take (suc c) closes ≡ (events ++ take c closes) ++ Close c ∷ []
close_more events c h = ap (λ es. events ++ es) (close_step c h) ∙ sym (append_assoc events (take c closes) (Close c ∷ []))

pub open_opens : AreOpen opens
open_opens = record {
  four = refl;
  none_closed = λ c h. absurd (closes_none c h);
}
  where
    after : (front : List ScriptEvent) (c : ℕ) → (Contains front (Close c) → ⊥) → Contains (front ++ Open ∷ []) (Close c) → ⊥
    after front c was h = elim (Contains-push_cases front Open (Close c) h) [
      | inl before ↦ was before
      | inr now ↦ cc
    ]

    nothing : (c : ℕ) → Contains [] (Close c) → ⊥
    nothing c h = let less = none_of_nothing c h in omega arith

    closes_none : (c : ℕ) → Contains opens (Close c) → ⊥
    closes_none c h = after (take 3 opens) c (after (take 2 opens) c (after (take 1 opens) c (after [] c (nothing c)))) h

-- ---- slices

pub next_slice : {A : Type 0} (n k : ℕ) (xs : List A) → first_slices n (k + 1) xs ≡ first_slices n k xs ++ slice_at n k xs ∷ []
next_slice n k xs = rw add-one refl

-- a slice begins within the list
pub slice_within : (m n k : ℕ) → 0 < n → k < div_ceil m n → n * k < m
slice_within m n k some below = let bounds = div_ceil_times m n some in grind (arith, bounds)

pub slice_short : {A : Type 0} (n k : ℕ) (xs : List A) → length (slice_at n k xs) ≤ n
slice_short n k xs = let long = length-take n (drop (n * k) xs) in omega arith

pub slice_some : {A : Type 0} (n k : ℕ) (xs : List A) → 0 < n → n * k < length xs → 0 < length (slice_at n k xs)
slice_some n k xs some within = let long = length-take n (drop (n * k) xs) in let rest = length-drop (n * k) xs in omega arith

pub slice_all : {A : Type 0} (P : A → Type 0) (n k : ℕ) (xs : List A) → All P xs → All P (slice_at n k xs)
slice_all P n k xs h = All-take P n (drop (n * k) xs) (All-drop P (n * k) xs h)

-- so many pieces of the bytes are behind the events before
pub record Pushing (before : List ScriptEvent) (c : ℕ) (bytes : List ℕ) (k : ℕ) (now : List ScriptEvent) : Type 0 where
  pub ready : AreOpen now
  pub so_far : now ≡ before ++ map (λ part. Piece c part) (first_slices 4096 k bytes)

pub piece_more : (before now after : List ScriptEvent) (c k : ℕ) (bytes part piece : List ℕ) → Pushing before c bytes k now → part ≡ slice_at 4096 k bytes → piece ≡ part → after ≡ now ++ Piece c piece ∷ []
    → Pushing before c bytes (k + 1) after
piece_more before now after c k bytes part piece pushing is same e = record {
  ready = subst AreOpen (sym e) (open_piece now c piece pushing.ready);
  so_far = e ∙ ap (λ (p : List ℕ). now ++ Piece c p ∷ []) (same ∙ is) ∙ ap (λ es. es ++ Piece c (slice_at 4096 k bytes) ∷ []) pushing.so_far
      ∙ append_assoc before (map (λ part. Piece c part) (first_slices 4096 k bytes)) (Piece c (slice_at 4096 k bytes) ∷ [])
      ∙ ap (λ es. before ++ es) (sym (map-append (λ part. Piece c part) (first_slices 4096 k bytes) (slice_at 4096 k bytes ∷ [])))
      ∙ ap (λ parts. before ++ map (λ part. Piece c part) parts) (sym (next_slice 4096 k bytes));
}

pub piece_follows : (now : List ScriptEvent) (c k : ℕ) (bytes part piece : List ℕ) → AreOpen now → c < 4 → k < div_ceil (length bytes) 4096 → part ≡ slice_at 4096 k bytes → piece ≡ part
    → MayFollow now (Piece c piece)
piece_follows now c k bytes part piece ready known below is same =
    let within = slice_within (length bytes) 4096 k (lit< tt) below in
    subst (λ (p : List ℕ). MayFollow now (Piece c p)) (sym (same ∙ is)) (may_piece now c (slice_at 4096 k bytes) ready known (slice_some 4096 k bytes (lit< tt) within) (slice_short 4096 k bytes))

-- ---- groups

fronts-append : (c : ℕ) (rs : List Request) (r : Request) → fronts c (rs ++ r ∷ []) ≡ fronts c rs ++ pieces (c + length rs) (front_of r)
fronts-append c [] r = append-nil (pieces c (front_of r)) ∙ ap (λ d. pieces d (front_of r)) (let e : c ≡ c + 0 = omega arith in e)
fronts-append c (s ∷ rs) r =
    ap (λ es. pieces c (front_of s) ++ es) (fronts-append (c + 1) rs r)
    ∙ sym (append_assoc (pieces c (front_of s)) (fronts (c + 1) rs) (pieces (c + 1 + length rs) (front_of r)))
    ∙ ap (λ d. (pieces c (front_of s) ++ fronts (c + 1) rs) ++ pieces d (front_of r)) (let e : c + 1 + length rs ≡ c + length (s ∷ rs) = omega arith in e)

backs-append : (c : ℕ) (rs : List Request) (r : Request) → backs c (rs ++ r ∷ []) ≡ backs c rs ++ pieces (c + length rs) (back_of r)
backs-append c [] r = append-nil (pieces c (back_of r)) ∙ ap (λ d. pieces d (back_of r)) (let e : c ≡ c + 0 = omega arith in e)
backs-append c (s ∷ rs) r =
    ap (λ es. pieces c (back_of s) ++ es) (backs-append (c + 1) rs r)
    ∙ sym (append_assoc (pieces c (back_of s)) (backs (c + 1) rs) (pieces (c + 1 + length rs) (back_of r)))
    ∙ ap (λ d. (pieces c (back_of s) ++ backs (c + 1) rs) ++ pieces d (back_of r)) (let e : c + 1 + length rs ≡ c + length (s ∷ rs) = omega arith in e)

-- the events of one request more
pub fronts_more : (before now after : List ScriptEvent) (c : ℕ) (rs next : List Request) (r : Request) → now ≡ before ++ fronts 0 rs → length rs ≡ c → next ≡ rs ++ r ∷ [] → after ≡ now ++ pieces c (front_of r)
    → after ≡ before ++ fronts 0 next
fronts_more before now after c rs next r first count is e =
    e ∙ ap (λ es. es ++ pieces c (front_of r)) first
    ∙ append_assoc before (fronts 0 rs) (pieces c (front_of r))
    ∙ ap (λ d. before ++ (fronts 0 rs ++ pieces d (front_of r))) (let same : c ≡ 0 + length rs = omega arith in same)
    ∙ ap (λ es. before ++ es) (sym (fronts-append 0 rs r))
    ∙ ap (λ all. before ++ fronts 0 all) (sym is)

pub backs_more : (before now after : List ScriptEvent) (c : ℕ) (rs next : List Request) (r : Request) → now ≡ before ++ backs 0 rs → length rs ≡ c → next ≡ rs ++ r ∷ [] → after ≡ now ++ pieces c (back_of r)
    → after ≡ before ++ backs 0 next
backs_more before now after c rs next r first count is e =
    e ∙ ap (λ es. es ++ pieces c (back_of r)) first
    ∙ append_assoc before (backs 0 rs) (pieces c (back_of r))
    ∙ ap (λ d. before ++ (backs 0 rs ++ pieces d (back_of r))) (let same : c ≡ 0 + length rs = omega arith in same)
    ∙ ap (λ es. before ++ es) (sym (backs-append 0 rs r))
    ∙ ap (λ all. before ++ backs 0 all) (sym is)

pub groups_more : (before now after : List ScriptEvent) (k : ℕ) (requests : List Request) → now ≡ before ++ flat_map group_events (first_slices 4 k requests) → after ≡ now ++ group_events (slice_at 4 k requests)
    → after ≡ before ++ flat_map group_events (first_slices 4 (k + 1) requests)
groups_more before now after k requests first e =
    let group = slice_at 4 k requests in
    e ∙ ap (λ es. es ++ group_events group) first
    ∙ append_assoc before (flat_map group_events (first_slices 4 k requests)) (group_events group)
    ∙ ap (λ es. before ++ (flat_map group_events (first_slices 4 k requests) ++ es)) (sym (append-nil (group_events group)))
    ∙ ap (λ es. before ++ es) (sym (flat_map-append group_events (first_slices 4 k requests) (group ∷ [])))
    ∙ ap (λ groups. before ++ flat_map group_events groups) (sym (next_slice 4 k requests))
