-- What each connection brings.
use Rattle.std.proofs.Common.{◌≡◌, ℕ, zero, suc, ◌+◌, ◌*◌, ◌==◌, ◌<◌, ◌≤◌, lit<, Bool, true, false, cond, List, [], ◌∷◌, ◌++◌, Option, Some, None, length, take, drop, map, refl, sym, ◌∙◌, ap, ap₂, arith}
use Rattle.std.specs.Int.{div_ceil}
use Rattle.std.specs.List.{flat_map, slice_get}
use Rattle.std.specs.Option.{option_map_or}
use Rattle.std.proofs.Math.Seq.{take-add}
use Rattle.std.proofs.lemmas.Grind.{div_ceil_times, flat_map-append}
use Rattle.std.proofs.lemmas.List.{append-nil, take_all, take-append-drop}
use Rattle.release_view.specs.Views.{Viewed}
use Rattle.scripts.specs.declared.script.ScriptEvent.{ScriptEvent}
use Rattle.scripts.specs.declared.script.ScriptEvent.TheVariants.{Piece}
use Rattle.workload.specs.Groups.{front_of, back_of, fronts, backs, opens, closes, group_events}
use Rattle.workload.specs.Parts.{slice_at, first_slices, slices, pieces}
use Rattle.workload.specs.Whole.{bytes_in, brought, own_request, ComeWhole}
use Rattle.workload.specs.declared.request.Request.{Request}

-- ---- slices joined

abbrev joined : List (List ℕ) → List ℕ
joined parts = flat_map (λ part. part) parts

front_joined : (k : ℕ) (bytes : List ℕ) → joined (first_slices 4096 k bytes) ≡ take (4096 * k) bytes
front_joined zero bytes = refl
front_joined (suc k) bytes =
    flat_map-append (λ part. part) (first_slices 4096 k bytes) (slice_at 4096 k bytes ∷ [])
    ∙ ap₂ (λ a b. a ++ b) (front_joined k bytes) (append-nil (slice_at 4096 k bytes))
    ∙ sym (take-add (4096 * k) 4096 bytes)
    ∙ ap (λ n. take n bytes) (let e : 4096 * k + 4096 ≡ 4096 * suc k = omega arith in e)

all_joined : (bytes : List ℕ) → joined (slices 4096 bytes) ≡ bytes
all_joined bytes =
    let bounds = div_ceil_times (length bytes) 4096 (lit< tt) in
    let whole : length bytes ≤ 4096 * div_ceil (length bytes) 4096 = let least = bounds.0 in omega arith in
    front_joined (div_ceil (length bytes) 4096) bytes ∙ take_all (4096 * div_ceil (length bytes) 4096) bytes whole

-- ---- pieces

own_parts : (c d : ℕ) → (d == c) ≡ true → (parts : List (List ℕ)) → brought c (map (λ part. Piece d part) parts) ≡ joined parts
own_parts c d e [] = refl
own_parts c d e (p ∷ ps) = ap₂ (λ a b. a ++ b) (ap (λ t. cond t p []) e) (own_parts c d e ps)

other_parts : (c d : ℕ) → (d == c) ≡ false → (parts : List (List ℕ)) → brought c (map (λ part. Piece d part) parts) ≡ []
other_parts c d e [] = refl
other_parts c d e (p ∷ ps) = ap₂ (λ a b. a ++ b) (ap (λ t. cond t p []) e) (other_parts c d e ps)

own_pieces : (c d : ℕ) (bytes : List ℕ) → d ≡ c → brought c (pieces d bytes) ≡ bytes
own_pieces c d bytes same = own_parts c d (grind (arith, same)) (slices 4096 bytes) ∙ all_joined bytes

other_pieces : (c d : ℕ) (bytes : List ℕ) → (d ≡ c → ⊥) → brought c (pieces d bytes) ≡ []
other_pieces c d bytes apart = other_parts c d (grind (arith, apart)) (slices 4096 bytes)

-- ---- groups

brought-append : (c : ℕ) (xs ys : List ScriptEvent) → brought c (xs ++ ys) ≡ brought c xs ++ brought c ys
brought-append c xs ys = flat_map-append (bytes_in c) xs ys

-- the connections from d on don't bring any of those before
fronts_none : (c d : ℕ) (rs : List Request) → c < d → brought c (fronts d rs) ≡ []
fronts_none c d [] below = refl
fronts_none c d (r ∷ rs) below =
    brought-append c (pieces d (front_of r)) (fronts (d + 1) rs)
    ∙ ap₂ (λ a b. a ++ b) (other_pieces c d (front_of r) (λ e. omega arith)) (fronts_none c (d + 1) rs (omega arith))

backs_none : (c d : ℕ) (rs : List Request) → c < d → brought c (backs d rs) ≡ []
backs_none c d [] below = refl
backs_none c d (r ∷ rs) below =
    brought-append c (pieces d (back_of r)) (backs (d + 1) rs)
    ∙ ap₂ (λ a b. a ++ b) (other_pieces c d (back_of r) (λ e. omega arith)) (backs_none c (d + 1) rs (omega arith))

fronts_own : (c d k : ℕ) (rs : List Request) → d + k ≡ c → brought c (fronts d rs) ≡ option_map_or front_of (slice_get rs k) []
fronts_own c d k [] at = refl
fronts_own c d zero (r ∷ rs) at =
    brought-append c (pieces d (front_of r)) (fronts (d + 1) rs)
    ∙ ap₂ (λ a b. a ++ b) (own_pieces c d (front_of r) (omega arith)) (fronts_none c (d + 1) rs (omega arith))
    ∙ append-nil (front_of r)
fronts_own c d (suc k) (r ∷ rs) at =
    brought-append c (pieces d (front_of r)) (fronts (d + 1) rs)
    ∙ ap₂ (λ a b. a ++ b) (other_pieces c d (front_of r) (λ e. omega arith)) (fronts_own c (d + 1) k rs (omega arith))

backs_own : (c d k : ℕ) (rs : List Request) → d + k ≡ c → brought c (backs d rs) ≡ option_map_or back_of (slice_get rs k) []
backs_own c d k [] at = refl
backs_own c d zero (r ∷ rs) at =
    brought-append c (pieces d (back_of r)) (backs (d + 1) rs)
    ∙ ap₂ (λ a b. a ++ b) (own_pieces c d (back_of r) (omega arith)) (backs_none c (d + 1) rs (omega arith))
    ∙ append-nil (back_of r)
backs_own c d (suc k) (r ∷ rs) at =
    brought-append c (pieces d (back_of r)) (backs (d + 1) rs)
    ∙ ap₂ (λ a b. a ++ b) (other_pieces c d (back_of r) (λ e. omega arith)) (backs_own c (d + 1) k rs (omega arith))

-- a request is what comes before its cut and behind it
both_parts : (r : Request) → front_of r ++ back_of r ≡ r.bytes
both_parts r = by (r.cut == 0)
  where
    by : (b : Bool) → cond b r.bytes (take r.cut r.bytes) ++ cond b [] (drop r.cut r.bytes) ≡ r.bytes
    by true = append-nil r.bytes
    by false = take-append-drop r.cut r.bytes

both_own : (o : Option Request) → option_map_or front_of o [] ++ option_map_or back_of o [] ≡ option_map_or (λ (r : Request). r.bytes) o []
both_own None = refl
both_own (Some r) = both_parts r

group_own : (c : ℕ) (rs : List Request) → brought c (group_events rs) ≡ own_request c rs
group_own c rs =
    brought-append c (fronts 0 rs) (backs 0 rs)
    ∙ ap₂ (λ a b. a ++ b) (fronts_own c 0 c rs (let e : 0 + c ≡ c = omega arith in e)) (backs_own c 0 c rs (let e : 0 + c ≡ c = omega arith in e))
    ∙ both_own (slice_get rs c)

groups_own : (c : ℕ) (groups : List (List Request)) → brought c (flat_map group_events groups) ≡ flat_map (own_request c) groups
groups_own c [] = refl
groups_own c (g ∷ gs) =
    brought-append c (group_events g) (flat_map group_events gs) ∙ ap₂ (λ a b. a ++ b) (group_own c g) (groups_own c gs)

pub come_whole : (view : Viewed) (seed size : ℕ) → ComeWhole view seed size
come_whole view seed size events w c =
    let inner = flat_map group_events (slices 4 w.requests) in
    ap (brought c) w.brings
    ∙ brought-append c (opens ++ inner) closes
    ∙ append-nil (brought c (opens ++ inner))
    ∙ brought-append c opens inner
    ∙ groups_own c (slices 4 w.requests)
