-- Lawful events, with a piece taken in parts, and with fewer.
use Rattle.std.proofs.Common.{◌≡◌, ℕ, ◌≤◌, ◌<◌, Bool, true, false, if◌then◌else◌, nat_le, List, [], ◌∷◌, ◌++◌, length, get_or, take, drop, suc, zero, refl, ap, arith, length-drop}
use Rattle.std.specs.Prelude.{Contains}
use Rattle.std.proofs.lemmas.List.{length-take}
use Rattle.std.proofs.lemmas.Bool.Decides.{nat_tests}
use Rattle.disk.specs.Beside.{FrontEvent, Opened, Piece, Closed, End}
use Rattle.world.specs.Events.{part_of, left_of}
use Rattle.world.specs.Rules.{Past, nothing_taken, past_with, past_behind, IsOpen, IsInTurn, AreInTurn, LastIsInTurn}

pub lawful_front : (past : Past) (xs ys : List FrontEvent) → AreInTurn past (xs ++ ys) → AreInTurn past xs
lawful_front past [] ys h = tt
lawful_front past (x ∷ xs) ys h = (h.0, h.1, lawful_front (past_with past x) xs ys h.2)

after_end : (past : Past) (ys : List FrontEvent) → past.ended ≡ true → AreInTurn past ys → ys ≡ []
after_end past [] e h = refl
after_end past (y ∷ ys) e h = let goes : past.ended ≡ false = h.0 in cc

none_behind : {A : Type 0} (xs ys : List A) → xs ++ ys ≡ [] → ys ≡ []
none_behind [] ys e = e
none_behind (x ∷ xs) ys e = cc

end_at : (past : Past) (xs ys : List FrontEvent) (k : ℕ) → k < length xs → get_or xs k End ≡ End → AreInTurn past (xs ++ ys) → ys ≡ []
end_at past [] ys k lt e h = absurd (omega (arith, lt))
end_at past (x ∷ xs) ys zero lt e h =
    let ends : (past_with past x).ended ≡ true = ap (λ y. (past_with past y).ended) e in
    none_behind xs ys (after_end (past_with past x) (xs ++ ys) ends h.2)
end_at past (x ∷ xs) ys (suc k) lt e h = end_at (past_with past x) xs ys k (omega (arith, lt)) e h.2

-- nothing is to come behind the end
pub nothing_after_end : (past : Past) (xs ys : List FrontEvent) → Contains xs End → AreInTurn past (xs ++ ys) → ys ≡ []
nothing_after_end past xs ys c h = end_at past xs ys c.0 c.1 c.2 h

piece_rest : (b : Bool) (room : ℕ) (past : Past) (c : ℕ) (bytes : List ℕ) (ys : List FrontEvent) → nat_le (length bytes) room ≡ b
    → past.ended ≡ false → IsOpen past c → AreInTurn past ys
    → AreInTurn past (if b then ys else Piece c (drop room bytes) ∷ ys)
piece_rest true room past c bytes ys e goes is h = h
piece_rest false room past c bytes ys e goes is h =
    let longer : room < length bytes = grind (arith, nat_tests) in
    let some : 0 < length (drop room bytes) = omega (arith, length-drop room bytes, longer) in
    (goes, (is, some), h)

-- a piece that is taken in parts stands in turn
cut_in_turn : (room : ℕ) (past : Past) (ys : List FrontEvent) → 1 ≤ room → AreInTurn past ys → AreInTurn past (part_of room ys ++ left_of room ys)
cut_in_turn room past [] le h = tt
cut_in_turn room past (Opened c ∷ ys) le h = h
cut_in_turn room past (Piece c bytes ∷ ys) le h =
    let some : 0 < length (take room bytes) = omega (arith, length-take room bytes, h.1.1, le) in
    (h.0, (h.1.0, some), piece_rest (nat_le (length bytes) room) room past c bytes ys refl h.0 h.1.0 h.2)
cut_in_turn room past (Closed c ∷ ys) le h = h
cut_in_turn room past (End ∷ ys) le h = h

pub cut_behind : (room : ℕ) (past : Past) (xs ys : List FrontEvent) → 1 ≤ room → AreInTurn past (xs ++ ys)
    → AreInTurn past (xs ++ (part_of room ys ++ left_of room ys))
cut_behind room past [] ys le h = cut_in_turn room past ys le h
cut_behind room past (x ∷ xs) ys le h = (h.0, h.1, cut_behind room (past_with past x) xs ys le h.2)

last_turn : (past : Past) (xs : List FrontEvent) (event : FrontEvent) → AreInTurn past (xs ++ event ∷ [])
    → ((past_behind past xs).ended ≡ false) × IsInTurn (past_behind past xs) event
last_turn past [] event h = (h.0, h.1)
last_turn past (x ∷ xs) event h = last_turn (past_with past x) xs event h.2

pub last_in_turn : LastIsInTurn
last_in_turn before event h =
    let last = last_turn nothing_taken before event h in
    (lawful_front nothing_taken before (event ∷ []) h, last.0, last.1)
