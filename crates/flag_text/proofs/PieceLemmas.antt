-- One more piece.
use Rattle.std.proofs.Common.{◌≡◌, ◌==◌, ℕ, Bor, ◌+◌, ◌<◌, not, true, false, cond, List, [], ◌∷◌, ◌++◌, length, map, filter, take, get_or, sym, ◌∙◌, ap, arith}
use Rattle.std.specs.List.{enumerate_from}
use Rattle.std.proofs.lemmas.Bool.{cond-true, cond-false}
use Rattle.std.proofs.lemmas.List.{append-nil, map-append, map_more, get_or-map, length-map, length-take}
use Rattle.std.proofs.lemmas.List.Elements.{filter-append}
use Rattle.flag_text.specs.Pieces.{piece_of, pieces_of, trimmed}

enumerate_from-push : {X : Type 0} (n : ℕ) (xs : List X) (x : X) → enumerate_from n (xs ++ x ∷ []) ≡ enumerate_from n xs ++ (n + length xs, x) ∷ []
enumerate_from-push n [] x = ap (λ m. (m, x) ∷ []) (omega arith)
enumerate_from-push n (y ∷ ys) x = ap (λ zs. (n, y) ∷ zs) (enumerate_from-push (n + 1) ys x ∙ ap (λ m. enumerate_from (n + 1) ys ++ (m, x) ∷ []) (omega arith))

pieces_of-push : (texts : List (List ℕ)) (text : List ℕ) → pieces_of (texts ++ text ∷ []) ≡ pieces_of texts ++ map piece_of (cond (not (length text == 0)) ((1 + length texts, text) ∷ []) [])
pieces_of-push texts text =
    ap (λ ps. map piece_of (filter (λ p. not (length p.1 == 0)) ps)) (enumerate_from-push 1 texts text)
    ∙ ap (map piece_of) (filter-append (λ p. not (length p.1 == 0)) (enumerate_from 1 texts) ((1 + length texts, text) ∷ []))
    ∙ map-append piece_of (filter (λ p. not (length p.1 == 0)) (enumerate_from 1 texts)) (cond (not (length text == 0)) ((1 + length texts, text) ∷ []) [])

pub pieces_of-push_empty : (texts : List (List ℕ)) (text : List ℕ) → not (length text == 0) ≡ false → pieces_of (texts ++ text ∷ []) ≡ pieces_of texts
pieces_of-push_empty texts text e =
    pieces_of-push texts text ∙ ap (λ ps. pieces_of texts ++ map piece_of ps) (cond-false (not (length text == 0)) ((1 + length texts, text) ∷ []) [] e) ∙ append-nil (pieces_of texts)

pub pieces_of-push_some : (texts : List (List ℕ)) (text : List ℕ) (place : ℕ) → not (length text == 0) ≡ true → place ≡ 1 + length texts → pieces_of (texts ++ text ∷ []) ≡ pieces_of texts ++ piece_of (place, text) ∷ []
pieces_of-push_some texts text place e at =
    pieces_of-push texts text ∙ ap (λ ps. pieces_of texts ++ map piece_of ps) (cond-true (not (length text == 0)) ((1 + length texts, text) ∷ []) [] e)
    ∙ ap (λ n. pieces_of texts ++ piece_of (n, text) ∷ []) (sym at)

-- the trimmed part at i, behind those before it
pub trimmed_more : (parts : List (List ℕ)) (i : ℕ) (d : List ℕ) → i < length parts → map trimmed (take (i + 1) parts) ≡ map trimmed (take i parts) ++ trimmed (get_or parts i d) ∷ []
trimmed_more parts i d below = map_more trimmed parts i d below

-- what the trimmed parts behind the first i are with one part more
pub read_some : (parts : List (List ℕ)) (i : ℕ) (d text : List ℕ) (place : ℕ) → i < length parts → trimmed (get_or parts i d) ≡ text → not (length text == 0) ≡ true → place ≡ i + 1
    → pieces_of (map trimmed (take (i + 1) parts)) ≡ pieces_of (map trimmed (take i parts)) ++ piece_of (place, text) ∷ []
read_some parts i d text place below same some at =
    ap pieces_of (trimmed_more parts i d below ∙ ap (λ t. map trimmed (take i parts) ++ t ∷ []) same)
    ∙ pieces_of-push_some (map trimmed (take i parts)) text place some (omega (arith, length-map (take i parts) trimmed, length-take i parts))

pub read_empty : (parts : List (List ℕ)) (i : ℕ) (d text : List ℕ) → i < length parts → trimmed (get_or parts i d) ≡ text → not (length text == 0) ≡ false
    → pieces_of (map trimmed (take (i + 1) parts)) ≡ pieces_of (map trimmed (take i parts))
read_empty parts i d text below same none =
    ap pieces_of (trimmed_more parts i d below ∙ ap (λ t. map trimmed (take i parts) ++ t ∷ []) same) ∙ pieces_of-push_empty (map trimmed (take i parts)) text none

-- the part at i as a loop over borrowed parts reads it
pub read_at : (items : List (Bor (List ℕ))) (i : ℕ) (d : Bor (List ℕ)) (text : List ℕ) → i < length items → text ≡ trimmed (get_or items i d).now → trimmed (get_or (map (λ (r : Bor (List ℕ)). r.now) items) i d.now) ≡ text
read_at items i d text below h = ap trimmed (get_or-map (λ (r : Bor (List ℕ)). r.now) items i d d.now below) ∙ sym h
