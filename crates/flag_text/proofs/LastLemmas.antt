-- What is looked up by name, with one piece more.
use Rattle.std.proofs.Common.{◌≡◌, inl, inr, ℕ, Bool, true, false, List, [], ◌∷◌, ◌++◌, length, take, drop, reverse, Option, Some, None, refl, sym, ◌∙◌, ap, subst}
use Rattle.std.specs.Ordering.{nat_cmp}
use Rattle.std.specs.Option.{option_map, is_some}
use Rattle.std.specs.List.{list_any, find}
use Rattle.std.specs.Str.{bytes_eq}
use Rattle.std.specs.Cmp.Lexicographic.{slice_cmp}
use Rattle.std.specs.BTreeMap.{BTreeMap, get, Updates, is_at}
use Rattle.std.proofs.lemmas.Bool.{cases_Bool, cond-true, cond-false}
use Rattle.std.specs.Bool.{one_answer}
use Rattle.std.proofs.lemmas.Cmp.{nat_list_cmp_total, eq_by_cmp_equiv}
use Rattle.std.proofs.lemmas.List.{append_assoc, reverse-append, take-append-drop, take_at, drop_at}
use Rattle.std.proofs.lemmas.Map.Lookups.{exact_bytes}
use Rattle.std.proofs.lemmas.Map.Views.{tells_apart}
use Rattle.std.proofs.lemmas.Slice.Eq.{bytes_eq-Decides}
use Rattle.flag_text.specs.Pieces.{FlagPiece, last_pieces}
use Rattle.flag_text.specs.Said.{said, HasSaid}
use Rattle.flag_text.specs.declared.vocabulary.Vocabulary.{Vocabulary}

pub at_same : (a b : List ℕ) → is_at (slice_cmp nat_cmp a) b ≡ true → a ≡ b
at_same a b h = tells_apart exact_bytes a b h

pub at_itself : (a b : List ℕ) → a ≡ b → is_at (slice_cmp nat_cmp a) b ≡ true
at_itself a b e = subst (λ c. is_at (slice_cmp nat_cmp a) c ≡ true) e ((eq_by_cmp_equiv nat_list_cmp_total).refl a)

pub at_bytes : (a b : List ℕ) → is_at (slice_cmp nat_cmp a) b ≡ bytes_eq a b
at_bytes a b = one_answer (is_at (slice_cmp nat_cmp a) b) (bytes_eq a b) (at_same a b, at_itself a b) (bytes_eq-Decides a b)

-- a list whose first m elements are ys and p
pub popped : {X : Type 0} (xs ys zs : List X) (p : X) → zs ≡ take (length zs) xs → zs ≡ ys ++ p ∷ [] → (ys ≡ take (length ys) xs) × (drop (length ys) xs ≡ p ∷ drop (length zs) xs)
popped xs ys zs p front split =
    let whole : xs ≡ ys ++ (p ∷ drop (length zs) xs) = sym (take-append-drop (length zs) xs) ∙ ap (λ s. s ++ drop (length zs) xs) (sym front ∙ split) ∙ append_assoc ys (p ∷ []) (drop (length zs) xs) in
    (sym (ap (take (length ys)) whole ∙ take_at ys (p ∷ drop (length zs) xs) (length ys) refl), ap (drop (length ys)) whole ∙ drop_at ys (p ∷ drop (length zs) xs) (length ys) refl)

-- a piece has the name exactly where a last piece has it
list_any-last : (ps : List FlagPiece) (name : List ℕ) → list_any (λ p. bytes_eq p.name name) ps ≡ is_some (find (λ p. bytes_eq p.name name) (last_pieces ps))
list_any-last [] name = refl
list_any-last (p ∷ ps) name =
    elim (cases_Bool (list_any (λ q. bytes_eq q.name p.name) ps)) [
      | inl later ↦
          let rest = list_any-last ps name in
          let same : last_pieces (p ∷ ps) ≡ last_pieces ps = cond-true (list_any (λ q. bytes_eq q.name p.name) ps) (last_pieces ps) (p ∷ last_pieces ps) later in
          elim (cases_Bool (bytes_eq p.name name)) [
            | inl named ↦
                let e : p.name ≡ name = (bytes_eq-Decides p.name name).0 named in
                let there : list_any (λ q. bytes_eq q.name name) ps ≡ true = subst (λ n. list_any (λ q. bytes_eq q.name n) ps ≡ true) e later in
                rw same (rw named (sym there ∙ rest))
            | inr not_named ↦ rw same (rw not_named rest)
          ]
      | inr last ↦
          let rest = list_any-last ps name in
          let same : last_pieces (p ∷ ps) ≡ p ∷ last_pieces ps = cond-false (list_any (λ q. bytes_eq q.name p.name) ps) (last_pieces ps) (p ∷ last_pieces ps) last in
          elim (cases_Bool (bytes_eq p.name name)) [
            | inl named ↦ rw same (rw named refl)
            | inr not_named ↦ rw same (rw not_named rest)
          ]
    ]

is_some-option_map : {T U : Type 0} (f : T → U) (o : Option T) → is_some (option_map f o) ≡ is_some o
is_some-option_map f None = refl
is_some-option_map f (Some x) = refl

module _ (words : Vocabulary) where
  has_later : (p : FlagPiece) (ps : List FlagPiece) (booleans : BTreeMap (List ℕ) (Option Bool)) → HasSaid words ps booleans → is_some (get (slice_cmp nat_cmp) booleans p.name) ≡ list_any (λ q. bytes_eq q.name p.name) ps
  has_later p ps booleans has =
      ap is_some (has p.name) ∙ is_some-option_map (said words) (find (λ q. bytes_eq q.name p.name) (last_pieces ps)) ∙ sym (list_any-last ps p.name)

  pub last_seen : (p : FlagPiece) (ps : List FlagPiece) (booleans : BTreeMap (List ℕ) (Option Bool)) → HasSaid words ps booleans → is_some (get (slice_cmp nat_cmp) booleans p.name) ≡ true → last_pieces (p ∷ ps) ≡ last_pieces ps
  last_seen p ps booleans has seen = cond-true (list_any (λ q. bytes_eq q.name p.name) ps) (last_pieces ps) (p ∷ last_pieces ps) (sym (has_later p ps booleans has) ∙ seen)

  pub last_new : (p : FlagPiece) (ps : List FlagPiece) (booleans : BTreeMap (List ℕ) (Option Bool)) → HasSaid words ps booleans → is_some (get (slice_cmp nat_cmp) booleans p.name) ≡ false → last_pieces (p ∷ ps) ≡ p ∷ last_pieces ps
  last_new p ps booleans has new = cond-false (list_any (λ q. bytes_eq q.name p.name) ps) (last_pieces ps) (p ∷ last_pieces ps) (sym (has_later p ps booleans has) ∙ new)

  pub booleans_same : (ps qs : List FlagPiece) (booleans : BTreeMap (List ℕ) (Option Bool)) → last_pieces qs ≡ last_pieces ps → HasSaid words ps booleans → HasSaid words qs booleans
  booleans_same ps qs booleans same has = λ name. has name ∙ ap (λ ls. option_map (said words) (find (λ p. bytes_eq p.name name) ls)) (sym same)

  pub booleans_more : (p : FlagPiece) (ps qs : List FlagPiece) (m n : BTreeMap (List ℕ) (Option Bool)) → last_pieces qs ≡ p ∷ last_pieces ps → HasSaid words ps m → Updates (slice_cmp nat_cmp) m n p.name (Some (said words p)) → HasSaid words qs n
  booleans_more p ps qs m n more has updates = λ name.
      let goal_is = ap (λ ls. option_map (said words) (find (λ r. bytes_eq r.name name) ls)) more in
      let test = at_bytes p.name name in
      elim (cases_Bool (bytes_eq p.name name)) [
        | inl named ↦ updates.0 name ∙ cond-true (is_at (slice_cmp nat_cmp p.name) name) (Some (said words p)) (get (slice_cmp nat_cmp) m name) (test ∙ named)
            ∙ sym (goal_is ∙ ap (option_map (said words)) (cond-true (bytes_eq p.name name) (Some p) (find (λ r. bytes_eq r.name name) (last_pieces ps)) named))
        | inr apart ↦ updates.2 name (test ∙ apart) ∙ has name
            ∙ sym (goal_is ∙ ap (option_map (said words)) (cond-false (bytes_eq p.name name) (Some p) (find (λ r. bytes_eq r.name name) (last_pieces ps)) apart))
      ]

  -- the popped piece has a later one of its name
  pub seen_at : (xs ys zs : List FlagPiece) (p : FlagPiece) (key : List ℕ) (last : List FlagPiece) (booleans : BTreeMap (List ℕ) (Option Bool)) → zs ≡ take (length zs) xs → zs ≡ ys ++ p ∷ [] → p.name ≡ key
      → is_some (get (slice_cmp nat_cmp) booleans key) ≡ true → reverse last ≡ last_pieces (drop (length zs) xs) → HasSaid words (drop (length zs) xs) booleans
      → (reverse last ≡ last_pieces (drop (length ys) xs)) × HasSaid words (drop (length ys) xs) booleans
  seen_at xs ys zs p key last booleans front split named seen order has =
      let there = subst (λ q. is_some (get (slice_cmp nat_cmp) booleans q) ≡ true) (sym named) seen in
      let same : last_pieces (drop (length ys) xs) ≡ last_pieces (drop (length zs) xs) = ap last_pieces (popped xs ys zs p front split).1 ∙ last_seen p (drop (length zs) xs) booleans has there in
      (order ∙ sym same, booleans_same (drop (length zs) xs) (drop (length ys) xs) booleans same has)

  -- the popped piece is the last of its name
  pub new_at : (xs ys zs : List FlagPiece) (p : FlagPiece) (key : List ℕ) (last more : List FlagPiece) (m n : BTreeMap (List ℕ) (Option Bool)) (b : Option Bool) → zs ≡ take (length zs) xs → zs ≡ ys ++ p ∷ [] → p.name ≡ key
      → is_some (get (slice_cmp nat_cmp) m key) ≡ false → reverse last ≡ last_pieces (drop (length zs) xs) → HasSaid words (drop (length zs) xs) m
      → more ≡ last ++ p ∷ [] → b ≡ said words p → Updates (slice_cmp nat_cmp) m n key (Some b)
      → (reverse more ≡ last_pieces (drop (length ys) xs)) × HasSaid words (drop (length ys) xs) n
  new_at xs ys zs p key last more m n b front split named new order has pushed says updates =
      let rest = drop (length zs) xs in
      let absent = subst (λ q. is_some (get (slice_cmp nat_cmp) m q) ≡ false) (sym named) new in
      let grown : last_pieces (drop (length ys) xs) ≡ p ∷ last_pieces rest = ap last_pieces (popped xs ys zs p front split).1 ∙ last_new p rest m has absent in
      let at_name = subst (λ q. Updates (slice_cmp nat_cmp) m n q (Some b)) (sym named) updates in
      let at_boolean = subst (λ v. Updates (slice_cmp nat_cmp) m n p.name (Some v)) says at_name in
      (ap reverse pushed ∙ reverse-append last (p ∷ []) ∙ ap (λ ls. p ∷ ls) order ∙ sym grown, booleans_more p rest (drop (length ys) xs) m n grown has at_boolean)
