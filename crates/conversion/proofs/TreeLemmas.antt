-- What stands at the paths of a tree.
use Rattle.std.proofs.Common.{◌≡◌, ◌⊎◌, inl, inr, ℕ, List, [], ◌∷◌, ◌++◌, Option, Some, None, refl, sym, ◌∙◌, ap, subst}
use Rattle.serde_json.specs.Data.{Data, null, boolean, number, string, array, object}
use Rattle.serde_json.specs.Find.{get}
use Rattle.conversion.specs.Trees.{Names, Stands, IsObject, IsAbsent, IsBlocked}

pub some_one : {X : Type 0} (o : Option X) (x y : X) → o ≡ Some x → o ≡ Some y → x ≡ y
some_one o x y h k = cc

pub not_both : {X : Type 0} (o : Option X) (x : X) → o ≡ None → o ≡ Some x → ⊥
not_both o x h k = cc

pub stands_one : (tree : Data) (path : Names) (d e : Data) → Stands tree path d → Stands tree path e → d ≡ e
stands_one tree [] d e h k = sym h ∙ k
stands_one tree (name ∷ path) d e h k =
    let same : k.0 ≡ h.0 = some_one (get name tree) k.0 h.0 k.1 h.1 in
    stands_one h.0 path d e h.2 (subst (λ t. Stands t path e) same k.2)

pub stands_split : (tree : Data) (front rest : Names) (d : Data) → Stands tree (front ++ rest) d → (there : Data) × Stands tree front there × Stands there rest d
stands_split tree [] rest d h = (tree, refl, h)
stands_split tree (name ∷ front) rest d h = let r = stands_split h.0 front rest d h.2 in (r.0, (h.0, h.1, r.1), r.2)

pub stands_join : (tree : Data) (front rest : Names) (there d : Data) → Stands tree front there → Stands there rest d → Stands tree (front ++ rest) d
stands_join tree [] rest there d h k = subst (λ t. Stands t rest d) (sym h) k
stands_join tree (name ∷ front) rest there d h k = (h.0, h.1, stands_join h.0 front rest there d h.2 k)

-- what has members is an object
pub object_from_get : (name : List ℕ) (tree inner : Data) → get name tree ≡ Some inner → IsObject tree
object_from_get name null inner h = absurd cc
object_from_get name (boolean b) inner h = absurd cc
object_from_get name (number n) inner h = absurd cc
object_from_get name (string s) inner h = absurd cc
object_from_get name (array ds) inner h = absurd cc
object_from_get name (object ms) inner h = (ms, refl)

-- below null nothing stands but null itself
pub below_null : (path : Names) (d : Data) → Stands null path d → d ≡ null
below_null [] d h = sym h
below_null (name ∷ path) d h = absurd (let e = h.1 in cc)

-- two ways to part a list
pub parted : {X : Type 0} (a b c d : List X) → a ++ b ≡ c ++ d → ((x : List X) × (c ≡ a ++ x) × (b ≡ x ++ d)) ⊎ ((x : X) × (y : List X) × (a ≡ c ++ x ∷ y) × (d ≡ x ∷ y ++ b))
parted [] b c d h = inl (c, refl, h)
parted (x ∷ a) b [] d h = inr (x, a, refl, sym h)
parted (x ∷ a) b (y ∷ c) d h =
    let here : x ≡ y = cc in
    let rest : a ++ b ≡ c ++ d = cc in
    elim (parted a b c d rest) [
      | inl r ↦ inl (r.0, (let e = r.1 in cc), r.2)
      | inr r ↦ inr (r.0, r.1, (let e = r.2 in cc), r.3)
    ]

-- ---- the cases of a path

pub absent_or_null : (tree : Data) (path : Names) (d : Data) → Stands tree path d → IsAbsent tree path → d ≡ null
absent_or_null tree path d h k =
    let r = stands_split tree k.front (k.name ∷ k.rest) d (subst (λ p. Stands tree p d) k.parts h) in
    let same : r.0 ≡ k.within = stands_one tree k.front r.0 k.within r.1 k.stands in
    let at_name : get k.name k.within ≡ Some r.2.0 = subst (λ t. get k.name t ≡ Some r.2.0) same r.2.1 in
    elim k.missing [
      | inl none ↦ absurd (not_both (get k.name k.within) r.2.0 none at_name)
      | inr is_null ↦ below_null k.rest d (subst (λ t. Stands t k.rest d) (some_one (get k.name k.within) r.2.0 null at_name is_null) r.2.2)
    ]

pub blocked_or_empty : (tree : Data) (upto rest : Names) (there d : Data) → Stands tree upto there → ¬ IsObject there → Stands tree (upto ++ rest) d → rest ≡ []
blocked_or_empty tree upto [] there d h other k = refl
blocked_or_empty tree upto (name ∷ rest) there d h other k =
    let r = stands_split tree upto (name ∷ rest) d k in
    absurd (other (subst IsObject (stands_one tree upto r.0 there r.1 h) (object_from_get name r.0 r.2.0 r.2.1)))

pub blocked_stands : (tree : Data) (path upto : Names) (d : Data) → IsBlocked tree path upto → Stands tree path d → ⊥
blocked_stands tree path upto d h k = h.more (blocked_or_empty tree upto h.rest h.there d h.stands h.not_object (subst (λ p. Stands tree p d) h.parts k))

pub no_last : {X : Type 0} (xs : List X) → xs ++ [] ≡ xs
no_last [] = refl
no_last (x ∷ xs) = ap (λ ys. x ∷ ys) (no_last xs)

pub blocked_absent : (tree : Data) (path upto : Names) → IsBlocked tree path upto → IsAbsent tree path → ⊥
blocked_absent tree path upto h k =
    elim (parted upto h.rest k.front (k.name ∷ k.rest) (sym h.parts ∙ k.parts)) [
      -- the missing member is below what blocks
      | inl r ↦
          let none : r.0 ≡ [] = blocked_or_empty tree upto r.0 h.there k.within h.stands h.not_object (subst (λ p. Stands tree p k.within) r.1 k.stands) in
          let same_front : k.front ≡ upto = r.1 ∙ ap (λ x. upto ++ x) none ∙ no_last upto in
          let same : k.within ≡ h.there = stands_one tree upto k.within h.there (subst (λ p. Stands tree p k.within) same_front k.stands) h.stands in
          elim k.object [ inl empty ↦ h.some (sym same_front ∙ empty) | inr is ↦ h.not_object (subst IsObject same is) ]
      -- what blocks is below the missing member
      | inr r ↦
          let name : r.0 ≡ k.name = (let e = r.3 in cc) in
          let at : IsAbsent tree upto = record { front = k.front; name = r.0; rest = r.1; parts = r.2; within = k.within; stands = k.stands; object = k.object; missing = subst (λ n. (get n k.within ≡ None) ⊎ (get n k.within ≡ Some null)) (sym name) k.missing } in
          h.not_null (absent_or_null tree upto h.there h.stands at)
    ]

-- a path stands in the tree whole, or up to a member that isn't there
abbrev pub StandsOrEnds : Data → Names → Type 0
StandsOrEnds tree path = ((d : Data) × Stands tree path d) ⊎ ((front : Names) × (name : List ℕ) × (rest : Names) × (within : Data) × (path ≡ front ++ name ∷ rest) × Stands tree front within × (get name within ≡ None))

ends_at : (tree : Data) (name : List ℕ) (path : Names) (o : Option Data) → get name tree ≡ o → ((inner : Data) → StandsOrEnds inner path) → StandsOrEnds tree (name ∷ path)
ends_at tree name path None e more = inr ([], name, path, tree, refl, refl, e)
ends_at tree name path (Some inner) e more = elim (more inner) [
  | inl r ↦ inl (r.0, (inner, e, r.1))
  | inr r ↦ inr (name ∷ r.0, r.1, r.2, r.3, ap (λ p. name ∷ p) r.4, (inner, e, r.5), r.6)
]

pub stands_or_ends : (tree : Data) (path : Names) → StandsOrEnds tree path
stands_or_ends tree [] = inl (tree, refl)
stands_or_ends tree (name ∷ path) = ends_at tree name path (get name tree) refl (λ inner. stands_or_ends inner path)
