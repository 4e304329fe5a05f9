-- What a tree has once a value is placed in it.
use Rattle.std.proofs.Common.{◌≡◌, ◌≢◌, ◌⊎◌, inl, inr, ℕ, Bool, true, false, List, [], ◌∷◌, ◌++◌, Option, Some, None, refl, sym, ◌∙◌, ap, ap₂, subst, bytes_eq}
use Rattle.std.proofs.lemmas.Slice.Eq.{bytes_eq-Decides}
use Rattle.fields.specs.Table.{LeadsThrough}
use Rattle.serde_json.specs.Data.{Data, object, Members}
use Rattle.serde_json.specs.Find.{get, get_member}
use Rattle.conversion.specs.Trees.{Names, Stands, IsObject}
use Rattle.conversion.specs.Code.{get_in, IsPlaced}
use Rattle.conversion.proofs.WritingLemmas.{IsLeaf}
use Rattle.conversion.proofs.TreeLemmas.{object_from_get, no_last, some_one}
use Rattle.conversion.proofs.RoundLemmas.{ArePartedPaths}

same_name : (a b : List ℕ) → (a ≡ b) ⊎ (a ≢ b)
same_name a b = by (bytes_eq a b) refl
  where
    by : (t : Bool) → bytes_eq a b ≡ t → (a ≡ b) ⊎ (a ≢ b)
    by true e = inl ((bytes_eq-Decides a b).0 e)
    by false e = inr (λ h. let t = (bytes_eq-Decides a b).1 h in cc)

-- there is a tree, and it has this at the path
abbrev pub StandsIn : Option Data → Names → Data → Type 0
StandsIn tree path there = (whole : Data) × (tree ≡ Some whole) × Stands whole path there

within_tree : (name : List ℕ) (tree : Option Data) (inner : Data) → get_in name tree ≡ Some inner → (whole : Data) × (tree ≡ Some whole) × (get name whole ≡ Some inner)
within_tree name None inner h = absurd cc
within_tree name (Some whole) inner h = (whole, refl, h)

at_name : (name : List ℕ) (tree : Option Data) (whole inner : Data) → tree ≡ Some whole → get name whole ≡ Some inner → get_in name tree ≡ Some inner
at_name name tree whole inner is h = subst (λ o. get_in name o ≡ Some inner) (sym is) h

read : (name : List ℕ) (new : Data) (ms : Members) (o : Option Data) → new ≡ object ms → get_member name ms ≡ o → get name new ≡ o
read name new ms o is h = subst (λ t. get name t ≡ o) (sym is) h

-- the value stands at its path
pub placed_here : (path : Names) (json : Data) (old : Option Data) (new : Data) → IsPlaced path json old new → Stands new path json
placed_here [] json old new h = h
placed_here (name ∷ path) json old new h = (h.3, read name new h.0 (Some h.3) h.1 h.4, placed_here path json (get_in name old) h.3 h.5)

-- what stands at a path apart stays
pub placed_keeps : (path q : Names) (json : Data) (old : Option Data) (new there : Data) → IsPlaced path json old new → ArePartedPaths path q → StandsIn old q there → Stands new q there
placed_keeps [] q json old new there h parted k = absurd (parted.1 (q, refl))
placed_keeps (name ∷ path) [] json old new there h parted k = absurd (parted.0 (name ∷ path, refl))
placed_keeps (name ∷ path) (other ∷ q) json old new there h parted k = elim (same_name other name) [
  | inl same ↦
      let below : ArePartedPaths path q = (
        λ t. parted.0 (t.0, ap₂ (λ x xs. x ∷ xs) (sym same) t.1),
        λ t. parted.1 (t.0, ap₂ (λ x xs. x ∷ xs) same t.1),
      ) in
      let found : get_in name old ≡ Some k.2.0 = at_name name old k.0 k.2.0 k.1 (subst (λ n. get n k.0 ≡ Some k.2.0) same k.2.1) in
      (h.3, read other new h.0 (Some h.3) h.1 (subst (λ n. get_member n h.0 ≡ Some h.3) (sym same) h.4), placed_keeps path q json (get_in name old) h.3 there h.5 below (k.2.0, found, k.2.2))
  | inr apart ↦ (k.2.0, read other new h.0 (Some k.2.0) h.1 (h.2 other apart ∙ at_name other old k.0 k.2.0 k.1 k.2.1), k.2.2)
]

abbrev ComesFrom : Names → Data → Option Data → Names → Data → Type 0
ComesFrom path json old q there = LeadsThrough path q ⊎ ((rest : Names) × (q ≡ path ++ rest) × Stands json rest there) ⊎ StandsIn old q there

-- what stands in the new tree is on the way to the value, in it, or stood in the old tree
placed_only : (path q : Names) (json : Data) (old : Option Data) (new there : Data) → IsPlaced path json old new → Stands new q there → ComesFrom path json old q there
placed_only [] q json old new there h k = inr (inl (q, refl, subst (λ t. Stands t q there) h k))
placed_only (name ∷ path) [] json old new there h k = inl (name ∷ path, refl)
placed_only (name ∷ path) (other ∷ q) json old new there h k =
    let at_other : get_member other h.0 ≡ Some k.0 = subst (λ t. get other t ≡ Some k.0) h.1 k.1 in
    elim (same_name other name) [
      | inl same ↦
          let inner : k.0 ≡ h.3 = some_one (get_member name h.0) k.0 h.3 (subst (λ n. get_member n h.0 ≡ Some k.0) same at_other) h.4 in
          elim (placed_only path q json (get_in name old) h.3 there h.5 (subst (λ t. Stands t q there) inner k.2)) [
            | inl r ↦ inl (r.0, ap₂ (λ x xs. x ∷ xs) (sym same) r.1)
            | inr (inl r) ↦ inr (inl (r.0, ap₂ (λ x xs. x ∷ xs) same r.1, r.2))
            | inr (inr r) ↦
                let w = within_tree name old r.0 r.1 in
                inr (inr (w.0, w.1, (r.0, subst (λ n. get n w.0 ≡ Some r.0) (sym same) w.2, r.2)))
          ]
      | inr apart ↦
          let w = within_tree other old k.0 (sym (h.2 other apart) ∙ at_other) in
          inr (inr (w.0, w.1, (k.0, w.2, k.2)))
    ]

leaf_alone : (json : Data) (rest : Names) (there : Data) → IsLeaf json → Stands json rest there → rest ≡ []
leaf_alone json [] there leaf h = refl
leaf_alone json (name ∷ rest) there leaf h = let o = object_from_get name json h.0 h.1 in absurd (subst IsLeaf o.1 leaf)

pub placed_least : (path q : Names) (json : Data) (old : Option Data) (new there : Data) → IsLeaf json → IsPlaced path json old new → Stands new q there → LeadsThrough path q ⊎ StandsIn old q there
placed_least path q json old new there leaf h k = elim (placed_only path q json old new there h k) [
  | inl r ↦ inl r
  | inr (inl r) ↦
      let none : r.0 ≡ [] = leaf_alone json r.0 there leaf r.2 in
      let same : q ≡ path = r.1 ∙ ap (λ x. path ++ x) none ∙ no_last path in
      inl ([], sym same ∙ sym (no_last q))
  | inr (inr r) ↦ inr r
]

pub placed_object : (path : Names) (json : Data) (old : Option Data) (new : Data) → path ≢ [] → IsPlaced path json old new → IsObject new
placed_object [] json old new some h = absurd (some refl)
placed_object (name ∷ path) json old new some h = (h.0, h.1)
