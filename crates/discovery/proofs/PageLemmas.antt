-- The pages by what is found first among the served versions, and the versions of a group with one more.
use Rattle.std.proofs.Common.{◌≡◌, ◌≢◌, not, ℕ, ◌<◌, Bool, true, false, Option, Some, None, List, [], ◌∷◌, ◌++◌, length, map, get_or, drop, zero, suc, refl, sym, ◌∙◌, ap, cond, codes, arith}
use Rattle.std.specs.Prelude.{filter, find, ◌==◌}
use Rattle.std.specs.List.{dedup}
use Rattle.std.specs.Option.{is_some}
use Rattle.std.specs.Str.{bytes_eq}
use Rattle.std.proofs.lemmas.Bool.{and_parts, false≢true}
use Rattle.std.proofs.lemmas.List.{append-nil, map-append}
use Rattle.std.proofs.lemmas.List.Elements.{filter-append}
use Rattle.std.proofs.lemmas.Slice.Eq.{bytes_eq-Decides}
use Rattle.serde_json.specs.Data.{Data}
use Rattle.lifecycle.specs.Names.{group_version}
use Rattle.release_view.specs.declared.served.ServedVersion.{ServedVersion}
use Rattle.release_view.proofs.ListLemmas.{found, some-find}
use Rattle.discovery.specs.Groups.{is_in, versions_in, single_tree, group_among, serves_group}
use Rattle.discovery.specs.Lasts.{last_text, is_last}
use Rattle.discovery.specs.Order.{AreIn, IsOfAnother}
use Rattle.discovery.specs.Resources.{is_of, resources_in, resource_tree, resources_tree, resources_among, serves_version}
use Rattle.discovery.proofs.DedupLemmas.{dedup-push, grown, last_text-push}

-- ---- texts

pub text_named : (g v : List ℕ) → (length g == 0) ≡ false → group_version g v ≡ g ++ codes "/" ++ v
text_named [] v h = absurd (false≢true (sym h))
text_named (c ∷ cs) v h = refl

pub text_joined : (g v g' v' : List ℕ) → g' ≡ g → v' ≡ v → (length g' == 0) ≡ false → g' ++ codes "/" ++ v' ≡ group_version g v
text_joined g v g' v' p q named =
    ap (λ x. x ++ codes "/" ++ v') p ∙ ap (λ x. g ++ codes "/" ++ x) q ∙ sym (text_named g v (ap (λ (x : List ℕ). length x == 0) (sym p) ∙ named))

pub unnot : (b : Bool) → false ≡ not b → b ≡ true
unnot true h = refl
unnot false h = absurd (false≢true h)

-- ---- a group by itself

pub none_among : (served : List ServedVersion) (g : List ℕ) → find (is_in g) served ≡ None → (length g == 0) ≡ false → None ≡ group_among served g
none_among served g none named =
    let serves : serves_group served g ≡ false = sym (some-find (is_in g) served) ∙ ap is_some none in
    rw (named, serves) refl

pub core_among : (served : List ServedVersion) (g : List ℕ) → (length g == 0) ≡ true → None ≡ group_among served g
core_among served g core = rw core refl

pub one_among : (served : List ServedVersion) (g : List ℕ) (first : ServedVersion) (tree : Data) → find (is_in g) served ≡ Some first → (length g == 0) ≡ false
    → tree ≡ single_tree first.group (versions_in served first.group) → Some tree ≡ group_among served g
one_among served g first tree is named made =
    let serves : serves_group served g ≡ true = sym (some-find (is_in g) served) ∙ ap is_some is in
    let same : first.group ≡ g = (bytes_eq-Decides first.group g).0 (found (is_in g) served first is).1 in
    rw (named, serves) (ap Some (made ∙ ap (λ k. single_tree k (versions_in served k)) same))

-- ---- the resources of a version

pub none_served : (served : List ServedVersion) (g v : List ℕ) → find (is_of g v) served ≡ None → None ≡ resources_among served g v
none_served served g v none =
    let serves : serves_version served g v ≡ false = sym (some-find (is_of g v) served) ∙ ap is_some none in
    rw serves refl

pub some_served : (served : List ServedVersion) (g v : List ℕ) (first : ServedVersion) (trees : List Data) (tree : Data) → find (is_of g v) served ≡ Some first
    → trees ≡ map resource_tree (resources_in served g v) → tree ≡ resources_tree first.group first.version trees → Some tree ≡ resources_among served g v
some_served served g v first trees tree is listed made =
    let serves : serves_version served g v ≡ true = sym (some-find (is_of g v) served) ∙ ap is_some is in
    let (group, version) = and_parts (bytes_eq first.group g) (bytes_eq first.version v) (found (is_of g v) served first is).1 in
    let same_group : first.group ≡ g = (bytes_eq-Decides first.group g).0 group in
    let same_version : first.version ≡ v = (bytes_eq-Decides first.version v).0 version in
    rw serves (ap Some (made ∙ ap (λ k. resources_tree k first.version trees) same_group ∙ ap (λ w. resources_tree g w trees) same_version ∙ ap (resources_tree g v) listed))

-- ---- the versions of a group

module _ (xs : List ServedVersion) (x : ServedVersion) (g : List ℕ) where
  abbrev before : List (List ℕ)
  before = versions_in xs g

  other_group : bytes_eq x.group g ≡ false → versions_in (xs ++ x ∷ []) g ≡ before
  other_group apart =
      let none : filter (is_in g) (x ∷ []) ≡ [] = ap (λ (b : Bool). cond b (x ∷ []) []) apart in
      ap (λ ys. dedup bytes_eq (map (λ (s : ServedVersion). s.version) ys)) (filter-append (is_in g) xs (x ∷ []) ∙ ap (λ ys. filter (is_in g) xs ++ ys) none ∙ append-nil (filter (is_in g) xs))

  same_group : bytes_eq x.group g ≡ true → versions_in (xs ++ x ∷ []) g ≡ grown before x.version
  same_group same =
      let one : filter (is_in g) (x ∷ []) ≡ x ∷ [] = ap (λ (b : Bool). cond b (x ∷ []) []) same in
      ap (λ ys. dedup bytes_eq (map (λ (s : ServedVersion). s.version) ys)) (filter-append (is_in g) xs (x ∷ []) ∙ ap (λ ys. filter (is_in g) xs ++ ys) one)
      ∙ ap (dedup bytes_eq) (map-append (λ (s : ServedVersion). s.version) (filter (is_in g) xs) (x ∷ []))
      ∙ dedup-push (map (λ (s : ServedVersion). s.version) (filter (is_in g) xs)) x.version

  abbrev HasVersions : List (List ℕ) → Option (List ℕ) → List ServedVersion → Type 0
  HasVersions versions last ys = (versions ≡ versions_in ys g) × (last ≡ last_text (versions_in ys g))

  pub versions_other : (versions : List (List ℕ)) (last : Option (List ℕ)) → bytes_eq x.group g ≡ false → HasVersions versions last xs → HasVersions versions last (xs ++ x ∷ [])
  versions_other versions last apart h = (h.0 ∙ sym (other_group apart), h.1 ∙ ap last_text (sym (other_group apart)))

  pub versions_same : (versions : List (List ℕ)) (last : Option (List ℕ)) → bytes_eq x.group g ≡ true → is_last last x.version ≡ true → HasVersions versions last xs → HasVersions versions last (xs ++ x ∷ [])
  versions_same versions last same again h =
      let kept : versions_in (xs ++ x ∷ []) g ≡ before = same_group same ∙ ap (λ (b : Bool). cond b before (before ++ x.version ∷ [])) (ap (λ o. is_last o x.version) (sym h.1) ∙ again) in
      (h.0 ∙ sym kept, h.1 ∙ ap last_text (sym kept))

  pub versions_more : (versions : List (List ℕ)) (last : Option (List ℕ)) → bytes_eq x.group g ≡ true → is_last last x.version ≡ false → HasVersions versions last xs → HasVersions (versions ++ x.version ∷ []) (Some x.version) (xs ++ x ∷ [])
  versions_more versions last same new h =
      let more : versions_in (xs ++ x ∷ []) g ≡ before ++ x.version ∷ [] = same_group same ∙ ap (λ (b : Bool). cond b before (before ++ x.version ∷ [])) (ap (λ o. is_last o x.version) (sym h.1) ∙ new) in
      (ap (λ vs. vs ++ x.version ∷ []) h.0 ∙ sym more, sym (last_text-push before x.version) ∙ ap last_text (sym more))

-- ---- the split of a group from the others

pub in-push : (g : List ℕ) (xs : List ServedVersion) (x : ServedVersion) → AreIn g xs → x.group ≡ g → AreIn g (xs ++ x ∷ [])
in-push g [] x h e = (e, tt)
in-push g (y ∷ ys) x h e = (h.0, in-push g ys x h.1 e)

-- what stands at a place is of another group, and so is the first from there on
pub another : (g : List ℕ) (xs : List ServedVersion) (i : ℕ) (x : ServedVersion) → i < length xs → x ≡ get_or xs i x → x.group ≢ g → IsOfAnother g (drop i xs)
another g [] i x below is apart = absurd (omega arith)
another g (y ∷ ys) zero x below is apart = λ e. apart (ap (λ (s : ServedVersion). s.group) is ∙ e)
another g (y ∷ ys) (suc i) x below is apart = another g ys i x (omega arith) is apart

pub another_end : (g : List ℕ) (xs : List ServedVersion) → IsOfAnother g (drop (length xs) xs)
another_end g [] = tt
another_end g (y ∷ ys) = another_end g ys
