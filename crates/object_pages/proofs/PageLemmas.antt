-- Pages of objects: one of each, and none with a float.
use Rattle.std.proofs.Common.{◌≡◌, ℕ, Bool, true, false, ◌||◌, List, [], ◌∷◌, ◌++◌, codes, decimal, refl, sym, ◌∙◌, ap, subst}
use Rattle.std.specs.Prelude.{Some, Result, IfOk}
use Rattle.std.specs.List.{AllZip}
use Rattle.std.proofs.lemmas.Result.{IfOk-weaker}
use Rattle.conversion.specs.Whole.{IsWhole}
use Rattle.fields.specs.declared.map.FieldPair.{FieldPair}
use Rattle.fields.specs.declared.table.VersionTable.{VersionTable}
use Rattle.serde_json.specs.declared.value.Value.{Value}
use Rattle.conversion.proofs.WholeReadLemmas.{one_whole}
use Rattle.lifecycle.specs.Names.{group_version}
use Rattle.object_journal.specs.declared.key.Key.{Key}
use Rattle.object_pages.specs.Documents.{AreShown, IsListOf, IsShown, inside_tree, list_tree, metadata_tree, outside_tree, uid_of}
use Rattle.object_pages.specs.Laws.{HaveOnePage}
use Rattle.object_state.specs.declared.object.Object.{Object}
use Rattle.object_state.specs.declared.object.Stored.{Stored}
use Rattle.request_target.specs.Targets.{Resource}
use Rattle.serde_json.specs.Data.{Data}
use Rattle.serde_json.specs.View.{items_of, view}
use Rattle.serde_json.specs.Written.{has_float, items_have_float}

or_parts : (a b : Bool) → (a || b) ≡ false → (a ≡ false) × (b ≡ false)
or_parts true b h = absurd cc
or_parts false b h = (refl, h)

-- lists that a relation with one value at most gives of one list
same_zip : {A B : Type 0} (R : A → B → Type 0) → ((x : A) (y z : B) → R x y → R x z → y ≡ z) → (xs : List A) (ys zs : List B) → AllZip R xs ys → AllZip R xs zs → ys ≡ zs
same_zip R one [] [] [] h k = refl
same_zip R one [] [] (z ∷ zs) h k = absurd k
same_zip R one [] (y ∷ ys) zs h k = absurd h
same_zip R one (x ∷ xs) [] zs h k = absurd h
same_zip R one (x ∷ xs) (y ∷ ys) [] h k = absurd k
same_zip R one (x ∷ xs) (y ∷ ys) (z ∷ zs) h k = let first = one x y z h.0 k.0 in let rest = same_zip R one xs ys zs h.1 k.1 in cc

module _ (r : Resource) where
  one_object : (key : Key) (object : Object) (tree other : Data) → IsShown r key object tree → IsShown r key object other → tree ≡ other
  one_object key object tree other h k =
      one_whole r.table (group_version r.served.group r.served.version) object.fields (Some (metadata_tree r.served.namespaced key object)) tree other h k

  one_list : (revision : ℕ) (objects : List Stored) (tree other : Data) → IsListOf r revision objects tree → IsListOf r revision objects other → tree ≡ other
  one_list revision objects tree other h k =
      let same : h.0 ≡ k.0 = same_zip (λ (x : Stored) t. IsShown r x.key x.object t) (λ x t u. one_object x.key x.object t u) objects h.0 k.0 h.1 k.1 in
      h.2 ∙ ap (λ items. list_tree (group_version r.served.group r.served.version) items (r.served.kind ++ codes "List") (decimal revision)) same ∙ sym k.2

  pub one_page : HaveOnePage r
  one_page = record { object = one_object; list = one_list }

-- ---- one object more

zip_push : {A B : Type 0} (R : A → B → Type 0) (xs : List A) (ys : List B) (x : A) (y : B) → AllZip R xs ys → R x y → AllZip R (xs ++ x ∷ []) (ys ++ y ∷ [])
zip_push R [] [] x y h here = (here, tt)
zip_push R [] (w ∷ ys) x y h here = absurd h
zip_push R (z ∷ xs) [] x y h here = absurd h
zip_push R (z ∷ xs) (w ∷ ys) x y h here = (h.0, zip_push R xs ys x y h.1 here)

pub shown_push : (r : Resource) (objects : List Stored) (trees : List Data) (x : Stored) (tree : Data) → AreShown r objects trees → IsShown r x.key x.object tree → AreShown r (objects ++ x ∷ []) (trees ++ tree ∷ [])
shown_push r objects trees x tree h here = zip_push (λ (y : Stored) t. IsShown r y.key y.object t) objects trees x tree h here

pub plain_push : (trees : List Data) (tree : Data) → items_have_float (items_of trees) ≡ false → has_float tree ≡ false → items_have_float (items_of (trees ++ tree ∷ [])) ≡ false
plain_push [] tree h here = rw here refl
plain_push (d ∷ trees) tree h here =
    let parts = or_parts (has_float d) (items_have_float (items_of trees)) h in
    rw (parts.0, plain_push trees tree parts.1 here) refl

-- ---- no floats

pub metadata_plain : (namespaced : Bool) (key : Key) (object : Object) → has_float (metadata_tree namespaced key object) ≡ false
metadata_plain true key object = refl
metadata_plain false key object = refl

pub list_plain : (version : List ℕ) (items : List Data) (kind revision : List ℕ) → items_have_float (items_of items) ≡ false → has_float (list_tree version items kind revision) ≡ false
list_plain version items kind revision h = rw h refl

-- ---- metadata, of parts that are equal to the object's

pub inside_alike : {E : Type 0} (r : Result Value E) (name namespace revision uid : List ℕ) (key : Key) (object : Object) → name ≡ key.name → namespace ≡ key.namespace → revision ≡ decimal object.revision → uid ≡ uid_of object
    → IfOk r (λ v. view v ≡ inside_tree name namespace revision uid) → IfOk r (λ v. view v ≡ metadata_tree true key object)
inside_alike r name namespace revision uid key object n m w u h =
    IfOk-weaker r (λ v. view v ≡ inside_tree name namespace revision uid) (λ v. view v ≡ metadata_tree true key object)
    (λ v is. let parts : inside_tree name namespace revision uid ≡ metadata_tree true key object = λ i. inside_tree (n i) (m i) (w i) (u i) in is ∙ parts) h

pub outside_alike : {E : Type 0} (r : Result Value E) (name revision uid : List ℕ) (key : Key) (object : Object) → name ≡ key.name → revision ≡ decimal object.revision → uid ≡ uid_of object
    → IfOk r (λ v. view v ≡ outside_tree name revision uid) → IfOk r (λ v. view v ≡ metadata_tree false key object)
outside_alike r name revision uid key object n w u h =
    IfOk-weaker r (λ v. view v ≡ outside_tree name revision uid) (λ v. view v ≡ metadata_tree false key object)
    (λ v is. let parts : outside_tree name revision uid ≡ metadata_tree false key object = λ i. outside_tree (n i) (w i) (u i) in is ∙ parts) h

-- ---- the whole object

-- an equal version and equal metadata make the same whole
pub whole_alike : {E : Type 0} (table : VersionTable) (version other : List ℕ) (held : List FieldPair) (own its : Data) (r : Result Value E) → version ≡ other → own ≡ its → IfOk r (λ v. IsWhole table version held (Some own) (view v)) → IfOk r (λ v. IsWhole table other held (Some its) (view v))
whole_alike table version other held own its r p q h =
    subst (λ d. IfOk r (λ v. IsWhole table other held (Some d) (view v))) q
    (subst (λ t. IfOk r (λ v. IsWhole table t held (Some own) (view v))) p h)

-- ---- lists

-- the parts of a list's tree, each equal to what it stands for
pub list_alike : (version its : List ℕ) (items : List Data) (kind word revision number : List ℕ) → version ≡ its → kind ≡ word → revision ≡ number → list_tree version items kind revision ≡ list_tree its items word number
list_alike version its items kind word revision number p q n =
    ap (λ v. list_tree v items kind revision) p ∙ ap (λ k. list_tree its items k revision) q ∙ ap (list_tree its items word) n

pub listed_as : (r : Resource) (revision : ℕ) (objects : List Stored) (items : List Data) (version kind number : List ℕ) (tree : Data)
    → AreShown r objects items → version ≡ group_version r.served.group r.served.version → kind ≡ r.served.kind ++ codes "List" → number ≡ decimal revision
    → tree ≡ list_tree version items kind number → IsListOf r revision objects tree
listed_as r revision objects items version kind number tree shown v k n is =
    (items, shown, is ∙ list_alike version (group_version r.served.group r.served.version) items kind (r.served.kind ++ codes "List") number (decimal revision) v k n)
