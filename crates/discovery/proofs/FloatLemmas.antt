-- No page has a float, so its compact text is determined.
use Rattle.std.proofs.Common.{◌≡◌, ℕ, List, [], ◌∷◌, map, Bool, true, false, Option, Some, None, Result, Ok, Err, IfSome, IfOk, if◌then◌else◌, refl, sym, subst, not, ◌||◌}
use Rattle.std.specs.Prelude.{option_map}
use Rattle.serde_json.specs.Data.{Data}
use Rattle.serde_json.specs.View.{items_of}
use Rattle.serde_json.specs.Written.{has_float, items_have_float}
use Rattle.release_view.specs.Served.{served_of}
use Rattle.release_view.specs.Views.{Viewed}
use Rattle.release_view.specs.declared.served.ServedVersion.{ServedVersion}
use Rattle.discovery.specs.Groups.{version_tree, group_tree, single_tree, group_list_page, group_among, is_core, serves_group, names_in, versions_in}
use Rattle.discovery.specs.Resources.{resource_tree, resources_tree, resources_among, resources_in, serves_version}

-- ---- what is said of a result is said of what it holds

pub on_ok : {V E : Type 0} (r : Result V E) (P Q : V → Type 0) → ((v : V) → P v → Q v) → IfOk r P → IfOk r Q
on_ok (Ok v) P Q f h = f v h
on_ok (Err e) P Q f h = tt

pub on_some : {V : Type 0} (tree : V → Data) (o : Option V) (page : Option Data) → option_map tree o ≡ page → IfSome page (λ d. has_float d ≡ false) → IfSome o (λ v. has_float (tree v) ≡ false)
on_some tree None page e h = tt
on_some tree (Some v) page e h = subst (λ (p : Option Data). IfSome p (λ d. has_float d ≡ false)) (sym e) h

-- ---- trees

items_no_float : {X : Type 0} (f : X → Data) → ((x : X) → has_float (f x) ≡ false) → (xs : List X) → items_have_float (items_of (map f xs)) ≡ false
items_no_float f h [] = refl
items_no_float f h (x ∷ xs) = rw (h x, items_no_float f h xs)

version_no_float : (group version : List ℕ) → has_float (version_tree group version) ≡ false
version_no_float group version = refl

group_no_float : (group : List ℕ) (versions : List (List ℕ)) → has_float (group_tree group versions) ≡ false
group_no_float group [] = refl
group_no_float group (version ∷ versions) = rw (items_no_float (version_tree group) (version_no_float group) versions)

single_no_float : (group : List ℕ) (versions : List (List ℕ)) → has_float (single_tree group versions) ≡ false
single_no_float group [] = refl
single_no_float group (version ∷ versions) = rw (items_no_float (version_tree group) (version_no_float group) versions)

trees_no_float : (served : List ServedVersion) (names : List (List ℕ)) → items_have_float (items_of (map (λ group. group_tree group (versions_in served group)) names)) ≡ false
trees_no_float served names = items_no_float (λ (group : List ℕ). group_tree group (versions_in served group)) (λ group. group_no_float group (versions_in served group)) names

resource_no_float : (s : ServedVersion) → has_float (resource_tree s) ≡ false
resource_no_float s = refl

resources_no_float : (group version : List ℕ) (xs : List ServedVersion) → has_float (resources_tree group version (map resource_tree xs)) ≡ false
resources_no_float group version xs = rw (items_no_float resource_tree resource_no_float xs)

-- ---- pages

pub list_no_float : (view : Viewed) → has_float (group_list_page view) ≡ false
list_no_float view = rw (trees_no_float (served_of view.versions) (names_in (served_of view.versions)))

chosen : (b : Bool) (d : Data) → has_float d ≡ false → IfSome (if b then None else Some d) (λ t. has_float t ≡ false)
chosen true d h = tt
chosen false d h = h

chosen_not : (b : Bool) (d : Data) → has_float d ≡ false → IfSome (if b then Some d else None) (λ t. has_float t ≡ false)
chosen_not true d h = h
chosen_not false d h = tt

pub group_page_no_float : (served : List ServedVersion) (group : List ℕ) → IfSome (group_among served group) (λ d. has_float d ≡ false)
group_page_no_float served group = chosen (is_core group || not (serves_group served group)) (single_tree group (versions_in served group)) (single_no_float group (versions_in served group))

pub resources_page_no_float : (served : List ServedVersion) (group version : List ℕ) → IfSome (resources_among served group version) (λ d. has_float d ≡ false)
resources_page_no_float served group version = chosen_not (serves_version served group version) (resources_tree group version (map resource_tree (resources_in served group version))) (resources_no_float group version (resources_in served group version))
