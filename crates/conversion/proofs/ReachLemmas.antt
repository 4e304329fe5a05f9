-- What the names so far lead to.
use Rattle.std.proofs.Common.{◌≡◌, ◌≢◌, ◌⊎◌, inl, inr, ℕ, zero, suc, ◌<◌, ◌+◌, true, false, List, [], ◌∷◌, ◌++◌, length, get_or, take, drop, Option, Some, None, is_some, option_map, Bor, refl, sym, ◌∙◌, ap, subst, arith}
use Rattle.std.proofs.lemmas.List.{take-append-drop, length-drop, length-take-le, take_more}
use Rattle.std.proofs.lemmas.Option.{slice_get_read}
use Rattle.fields.proofs.MapLemmas.{split_at}
use Rattle.serde_json.specs.Data.{Data, null, boolean, number, string, array, object}
use Rattle.serde_json.specs.Find.{get, as_null, as_object}
use Rattle.serde_json.specs.View.{view}
use Rattle.serde_json.specs.declared.value.Value.{Value}
use Rattle.conversion.specs.Trees.{Names, Stands, IsObject, IsAbsent, IsBlocked}
use Rattle.conversion.proofs.TreeLemmas.{stands_join}

pub object_so : (tree : Data) → is_some (as_object tree) ≡ true → IsObject tree
object_so null h = absurd cc
object_so (boolean b) h = absurd cc
object_so (number n) h = absurd cc
object_so (string s) h = absurd cc
object_so (array ds) h = absurd cc
object_so (object ms) h = (ms, refl)

pub object_not : (tree : Data) → is_some (as_object tree) ≡ false → ¬ IsObject tree
object_not tree h k = let e : is_some (as_object tree) ≡ true = ap (λ t. is_some (as_object t)) k.1 in cc

empty_length : {X : Type 0} (xs : List X) → xs ≡ [] → length xs ≡ 0
empty_length xs h = ap length h

pub blocked_at : (tree : Data) (path : Names) (i : ℕ) (there : Data) → Stands tree (take i path) there → there ≢ null → ¬ IsObject there → 0 < i → i < length path → IsBlocked tree path (take i path)
blocked_at tree path i there stands not_null not_object first below = record {
  rest = drop i path;
  parts = sym (take-append-drop i path);
  some = λ e. (let z = empty_length (take i path) e in let n = length-take-le i path (omega arith) in omega arith);
  more = λ e. (let z = empty_length (drop i path) e in let n = length-drop i path in omega arith);
  there = there;
  stands = stands;
  not_null = not_null;
  not_object = not_object;
}

pub object_or_first : (path : Names) (i : ℕ) (there : Data) → (0 < i → IsObject there) → (take i path ≡ []) ⊎ IsObject there
object_or_first path zero there h = inl refl
object_or_first path (suc i) there h = inr (h (omega arith))

pub absent_at : (tree : Data) (path : Names) (i : ℕ) (name : List ℕ) (there : Data) → Stands tree (take i path) there → (0 < i → IsObject there) → i < length path → name ≡ get_or path i name
    → (get name there ≡ None) ⊎ (get name there ≡ Some null) → IsAbsent tree path
absent_at tree path i name there stands is_object below is missing = record {
  front = take i path;
  name = name;
  rest = drop (suc i) path;
  parts = sym (split_at path i name (slice_get_read path (length path) i name refl below is));
  within = there;
  stands = stands;
  object = object_or_first path i there is_object;
  missing = missing;
}

pub stands_more : (tree : Data) (path : Names) (i : ℕ) (name : List ℕ) (there inner : Data) → Stands tree (take i path) there → i < length path → name ≡ get_or path i name → get name there ≡ Some inner → Stands tree (take (i + 1) path) inner
stands_more tree path i name there inner stands below is found =
    let next : take (i + 1) path ≡ take i path ++ name ∷ [] = take_more path i name below ∙ ap (λ n. take i path ++ n ∷ []) (sym is) in
    subst (λ p. Stands tree p inner) (sym next) (stands_join tree (take i path) (name ∷ []) there inner stands (inner, found, refl))

pub null_so : (tree : Data) → is_some (as_null tree) ≡ true → tree ≡ null
null_so null h = refl
null_so (boolean b) h = absurd cc
null_so (number n) h = absurd cc
null_so (string s) h = absurd cc
null_so (array ds) h = absurd cc
null_so (object ms) h = absurd cc

pub null_not : (tree : Data) → is_some (as_null tree) ≡ false → tree ≢ null
null_not tree h k = let e : is_some (as_null tree) ≡ true = ap (λ t. is_some (as_null t)) k in cc

pub found_none : (r : Option (Bor Value)) (name : List ℕ) (there : Data) → option_map (λ v. view v.now) r ≡ get name there → r ≡ None → get name there ≡ None
found_none r name there h is = sym h ∙ ap (λ o. option_map (λ (v : Bor Value). view v.now) o) is

pub found_some : (r : Option (Bor Value)) (name : List ℕ) (there : Data) (v : Bor Value) → option_map (λ v. view v.now) r ≡ get name there → r ≡ Some v → get name there ≡ Some (view v.now)
found_some r name there v h is = sym h ∙ ap (λ o. option_map (λ (x : Bor Value). view x.now) o) is
