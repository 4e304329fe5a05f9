-- The shapes of values.
use Rattle.std.proofs.Common.{◌≡◌, ◌↔◌, ℕ, Bool, IsTrue, List, [], ◌∷◌, Option, Some, None, IsSome, IsSomeAnd, IfSome, All, option_and_then, refl, sym, subst}
use Rattle.std.specs.List.{AllByRecursion}
use Rattle.std.proofs.lemmas.List.Elements.{recursion_from_All, All-from_recursion}
use Rattle.toml.specs.Data.{Data, as_str, as_table}
use Rattle.toml.specs.View.{view, items_view}
use Rattle.toml.specs.declared.value.Value.{Value}
use Rattle.history_reader.specs.Demands.{AreTables}

tables_down : (vs : List Value) → AllByRecursion (λ v. IsSome (as_table (view v))) vs → AreTables (items_view vs)
tables_down [] h = tt
tables_down (v ∷ vs) h = (h.0, tables_down vs h.1)

tables_up : (vs : List Value) → AreTables (items_view vs) → AllByRecursion (λ v. IsSome (as_table (view v))) vs
tables_up [] h = tt
tables_up (v ∷ vs) h = (h.0, tables_up vs h.1)

pub all_tables : (vs : List Value) → All (λ v. IsSome (as_table (view v))) vs ↔ AreTables (items_view vs)
all_tables vs = (λ h. tables_down vs (recursion_from_All _ vs h), λ h. All-from_recursion _ vs (tables_up vs h))

shaped_str : (P : List ℕ → Type 0) (o : Option (List ℕ)) (t : List ℕ) → IsSomeAnd o P → o ≡ Some t → P t
shaped_str P None t h e = absurd h
shaped_str P (Some s) t h e = let same : s ≡ t = cc in subst P same h

some_if : {A : Type 0} (P : A → Type 0) (o : Option A) → IsSomeAnd o P → IfSome o P
some_if P None h = tt
some_if P (Some t) h = h

-- the text of a member whose text is shaped
pub shaped_text : (P : List ℕ → Type 0) (o : Option Data) (t u : List ℕ) → IsSomeAnd o (λ d. IsSomeAnd (as_str d) P) → option_and_then as_str o ≡ Some t → u ≡ t → P u
shaped_text P None t u h e same = absurd h
shaped_text P (Some d) t u h e same = subst P (sym same) (shaped_str P (as_str d) t h e)

-- the same of a member that may be missing, and of what else than a text it holds
pub shaped_optional : {A : Type 0} (f : Data → Option A) (P : A → Type 0) (o : Option Data) (found : Option A) → IfSome o (λ d. IsSomeAnd (f d) P) → option_and_then f o ≡ found → IfSome found P
shaped_optional {A} f P None found h e = subst (λ (g : Option A). IfSome g P) e tt
shaped_optional {A} f P (Some d) found h e = subst (λ (g : Option A). IfSome g P) e (some_if P (f d) h)
