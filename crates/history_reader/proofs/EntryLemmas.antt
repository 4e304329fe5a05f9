-- The entries of an array, one after another.
use Rattle.std.proofs.Common.{◌≡◌, ℕ, zero, suc, ◌+◌, ◌<◌, List, [], ◌∷◌, ◌++◌, length, take, map, get_or, refl, sym, ap, subst, ◌∙◌, arith}
use Rattle.std.specs.List.{AllByRecursion, AllZip}
use Rattle.std.proofs.lemmas.Slice.Zip.{all_zipped_more}
use Rattle.std.proofs.lemmas.List.{take_more, map-append}
use Rattle.toml.specs.Data.{Members}
use Rattle.toml.specs.View.{view, items_view}
use Rattle.toml.specs.declared.value.Value.{Value}
use Rattle.history_reader.specs.Tree.{members_in, tables_in}

abbrev pub table_of_value : Value → Members
table_of_value v = members_in (view v)

tables_in-view : (vs : List Value) → tables_in (items_view vs) ≡ map table_of_value vs
tables_in-view [] = refl
tables_in-view (v ∷ vs) = ap (λ l. table_of_value v ∷ l) (tables_in-view vs)

tables_in-more : (vs : List Value) (i : ℕ) (d : Value) → i < length vs → tables_in (items_view (take (i + 1) vs)) ≡ tables_in (items_view (take i vs)) ++ table_of_value (get_or vs i d) ∷ []
tables_in-more vs i d h =
    rw (tables_in-view (take (i + 1) vs), tables_in-view (take i vs), take_more vs i d h) (map-append table_of_value (take i vs) (get_or vs i d ∷ []))

-- one more entry
pub entries_more : {X : Type 0} (P : Members → X → Type 0) (vs : List Value) (i : ℕ) (v : Value) (t : Members) (xs : List X) (x : X) → i < length vs → v ≡ get_or vs i v → t ≡ table_of_value v
    → AllZip P (tables_in (items_view (take i vs))) xs → P t x → AllZip P (tables_in (items_view (take (i + 1) vs))) (xs ++ x ∷ [])
entries_more P vs i v t xs x h is same a e =
    let Q : Members → Type 0 = λ s. P s x in
    rw (tables_in-more vs i v h) (all_zipped_more P _ xs _ x a (subst Q (same ∙ ap table_of_value is) e))

holds_at : (Q : Members → Type 0) (vs : List Value) (i : ℕ) (d : Value) → i < length vs → AllByRecursion Q (tables_in (items_view vs)) → Q (table_of_value (get_or vs i d))
holds_at Q [] i d h a = absurd (omega arith)
holds_at Q (v ∷ vs) zero d h a = a.0
holds_at Q (v ∷ vs) (suc i) d h a = holds_at Q vs i d (omega arith) a.1

-- what holds of each table of an array holds of an item's
pub table_holds : (Q : Members → Type 0) (vs : List Value) (i : ℕ) (v : Value) (t : Members) → i < length vs → v ≡ get_or vs i v → t ≡ table_of_value v
    → AllByRecursion Q (tables_in (items_view vs)) → Q t
table_holds Q vs i v t h is same a = subst Q (sym (same ∙ ap table_of_value is)) (holds_at Q vs i v h a)
