-- Arrays of texts.
use Rattle.std.proofs.Common.{◌≡◌, ◌≢◌, ℕ, zero, suc, ◌<◌, List, [], ◌∷◌, length, get_or, map, Option, Some, None, Result, Ok, Err, IfOk, IfNone, refl, sym, ◌∙◌, ap, ap₂, arith}
use Rattle.serde_json.specs.Data.{Data, null, boolean, number, string, array, object, Items}
use Rattle.serde_json.specs.Find.{as_array}
use Rattle.serde_json.specs.View.{view, items_of, items_view}
use Rattle.serde_json.specs.declared.value.Value.{Value}
use Rattle.conversion.specs.Code.{IsTextsOf}

-- where one value is no text, the values aren't texts
pub no_texts : (values : List Value) (i : ℕ) (v : Value) (texts : List (List ℕ)) → i < length values → v ≡ get_or values i v → ((t : List ℕ) → view v ≢ string t) → map view values ≡ map string texts → ⊥
no_texts [] i v texts below is other h = absurd (omega arith)
no_texts (w ∷ values) i v [] below is other h = absurd cc
no_texts (w ∷ values) zero v (t ∷ texts) below is other h = other t (ap view is ∙ (let first : view w ≡ string t = cc in first))
no_texts (w ∷ values) (suc i) v (t ∷ texts) below is other h = no_texts values i v texts (omega arith) is other (let rest : map view values ≡ map string texts = cc in rest)

pub array_so : (tree : Data) (ds : Items) → as_array tree ≡ Some ds → tree ≡ array ds
array_so null ds h = absurd cc
array_so (boolean b) ds h = absurd cc
array_so (number n) ds h = absurd cc
array_so (string s) ds h = absurd cc
array_so (array es) ds h = let same : es ≡ ds = cc in ap array same
array_so (object ms) ds h = absurd cc

same_items : (xs ys : List Data) → items_of xs ≡ items_of ys → xs ≡ ys
same_items [] [] h = refl
same_items [] (y ∷ ys) h = absurd cc
same_items (x ∷ xs) [] h = absurd cc
same_items (x ∷ xs) (y ∷ ys) h =
    let first : x ≡ y = cc in
    let rest : items_of xs ≡ items_of ys = cc in
    ap₂ (λ d ds. d ∷ ds) first (same_items xs ys rest)

same_array : (ds es : Items) → array ds ≡ array es → ds ≡ es
same_array ds es h = cc

no_list : (tree : Data) (values : List Value) (texts : List (List ℕ)) → tree ≡ array (items_view values) → ((ts : List (List ℕ)) → map view values ≢ map string ts) → tree ≢ array (items_of (map string texts))
no_list tree values texts is other h = other texts (same_items (map view values) (map string texts) (same_array (items_of (map view values)) (items_of (map string texts)) (sym is ∙ h)))

pub none_listed : {E : Type 0} (r : Result (Option (List (List ℕ))) E) (tree : Data) (values : List Value) → tree ≡ array (items_view values) → IfOk r (IsTextsOf values)
    → IfOk r (λ o. IfNone o ((ts : List (List ℕ)) → tree ≢ array (items_of (map string ts))))
none_listed (Ok None) tree values is h = λ ts. no_list tree values ts is h
none_listed (Ok (Some ts)) tree values is h = tt
none_listed (Err e) tree values is h = tt
