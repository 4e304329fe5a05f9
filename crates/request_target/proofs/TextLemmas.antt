-- Namespaces and names of objects are texts.
use Rattle.std.proofs.Common.{◌≡◌, inl, inr, ℕ, zero, suc, ◌<◌, ◌==◌, Bool, true, false, List, [], ◌∷◌, get_or, All, refl, cond, arith}
use Rattle.std.specs.List.{slice_split, onto_first}
use Rattle.std.specs.Str.{IsUtf8}
use Rattle.std.proofs.lemmas.Bool.Decides.{nat_tests}
use Rattle.std.proofs.lemmas.Str.{IsUtf8-from_ascii, IsUtf8-nil}
use Rattle.basis.specs.Names.{IsLabelByte, IsLabel}
use Rattle.http_front.specs.Paths.{IsNamespace, IsObjectName}
use Rattle.http_front.specs.Routes.{IsInSome}

abbrev AreSmall : List ℕ → Type 0
AreSmall [] = Unit {0}
AreSmall (c ∷ cs) = (c < 128) × AreSmall cs

abbrev EachSmall : List (List ℕ) → Type 0
EachSmall [] = Unit {0}
EachSmall (x ∷ xs) = AreSmall x × EachSmall xs

small_at : (text : List ℕ) → AreSmall text → (i : ℕ) → get_or text i 0 < 128
small_at [] h i = omega arith
small_at (c ∷ cs) h zero = h.0
small_at (c ∷ cs) h (suc i) = small_at cs h.1 i

text_of_small : (text : List ℕ) → AreSmall text → IsUtf8 text
text_of_small text h = IsUtf8-from_ascii text (small_at text h)

label_byte : (c : ℕ) → IsLabelByte c → c < 128
label_byte c (inl (inl lower)) = omega arith
label_byte c (inl (inr digit)) = omega arith
label_byte c (inr dash) = omega arith

small_bytes : (text : List ℕ) → All IsLabelByte text → AreSmall text
small_bytes [] h = tt
small_bytes (c ∷ cs) h = (label_byte c (h 0 0 (omega arith)), small_bytes cs (λ k d below. h (suc k) d (omega arith)))

each_small : (parts : List (List ℕ)) → All IsLabel parts → EachSmall parts
each_small [] h = tt
each_small (x ∷ xs) h = (small_bytes x (h 0 [] (omega arith)).bytes, each_small xs (λ k d below. h (suc k) d (omega arith)))

-- an element that doesn't cut goes before the first part
first_small : (x : ℕ) (parts : List (List ℕ)) (cs : List ℕ) → (EachSmall parts → AreSmall cs) → EachSmall (onto_first x parts) → AreSmall (x ∷ cs)
first_small x [] cs rest h = (h.0.0, rest tt)
first_small x (y ∷ ys) cs rest h = (h.0.0, rest (h.0.1, h.1))

whole_small_at : (x : ℕ) (cs : List ℕ) (b : Bool) → (x == 46) ≡ b → (EachSmall (slice_split (λ c. c == 46) cs) → AreSmall cs)
    → EachSmall (cond b ([] ∷ slice_split (λ c. c == 46) cs) (onto_first x (slice_split (λ c. c == 46) cs))) → AreSmall (x ∷ cs)
whole_small_at x cs true e rest h = ((let is : x ≡ 46 = grind (arith, nat_tests) in omega arith), rest h.1)
whole_small_at x cs false e rest h = first_small x (slice_split (λ c. c == 46) cs) cs rest h

whole_small : (text : List ℕ) → EachSmall (slice_split (λ c. c == 46) text) → AreSmall text
whole_small [] h = tt
whole_small (x ∷ cs) h = whole_small_at x cs (x == 46) refl (whole_small cs) h

pub namespace_text : (text : List ℕ) → IsNamespace text → IsUtf8 text
namespace_text text h = text_of_small text (small_bytes text h.label.bytes)

pub name_text : (text : List ℕ) → IsObjectName text → IsUtf8 text
name_text text h = text_of_small text (whole_small text (each_small (slice_split (λ c. c == 46) text) h.labels))

-- a namespace that may be none
pub some_namespace_text : (namespace resource : List ℕ) → IsInSome namespace resource → IsUtf8 namespace
some_namespace_text [] resource h = IsUtf8-nil
some_namespace_text (c ∷ cs) resource h = namespace_text (c ∷ cs) h
