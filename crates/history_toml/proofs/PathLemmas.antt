-- The text of a path tells the path.
use Rattle.std.proofs.Common.{◌≡◌, ℕ, ◌<◌, false, List, [], ◌∷◌, ◌++◌, All, codes, refl, ap, ◌∙◌, inl, inr, append-nil, eqb, arith}
use Rattle.std.specs.List.{flat_map}
use Rattle.std.proofs.lemmas.Bool.{ne_eqb}
use Rattle.std.proofs.lemmas.List.Elements.{All-head, All-tail}
use Rattle.std.proofs.lemmas.List.Splits.{slice_split_none, slice_split_at}
use Rattle.basis.specs.Names.{BeginsLower, IsLetterOrDigit}
use Rattle.fields.specs.Table.{IsPath}
use Rattle.history_reader.specs.Words.{path_in}
use Rattle.history_toml.specs.Tables.{dotted}

no_dot : (c : ℕ) → IsLetterOrDigit c → eqb c 46 ≡ false
no_dot c (inl lower) = ne_eqb c 46 (λ e. omega arith)
no_dot c (inr (inl upper)) = ne_eqb c 46 (λ e. omega arith)
no_dot c (inr (inr digit)) = ne_eqb c 46 (λ e. omega arith)

abbrev IsSegment : List ℕ → Type 0
IsSegment = BeginsLower 32 IsLetterOrDigit

undotted : (name : List ℕ) → IsSegment name → All (λ c. eqb c 46 ≡ false) name
undotted name h = λ k d inside. no_dot _ (h.bytes k d inside)

abbrev behind : List (List ℕ) → List ℕ
behind names = flat_map (λ inner. codes "." ++ inner) names

parts : (name : List ℕ) (names : List (List ℕ)) → IsSegment name → All IsSegment names → path_in (name ++ behind names) ≡ name ∷ names
parts name [] h all = rw append-nil (slice_split_none _ name (undotted name h))
parts name (next ∷ names) h all =
    let rest : path_in (next ++ behind names) ≡ next ∷ names = parts next names (All-head IsSegment next names all) (All-tail IsSegment next names all) in
    slice_split_at _ name 46 (next ++ behind names) (undotted name h) refl ∙ ap (λ ps. name ∷ ps) rest

pub path_in-dotted : (path : List (List ℕ)) → IsPath path → path_in (dotted path) ≡ path
path_in-dotted [] h = let some : 0 < 0 = h.some in absurd (omega arith)
path_in-dotted (name ∷ names) h = parts name names (All-head IsSegment name names h.names) (All-tail IsSegment name names h.names)
