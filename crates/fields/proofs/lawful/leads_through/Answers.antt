use Rattle.std.proofs.Common.{◌≡◌, List, [], ◌∷◌, ◌++◌, length, take, drop, refl, sym, ◌∙◌, ap}
use Rattle.std.proofs.lemmas.List.{take-append-drop}
use Rattle.std.proofs.lemmas.Slice.Eq.{bytes_eq-Decides, slice_eq-Decides}
use Rattle.fields.proofs.lawful.leads_through.Goals as goal

front_of : {X : Type 0} (front rest : List X) → take (length front) (front ++ rest) ≡ front
front_of [] rest = refl
front_of (x ∷ front) rest = ap (λ xs. x ∷ xs) (front_of front rest)

pub returns : goal.returns
returns c =
    let path = c.args.path.now in
    let front = c.args.front.now in
    let says = slice_eq-Decides bytes_eq-Decides front (take (length front) path) c.starts_with.result c.starts_with.ensures.value in (
      λ h. (drop (length front) path, sym (take-append-drop (length front) path) ∙ ap (λ p. p ++ drop (length front) path) (sym (says.0 h))),
      λ h. says.1 (sym (ap (λ p. take (length front) p) h.1 ∙ front_of front h.0)),
    )
