-- The text that names a version.
use Rattle.std.proofs.Common.{◌≡◌, ◌≢◌, ◌↔◌, ℕ, List, [], ◌∷◌, ◌++◌, Bool, false, IsTrue, refl, sym, ◌∙◌, ap}
use Rattle.std.specs.Str.{bytes_eq}
use Rattle.std.proofs.lemmas.Bool.{false≢true}
use Rattle.std.proofs.lemmas.List.{append_cancel_left}
use Rattle.std.proofs.lemmas.Slice.Eq.{bytes_eq-Decides}

slash : (front end : List ℕ) → (front ++ 47 ∷ []) ++ end ≡ front ++ (47 ∷ end)
slash [] end = refl
slash (c ∷ cs) end = ap (λ l. c ∷ l) (slash cs end)

-- what is left of a joined text is the version
pub joined : (text group rest version tail : List ℕ) (same : Bool) → text ≡ group ++ rest → rest ≡ 47 ∷ tail → same ≡ bytes_eq tail version → IsTrue same ↔ (text ≡ (group ++ 47 ∷ []) ++ version)
joined text group rest version tail same is parts equal =
    let whole : text ≡ (group ++ 47 ∷ []) ++ tail = is ∙ ap (λ r. group ++ r) parts ∙ sym (slash group tail) in (
      (λ h. whole ∙ ap (λ v. (group ++ 47 ∷ []) ++ v) ((bytes_eq-Decides tail version).0 (sym equal ∙ h))),
      (λ h. equal ∙ (bytes_eq-Decides tail version).1 (append_cancel_left (group ++ 47 ∷ []) tail version (sym whole ∙ h))),
    )

pub not_joined : (text group rest version : List ℕ) → text ≡ group ++ rest → ((tail : List ℕ) → rest ≢ 47 ∷ tail) → IsTrue false ↔ (text ≡ (group ++ 47 ∷ []) ++ version)
not_joined text group rest version is none = ((λ h. absurd (false≢true h)), (λ h. absurd (none version (append_cancel_left group rest (47 ∷ version) (sym is ∙ h ∙ slash group version)))))
