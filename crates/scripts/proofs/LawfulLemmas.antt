-- Lawful events, with one more and with fewer.
use Rattle.std.proofs.Common.{◌≡◌, ◌⊎◌, inl, inr, List, [], ◌∷◌, ◌++◌, refl, sym, ◌∙◌, ap, subst, append_assoc}
use Rattle.std.specs.Prelude.{Result, Ok, Err, OnOk, OnErr}
use Rattle.scripts.specs.Lawful.{MayFollow, IsLawful}
use Rattle.scripts.specs.declared.script.ScriptEvent.{ScriptEvent}

no_later : {A : Type 0} (bs : List A) (y : A) (after : List A) → [] ≡ bs ++ y ∷ after → ⊥
no_later [] y after e = cc
no_later (b ∷ bs) y after e = cc

-- where a list with one item more is cut, the item is among the others or is the last one
split_push : {A : Type 0} (xs before after : List A) (x y : A) → xs ++ x ∷ [] ≡ before ++ y ∷ after
    → ((rest : List A) × (xs ≡ before ++ y ∷ rest)) ⊎ ((xs ≡ before) × (x ≡ y))
split_push [] [] after x y e = let same : x ≡ y = cc in inr (refl, same)
split_push [] (b ∷ bs) after x y e = let rest : [] ≡ bs ++ y ∷ after = cc in absurd (no_later bs y after rest)
split_push (w ∷ ws) [] after x y e = let same : w ≡ y = cc in inl (ws, ap (λ z. z ∷ ws) same)
split_push (w ∷ ws) (b ∷ bs) after x y e =
    let head : w ≡ b = cc in
    let tail : ws ++ x ∷ [] ≡ bs ++ y ∷ after = cc in
    elim (split_push ws bs after x y tail) [
      | inl found ↦ let whole : w ∷ ws ≡ b ∷ (bs ++ y ∷ found.0) = let rest : ws ≡ bs ++ y ∷ found.0 = found.1 in cc in inl (found.0, whole)
      | inr last ↦ let whole : w ∷ ws ≡ b ∷ bs = let rest : ws ≡ bs = last.0 in cc in inr (whole, last.1)
    ]

pub lawful_nothing : IsLawful []
lawful_nothing = record { each = λ before event after e. absurd (no_later before event after e) }

pub lawful_push : (events : List ScriptEvent) (event : ScriptEvent) → IsLawful events → MayFollow events event → IsLawful (events ++ event ∷ [])
lawful_push events event lawful may = record {
  each = λ before other after e. elim (split_push events before after event other e) [
    | inl found ↦ lawful.each before other found.0 found.1
    | inr last ↦ subst (λ (es : List ScriptEvent). MayFollow es other) last.0 (subst (λ (o : ScriptEvent). MayFollow events o) last.1 may)
  ];
}

-- the last event may follow the others
pub lawful_last : (events : List ScriptEvent) (event : ScriptEvent) → IsLawful (events ++ event ∷ []) → MayFollow events event
lawful_last events event lawful = lawful.each events event [] refl

-- so are those at the front
pub lawful_front : (events more : List ScriptEvent) → IsLawful (events ++ more) → IsLawful events
lawful_front events more lawful = record {
  each = λ before event after e. lawful.each before event (after ++ more) (ap (λ es. es ++ more) e ∙ append_assoc before (event ∷ after) more);
}

-- events stay lawful where one that may follow them is appended, or nothing is
pub lawful_appended : {T E : Type 0} (r : Result T E) (old new : List ScriptEvent) (event : ScriptEvent)
    → IsLawful old → MayFollow old event → OnOk r (new ≡ old ++ event ∷ []) → OnErr r (new ≡ old) → IsLawful new
lawful_appended (Ok value) old new event lawful may ok err = subst (λ (es : List ScriptEvent). IsLawful es) (sym ok) (lawful_push old event lawful may)
lawful_appended (Err fault) old new event lawful may ok err = subst (λ (es : List ScriptEvent). IsLawful es) (sym err) lawful
