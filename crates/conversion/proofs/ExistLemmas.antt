-- Each map that fits has a tree that shows it.
use Rattle.std.proofs.Common.{◌≡◌, ℕ, zero, suc, ◌+◌, ◌<◌, ◌≤◌, List, [], ◌∷◌, ◌++◌, length, get_or, take, Option, Some, None, IfSome, refl, sym, ◌∙◌, ap, subst, arith}
use Rattle.std.proofs.lemmas.List.{get_or_default, take_more, take_all}
use Rattle.fields.specs.Fits.{Fits}
use Rattle.fields.specs.Map.{value_at}
use Rattle.fields.specs.Table.{IsFormOf, IsValueOf, IsLawfulRow, AreLawful}
use Rattle.fields.specs.declared.map.FieldPair.{FieldPair}
use Rattle.fields.specs.declared.table.FieldRow.{FieldRow}
use Rattle.fields.specs.declared.value.FieldValue.{FieldValue}
use Rattle.serde_json.specs.Data.{Data, object, no_members, put}
use Rattle.serde_json.specs.Find.{get_member}
use Rattle.conversion.specs.Trees.{Names}
use Rattle.conversion.specs.Showing.{Shows}
use Rattle.conversion.specs.Code.{without, members_in, IsPlaced, KeepsOrder, IsRowShown}
use Rattle.conversion.proofs.RoundLemmas.{some_path}
use Rattle.conversion.proofs.ShowLemmas.{shows_none, shows_more, before_apart}
use Rattle.conversion.proofs.StepLemmas.{placed_cons, order_cons}
use Rattle.conversion.proofs.WritingLemmas.{some_json}

some_placed : (path : Names) (json : Data) (old : Option Data) → (new : Data) × IsPlaced path json old new × KeepsOrder old json new
some_placed [] json old = (json, refl, λ before leaf. leaf)
some_placed (name ∷ path) json old =
    let inner = some_placed path json (get_member name (members_in old)) in
    (object (put name inner.0 (without name (members_in old))), placed_cons name path json old inner.0 inner.1, order_cons name json old inner.0 inner.2)

some_row : (row : FieldRow) (o : Option FieldValue) (old : Data) → IsLawfulRow row → IfSome o (IsValueOf row.ty) → (new : Data) × IsRowShown row o old new
some_row row None old lawful h = (old, refl)
some_row row (Some v) old lawful h =
    let json = some_json row.form v (subst (λ ty. IsFormOf ty row.form) (sym h.typed) lawful.form) h.whole in
    let new = some_placed row.path json.0 (Some old) in
    (new.0, (json.0, json.1, new.1, new.2))

one_more : (rows : List FieldRow) (held : List FieldPair) (i : ℕ) (row : FieldRow) → AreLawful rows → Fits rows held → i < length rows → row ≡ get_or rows i row
    → ((tree : Data) × Shows (take i rows) held tree) → (tree : Data) × Shows (take (i + 1) rows) held tree
one_more rows held i row lawful fits below is before =
    let is_lawful : IsLawfulRow row = subst IsLawfulRow (sym is) (lawful.each i row below) in
    let typed : IfSome (value_at held row.id) (IsValueOf row.ty) = subst (λ (r : FieldRow). IfSome (value_at held r.id) (IsValueOf r.ty)) (sym is) (fits.each i row below) in
    let new = some_row row (value_at held row.id) before.0 is_lawful typed in
    let next : take (i + 1) rows ≡ take i rows ++ row ∷ [] = take_more rows i row below ∙ ap (λ (r : FieldRow). take i rows ++ r ∷ []) (sym is) in (
      new.0,
      subst (λ rs. Shows rs held new.0) (sym next)
          (shows_more (take i rows) held row before.0 new.0 before.1 (before_apart rows i row lawful.apart below is) (some_path row.path is_lawful.path.0.some) typed new.1),
    )

so_far : (first : FieldRow) (rows : List FieldRow) (held : List FieldPair) → AreLawful rows → Fits rows held → (i : ℕ) → i ≤ length rows → (tree : Data) × Shows (take i rows) held tree
so_far first rows held lawful fits zero below = (object no_members, shows_none held)
so_far first rows held lawful fits (suc i) below =
    let within : i < length rows = omega arith in
    let next : i + 1 ≡ suc i = omega arith in
    subst (λ n. (tree : Data) × Shows (take n rows) held tree) next
    (one_more rows held i (get_or rows i first) lawful fits within (get_or_default rows i first (get_or rows i first) within) (so_far first rows held lawful fits i (omega arith)))

pub some_shown : (rows : List FieldRow) (held : List FieldPair) → AreLawful rows → Fits rows held → (tree : Data) × Shows rows held tree
some_shown [] held lawful fits = (object no_members, shows_none held)
some_shown (r ∷ rows) held lawful fits =
    subst (λ rs. (tree : Data) × Shows rs held tree) (take_all (length (r ∷ rows)) (r ∷ rows) (omega arith))
    (so_far r (r ∷ rows) held lawful fits (length (r ∷ rows)) (omega arith))
