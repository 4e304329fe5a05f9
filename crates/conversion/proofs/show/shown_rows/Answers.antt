use Rattle.std.proofs.Common.{◌≡◌, ◌<◌, ◌+◌, IfSome, [], ◌∷◌, ◌++◌, length, take, sym, ◌∙◌, ap, subst, arith}
use Rattle.std.proofs.lemmas.List.{take_more}
use Rattle.fields.specs.declared.table.FieldRow.{FieldRow}
use Rattle.fields.specs.Map.{value_at}
use Rattle.fields.specs.Table.{IsValueOf}
use Rattle.serde_json.specs.Data.{object}
use Rattle.serde_json.specs.View.{view, members_view}
use Rattle.serde_json.proofs.Views.{view-Object}
use Rattle.conversion.specs.Showing.{Shows}
use Rattle.conversion.proofs.RoundLemmas.{some_path}
use Rattle.conversion.proofs.ShowLemmas.{shows_none, shows_more, before_apart}
use Rattle.conversion.proofs.show.shown_rows.Goals as goal

pub loop-row-init : goal.loop-row-init
loop-row-init c = subst (Shows [] c.args.fields.now) (sym (view-Object c.new.result ∙ ap (λ es. object (members_view es)) c.new.ensures.empty)) (shows_none c.args.fields.now)

pub loop-row-preserved : goal.loop-row-preserved
loop-row-preserved c =
    let rows = c.args.rows.now in
    let i = c.loop-row.row-index in
    let row = c.row-item.result in
    let within : i < length rows = omega arith in
    let some = some_path row.path (subst (λ (r : FieldRow). 0 < length r.path) (sym c.row-item.is) (c.requires.lawful.each i row within).path.0.some) in
    let typed = subst (λ (r : FieldRow). IfSome (value_at c.args.fields.now r.id) (IsValueOf r.ty)) (sym c.row-item.is) (c.requires.fits.each i row within) in
    let next : take (i + 1) rows ≡ take i rows ++ row ∷ [] = take_more rows i row within ∙ ap (λ (r : FieldRow). take i rows ++ r ∷ []) (sym c.row-item.is) in
    subst (λ rs. Shows rs c.args.fields.now (view c.in_ok-shown.shown)) (sym next)
    (shows_more (take i rows) c.args.fields.now row (view c.loop-row.shown) (view c.in_ok-shown.shown) c.loop-row.invariant (before_apart rows i row c.requires.lawful.apart within c.row-item.is) some typed c.in_ok-shown.ensures)
