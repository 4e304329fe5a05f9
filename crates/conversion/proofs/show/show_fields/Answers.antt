use Rattle.std.proofs.Common.{◌≡◌, List, Result, Ok, Err, IfOk, false, subst}
use Rattle.fields.specs.Fits.{Fits}
use Rattle.fields.specs.Table.{AreLawful}
use Rattle.fields.specs.declared.map.FieldPair.{FieldPair}
use Rattle.fields.specs.declared.table.FieldRow.{FieldRow}
use Rattle.serde_json.specs.View.{view}
use Rattle.serde_json.specs.declared.value.Value.{Value}
use Rattle.conversion.specs.Reading.{Reads}
use Rattle.conversion.specs.Showing.{Shows}
use Rattle.conversion.specs.declared.mode.Mode.TheVariants.{Stored}
use Rattle.serde_json.specs.Written.{has_float}
use Rattle.conversion.proofs.FloatLemmas.{shown_no_float}
use Rattle.conversion.proofs.RoundLemmas.{reads_back}
use Rattle.conversion.proofs.show.show_fields.Goals as goal

read_again : {E : Type 0} (rows slice : List FieldRow) (held : List FieldPair) (r : Result Value E) → slice ≡ rows → AreLawful rows → Fits rows held → IfOk r (λ v. Shows slice held (view v)) → IfOk r (λ v. Reads Stored rows (view v) held)
read_again rows slice held (Ok v) same lawful fits h = reads_back rows held (view v) lawful fits (subst (λ rs. Shows rs held (view v)) same h)
read_again rows slice held (Err e) same lawful fits h = tt

pub returns-clause-reads_back : goal.returns-clause-reads_back
returns-clause-reads_back c =
    read_again c.args.table.now.rows c.items.result.now c.args.fields.now c.shown_rows.result c.items.ensures.value c.requires.lawful c.requires.fits c.shown_rows.ensures

no_floats : {E : Type 0} (rows : List FieldRow) (held : List FieldPair) (r : Result Value E) → IfOk r (λ v. Shows rows held (view v)) → IfOk r (λ v. has_float (view v) ≡ false)
no_floats rows held (Ok v) h = shown_no_float rows held (view v) h
no_floats rows held (Err e) h = tt

pub returns-clause-no_float : goal.returns-clause-no_float
returns-clause-no_float c = no_floats c.items.result.now c.args.fields.now c.shown_rows.result c.shown_rows.ensures
