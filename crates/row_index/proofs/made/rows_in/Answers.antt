use Rattle.std.specs.BTreeMap.{values}
use Rattle.listing.specs.Listing.{lent}
use Rattle.row_index.proofs.RowLemmas.{below_next}
use Rattle.row_index.proofs.made.rows_in.Goals as goal

pub push-requires : goal.push-requires
push-requires c = λ last at.
    below_next c.args.gates.now (lent c.args.spells.now) c.loop-field.rows (values c.args.fields.now) c.loop-field.field-iterator c.next.new.self c.in-Some.field.now _ c.in-Ok-Some.row last
    c.requires c.loop-field.invariant c.in-Some.ensures.steps c.in-Ok-Some.ensures c.in-Ok-Some.field-0-is at
