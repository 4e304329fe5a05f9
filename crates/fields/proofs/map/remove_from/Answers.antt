use Rattle.std.proofs.Common.{Ok, Err, refl}
use Rattle.fields.proofs.MapLemmas.{place_read, after_remove, absent_at, unchanged}
use Rattle.fields.proofs.map.remove_from.Goals as goal

pub returns-in-Ok-clause-map : goal.returns-in-Ok-clause-map
returns-in-Ok-clause-map c =
    let pairs = c.args.pairs.now.items in
    (after_remove pairs c.remove.new.self.items c.args.id.now c.in-Ok.i c.requires (place_read pairs c.as_slice.result.now c.args.id.now c.args.id.now (Ok c.in-Ok.i) c.as_slice.ensures.value refl c.in-Ok.ensures) c.remove.ensures.items).map

pub returns-in-Ok-clause-changed : goal.returns-in-Ok-clause-changed
returns-in-Ok-clause-changed c =
    let pairs = c.args.pairs.now.items in
    (after_remove pairs c.remove.new.self.items c.args.id.now c.in-Ok.i c.requires (place_read pairs c.as_slice.result.now c.args.id.now c.args.id.now (Ok c.in-Ok.i) c.as_slice.ensures.value refl c.in-Ok.ensures) c.remove.ensures.items).changed

pub returns-in_default-clause-changed : goal.returns-in_default-clause-changed
returns-in_default-clause-changed c =
    let pairs = c.args.pairs.now.items in
    unchanged pairs c.args.id.now (absent_at pairs c.args.id.now c.in_default.field-0 c.requires (place_read pairs c.as_slice.result.now c.args.id.now c.args.id.now (Err c.in_default.field-0) c.as_slice.ensures.value refl c.in_default.ensures))
