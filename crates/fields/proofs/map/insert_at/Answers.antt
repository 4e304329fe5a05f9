use Rattle.fields.proofs.MapLemmas.{after_insert}
use Rattle.fields.proofs.map.insert_at.Goals as goal

pub returns-clause-map : goal.returns-clause-map
returns-clause-map c = (after_insert c.args.pairs.now.items c.insert.new.self.items c.args.pair c.args.i c.requires.map c.requires.place c.in_ok-insert.ensures.items).map

pub returns-clause-ok : goal.returns-clause-ok
returns-clause-ok c = (after_insert c.args.pairs.now.items c.insert.new.self.items c.args.pair c.args.i c.requires.map c.requires.place c.in_ok-insert.ensures.items).changed
