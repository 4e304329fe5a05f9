use Rattle.std.proofs.Common.{◌≡◌, ◌+◌, List, [], ◌∷◌, ◌++◌, take, sym, ap, subst, ◌∙◌, arith}
use Rattle.std.proofs.lemmas.List.{take_more, take_all}
use Rattle.lifecycle.specs.declared.entry.ApiEntry.{ApiEntry}
use Rattle.history_rules.specs.Dates.{HasEarliest}
use Rattle.history_rules.proofs.dates.Event.earliest.Goals as goal

pub loop-entry-preserved : goal.loop-entry-preserved
loop-entry-preserved c =
    let more : take (c.loop-entry.entry-index + 1) c.args.entries.now ≡ take c.loop-entry.entry-index c.args.entries.now ++ c.entry-item.result ∷ [] =
    take_more c.args.entries.now c.loop-entry.entry-index c.entry-item.result c.loop-entry-test.true ∙ ap (λ (x : ApiEntry). take c.loop-entry.entry-index c.args.entries.now ++ x ∷ []) (sym c.entry-item.is) in
    subst (λ (l : List ApiEntry). HasEarliest c.args.self l c.take_in.new.dates) (sym more) (c.in_ok-take_in.ensures (take c.loop-entry.entry-index c.args.entries.now) c.loop-entry.invariant)

pub returns : goal.returns
returns c =
    let whole : take c.loop-entry.entry-index c.args.entries.now ≡ c.args.entries.now = take_all c.loop-entry.entry-index c.args.entries.now (omega arith) in
    subst (λ (l : List ApiEntry). HasEarliest c.args.self l c.loop-entry.dates) whole c.loop-entry.invariant
