use Rattle.std.proofs.Common.{rules, ◌≡◌, ◌+◌, ◌↔◌, List, [], ◌∷◌, ◌++◌, take, sym, ap, subst, ◌∙◌, arith, IsTrue}
use Rattle.std.proofs.lemmas.List.{take_more}
use Rattle.lifecycle.specs.declared.entry.ApiEntry.{ApiEntry}
use Rattle.schemas.specs.ApiRules.{NamesItsKind}
use Rattle.schemas.proofs.PlaceLemmas.{each_more, each_whole, first_broken}
use Rattle.history_rules.specs.KindsFields.{AreKindsOf}
use Rattle.history_rules.proofs.api_rules.first_mixed_kind.Goals as goal

pub returns-then-not-names_its_kind : goal.returns-then-not-names_its_kind
returns-then-not-names_its_kind c =
    let named : IsTrue c.names_its_kind.result ↔ NamesItsKind (take c.loop-i.i c.args.entries.now) c.index-entries-i.result = c.names_its_kind.ensures (take c.loop-i.i c.args.entries.now) c.loop-i.invariant.kinds in
    first_broken NamesItsKind c.args.entries.now c.loop-i.i c.index-entries-i.result c.loop-i-test.true c.index-entries-i.is c.loop-i.invariant.each (search rules)

pub loop-i-preserved : goal.loop-i-preserved
loop-i-preserved c =
    let named : IsTrue c.names_its_kind.result ↔ NamesItsKind (take c.loop-i.i c.args.entries.now) c.index-entries-i.result = c.names_its_kind.ensures (take c.loop-i.i c.args.entries.now) c.loop-i.invariant.kinds in
    let here : NamesItsKind (take c.loop-i.i c.args.entries.now) c.index-entries-i.result = named.0 (search rules) in
    let more : take (c.loop-i.i + 1) c.args.entries.now ≡ take c.loop-i.i c.args.entries.now ++ c.index-entries-i.result ∷ [] =
    take_more c.args.entries.now c.loop-i.i c.index-entries-i.result c.loop-i-test.true ∙ ap (λ (x : ApiEntry). take c.loop-i.i c.args.entries.now ++ x ∷ []) (sym c.index-entries-i.is) in
    record {
      each = each_more NamesItsKind c.args.entries.now c.loop-i.i c.index-entries-i.result c.loop-i-test.true c.index-entries-i.is c.loop-i.invariant.each here;
      kinds = subst (λ (l : List ApiEntry). AreKindsOf l c.take_in.new.self) (sym more) (c.in_ok-take_in.ensures (take c.loop-i.i c.args.entries.now) c.loop-i.invariant.kinds here.1);
    }

pub returns : goal.returns
returns c = each_whole NamesItsKind c.args.entries.now c.loop-i.i (omega arith) c.loop-i.invariant.each
