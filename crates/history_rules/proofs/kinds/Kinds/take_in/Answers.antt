use Rattle.std.proofs.Common.{List}
use Rattle.std.specs.Prelude.{All}
use Rattle.lifecycle.specs.declared.entry.ApiEntry.{ApiEntry}
use Rattle.schemas.specs.ApiRules.{KeepKindsApart}
use Rattle.history_rules.specs.Kinds.{PutsResource}
use Rattle.history_rules.specs.KindsFields.{AreKindsOf}
use Rattle.history_rules.proofs.DateLemmas.{on_ok}
use Rattle.history_rules.proofs.KindLemmas.{changes_more, resources_more, changes_passed, resources_passed}
use Rattle.history_rules.proofs.kinds.Kinds.take_in.Goals as goal

pub returns-in_default : goal.returns-in_default
returns-in_default c = λ (entries : List ApiEntry) (known : AreKindsOf entries c.args.self.now) (every : All (KeepKindsApart c.args.entry.now) entries). record {
  of_changes = changes_passed c.args.entry.now c.args.self.now.changes c.in_default.not-Introduced entries known.of_changes;
  of_resources = resources_passed c.args.entry.now c.args.self.now.resources c.in_default.not-Introduced entries known.of_resources;
}

pub returns : goal.returns
returns c = on_ok c.put_resource.result
    (λ (put : PutsResource c.args.entry.now c.in-Introduced.kind c.args.self.now.resources c.put_resource.new.resources) (entries : List ApiEntry) (known : AreKindsOf entries c.args.self.now) (every : All (KeepKindsApart c.args.entry.now) entries). record {
      of_changes = changes_more c.args.entry.now c.in-Introduced.kind c.in-Introduced.singular c.in-Introduced.namespaced c.in-Introduced.enabled c.args.self.now.changes c.put_change.new.changes c.in-Introduced.is c.in_ok-put_change.ensures entries known.of_changes every;
      of_resources = resources_more c.args.entry.now c.in-Introduced.kind c.in-Introduced.singular c.in-Introduced.namespaced c.in-Introduced.enabled c.args.self.now.resources c.put_resource.new.resources c.in-Introduced.is put entries known.of_resources every;
    })
    c.put_resource.ensures
