use Rattle.std.proofs.Common.{List, IsTrue}
use Rattle.std.specs.Prelude.{All}
use Rattle.lifecycle.specs.declared.entry.ApiEntry.{ApiEntry}
use Rattle.schemas.specs.ApiRules.{KeepKindsApart}
use Rattle.history_rules.specs.KindsFields.{AreKindsOf}
use Rattle.history_rules.proofs.KindLemmas.{introduction_apart}
use Rattle.history_rules.proofs.kinds.Kinds.are_apart_from.Goals as goal

pub returns-then-agree_with : goal.returns-then-agree_with
returns-then-agree_with c = λ (entries : List ApiEntry) (known : AreKindsOf entries c.args.self.now).
    let both = introduction_apart c.args.entry.now c.in-Introduced.kind c.in-Introduced.singular c.in-Introduced.namespaced c.in-Introduced.enabled c.args.self.now.changes c.args.self.now.resources c.agree_with.result c.have_only.result c.in-Introduced.is c.agree_with.ensures c.have_only.ensures entries known.of_changes known.of_resources in (
      λ (only : IsTrue c.have_only.result). both.0 (c.if-agree_with.true, only),
      λ (every : All (KeepKindsApart c.args.entry.now) entries). (both.1 every).1,
    )
