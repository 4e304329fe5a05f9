use Rattle.std.proofs.Common.{List, IsTrue}
use Rattle.lifecycle.specs.declared.entry.ApiEntry.{ApiEntry}
use Rattle.schemas.specs.ApiRules.{NamesItsKind}
use Rattle.history_rules.specs.KindsFields.{AreKindsOf}
use Rattle.history_rules.proofs.api_rules.names_its_kind.Goals as goal

pub returns-then-has_lawful_name : goal.returns-then-has_lawful_name
returns-then-has_lawful_name c = λ (earlier : List ApiEntry) (known : AreKindsOf earlier c.args.kinds.now). (
  λ (apart : IsTrue c.are_apart_from.result). (c.has_lawful_name.ensures.0 c.if-has_lawful_name.true, (c.are_apart_from.ensures earlier known).0 apart),
  λ (named : NamesItsKind earlier c.args.entry.now). (c.are_apart_from.ensures earlier known).1 named.1,
)
