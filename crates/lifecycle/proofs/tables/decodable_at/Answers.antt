use Rattle.lifecycle.specs.Entry.{named}
use Rattle.lifecycle.specs.Tables.{is_introduction, is_forgetting}
use Rattle.lifecycle.proofs.TableLemmas.{kept_then, kept_else}
use Rattle.lifecycle.proofs.tables.decodable_at.Goals as goal

pub returns-then-is_introduced : goal.returns-then-is_introduced
returns-then-is_introduced c = kept_then is_introduction is_forgetting c.args.entries.now c.args.e (named c.args.name) c.is_introduced.result c.is_forgotten.result c.is_introduced.ensures c.is_forgotten.ensures c.if-is_introduced.true

pub returns-else-is_introduced : goal.returns-else-is_introduced
returns-else-is_introduced c = kept_else is_introduction is_forgetting c.args.entries.now c.args.e (named c.args.name) c.is_introduced.result c.is_introduced.ensures c.if-is_introduced.false
