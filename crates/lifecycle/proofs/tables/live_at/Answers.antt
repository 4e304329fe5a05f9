use Rattle.std.proofs.Common.{◌≡◌, ◌↔◌, ℕ, Bool, List, IsTrue, sym, ◌∙◌}
use Rattle.lifecycle.specs.Entry.{named, GroupVersionResource, IsLive}
use Rattle.lifecycle.specs.Tables.{cutoff, live, is_introduction, is_removal}
use Rattle.lifecycle.specs.declared.entry.ApiEntry.{ApiEntry}
use Rattle.lifecycle.proofs.TableLemmas.{kept_then, kept_else, live_dated}
use Rattle.lifecycle.proofs.tables.live_at.Goals as goal

dated : (entries : List ApiEntry) (name : GroupVersionResource) (e : ℕ) (r : Bool) → r ≡ live (cutoff entries e) name → IsTrue r ↔ IsLive entries name e
dated entries name e r is = ((λ h. (live_dated entries name e).0 (sym is ∙ h)), (λ h. is ∙ (live_dated entries name e).1 h))

pub returns-then-is_introduced-clause-tables : goal.returns-then-is_introduced-clause-tables
returns-then-is_introduced-clause-tables c = kept_then is_introduction is_removal c.args.entries.now c.args.e (named c.args.name) c.is_introduced.result c.is_removed.result c.is_introduced.ensures c.is_removed.ensures c.if-is_introduced.true

pub returns-then-is_introduced-clause-dated : goal.returns-then-is_introduced-clause-dated
returns-then-is_introduced-clause-dated c =
    dated c.args.entries.now (named c.args.name) c.args.e _
    (kept_then is_introduction is_removal c.args.entries.now c.args.e (named c.args.name) c.is_introduced.result c.is_removed.result c.is_introduced.ensures c.is_removed.ensures c.if-is_introduced.true)

pub returns-else-is_introduced-clause-tables : goal.returns-else-is_introduced-clause-tables
returns-else-is_introduced-clause-tables c = kept_else is_introduction is_removal c.args.entries.now c.args.e (named c.args.name) c.is_introduced.result c.is_introduced.ensures c.if-is_introduced.false

pub returns-else-is_introduced-clause-dated : goal.returns-else-is_introduced-clause-dated
returns-else-is_introduced-clause-dated c =
    dated c.args.entries.now (named c.args.name) c.args.e _
    (kept_else is_introduction is_removal c.args.entries.now c.args.e (named c.args.name) c.is_introduced.result c.is_introduced.ensures c.if-is_introduced.false)
