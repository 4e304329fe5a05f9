use Rattle.std.proofs.Common.{List, ℕ, Option, IfSome, IfNone, sym, ap, subst, ◌∙◌}
use Rattle.lifecycle.specs.declared.entry.ApiEntry.{ApiEntry}
use Rattle.lifecycle.specs.Tables.{cutoff}
use Rattle.runtime_config.specs.Keys.{is_api_key}
use Rattle.runtime_config.specs.Config.{IsRefused, IsTakenKey}
use Rattle.runtime_config.specs.declared.fault.ConfigCause.{ConfigCause}
use Rattle.runtime_config.proofs.RefusalLemmas.{refused_by, taken_by}
use Rattle.runtime_config.proofs.passes.refusal.Goals as goal

pub returns-else-is_api_key-clause-some : goal.returns-else-is_api_key-clause-some
returns-else-is_api_key-clause-some c = λ (entries : List ApiEntry) (e : ℕ) h.
    subst (λ (o : Option ConfigCause). IfSome o (IsRefused entries e c.args.piece.now)) (sym c.cause_of.ensures)
    (refused_by entries e c.args.piece.now c.args.found (ap is_api_key (sym (ap (λ p. p.name) c.piece.view_is)) ∙ sym c.is_api_key.ensures ∙ c.if-is_api_key.false) h)

pub returns-else-is_api_key-clause-none : goal.returns-else-is_api_key-clause-none
returns-else-is_api_key-clause-none c = λ (entries : List ApiEntry) (e : ℕ) h.
    subst (λ (o : Option ConfigCause). IfNone o (IsTakenKey (cutoff entries e) c.args.piece.now.name)) (sym c.cause_of.ensures) (taken_by entries e c.args.piece.now c.args.found h)
