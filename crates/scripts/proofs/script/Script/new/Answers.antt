use Rattle.std.proofs.Common.{sym, subst, List, arith, ap}
use Rattle.scripts.specs.Lawful.{IsLawful}
use Rattle.scripts.specs.Weights.{weight_of_all}
use Rattle.scripts.specs.declared.script.ScriptEvent.{ScriptEvent}
use Rattle.scripts.proofs.LawfulLemmas.{lawful_nothing}
use Rattle.scripts.proofs.script.Script.new.Goals as goal

pub invariant_of-result : goal.invariant_of-result
invariant_of-result c = record {
  lawful = subst (λ (es : List ScriptEvent). IsLawful es) (sym c.new.ensures) lawful_nothing;
  weighed = ap weight_of_all (sym c.new.ensures);
  room = omega arith;
  fresh = cc;
}
