use Rattle.std.proofs.Common.{sym, subst}
use Rattle.fields.specs.Map.{IsMap}
use Rattle.conversion.specs.Code.{AreNamed}
use Rattle.conversion.proofs.FitLemmas.{only_named, named_only}
use Rattle.conversion.proofs.fitting.are_of.Goals as goal

pub returns-then-rows_fit : goal.returns-then-rows_fit
returns-then-rows_fit c = (
  λ named. record {
    map = subst IsMap c.pairs.ensures.value c.pairs.ensures.map;
    each = c.rows_fit.ensures.0 c.if-rows_fit.true;
    only = only_named c.args.rows.now c.args.fields.now (subst (AreNamed c.args.rows.now) c.pairs.ensures.value (c.are_named.ensures.0 named));
  },
  λ h. c.are_named.ensures.1 (subst (AreNamed c.args.rows.now) (sym c.pairs.ensures.value) (named_only c.args.rows.now c.args.fields.now h.only)),
)
