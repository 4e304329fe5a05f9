use Rattle.std.proofs.Common.{◌∙◌, sym, arith}
use Rattle.words.proofs.ValueLemmas.{after_none, after_one, after_two}
use Rattle.words.proofs.values.only_value.Goals as goal

pub loop-setting-preserved-in_default : goal.loop-setting-preserved-in_default
loop-setting-preserved-in_default c = after_none c.args.name.now c.args.settings.now c.loop-setting.setting-index _ c.loop-setting.found c.value_for.result (omega arith) c.loop-setting.invariant c.value_for.ensures c.in_default.is

pub loop-setting-preserved : goal.loop-setting-preserved
loop-setting-preserved c =
    after_one c.args.name.now c.args.settings.now c.loop-setting.setting-index _ c.loop-setting.found c.value_for.result (omega arith) c.loop-setting.invariant c.value_for.ensures c.in-Some.value c.in-Some.is (sym c.is_some.ensures ∙ c.if-is_some.false)

pub returns-then-is_some-clause-none : goal.returns-then-is_some-clause-none
returns-then-is_some-clause-none c =
    after_two c.args.name.now c.args.settings.now c.loop-setting.setting-index _ c.loop-setting.found c.value_for.result (omega arith) c.loop-setting.invariant c.value_for.ensures c.in-Some.value c.in-Some.is (sym c.is_some.ensures ∙ c.if-is_some.true)
