-- One word after the other.
use Rattle.std.proofs.Common.{[], sym, ◌∙◌, arith}
use Rattle.words.proofs.SettingLemmas.{joined_next, waits_next, apart_next}
use Rattle.words.proofs.settings.read_settings.Goals as goal

pub loop-word-preserved-in_default-joined : goal.loop-word-preserved-in_default-joined
loop-word-preserved-in_default-joined c =
    waits_next c.args.words.now c.loop-word.settings.items c.loop-word.waiting c.loop-word.word-index _ (omega arith) c.loop-word.invariant c.in_default.is (c.in_default-joined.ensures.none)

pub loop-word-preserved-in_default : goal.loop-word-preserved-in_default
loop-word-preserved-in_default c =
    let stands = joined_next c.args.words.now c.loop-word.settings.items c.loop-word.waiting c.loop-word.word-index (record { ref_ptr = (0, 0); now = [] }) (omega arith) c.loop-word.invariant
    c.in-Some-joined.setting c.in_default.is c.in-Some-joined.ensures.some.0 c.in-Some-joined.ensures.some.1 in
    rw (c.in-Ok.ensures.items, c.in_default.is) stands

pub loop-word-preserved : goal.loop-word-preserved
loop-word-preserved c =
    let stands = apart_next c.args.words.now c.loop-word.settings.items c.loop-word.waiting c.loop-word.word-index (record { ref_ptr = (0, 0); now = [] }) (omega arith) c.loop-word.invariant
    c.in-Some.name c.in-Some.is (sym c.begins_with_dash.ensures ∙ c.if-begins_with_dash.false) in
    rw c.in-Ok-push.ensures.items stands
