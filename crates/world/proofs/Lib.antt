-- RuleLemmas: lawful events, with a piece taken in parts, and with fewer.
-- GrowthLemmas: what only grows while a front is called.
-- StepLemmas: what a buffer takes at a place of a script.
-- TapeLemmas: a tape before and after a call.
-- ScriptLemmas: the events of a lawful script are lawful.
mod RuleLemmas
mod GrowthLemmas
mod StepLemmas
mod TapeLemmas
mod ScriptLemmas
