use Rattle.std.proofs.Common.{◌≡◌, Some, subst}
use Rattle.std.proofs.lemmas.List.{take_more}
use Rattle.std.specs.BTreeSet.{insert_key}
use Rattle.lifecycle.specs.Entry.{subject}
use Rattle.release_view.specs.Known.{by_place}
use Rattle.release_view.specs.Parts.{IsVersionOf}
use Rattle.release_view.proofs.GatherLemmas.{gathered_same, gathered_more}
use Rattle.release_view.proofs.build.gathered.Goals as goal

pub known_version-requires : goal.known_version-requires
known_version-requires c = rw c.entry-item.is (c.requires c.loop-entry.entry-index c.entry-item.result c.loop-entry-test.true)

pub loop-entry-preserved-in-Ok-None : goal.loop-entry-preserved-in-Ok-None
loop-entry-preserved-in-Ok-None c =
    rw (take_more c.args.entries.now c.loop-entry.entry-index c.entry-item.result c.loop-entry-test.true, ← c.entry-item.is)
    (gathered_same (record { apis = c.args.index.now; source = c.args.rows.now }) c.args.on.now _ c.entry-item.result _ (subst (IsVersionOf (record { apis = c.args.index.now; source = c.args.rows.now }) c.args.on.now (subject c.entry-item.result)) c.in-Ok-None.field-0-is c.in-Ok-None.ensures) c.loop-entry.invariant)

pub loop-entry-preserved : goal.loop-entry-preserved
loop-entry-preserved c =
    let keys : c.insert.new.self.keys ≡ insert_key by_place c.loop-entry.versions.keys c.in-Ok-Some.version = c.in_ok-insert.ensures.keys in
    let known : IsVersionOf (record { apis = c.args.index.now; source = c.args.rows.now }) c.args.on.now (subject c.entry-item.result) (Some c.in-Ok-Some.version) = subst (IsVersionOf (record { apis = c.args.index.now; source = c.args.rows.now }) c.args.on.now (subject c.entry-item.result)) c.in-Ok-Some.field-0-is c.in-Ok-Some.ensures in
    rw (take_more c.args.entries.now c.loop-entry.entry-index c.entry-item.result c.loop-entry-test.true, ← c.entry-item.is, keys)
    (gathered_more (record { apis = c.args.index.now; source = c.args.rows.now }) c.args.on.now _ c.entry-item.result _ c.in-Ok-Some.version known.0 known.1 c.loop-entry.invariant
    (rw (← keys) c.in_ok-insert.ensures.ordered))
