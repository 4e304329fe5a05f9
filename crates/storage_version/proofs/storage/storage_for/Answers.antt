use Rattle.std.proofs.Common.{sym, ◌∙◌, ap, subst}
use Rattle.std.specs.Prelude.{IsSome}
use Rattle.release_view.specs.Views.{table_in}
use Rattle.storage_version.proofs.StorageLemmas.{some_copied}
use Rattle.storage_version.proofs.storage.storage_for.Goals as goal

pub unwrap-requires : goal.unwrap-requires
unwrap-requires c =
    let later = c.later_view_reads_live.ensures c.requires.one.0 c.requires.one.1 in
    let found = later.best c.args.group.now c.args.resource.now c.in-Some.best.now (sym c.in-Some.ensures.value) in
    some_copied c.table.result (subst IsSome (sym (c.table.ensures.value ∙ ap (table_in c.args.view.now.versions) c.name_of.ensures)) found)
