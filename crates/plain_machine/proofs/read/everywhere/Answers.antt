use Rattle.std.proofs.Common.{None}
use Rattle.object_pages.proofs.FittingLemmas.{listed_fit}
use Rattle.request_target.specs.Targets.{resource_seen}
use Rattle.plain_machine.proofs.read.everywhere.Goals as goal

pub list_page-requires : goal.list_page-requires
list_page-requires c =
    let fit = listed_fit c.args.view.now.versions c.args.state.now.state.objects c.requires.fits (resource_seen c.args.of) c.requires.known None in
    rw (c.of_resource-objects.ensures, c.bytes-group.ensures, c.bytes-resource.ensures) fit
