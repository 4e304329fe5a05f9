use Rattle.object_pages.proofs.PageLemmas.{one_page}
use Rattle.request_target.specs.Targets.{resource_seen}
use Rattle.object_pages.proofs.law.objects_have_one_page.Goals as goal

pub returns : goal.returns
returns c = one_page (resource_seen c.args.of)
