use Rattle.std.proofs.lemmas.List.Elements.{recursion_from_All}
use Rattle.release_view.specs.Kept.{IsSpelled}
use Rattle.discovery.proofs.StableLemmas.{stable, names_rise}
use Rattle.discovery.proofs.law.lists_are_in_order.Goals as goal

pub returns : goal.returns
returns c =
    let versions = c.args.view.now.versions in
    let kept = c.view_is_kept.ensures in
    let spelled = recursion_from_All IsSpelled versions kept.spelled in
    record {
      versions = λ group. stable group versions kept.order spelled;
      resources = λ group version. names_rise group version versions kept.order spelled;
    }
