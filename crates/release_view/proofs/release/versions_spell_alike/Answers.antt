use Rattle.std.proofs.Common.{ap, subst}
use Rattle.release_view.specs.Spelling.{SpellAlike}
use Rattle.release_view.proofs.release.versions_spell_alike.Goals as goal

pub returns : goal.returns
returns c = subst SpellAlike (ap (λ v. v.versions) c.view.view_is) c.view.invariant.kept.alike
