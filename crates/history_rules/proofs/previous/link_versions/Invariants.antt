use Rattle.std.proofs.Common.{ℕ, ◌≡◌, List, take}
use Rattle.std.specs.Prelude.{◌&&◌}
use Rattle.std.specs.Option.{option_copied}
use Rattle.std.specs.Str.{bytes_eq}
use Rattle.schemas.specs.Places.{last_passing}
use Rattle.schemas.specs.ApiRules.{previous_of_version}
use Rattle.basis.specs.NameMap.{value_at}
use Rattle.history_rules.specs.Previous.{AreLinked}
use Rattle.history_rules.proofs.previous.link_versions.Given as goal

abbrev pub invariant-loop-entry : goal.invariant-loop-entry
invariant-loop-entry l = record {
  latest : (group version resource : List ℕ) → option_copied (value_at l.latest group version resource) ≡ last_passing (λ y. bytes_eq group y.group && bytes_eq version y.version && bytes_eq resource y.resource) (take l.entry-index l.entries);
  links : AreLinked previous_of_version l.entries l.entry-index l.links.items;
}
