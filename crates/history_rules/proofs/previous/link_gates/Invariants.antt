use Rattle.std.proofs.Common.{ℕ, ◌≡◌, List, [], take}
use Rattle.std.specs.Option.{option_copied}
use Rattle.std.specs.Str.{bytes_eq}
use Rattle.schemas.specs.Places.{last_passing}
use Rattle.schemas.specs.GateRules.{previous_of_gate}
use Rattle.basis.specs.NameMap.{value_at}
use Rattle.history_rules.specs.Previous.{AreLinked}
use Rattle.history_rules.proofs.previous.link_gates.Given as goal

abbrev pub invariant-loop-entry : goal.invariant-loop-entry
invariant-loop-entry l = record {
  latest : (q : List ℕ) → option_copied (value_at l.latest q [] []) ≡ last_passing (λ y. bytes_eq q y.name) (take l.entry-index l.entries);
  links : AreLinked previous_of_gate l.entries l.entry-index l.links.items;
}
