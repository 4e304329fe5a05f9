use Rattle.std.proofs.Common.{◌≡◌, map, take}
use Rattle.std.specs.Option.{option_copied}
use Rattle.discovery.specs.Groups.{versions_in}
use Rattle.discovery.specs.Lasts.{last_text}
use Rattle.discovery.proofs.groups.versions_in.Given as goal

abbrev pub invariant-loop-version : goal.invariant-loop-version
invariant-loop-version l = (map (λ w. w.now) l.versions.items ≡ versions_in (take l.version-index l.served) l.group) × (option_copied l.last ≡ last_text (versions_in (take l.version-index l.served) l.group))
