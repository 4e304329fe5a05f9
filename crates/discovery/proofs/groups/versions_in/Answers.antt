use Rattle.std.proofs.Common.{◌≡◌, ◌∷◌, [], ◌++◌, map, sym, ◌∙◌, ap}
use Rattle.std.specs.Option.{option_copied}
use Rattle.std.specs.Str.{bytes_eq}
use Rattle.std.proofs.lemmas.Bool.{not-true}
use Rattle.std.proofs.lemmas.List.{take_more, map-append}
use Rattle.discovery.proofs.PageLemmas.{unnot, versions_other, versions_same, versions_more}
use Rattle.discovery.proofs.groups.versions_in.Goals as goal
use Rattle.discovery.proofs.groups.versions_in.Goals.{then-ne-via-then-ne, then-ne-via-else-ne+then-is_last}

pub loop-version-preserved-then-ne : goal.loop-version-preserved-then-ne
loop-version-preserved-then-ne c =
    rw (take_more c.args.served.now c.loop-version.version-index c.version-item.result c.loop-version-test.true, ← c.version-item.is)
    (elim c.then-ne.branch [
      | then-ne-via-then-ne w ↦ versions_other _ c.version-item.result c.args.group.now _ _ (not-true (bytes_eq c.version-item.result.group c.args.group.now) (sym w.if-ne.ensures)) c.loop-version.invariant
      | then-ne-via-else-ne+then-is_last w ↦
          versions_same _ c.version-item.result c.args.group.now _ _ (unnot (bytes_eq c.version-item.result.group c.args.group.now) w.if-ne.ensures) (sym w.if-is_last.ensures) c.loop-version.invariant
    ])

pub loop-version-preserved : goal.loop-version-preserved
loop-version-preserved c =
    let pushed : map (λ w. w.now) c.push.new.self.items ≡ map (λ w. w.now) c.loop-version.versions.items ++ c.version-item.result.version ∷ [] =
    ap (map (λ w. w.now)) c.in_ok-push.ensures.items ∙ map-append (λ w. w.now) c.loop-version.versions.items _ in
    rw (take_more c.args.served.now c.loop-version.version-index c.version-item.result c.loop-version-test.true, ← c.version-item.is, pushed)
    (versions_more _ c.version-item.result c.args.group.now _ (option_copied c.loop-version.last) (unnot (bytes_eq c.version-item.result.group c.args.group.now) c.if-ne.ensures) (sym c.if-is_last.ensures) c.loop-version.invariant)
