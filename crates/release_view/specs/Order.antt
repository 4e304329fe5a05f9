-- The order of places is total.
use Rattle.std.specs.Cmp.{IsTotalOrder, IsEquivalence, eq_by_cmp_equiv}
use Rattle.std.specs.Cmp.Lexicographic.{on_texts}
use Rattle.std.specs.Ordering.{eq_by_cmp}
use Rattle.std.proofs.lemmas.Cmp.{then_total, on_total, back_total, nat_cmp_total}
use Rattle.lifecycle.specs.Stability.{by_stability, rank_of, number_of}
use Rattle.lifecycle.specs.declared.version.VersionWord.{VersionWord}
use Rattle.release_view.specs.Known.{by_place}
use Rattle.release_view.specs.declared.known.KnownVersion.{KnownVersion}

pub by_stability_total : IsTotalOrder by_stability
by_stability_total =
    then_total (on_total (λ (w : VersionWord). rank_of w.level) nat_cmp_total)
    (then_total (back_total (on_total (λ (w : VersionWord). w.major) nat_cmp_total))
    (back_total (on_total (λ (w : VersionWord). number_of w.level) nat_cmp_total)))

pub by_place_total : IsTotalOrder by_place
by_place_total =
    then_total
    (then_total (on_texts (λ (v : KnownVersion). v.table.group))
    (on_total (λ (v : KnownVersion). v.word) by_stability_total))
    (on_texts (λ (v : KnownVersion). v.table.resource))

pub same_place : IsEquivalence (eq_by_cmp by_place)
same_place = eq_by_cmp_equiv by_place_total
