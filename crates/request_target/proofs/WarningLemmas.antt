-- A warning, of parts that are equal to its own.
use Rattle.std.proofs.Common.{◌≡◌, ℕ, List, ◌++◌, ◌∙◌}
use Rattle.lifecycle.specs.Names.{group_version}
use Rattle.lifecycle.specs.Tables.{Deprecation}
use Rattle.minor_version.specs.Release.{release_text}
use Rattle.release_view.specs.declared.served.ServedVersion.{ServedVersion}
use Rattle.request_target.specs.Warnings.{deprecated_text, instead_text, warning_line}

pub line_is : (front back version kind since removal other : List ℕ) (s : ServedVersion) (d : Deprecation)
    → front ≡ deprecated_text version kind since → back ≡ instead_text removal other kind
    → version ≡ group_version s.group s.version → kind ≡ s.kind → since ≡ release_text d.since → removal ≡ release_text d.removal → other ≡ group_version s.group d.replacement
    → front ++ back ≡ warning_line s d
line_is front back version kind since removal other s d f b v k n r o =
    let joined : front ++ back ≡ deprecated_text version kind since ++ instead_text removal other kind = λ i. f i ++ b i in
    let parts : deprecated_text version kind since ++ instead_text removal other kind ≡ warning_line s d = λ i. deprecated_text (v i) (k i) (n i) ++ instead_text (r i) (o i) (k i) in
    joined ∙ parts
