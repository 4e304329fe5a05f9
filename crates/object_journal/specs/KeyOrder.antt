-- The order of keys.
use Rattle.std.specs.Prelude.{◌&&◌, Bool}
use Rattle.std.specs.Str.{bytes_eq}
use Rattle.std.specs.declared.cmp.Ordering.{Ordering}
use Rattle.std.specs.Ordering.{nat_cmp, on, then_cmp}
use Rattle.std.specs.Cmp.Lexicographic.{slice_cmp}
use Rattle.object_journal.specs.declared.key.Key.{Key}

-- two keys agree in each field
abbrev pub is_same_key : Key → Key → Bool
is_same_key a b = bytes_eq a.group b.group && bytes_eq a.resource b.resource && bytes_eq a.namespace b.namespace && bytes_eq a.name b.name

-- by group, then resource, then namespace, then name, each in order of bytes
abbrev pub by_key : Key → Key → Ordering
by_key = then_cmp
    (then_cmp
    (then_cmp (on (λ k. k.group) (slice_cmp nat_cmp)) (on (λ k. k.resource) (slice_cmp nat_cmp)))
    (on (λ k. k.namespace) (slice_cmp nat_cmp)))
    (on (λ k. k.name) (slice_cmp nat_cmp))
