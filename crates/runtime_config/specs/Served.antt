-- The versions that a release serves, as contracts see them.
use Rattle.std.specs.Prelude.{◌&&◌, List, Bool}
use Rattle.std.specs.Str.{bytes_eq}
use Rattle.std.specs.declared.cmp.Ordering.{Ordering}
use Rattle.std.specs.Ordering.{nat_cmp, on, then_cmp}
use Rattle.std.specs.Cmp.Lexicographic.{slice_cmp}
use Rattle.std.specs.List.Sorted.{IsStrictlySortedBy}
use Rattle.lifecycle.specs.Entry.{GroupVersionResource}
use Rattle.runtime_config.specs.declared.enabled.ServedName.TheInside.{Inside}

abbrev pub name_of : Inside → GroupVersionResource
name_of n = record { group = n.group; version = n.version; resource = n.resource }

-- two names agree in each part
abbrev pub is_same_name : GroupVersionResource → GroupVersionResource → Bool
is_same_name a b =
    bytes_eq a.group b.group && bytes_eq a.version b.version && bytes_eq a.resource b.resource

-- by group, then version, then resource, each in order of bytes
abbrev pub by_name : GroupVersionResource → GroupVersionResource → Ordering
by_name =
    then_cmp
    (then_cmp (on (λ n. n.group) (slice_cmp nat_cmp)) (on (λ n. n.version) (slice_cmp nat_cmp)))
    (on (λ n. n.resource) (slice_cmp nat_cmp))

-- the names are in order, and none stands twice
abbrev pub AreInOrder : List GroupVersionResource → Type 0
AreInOrder names = IsStrictlySortedBy by_name names
