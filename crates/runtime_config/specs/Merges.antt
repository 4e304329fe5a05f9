-- How the standings of keys grow by an entry.
use Rattle.std.specs.Prelude.{ℕ, ◌≡◌, ◌||◌, List, nat_le, Option, Some, None, if◌then◌else◌, cond, string_bytes}
use Rattle.std.specs.Ordering.{nat_cmp}
use Rattle.std.specs.Str.{bytes_eq}
use Rattle.std.specs.Cmp.Lexicographic.{slice_cmp}
use Rattle.std.specs.BTreeMap.{BTreeMap, get}
use Rattle.lifecycle.specs.Entry.{subject}
use Rattle.lifecycle.specs.Tables.{is_introduction, live}
use Rattle.lifecycle.specs.declared.entry.ApiEntry.{ApiEntry}
use Rattle.runtime_config.specs.declared.keys.Row.{Row}
use Rattle.runtime_config.specs.declared.standing.Standing.{Standing}
use Rattle.runtime_config.specs.declared.standing.Standing.TheVariants.{Later, Gone, Live}

abbrev pub better : Standing → Standing → Standing
better Live s = Live
better Gone Live = Live
better Gone Gone = Gone
better Gone Later = Gone
better Later s = s

abbrev pub merged : Option Standing → Standing → Standing
merged None own = own
merged (Some s) own = better s own

-- what the entry says of its version
abbrev pub own_standing : List ApiEntry → ℕ → ApiEntry → Standing
own_standing tables e x =
    (if nat_le x.since e then
    (if live tables (subject x) then Live else
    (if is_introduction x.change then Gone else Later)) else
    Later)

-- the standing of this key is raised, and nothing else changes
abbrev pub Raises :
    BTreeMap (List ℕ) Standing → BTreeMap (List ℕ) Standing → List ℕ → Standing → Type 0
Raises m n key own =
    (q : List ℕ) → get (slice_cmp nat_cmp) n q ≡
    cond (bytes_eq q key) (Some (merged (get (slice_cmp nat_cmp) m q) own))
    (get (slice_cmp nat_cmp) m q)

-- the same for the two keys of the row
abbrev pub TakesIn :
    BTreeMap (List ℕ) Standing → BTreeMap (List ℕ) Standing → Row → Standing → Type 0
TakesIn m n row own =
    (q : List ℕ) → get (slice_cmp nat_cmp) n q ≡
    cond (bytes_eq q (string_bytes row.version) || bytes_eq q (string_bytes row.resource))
    (Some (merged (get (slice_cmp nat_cmp) m q) own)) (get (slice_cmp nat_cmp) m q)
