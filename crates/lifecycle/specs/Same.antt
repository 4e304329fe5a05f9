-- Two lists of changes that say the same of each version.
use Rattle.std.specs.Prelude.{◌≡◌, ℕ, Bool, true, List, Option, Some, None, option_and_then}
use Rattle.lifecycle.specs.Entry.{GroupVersionResource}
use Rattle.lifecycle.specs.Tables.{is_introduction, first_change, live, decodable, warning}
use Rattle.lifecycle.specs.declared.entry.ApiEntry.{ApiEntry}
use Rattle.lifecycle.specs.declared.entry.ApiChange.{ApiChange}
use Rattle.lifecycle.specs.declared.entry.ApiChange.TheVariants.{Introduced}

-- what an introduction says of a version
pub record Introduction : Type 0 where
  pub kind : List ℕ
  pub singular : List ℕ
  pub namespaced : Bool
  pub enabled : Bool

abbrev pub introduction_of : ApiChange → Option Introduction
introduction_of (Introduced kind singular namespaced enabled) =
    Some (record { kind = kind; singular = singular; namespaced = namespaced; enabled = enabled })
introduction_of _ = None

-- what the first introduction of the version in the tables says of it
abbrev pub introduced_as : List ApiEntry → GroupVersionResource → Option Introduction
introduced_as tables name =
    option_and_then (λ x. introduction_of x.change) (first_change is_introduction tables name)

-- each version is live in both tables or in neither, and decodable in both or in neither, with the
-- same warning, and where it is either of these introduced in the same way
pub record AreSameVersions (xs ys : List ApiEntry) : Type 0 where
  pub live_as : (name : GroupVersionResource) → live xs name ≡ true →
      introduced_as xs name ≡ introduced_as ys name
  pub decodable_as : (name : GroupVersionResource) → decodable xs name ≡ true →
      introduced_as xs name ≡ introduced_as ys name
  pub live : (name : GroupVersionResource) → live xs name ≡ live ys name
  pub decodable : (name : GroupVersionResource) → decodable xs name ≡ decodable ys name
  pub warning : (name : GroupVersionResource) → warning xs name ≡ warning ys name
