-- How long an entry of the journal is that puts a stored body.
use Rattle.std.specs.Prelude.{◌≤◌, length}
use Rattle.object_journal.specs.declared.key.Key.{Key}

-- a group, a resource and a namespace of at most 63 bytes each, and a name of at most 253
pub record IsShortKey (k : Key) : Type 0 where
  pub group : length k.group ≤ 63
  pub resource : length k.resource ≤ 63
  pub namespace : length k.namespace ≤ 63
  pub name : length k.name ≤ 253
