-- The names of the members of a history document.
use Rattle.std.specs.Prelude.{ℕ, List, codes}
use Rattle.history_reader.specs.declared.member.Member.{Member}
use Rattle.history_reader.specs.declared.member.Member.TheVariants.{First, Last, Gate, Api, Field, Spell, Name, Since, Removed, Stage, Default, Locked, Group, Version, Resource, Event, Kind, Singular, Namespaced, Enabled, Removal, Replacement, Id, FieldType, Required, Path, Form}

abbrev pub member_name : Member → List ℕ
member_name First = codes "first"
member_name Last = codes "last"
member_name Gate = codes "gate"
member_name Api = codes "api"
member_name Field = codes "field"
member_name Spell = codes "spell"
member_name Name = codes "name"
member_name Since = codes "since"
member_name Removed = codes "removed"
member_name Stage = codes "stage"
member_name Default = codes "default"
member_name Locked = codes "locked"
member_name Group = codes "group"
member_name Version = codes "version"
member_name Resource = codes "resource"
member_name Event = codes "event"
member_name Kind = codes "kind"
member_name Singular = codes "singular"
member_name Namespaced = codes "namespaced"
member_name Enabled = codes "enabled"
member_name Removal = codes "removal"
member_name Replacement = codes "replacement"
member_name Id = codes "id"
member_name FieldType = codes "type"
member_name Required = codes "required"
member_name Path = codes "path"
member_name Form = codes "form"
