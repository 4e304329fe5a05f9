-- What an index answers of a field, a version and a spelling.
use Rattle.std.specs.Prelude.{◌≡◌, max, Any}
use Rattle.fields.specs.declared.field.Field.{Field}
use Rattle.fields.specs.declared.field.Spell.{Spell}
use Rattle.lifecycle.specs.Entry.{subject, IsIntroduction}
use Rattle.lifecycle.specs.declared.entry.ApiEntry.{ApiEntry}
use Rattle.schemas.specs.ApiRules.{name_of, IsForgotten}
use Rattle.schemas.specs.Pairs.{IsOfVersion}
use Rattle.schemas.specs.Dated.{Dated}

-- where x introduces a version of the field's resource, the field is spelled in it, or the version
-- is forgotten when the field begins
abbrev pub IsSpelledIn : Dated → Field → ApiEntry → Type 0
IsSpelledIn h f x =
    IsIntroduction x.change → ¬ IsForgotten h.apis (subject x) f.since
    → Any (λ s. IsOfVersion (subject x) s × (s.field ≡ f.id)) h.spells

-- where s spells the field, it is that of a pair with its version, and dated as it must be
pub record PairsWith (h : Dated) (f : Field) (s : Spell) : Type 0 where
  pub kept : ¬ IsForgotten h.apis (name_of s.group s.version s.resource) f.since
  pub introduced : Any (λ x.
      IsOfVersion (subject x) s × IsIntroduction x.change × (s.since ≡ max f.since x.since)) h.apis
