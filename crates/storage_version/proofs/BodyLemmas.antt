-- What a body is made of, and why one has no fields.
use Rattle.std.proofs.Common.{◌≡◌, inl, ℕ, false, List, Option, Some, None, Result, Ok, Err, refl, sym, ◌∙◌, ap, subst}
use Rattle.std.specs.Prelude.{IfOk, IfErr, IsSome, option_copied}
use Rattle.std.specs.Str.{IsUtf8}
use Rattle.conversion.specs.Reading.{Reads, IsFirstFault}
use Rattle.conversion.specs.Laws.{IsFaultlessWhereRead}
use Rattle.conversion.specs.Trees.{Names}
use Rattle.conversion.specs.Whole.{IsTextOf, IsWhole}
use Rattle.conversion.specs.declared.fault.ReadCause.{ReadCause}
use Rattle.conversion.specs.declared.mode.Mode.TheVariants.{Stored}
use Rattle.fields.specs.declared.map.FieldPair.{FieldPair}
use Rattle.fields.specs.declared.table.VersionTable.{VersionTable}
use Rattle.lifecycle.specs.Names.{group_version}
use Rattle.release_view.specs.declared.known.KnownVersion.{KnownVersion}
use Rattle.serde_json.specs.Data.{Data}
use Rattle.serde_json.specs.Read.{read}
use Rattle.serde_json.specs.Written.{compact_text}
use Rattle.storage_version.specs.Bodies.{IsBodyOf, IsNamed, IsObjectRead, IsBodyRead, IsVersionTold, IsObjectFault, IsDecodeFault, IsFaultOf}
use Rattle.storage_version.specs.declared.fault.DecodeFault.{DecodeFault}
use Rattle.storage_version.specs.declared.fault.DecodeFault.TheVariants.{Undecodable, Memory}
use Rattle.storage_version.proofs.ReadLemmas.{one_named, one_tree}

-- ---- what is stored

pub body_made : (table : VersionTable) (version : List ℕ) (held : List FieldPair) (tree : Data) (body : List ℕ) → version ≡ group_version table.group table.version → IsWhole table version held None tree
    → body ≡ compact_text tree → IsUtf8 body → read body ≡ Some tree → IsBodyOf table held body
body_made table version held tree body is whole compact utf8 reads = record {
  tree = tree;
  whole = subst (λ v. IsWhole table v held None tree) is whole;
  compact = compact;
  text = record { utf8 = utf8; read = reads; object = (whole.members, whole.object) };
}

pub ok_is : {T E : Type 0} (P : T → Type 0) (r : Result T E) (x : T) → IfOk r (λ y. y ≡ x) → P x → IfOk r P
ok_is P (Ok y) x is p = subst P (sym is) p
ok_is P (Err e) x is p = tt

-- ---- what isn't read

module _ (versions : List KnownVersion) (group resource : List ℕ) where
  pub object_fault : (tree : Data) (told : List ℕ) (fault : DecodeFault) → IsFaultOf told fault → IsVersionTold tree told → ((held : List FieldPair) → IsObjectRead versions group resource tree held → ⊥) → IsObjectFault versions group resource tree fault
  object_fault tree told (Undecodable version) is tells none = (none, subst (IsVersionTold tree) (sym is) tells)
  object_fault tree told Memory is tells none = tt

  pub nothing_named : (tree : Data) → ((t : VersionTable) → IsNamed versions group resource tree t → ⊥) → (held : List FieldPair) → IsObjectRead versions group resource tree held → ⊥
  nothing_named tree none held read = none read.table read.named

  pub nothing_read : (tree : Data) (table : VersionTable) (path : Names) (cause : ReadCause) → IsNamed versions group resource tree table → IsFaultlessWhereRead Stored table.rows tree → IsFirstFault Stored table.rows tree path cause
      → (held : List FieldPair) → IsObjectRead versions group resource tree held → ⊥
  nothing_read tree table path cause named faultless fault held read =
      let same = one_named versions group resource tree read.table table read.named named in
      faultless held path cause (subst (λ (t : VersionTable). Reads Stored t.rows tree held) same read.reads) fault

  pub body_fault : {T : Type 0} (body : List ℕ) (tree : Data) (r : Result T DecodeFault) → IsTextOf body tree → IfErr r (IsObjectFault versions group resource tree) → IfErr r (IsDecodeFault versions group resource body)
  body_fault body tree (Ok x) text h = tt
  body_fault body tree (Err (Undecodable version)) text h = (
    λ readable. h.0 readable.0 (subst (λ (d : Data). IsObjectRead versions group resource d readable.0) (one_tree body readable.1.tree tree readable.1.text text) readable.1.object),
    inl (tree, text, h.1),
  )
  body_fault body tree (Err Memory) text h = tt
