-- What the command `convert` is to answer.
use Rattle.std.specs.Prelude.{ℕ, ◌≡◌, ◌≢◌, ◌⊎◌, List, [], ◌∷◌, ◌++◌, codes}
use Rattle.std.specs.declared.option.Option.{Option}
use Rattle.conversion.specs.Paths.{fault_text}
use Rattle.object_convert.specs.Convert.{Converts, IsConvertFault}
use Rattle.object_convert.specs.declared.fault.ConvertFault.{ConvertFault}
use Rattle.object_convert.specs.declared.fault.ConvertFault.TheVariants as fault
use Rattle.release_view.specs.Views.{Viewed, IsDefaultView}
use Rattle.schemas.specs.Dated.{Dated}
use Rattle.serde_json.specs.Data.{Data}
use Rattle.serde_json.specs.Written.{compact_text}
use Rattle.commands.specs.Releases.{AtRelease}
use Rattle.commands.specs.declared.status.Status.{Status}
use Rattle.commands.specs.declared.status.Status.TheVariants as status

-- ---- lines

-- why an object isn't converted
abbrev pub convert_fault_line : ConvertFault → List ℕ
convert_fault_line fault.NotAnObject = codes "object: not a JSON object\n"
convert_fault_line fault.UnknownVersion = codes "object: unknown version\n"
convert_fault_line (fault.Bad path cause) =
    codes "object: " ++ (fault_text path cause ++ codes "\n")
convert_fault_line fault.UnknownTarget = codes "to: unknown version\n"
convert_fault_line fault.Memory = codes ""

-- ---- answers

-- the text is that of the object in the version `to` of its resource, in compact JSON, and one line feed
abbrev pub IsObjectLine : Viewed → List ℕ → List ℕ → List ℕ → Type 0
IsObjectLine view json to text =
    (tree : Data) × Converts view.versions json to tree × (text ≡ compact_text tree ++ 10 ∷ [])

-- the text says why there is no such object
abbrev pub IsObjectRefusal : Viewed → List ℕ → List ℕ → List ℕ → Type 0
IsObjectRefusal view json to text =
    (f : ConvertFault) × (f ≢ fault.Memory) × IsConvertFault view.versions json to f
    × (text ≡ convert_fault_line f)

-- what `convert` is to answer by a view: the object, or why there is none
abbrev pub IsConversionBy : Viewed → List ℕ → List ℕ → Status → List ℕ → Type 0
IsConversionBy view json to s text =
    ((s ≡ status.Ok) × IsObjectLine view json to text)
    ⊎ ((s ≡ status.Flags) × IsObjectRefusal view json to text)

-- what `convert` is to answer for a release
abbrev pub IsConversionAt : Dated → List ℕ → List ℕ → ℕ → Status → List ℕ → Type 0
IsConversionAt h json to e s text =
    (view : Viewed) × IsDefaultView h e view × IsConversionBy view json to s text

-- what `convert` is to answer on an accepted history
abbrev pub IsConversion : Option (List ℕ) → List ℕ → List ℕ → Dated → Status → List ℕ → Type 0
IsConversion emulated object to h = AtRelease emulated h (IsConversionAt h object to)
