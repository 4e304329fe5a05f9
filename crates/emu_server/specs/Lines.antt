-- The lines of no words, of a failed read and of a refused history.
use Rattle.std.specs.Prelude.{ℕ, List, ◌++◌, codes, decimal}
use Rattle.schemas.specs.Arrays.{array_name}
use Rattle.schemas.specs.declared.array.Array.{Array}
use Rattle.history_reader.specs.declared.read.HistoryFault.{HistoryFault}
use Rattle.history_reader.specs.declared.read.HistoryFault.TheVariants as fault

abbrev pub usage_line : List ℕ
usage_line = codes "usage: kube_emu <command> [options]\n"

abbrev pub read_fault_line : List ℕ
read_fault_line = codes "read fault\n"

-- a member of a history document isn't as it must be
abbrev pub entry_line : Array → ℕ → List ℕ → List ℕ
entry_line array index name =
    codes "history: entry " ++ (array_name array
    ++ (codes " " ++ (decimal index ++ (codes " member " ++ (name ++ codes "\n")))))

-- why bytes are no history document
abbrev pub reading_line : HistoryFault → List ℕ
reading_line fault.Memory = codes ""
reading_line fault.TooLong = codes "history: too long\n"
reading_line fault.NotToml = codes "history: not TOML\n"
reading_line (fault.BadEntry array index name) = entry_line array index name

-- a history breaks a rule at an entry
abbrev pub rule_line : ℕ → Array → ℕ → List ℕ
rule_line rule array number =
    codes "history: rule HR" ++ (decimal rule
    ++ (codes " at " ++ (array_name array ++ (codes " " ++ (decimal number ++ codes "\n")))))
