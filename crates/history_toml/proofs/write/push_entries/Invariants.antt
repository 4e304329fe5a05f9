use Rattle.std.proofs.Common.{◌≡◌, ◌++◌, take, map, string_bytes, codes}
use Rattle.std.specs.List.{flat_map}
use Rattle.history_toml.specs.Layout.{row_text}
use Rattle.history_toml.proofs.write.push_entries.Given as goal

-- the text, and the entries so far
abbrev pub invariant-loop-entry : goal.invariant-loop-entry
invariant-loop-entry g l = string_bytes l.text ≡ string_bytes l.fn.text ++ flat_map (λ row. codes " " ++ (row_text row ++ codes ",\n")) (map g.E.Entry.pairs (take l.entry-index l.entries))
