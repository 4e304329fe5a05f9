use Rattle.std.proofs.Common.{◌≡◌, ◌++◌, take, string_bytes, codes}
use Rattle.std.specs.List.{flat_map}
use Rattle.history_toml.proofs.words.with_inner.Given as goal

-- the text, and the names so far
abbrev pub invariant-loop-name : goal.invariant-loop-name
invariant-loop-name l = string_bytes l.text ≡ string_bytes l.fn.front ++ flat_map (λ name. codes "." ++ name) (take l.name-index l.names)
