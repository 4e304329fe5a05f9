use Rattle.std.proofs.Common.{◌≡◌, ◌++◌, take, string_bytes, codes}
use Rattle.std.specs.List.{flat_map}
use Rattle.history_toml.specs.Layout.{pair_text}
use Rattle.history_toml.specs.Rows.{pairs_of}
use Rattle.history_toml.proofs.text.push_more.Given as goal

-- the text, and the members so far
abbrev pub invariant-loop-member : goal.invariant-loop-member
invariant-loop-member l = string_bytes l.text ≡ string_bytes l.fn.text ++ flat_map (λ q. codes ", " ++ pair_text q) (pairs_of (take l.member-index l.members))
