use Rattle.std.proofs.Common.{append_assoc}
use Rattle.history_toml.proofs.apis.put_introduction.Goals as goal

pub returns : goal.returns
returns c = rw (c.in_ok-put_text-3.ensures, c.in_ok-put_text-2.ensures, c.in_ok-put_text.ensures, c.as_str-2.ensures, c.as_str.ensures) (simp append_assoc)
