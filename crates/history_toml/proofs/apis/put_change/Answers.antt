use Rattle.std.proofs.Common.{append_assoc}
use Rattle.history_toml.proofs.apis.put_change.Goals as goal

pub returns-in_ok-put_boolean-in-Introduced-2 : goal.returns-in_ok-put_boolean-in-Introduced-2
returns-in_ok-put_boolean-in-Introduced-2 c =
    rw (c.in_ok-put_boolean-in-Introduced-2.ensures, c.in_ok-put_boolean-in-Introduced.ensures, c.in_ok-put_introduction-in-Introduced.ensures, c.in-Introduced.is) (simp append_assoc)
