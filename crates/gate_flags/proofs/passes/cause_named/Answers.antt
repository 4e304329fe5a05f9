use Rattle.gate_flags.proofs.passes.cause_named.Goals as goal

pub returns-in-NoValue : goal.returns-in-NoValue
returns-in-NoValue c = λ p h. rw c.in-NoValue.is at h

pub returns-in-NoBoolean : goal.returns-in-NoBoolean
returns-in-NoBoolean c = λ p h. rw c.in-NoBoolean.is at h
