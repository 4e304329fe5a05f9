use Rattle.scripts.proofs.hex.byte_of.Goals as goal

pub returns-in_default-clause-none : goal.returns-in_default-clause-none
returns-in_default-clause-none c = λ byte h. c.in_default.ensures.none h.0 h.2

pub returns-in_default-digit_value-clause-none : goal.returns-in_default-digit_value-clause-none
returns-in_default-digit_value-clause-none c = λ byte h. c.in_default-digit_value.ensures.none h.1 h.3
