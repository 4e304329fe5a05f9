use Rattle.history_reader.proofs.demand.text_has_shape.Goals as goal

pub returns-in-GateName : goal.returns-in-GateName
returns-in-GateName c = rw (c.in-GateName.is, ← c.as_bytes-bytes.ensures.value) c.is_gate_name.ensures

pub returns-in-GroupName : goal.returns-in-GroupName
returns-in-GroupName c = rw (c.in-GroupName.is, ← c.as_bytes-bytes.ensures.value) c.is_group.ensures
