use Rattle.std.proofs.Common.{◌∙◌}
use Rattle.history_toml.proofs.TextLemmas.{all_told, all_documents, all_read_back}
use Rattle.history_toml.proofs.write.to_toml.Goals as goal

pub returns-clause-tells : goal.returns-clause-tells
returns-clause-tells c = all_told c.args.h.now _ c.from_str.result c.document_of.ensures.shaped c.as_str.utf8 (c.as_str.ensures.value ∙ c.in_ok-text.ensures.written) c.from_str.ensures

pub returns-clause-document : goal.returns-clause-document
returns-clause-document c = all_documents c.args.h.now c.from_str.result (returns-clause-tells c)

pub returns-clause-read_back : goal.returns-clause-read_back
returns-clause-read_back c = all_read_back c.args.h.now c.from_str.result (returns-clause-tells c)
