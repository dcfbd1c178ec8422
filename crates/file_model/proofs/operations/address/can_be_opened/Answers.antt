use Rattle.file_model.proofs.operations_lemmas.NameLemmas.{opened_name}
use Rattle.file_model.proofs.operations.address.can_be_opened.Goals as goal

pub returns : goal.returns
returns c = opened_name c.args.name.now c.begins_name-begins.result c.are_name_bytes-named.result c.is_short-short.result c.all_three.result c.if-name-eq0.false c.begins_name-begins.ensures c.are_name_bytes-named.ensures c.is_short-short.ensures c.all_three.ensures
