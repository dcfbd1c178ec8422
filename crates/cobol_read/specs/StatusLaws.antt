-- The form of status items is lawful.
use Rattle.std.proofs.Common.{true, List}
use Rattle.cob_tree.specs.declared.entry.Entry.{Entry}
use Rattle.parser_combinators.proofs.MakerLaws.{Law, pure, note, ◌>>=◌, ◌>>◌}
use Rattle.symbol_tables.specs.data_names.Names.{Names}
use Rattle.cobol_grammar.proofs.expr_forms_lemmas.ExpressionLaws.{data_reference}
use Rattle.cobol_read.specs.Status as statuses

-- the form of a reference to a status item is lawful
pub status : (names : Names) (entries : List Entry) → Law true (statuses.status names entries)
unfolding statuses.status
status names entries = data_reference names >>= (λ side. note >> pure)
