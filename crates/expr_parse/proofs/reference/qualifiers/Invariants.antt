use Rattle.std.proofs.Common.{◌≡◌, length}
use Rattle.parser_combinators.specs.Form.{loop, added}
use Rattle.cobol_grammar.specs.expr_forms.Reference as references
use Rattle.cobol_grammar.specs.expr_forms.Token as tokens
use Rattle.expr_parse.proofs.reference.qualifiers.Given as goal

abbrev pub invariant-words : goal.invariant-words
invariant-words l = references.qualifiers.reads l.fn.cursor
    ≡ (loop tokens.is_of (added references.qualifier) l.found).reads l.cursor

abbrev pub decreases-words : goal.decreases-words
decreases-words l = length l.cursor.rest
