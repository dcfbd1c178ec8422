use Rattle.std.proofs.Common.{◌≡◌, length}
use Rattle.cobol_grammar.specs.expr_forms.Subscript as subscripts
use Rattle.expr_parse.proofs.subscript.more_subs.Given as goal

abbrev pub invariant-subs : goal.invariant-subs
invariant-subs l = (subscripts.more_subs l.fn.names l.fn.first).reads l.fn.cursor
    ≡ (subscripts.more_subs l.fn.names l.subs).reads l.cursor

abbrev pub decreases-subs : goal.decreases-subs
decreases-subs l = length l.cursor.rest
