use Rattle.std.proofs.Common.{sym, ◌∙◌}
use Rattle.std.proofs.lemmas.Slice.Eq.{bytes_eq-Decides}
use Rattle.cobol_grammar.proofs.WordLemmas.{no_word, the_word}
use Rattle.cobol_read.proofs.operand_uses.procedure.word_of.Goals as goal

pub returns-in-None : goal.returns-in-None
returns-in-None c = no_word c.args.name.now c.new.result c.new.ensures.whole c.in-None.is

pub returns-then-is_spelled : goal.returns-then-is_spelled
returns-then-is_spelled c =
    the_word c.args.name.now c.in-Some.word c.new.result c.new.ensures.whole c.in-Some.is c.in-Some.ensures.value
    ((bytes_eq-Decides c.in-Some.word c.args.name.now).0 (sym c.is_spelled.ensures ∙ c.if-is_spelled.true))
