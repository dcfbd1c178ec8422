use Rattle.std.proofs.Common.{sym, ◌∙◌}
use Rattle.ref_format.proofs.JoiningLemmas.{behind-unmarked}
use Rattle.ref_format.proofs.joining.Literal.in_line.Goals as goal

pub returns-else-has_mark : goal.returns-else-has_mark
returns-else-has_mark c = sym (behind-unmarked c.args.bytes.now (sym c.has_mark.ensures ∙ c.if-has_mark.false))
