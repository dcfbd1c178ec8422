use Rattle.cobol_theory.proofs.named_items_lemmas.Own.{stmt-own}
use Rattle.cobol_theory.proofs.named_items.named_statements_are_own.Goals as goal

pub returns : goal.returns
returns c = stmt-own
