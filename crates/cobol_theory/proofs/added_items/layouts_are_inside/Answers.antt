use Rattle.cobol_theory.proofs.added_items_lemmas.Layouts.{inside-of}
use Rattle.cobol_theory.proofs.added_items.layouts_are_inside.Goals as goal

pub returns : goal.returns
returns c = inside-of
