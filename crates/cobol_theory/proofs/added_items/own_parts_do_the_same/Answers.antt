use Rattle.cobol_theory.proofs.added_items_lemmas.Parts.{same}
use Rattle.cobol_theory.proofs.added_items.own_parts_do_the_same.Goals as goal

pub returns : goal.returns
returns c declared added tail memory whole apart long = same declared added tail whole apart memory long
