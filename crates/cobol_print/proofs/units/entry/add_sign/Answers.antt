use Rattle.cobol_print.proofs.units.entry.add_sign.Goals as goal

pub returns-in-SeparateLeading : goal.returns-in-SeparateLeading
returns-in-SeparateLeading c = rw c.in-SeparateLeading.is c.add_words.ensures
