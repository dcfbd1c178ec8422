use Rattle.cobol_print.proofs.units.entry.add_redefines.Goals as goal

pub returns-in-Some : goal.returns-in-Some
returns-in-Some c = rw c.in-Some.is c.add_item.ensures
