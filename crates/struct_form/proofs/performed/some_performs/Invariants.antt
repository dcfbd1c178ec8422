use Rattle.std.proofs.Common.{◌≡◌, drop}
use Rattle.struct_form.specs.Performed.{some_performs}
use Rattle.struct_form.proofs.performed.some_performs.Given as goal

abbrev pub invariant-loop-paragraph : goal.invariant-loop-paragraph
invariant-loop-paragraph l = some_performs l.number (drop l.paragraph-index l.paragraphs) ≡ some_performs l.number l.paragraphs
