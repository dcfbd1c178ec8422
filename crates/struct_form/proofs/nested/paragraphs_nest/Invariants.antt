use Rattle.std.proofs.Common.{◌≡◌, drop}
use Rattle.struct_form.specs.Nested.{paragraphs_nest}
use Rattle.struct_form.proofs.nested.paragraphs_nest.Given as goal

abbrev pub invariant-loop-here : goal.invariant-loop-here
invariant-loop-here l = paragraphs_nest l.count l.here (drop l.here l.paragraphs) ≡ paragraphs_nest l.count 0 l.paragraphs
