use Rattle.std.proofs.Common.{◌≡◌, ◌+◌, ◌-◌, ◌++◌}
use Rattle.program_gen.specs.Generated.{performs_of}
use Rattle.program_gen.proofs.main_paragraph.performs_of.Given as goal

abbrev pub invariant-loop-group : goal.invariant-loop-group
invariant-loop-group l = l.sentences ++ performs_of (l.n + 1 - l.group) l.group ≡ performs_of l.n 1
