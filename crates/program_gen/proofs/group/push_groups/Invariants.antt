use Rattle.std.proofs.Common.{◌≡◌, ◌+◌, ◌-◌, ◌++◌}
use Rattle.program_gen.specs.Generated.{groups_of}
use Rattle.program_gen.proofs.group.push_groups.Given as goal

abbrev pub invariant-loop-group : goal.invariant-loop-group
invariant-loop-group l = l.paragraphs ++ groups_of (l.n + 1 - l.group) l.group l.x ≡ l.fn.paragraphs ++ groups_of l.n 1 l.n
