use Rattle.std.proofs.Common.{◌≡◌, map, take}
use Rattle.declaration_checks.specs.Base.{span_of}
use Rattle.declaration_checks.proofs.base.ranges_of.Given as goal

abbrev pub invariant-loop-span : goal.invariant-loop-span
invariant-loop-span l = l.ranges ≡ map span_of (take l.span-index l.spans)
