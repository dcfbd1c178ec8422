use Rattle.std.proofs.Common.{◌≡◌, drop}
use Rattle.program_facts.specs.completion.FlowFacts.{is_among}
use Rattle.program_facts.proofs.completion.told.is_among.Given as goal

abbrev pub invariant-loop-other : goal.invariant-loop-other
invariant-loop-other l = is_among l.number (drop l.other-index l.numbers) ≡ is_among l.number l.numbers
