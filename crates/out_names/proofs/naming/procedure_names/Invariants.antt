use Rattle.std.proofs.Common.{◌≡◌, ◌++◌, [], take, drop}
use Rattle.out_names.specs.Naming.{names_behind}
use Rattle.out_names.proofs.FreshLemmas.{IsBehind}
use Rattle.out_names.proofs.naming.procedure_names.Given as goal

abbrev pub invariant-loop-at : goal.invariant-loop-at
invariant-loop-at l =
    (l.names ++ names_behind l.words l.paragraphs (take l.at l.ranges) l.from (drop l.at l.ranges) ≡ names_behind l.words l.paragraphs [] 1 l.ranges)
    × IsBehind l.words l.at l.from
