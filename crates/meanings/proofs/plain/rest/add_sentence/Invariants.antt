use Rattle.std.proofs.Common.{◌≡◌, ◌++◌, map, drop}
use Rattle.meanings.specs.declared.plain.state.Item.TheVariants.{Stmt}
use Rattle.meanings.proofs.plain.rest.add_sentence.Given as goal

abbrev pub invariant-loop-stmt : goal.invariant-loop-stmt
invariant-loop-stmt l = l.rest ++ map Stmt (drop l.stmt-index l.stmt-items) ≡ l.fn.rest ++ map Stmt l.stmt-items
