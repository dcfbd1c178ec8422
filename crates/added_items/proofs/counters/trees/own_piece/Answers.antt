use Rattle.std.proofs.Common.{sym, subst}
use Rattle.branch_tree.specs.Tree.{seen_piece}
use Rattle.added_items.specs.counters.Anew.{NamesNoCell}
use Rattle.added_items.proofs.counters_lemmas.AnewRows.{piece-own}
use Rattle.added_items.proofs.counters.trees.own_piece.Goals as goal

pub returns-then-is_own_stmt : goal.returns-then-is_own_stmt
returns-then-is_own_stmt c =
    subst (λ p. NamesNoCell (seen_piece p)) (sym c.in-Own.is)
    (piece-own c.in-Own.stmt (c.is_own_stmt.ensures c.if-is_own_stmt.true))
