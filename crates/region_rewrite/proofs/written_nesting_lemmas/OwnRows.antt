-- An arm of a statement of the program.
use Rattle.std.proofs.Common.{◌≡◌, ◌≤◌, suc, List, [], ◌∷◌, length, refl, arith}
use Rattle.cob_tree.specs.declared.stmt.Stmt.{Stmt}
use Rattle.region_rewrite.specs.written_nesting.Own.{stmts_own, later_own}

-- where there is a statement in it
pub later_some : (stmts : List Stmt) → 1 ≤ length stmts → later_own stmts ≡ suc (stmts_own stmts)
later_some [] h = let no : ⊥ = omega (arith, h) in absurd no
later_some (stmt ∷ stmts) h = refl
