use Rattle.std.proofs.Common.{◌≡◌, ℕ, ◌≤◌, ◌++◌, List, map, take, length, get_or}
use Rattle.cob_tree.specs.declared.stmt.Stmt.{Stmt}
use Rattle.control_flow_theory.specs.language.Control.{seen_stmts, seen_when}
use Rattle.statement_builders.specs.item_words.Lists.{branches_of}
use Rattle.statement_builders.proofs.item_words.whens.add_whens.Given as goal

abbrev pub invariant-loop-at : goal.invariant-loop-at
invariant-loop-at l = record {
  same :
      map (seen_when 0) l.whens
      ≡ map (seen_when 0) l.fn.whens ++ take l.at (branches_of l.tests (map (seen_stmts 0) l.fn.arms));
  many : length l.arms ≡ length l.fn.arms;
  unvisited : (k : ℕ) (d : List Stmt) → l.at ≤ k → get_or l.arms k d ≡ get_or l.fn.arms k d;
}
