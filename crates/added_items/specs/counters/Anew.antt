-- Cells that are numbered anew, in what leaves of a loop are, and in a node.
use Rattle.std.specs.Prelude.{ℕ, ◌≡◌}
use Rattle.control_flow_theory.specs.language.Language.{Stmt}
use Rattle.control_flow_theory.specs.graph_rules.Reduced.{Node}
use Rattle.control_flow_theory.specs.lowering.Renamed.{stmt_anew, tree_anew}
use Rattle.branch_tree.specs.declared.tree.Leaves.{Leaves}
use Rattle.branch_tree.specs.declared.tree.Leaves.TheVariants as leaves

-- what leaves of a loop are, with their cells numbered anew
abbrev pub leaves_anew : (ℕ → ℕ) → Leaves → Leaves
leaves_anew number leaves.Silent = leaves.Silent
leaves_anew number (leaves.Flag cell label) = leaves.Flag (number cell) label
leaves_anew number (leaves.Exit cell label targets) = leaves.Exit (number cell) label targets
leaves_anew number (leaves.State cell labels) = leaves.State (number cell) labels

-- a node with its cells numbered anew
abbrev pub node_anew : (ℕ → ℕ) → Node → Node
node_anew number node = record { label = node.label; tree = tree_anew number node.tree }

-- the statement stays as it is, however cells are numbered
abbrev pub NamesNoCell : Stmt → Type 0
NamesNoCell stmt = (number : ℕ → ℕ) → stmt_anew number stmt ≡ stmt
