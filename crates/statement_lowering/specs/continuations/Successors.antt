-- Where control goes on from a rest, in a graph.
use Rattle.std.specs.Prelude.{ℕ, ◌≡◌, ◌<◌, ◌≤◌, List, [], ◌∷◌, Option, Some, None}
use Rattle.cob_tree.specs.declared.stmt.Stmt.{Stmt}
use Rattle.control_flow_theory.specs.language.Language as language
use Rattle.lowering_labels.specs.points.JumpTarget.{IsJumpTarget, seen_target}
use Rattle.statement_lowering.specs.LoopParts.{turn_end}
use Rattle.cob_tree.specs.declared.file.FileEntry.{FileEntry}
use Rattle.control_flow_theory.specs.semantics.Graph as graph
use Rattle.control_flow_theory.specs.lowering.Lower as lower
use Rattle.lowering_labels.specs.points.Layout.{AreAt}
use Rattle.lowering_labels.specs.declared.points.layout.PlaceTable.{PlaceTable}
use Rattle.lowering_labels.specs.declared.points.jump_target.JumpTarget.{JumpTarget}
use Rattle.lowering_labels.specs.declared.points.jump_target.JumpTarget.TheVariants as leaf
use Rattle.statement_lowering.specs.declared.continuations.continuation.Successors.{Successors}

-- a graph: its trees by their labels, where a range goes on after each paragraph, the places of
-- paragraphs, and what lowering knows
pub record Lowering (layout : PlaceTable) : Type 0 where
  -- the tree at a label
  pub node : graph.Label → graph.Tree
  -- where a range goes on after a paragraph
  pub ends : ℕ → graph.End
  -- the place of each paragraph
  pub place_of : ℕ → ℕ
  -- the table has these places
  pub at : AreAt layout.places.items layout.end place_of
  pub files : List FileEntry
  pub returning : List (List ℕ)

-- the end that leads to a target, with this end in the place of the paragraph's
abbrev pub ended : graph.End → JumpTarget → graph.End
ended end (leaf.Jump to) = graph.Jump to
ended end leaf.Return = end
ended end leaf.Stop = graph.Stop

module _ (layout : PlaceTable) (g : Lowering layout) where
  -- the end of the paragraph, as a tree's
  abbrev pub end_by : Successors → graph.End
  end_by onward = g.ends onward.paragraph

  -- where what leaves the rest goes on, in the graph
  abbrev pub leaving_by : Successors → lower.EscapeTargets
  leaving_by onward = record {
    sentence = ended (g.ends onward.paragraph) onward.sentence;
    paragraph = g.ends onward.paragraph;
    section = g.ends;
    loop = ended (g.ends onward.paragraph) onward.behind_loop;
    cycle = ended (g.ends onward.paragraph) onward.cycle;
  }

  -- where control goes on after the rest, in the graph
  abbrev pub after_by : Successors → graph.End
  after_by onward = ended (g.ends onward.paragraph) onward.after

  -- the tree at a place, or none, and then the continuation alone
  abbrev pub tree_behind : Option ℕ → graph.End → graph.Tree
  tree_behind None after = lower.end_alone after
  tree_behind (Some next) after = g.node (lower.point next)

  -- the tree of what follows the rest
  abbrev pub behind_by : Successors → graph.Tree
  behind_by onward = tree_behind onward.behind (after_by onward)

-- the place at which the tree goes on is no earlier than this one, and is below the end
abbrev pub GoesLater : ℕ → ℕ → Option ℕ → Type 0
GoesLater place end None = Unit {0}
GoesLater place end (Some next) = (place ≤ next) × (next < end)

-- where control goes on before these statements, and so after what comes before them

-- the place of the first of these statements, or that of what follows them where there are none
abbrev pub begun : List Stmt → ℕ → Option ℕ → Option ℕ
begun [] place next = next
begun (stmt ∷ stmts) place next = Some place

-- where control goes on before these statements, by where it goes on after them
pub record IsBefore (layout : PlaceTable) (rest : List Stmt) (place : ℕ)
    (old new : Successors) : Type 0
  where
    -- where control goes on after the statements before these
    pub after : IsJumpTarget layout.places.items layout.end rest place old.after new.after
    -- all else is the same
    pub same : new ≡ record old { after = new.after; behind = begun rest place old.behind }

-- the new successors are the old ones in the body of a loop at a place
pub record IsInLoop (control : Option language.Control) (place : ℕ) (old new : Successors) : Type 0
  where
    -- control goes on at the loop's next turn
    pub turn : seen_target new.after ≡ turn_end control place
    -- the loop is left where control went on before
    pub same : new ≡ record old {
      after = new.after;
      behind = None;
      behind_loop = old.after;
      cycle = new.after;
    }
