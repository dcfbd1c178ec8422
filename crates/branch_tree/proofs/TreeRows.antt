-- Trees, seen row by row.
use Rattle.std.proofs.Common.{◌≡◌, ℕ, Bool, List, [], ◌∷◌, ◌++◌, refl, ap, sym, ◌∙◌}
use Rattle.cob_tree.specs.declared.stmt.Stmt.{Stmt}
use Rattle.control_flow_theory.specs.language.Control.{stmts_of}
use Rattle.control_flow_theory.specs.language.Control as seen_as
use Rattle.control_flow_theory.specs.language.Language as language
use Rattle.control_flow_theory.specs.semantics.Graph as graph
use Rattle.control_flow_theory.specs.graph_rules.Loops.{turned_test}
use Rattle.control_flow_theory.specs.graph_rules.Shapes.{followed, arms_stmts}
use Rattle.branch_tree.specs.Choosers.{seen_test, seen_picker}
use Rattle.branch_tree.specs.declared.chooser.Picker.{Picker}
use Rattle.branch_tree.specs.declared.chooser.Test.{Test}
use Rattle.branch_tree.specs.declared.tree.Leaves.{Leaves}
use Rattle.branch_tree.specs.declared.tree.Tree.{Tree, fold_out-Tree}
use Rattle.branch_tree.specs.declared.tree.Piece.{Piece, fold-roll-Piece}
use Rattle.branch_tree.specs.declared.tree.Piece.TheVariants as piece
use Rattle.branch_tree.specs.declared.tree.End.{fold-roll-End}
use Rattle.branch_tree.specs.declared.tree.End.TheOpen.{End-F, Piece-F}
use Rattle.branch_tree.specs.declared.tree.End.TheVariants as end
use Rattle.branch_tree.specs.Tree.{seen_tree, seen_end, seen_piece, seen_body, seen_trees, stated, end_step, piece_step, tree_step}

-- a tree is its body and its end
pub seen_tree_is : (t : Tree) → seen_tree t ≡ graph.tree (seen_body t.body.items) (seen_end t.end)
seen_tree_is t = fold_out-Tree graph.End language.Stmt graph.Tree end_step piece_step tree_step t

pub seen_pick : (by : Picker) (arms : List Tree) →
    seen_end (end.Pick by arms) ≡ graph.Pick (seen_picker by) (seen_trees arms)
seen_pick by arms =
    ap seen_end (sym (end.rolls-Pick by arms))
    ∙ fold-roll-End graph.End language.Stmt graph.Tree end_step piece_step tree_step
    (End-F.Pick by arms)

pub seen_jump : (to : ℕ) → seen_end (end.Jump to) ≡ graph.Jump to
seen_jump to =
    ap seen_end (sym (end.rolls-Jump to))
    ∙ fold-roll-End graph.End language.Stmt graph.Tree end_step piece_step tree_step (End-F.Jump to)

pub seen_return : seen_end end.Return ≡ graph.Return
seen_return =
    ap seen_end (sym end.rolls-Return)
    ∙ fold-roll-End graph.End language.Stmt graph.Tree end_step piece_step tree_step End-F.Return

pub seen_stop : seen_end end.Stop ≡ graph.Stop
seen_stop =
    ap seen_end (sym end.rolls-Stop)
    ∙ fold-roll-End graph.End language.Stmt graph.Tree end_step piece_step tree_step End-F.Stop

pub seen_dead : seen_end end.Dead ≡ graph.Dead
seen_dead =
    ap seen_end (sym end.rolls-Dead)
    ∙ fold-roll-End graph.End language.Stmt graph.Tree end_step piece_step tree_step End-F.Dead

pub seen_own : (stmt : Stmt) → seen_piece (piece.Own stmt) ≡ seen_as.seen 0 stmt
seen_own stmt =
    ap seen_piece (sym (piece.rolls-Own stmt))
    ∙ fold-roll-Piece graph.End language.Stmt graph.Tree end_step piece_step tree_step
    (Piece-F.Own stmt)

pub seen_set : (cell value : ℕ) →
    seen_piece (piece.Set cell value) ≡ language.Do (language.Set cell value)
seen_set cell value =
    ap seen_piece (sym (piece.rolls-Set cell value))
    ∙ fold-roll-Piece graph.End language.Stmt graph.Tree end_step piece_step tree_step
    (Piece-F.Set cell value)

pub seen_choose : (by : Picker) (arms : List Tree) →
    seen_piece (piece.Choose by arms)
    ≡ language.Choose (seen_picker by) (arms_stmts (seen_trees arms))
seen_choose by arms =
    ap seen_piece (sym (piece.rolls-Choose by arms))
    ∙ fold-roll-Piece graph.End language.Stmt graph.Tree end_step piece_step tree_step
    (Piece-F.Choose by arms)

pub seen_loop : (after turned : Bool) (test : Test) (leaves : Leaves) (body : Tree) →
    seen_piece (piece.Loop after turned test leaves body)
    ≡ language.Loop (language.Until after (turned_test turned (seen_test test)))
    (language.Nested (stated leaves (seen_tree body)))
seen_loop after turned test leaves body =
    ap seen_piece (sym (piece.rolls-Loop after turned test leaves body))
    ∙ fold-roll-Piece graph.End language.Stmt graph.Tree end_step piece_step tree_step
    (Piece-F.Loop after turned test leaves body)

-- bodies one after the other
pub seen_body-append : (pieces others : List Piece) →
    seen_body (pieces ++ others) ≡ followed (seen_body pieces) (seen_body others)
seen_body-append [] others = refl
seen_body-append (p ∷ pieces) others =
    ap (language.also (seen_piece p)) (seen_body-append pieces others)
