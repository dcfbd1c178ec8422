-- What stands before a loop, row by row.
use Rattle.std.proofs.Common.{◌≡◌, ℕ, true, List, [], ◌∷◌, ◌++◌, refl, ap, sym, ◌∙◌}
use Rattle.cob_tree.specs.declared.place.Operand.{Operand}
use Rattle.cob_tree.specs.declared.place.Place.{Place}
use Rattle.cob_tree.specs.declared.stmt.Stmt.TheVariants.{Move}
use Rattle.control_flow_theory.specs.language.Control.{setting_item, move_to}
use Rattle.control_flow_theory.specs.language.Language as language
use Rattle.control_flow_theory.specs.language.OwnItems.{place_own}
use Rattle.control_flow_theory.proofs.language_lemmas.OwnCells.{place-no_cell}
use Rattle.control_flow_theory.proofs.language_lemmas.Rows.{seen_move}
use Rattle.control_flow_theory.specs.semantics.Graph as graph
use Rattle.control_flow_theory.specs.graph_rules.Shapes.{followed, alone}
use Rattle.branch_tree.specs.Tree.{seen_piece, seen_body, end_step, piece_step, tree_step}
use Rattle.branch_tree.specs.declared.tree.Piece.{Piece, fold-roll-Piece}
use Rattle.branch_tree.specs.declared.tree.Piece.TheVariants as piece
use Rattle.branch_tree.specs.declared.tree.End.TheOpen.{Piece-F}
use Rattle.branch_tree.proofs.TreeRows.{seen_own, seen_body-append}

pub seen_take : (cell : ℕ) (amount : Operand) → seen_piece (piece.Take cell amount) ≡ language.Do (language.Take cell amount)
seen_take cell amount =
    ap seen_piece (sym (piece.rolls-Take cell amount))
    ∙ fold-roll-Piece graph.End language.Stmt graph.Tree end_step piece_step tree_step (Piece-F.Take cell amount)

pub seen_lower : (cell : ℕ) → seen_piece (piece.Lower cell) ≡ language.Do (language.Lower cell)
seen_lower cell =
    ap seen_piece (sym (piece.rolls-Lower cell))
    ∙ fold-roll-Piece graph.End language.Stmt graph.Tree end_step piece_step tree_step (Piece-F.Lower cell)

-- a MOVE to an item that is no cell
pub seen_setting : (item : Place) (from : Operand) → place_own item ≡ true →
    seen_piece (piece.Own (Move from (item ∷ []))) ≡ language.Do (setting_item item from)
seen_setting item from own =
    seen_own (Move from (item ∷ [])) ∙ seen_move 0 from (item ∷ [])
    ∙ ap (λ cell. language.Do (move_to cell from item)) (place-no_cell item own)

pub followed_none : (stmts : language.Stmts) → stmts ≡ followed stmts language.none
followed_none language.none = refl
followed_none (language.also stmt stmts) = ap (language.also stmt) (followed_none stmts)

-- one piece more
pub body_pushed : (pieces new : List Piece) (one : Piece) (stmt : language.Stmt) → new ≡ pieces ++ one ∷ [] → seen_piece one ≡ stmt →
    seen_body new ≡ followed (seen_body pieces) (alone stmt)
body_pushed pieces new one stmt h is =
    ap seen_body h ∙ seen_body-append pieces (one ∷ []) ∙ ap (λ s. followed (seen_body pieces) (alone s)) is
