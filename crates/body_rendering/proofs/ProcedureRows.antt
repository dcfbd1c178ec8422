-- What is written of a procedure.
use Rattle.std.proofs.Common.{◌≡◌, Bool, true, false, ◌||◌, if◌then◌else◌, List, [], ◌∷◌, refl, ap, sym, ◌∙◌}
use Rattle.cob_tree.specs.declared.program.Sentence.{Sentence}
use Rattle.cob_tree.specs.declared.stmt.Stmt.{Stmt}
use Rattle.cob_tree.specs.declared.stmt.Stmt.TheVariants.{Continue}
use Rattle.control_flow_theory.specs.language.Control.{seen_stmts}
use Rattle.control_flow_theory.specs.language.Language as language
use Rattle.control_flow_theory.specs.language.Language.{Range, Main, Part, Stmts, none, also}
use Rattle.control_flow_theory.specs.semantics.Graph.{Tree, End, Pick, Jump, Return, Stop, Dead, body_of, end_of}
use Rattle.control_flow_theory.specs.graph_rules.Shapes.{alone, followed}
use Rattle.control_flow_theory.specs.rendering.Rendering.{required, then_stmts, closing}
use Rattle.statement_builders.specs.arms.Written.{Way, all_written}
use Rattle.branch_tree.specs.Tree.{seen_body, seen_end, seen_tree}
use Rattle.branch_tree.specs.declared.tree.Piece.{Piece}
use Rattle.branch_tree.specs.declared.tree.Tree as code
use Rattle.branch_tree.proofs.TreeRows.{seen_tree_is}
use Rattle.statement_builders.specs.declared.arms.placing.ProcedurePlace.{ProcedurePlace}
use Rattle.statement_builders.specs.declared.item_words.cells.CellItem.{CellItem}
use Rattle.body_rendering.specs.Pieces.{AddsStmts}
use Rattle.body_rendering.specs.Procedure.{stops, closed_stmts, is_main, IsSentence, IsProcedure}
use Rattle.body_rendering.proofs.PieceRows.{both_row}
use Rattle.body_rendering.proofs.BodyRows.{written_followed}

then_row : (first second : Stmts) → then_stmts first second ≡ followed first second
then_row none second = refl
then_row (also stmt stmts) second = ap (also stmt) (then_row stmts second)

closing_row : (way : Way) (range : Range) (end : End) → all_written way (if is_main range || stops end then alone language.StopRun else none) ≡ closing range end
closing_row way Main end = refl
closing_row way (Part entry exit) Stop = refl
closing_row way (Part entry exit) (Pick picker arms) = refl
closing_row way (Part entry exit) (Jump to) = refl
closing_row way (Part entry exit) Return = refl
closing_row way (Part entry exit) Dead = refl

-- all that is written of the body, and then of the end
pub procedure_row : (way : Way) (main : Bool) (whole : Tree) → main ≡ is_main way.range →
    all_written way (closed_stmts main whole) ≡ then_stmts (all_written way (body_of whole)) (closing way.range (end_of whole))
procedure_row way main whole e =
    ap (λ m. all_written way (closed_stmts m whole)) e
    ∙ written_followed way (body_of whole) (if is_main way.range || stops (end_of whole) then alone language.StopRun else none)
    ∙ ap (followed (all_written way (body_of whole))) (closing_row way way.range (end_of whole))
    ∙ sym (then_row (all_written way (body_of whole)) (closing way.range (end_of whole)))

pub closed_row : (cells : List CellItem) (places : List ProcedurePlace) (main : Bool) (tree : code.Tree) (body : List Piece) (tail : Stmts) (old between new : List Stmt) → body ≡ tree.body.items →
    AddsStmts cells places (seen_body body) old between → (if main || stops (seen_end tree.end) then alone language.StopRun else none) ≡ tail →
    seen_stmts 0 new ≡ followed (seen_stmts 0 between) tail → AddsStmts cells places (closed_stmts main (seen_tree tree)) old new
closed_row cells places main tree body tail old between new b h t e =
    let closed : Bool → Stmts = λ ends. if ends then alone language.StopRun else none in
    let ends = main || stops (seen_end tree.end) in
    both_row cells places (seen_body body) (closed ends) (closed_stmts main (seen_tree tree)) old between new
    (ap (closed_stmts main) (seen_tree_is tree) ∙ ap (λ ps. followed (seen_body ps) (closed ends)) (sym b)) h
    (λ way are placed. e ∙ ap (followed (seen_stmts 0 between)) (sym t ∙ sym (written_closed way ends)))
  where
    written_closed : (way : Way) (ends : Bool) → all_written way (if ends then alone language.StopRun else none) ≡ (if ends then alone language.StopRun else none)
    written_closed way true = refl
    written_closed way false = refl

pub sentence_row : (cells : List CellItem) (places : List ProcedurePlace) (main : Bool) (whole : Tree) (old new : List Stmt) (made : Sentence) → old ≡ [] → AddsStmts cells places (closed_stmts main whole) old new →
    IsSentence (seen_stmts 0 new) made → IsProcedure cells places main whole made
sentence_row cells places main whole old new made e h s way are placed m =
    ap (λ x. x ∷ [])
    (s ∙ ap (required Continue)
    (h way are placed ∙ ap (λ o. followed (seen_stmts 0 o) (all_written way (closed_stmts main whole))) e ∙ procedure_row way main whole m))
