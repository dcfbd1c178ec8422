-- What is written of pieces and ends, row by row.
use Rattle.std.proofs.Common.{◌≡◌, ℕ, suc, ◌+◌, ◌<◌, ◌≤◌, Bool, List, [], ◌∷◌, ◌++◌, map, length, get_or, drop, refl, ap, sym, ◌∙◌, append_assoc, append-nil, add-one, drop-cons}
use Rattle.std.proofs.Math.ListN.{drop_of_length-le}
use Rattle.cob_tree.specs.declared.place.Operand.{Operand}
use Rattle.cob_tree.specs.declared.stmt.Stmt.{Stmt}
use Rattle.cob_tree.specs.declared.stmt.Stmt.TheVariants.{Continue}
use Rattle.control_flow_theory.specs.language.Language as language
use Rattle.control_flow_theory.specs.language.Language.{Stmts, none}
use Rattle.control_flow_theory.specs.language.Control.{seen, seen_stmts}
use Rattle.control_flow_theory.specs.semantics.Graph as graph
use Rattle.control_flow_theory.specs.graph_rules.Loops.{turned_test}
use Rattle.control_flow_theory.specs.graph_rules.Shapes.{alone, followed, arm_stmts, arms_stmts, last_stmts}
use Rattle.control_flow_theory.specs.structuring.Closes.{none_left_out}
use Rattle.control_flow_theory.specs.structuring.Dispatches.{stated_end}
use Rattle.branch_tree.specs.Choosers.{seen_picker, seen_test}
use Rattle.branch_tree.specs.Tree.{seen_piece, seen_body, seen_trees, seen_end, stated, jump_within, return_within, end_step, piece_step, tree_step}
use Rattle.branch_tree.specs.declared.chooser.Picker.{Picker}
use Rattle.branch_tree.specs.declared.chooser.Test.{Test}
use Rattle.branch_tree.specs.declared.tree.End.TheVariants as ends
use Rattle.branch_tree.specs.declared.tree.End.TheOpen.{Piece-F}
use Rattle.branch_tree.specs.declared.tree.Leaves.{Leaves}
use Rattle.branch_tree.specs.declared.tree.Piece.{Piece, fold-roll-Piece}
use Rattle.branch_tree.specs.declared.tree.Piece.TheVariants as pieces
use Rattle.branch_tree.specs.declared.tree.Tree.{Tree}
use Rattle.branch_tree.proofs.TreeRows.{seen_tree_is, seen_pick, seen_jump, seen_return, seen_stop, seen_dead, seen_own, seen_set, seen_choose, seen_loop}
use Rattle.control_flow_theory.specs.rendering.Rendering.{required, written_test}
use Rattle.statement_builders.specs.arms.Written.{Way, naming_in, written, all_written, IsWritten}
use Rattle.statement_builders.specs.declared.arms.placing.ProcedurePlace.{ProcedurePlace}
use Rattle.statement_builders.specs.item_words.Words.{IsAct, IsLoop}
use Rattle.statement_builders.specs.item_words.Lists.{IsChosen}
use Rattle.statement_builders.specs.declared.item_words.cells.CellItem.{CellItem}
use Rattle.body_rendering.specs.Pieces.{IsMade, AreMade, AddsStmts, AddsLists, within_arm, within_loop, end_stmts, stated_choice}
use Rattle.body_rendering.proofs.BodyRows.{followed_none, followed_assoc, adds_one, adds_both, written_last, choice_row, stated_row}

-- What is left of a list.

left : {X : Type 0} (xs : List X) (at : ℕ) (d x : X) → at < length xs → get_or xs at d ≡ x → drop at xs ≡ x ∷ drop (at + 1) xs
left xs at d x lt e = drop-cons xs at d lt ∙ ap (λ y. y ∷ drop (suc at) xs) e ∙ ap (λ n. x ∷ drop n xs) (sym (add-one at))

module _ (way : Way) where
  -- one piece more
  pub pieces_next : (all : List Piece) (at : ℕ) (d piece : Piece) (old new : List Stmt) (made : Stmt) (goal : Stmts) → at < length all → get_or all at d ≡ piece → new ≡ old ++ made ∷ [] →
      seen 0 made ≡ written way (seen_piece piece) → followed (seen_stmts 0 old) (all_written way (seen_body (drop at all))) ≡ goal →
      followed (seen_stmts 0 new) (all_written way (seen_body (drop (at + 1) all))) ≡ goal
  pieces_next all at d piece old new made goal lt same e m h =
      let rest = all_written way (seen_body (drop (at + 1) all)) in
      ap (λ s. followed s rest) (adds_one way old new made (seen_piece piece) e m)
      ∙ followed_assoc (seen_stmts 0 old) (all_written way (alone (seen_piece piece))) rest
      ∙ ap (λ ps. followed (seen_stmts 0 old) (all_written way (seen_body ps))) (sym (left all at d piece lt same))
      ∙ h

  pub pieces_end : (all : List Piece) (at : ℕ) (made goal : Stmts) → length all ≤ at → followed made (all_written way (seen_body (drop at all))) ≡ goal → made ≡ goal
  pieces_end all at made goal most h =
      sym (followed_none made) ∙ ap (λ ps. followed made (all_written way (seen_body ps))) (sym (drop_of_length-le all most)) ∙ h

  seen_lists : (old : List (List Stmt)) (made : List Stmt) → map (seen_stmts 0) (old ++ made ∷ []) ≡ map (seen_stmts 0) old ++ seen_stmts 0 made ∷ []
  seen_lists [] made = refl
  seen_lists (stmts ∷ old) made = ap (λ l. seen_stmts 0 stmts ∷ l) (seen_lists old made)

  -- one arm more
  pub arms_next : (within : Tree → Stmts) (all : List Tree) (at : ℕ) (d arm : Tree) (old new : List (List Stmt)) (made : List Stmt) (goal : List Stmts) → at < length all → get_or all at d ≡ arm →
      new ≡ old ++ made ∷ [] → seen_stmts 0 made ≡ all_written way (within arm) → map (seen_stmts 0) old ++ map (all_written way) (map within (drop at all)) ≡ goal →
      map (seen_stmts 0) new ++ map (all_written way) (map within (drop (at + 1) all)) ≡ goal
  arms_next within all at d arm old new made goal lt same e m h =
      let rest = map (all_written way) (map within (drop (at + 1) all)) in
      ap (λ l. map (seen_stmts 0) l ++ rest) e
      ∙ ap (λ l. l ++ rest) (seen_lists old made)
      ∙ append_assoc (map (seen_stmts 0) old) (seen_stmts 0 made ∷ []) rest
      ∙ ap (λ s. map (seen_stmts 0) old ++ s ∷ rest) m
      ∙ ap (λ ts. map (seen_stmts 0) old ++ map (all_written way) (map within ts)) (sym (left all at d arm lt same))
      ∙ h

  pub arms_end : (within : Tree → Stmts) (all : List Tree) (at : ℕ) (made goal : List Stmts) → length all ≤ at → made ++ map (all_written way) (map within (drop at all)) ≡ goal → made ≡ goal
  arms_end within all at made goal most h =
      sym (append-nil made) ∙ ap (λ ts. made ++ map (all_written way) (map within ts)) (sym (drop_of_length-le all most)) ∙ h

-- Pieces.

module _ (cells : List CellItem) (places : List ProcedurePlace) where
  pub own_row : (stmt made : Stmt) → IsWritten places stmt made → IsMade cells places (seen_piece (pieces.Own stmt)) made
  own_row stmt made h way are placed = h way placed ∙ ap (written way) (sym (seen_own stmt))

  act_row : (act : language.Act) (piece : Piece) (made : Stmt) → seen_piece piece ≡ language.Do act → IsAct cells act made → IsMade cells places (seen_piece piece) made
  act_row act piece made e h way are placed = h way are ∙ ap (written way) (sym e)

  pub set_row : (cell value : ℕ) (made : Stmt) → IsAct cells (language.Set cell value) made → IsMade cells places (seen_piece (pieces.Set cell value)) made
  set_row cell value made = act_row (language.Set cell value) (pieces.Set cell value) made (seen_set cell value)

  pub take_row : (cell : ℕ) (amount : Operand) (made : Stmt) → IsAct cells (language.Take cell amount) made → IsMade cells places (seen_piece (pieces.Take cell amount)) made
  take_row cell amount made =
      act_row (language.Take cell amount) (pieces.Take cell amount) made
      (ap seen_piece (sym (pieces.rolls-Take cell amount)) ∙ fold-roll-Piece graph.End language.Stmt graph.Tree end_step piece_step tree_step (Piece-F.Take cell amount))

  pub lower_row : (cell : ℕ) (made : Stmt) → IsAct cells (language.Lower cell) made → IsMade cells places (seen_piece (pieces.Lower cell)) made
  lower_row cell made =
      act_row (language.Lower cell) (pieces.Lower cell) made
      (ap seen_piece (sym (pieces.rolls-Lower cell)) ∙ fold-roll-Piece graph.End language.Stmt graph.Tree end_step piece_step tree_step (Piece-F.Lower cell))

  pub choose_row : (by : Picker) (arms : List Tree) (lists : List (List Stmt)) (made : Stmt) → AddsLists cells places within_arm arms [] lists → IsChosen cells by lists made →
      IsMade cells places (seen_piece (pieces.Choose by arms)) made
  choose_row by arms lists made l h way are placed =
      h way are ∙ choice_row way (seen_picker by) arms (map (seen_stmts 0) lists) (l way are placed) ∙ ap (written way) (sym (seen_choose by arms))

  pub loop_row : (after turned : Bool) (test : Test) (leaves : Leaves) (body : Tree) (stmts : List Stmt) (made : Stmt) → AreMade cells places (within_loop leaves body) stmts →
      IsLoop cells turned test after (seen_stmts 0 stmts) made → IsMade cells places (seen_piece (pieces.Loop after turned test leaves body)) made
  loop_row after turned test leaves body stmts made l h way are placed =
      h way are
      ∙ ap (λ s. language.Loop (language.Until after (written_test (naming_in way) way.place way.range (turned_test turned (seen_test test)))) (language.Nested (required Continue s))) (l way are placed)
      ∙ ap (written way) (sym (seen_loop after turned test leaves body))

  -- Trees and their ends.

  pub both_row : (first second all : Stmts) (old between new : List Stmt) → all ≡ followed first second → AddsStmts cells places first old between → AddsStmts cells places second between new →
      AddsStmts cells places all old new
  both_row first second all old between new e h g way are placed =
      adds_both way (seen_stmts 0 old) (seen_stmts 0 between) (seen_stmts 0 new) first second (h way are placed) (g way are placed)
      ∙ ap (λ s. followed (seen_stmts 0 old) (all_written way s)) (sym e)

  pub choice_made : (leaves : Leaves) (by : Picker) (arms : List Tree) (lists : List (List Stmt)) (made : Stmt) → AddsLists cells places (within_loop leaves) arms [] lists → IsChosen cells by lists made →
      IsMade cells places (stated_choice leaves by arms) made
  choice_made leaves by arms lists made l h way are placed = h way are ∙ stated_row way leaves (seen_picker by) arms (map (seen_stmts 0) lists) (l way are placed)

  pub one_row : (stmt : language.Stmt) (old new : List Stmt) (made : Stmt) → IsMade cells places stmt made → new ≡ old ++ made ∷ [] → AddsStmts cells places (alone stmt) old new
  one_row stmt old new made h e way are placed = adds_one way old new made stmt e (h way are placed)

pub arm_row : (cells : List CellItem) (places : List ProcedurePlace) (tree : Tree) (body : List Piece) (old between new : List Stmt) → body ≡ tree.body.items → AddsStmts cells places (seen_body body) old between →
    seen_stmts 0 new ≡ followed (seen_stmts 0 between) (last_stmts (seen_end tree.end)) → AddsStmts cells places (within_arm tree) old new
arm_row cells places tree body old between new b h e =
    let last = last_stmts (seen_end tree.end) in
    both_row cells places (seen_body body) last (within_arm tree) old between new
    (ap arm_stmts (seen_tree_is tree) ∙ ap (λ ps. followed (seen_body ps) last) (sym b)) h
    (λ way are placed. e ∙ ap (followed (seen_stmts 0 between)) (sym (written_last way (seen_end tree.end))))

pub stated_both : (cells : List CellItem) (places : List ProcedurePlace) (leaves : Leaves) (tree : Tree) (body : List Piece) (old between new : List Stmt) → body ≡ tree.body.items → AddsStmts cells places (seen_body body) old between →
    AddsStmts cells places (end_stmts leaves tree.end) between new → AddsStmts cells places (within_loop leaves tree) old new
stated_both cells places leaves tree body old between new b h g =
    let last = end_stmts leaves tree.end in
    both_row cells places (seen_body body) last (within_loop leaves tree) old between new
    (ap (stated leaves) (seen_tree_is tree) ∙ ap (λ ps. followed (seen_body ps) last) (sym b)) h g

pub adds_same : (cells : List CellItem) (places : List ProcedurePlace) (stmts all : Stmts) (old new : List Stmt) → all ≡ stmts → AddsStmts cells places stmts old new → AddsStmts cells places all old new
adds_same cells places stmts all old new e h way are placed = h way are placed ∙ ap (λ s. followed (seen_stmts 0 old) (all_written way s)) (sym e)

pub chosen_made : (cells : List CellItem) (places : List ProcedurePlace) (by : Picker) (arms : List Tree) (old lists : List (List Stmt)) (made : Stmt) → old ≡ [] → AddsLists cells places within_arm arms old lists → IsChosen cells by lists made →
    IsMade cells places (language.Choose (seen_picker by) (arms_stmts (seen_trees arms))) made
chosen_made cells places by arms old lists made e l h way are placed =
    h way are ∙ choice_row way (seen_picker by) arms (map (seen_stmts 0) lists) (l way are placed ∙ ap (λ o. map (seen_stmts 0) o ++ map (all_written way) (map within_arm arms)) e)

pub stated_made : (cells : List CellItem) (places : List ProcedurePlace) (leaves : Leaves) (by : Picker) (arms : List Tree) (old lists : List (List Stmt)) (made : Stmt) → old ≡ [] → AddsLists cells places (within_loop leaves) arms old lists → IsChosen cells by lists made →
    IsMade cells places (stated_choice leaves by arms) made
stated_made cells places leaves by arms old lists made e l h way are placed =
    h way are ∙ stated_row way leaves (seen_picker by) arms (map (seen_stmts 0) lists) (l way are placed ∙ ap (λ o. map (seen_stmts 0) o ++ map (all_written way) (map (within_loop leaves) arms)) e)

pub arm_is : (tree : Tree) → within_arm tree ≡ followed (seen_body tree.body.items) (last_stmts (seen_end tree.end))
arm_is tree = ap arm_stmts (seen_tree_is tree)

pub loop_is : (leaves : Leaves) (tree : Tree) → within_loop leaves tree ≡ followed (seen_body tree.body.items) (end_stmts leaves tree.end)
loop_is leaves tree = ap (stated leaves) (seen_tree_is tree)

module _ (leaves : Leaves) where
  abbrev ended : graph.End → Stmts
  ended = stated_end none_left_out (jump_within leaves) (return_within leaves)

  pub pick_is : (by : Picker) (arms : List Tree) → end_stmts leaves (ends.Pick by arms) ≡ alone (stated_choice leaves by arms)
  pick_is by arms = ap ended (seen_pick by arms)

  pub jump_is : (to : ℕ) → end_stmts leaves (ends.Jump to) ≡ jump_within leaves to
  jump_is to = ap ended (seen_jump to)

  pub return_is : end_stmts leaves ends.Return ≡ return_within leaves
  return_is = ap ended seen_return

  pub stop_is : end_stmts leaves ends.Stop ≡ alone language.StopRun
  stop_is = ap ended seen_stop

  pub dead_is : end_stmts leaves ends.Dead ≡ none
  dead_is = ap ended seen_dead
