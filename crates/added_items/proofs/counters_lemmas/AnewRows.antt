-- Cells that are numbered anew, in each part of a tree.
use Rattle.std.proofs.Common.{◌≡◌, ℕ, suc, Bool, true, false, if◌then◌else◌, ◌==◌, List, [], ◌∷◌, map, refl, ap, sym, ◌∙◌}
use Rattle.cob_tree.specs.declared.place.Operand.{Operand}
use Rattle.cob_tree.specs.declared.stmt.Stmt as source
use Rattle.control_flow_theory.specs.language.Control.{stmts_of}
use Rattle.control_flow_theory.specs.language.Control as seen_as
use Rattle.control_flow_theory.specs.language.Language.{Act, Own, Set, Take, Lower, Test, Holds, Not, Is, Above, Picker, If, By, ByCell, Control, Times, Until, Varying, Stmt, Do, Choose, Loop, Perform, Go, GoDepending, NextSentence, ExitParagraph, ExitSection, ExitPerform, StopRun, Stmts, none, also, Arms, done, given, missing, Body, Nested, Performed}
use Rattle.control_flow_theory.specs.language.Own.{OwnAct, OwnTest, OwnPicker, OwnControl, OwnStmt, OwnStmts, OwnArms, OwnBody}
use Rattle.control_flow_theory.specs.semantics.Graph.{Label, Tree, tree, End, Pick, Jump, Return, Stop, Dead, Trees, no_more, more}
use Rattle.control_flow_theory.specs.graph_rules.Loops.{turned_test}
use Rattle.control_flow_theory.specs.graph_rules.Reduced.{Node, each_tree}
use Rattle.control_flow_theory.specs.graph_rules.Shapes.{followed, last_stmts, arms_stmts}
use Rattle.control_flow_theory.specs.structuring.Closes.{none_left_out}
use Rattle.control_flow_theory.specs.structuring.Dispatches.{stated_end, stated_arms, number_in}
use Rattle.control_flow_theory.specs.lowering.Renamed.{act_anew, test_anew, picker_anew, control_anew, stmt_anew, stmts_anew, arms_anew, body_anew, end_anew, trees_anew, tree_anew}
use Rattle.branch_tree.specs.declared.chooser.Picker as chosen
use Rattle.branch_tree.specs.declared.chooser.Test as asked
use Rattle.branch_tree.specs.declared.tree.Leaves.{Leaves}
use Rattle.branch_tree.specs.declared.tree.Leaves.TheVariants as leaves
use Rattle.branch_tree.specs.declared.tree.Tree as code
use Rattle.branch_tree.specs.declared.tree.Piece.{out-Piece, out-roll-Piece, fold-roll-Piece}
use Rattle.branch_tree.specs.declared.tree.Piece.TheVariants as piece
use Rattle.branch_tree.specs.declared.tree.End.TheOpen.{Piece-F}
use Rattle.branch_tree.specs.Choosers.{seen_test, seen_picker}
use Rattle.branch_tree.specs.Tree.{jump_within, return_within, stated, trees_of, seen_piece, seen_tree, seen_trees, end_step, piece_step, tree_step}
use Rattle.branch_tree.proofs.TreeRows.{seen_own, seen_set, seen_choose, seen_loop}
use Rattle.added_items.specs.counters.Anew.{NamesNoCell, leaves_anew, node_anew}

module _ (number : ℕ → ℕ) where
  -- What names no cell stays.

  own-act : (act : Act) → OwnAct act → act_anew number act ≡ act
  own-act (Own simple) own = refl
  own-act (Set cell value) own = absurd own
  own-act (Take cell amount) own = absurd own
  own-act (Lower cell) own = absurd own

  pub own-test : (test : Test) → OwnTest test → test_anew number test ≡ test
  own-test (Holds cond) own = refl
  own-test (Not test) own = ap Not (own-test test own)
  own-test (Is cell value) own = absurd own
  own-test (Above cell) own = absurd own

  own-picker : (picker : Picker) → OwnPicker picker → picker_anew number picker ≡ picker
  own-picker (If test) own = ap If (own-test test own)
  own-picker (By chooser) own = refl
  own-picker (ByCell cell) own = absurd own

  own-control : (control : Control) → OwnControl control → control_anew number control ≡ control
  own-control (Times amount) own = refl
  own-control (Until after test) own = ap (Until after) (own-test test own)
  own-control (Varying after set step test) own =
      ap (λ s. Varying after s (act_anew number step) (test_anew number test)) (own-act set own.0)
      ∙ ap (λ s. Varying after set s (test_anew number test)) (own-act step own.1)
      ∙ ap (Varying after set step) (own-test test own.2)

  mutual
    pub own-stmt : (s : Stmt) → OwnStmt s → stmt_anew number s ≡ s
    own-stmt (Do act) own = ap Do (own-act act own)
    own-stmt (Choose picker arms) own =
        ap (λ p. Choose p (arms_anew number arms)) (own-picker picker own.0)
        ∙ ap (Choose picker) (own-arms arms own.1)
    own-stmt (Loop control body) own =
        ap (λ c. Loop c (body_anew number body)) (own-control control own.0)
        ∙ ap (Loop control) (own-body body own.1)
    own-stmt (Perform entry exit) own = refl
    own-stmt (Go to) own = refl
    own-stmt (GoDepending to on) own = refl
    own-stmt NextSentence own = refl
    own-stmt ExitParagraph own = refl
    own-stmt (ExitSection last) own = refl
    own-stmt (ExitPerform cycle) own = refl
    own-stmt StopRun own = refl

    own-stmts : (ss : Stmts) → OwnStmts ss → stmts_anew number ss ≡ ss
    own-stmts none own = refl
    own-stmts (also s ss) own =
        ap (λ t. also t (stmts_anew number ss)) (own-stmt s own.0) ∙ ap (also s) (own-stmts ss own.1)

    own-arms : (arms : Arms) → OwnArms arms → arms_anew number arms ≡ arms
    own-arms done own = refl
    own-arms (given arm others) own =
        ap (λ a. given a (arms_anew number others)) (own-stmts arm own.0)
        ∙ ap (given arm) (own-arms others own.1)
    own-arms (missing others) own = ap missing (own-arms others own)

    own-body : (body : Body) → OwnBody body → body_anew number body ≡ body
    own-body (Nested ss) own = ap Nested (own-stmts ss own)
    own-body (Performed entry exit) own = refl

  -- Statements and trees that are put together.

  followed-anew : (ss ts : Stmts) → stmts_anew number (followed ss ts) ≡ followed (stmts_anew number ss) (stmts_anew number ts)
  followed-anew none ts = refl
  followed-anew (also s ss) ts = ap (also (stmt_anew number s)) (followed-anew ss ts)

  pub trees-anew : (ts : List Tree) → trees_of (map (tree_anew number) ts) ≡ trees_anew number (trees_of ts)
  trees-anew [] = refl
  trees-anew (tree body end ∷ ts) = ap (more (tree (stmts_anew number body) (end_anew number end))) (trees-anew ts)

  pub stmts-anew : (ss : List Stmt) → stmts_of (map (stmt_anew number) ss) ≡ stmts_anew number (stmts_of ss)
  stmts-anew [] = refl
  stmts-anew (s ∷ ss) = ap (also (stmt_anew number s)) (stmts-anew ss)

  pub nodes-anew : (nodes : List Node) → map (node_anew number) nodes ≡ each_tree (tree_anew number) nodes
  nodes-anew [] = refl
  nodes-anew (node ∷ nodes) = ap (λ l. node_anew number node ∷ l) (nodes-anew nodes)

  last-anew : (end : End) → stmts_anew number (last_stmts end) ≡ last_stmts (end_anew number end)
  last-anew (Pick picker arms) = refl
  last-anew (Jump to) = refl
  last-anew Return = refl
  last-anew Stop = refl
  last-anew Dead = refl

  arms-anew : (ts : Trees) → arms_anew number (arms_stmts ts) ≡ arms_stmts (trees_anew number ts)
  arms-anew no_more = refl
  arms-anew (more (tree body end) others) =
      ap (λ arm. given arm (arms_anew number (arms_stmts others)))
      (followed-anew body (last_stmts end) ∙ ap (followed (stmts_anew number body)) (last-anew end))
      ∙ ap (given (followed (stmts_anew number body) (last_stmts (end_anew number end)))) (arms-anew others)

  -- The statements of a tree within a loop.

  unless-there : (b : Bool) (cell value : ℕ) →
      stmts_anew number (if b then none else also (Do (Set cell value)) none) ≡ (if b then none else also (Do (Set (number cell) value)) none)
  unless-there true cell value = refl
  unless-there false cell value = refl

  jump-anew : (ls : Leaves) (to : Label) → stmts_anew number (jump_within ls to) ≡ jump_within (leaves_anew number ls) to
  jump-anew leaves.Silent to = refl
  jump-anew (leaves.Flag cell label) to = unless-there (to == label) cell 1
  jump-anew (leaves.Exit cell label targets) to = unless-there (to == label) cell (number_in targets to)
  jump-anew (leaves.State cell labels) to = refl

  return-anew : (ls : Leaves) → stmts_anew number (return_within ls) ≡ return_within (leaves_anew number ls)
  return-anew leaves.Silent = refl
  return-anew (leaves.Flag cell label) = refl
  return-anew (leaves.Exit cell label targets) = refl
  return-anew (leaves.State cell labels) = refl

  module _ (ls : Leaves) where
    abbrev end_in : Leaves → End → Stmts
    end_in within end = stated_end none_left_out (jump_within within) (return_within within) end

    abbrev arms_in : Leaves → Picker → ℕ → Trees → Arms
    arms_in within picker k ts = stated_arms none_left_out (jump_within within) (return_within within) picker k ts

    mutual
      end-stated : (end : End) → stmts_anew number (end_in ls end) ≡ end_in (leaves_anew number ls) (end_anew number end)
      end-stated (Pick picker arms) =
          ap (λ a. also (Choose (picker_anew number picker) a) none) (arms-stated picker (picker_anew number picker) 0 arms)
      end-stated (Jump to) = jump-anew ls to
      end-stated Return = return-anew ls
      end-stated Stop = refl
      end-stated Dead = refl

      arms-stated : (picker other : Picker) (k : ℕ) (ts : Trees) →
          arms_anew number (arms_in ls picker k ts) ≡ arms_in (leaves_anew number ls) other k (trees_anew number ts)
      arms-stated picker other k no_more = refl
      arms-stated picker other k (more (tree body end) others) =
          ap (λ arm. given arm (arms_anew number (arms_in ls picker (suc k) others)))
          (followed-anew body (end_in ls end) ∙ ap (followed (stmts_anew number body)) (end-stated end))
          ∙ ap (given (followed (stmts_anew number body) (end_in (leaves_anew number ls) (end_anew number end)))) (arms-stated picker other (suc k) others)

    stated-anew : (t : Tree) → stmts_anew number (stated ls t) ≡ stated (leaves_anew number ls) (tree_anew number t)
    stated-anew (tree body end) = followed-anew body (end_in ls end) ∙ ap (followed (stmts_anew number body)) (end-stated end)

  turned-anew : (turned : Bool) (test : Test) → test_anew number (turned_test turned test) ≡ turned_test turned (test_anew number test)
  turned-anew true test = refl
  turned-anew false test = refl

  -- Pieces.

  pub piece-set : (cell value made : ℕ) → made ≡ number cell → seen_piece (piece.Set made value) ≡ stmt_anew number (seen_piece (piece.Set cell value))
  piece-set cell value made h =
      ap (λ c. seen_piece (piece.Set c value)) h ∙ seen_set (number cell) value ∙ ap (stmt_anew number) (sym (seen_set cell value))

  seen_take : (cell : ℕ) (amount : Operand) → seen_piece (piece.Take cell amount) ≡ Do (Take cell amount)
  seen_take cell amount =
      ap seen_piece (sym (piece.rolls-Take cell amount))
      ∙ fold-roll-Piece End Stmt Tree end_step piece_step tree_step (Piece-F.Take cell amount)

  pub piece-take : (cell made : ℕ) (amount : Operand) → made ≡ number cell → seen_piece (piece.Take made amount) ≡ stmt_anew number (seen_piece (piece.Take cell amount))
  piece-take cell made amount h =
      ap (λ c. seen_piece (piece.Take c amount)) h ∙ seen_take (number cell) amount ∙ ap (stmt_anew number) (sym (seen_take cell amount))

  seen_lower : (cell : ℕ) → seen_piece (piece.Lower cell) ≡ Do (Lower cell)
  seen_lower cell =
      ap seen_piece (sym (piece.rolls-Lower cell))
      ∙ fold-roll-Piece End Stmt Tree end_step piece_step tree_step (Piece-F.Lower cell)

  pub piece-lower : (cell made : ℕ) → made ≡ number cell → seen_piece (piece.Lower made) ≡ stmt_anew number (seen_piece (piece.Lower cell))
  piece-lower cell made h =
      ap (λ c. seen_piece (piece.Lower c)) h ∙ seen_lower (number cell) ∙ ap (stmt_anew number) (sym (seen_lower cell))

  pub piece-choose : (by by' : chosen.Picker) (arms arms' : List code.Tree) →
      seen_picker by' ≡ picker_anew number (seen_picker by) → seen_trees arms' ≡ trees_anew number (seen_trees arms) →
      seen_piece (piece.Choose by' arms') ≡ stmt_anew number (seen_piece (piece.Choose by arms))
  piece-choose by by' arms arms' p a =
      seen_choose by' arms'
      ∙ ap (λ q. Choose q (arms_stmts (seen_trees arms'))) p
      ∙ ap (λ ts. Choose (picker_anew number (seen_picker by)) (arms_stmts ts)) a
      ∙ ap (Choose (picker_anew number (seen_picker by))) (sym (arms-anew (seen_trees arms)))
      ∙ ap (stmt_anew number) (sym (seen_choose by arms))

  pub piece-loop : (after turned : Bool) (test test' : asked.Test) (ls ls' : Leaves) (body body' : code.Tree) →
      seen_test test' ≡ test_anew number (seen_test test) → ls' ≡ leaves_anew number ls → seen_tree body' ≡ tree_anew number (seen_tree body) →
      seen_piece (piece.Loop after turned test' ls' body') ≡ stmt_anew number (seen_piece (piece.Loop after turned test ls body))
  piece-loop after turned test test' ls ls' body body' t l b =
      let whole : Test → Stmts → Stmt = λ u inner. Loop (Until after u) (Nested inner) in
      seen_loop after turned test' ls' body'
      ∙ ap (λ u. whole (turned_test turned u) (stated ls' (seen_tree body'))) t
      ∙ ap (λ u. whole u (stated ls' (seen_tree body'))) (sym (turned-anew turned (seen_test test)))
      ∙ ap (λ within. whole (test_anew number (turned_test turned (seen_test test))) (stated within (seen_tree body'))) l
      ∙ ap (λ s. whole (test_anew number (turned_test turned (seen_test test))) (stated (leaves_anew number ls) s)) b
      ∙ ap (whole (test_anew number (turned_test turned (seen_test test)))) (sym (stated-anew ls (seen_tree body)))
      ∙ ap (stmt_anew number) (sym (seen_loop after turned test ls body))

-- a statement of the program
pub piece-own : (stmt : source.Stmt) → OwnStmt (seen_as.seen 0 stmt) → NamesNoCell (seen_piece (piece.Own stmt))
piece-own stmt own = λ number.
    ap (stmt_anew number) (seen_own stmt) ∙ own-stmt number (seen_as.seen 0 stmt) own ∙ sym (seen_own stmt)

-- a loop, opened
pub loop-out : (after turned : Bool) (test : asked.Test) (ls : Leaves) (body : code.Tree) → out-Piece (piece.Loop after turned test ls body) ≡ Piece-F.Loop after turned test ls body
loop-out after turned test ls body =
    ap out-Piece (sym (piece.rolls-Loop after turned test ls body)) ∙ out-roll-Piece (Piece-F.Loop after turned test ls body)
