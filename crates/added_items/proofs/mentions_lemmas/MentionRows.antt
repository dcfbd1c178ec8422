-- Where statements name cells, row by row.
use Rattle.std.proofs.Common.{◌≡◌, ℕ, suc, Bool, true, false, List, [], ◌∷◌, ◌++◌, length, refl, ap, ap₂, sym, ◌∙◌}
use Rattle.std.specs.Prelude.{Result, OnOk}
use Rattle.std.proofs.lemmas.List.{append-nil, append_assoc}
use Rattle.std.proofs.lemmas.Result.{on_ok_weaker}
use Rattle.cob_tree.specs.declared.stmt.Stmt.{Stmt}
use Rattle.control_flow_theory.specs.language.Language as language
use Rattle.control_flow_theory.specs.language.Language.{none, also, done, given, missing, Nested, Performed, Stmts, Arms}
use Rattle.control_flow_theory.specs.language.Control.{seen}
use Rattle.control_flow_theory.specs.language.Own.{OwnAct, OwnTest, OwnPicker, OwnControl, OwnStmt, OwnStmts, OwnArms, OwnBody}
use Rattle.control_flow_theory.specs.semantics.Graph.{End, Pick, Jump, Return, Stop, Dead, Trees, no_more, more}
use Rattle.control_flow_theory.specs.graph_rules.Shapes.{followed, arm_stmts, arms_stmts, last_stmts}
use Rattle.control_flow_theory.specs.rendering.Rendering.{count_arms}
use Rattle.control_flow_theory.specs.structuring.Closes.{none_left_out}
use Rattle.control_flow_theory.specs.structuring.Dispatches.{stated_arms}
use Rattle.branch_tree.specs.declared.chooser.Picker.{Picker}
use Rattle.branch_tree.specs.declared.tree.Leaves.{Leaves}
use Rattle.branch_tree.specs.declared.tree.Tree as code
use Rattle.branch_tree.specs.Choosers.{seen_picker, seen_test}
use Rattle.branch_tree.specs.Tree.{seen_piece, seen_tree, seen_trees, seen_body, seen_end, jump_within, return_within, stated}
use Rattle.branch_tree.specs.declared.tree.Piece.TheVariants as piece
use Rattle.branch_tree.specs.declared.tree.End.TheVariants as end
use Rattle.control_flow_theory.specs.graph_rules.Loops.{turned_test}
use Rattle.branch_tree.specs.declared.chooser.Test.{Test}
use Rattle.branch_tree.proofs.TreeRows.{seen_tree_is, seen_own, seen_pick, seen_choose, seen_loop}
use Rattle.added_items.specs.mentions.CellUse.{act_mentions, test_mentions, picker_mentions, control_mentions, stmt_mentions, cell_uses, arms_mentions, body_mentions}
use Rattle.added_items.specs.mentions.Within.{end_within, trees_within}
use Rattle.added_items.specs.declared.mentions.cell_use.CellUse.{CellUse}

-- What is the program's own names none.

own_act : (act : language.Act) → OwnAct act → act_mentions act ≡ []
own_act (language.Own simple) h = refl
own_act (language.Set cell value) h = absurd h
own_act (language.Take cell amount) h = absurd h
own_act (language.Lower cell) h = absurd h

pub own_test : (test : language.Test) → OwnTest test → test_mentions test ≡ []
own_test (language.Holds cond) h = refl
own_test (language.Not test) h = own_test test h
own_test (language.Is cell value) h = absurd h
own_test (language.Above cell) h = absurd h

own_picker : (picker : language.Picker) (arms : ℕ) → OwnPicker picker → picker_mentions picker arms ≡ []
own_picker (language.If test) arms h = own_test test h
own_picker (language.By chooser) arms h = refl
own_picker (language.ByCell cell) arms h = absurd h

own_control : (control : language.Control) → OwnControl control → control_mentions control ≡ []
own_control (language.Times amount) h = refl
own_control (language.Until after test) h = own_test test h
own_control (language.Varying after set step test) h =
    ap₂ ◌++◌ (ap₂ ◌++◌ (own_act set h.0) (own_act step h.1)) (own_test test h.2)

mutual
  pub own_stmt : (stmt : language.Stmt) → OwnStmt stmt → stmt_mentions stmt ≡ []
  own_stmt (language.Do act) h = own_act act h
  own_stmt (language.Choose picker arms) h = ap₂ ◌++◌ (own_picker picker (count_arms arms) h.0) (own_arms arms h.1)
  own_stmt (language.Loop control body) h = ap₂ ◌++◌ (own_control control h.0) (own_body body h.1)
  own_stmt (language.Perform entry exit) h = refl
  own_stmt (language.Go to) h = refl
  own_stmt (language.GoDepending to chooser) h = refl
  own_stmt language.NextSentence h = refl
  own_stmt language.ExitParagraph h = refl
  own_stmt (language.ExitSection last) h = refl
  own_stmt (language.ExitPerform cycle) h = refl
  own_stmt language.StopRun h = refl

  own_stmts : (stmts : Stmts) → OwnStmts stmts → cell_uses stmts ≡ []
  own_stmts none h = refl
  own_stmts (also stmt stmts) h = ap₂ ◌++◌ (own_stmt stmt h.0) (own_stmts stmts h.1)

  own_arms : (arms : Arms) → OwnArms arms → arms_mentions arms ≡ []
  own_arms done h = refl
  own_arms (given arm others) h = ap₂ ◌++◌ (own_stmts arm h.0) (own_arms others h.1)
  own_arms (missing others) h = own_arms others h

  own_body : (body : language.Body) → OwnBody body → body_mentions body ≡ []
  own_body (Nested stmts) h = own_stmts stmts h
  own_body (Performed entry exit) h = refl

pub nothing_added : (made : List CellUse) → made ≡ made ++ []
nothing_added made = sym (append-nil made)

pub own_test_added : (made : List CellUse) (test : language.Test) → OwnTest test → made ≡ made ++ test_mentions test
own_test_added made test h = sym (ap (λ m. made ++ m) (own_test test h) ∙ append-nil made)

pub own_none : (stmt : language.Stmt) → OwnStmt stmt → stmt_mentions stmt ≡ []
own_none stmt h = own_stmt stmt h

pub own_added : (made : List CellUse) (stmt : Stmt) → stmt_mentions (seen 0 stmt) ≡ [] →
    made ≡ made ++ stmt_mentions (seen_piece (piece.Own stmt))
own_added made stmt h =
    sym (ap (λ (s : language.Stmt). made ++ stmt_mentions s) (seen_own stmt) ∙ ap (λ m. made ++ m) h ∙ append-nil made)

-- One list after the other.

pub followed_names : (a b : Stmts) → cell_uses (followed a b) ≡ cell_uses a ++ cell_uses b
followed_names none b = refl
followed_names (also stmt a) b =
    ap (λ m. stmt_mentions stmt ++ m) (followed_names a b)
    ∙ sym (append_assoc (stmt_mentions stmt) (cell_uses a) (cell_uses b))

last_names : (e : End) → cell_uses (last_stmts e) ≡ []
last_names (Pick picker arms) = refl
last_names (Jump to) = refl
last_names Return = refl
last_names Stop = refl
last_names Dead = refl

-- an arm of a choice that is a statement
pub arm_names : (t : code.Tree) → cell_uses (arm_stmts (seen_tree t)) ≡ cell_uses (seen_body t.body.items)
arm_names t =
    ap (λ x. cell_uses (arm_stmts x)) (seen_tree_is t)
    ∙ followed_names (seen_body t.body.items) (last_stmts (seen_end t.end))
    ∙ ap (λ m. cell_uses (seen_body t.body.items) ++ m) (last_names (seen_end t.end))
    ∙ append-nil (cell_uses (seen_body t.body.items))

-- how many arms it has

pub count_stmts : (trees : List code.Tree) → count_arms (arms_stmts (seen_trees trees)) ≡ length trees
count_stmts [] = refl
count_stmts (t ∷ ts) = ap suc (count_stmts ts)

-- Within a loop.

module _ (leaves : Leaves) where
  pub tree_names : (t : code.Tree) →
      cell_uses (stated leaves (seen_tree t)) ≡ cell_uses (seen_body t.body.items) ++ cell_uses (end_within leaves (seen_end t.end))
  tree_names t =
      ap (λ x. cell_uses (stated leaves x)) (seen_tree_is t)
      ∙ followed_names (seen_body t.body.items) (end_within leaves (seen_end t.end))

  abbrev stated_by : language.Picker → ℕ → Trees → Arms
  stated_by picker k trees = stated_arms none_left_out (jump_within leaves) (return_within leaves) picker k trees

  arms_names : (picker : language.Picker) (k : ℕ) (trees : Trees) → arms_mentions (stated_by picker k trees) ≡ trees_within leaves trees
  arms_names picker k no_more = refl
  arms_names picker k (more t ts) = ap (λ m. cell_uses (stated leaves t) ++ m) (arms_names picker (suc k) ts)

  count_stated : (picker : language.Picker) (k : ℕ) (trees : List code.Tree) →
      count_arms (stated_by picker k (seen_trees trees)) ≡ length trees
  count_stated picker k [] = refl
  count_stated picker k (t ∷ ts) = ap suc (count_stated picker (suc k) ts)

  -- a choice at the end of the tree
  pub pick_names : (by : Picker) (arms : List code.Tree) →
      cell_uses (end_within leaves (seen_end (end.Pick by arms)))
      ≡ picker_mentions (seen_picker by) (length arms) ++ trees_within leaves (seen_trees arms)
  pick_names by arms =
      let picker = seen_picker by in
      ap (λ e. cell_uses (end_within leaves e)) (seen_pick by arms)
      ∙ append-nil (picker_mentions picker (count_arms (stated_by picker 0 (seen_trees arms))) ++ arms_mentions (stated_by picker 0 (seen_trees arms)))
      ∙ ap₂ (λ n m. picker_mentions picker n ++ m) (count_stated picker 0 arms) (arms_names picker 0 (seen_trees arms))

-- Pieces.

pub choose_names : (by : Picker) (arms : List code.Tree) →
    stmt_mentions (seen_piece (piece.Choose by arms))
    ≡ picker_mentions (seen_picker by) (length arms) ++ arms_mentions (arms_stmts (seen_trees arms))
choose_names by arms =
    ap stmt_mentions (seen_choose by arms)
    ∙ ap (λ n. picker_mentions (seen_picker by) n ++ arms_mentions (arms_stmts (seen_trees arms))) (count_stmts arms)

turned_names : (turned : Bool) (test : language.Test) → test_mentions (turned_test turned test) ≡ test_mentions test
turned_names true test = refl
turned_names false test = refl

pub loop_names : (after turned : Bool) (test : Test) (leaves : Leaves) (body : code.Tree) →
    stmt_mentions (seen_piece (piece.Loop after turned test leaves body))
    ≡ test_mentions (seen_test test) ++ cell_uses (stated leaves (seen_tree body))
loop_names after turned test leaves body =
    ap stmt_mentions (seen_loop after turned test leaves body)
    ∙ ap (λ m. m ++ cell_uses (stated leaves (seen_tree body))) (turned_names turned (seen_test test))

-- one list is added, and then another
pub both_added : {T E : Type 0} (result : Result T E) (old mid new front back whole : List CellUse) →
    mid ≡ old ++ front → front ++ back ≡ whole → OnOk result (new ≡ mid ++ back) → OnOk result (new ≡ old ++ whole)
both_added result old mid new front back whole first all last =
    on_ok_weaker result
    (λ e. e ∙ ap (λ m. m ++ back) first ∙ append_assoc old front back ∙ ap (λ m. old ++ m) all) last
