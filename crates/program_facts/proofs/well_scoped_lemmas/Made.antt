-- What is made of named parts is named.
use Rattle.std.proofs.Common.{◌≡◌, ℕ, Bool, true, false, ◌&&◌, List, [], ◌∷◌, ◌++◌, map, Option, Some, None, refl, ap, sym, ◌∙◌, subst}
use Rattle.std.proofs.lemmas.Bool.{and_parts}
use Rattle.cob_tree.specs.declared.calc.Calc.{Calc}
use Rattle.cob_tree.specs.declared.calc.Target.{Target}
use Rattle.cob_tree.specs.declared.choice.Subject.{Subject}
use Rattle.cob_tree.specs.declared.choice.Test.{Test}
use Rattle.cob_tree.specs.declared.cond.ClassKind.{ClassKind}
use Rattle.cob_tree.specs.declared.cond.Cond.{Cond, fold-roll-Cond}
use Rattle.cob_tree.specs.declared.cond.Cond.TheOpen.{Cond-F}
use Rattle.cob_tree.specs.declared.cond.Cond.TheVariants as conds
use Rattle.cob_tree.specs.declared.cond.Rel.{Rel}
use Rattle.cob_tree.specs.declared.cond.SignKind.{SignKind}
use Rattle.cob_tree.specs.declared.control.Control.{Control}
use Rattle.cob_tree.specs.declared.file.Opening.{Opening}
use Rattle.cob_tree.specs.declared.number.Number.{Number}
use Rattle.cob_tree.specs.declared.place.Expr.{Expr, fold-roll-Expr}
use Rattle.cob_tree.specs.declared.place.Expr.TheOpen.{Expr-F, Operand-F, Place-F, Sub-F, Window-F}
use Rattle.cob_tree.specs.declared.place.Expr.TheVariants as exprs
use Rattle.cob_tree.specs.declared.place.Figure.{Figure}
use Rattle.cob_tree.specs.declared.place.Op.{Op}
use Rattle.cob_tree.specs.declared.place.Operand.{Operand, fold-roll-Operand}
use Rattle.cob_tree.specs.declared.place.Operand.TheVariants as operands
use Rattle.cob_tree.specs.declared.place.Place.{Place, roll-Place, fold-roll-Place}
use Rattle.cob_tree.specs.declared.place.Sub.{Sub, roll-Sub, fold-roll-Sub}
use Rattle.cob_tree.specs.declared.place.Window.{Window, roll-Window, fold-roll-Window}
use Rattle.cob_tree.specs.declared.stmt.Arms.{Arms, roll-Arms, fold-roll-Arms}
use Rattle.cob_tree.specs.declared.stmt.Stmt.{Stmt, fold-roll-Stmt}
use Rattle.cob_tree.specs.declared.stmt.Stmt.TheOpen.{Stmt-F, Arms-F, When-F}
use Rattle.cob_tree.specs.declared.stmt.Stmt.TheVariants as stmts
use Rattle.cob_tree.specs.declared.stmt.When.{When, roll-When, fold-roll-When}
use Rattle.control_flow_theory.specs.language.All.{all, all_if, if_there}
use Rattle.program_facts.specs.well_scoped.Part.{Counts, is_filled, if_any, number_named, item_named, file_named, paragraph_named, place_named, operand_named, expr_named, sub_named, window_named, subs_named, places_named, operands_named}
use Rattle.program_facts.specs.well_scoped.Part as part
use Rattle.program_facts.specs.well_scoped.Beside.{turns, is_truth, is_value, cond_named, control_named, calc_named, target_named, subject_named, test_named}
use Rattle.program_facts.specs.well_scoped.Beside as beside
use Rattle.program_facts.specs.well_scoped.Named.{Branch, arm, fit, opening_named, stmt_step, arms_step, when_step, stmt_named, arms_named, when_seen, stmts_named}

pub both : {a b : Bool} → a ≡ true → b ≡ true → (a && b) ≡ true
both {b = b} h k = ap (λ x. x && b) h ∙ k

module _ (counts : Counts) where
  -- ---- places and expressions

  pub place-made : (item : ℕ) (of : List (List ℕ)) (subs : List Sub) (window : Option Window) →
      item_named counts item ≡ true → subs_named counts subs ≡ true → if_any (window_named counts) window ≡ true →
      place_named counts (roll-Place (record { item = item; of = of; subs = subs; window = window })) ≡ true
  place-made item of subs None i s w =
      fold-roll-Place Bool Bool Bool Bool Bool (part.expr_step counts) (part.operand_step counts) (part.place_step counts) (part.sub_step counts) (part.window_step counts) (record { item = item; of = of; subs = subs; window = None })
      ∙ both (both i s) refl
  place-made item of subs (Some window) i s w =
      fold-roll-Place Bool Bool Bool Bool Bool (part.expr_step counts) (part.operand_step counts) (part.place_step counts) (part.sub_step counts) (part.window_step counts) (record { item = item; of = of; subs = subs; window = Some window })
      ∙ both (both i s) w

  pub sub-made : (base : Option Place) (plus : Number) →
      number_named plus ≡ true → if_any (place_named counts) base ≡ true → sub_named counts (roll-Sub (record { base = base; plus = plus })) ≡ true
  sub-made None plus n b =
      fold-roll-Sub Bool Bool Bool Bool Bool (part.expr_step counts) (part.operand_step counts) (part.place_step counts) (part.sub_step counts) (part.window_step counts) (record { base = None; plus = plus })
      ∙ both n refl
  sub-made (Some base) plus n b =
      fold-roll-Sub Bool Bool Bool Bool Bool (part.expr_step counts) (part.operand_step counts) (part.place_step counts) (part.sub_step counts) (part.window_step counts) (record { base = Some base; plus = plus })
      ∙ both n b

  pub window-made : (from : Expr) (length : Option Expr) →
      expr_named counts from ≡ true → if_any (expr_named counts) length ≡ true → window_named counts (roll-Window (record { from = from; length = length })) ≡ true
  window-made from None f l =
      fold-roll-Window Bool Bool Bool Bool Bool (part.expr_step counts) (part.operand_step counts) (part.place_step counts) (part.sub_step counts) (part.window_step counts) (record { from = from; length = None })
      ∙ both f refl
  window-made from (Some length) f l =
      fold-roll-Window Bool Bool Bool Bool Bool (part.expr_step counts) (part.operand_step counts) (part.place_step counts) (part.sub_step counts) (part.window_step counts) (record { from = from; length = Some length })
      ∙ both f l

  pub made-Place-operand : (place : Place) → place_named counts place ≡ true → operand_named counts (operands.Place place) ≡ true
  made-Place-operand place h0 =
      ap (operand_named counts) (sym (operands.rolls-Place place)) ∙ fold-roll-Operand Bool Bool Bool Bool Bool (part.expr_step counts) (part.operand_step counts) (part.place_step counts) (part.sub_step counts) (part.window_step counts) (Operand-F.Place place) ∙ h0

  pub made-Number-operand : (number : Number) → number_named number ≡ true → operand_named counts (operands.Number number) ≡ true
  made-Number-operand number h0 =
      ap (operand_named counts) (sym (operands.rolls-Number number)) ∙ fold-roll-Operand Bool Bool Bool Bool Bool (part.expr_step counts) (part.operand_step counts) (part.place_step counts) (part.sub_step counts) (part.window_step counts) (Operand-F.Number number) ∙ h0

  pub made-Text-operand : (text : List ℕ) → operand_named counts (operands.Text text) ≡ true
  made-Text-operand text =
      ap (operand_named counts) (sym (operands.rolls-Text text)) ∙ fold-roll-Operand Bool Bool Bool Bool Bool (part.expr_step counts) (part.operand_step counts) (part.place_step counts) (part.sub_step counts) (part.window_step counts) (Operand-F.Text text) ∙ refl

  pub made-Figure-operand : (figure : Figure) → operand_named counts (operands.Figure figure) ≡ true
  made-Figure-operand figure =
      ap (operand_named counts) (sym (operands.rolls-Figure figure)) ∙ fold-roll-Operand Bool Bool Bool Bool Bool (part.expr_step counts) (part.operand_step counts) (part.place_step counts) (part.sub_step counts) (part.window_step counts) (Operand-F.Figure figure) ∙ refl

  pub made-Leaf : (operand : Operand) → operand_named counts operand ≡ true → expr_named counts (exprs.Leaf operand) ≡ true
  made-Leaf operand h0 =
      ap (expr_named counts) (sym (exprs.rolls-Leaf operand)) ∙ fold-roll-Expr Bool Bool Bool Bool Bool (part.expr_step counts) (part.operand_step counts) (part.place_step counts) (part.sub_step counts) (part.window_step counts) (Expr-F.Leaf operand) ∙ h0

  pub made-Minus : (inner : Expr) → expr_named counts inner ≡ true → expr_named counts (exprs.Minus inner) ≡ true
  made-Minus inner h0 =
      ap (expr_named counts) (sym (exprs.rolls-Minus inner)) ∙ fold-roll-Expr Bool Bool Bool Bool Bool (part.expr_step counts) (part.operand_step counts) (part.place_step counts) (part.sub_step counts) (part.window_step counts) (Expr-F.Minus inner) ∙ h0

  pub made-Both : (op : Op) (left : Expr) (right : Expr) → expr_named counts left ≡ true → expr_named counts right ≡ true → expr_named counts (exprs.Both op left right) ≡ true
  made-Both op left right h0 h1 =
      ap (expr_named counts) (sym (exprs.rolls-Both op left right)) ∙ fold-roll-Expr Bool Bool Bool Bool Bool (part.expr_step counts) (part.operand_step counts) (part.place_step counts) (part.sub_step counts) (part.window_step counts) (Expr-F.Both op left right) ∙ both h0 h1

  -- ---- conditions

  pub made-Relation : (left : Expr) (rel : Rel) (right : Expr) → expr_named counts left ≡ true → expr_named counts right ≡ true → cond_named counts (conds.Relation left rel right) ≡ true
  made-Relation left rel right h0 h1 =
      ap (cond_named counts) (sym (conds.rolls-Relation left rel right)) ∙ fold-roll-Cond Bool (beside.cond_step counts) (Cond-F.Relation left rel right) ∙ both h0 h1

  pub made-Class : (place : Place) (kind : ClassKind) (not : Bool) → place_named counts place ≡ true → cond_named counts (conds.Class place kind not) ≡ true
  made-Class place kind not h0 =
      ap (cond_named counts) (sym (conds.rolls-Class place kind not)) ∙ fold-roll-Cond Bool (beside.cond_step counts) (Cond-F.Class place kind not) ∙ h0

  pub made-SignIs : (expr : Expr) (kind : SignKind) (not : Bool) → expr_named counts expr ≡ true → cond_named counts (conds.SignIs expr kind not) ≡ true
  made-SignIs expr kind not h0 =
      ap (cond_named counts) (sym (conds.rolls-SignIs expr kind not)) ∙ fold-roll-Cond Bool (beside.cond_step counts) (Cond-F.SignIs expr kind not) ∙ h0

  pub made-Named : (place : Place) → place_named counts place ≡ true → cond_named counts (conds.Named place) ≡ true
  made-Named place h0 =
      ap (cond_named counts) (sym (conds.rolls-Named place)) ∙ fold-roll-Cond Bool (beside.cond_step counts) (Cond-F.Named place) ∙ h0

  pub made-Not : (inner : Cond) → cond_named counts inner ≡ true → cond_named counts (conds.Not inner) ≡ true
  made-Not inner h0 =
      ap (cond_named counts) (sym (conds.rolls-Not inner)) ∙ fold-roll-Cond Bool (beside.cond_step counts) (Cond-F.Not inner) ∙ h0

  pub made-And : (left : Cond) (right : Cond) → cond_named counts left ≡ true → cond_named counts right ≡ true → cond_named counts (conds.And left right) ≡ true
  made-And left right h0 h1 =
      ap (cond_named counts) (sym (conds.rolls-And left right)) ∙ fold-roll-Cond Bool (beside.cond_step counts) (Cond-F.And left right) ∙ both h0 h1

  pub made-Or : (left : Cond) (right : Cond) → cond_named counts left ≡ true → cond_named counts right ≡ true → cond_named counts (conds.Or left right) ≡ true
  made-Or left right h0 h1 =
      ap (cond_named counts) (sym (conds.rolls-Or left right)) ∙ fold-roll-Cond Bool (beside.cond_step counts) (Cond-F.Or left right) ∙ both h0 h1

  -- ---- statements

  pub made-Display : (items : List Operand) (advance : Bool) → is_filled items ≡ true → operands_named counts items ≡ true → stmt_named counts (stmts.Display items advance) ≡ true
  made-Display items advance h0 h1 =
      ap (stmt_named counts) (sym (stmts.rolls-Display items advance)) ∙ fold-roll-Stmt Bool Bool Branch (stmt_step counts) (arms_step counts) (when_step counts) (Stmt-F.Display items advance) ∙ both h0 h1

  pub made-Move : (from : Operand) (to : List Place) → operand_named counts from ≡ true → is_filled to ≡ true → places_named counts to ≡ true → stmt_named counts (stmts.Move from to) ≡ true
  made-Move from to h0 h1 h2 =
      ap (stmt_named counts) (sym (stmts.rolls-Move from to)) ∙ fold-roll-Stmt Bool Bool Branch (stmt_step counts) (arms_step counts) (when_step counts) (Stmt-F.Move from to) ∙ both h0 (both h1 h2)

  pub made-Arith : (calc : Calc) (into : List Target) (arms : Arms) → calc_named counts calc ≡ true → is_filled into ≡ true → all (map (target_named counts) into) ≡ true → arms_named counts arms ≡ true → stmt_named counts (stmts.Arith calc into arms) ≡ true
  made-Arith calc into arms h0 h1 h2 h3 =
      ap (stmt_named counts) (sym (stmts.rolls-Arith calc into arms)) ∙ fold-roll-Stmt Bool Bool Branch (stmt_step counts) (arms_step counts) (when_step counts) (Stmt-F.Arith calc into arms) ∙ both (both h0 (both h1 h2)) h3

  pub made-SetTrue : (place : Place) → place_named counts place ≡ true → stmt_named counts (stmts.SetTrue place) ≡ true
  made-SetTrue place h0 =
      ap (stmt_named counts) (sym (stmts.rolls-SetTrue place)) ∙ fold-roll-Stmt Bool Bool Branch (stmt_step counts) (arms_step counts) (when_step counts) (Stmt-F.SetTrue place) ∙ h0

  pub made-Opens : (openings : List Opening) → is_filled openings ≡ true → all (map (opening_named counts) openings) ≡ true → stmt_named counts (stmts.Opens openings) ≡ true
  made-Opens openings h0 h1 =
      ap (stmt_named counts) (sym (stmts.rolls-Opens openings)) ∙ fold-roll-Stmt Bool Bool Branch (stmt_step counts) (arms_step counts) (when_step counts) (Stmt-F.Opens openings) ∙ both h0 h1

  pub made-Closes : (files : List ℕ) → is_filled files ≡ true → all (map (file_named counts) files) ≡ true → stmt_named counts (stmts.Closes files) ≡ true
  made-Closes files h0 h1 =
      ap (stmt_named counts) (sym (stmts.rolls-Closes files)) ∙ fold-roll-Stmt Bool Bool Branch (stmt_step counts) (arms_step counts) (when_step counts) (Stmt-F.Closes files) ∙ both h0 h1

  pub made-Read : (file : ℕ) (into : Option Place) (arms : Arms) → file_named counts file ≡ true → if_any (place_named counts) into ≡ true → arms_named counts arms ≡ true → stmt_named counts (stmts.Read file into arms) ≡ true
  made-Read file into arms h0 h1 h2 =
      ap (stmt_named counts) (sym (stmts.rolls-Read file into arms)) ∙ fold-roll-Stmt Bool Bool Branch (stmt_step counts) (arms_step counts) (when_step counts) (Stmt-F.Read file into arms) ∙ both (both h0 h1) h2

  pub made-Write : (entry : ℕ) (from : Option Operand) → item_named counts entry ≡ true → if_any (operand_named counts) from ≡ true → stmt_named counts (stmts.Write entry from) ≡ true
  made-Write entry from h0 h1 =
      ap (stmt_named counts) (sym (stmts.rolls-Write entry from)) ∙ fold-roll-Stmt Bool Bool Branch (stmt_step counts) (arms_step counts) (when_step counts) (Stmt-F.Write entry from) ∙ both h0 h1

  pub made-Rewrite : (entry : ℕ) (from : Option Operand) → item_named counts entry ≡ true → if_any (operand_named counts) from ≡ true → stmt_named counts (stmts.Rewrite entry from) ≡ true
  made-Rewrite entry from h0 h1 =
      ap (stmt_named counts) (sym (stmts.rolls-Rewrite entry from)) ∙ fold-roll-Stmt Bool Bool Branch (stmt_step counts) (arms_step counts) (when_step counts) (Stmt-F.Rewrite entry from) ∙ both h0 h1

  pub made-Perform : (entry : ℕ) (exit : ℕ) (control : Control) → paragraph_named counts entry ≡ true → paragraph_named counts exit ≡ true → control_named counts control ≡ true → stmt_named counts (stmts.Perform entry exit control) ≡ true
  made-Perform entry exit control h0 h1 h2 =
      ap (stmt_named counts) (sym (stmts.rolls-Perform entry exit control)) ∙ fold-roll-Stmt Bool Bool Branch (stmt_step counts) (arms_step counts) (when_step counts) (Stmt-F.Perform entry exit control) ∙ both (both h0 h1) h2

  pub made-Go : (to : ℕ) → paragraph_named counts to ≡ true → stmt_named counts (stmts.Go to) ≡ true
  made-Go to h0 =
      ap (stmt_named counts) (sym (stmts.rolls-Go to)) ∙ fold-roll-Stmt Bool Bool Branch (stmt_step counts) (arms_step counts) (when_step counts) (Stmt-F.Go to) ∙ h0

  pub made-GoDepending : (to : List ℕ) (on : Place) → is_filled to ≡ true → all (map (paragraph_named counts) to) ≡ true → place_named counts on ≡ true → stmt_named counts (stmts.GoDepending to on) ≡ true
  made-GoDepending to on h0 h1 h2 =
      ap (stmt_named counts) (sym (stmts.rolls-GoDepending to on)) ∙ fold-roll-Stmt Bool Bool Branch (stmt_step counts) (arms_step counts) (when_step counts) (Stmt-F.GoDepending to on) ∙ both (both h0 h1) h2

  pub made-NextSentence : stmt_named counts stmts.NextSentence ≡ true
  made-NextSentence =
      ap (stmt_named counts) (sym (stmts.rolls-NextSentence)) ∙ fold-roll-Stmt Bool Bool Branch (stmt_step counts) (arms_step counts) (when_step counts) Stmt-F.NextSentence ∙ refl

  pub made-StopRun : stmt_named counts stmts.StopRun ≡ true
  made-StopRun =
      ap (stmt_named counts) (sym (stmts.rolls-StopRun)) ∙ fold-roll-Stmt Bool Bool Branch (stmt_step counts) (arms_step counts) (when_step counts) Stmt-F.StopRun ∙ refl

  pub made-Exit : stmt_named counts stmts.Exit ≡ true
  made-Exit =
      ap (stmt_named counts) (sym (stmts.rolls-Exit)) ∙ fold-roll-Stmt Bool Bool Branch (stmt_step counts) (arms_step counts) (when_step counts) Stmt-F.Exit ∙ refl

  pub made-ExitParagraph : stmt_named counts stmts.ExitParagraph ≡ true
  made-ExitParagraph =
      ap (stmt_named counts) (sym (stmts.rolls-ExitParagraph)) ∙ fold-roll-Stmt Bool Bool Branch (stmt_step counts) (arms_step counts) (when_step counts) Stmt-F.ExitParagraph ∙ refl

  pub made-ExitSection : stmt_named counts stmts.ExitSection ≡ true
  made-ExitSection =
      ap (stmt_named counts) (sym (stmts.rolls-ExitSection)) ∙ fold-roll-Stmt Bool Bool Branch (stmt_step counts) (arms_step counts) (when_step counts) Stmt-F.ExitSection ∙ refl

  pub made-ExitPerform : (cycle : Bool) → stmt_named counts (stmts.ExitPerform cycle) ≡ true
  made-ExitPerform cycle =
      ap (stmt_named counts) (sym (stmts.rolls-ExitPerform cycle)) ∙ fold-roll-Stmt Bool Bool Branch (stmt_step counts) (arms_step counts) (when_step counts) (Stmt-F.ExitPerform cycle) ∙ refl

  pub made-Continue : stmt_named counts stmts.Continue ≡ true
  made-Continue =
      ap (stmt_named counts) (sym (stmts.rolls-Continue)) ∙ fold-roll-Stmt Bool Bool Branch (stmt_step counts) (arms_step counts) (when_step counts) Stmt-F.Continue ∙ refl

  -- those that hold others

  arm-made : (list : List Stmt) → is_filled list ≡ true → stmts_named counts list ≡ true → arm (map (stmt_named counts) list) ≡ true
  arm-made [] f e = absurd (apart f)
    where
      apart : false ≡ true → ⊥
      apart e = cc
  arm-made (stmt ∷ list) f e = both refl e

  pub made-If : (cond : Cond) (met unmet : List Stmt) → cond_named counts cond ≡ true → is_filled met ≡ true → stmts_named counts met ≡ true → stmts_named counts unmet ≡ true →
      stmt_named counts (stmts.If cond met unmet) ≡ true
  made-If cond met unmet c f m u =
      ap (stmt_named counts) (sym (stmts.rolls-If cond met unmet)) ∙ fold-roll-Stmt Bool Bool Branch (stmt_step counts) (arms_step counts) (when_step counts) (Stmt-F.If cond met unmet)
      ∙ both (both c (arm-made met f m)) u

  pub made-Loop : (control : Control) (body : List Stmt) → turns control ≡ true → control_named counts control ≡ true → is_filled body ≡ true → stmts_named counts body ≡ true →
      stmt_named counts (stmts.Loop control body) ≡ true
  made-Loop control body t c f b =
      ap (stmt_named counts) (sym (stmts.rolls-Loop control body)) ∙ fold-roll-Stmt Bool Bool Branch (stmt_step counts) (arms_step counts) (when_step counts) (Stmt-F.Loop control body)
      ∙ both (both t c) (arm-made body f b)

  -- an arm that may be missing
  abbrev pub given_named : List Stmt → Bool
  given_named list = is_filled list && stmts_named counts list

  given-made : (list : List Stmt) → given_named list ≡ true → arm (map (stmt_named counts) list) ≡ true
  given-made [] e = e
  given-made (stmt ∷ list) e = e

  pub made-Arms : (first second : Option (List Stmt)) → if_any given_named first ≡ true → if_any given_named second ≡ true →
      arms_named counts (roll-Arms (record { first = first; second = second })) ≡ true
  made-Arms None None f s = fold-roll-Arms Bool Bool Branch (stmt_step counts) (arms_step counts) (when_step counts) (record { first = None; second = None }) ∙ refl
  made-Arms None (Some second) f s = fold-roll-Arms Bool Bool Branch (stmt_step counts) (arms_step counts) (when_step counts) (record { first = None; second = Some second }) ∙ given-made second s
  made-Arms (Some first) None f s = fold-roll-Arms Bool Bool Branch (stmt_step counts) (arms_step counts) (when_step counts) (record { first = Some first; second = None }) ∙ both (given-made first f) refl
  made-Arms (Some first) (Some second) f s = fold-roll-Arms Bool Bool Branch (stmt_step counts) (arms_step counts) (when_step counts) (record { first = Some first; second = Some second }) ∙ both (given-made first f) (given-made second s)

  abbrev pub when_of : List Test → List Stmt → When
  when_of tests held = roll-When (record { tests = tests; stmts = held })

  pub made-When : (tests : List Test) (held : List Stmt) → is_filled tests ≡ true → all (map (test_named counts) tests) ≡ true → given_named held ≡ true →
      (when_seen counts (when_of tests held)).named ≡ true
  made-When tests held f t h =
      ap (λ b. b.named) (fold-roll-When Bool Bool Branch (stmt_step counts) (arms_step counts) (when_step counts) (record { tests = tests; stmts = held })) ∙ both (both f t) (given-made held h)

  pub truths-When : (tests : List Test) (held : List Stmt) → all (map is_truth tests) ≡ true → (when_seen counts (when_of tests held)).truths ≡ true
  truths-When tests held t = ap (λ b. b.truths) (fold-roll-When Bool Bool Branch (stmt_step counts) (arms_step counts) (when_step counts) (record { tests = tests; stmts = held })) ∙ t

  pub values-When : (tests : List Test) (held : List Stmt) → all (map is_value tests) ≡ true → (when_seen counts (when_of tests held)).values ≡ true
  values-When tests held t = ap (λ b. b.values) (fold-roll-When Bool Bool Branch (stmt_step counts) (arms_step counts) (when_step counts) (record { tests = tests; stmts = held })) ∙ t

  named-all : (whens : List When) → all (map (λ when. (when_seen counts when).named) whens) ≡ true → all (map (λ when. when.named) (map (when_seen counts) whens)) ≡ true
  named-all [] e = e
  named-all (when ∷ whens) e = let h = and_parts (when_seen counts when).named (all (map (λ when. (when_seen counts when).named) whens)) e in both h.0 (named-all whens h.1)

  filled-map : {X Y : Type 0} (f : X → Y) (list : List X) → is_filled list ≡ true → is_filled (map f list) ≡ true
  filled-map f [] e = e
  filled-map f (x ∷ list) e = e

  pub made-Evaluate : (subject : Subject) (whens : List When) (other : Option (List Stmt)) → subject_named counts subject ≡ true → is_filled whens ≡ true →
      all (map (λ when. (when_seen counts when).named) whens) ≡ true → fit subject (map (when_seen counts) whens) ≡ true → if_any given_named other ≡ true →
      stmt_named counts (stmts.Evaluate subject whens other) ≡ true
  made-Evaluate subject whens None s f w t o =
      ap (stmt_named counts) (sym (stmts.rolls-Evaluate subject whens None)) ∙ fold-roll-Stmt Bool Bool Branch (stmt_step counts) (arms_step counts) (when_step counts) (Stmt-F.Evaluate subject whens None)
      ∙ both (both (both s (both (filled-map (when_seen counts) whens f) (named-all whens w))) t) refl
  made-Evaluate subject whens (Some other) s f w t o =
      ap (stmt_named counts) (sym (stmts.rolls-Evaluate subject whens (Some other))) ∙ fold-roll-Stmt Bool Bool Branch (stmt_step counts) (arms_step counts) (when_step counts) (Stmt-F.Evaluate subject whens (Some other))
      ∙ both (both (both s (both (filled-map (when_seen counts) whens f) (named-all whens w))) t) (given-made other o)

-- ---- lists

pub all-added : {X : Type 0} (test : X → Bool) (front : List X) (x : X) → all (map test front) ≡ true → test x ≡ true → all (map test (front ++ x ∷ [])) ≡ true
all-added test [] x f e = both e refl
all-added test (y ∷ front) x f e = let h = and_parts (test y) (all (map test front)) f in both h.0 (all-added test front x h.1 e)

pub filled-added : {X : Type 0} (front : List X) (x : X) → is_filled (front ++ x ∷ []) ≡ true
filled-added [] x = refl
filled-added (y ∷ front) x = refl
