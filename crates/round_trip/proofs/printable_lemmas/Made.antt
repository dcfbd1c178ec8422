-- What is made of parts that can be printed can be.
use Rattle.std.proofs.Common.{◌≡◌, ℕ, Bool, true, List, map, Option, Some, None, refl, ap, sym, ◌∙◌}
use Rattle.cob_tree.specs.declared.calc.Calc.{Calc}
use Rattle.cob_tree.specs.declared.calc.Target.{Target}
use Rattle.cob_tree.specs.declared.choice.Subject.{Subject}
use Rattle.cob_tree.specs.declared.choice.Test.{Test}
use Rattle.cob_tree.specs.declared.cond.ClassKind.{ClassKind}
use Rattle.cob_tree.specs.declared.cond.Cond.{Cond, fold-roll-Cond}
use Rattle.cob_tree.specs.declared.cond.Cond.TheOpen.{Cond-F}
use Rattle.cob_tree.specs.declared.cond.Cond.TheVariants as conds
use Rattle.cob_tree.specs.declared.cond.Rel.{Rel}
use Rattle.cob_tree.specs.declared.cond.SignKind.{SignKind}
use Rattle.cob_tree.specs.declared.control.Control.{Control}
use Rattle.cob_tree.specs.declared.file.Opening.{Opening}
use Rattle.cob_tree.specs.declared.number.Number.{Number}
use Rattle.cob_tree.specs.declared.place.Expr.{Expr, fold-roll-Expr}
use Rattle.cob_tree.specs.declared.place.Expr.TheOpen.{Expr-F, Operand-F}
use Rattle.cob_tree.specs.declared.place.Expr.TheVariants as exprs
use Rattle.cob_tree.specs.declared.place.Figure.{Figure}
use Rattle.cob_tree.specs.declared.place.Op.{Op}
use Rattle.cob_tree.specs.declared.place.Operand.{Operand, fold-roll-Operand}
use Rattle.cob_tree.specs.declared.place.Operand.TheVariants as operands
use Rattle.cob_tree.specs.declared.place.Place.{Place, roll-Place, fold-roll-Place}
use Rattle.cob_tree.specs.declared.place.Sub.{Sub, roll-Sub, fold-roll-Sub}
use Rattle.cob_tree.specs.declared.place.Window.{Window, roll-Window, fold-roll-Window}
use Rattle.cob_tree.specs.declared.stmt.Arms.{Arms, roll-Arms, fold-roll-Arms}
use Rattle.cob_tree.specs.declared.stmt.Stmt.{Stmt, fold-roll-Stmt}
use Rattle.cob_tree.specs.declared.stmt.Stmt.TheOpen.{Stmt-F}
use Rattle.cob_tree.specs.declared.stmt.Stmt.TheVariants as stmts
use Rattle.cob_tree.specs.declared.stmt.When.{When, roll-When, fold-roll-When}
use Rattle.control_flow_theory.specs.language.All.{all}
use Rattle.program_facts.specs.well_scoped.Part.{if_any, number_named}
use Rattle.program_facts.proofs.well_scoped_lemmas.Made.{both}
use Rattle.round_trip.specs.printable.printable_tokens.Printable.{is_printable_text}
use Rattle.round_trip.specs.printable.Part as part
use Rattle.round_trip.specs.printable.Part.{is_printable_name, is_printable_place, are_printable_places, is_printable_operand, are_printable_operands, is_printable_expr, is_printable_sub, is_printable_window}
use Rattle.round_trip.specs.printable.Beside as beside
use Rattle.round_trip.specs.printable.Beside.{is_printable_cond, is_printable_control, is_printable_calc, is_printable_target, is_printable_subject, is_printable_test}
use Rattle.round_trip.specs.printable.Statement.{stmt_step, arms_step, when_step, is_printable_stmt, are_printable_arms, is_printable_when, are_printable_stmts}

-- ---- places and expressions

abbrev pub are_printable_names : List (List ℕ) → Bool
are_printable_names names = all (map is_printable_name names)

abbrev pub are_printable_subs : List Sub → Bool
are_printable_subs subs = all (map is_printable_sub subs)

pub place-made : (item : ℕ) (of : List (List ℕ)) (subs : List Sub) (window : Option Window) →
    are_printable_names of ≡ true → are_printable_subs subs ≡ true → if_any is_printable_window window ≡ true →
    is_printable_place (roll-Place (record { item = item; of = of; subs = subs; window = window })) ≡ true
place-made item of subs None i s w =
    fold-roll-Place Bool Bool Bool Bool Bool part.expr_step part.operand_step part.place_step part.sub_step part.window_step (record { item = item; of = of; subs = subs; window = None })
    ∙ both (both i s) refl
place-made item of subs (Some window) i s w =
    fold-roll-Place Bool Bool Bool Bool Bool part.expr_step part.operand_step part.place_step part.sub_step part.window_step (record { item = item; of = of; subs = subs; window = Some window })
    ∙ both (both i s) w

pub sub-made : (base : Option Place) (plus : Number) →
    number_named plus ≡ true → if_any is_printable_place base ≡ true → is_printable_sub (roll-Sub (record { base = base; plus = plus })) ≡ true
sub-made None plus n b =
    fold-roll-Sub Bool Bool Bool Bool Bool part.expr_step part.operand_step part.place_step part.sub_step part.window_step (record { base = None; plus = plus }) ∙ both n refl
sub-made (Some base) plus n b =
    fold-roll-Sub Bool Bool Bool Bool Bool part.expr_step part.operand_step part.place_step part.sub_step part.window_step (record { base = Some base; plus = plus }) ∙ both n b

pub window-made : (from : Expr) (length : Option Expr) →
    is_printable_expr from ≡ true → if_any is_printable_expr length ≡ true → is_printable_window (roll-Window (record { from = from; length = length })) ≡ true
window-made from None f l =
    fold-roll-Window Bool Bool Bool Bool Bool part.expr_step part.operand_step part.place_step part.sub_step part.window_step (record { from = from; length = None }) ∙ both f refl
window-made from (Some length) f l =
    fold-roll-Window Bool Bool Bool Bool Bool part.expr_step part.operand_step part.place_step part.sub_step part.window_step (record { from = from; length = Some length }) ∙ both f l

pub made-Place-operand : (place : Place) → is_printable_place place ≡ true → is_printable_operand (operands.Place place) ≡ true
made-Place-operand place h0 =
    ap is_printable_operand (sym (operands.rolls-Place place)) ∙ fold-roll-Operand Bool Bool Bool Bool Bool part.expr_step part.operand_step part.place_step part.sub_step part.window_step (Operand-F.Place place) ∙ h0

pub made-Number-operand : (number : Number) → number_named number ≡ true → is_printable_operand (operands.Number number) ≡ true
made-Number-operand number h0 =
    ap is_printable_operand (sym (operands.rolls-Number number)) ∙ fold-roll-Operand Bool Bool Bool Bool Bool part.expr_step part.operand_step part.place_step part.sub_step part.window_step (Operand-F.Number number) ∙ h0

pub made-Text-operand : (text : List ℕ) → is_printable_text text ≡ true → is_printable_operand (operands.Text text) ≡ true
made-Text-operand text h0 =
    ap is_printable_operand (sym (operands.rolls-Text text)) ∙ fold-roll-Operand Bool Bool Bool Bool Bool part.expr_step part.operand_step part.place_step part.sub_step part.window_step (Operand-F.Text text) ∙ h0

pub made-Figure-operand : (figure : Figure) → is_printable_operand (operands.Figure figure) ≡ true
made-Figure-operand figure =
    ap is_printable_operand (sym (operands.rolls-Figure figure)) ∙ fold-roll-Operand Bool Bool Bool Bool Bool part.expr_step part.operand_step part.place_step part.sub_step part.window_step (Operand-F.Figure figure) ∙ refl

pub made-Leaf : (operand : Operand) → is_printable_operand operand ≡ true → is_printable_expr (exprs.Leaf operand) ≡ true
made-Leaf operand h0 =
    ap is_printable_expr (sym (exprs.rolls-Leaf operand)) ∙ fold-roll-Expr Bool Bool Bool Bool Bool part.expr_step part.operand_step part.place_step part.sub_step part.window_step (Expr-F.Leaf operand) ∙ h0

pub made-Minus : (inner : Expr) → is_printable_expr inner ≡ true → is_printable_expr (exprs.Minus inner) ≡ true
made-Minus inner h0 =
    ap is_printable_expr (sym (exprs.rolls-Minus inner)) ∙ fold-roll-Expr Bool Bool Bool Bool Bool part.expr_step part.operand_step part.place_step part.sub_step part.window_step (Expr-F.Minus inner) ∙ h0

pub made-Both : (op : Op) (left : Expr) (right : Expr) → is_printable_expr left ≡ true → is_printable_expr right ≡ true → is_printable_expr (exprs.Both op left right) ≡ true
made-Both op left right h0 h1 =
    ap is_printable_expr (sym (exprs.rolls-Both op left right)) ∙ fold-roll-Expr Bool Bool Bool Bool Bool part.expr_step part.operand_step part.place_step part.sub_step part.window_step (Expr-F.Both op left right) ∙ both h0 h1

-- ---- conditions

pub made-Relation : (left : Expr) (rel : Rel) (right : Expr) → is_printable_expr left ≡ true → is_printable_expr right ≡ true → is_printable_cond (conds.Relation left rel right) ≡ true
made-Relation left rel right h0 h1 =
    ap is_printable_cond (sym (conds.rolls-Relation left rel right)) ∙ fold-roll-Cond Bool beside.cond_step (Cond-F.Relation left rel right) ∙ both h0 h1

pub made-Class : (place : Place) (kind : ClassKind) (not : Bool) → is_printable_place place ≡ true → is_printable_cond (conds.Class place kind not) ≡ true
made-Class place kind not h0 =
    ap is_printable_cond (sym (conds.rolls-Class place kind not)) ∙ fold-roll-Cond Bool beside.cond_step (Cond-F.Class place kind not) ∙ h0

pub made-SignIs : (expr : Expr) (kind : SignKind) (not : Bool) → is_printable_expr expr ≡ true → is_printable_cond (conds.SignIs expr kind not) ≡ true
made-SignIs expr kind not h0 =
    ap is_printable_cond (sym (conds.rolls-SignIs expr kind not)) ∙ fold-roll-Cond Bool beside.cond_step (Cond-F.SignIs expr kind not) ∙ h0

pub made-Named : (place : Place) → is_printable_place place ≡ true → is_printable_cond (conds.Named place) ≡ true
made-Named place h0 =
    ap is_printable_cond (sym (conds.rolls-Named place)) ∙ fold-roll-Cond Bool beside.cond_step (Cond-F.Named place) ∙ h0

pub made-Not : (inner : Cond) → is_printable_cond inner ≡ true → is_printable_cond (conds.Not inner) ≡ true
made-Not inner h0 =
    ap is_printable_cond (sym (conds.rolls-Not inner)) ∙ fold-roll-Cond Bool beside.cond_step (Cond-F.Not inner) ∙ h0

pub made-And : (left : Cond) (right : Cond) → is_printable_cond left ≡ true → is_printable_cond right ≡ true → is_printable_cond (conds.And left right) ≡ true
made-And left right h0 h1 =
    ap is_printable_cond (sym (conds.rolls-And left right)) ∙ fold-roll-Cond Bool beside.cond_step (Cond-F.And left right) ∙ both h0 h1

pub made-Or : (left : Cond) (right : Cond) → is_printable_cond left ≡ true → is_printable_cond right ≡ true → is_printable_cond (conds.Or left right) ≡ true
made-Or left right h0 h1 =
    ap is_printable_cond (sym (conds.rolls-Or left right)) ∙ fold-roll-Cond Bool beside.cond_step (Cond-F.Or left right) ∙ both h0 h1

-- ---- statements

pub made-Display : (items : List Operand) (advance : Bool) → are_printable_operands items ≡ true → is_printable_stmt (stmts.Display items advance) ≡ true
made-Display items advance h0 =
    ap is_printable_stmt (sym (stmts.rolls-Display items advance)) ∙ fold-roll-Stmt Bool Bool Bool stmt_step arms_step when_step (Stmt-F.Display items advance) ∙ h0

pub made-Move : (from : Operand) (to : List Place) → is_printable_operand from ≡ true → are_printable_places to ≡ true → is_printable_stmt (stmts.Move from to) ≡ true
made-Move from to h0 h1 =
    ap is_printable_stmt (sym (stmts.rolls-Move from to)) ∙ fold-roll-Stmt Bool Bool Bool stmt_step arms_step when_step (Stmt-F.Move from to) ∙ both h0 h1

pub made-Arith : (calc : Calc) (into : List Target) (arms : Arms) → is_printable_calc calc ≡ true → all (map is_printable_target into) ≡ true → are_printable_arms arms ≡ true → is_printable_stmt (stmts.Arith calc into arms) ≡ true
made-Arith calc into arms h0 h1 h2 =
    ap is_printable_stmt (sym (stmts.rolls-Arith calc into arms)) ∙ fold-roll-Stmt Bool Bool Bool stmt_step arms_step when_step (Stmt-F.Arith calc into arms) ∙ both (both h0 h1) h2

pub made-SetTrue : (place : Place) → is_printable_place place ≡ true → is_printable_stmt (stmts.SetTrue place) ≡ true
made-SetTrue place h0 =
    ap is_printable_stmt (sym (stmts.rolls-SetTrue place)) ∙ fold-roll-Stmt Bool Bool Bool stmt_step arms_step when_step (Stmt-F.SetTrue place) ∙ h0

pub made-Opens : (openings : List Opening) → is_printable_stmt (stmts.Opens openings) ≡ true
made-Opens openings =
    ap is_printable_stmt (sym (stmts.rolls-Opens openings)) ∙ fold-roll-Stmt Bool Bool Bool stmt_step arms_step when_step (Stmt-F.Opens openings) ∙ refl

pub made-Closes : (files : List ℕ) → is_printable_stmt (stmts.Closes files) ≡ true
made-Closes files =
    ap is_printable_stmt (sym (stmts.rolls-Closes files)) ∙ fold-roll-Stmt Bool Bool Bool stmt_step arms_step when_step (Stmt-F.Closes files) ∙ refl

pub made-Read : (file : ℕ) (into : Option Place) (arms : Arms) → if_any is_printable_place into ≡ true → are_printable_arms arms ≡ true → is_printable_stmt (stmts.Read file into arms) ≡ true
made-Read file into arms h0 h1 =
    ap is_printable_stmt (sym (stmts.rolls-Read file into arms)) ∙ fold-roll-Stmt Bool Bool Bool stmt_step arms_step when_step (Stmt-F.Read file into arms) ∙ both h0 h1

pub made-Write : (entry : ℕ) (from : Option Operand) → if_any is_printable_operand from ≡ true → is_printable_stmt (stmts.Write entry from) ≡ true
made-Write entry from h0 =
    ap is_printable_stmt (sym (stmts.rolls-Write entry from)) ∙ fold-roll-Stmt Bool Bool Bool stmt_step arms_step when_step (Stmt-F.Write entry from) ∙ h0

pub made-Rewrite : (entry : ℕ) (from : Option Operand) → if_any is_printable_operand from ≡ true → is_printable_stmt (stmts.Rewrite entry from) ≡ true
made-Rewrite entry from h0 =
    ap is_printable_stmt (sym (stmts.rolls-Rewrite entry from)) ∙ fold-roll-Stmt Bool Bool Bool stmt_step arms_step when_step (Stmt-F.Rewrite entry from) ∙ h0

pub made-If : (cond : Cond) (met : List Stmt) (unmet : List Stmt) → is_printable_cond cond ≡ true → are_printable_stmts met ≡ true → are_printable_stmts unmet ≡ true → is_printable_stmt (stmts.If cond met unmet) ≡ true
made-If cond met unmet h0 h1 h2 =
    ap is_printable_stmt (sym (stmts.rolls-If cond met unmet)) ∙ fold-roll-Stmt Bool Bool Bool stmt_step arms_step when_step (Stmt-F.If cond met unmet) ∙ both (both h0 h1) h2

pub made-Loop : (control : Control) (body : List Stmt) → is_printable_control control ≡ true → are_printable_stmts body ≡ true → is_printable_stmt (stmts.Loop control body) ≡ true
made-Loop control body h0 h1 =
    ap is_printable_stmt (sym (stmts.rolls-Loop control body)) ∙ fold-roll-Stmt Bool Bool Bool stmt_step arms_step when_step (Stmt-F.Loop control body) ∙ both h0 h1

pub made-Perform : (entry : ℕ) (exit : ℕ) (control : Control) → is_printable_control control ≡ true → is_printable_stmt (stmts.Perform entry exit control) ≡ true
made-Perform entry exit control h0 =
    ap is_printable_stmt (sym (stmts.rolls-Perform entry exit control)) ∙ fold-roll-Stmt Bool Bool Bool stmt_step arms_step when_step (Stmt-F.Perform entry exit control) ∙ h0

pub made-Go : (to : ℕ) → is_printable_stmt (stmts.Go to) ≡ true
made-Go to =
    ap is_printable_stmt (sym (stmts.rolls-Go to)) ∙ fold-roll-Stmt Bool Bool Bool stmt_step arms_step when_step (Stmt-F.Go to) ∙ refl

pub made-GoDepending : (to : List ℕ) (on : Place) → is_printable_place on ≡ true → is_printable_stmt (stmts.GoDepending to on) ≡ true
made-GoDepending to on h0 =
    ap is_printable_stmt (sym (stmts.rolls-GoDepending to on)) ∙ fold-roll-Stmt Bool Bool Bool stmt_step arms_step when_step (Stmt-F.GoDepending to on) ∙ h0

pub made-NextSentence : is_printable_stmt stmts.NextSentence ≡ true
made-NextSentence =
    ap is_printable_stmt (sym stmts.rolls-NextSentence) ∙ fold-roll-Stmt Bool Bool Bool stmt_step arms_step when_step Stmt-F.NextSentence ∙ refl

pub made-StopRun : is_printable_stmt stmts.StopRun ≡ true
made-StopRun =
    ap is_printable_stmt (sym stmts.rolls-StopRun) ∙ fold-roll-Stmt Bool Bool Bool stmt_step arms_step when_step Stmt-F.StopRun ∙ refl

pub made-Exit : is_printable_stmt stmts.Exit ≡ true
made-Exit =
    ap is_printable_stmt (sym stmts.rolls-Exit) ∙ fold-roll-Stmt Bool Bool Bool stmt_step arms_step when_step Stmt-F.Exit ∙ refl

pub made-ExitParagraph : is_printable_stmt stmts.ExitParagraph ≡ true
made-ExitParagraph =
    ap is_printable_stmt (sym stmts.rolls-ExitParagraph) ∙ fold-roll-Stmt Bool Bool Bool stmt_step arms_step when_step Stmt-F.ExitParagraph ∙ refl

pub made-ExitSection : is_printable_stmt stmts.ExitSection ≡ true
made-ExitSection =
    ap is_printable_stmt (sym stmts.rolls-ExitSection) ∙ fold-roll-Stmt Bool Bool Bool stmt_step arms_step when_step Stmt-F.ExitSection ∙ refl

pub made-ExitPerform : (cycle : Bool) → is_printable_stmt (stmts.ExitPerform cycle) ≡ true
made-ExitPerform cycle =
    ap is_printable_stmt (sym (stmts.rolls-ExitPerform cycle)) ∙ fold-roll-Stmt Bool Bool Bool stmt_step arms_step when_step (Stmt-F.ExitPerform cycle) ∙ refl

pub made-Continue : is_printable_stmt stmts.Continue ≡ true
made-Continue =
    ap is_printable_stmt (sym stmts.rolls-Continue) ∙ fold-roll-Stmt Bool Bool Bool stmt_step arms_step when_step Stmt-F.Continue ∙ refl

-- arms that may be missing, and choices

pub made-Arms : (first second : Option (List Stmt)) → if_any are_printable_stmts first ≡ true → if_any are_printable_stmts second ≡ true →
    are_printable_arms (roll-Arms (record { first = first; second = second })) ≡ true
made-Arms None None f s = fold-roll-Arms Bool Bool Bool stmt_step arms_step when_step (record { first = None; second = None }) ∙ both refl refl
made-Arms None (Some second) f s = fold-roll-Arms Bool Bool Bool stmt_step arms_step when_step (record { first = None; second = Some second }) ∙ both refl s
made-Arms (Some first) None f s = fold-roll-Arms Bool Bool Bool stmt_step arms_step when_step (record { first = Some first; second = None }) ∙ both f refl
made-Arms (Some first) (Some second) f s = fold-roll-Arms Bool Bool Bool stmt_step arms_step when_step (record { first = Some first; second = Some second }) ∙ both f s

pub made-When : (tests : List Test) (held : List Stmt) → all (map is_printable_test tests) ≡ true → are_printable_stmts held ≡ true →
    is_printable_when (roll-When (record { tests = tests; stmts = held })) ≡ true
made-When tests held t h = fold-roll-When Bool Bool Bool stmt_step arms_step when_step (record { tests = tests; stmts = held }) ∙ both t h

pub made-Evaluate : (subject : Subject) (whens : List When) (other : Option (List Stmt)) → is_printable_subject subject ≡ true →
    all (map is_printable_when whens) ≡ true → if_any are_printable_stmts other ≡ true → is_printable_stmt (stmts.Evaluate subject whens other) ≡ true
made-Evaluate subject whens None s w o =
    ap is_printable_stmt (sym (stmts.rolls-Evaluate subject whens None)) ∙ fold-roll-Stmt Bool Bool Bool stmt_step arms_step when_step (Stmt-F.Evaluate subject whens None)
    ∙ both (both s w) refl
made-Evaluate subject whens (Some other) s w o =
    ap is_printable_stmt (sym (stmts.rolls-Evaluate subject whens (Some other)))
    ∙ fold-roll-Stmt Bool Bool Bool stmt_step arms_step when_step (Stmt-F.Evaluate subject whens (Some other)) ∙ both (both s w) o
