-- The lines of the statements of a program that counts in its first item, C.
use Rattle.std.proofs.Common.{◌≡◌, ℕ, ◌||◌, Bool, true, false, [], ◌∷◌, ◌++◌, Some, None, slice_get, refl, ap, sym, ◌∙◌}
use Rattle.std.specs.Prelude.{codes}
use Rattle.std.specs.Fmt.{decimal}
use Rattle.cob_base.specs.Bytes.{less_sign}
use Rattle.cob_tree.specs.declared.calc.Calc.TheVariants as calcs
use Rattle.cob_tree.specs.declared.cond.Cond.{Cond, fold-roll-Cond}
use Rattle.cob_tree.specs.declared.cond.Cond.TheOpen.{Cond-F}
use Rattle.cob_tree.specs.declared.cond.Cond.TheVariants as conds
use Rattle.cob_tree.specs.declared.cond.Rel.TheVariants.{Less}
use Rattle.cob_tree.specs.declared.control.Control.TheVariants.{Once}
use Rattle.cob_tree.specs.declared.place.Expr.{fold-roll-Expr}
use Rattle.cob_tree.specs.declared.place.Expr.TheOpen.{Expr-F, Operand-F}
use Rattle.cob_tree.specs.declared.place.Expr.TheVariants as exprs
use Rattle.cob_tree.specs.declared.place.Operand.{Operand, fold-roll-Operand}
use Rattle.cob_tree.specs.declared.place.Operand.TheVariants as operands
use Rattle.cob_tree.specs.declared.place.Place.{fold-roll-Place}
use Rattle.cob_tree.specs.declared.program.Program.{Program}
use Rattle.cob_tree.specs.declared.stmt.Arms.{roll-Arms, fold-roll-Arms}
use Rattle.cob_tree.specs.declared.stmt.Stmt.{fold-roll-Stmt}
use Rattle.cob_tree.specs.declared.stmt.Stmt.TheOpen.{Stmt-F}
use Rattle.cob_tree.specs.declared.stmt.Stmt.TheVariants as stmts
use Rattle.cobol_lex.specs.declared.token.TokenKind.TheVariants as kind
use Rattle.unparser.specs.Token.{Tokens}
use Rattle.unparser.specs.Place.{expr_step, operand_step, place_step, sub_step, window_step, place_tokens, operand_tokens, expr_tokens}
use Rattle.unparser.specs.Condition.{cond_step, cond_tokens}
use Rattle.unparser.specs.File.{label_tokens}
use Rattle.unparser.specs.Head.{range_tokens}
use Rattle.cobol_print.specs.declared.units.statement.ArmPhrase.TheVariants.{OnSizeError}
use Rattle.cobol_print.specs.units.Statement.{Lines, ArmLines, WhenLines, end_lines, stmt_step, arms_step, when_step, stmt_lines}
use Rattle.cobol_print.specs.units.Unit.{unit_at}
use Rattle.program_gen.specs.Generated.{counter, counter_entry, whole, count_one, jump_below}

-- statements of which the first item is the counter
module _ (program : Program) (first : slice_get program.entries 0 ≡ Some counter_entry) where
  -- ---- places and numbers

  place-token : place_tokens program counter ≡ kind.Word (codes "C") ∷ []
  place-token =
      fold-roll-Place (Bool → Tokens) Tokens Tokens Tokens Tokens expr_step operand_step (place_step program) sub_step window_step (record { item = 0; of = []; subs = []; window = None })
      ∙ rw first refl

  item-token : operand_tokens program (operands.Place counter) ≡ kind.Word (codes "C") ∷ []
  item-token =
      ap (operand_tokens program) (sym (operands.rolls-Place counter))
      ∙ fold-roll-Operand (Bool → Tokens) Tokens Tokens Tokens Tokens expr_step operand_step (place_step program) sub_step window_step (Operand-F.Place counter)
      ∙ place-token

  pub number-token : (bound : ℕ) → operand_tokens program (operands.Number (whole bound)) ≡ kind.Digits (decimal bound) ∷ []
  number-token bound =
      ap (operand_tokens program) (sym (operands.rolls-Number (whole bound)))
      ∙ fold-roll-Operand (Bool → Tokens) Tokens Tokens Tokens Tokens expr_step operand_step (place_step program) sub_step window_step (Operand-F.Number (whole bound))

  leaf-tokens : (operand : Operand) → expr_tokens program (exprs.Leaf operand) false ≡ operand_tokens program operand
  leaf-tokens operand =
      ap (λ expr. expr_tokens program expr false) (sym (exprs.rolls-Leaf operand))
      ∙ ap (λ (f : Bool → Tokens). f false)
      (fold-roll-Expr (Bool → Tokens) Tokens Tokens Tokens Tokens expr_step operand_step (place_step program) sub_step window_step (Expr-F.Leaf operand))

  abbrev is_below : ℕ → Cond
  is_below bound = conds.Relation (exprs.Leaf (operands.Place counter)) Less (exprs.Leaf (operands.Number (whole bound)))

  below-tokens : (bound : ℕ) → cond_tokens program (is_below bound) false ≡ kind.Word (codes "C") ∷ kind.Mark less_sign ∷ kind.Digits (decimal bound) ∷ []
  below-tokens bound =
      let left = exprs.Leaf (operands.Place counter) in
      let right = exprs.Leaf (operands.Number (whole bound)) in
      ap (λ one. cond_tokens program one false) (sym (conds.rolls-Relation left Less right))
      ∙ ap (λ (f : Bool → Tokens). f false) (fold-roll-Cond (Bool → Tokens) (cond_step program) (Cond-F.Relation left Less right))
      ∙ ap (λ front. front ++ kind.Mark less_sign ∷ [] ++ expr_tokens program right false) (leaf-tokens (operands.Place counter) ∙ item-token)
      ∙ ap (λ back. kind.Word (codes "C") ∷ kind.Mark less_sign ∷ back) (leaf-tokens (operands.Number (whole bound)) ∙ number-token bound)

  -- ---- statements

  pub line-Display : stmt_lines program (stmts.Display (operands.Place counter ∷ []) true) 12 false ≡ unit_at 12 (kind.Word (codes "DISPLAY") ∷ kind.Word (codes "C") ∷ []) ∷ []
  line-Display =
      ap (λ (f : Lines). f 12 false) (ap (stmt_lines program) (sym (stmts.rolls-Display (operands.Place counter ∷ []) true))
      ∙ fold-roll-Stmt Lines ArmLines WhenLines (stmt_step program) arms_step (when_step program) (Stmt-F.Display (operands.Place counter ∷ []) true))
      ∙ ap (λ list. unit_at 12 (kind.Word (codes "DISPLAY") ∷ (list ++ []) ++ []) ∷ []) item-token

  pub line-StopRun : stmt_lines program stmts.StopRun 12 false ≡ unit_at 12 (kind.Word (codes "STOP") ∷ kind.Word (codes "RUN") ∷ []) ∷ []
  line-StopRun =
      ap (λ (f : Lines). f 12 false) (ap (stmt_lines program) (sym stmts.rolls-StopRun)
      ∙ fold-roll-Stmt Lines ArmLines WhenLines (stmt_step program) arms_step (when_step program) Stmt-F.StopRun)

  pub line-Exit : stmt_lines program stmts.Exit 12 false ≡ unit_at 12 (kind.Word (codes "EXIT") ∷ []) ∷ []
  line-Exit =
      ap (λ (f : Lines). f 12 false) (ap (stmt_lines program) (sym stmts.rolls-Exit)
      ∙ fold-roll-Stmt Lines ArmLines WhenLines (stmt_step program) arms_step (when_step program) Stmt-F.Exit)

  line-Go : (to : ℕ) → stmt_lines program (stmts.Go to) 16 false ≡ unit_at 16 (kind.Word (codes "GO") ∷ kind.Word (codes "TO") ∷ label_tokens program to) ∷ []
  line-Go to =
      ap (λ (f : Lines). f 16 false) (ap (stmt_lines program) (sym (stmts.rolls-Go to))
      ∙ fold-roll-Stmt Lines ArmLines WhenLines (stmt_step program) arms_step (when_step program) (Stmt-F.Go to))

  pub line-Perform : (entry exit : ℕ) → stmt_lines program (stmts.Perform entry exit Once) 12 false ≡ unit_at 12 (kind.Word (codes "PERFORM") ∷ range_tokens program entry exit ++ []) ∷ []
  line-Perform entry exit =
      ap (λ (f : Lines). f 12 false) (ap (stmt_lines program) (sym (stmts.rolls-Perform entry exit Once))
      ∙ fold-roll-Stmt Lines ArmLines WhenLines (stmt_step program) arms_step (when_step program) (Stmt-F.Perform entry exit Once))

  pub line-count : stmt_lines program count_one 12 false ≡ unit_at 12 (kind.Word (codes "ADD") ∷ kind.Digits (decimal 1) ∷ kind.Word (codes "TO") ∷ kind.Word (codes "C") ∷ []) ∷ []
  line-count =
      let calc = calcs.Add (operands.Number (whole 1) ∷ []) in
      let into = record { place = counter; rounded = false } ∷ [] in
      let arms = roll-Arms (record { first = None; second = None }) in
      let word = kind.Word (codes "ADD") in
      let to = kind.Word (codes "TO") in
      ap (λ (f : Lines). f 12 false) (ap (stmt_lines program) (sym (stmts.rolls-Arith calc into arms))
      ∙ fold-roll-Stmt Lines ArmLines WhenLines (stmt_step program) arms_step (when_step program) (Stmt-F.Arith calc into arms))
      ∙ ap (λ (a : ArmLines). unit_at 12 ((word ∷ (operand_tokens program (operands.Number (whole 1)) ++ []) ++ to ∷ []) ++ ((place_tokens program counter ++ []) ++ []) ++ [])
      ∷ (a.lines OnSizeError 12 ++ end_lines (a.some || false) (codes "END-ADD") 12))
      (fold-roll-Arms Lines ArmLines WhenLines (stmt_step program) arms_step (when_step program) (record { first = None; second = None }))
      ∙ ap (λ list. unit_at 12 ((word ∷ (list ++ []) ++ to ∷ []) ++ ((place_tokens program counter ++ []) ++ []) ++ []) ∷ []) (number-token 1)
      ∙ ap (λ list. unit_at 12 ((word ∷ kind.Digits (decimal 1) ∷ to ∷ []) ++ ((list ++ []) ++ []) ++ []) ∷ []) place-token

  pub line-jump : (bound to : ℕ) → stmt_lines program (jump_below bound to) 12 false
      ≡ unit_at 12 (kind.Word (codes "IF") ∷ kind.Word (codes "C") ∷ kind.Mark less_sign ∷ kind.Digits (decimal bound) ∷ [])
      ∷ unit_at 16 (kind.Word (codes "GO") ∷ kind.Word (codes "TO") ∷ label_tokens program to)
      ∷ unit_at 12 (kind.Word (codes "END-IF") ∷ []) ∷ []
  line-jump bound to =
      let go = unit_at 16 (kind.Word (codes "GO") ∷ kind.Word (codes "TO") ∷ label_tokens program to) in
      let end = unit_at 12 (kind.Word (codes "END-IF") ∷ []) in
      ap (λ (f : Lines). f 12 false) (ap (stmt_lines program) (sym (stmts.rolls-If (is_below bound) (stmts.Go to ∷ []) []))
      ∙ fold-roll-Stmt Lines ArmLines WhenLines (stmt_step program) arms_step (when_step program) (Stmt-F.If (is_below bound) (stmts.Go to ∷ []) []))
      ∙ ap (λ list. unit_at 12 (kind.Word (codes "IF") ∷ cond_tokens program (is_below bound) false) ∷ ((list ++ []) ++ end ∷ [])) (line-Go to)
      ∙ ap (λ list. unit_at 12 (kind.Word (codes "IF") ∷ list) ∷ go ∷ end ∷ []) (below-tokens bound)
