-- The parts of a program that name items of its own, and files that have a record.
use Rattle.std.specs.Prelude.{ℕ, nat_lt, Bool, true, ◌&&◌, length, map}
use Rattle.cob_tree.specs.declared.stmt.When.{out-When}
use Rattle.cob_tree.specs.declared.stmt.Stmt.{Stmt, out-Stmt}
use Rattle.cob_tree.specs.declared.stmt.Stmt.TheOpen.{Stmt-F}
use Rattle.control_flow_theory.specs.language.Language.{Chooser, Evaluate, Arith, Depending}
use Rattle.control_flow_theory.specs.language.Language as language
use Rattle.meanings.specs.statements.Filing.{Declared, record_entry}
use Rattle.cobol_theory.specs.added_items.Within.{place_within, operand_within, operands_within, places_within, cond_within, calc_within, targets_within, subject_within, whens_within, if_any}

module _ (declared : Declared) where
  -- how many items the program has
  abbrev pub items : ℕ
  items = length declared.areas.items

  -- the file has a record among them
  abbrev pub has_record : ℕ → Bool
  has_record file = nat_lt (record_entry declared file) items

  -- the statement itself names the program's own items; what is in its arms isn't looked at
  abbrev pub stmt_own : Stmt → Bool
  stmt_own stmt =
      elim (out-Stmt stmt) [
        | Stmt-F.Display operands advance ↦ operands_within items operands
        | Stmt-F.Move from to ↦ operand_within items from && places_within items to
        | Stmt-F.Arith calc into arms ↦ calc_within items calc && targets_within items into
        | Stmt-F.SetTrue place ↦ place_within items place
        | Stmt-F.If cond yes_part no_part ↦ cond_within items cond
        | Stmt-F.Evaluate subject whens other ↦ subject_within items subject
            && whens_within items (map (λ when. (out-When when).tests) whens)
        | Stmt-F.Read file place arms ↦ has_record file && if_any items (place_within items) place
        | Stmt-F.Write entry from ↦ nat_lt entry items && if_any items (operand_within items) from
        | Stmt-F.Rewrite entry from ↦ nat_lt entry items && if_any items (operand_within items) from
        | _ ↦ true
      ]

  -- a chooser names the program's own items, and a file with a record
  abbrev pub chooser_own : Chooser → Bool
  chooser_own (Evaluate subject tests has_other) =
      subject_within items subject && whens_within items tests
  chooser_own (language.Read file into has_end) =
      has_record file && if_any items (place_within items) into
  chooser_own (Arith calc into) = calc_within items calc && targets_within items into
  chooser_own (Depending place names) = place_within items place
