-- The lines of statements, of which no word is left out.
use Rattle.std.proofs.Common.{◌≡◌, ℕ, Bool, true, false, ◌&&◌, List, [], ◌∷◌, ◌++◌, length, map, Option, Some, None, refl, sym, ◌∙◌, subst}
use Rattle.std.specs.Prelude.{codes, ◌==◌, ◌||◌, if◌then◌else◌}
use Rattle.std.proofs.lemmas.Bool.{and_parts}
use Rattle.cob_tree.specs.declared.choice.Test.{Test}
use Rattle.cob_tree.specs.declared.file.How.{How}
use Rattle.cob_tree.specs.declared.file.How.TheVariants.{Input, Output, InOut, Extend}
use Rattle.cob_tree.specs.declared.file.Opening.{Opening}
use Rattle.cob_tree.specs.declared.place.Operand.{Operand}
use Rattle.cob_tree.specs.declared.place.Place.{Place}
use Rattle.cob_tree.specs.declared.program.Program.{Program}
use Rattle.cob_tree.specs.declared.stmt.Arms.{Arms, roll-Arms, map-Arms, fold-roll-Arms}
use Rattle.cob_tree.specs.declared.stmt.Stmt.{Stmt, ind-Stmt, map-Stmt, roll-Stmt, fold-roll-Stmt}
use Rattle.cob_tree.specs.declared.stmt.Stmt.TheOpen.{Stmt-F, Arms-F, When-F}
use Rattle.cob_tree.specs.declared.stmt.When.{When, roll-When, map-When, fold-roll-When}
use Rattle.cobol_lex.specs.declared.token.TokenKind.TheVariants as kind
use Rattle.control_flow_theory.specs.language.All.{all}
use Rattle.grammar_laws.specs.form_results.Giving.{Each}
use Rattle.program_facts.specs.well_scoped.Part.{if_any}
use Rattle.unparser.specs.Token.{Tokens}
use Rattle.unparser.specs.Arithmetic.{end_word}
use Rattle.unparser.specs.File.{file_tokens, files_tokens, mode_word, same_mode, openings_tokens, label_tokens, labels_tokens}
use Rattle.unparser.specs.Head.{advance_tokens, into_tokens, from_tokens, range_tokens}
use Rattle.cobol_print.specs.declared.units.statement.ArmPhrase.{ArmPhrase}
use Rattle.cobol_print.specs.declared.units.statement.ArmPhrase.TheVariants.{AtEnd, OnSizeError}
use Rattle.cobol_print.specs.declared.units.unit.PrintUnit.{PrintUnit}
use Rattle.cobol_print.specs.units.Statement as units
use Rattle.cobol_print.specs.units.Statement.{Lines, ArmLines, WhenLines, word_line, phrase_tokens, tests_lines, end_lines, some_lines, list_lines, arm_lines, whens_lines, held_by_other, held_by_else, stmt_lines, arms_lines, when_lines}
use Rattle.cobol_print.specs.units.Unit.{unit_at, deeper}
use Rattle.round_trip.specs.printable.Part.{is_printable_place, are_printable_places, is_printable_operand}
use Rattle.round_trip.specs.printable.Beside.{is_printable_cond, is_printable_control, is_printable_calc, is_printable_target, is_printable_subject, is_printable_test}
use Rattle.round_trip.specs.printable.Statement.{stmt_step, arms_step, when_step, is_printable_stmt, are_printable_arms, is_printable_when, are_printable_stmts}
use Rattle.end_to_end_laws.proofs.read_programs_lemmas.printed_words_lemmas.Tokens.{IsAllowed, AreAllowed, none, append, word, ItemsNamed, ◌∷∷◌, ◌+++◌}
use Rattle.end_to_end_laws.proofs.read_programs_lemmas.printed_words_lemmas.Places as places
use Rattle.end_to_end_laws.proofs.read_programs_lemmas.printed_words_lemmas.Beside as parts
use Rattle.end_to_end_laws.proofs.read_programs_lemmas.printed_words_lemmas.Beside.{not-allowed, end-allowed}

-- the names that a statement of the program has aren't left out
pub record HasNames (program : Program) : Type 0 where
  pub items : ItemsNamed program
  pub files : (number : ℕ) → AreAllowed (file_tokens program number)
  pub labels : (number : ℕ) → AreAllowed (label_tokens program number)

-- ---- lines, one behind the other

abbrev pub IsAllowedLine : PrintUnit → Type 0
IsAllowedLine unit = Each IsAllowed unit.tokens

pub record AllowedLines (lines : List PrintUnit) : Type 0 where
  pub allowed : Each IsAllowedLine lines

pub no-lines : AllowedLines []
no-lines = record { allowed = tt }

pub line : (column : ℕ) {tokens : Tokens} {lines : List PrintUnit} → AreAllowed tokens → AllowedLines lines → AllowedLines (unit_at column tokens ∷ lines)
line column h k = record { allowed = (h.allowed, k.allowed) }

pub lines-beside : {front back : List PrintUnit} → AllowedLines front → AllowedLines back → AllowedLines (front ++ back)
lines-beside {front = front} {back = back} h k = record { allowed = append IsAllowedLine front back h.allowed k.allowed }

-- ---- words

advance-allowed : (advance : Bool) → AreAllowed (advance_tokens advance)
advance-allowed true = none
advance-allowed false = word (codes "WITH") refl ∷∷ word (codes "NO") refl ∷∷ word (codes "ADVANCING") refl ∷∷ none

mode-allowed : (same : Bool) (how : How) → AreAllowed (if same then [] else kind.Word (mode_word how) ∷ [])
mode-allowed true how = none
mode-allowed false Input = word (codes "INPUT") refl ∷∷ none
mode-allowed false Output = word (codes "OUTPUT") refl ∷∷ none
mode-allowed false InOut = word (codes "I-O") refl ∷∷ none
mode-allowed false Extend = word (codes "EXTEND") refl ∷∷ none

phrase-allowed : (phrase : ArmPhrase) → AreAllowed (phrase_tokens phrase)
phrase-allowed AtEnd = word (codes "AT") refl ∷∷ word (codes "END") refl ∷∷ none
phrase-allowed OnSizeError = word (codes "ON") refl ∷∷ word (codes "SIZE") refl ∷∷ word (codes "ERROR") refl ∷∷ none

cycle-allowed : (cycle : Bool) → AreAllowed (if cycle then kind.Word (codes "CYCLE") ∷ [] else [])
cycle-allowed true = word (codes "CYCLE") refl ∷∷ none
cycle-allowed false = none

end-lines : (asked : Bool) (word : List ℕ) (column : ℕ) → AreAllowed (kind.Word word ∷ []) → AllowedLines (end_lines asked word column)
end-lines true word column h = line column h no-lines
end-lines false word column h = no-lines

module _ (program : Program) (names : HasNames program) where
  -- ---- first lines

  files-allowed : (numbers : List ℕ) → AreAllowed (files_tokens program numbers)
  files-allowed [] = none
  files-allowed (number ∷ numbers) = names.files number +++ files-allowed numbers

  openings-allowed : (before : Option How) (openings : List Opening) → AreAllowed (openings_tokens program before openings)
  openings-allowed before [] = none
  openings-allowed before (opening ∷ openings) =
      mode-allowed (same_mode before opening.how) opening.how +++ names.files opening.file +++ openings-allowed (Some opening.how) openings

  labels-allowed : (numbers : List ℕ) → AreAllowed (labels_tokens program numbers)
  labels-allowed [] = none
  labels-allowed (number ∷ numbers) = names.labels number +++ labels-allowed numbers

  range-allowed : (entry exit : ℕ) → AreAllowed (range_tokens program entry exit)
  range-allowed entry exit = names.labels entry +++ go (entry == exit)
    where
      go : (same : Bool) → AreAllowed (if same then [] else kind.Word (codes "THRU") ∷ label_tokens program exit)
      go true = none
      go false = word (codes "THRU") refl ∷∷ names.labels exit

  into-allowed : (into : Option Place) → if_any is_printable_place into ≡ true → AreAllowed (into_tokens program into)
  into-allowed None e = none
  into-allowed (Some place) e = word (codes "INTO") refl ∷∷ places.place-allowed program names.items place e

  from-allowed : (from : Option Operand) → if_any is_printable_operand from ≡ true → AreAllowed (from_tokens program from)
  from-allowed None e = none
  from-allowed (Some operand) e = word (codes "FROM") refl ∷∷ places.operand-allowed program names.items operand e

  tests-allowed : (column : ℕ) (tests : List Test) → all (map is_printable_test tests) ≡ true → AllowedLines (tests_lines program column tests)
  tests-allowed column [] e = no-lines
  tests-allowed column (test ∷ tests) e =
      let h = and_parts (is_printable_test test) (all (map is_printable_test tests)) e in
      line column (word (codes "WHEN") refl ∷∷ parts.test-allowed program names.items test h.0) (tests-allowed column tests h.1)

  -- ---- by induction

  abbrev IsStmt : Stmt → Type 0
  IsStmt x = is_printable_stmt x ≡ true → (column : ℕ) (closed : Bool) → AllowedLines (stmt_lines program x column closed)

  abbrev IsArms : Arms → Type 0
  IsArms x = are_printable_arms x ≡ true → (phrase : ArmPhrase) (column : ℕ) → AllowedLines ((arms_lines program x).lines phrase column)

  abbrev IsWhen : When → Type 0
  IsWhen x = is_printable_when x ≡ true → (column : ℕ) → AllowedLines (when_lines program x column)

  abbrev SuchStmt : Type 0
  SuchStmt = (x : Stmt) × IsStmt x

  abbrev SuchArms : Type 0
  SuchArms = (x : Arms) × IsArms x

  abbrev SuchWhen : Type 0
  SuchWhen = (x : When) × IsWhen x

  abbrev plain : List SuchStmt → List Stmt
  plain list = map (λ e. e.0) list

  -- the lines of each
  abbrev lines_of : List SuchStmt → List Lines
  lines_of list = map (stmt_lines program) (plain list)

  abbrev Printable : List SuchStmt → Type 0
  Printable list = all (map is_printable_stmt (plain list)) ≡ true

  some-allowed : (list : List SuchStmt) → Printable list → (column : ℕ) (closed : Bool) → AllowedLines (some_lines (lines_of list) column closed)
  some-allowed [] e column closed = no-lines
  some-allowed (x ∷ list) e column closed =
      let h = and_parts (is_printable_stmt x.0) (all (map is_printable_stmt (plain list))) e in
      lines-beside (x.1 h.0 column (closed && length (lines_of list) == 0)) (some-allowed list h.1 column closed)

  list-allowed : (list : List SuchStmt) → Printable list → (column : ℕ) (closed : Bool) → AllowedLines (list_lines (lines_of list) column closed)
  list-allowed [] e column closed = line column (word (codes "CONTINUE") refl ∷∷ none) no-lines
  list-allowed (x ∷ list) e column closed = some-allowed (x ∷ list) e column closed

  arm-allowed : (list : List SuchStmt) → Printable list → (phrase : ArmPhrase) (not : Bool) (column : ℕ) → AllowedLines (arm_lines (lines_of list) phrase not column)
  arm-allowed list e phrase not column =
      line (deeper column) (not-allowed not +++ phrase-allowed phrase) (list-allowed list e (deeper (deeper column)) true)

  else-allowed : (list : List SuchStmt) → Printable list → (column : ℕ) → AllowedLines (held_by_else (lines_of list) column)
  else-allowed [] e column = line column (word (codes "END-IF") refl ∷∷ none) no-lines
  else-allowed (x ∷ list) e column =
      line column (word (codes "ELSE") refl ∷∷ none) (lines-beside (list-allowed (x ∷ list) e (deeper column) false)
      (line column (word (codes "END-IF") refl ∷∷ none) no-lines))

  end-evaluate : (column : ℕ) → AllowedLines (word_line column (codes "END-EVALUATE") ∷ [])
  end-evaluate column = line column (word (codes "END-EVALUATE") refl ∷∷ none) no-lines

  other-allowed : (list : List SuchStmt) → Printable list → (column : ℕ) → AllowedLines (held_by_other (Some (lines_of list)) column)
  other-allowed list e column =
      line (deeper column) (word (codes "WHEN") refl ∷∷ word (codes "OTHER") refl ∷∷ none)
      (lines-beside (list-allowed list e (deeper (deeper column)) false) (end-evaluate column))

  whens-allowed : (list : List SuchWhen) → all (map is_printable_when (map (λ e. e.0) list)) ≡ true → (column : ℕ) →
      AllowedLines (whens_lines (map (when_lines program) (map (λ e. e.0) list)) column)
  whens-allowed [] e column = no-lines
  whens-allowed (x ∷ list) e column =
      let h = and_parts (is_printable_when x.0) (all (map is_printable_when (map (λ e. e.0) list))) e in
      lines-beside (x.1 h.0 column) (whens-allowed list h.1 column)

  abbrev mapped : Stmt-F SuchStmt SuchArms SuchWhen → Stmt-F Stmt Arms When
  mapped = map-Stmt SuchStmt SuchArms SuchWhen Stmt Arms When (λ e. e.0) (λ e. e.0) (λ e. e.0)

  abbrev tested : Stmt-F Stmt Arms When → Bool
  tested y = stmt_step (map-Stmt Stmt Arms When Bool Bool Bool is_printable_stmt are_printable_arms is_printable_when y)

  abbrev printed : Stmt-F Stmt Arms When → Lines
  printed y = units.stmt_step program (map-Stmt Stmt Arms When Lines ArmLines WhenLines (stmt_lines program) (arms_lines program) (when_lines program) y)

  -- a line alone
  alone : (column : ℕ) {tokens : Tokens} → AreAllowed tokens → AllowedLines (unit_at column tokens ∷ [])
  alone column h = line column h no-lines

  stmt-step : (y : Stmt-F SuchStmt SuchArms SuchWhen) → tested (mapped y) ≡ true → (column : ℕ) (closed : Bool) → AllowedLines (printed (mapped y) column closed)
  stmt-step (Stmt-F.Display items advance) e column closed =
      alone column (word (codes "DISPLAY") refl ∷∷ places.operands-allowed program names.items items e +++ advance-allowed advance)
  stmt-step (Stmt-F.Move from to) e column closed =
      let h = and_parts (is_printable_operand from) (are_printable_places to) e in
      alone column (word (codes "MOVE") refl ∷∷ places.operand-allowed program names.items from h.0 +++ word (codes "TO") refl ∷∷ places.places-allowed program names.items to h.1)
  stmt-step (Stmt-F.Arith calc into arms) e column closed =
      let h = and_parts (is_printable_calc calc && all (map is_printable_target into)) (are_printable_arms arms.0) e in
      let k = and_parts (is_printable_calc calc) (all (map is_printable_target into)) h.0 in
      line column (parts.arithmetic-allowed program names.items calc into k.0 k.1)
      (lines-beside (arms.1 h.1 OnSizeError column) (end-lines ((arms_lines program arms.0).some || closed) (end_word calc) column (end-allowed calc)))
  stmt-step (Stmt-F.SetTrue place) e column closed =
      alone column (word (codes "SET") refl ∷∷ places.place-allowed program names.items place e +++ word (codes "TO") refl ∷∷ word (codes "TRUE") refl ∷∷ none)
  stmt-step (Stmt-F.Opens openings) e column closed = alone column (word (codes "OPEN") refl ∷∷ openings-allowed None openings)
  stmt-step (Stmt-F.Closes files) e column closed = alone column (word (codes "CLOSE") refl ∷∷ files-allowed files)
  stmt-step (Stmt-F.Read file into arms) e column closed =
      let h = and_parts (if_any is_printable_place into) (are_printable_arms arms.0) e in
      line column (word (codes "READ") refl ∷∷ names.files file +++ into-allowed into h.0)
      (lines-beside (arms.1 h.1 AtEnd column)
      (end-lines ((arms_lines program arms.0).some || closed) (codes "END-READ") column (word (codes "END-READ") refl ∷∷ none)))
  stmt-step (Stmt-F.Write entry from) e column closed =
      alone column (word (codes "WRITE") refl ∷∷ names.items entry ∷∷ from-allowed from e)
  stmt-step (Stmt-F.Rewrite entry from) e column closed =
      alone column (word (codes "REWRITE") refl ∷∷ names.items entry ∷∷ from-allowed from e)
  stmt-step (Stmt-F.If cond met unmet) e column closed =
      let h = and_parts (is_printable_cond cond && all (map is_printable_stmt (plain met))) (all (map is_printable_stmt (plain unmet))) e in
      let k = and_parts (is_printable_cond cond) (all (map is_printable_stmt (plain met))) h.0 in
      line column (word (codes "IF") refl ∷∷ parts.cond-allowed program names.items cond k.0 false)
      (lines-beside (list-allowed met k.1 (deeper column) false) (else-allowed unmet h.1 column))
  stmt-step (Stmt-F.Evaluate subject whens None) e column closed =
      let h = and_parts (is_printable_subject subject && all (map is_printable_when (map (λ e. e.0) whens))) true e in
      let k = and_parts (is_printable_subject subject) (all (map is_printable_when (map (λ e. e.0) whens))) h.0 in
      line column (word (codes "EVALUATE") refl ∷∷ parts.subject-allowed program names.items subject k.0)
      (lines-beside (whens-allowed whens k.1 column) (end-evaluate column))
  stmt-step (Stmt-F.Evaluate subject whens (Some other)) e column closed =
      let h = and_parts (is_printable_subject subject && all (map is_printable_when (map (λ e. e.0) whens))) (all (map is_printable_stmt (plain other))) e in
      let k = and_parts (is_printable_subject subject) (all (map is_printable_when (map (λ e. e.0) whens))) h.0 in
      line column (word (codes "EVALUATE") refl ∷∷ parts.subject-allowed program names.items subject k.0)
      (lines-beside (whens-allowed whens k.1 column) (other-allowed other h.1 column))
  stmt-step (Stmt-F.Loop control body) e column closed =
      let h = and_parts (is_printable_control control) (all (map is_printable_stmt (plain body))) e in
      line column (word (codes "PERFORM") refl ∷∷ parts.control-allowed program names.items control h.0)
      (lines-beside (list-allowed body h.1 (deeper column) false) (line column (word (codes "END-PERFORM") refl ∷∷ none) no-lines))
  stmt-step (Stmt-F.Perform entry exit control) e column closed =
      alone column (word (codes "PERFORM") refl ∷∷ range-allowed entry exit +++ parts.control-allowed program names.items control e)
  stmt-step (Stmt-F.Go to) e column closed = alone column (word (codes "GO") refl ∷∷ word (codes "TO") refl ∷∷ names.labels to)
  stmt-step (Stmt-F.GoDepending to on) e column closed =
      alone column (word (codes "GO") refl ∷∷ word (codes "TO") refl ∷∷ labels-allowed to +++ word (codes "DEPENDING") refl ∷∷ word (codes "ON") refl ∷∷ places.place-allowed program names.items on e)
  stmt-step Stmt-F.NextSentence e column closed = alone column (word (codes "NEXT") refl ∷∷ word (codes "SENTENCE") refl ∷∷ none)
  stmt-step Stmt-F.StopRun e column closed = alone column (word (codes "STOP") refl ∷∷ word (codes "RUN") refl ∷∷ none)
  stmt-step Stmt-F.Exit e column closed = alone column (word (codes "EXIT") refl ∷∷ none)
  stmt-step Stmt-F.ExitParagraph e column closed = alone column (word (codes "EXIT") refl ∷∷ word (codes "PARAGRAPH") refl ∷∷ none)
  stmt-step Stmt-F.ExitSection e column closed = alone column (word (codes "EXIT") refl ∷∷ word (codes "SECTION") refl ∷∷ none)
  stmt-step (Stmt-F.ExitPerform cycle) e column closed =
      alone column (word (codes "EXIT") refl ∷∷ word (codes "PERFORM") refl ∷∷ cycle-allowed cycle)
  stmt-step Stmt-F.Continue e column closed = alone column (word (codes "CONTINUE") refl ∷∷ none)

  stmt-layer : (y : Stmt-F SuchStmt SuchArms SuchWhen) → IsStmt (roll-Stmt (mapped y))
  stmt-layer y e column closed =
      subst (λ (f : Lines). AllowedLines (f column closed)) (sym (fold-roll-Stmt Lines ArmLines WhenLines (units.stmt_step program) units.arms_step (units.when_step program) (mapped y)))
      (stmt-step y (sym (fold-roll-Stmt Bool Bool Bool stmt_step arms_step when_step (mapped y)) ∙ e) column closed)

  arms-by : (y : Arms-F Stmt Arms When) →
      (arms_step (map-Arms Stmt Arms When Bool Bool Bool is_printable_stmt are_printable_arms is_printable_when y) ≡ true → (phrase : ArmPhrase) (column : ℕ) →
      AllowedLines ((units.arms_step (map-Arms Stmt Arms When Lines ArmLines WhenLines (stmt_lines program) (arms_lines program) (when_lines program) y)).lines phrase column)) →
      IsArms (roll-Arms y)
  arms-by y h e phrase column =
      subst (λ (a : ArmLines). AllowedLines (a.lines phrase column)) (sym (fold-roll-Arms Lines ArmLines WhenLines (units.stmt_step program) units.arms_step (units.when_step program) y))
      (h (sym (fold-roll-Arms Bool Bool Bool stmt_step arms_step when_step y) ∙ e) phrase column)

  arms-layer : (one other : Option (List SuchStmt)) → IsArms (roll-Arms (map-Arms SuchStmt SuchArms SuchWhen Stmt Arms When (λ e. e.0) (λ e. e.0) (λ e. e.0) (record { first = one; second = other })))
  arms-layer None None = arms-by (record { first = None; second = None }) (λ e phrase column. no-lines)
  arms-layer None (Some other) = arms-by (record { first = None; second = Some (plain other) }) (λ e phrase column. arm-allowed other e phrase true column)
  arms-layer (Some one) None =
      arms-by (record { first = Some (plain one); second = None })
      (λ e phrase column. lines-beside (arm-allowed one (and_parts (all (map is_printable_stmt (plain one))) true e).0 phrase false column) no-lines)
  arms-layer (Some one) (Some other) =
      arms-by (record { first = Some (plain one); second = Some (plain other) })
      (λ e phrase column. let h = and_parts (all (map is_printable_stmt (plain one))) (all (map is_printable_stmt (plain other))) e in
      lines-beside (arm-allowed one h.0 phrase false column) (arm-allowed other h.1 phrase true column))

  when-layer : (tests : List Test) (held : List SuchStmt) → IsWhen (roll-When (map-When SuchStmt SuchArms SuchWhen Stmt Arms When (λ e. e.0) (λ e. e.0) (λ e. e.0) (record { tests = tests; stmts = held })))
  when-layer tests held e column =
      let y : When-F Stmt Arms When = record { tests = tests; stmts = plain held } in
      let h = and_parts (all (map is_printable_test tests)) (all (map is_printable_stmt (plain held)))
      (sym (fold-roll-When Bool Bool Bool stmt_step arms_step when_step y) ∙ e) in
      subst (λ (f : WhenLines). AllowedLines (f column)) (sym (fold-roll-When Lines ArmLines WhenLines (units.stmt_step program) units.arms_step (units.when_step program) y))
      (lines-beside (tests-allowed (deeper column) tests h.0) (list-allowed held h.1 (deeper (deeper column)) false))

  pub stmt-allowed : (x : Stmt) → IsStmt x
  stmt-allowed x =
      ind-Stmt IsStmt IsArms IsWhen
      (λ x y is. subst (λ z. IsStmt (roll-Stmt z)) is (stmt-layer y))
      (λ x y is. subst (λ z. IsArms (roll-Arms z)) is (arms-layer y.first y.second))
      (λ x y is. subst (λ z. IsWhen (roll-When z)) is (when-layer y.tests y.stmts)) x

  -- ---- whole lists

  lines-allowed : (list : List Stmt) → are_printable_stmts list ≡ true → (column : ℕ) (closed : Bool) → AllowedLines (some_lines (map (stmt_lines program) list) column closed)
  lines-allowed [] e column closed = no-lines
  lines-allowed (x ∷ list) e column closed =
      let h = and_parts (is_printable_stmt x) (are_printable_stmts list) e in
      lines-beside (stmt-allowed x h.0 column (closed && length (map (stmt_lines program) list) == 0)) (lines-allowed list h.1 column closed)

  pub all-allowed : (list : List Stmt) → are_printable_stmts list ≡ true → (column : ℕ) (closed : Bool) → AllowedLines (list_lines (map (stmt_lines program) list) column closed)
  all-allowed [] e column closed = alone column (word (codes "CONTINUE") refl ∷∷ none)
  all-allowed (x ∷ list) e column closed = lines-allowed (x ∷ list) e column closed
