-- The lines of statements that can be printed.
use Rattle.std.proofs.Common.{◌≡◌, ℕ, Bool, true, false, ◌&&◌, List, [], ◌∷◌, ◌++◌, length, map, Option, Some, None, refl, sym, ◌∙◌, subst}
use Rattle.std.specs.Prelude.{All, codes, ◌==◌, ◌||◌, if◌then◌else◌}
use Rattle.std.proofs.lemmas.Bool.{and_parts}
use Rattle.std.proofs.lemmas.List.Elements.{All-nil, All-cons, All-append}
use Rattle.cob_tree.specs.declared.choice.Test.{Test}
use Rattle.cob_tree.specs.declared.file.How.{How}
use Rattle.cob_tree.specs.declared.file.How.TheVariants.{Input, Output, InOut, Extend}
use Rattle.cob_tree.specs.declared.file.Opening.{Opening}
use Rattle.cob_tree.specs.declared.place.Operand.{Operand}
use Rattle.cob_tree.specs.declared.place.Place.{Place}
use Rattle.cob_tree.specs.declared.program.Program.{Program}
use Rattle.cob_tree.specs.declared.stmt.Arms.{Arms, roll-Arms, map-Arms, fold-roll-Arms}
use Rattle.cob_tree.specs.declared.stmt.Stmt.{Stmt, ind-Stmt, map-Stmt, roll-Stmt, fold-roll-Stmt}
use Rattle.cob_tree.specs.declared.stmt.Stmt.TheOpen.{Stmt-F, Arms-F, When-F}
use Rattle.cob_tree.specs.declared.stmt.When.{When, roll-When, map-When, fold-roll-When}
use Rattle.cobol_lex.specs.declared.token.TokenKind.TheVariants as kind
use Rattle.control_flow_theory.specs.language.All.{all}
use Rattle.program_facts.specs.well_scoped.Part.{if_any}
use Rattle.unparser.specs.Token.{Tokens}
use Rattle.unparser.specs.Arithmetic.{end_word}
use Rattle.unparser.specs.File.{file_tokens, files_tokens, mode_word, same_mode, openings_tokens, label_tokens, labels_tokens}
use Rattle.unparser.specs.Head.{advance_tokens, into_tokens, from_tokens, range_tokens}
use Rattle.cobol_print.specs.declared.units.statement.ArmPhrase.{ArmPhrase}
use Rattle.cobol_print.specs.declared.units.statement.ArmPhrase.TheVariants.{AtEnd, OnSizeError}
use Rattle.cobol_print.specs.declared.units.unit.PrintUnit.{PrintUnit}
use Rattle.cobol_print.specs.units.Statement as units
use Rattle.cobol_print.specs.units.Statement.{Lines, ArmLines, WhenLines, word_line, phrase_tokens, tests_lines, end_lines, some_lines, list_lines, arm_lines, whens_lines, held_by_other, held_by_else, stmt_lines, arms_lines, when_lines}
use Rattle.cobol_print.specs.units.Unit.{unit_at, deeper}
use Rattle.cobol_print.specs.Given.{IsGivenLine}
use Rattle.round_trip.specs.printable.Part.{is_printable_place, are_printable_places, is_printable_operand}
use Rattle.round_trip.specs.printable.Beside.{is_printable_cond, is_printable_control, is_printable_calc, is_printable_target, is_printable_subject, is_printable_test}
use Rattle.round_trip.specs.printable.Statement.{stmt_step, arms_step, when_step, is_printable_stmt, are_printable_arms, is_printable_when, are_printable_stmts}
use Rattle.round_trip.proofs.printable_lemmas.Tokens.{Fits, none, word, ItemsNamed, ◌∷∷◌, ◌+++◌}
use Rattle.round_trip.proofs.printable_lemmas.Places as places
use Rattle.round_trip.proofs.printable_lemmas.Beside as parts
use Rattle.round_trip.proofs.printable_lemmas.Beside.{not-free, end-free}

-- each name that a statement of the program has is one that a line may have
pub record HasNames (program : Program) : Type 0 where
  pub items : ItemsNamed program
  pub files : (number : ℕ) → Fits (file_tokens program number)
  pub labels : (number : ℕ) → Fits (label_tokens program number)

-- ---- lines, one behind the other

pub record FitLines (lines : List PrintUnit) : Type 0 where
  pub given : All IsGivenLine lines

pub no-lines : FitLines []
no-lines = record { given = All-nil IsGivenLine }

pub line : (column : ℕ) {tokens : Tokens} {lines : List PrintUnit} → Fits tokens → FitLines lines → FitLines (unit_at column tokens ∷ lines)
line column {tokens = tokens} {lines = lines} h k = record { given = All-cons IsGivenLine (unit_at column tokens) lines h.free k.given }

lines-beside : {front back : List PrintUnit} → FitLines front → FitLines back → FitLines (front ++ back)
lines-beside {front = front} {back = back} h k = record { given = All-append IsGivenLine front back h.given k.given }

-- ---- words

advance-free : (advance : Bool) → Fits (advance_tokens advance)
advance-free true = none
advance-free false = word (codes "WITH") refl ∷∷ word (codes "NO") refl ∷∷ word (codes "ADVANCING") refl ∷∷ none

mode-free : (same : Bool) (how : How) → Fits (if same then [] else kind.Word (mode_word how) ∷ [])
mode-free true how = none
mode-free false Input = word (codes "INPUT") refl ∷∷ none
mode-free false Output = word (codes "OUTPUT") refl ∷∷ none
mode-free false InOut = word (codes "I-O") refl ∷∷ none
mode-free false Extend = word (codes "EXTEND") refl ∷∷ none

phrase-free : (phrase : ArmPhrase) → Fits (phrase_tokens phrase)
phrase-free AtEnd = word (codes "AT") refl ∷∷ word (codes "END") refl ∷∷ none
phrase-free OnSizeError = word (codes "ON") refl ∷∷ word (codes "SIZE") refl ∷∷ word (codes "ERROR") refl ∷∷ none

cycle-free : (cycle : Bool) → Fits (if cycle then kind.Word (codes "CYCLE") ∷ [] else [])
cycle-free true = word (codes "CYCLE") refl ∷∷ none
cycle-free false = none

end-given : (asked : Bool) (word : List ℕ) (column : ℕ) → Fits (kind.Word word ∷ []) → FitLines (end_lines asked word column)
end-given true word column h = line column h no-lines
end-given false word column h = no-lines

module _ (program : Program) (names : HasNames program) where
  -- ---- first lines

  files-free : (numbers : List ℕ) → Fits (files_tokens program numbers)
  files-free [] = none
  files-free (number ∷ numbers) = names.files number +++ files-free numbers

  openings-free : (before : Option How) (openings : List Opening) → Fits (openings_tokens program before openings)
  openings-free before [] = none
  openings-free before (opening ∷ openings) =
      mode-free (same_mode before opening.how) opening.how +++ names.files opening.file +++ openings-free (Some opening.how) openings

  labels-free : (numbers : List ℕ) → Fits (labels_tokens program numbers)
  labels-free [] = none
  labels-free (number ∷ numbers) = names.labels number +++ labels-free numbers

  range-free : (entry exit : ℕ) → Fits (range_tokens program entry exit)
  range-free entry exit = names.labels entry +++ go (entry == exit)
    where
      go : (same : Bool) → Fits (if same then [] else kind.Word (codes "THRU") ∷ label_tokens program exit)
      go true = none
      go false = word (codes "THRU") refl ∷∷ names.labels exit

  into-free : (into : Option Place) → if_any is_printable_place into ≡ true → Fits (into_tokens program into)
  into-free None e = none
  into-free (Some place) e = word (codes "INTO") refl ∷∷ places.place-free program names.items place e

  from-free : (from : Option Operand) → if_any is_printable_operand from ≡ true → Fits (from_tokens program from)
  from-free None e = none
  from-free (Some operand) e = word (codes "FROM") refl ∷∷ places.operand-free program names.items operand e

  tests-given : (column : ℕ) (tests : List Test) → all (map is_printable_test tests) ≡ true → FitLines (tests_lines program column tests)
  tests-given column [] e = no-lines
  tests-given column (test ∷ tests) e =
      let h = and_parts (is_printable_test test) (all (map is_printable_test tests)) e in
      line column (word (codes "WHEN") refl ∷∷ parts.test-free program names.items test h.0) (tests-given column tests h.1)

  -- ---- by induction

  abbrev IsStmt : Stmt → Type 0
  IsStmt x = is_printable_stmt x ≡ true → (column : ℕ) (closed : Bool) → FitLines (stmt_lines program x column closed)

  abbrev IsArms : Arms → Type 0
  IsArms x = are_printable_arms x ≡ true → (phrase : ArmPhrase) (column : ℕ) → FitLines ((arms_lines program x).lines phrase column)

  abbrev IsWhen : When → Type 0
  IsWhen x = is_printable_when x ≡ true → (column : ℕ) → FitLines (when_lines program x column)

  abbrev SuchStmt : Type 0
  SuchStmt = (x : Stmt) × IsStmt x

  abbrev SuchArms : Type 0
  SuchArms = (x : Arms) × IsArms x

  abbrev SuchWhen : Type 0
  SuchWhen = (x : When) × IsWhen x

  abbrev plain : List SuchStmt → List Stmt
  plain list = map (λ e. e.0) list

  -- the lines of each
  abbrev lines_of : List SuchStmt → List Lines
  lines_of list = map (stmt_lines program) (plain list)

  abbrev Printable : List SuchStmt → Type 0
  Printable list = all (map is_printable_stmt (plain list)) ≡ true

  some-given : (list : List SuchStmt) → Printable list → (column : ℕ) (closed : Bool) → FitLines (some_lines (lines_of list) column closed)
  some-given [] e column closed = no-lines
  some-given (x ∷ list) e column closed =
      let h = and_parts (is_printable_stmt x.0) (all (map is_printable_stmt (plain list))) e in
      lines-beside (x.1 h.0 column (closed && length (lines_of list) == 0)) (some-given list h.1 column closed)

  list-given : (list : List SuchStmt) → Printable list → (column : ℕ) (closed : Bool) → FitLines (list_lines (lines_of list) column closed)
  list-given [] e column closed = line column (word (codes "CONTINUE") refl ∷∷ none) no-lines
  list-given (x ∷ list) e column closed = some-given (x ∷ list) e column closed

  arm-given : (list : List SuchStmt) → Printable list → (phrase : ArmPhrase) (not : Bool) (column : ℕ) → FitLines (arm_lines (lines_of list) phrase not column)
  arm-given list e phrase not column =
      line (deeper column) (not-free not +++ phrase-free phrase) (list-given list e (deeper (deeper column)) true)

  else-given : (list : List SuchStmt) → Printable list → (column : ℕ) → FitLines (held_by_else (lines_of list) column)
  else-given [] e column = line column (word (codes "END-IF") refl ∷∷ none) no-lines
  else-given (x ∷ list) e column =
      line column (word (codes "ELSE") refl ∷∷ none) (lines-beside (list-given (x ∷ list) e (deeper column) false)
      (line column (word (codes "END-IF") refl ∷∷ none) no-lines))

  end-evaluate : (column : ℕ) → FitLines (word_line column (codes "END-EVALUATE") ∷ [])
  end-evaluate column = line column (word (codes "END-EVALUATE") refl ∷∷ none) no-lines

  other-given : (list : List SuchStmt) → Printable list → (column : ℕ) → FitLines (held_by_other (Some (lines_of list)) column)
  other-given list e column =
      line (deeper column) (word (codes "WHEN") refl ∷∷ word (codes "OTHER") refl ∷∷ none)
      (lines-beside (list-given list e (deeper (deeper column)) false) (end-evaluate column))

  whens-given : (list : List SuchWhen) → all (map is_printable_when (map (λ e. e.0) list)) ≡ true → (column : ℕ) →
      FitLines (whens_lines (map (when_lines program) (map (λ e. e.0) list)) column)
  whens-given [] e column = no-lines
  whens-given (x ∷ list) e column =
      let h = and_parts (is_printable_when x.0) (all (map is_printable_when (map (λ e. e.0) list))) e in
      lines-beside (x.1 h.0 column) (whens-given list h.1 column)

  abbrev mapped : Stmt-F SuchStmt SuchArms SuchWhen → Stmt-F Stmt Arms When
  mapped = map-Stmt SuchStmt SuchArms SuchWhen Stmt Arms When (λ e. e.0) (λ e. e.0) (λ e. e.0)

  abbrev tested : Stmt-F Stmt Arms When → Bool
  tested y = stmt_step (map-Stmt Stmt Arms When Bool Bool Bool is_printable_stmt are_printable_arms is_printable_when y)

  abbrev printed : Stmt-F Stmt Arms When → Lines
  printed y = units.stmt_step program (map-Stmt Stmt Arms When Lines ArmLines WhenLines (stmt_lines program) (arms_lines program) (when_lines program) y)

  -- a line alone
  alone : (column : ℕ) {tokens : Tokens} → Fits tokens → FitLines (unit_at column tokens ∷ [])
  alone column h = line column h no-lines

  stmt-step : (y : Stmt-F SuchStmt SuchArms SuchWhen) → tested (mapped y) ≡ true → (column : ℕ) (closed : Bool) → FitLines (printed (mapped y) column closed)
  stmt-step (Stmt-F.Display items advance) e column closed =
      alone column (word (codes "DISPLAY") refl ∷∷ places.operands-free program names.items items e +++ advance-free advance)
  stmt-step (Stmt-F.Move from to) e column closed =
      let h = and_parts (is_printable_operand from) (are_printable_places to) e in
      alone column (word (codes "MOVE") refl ∷∷ places.operand-free program names.items from h.0 +++ word (codes "TO") refl ∷∷ places.places-free program names.items to h.1)
  stmt-step (Stmt-F.Arith calc into arms) e column closed =
      let h = and_parts (is_printable_calc calc && all (map is_printable_target into)) (are_printable_arms arms.0) e in
      let k = and_parts (is_printable_calc calc) (all (map is_printable_target into)) h.0 in
      line column (parts.arithmetic-free program names.items calc into k.0 k.1)
      (lines-beside (arms.1 h.1 OnSizeError column) (end-given ((arms_lines program arms.0).some || closed) (end_word calc) column (end-free calc)))
  stmt-step (Stmt-F.SetTrue place) e column closed =
      alone column (word (codes "SET") refl ∷∷ places.place-free program names.items place e +++ word (codes "TO") refl ∷∷ word (codes "TRUE") refl ∷∷ none)
  stmt-step (Stmt-F.Opens openings) e column closed = alone column (word (codes "OPEN") refl ∷∷ openings-free None openings)
  stmt-step (Stmt-F.Closes files) e column closed = alone column (word (codes "CLOSE") refl ∷∷ files-free files)
  stmt-step (Stmt-F.Read file into arms) e column closed =
      let h = and_parts (if_any is_printable_place into) (are_printable_arms arms.0) e in
      line column (word (codes "READ") refl ∷∷ names.files file +++ into-free into h.0)
      (lines-beside (arms.1 h.1 AtEnd column)
      (end-given ((arms_lines program arms.0).some || closed) (codes "END-READ") column (word (codes "END-READ") refl ∷∷ none)))
  stmt-step (Stmt-F.Write entry from) e column closed =
      alone column (word (codes "WRITE") refl ∷∷ names.items entry ∷∷ from-free from e)
  stmt-step (Stmt-F.Rewrite entry from) e column closed =
      alone column (word (codes "REWRITE") refl ∷∷ names.items entry ∷∷ from-free from e)
  stmt-step (Stmt-F.If cond met unmet) e column closed =
      let h = and_parts (is_printable_cond cond && all (map is_printable_stmt (plain met))) (all (map is_printable_stmt (plain unmet))) e in
      let k = and_parts (is_printable_cond cond) (all (map is_printable_stmt (plain met))) h.0 in
      line column (word (codes "IF") refl ∷∷ parts.cond-free program names.items cond k.0 false)
      (lines-beside (list-given met k.1 (deeper column) false) (else-given unmet h.1 column))
  stmt-step (Stmt-F.Evaluate subject whens None) e column closed =
      let h = and_parts (is_printable_subject subject && all (map is_printable_when (map (λ e. e.0) whens))) true e in
      let k = and_parts (is_printable_subject subject) (all (map is_printable_when (map (λ e. e.0) whens))) h.0 in
      line column (word (codes "EVALUATE") refl ∷∷ parts.subject-free program names.items subject k.0)
      (lines-beside (whens-given whens k.1 column) (end-evaluate column))
  stmt-step (Stmt-F.Evaluate subject whens (Some other)) e column closed =
      let h = and_parts (is_printable_subject subject && all (map is_printable_when (map (λ e. e.0) whens))) (all (map is_printable_stmt (plain other))) e in
      let k = and_parts (is_printable_subject subject) (all (map is_printable_when (map (λ e. e.0) whens))) h.0 in
      line column (word (codes "EVALUATE") refl ∷∷ parts.subject-free program names.items subject k.0)
      (lines-beside (whens-given whens k.1 column) (other-given other h.1 column))
  stmt-step (Stmt-F.Loop control body) e column closed =
      let h = and_parts (is_printable_control control) (all (map is_printable_stmt (plain body))) e in
      line column (word (codes "PERFORM") refl ∷∷ parts.control-free program names.items control h.0)
      (lines-beside (list-given body h.1 (deeper column) false) (line column (word (codes "END-PERFORM") refl ∷∷ none) no-lines))
  stmt-step (Stmt-F.Perform entry exit control) e column closed =
      alone column (word (codes "PERFORM") refl ∷∷ range-free entry exit +++ parts.control-free program names.items control e)
  stmt-step (Stmt-F.Go to) e column closed = alone column (word (codes "GO") refl ∷∷ word (codes "TO") refl ∷∷ names.labels to)
  stmt-step (Stmt-F.GoDepending to on) e column closed =
      alone column (word (codes "GO") refl ∷∷ word (codes "TO") refl ∷∷ labels-free to +++ word (codes "DEPENDING") refl ∷∷ word (codes "ON") refl ∷∷ places.place-free program names.items on e)
  stmt-step Stmt-F.NextSentence e column closed = alone column (word (codes "NEXT") refl ∷∷ word (codes "SENTENCE") refl ∷∷ none)
  stmt-step Stmt-F.StopRun e column closed = alone column (word (codes "STOP") refl ∷∷ word (codes "RUN") refl ∷∷ none)
  stmt-step Stmt-F.Exit e column closed = alone column (word (codes "EXIT") refl ∷∷ none)
  stmt-step Stmt-F.ExitParagraph e column closed = alone column (word (codes "EXIT") refl ∷∷ word (codes "PARAGRAPH") refl ∷∷ none)
  stmt-step Stmt-F.ExitSection e column closed = alone column (word (codes "EXIT") refl ∷∷ word (codes "SECTION") refl ∷∷ none)
  stmt-step (Stmt-F.ExitPerform cycle) e column closed =
      alone column (word (codes "EXIT") refl ∷∷ word (codes "PERFORM") refl ∷∷ cycle-free cycle)
  stmt-step Stmt-F.Continue e column closed = alone column (word (codes "CONTINUE") refl ∷∷ none)

  stmt-layer : (y : Stmt-F SuchStmt SuchArms SuchWhen) → IsStmt (roll-Stmt (mapped y))
  stmt-layer y e column closed =
      subst (λ (f : Lines). FitLines (f column closed)) (sym (fold-roll-Stmt Lines ArmLines WhenLines (units.stmt_step program) units.arms_step (units.when_step program) (mapped y)))
      (stmt-step y (sym (fold-roll-Stmt Bool Bool Bool stmt_step arms_step when_step (mapped y)) ∙ e) column closed)

  arms-by : (y : Arms-F Stmt Arms When) →
      (arms_step (map-Arms Stmt Arms When Bool Bool Bool is_printable_stmt are_printable_arms is_printable_when y) ≡ true → (phrase : ArmPhrase) (column : ℕ) →
      FitLines ((units.arms_step (map-Arms Stmt Arms When Lines ArmLines WhenLines (stmt_lines program) (arms_lines program) (when_lines program) y)).lines phrase column)) →
      IsArms (roll-Arms y)
  arms-by y h e phrase column =
      subst (λ (a : ArmLines). FitLines (a.lines phrase column)) (sym (fold-roll-Arms Lines ArmLines WhenLines (units.stmt_step program) units.arms_step (units.when_step program) y))
      (h (sym (fold-roll-Arms Bool Bool Bool stmt_step arms_step when_step y) ∙ e) phrase column)

  arms-layer : (one other : Option (List SuchStmt)) → IsArms (roll-Arms (map-Arms SuchStmt SuchArms SuchWhen Stmt Arms When (λ e. e.0) (λ e. e.0) (λ e. e.0) (record { first = one; second = other })))
  arms-layer None None = arms-by (record { first = None; second = None }) (λ e phrase column. no-lines)
  arms-layer None (Some other) = arms-by (record { first = None; second = Some (plain other) }) (λ e phrase column. arm-given other e phrase true column)
  arms-layer (Some one) None =
      arms-by (record { first = Some (plain one); second = None })
      (λ e phrase column. lines-beside (arm-given one (and_parts (all (map is_printable_stmt (plain one))) true e).0 phrase false column) no-lines)
  arms-layer (Some one) (Some other) =
      arms-by (record { first = Some (plain one); second = Some (plain other) })
      (λ e phrase column. let h = and_parts (all (map is_printable_stmt (plain one))) (all (map is_printable_stmt (plain other))) e in
      lines-beside (arm-given one h.0 phrase false column) (arm-given other h.1 phrase true column))

  when-layer : (tests : List Test) (held : List SuchStmt) → IsWhen (roll-When (map-When SuchStmt SuchArms SuchWhen Stmt Arms When (λ e. e.0) (λ e. e.0) (λ e. e.0) (record { tests = tests; stmts = held })))
  when-layer tests held e column =
      let y : When-F Stmt Arms When = record { tests = tests; stmts = plain held } in
      let h = and_parts (all (map is_printable_test tests)) (all (map is_printable_stmt (plain held)))
      (sym (fold-roll-When Bool Bool Bool stmt_step arms_step when_step y) ∙ e) in
      subst (λ (f : WhenLines). FitLines (f column)) (sym (fold-roll-When Lines ArmLines WhenLines (units.stmt_step program) units.arms_step (units.when_step program) y))
      (lines-beside (tests-given (deeper column) tests h.0) (list-given held h.1 (deeper (deeper column)) false))

  pub stmt-given : (x : Stmt) → IsStmt x
  stmt-given x =
      ind-Stmt IsStmt IsArms IsWhen
      (λ x y is. subst (λ z. IsStmt (roll-Stmt z)) is (stmt-layer y))
      (λ x y is. subst (λ z. IsArms (roll-Arms z)) is (arms-layer y.first y.second))
      (λ x y is. subst (λ z. IsWhen (roll-When z)) is (when-layer y.tests y.stmts)) x

  -- ---- whole lists

  lines-given : (list : List Stmt) → are_printable_stmts list ≡ true → (column : ℕ) (closed : Bool) → FitLines (some_lines (map (stmt_lines program) list) column closed)
  lines-given [] e column closed = no-lines
  lines-given (x ∷ list) e column closed =
      let h = and_parts (is_printable_stmt x) (are_printable_stmts list) e in
      lines-beside (stmt-given x h.0 column (closed && length (map (stmt_lines program) list) == 0)) (lines-given list h.1 column closed)

  pub all-given : (list : List Stmt) → are_printable_stmts list ≡ true → (column : ℕ) (closed : Bool) → FitLines (list_lines (map (stmt_lines program) list) column closed)
  all-given [] e column closed = alone column (word (codes "CONTINUE") refl ∷∷ none)
  all-given (x ∷ list) e column closed = lines-given (x ∷ list) e column closed
