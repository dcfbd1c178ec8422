-- All units of a program stand in columns 8 to 32, and begin with a word or digits.
use Rattle.std.proofs.Common.{ℕ, ◌≤◌, ◌==◌, length, Bool, true, false, List, [], ◌∷◌, ◌++◌, map, Option, Some, None, sym, subst, arith}
use Rattle.std.specs.Prelude.{codes, All, ◌&&◌, ◌||◌, if◌then◌else◌}
use Rattle.std.specs.List.{flat_map, list_all}
use Rattle.std.proofs.lemmas.List.{append_assoc}
use Rattle.std.proofs.lemmas.List.Elements.{All-nil, All-cons}
use Rattle.cob_tree.specs.declared.calc.Calc.{Calc}
use Rattle.cob_tree.specs.declared.calc.Calc.TheVariants as calc
use Rattle.cob_tree.specs.declared.choice.Test.{Test}
use Rattle.cobol_lex.specs.Byte.{is_digit}
use Rattle.cob_tree.specs.declared.entry.Entry.{Entry}
use Rattle.cob_tree.specs.declared.file.FileEntry.{FileEntry}
use Rattle.cob_tree.specs.declared.program.Paragraph.{Paragraph}
use Rattle.cob_tree.specs.declared.program.Program.{Program}
use Rattle.cob_tree.specs.declared.program.Sentence.{Sentence}
use Rattle.cob_tree.specs.declared.stmt.Arms.{Arms, roll-Arms, map-Arms, fold-roll-Arms}
use Rattle.cob_tree.specs.declared.stmt.When.{When, roll-When, map-When, fold-roll-When}
use Rattle.cob_tree.specs.declared.stmt.Stmt.{Stmt, ind-Stmt, map-Stmt, roll-Stmt, fold-roll-Stmt}
use Rattle.cob_tree.specs.declared.stmt.Stmt.TheOpen.{Stmt-F, Arms-F}
use Rattle.cobol_lex.specs.declared.token.TokenKind.TheVariants as kind
use Rattle.unparser.specs.Token.{Tokens, procedure_token}
use Rattle.unparser.specs.Arithmetic.{end_word, calc_front, calc_back, targets_tokens}
use Rattle.unparser.specs.Choice.{test_tokens}
use Rattle.unparser.specs.Condition.{not_tokens}
use Rattle.unparser.specs.Head.{head_step}
use Rattle.cobol_print.specs.declared.units.statement.ArmPhrase.{ArmPhrase}
use Rattle.cobol_print.specs.declared.units.statement.ArmPhrase.TheVariants.{AtEnd, OnSizeError}
use Rattle.cobol_print.specs.declared.units.unit.PrintUnit.{PrintUnit}
use Rattle.cobol_print.specs.units.Unit.{unit_at, header, deeper, ended}
use Rattle.cobol_print.specs.units.Statement.{Lines, ArmLines, WhenLines, phrase_tokens, other_tokens, tests_lines, end_lines, some_lines, list_lines, arm_lines, arm_if_any, whens_lines, held_by_other, held_by_else, held_step, stmt_step, arms_step, when_step, stmt_lines, arms_lines, when_lines}
use Rattle.cobol_print.specs.units.Entry.{entry_unit, level_column}
use Rattle.cobol_print.specs.units.Division.{program_id, file_unit, file_units, environment_units, fd_unit, file_section, headers_between, entries_units, data_units, section_line, named_line, sentence_lines, sentence_units, paragraph_units, paragraphs_units, program_units}

-- the first token is a word or digits
abbrev pub Begins : Tokens → Type 0
Begins (kind.Word word ∷ tokens) = Unit {0}
Begins (kind.Digits digits ∷ tokens) = Unit {0}
Begins _ = ⊥

abbrev pub IsIn : PrintUnit → Type 0
IsIn unit = (8 ≤ unit.column) × (unit.column ≤ 32) × Begins unit.tokens

unfoldable pub AreIn : List PrintUnit → Type 0
AreIn [] = Unit {0}
AreIn (unit ∷ units) = IsIn unit × AreIn units

abbrev AreInFrom : Lines → Type 0
AreInFrom lines = (column : ℕ) (closed : Bool) → 8 ≤ column → column ≤ 32 → AreIn (lines column closed)

-- each of them
AreAll : {X : Type 0} → (X → Type 0) → List X → Type 0
AreAll P [] = Unit {0}
AreAll P (x ∷ xs) = P x × AreAll P xs

in-append : (xs ys : List PrintUnit) → AreIn xs → AreIn ys → AreIn (xs ++ ys)
unfolding AreIn
in-append [] ys h k = k
in-append (x ∷ xs) ys h k = (h.0, in-append xs ys h.1 k)

deeper-low : (column : ℕ) → 8 ≤ column → 8 ≤ deeper column
deeper-low column low = omega arith

deeper-high : (column : ℕ) → deeper column ≤ 32
deeper-high column = omega arith

one-in : (column : ℕ) (tokens : Tokens) → 8 ≤ column → column ≤ 32 → Begins tokens → AreIn (unit_at column tokens ∷ [])
unfolding AreIn
one-in column tokens low high begins = ((low, high, begins), tt)

cons-in : (column : ℕ) (tokens : Tokens) (units : List PrintUnit) → 8 ≤ column → column ≤ 32 → Begins tokens → AreIn units →
    AreIn (unit_at column tokens ∷ units)
unfolding AreIn
cons-in column tokens units low high begins h = ((low, high, begins), h)

none-in : AreIn []
unfolding AreIn
none-in = tt

-- ---- the lines of statements

some-in : (stmts : List Lines) → AreAll AreInFrom stmts → AreInFrom (some_lines stmts)
unfolding AreAll
some-in [] h column closed low high = none-in
some-in (stmt ∷ stmts) h column closed low high =
    in-append (stmt column (closed && length stmts == 0)) (some_lines stmts column closed)
    (h.0 column (closed && length stmts == 0) low high) (some-in stmts h.1 column closed low high)

list-in : (stmts : List Lines) → AreAll AreInFrom stmts → AreInFrom (list_lines stmts)
list-in [] h column closed low high = one-in column (kind.Word (codes "CONTINUE") ∷ []) low high tt
list-in (stmt ∷ stmts) h column closed low high = some-in (stmt ∷ stmts) h column closed low high

end-in : (asked : Bool) (word : List ℕ) (column : ℕ) → 8 ≤ column → column ≤ 32 → AreIn (end_lines asked word column)
end-in true word column low high = one-in column (kind.Word word ∷ []) low high tt
end-in false word column low high = none-in

phrase-begins : (not : Bool) (phrase : ArmPhrase) → Begins (not_tokens not ++ phrase_tokens phrase)
phrase-begins true phrase = tt
phrase-begins false AtEnd = tt
phrase-begins false OnSizeError = tt

calc-begins : (program : Program) (calc : Calc) (more : Tokens) → Begins (calc_front program calc ++ more)
calc-begins program (calc.Add parts) more = tt
calc-begins program (calc.AddGiving parts) more = tt
calc-begins program (calc.Subtract parts) more = tt
calc-begins program (calc.SubtractGiving parts from) more = tt
calc-begins program (calc.Multiply by) more = tt
calc-begins program (calc.MultiplyGiving one by) more = tt
calc-begins program (calc.Divide by) more = tt
calc-begins program (calc.DivideGiving by into) more = tt
calc-begins program (calc.Compute expr) more = tt

head-begins : (program : Program) (stmt : Stmt-F Lines ArmLines WhenLines) → Begins (head_step program stmt)
head-begins program (Stmt-F.Arith calc into arms) =
    subst Begins (sym (append_assoc (calc_front program calc) (targets_tokens program into) (calc_back program calc)))
    (calc-begins program calc (targets_tokens program into ++ calc_back program calc))
head-begins program (Stmt-F.Read file into arms) = tt
head-begins program (Stmt-F.If cond met unmet) = tt
head-begins program (Stmt-F.Evaluate subject whens other) = tt
head-begins program (Stmt-F.Loop control body) = tt
head-begins program (Stmt-F.Display items advance) = tt
head-begins program (Stmt-F.Move from to) = tt
head-begins program (Stmt-F.SetTrue place) = tt
head-begins program (Stmt-F.Opens openings) = tt
head-begins program (Stmt-F.Closes files) = tt
head-begins program (Stmt-F.Write entry from) = tt
head-begins program (Stmt-F.Rewrite entry from) = tt
head-begins program (Stmt-F.Perform entry exit control) = tt
head-begins program (Stmt-F.Go to) = tt
head-begins program (Stmt-F.GoDepending to on) = tt
head-begins program Stmt-F.NextSentence = tt
head-begins program Stmt-F.StopRun = tt
head-begins program Stmt-F.Exit = tt
head-begins program Stmt-F.ExitParagraph = tt
head-begins program Stmt-F.ExitSection = tt
head-begins program (Stmt-F.ExitPerform cycle) = tt
head-begins program Stmt-F.Continue = tt

arm-in : (stmts : List Lines) (phrase : ArmPhrase) (not : Bool) → AreAll AreInFrom stmts → (column : ℕ) → 8 ≤ column → column ≤ 32 →
    AreIn (arm_lines stmts phrase not column)
arm-in stmts phrase not h column low high =
    let low_1 : 8 ≤ deeper column = deeper-low column low in
    cons-in (deeper column) (not_tokens not ++ phrase_tokens phrase) (list_lines stmts (deeper (deeper column)) true)
    low_1 (deeper-high column) (phrase-begins not phrase)
    (list-in stmts h (deeper (deeper column)) true (deeper-low (deeper column) low_1) (deeper-high (deeper column)))

tests-in : (program : Program) (column : ℕ) (tests : List Test) → 8 ≤ column → column ≤ 32 → AreIn (tests_lines program column tests)
tests-in program column [] low high = none-in
tests-in program column (test ∷ tests) low high =
    cons-in column (kind.Word (codes "WHEN") ∷ test_tokens program test) (tests_lines program column tests) low high tt
    (tests-in program column tests low high)

when-in : (program : Program) (column : ℕ) (tests : List Test) (stmts : List Lines) → AreAll AreInFrom stmts → 8 ≤ column → column ≤ 32 →
    AreIn (tests_lines program (deeper column) tests ++ list_lines stmts (deeper (deeper column)) false)
when-in program column tests stmts h low high =
    let low_1 : 8 ≤ deeper column = deeper-low column low in
    in-append (tests_lines program (deeper column) tests) (list_lines stmts (deeper (deeper column)) false)
    (tests-in program (deeper column) tests low_1 (deeper-high column))
    (list-in stmts h (deeper (deeper column)) false (deeper-low (deeper column) low_1) (deeper-high (deeper column)))

abbrev WhenInFrom : WhenLines → Type 0
WhenInFrom when = (column : ℕ) → 8 ≤ column → column ≤ 32 → AreIn (when column)

abbrev ArmsInFrom : ArmLines → Type 0
ArmsInFrom arms = (phrase : ArmPhrase) (column : ℕ) → 8 ≤ column → column ≤ 32 → AreIn (arms.lines phrase column)

whens-in : (whens : List WhenLines) → AreAll WhenInFrom whens → (column : ℕ) → 8 ≤ column → column ≤ 32 → AreIn (whens_lines whens column)
unfolding AreAll
whens-in [] h column low high = none-in
whens-in (when ∷ whens) h column low high =
    in-append (when column) (whens_lines whens column) (h.0 column low high) (whens-in whens h.1 column low high)

end-word-in : (column : ℕ) (word : List ℕ) → 8 ≤ column → column ≤ 32 → AreIn (unit_at column (kind.Word word ∷ []) ∷ [])
end-word-in column word low high = one-in column (kind.Word word ∷ []) low high tt

other-in : (stmts : List Lines) → AreAll AreInFrom stmts → (column : ℕ) → 8 ≤ column → column ≤ 32 → AreIn (held_by_other (Some stmts) column)
other-in stmts h column low high =
    let low_1 : 8 ≤ deeper column = deeper-low column low in
    let body : List PrintUnit = list_lines stmts (deeper (deeper column)) false in
    let end : List PrintUnit = unit_at column (kind.Word (codes "END-EVALUATE") ∷ []) ∷ [] in
    cons-in (deeper column) other_tokens (body ++ end) low_1 (deeper-high column) tt
    (in-append body end
    (list-in stmts h (deeper (deeper column)) false (deeper-low (deeper column) low_1) (deeper-high (deeper column)))
    (one-in column (kind.Word (codes "END-EVALUATE") ∷ []) low high tt))

body-in : (stmts : List Lines) (word : List ℕ) → AreAll AreInFrom stmts → (column : ℕ) → 8 ≤ column → column ≤ 32 →
    AreIn (list_lines stmts (deeper column) false ++ unit_at column (kind.Word word ∷ []) ∷ [])
body-in stmts word h column low high =
    in-append (list_lines stmts (deeper column) false) (unit_at column (kind.Word word ∷ []) ∷ [])
    (list-in stmts h (deeper column) false (deeper-low column low) (deeper-high column))
    (one-in column (kind.Word word ∷ []) low high tt)

else-in : (stmts : List Lines) → AreAll AreInFrom stmts → (column : ℕ) → 8 ≤ column → column ≤ 32 → AreIn (held_by_else stmts column)
else-in [] h column low high = one-in column (kind.Word (codes "END-IF") ∷ []) low high tt
else-in (stmt ∷ stmts) h column low high =
    cons-in column (kind.Word (codes "ELSE") ∷ [])
    (list_lines (stmt ∷ stmts) (deeper column) false ++ unit_at column (kind.Word (codes "END-IF") ∷ []) ∷ []) low high tt
    (body-in (stmt ∷ stmts) (codes "END-IF") h column low high)

module _ (program : Program) where
  abbrev StmtIn : Stmt → Type 0
  StmtIn stmt = AreInFrom (stmt_lines program stmt)

  abbrev ArmsIn : Arms → Type 0
  ArmsIn arms = ArmsInFrom (arms_lines program arms)

  abbrev WhenIn : When → Type 0
  WhenIn when = WhenInFrom (when_lines program when)

  abbrev SuchStmt : Type 0
  SuchStmt = (stmt : Stmt) × StmtIn stmt

  abbrev SuchArms : Type 0
  SuchArms = (arms : Arms) × ArmsIn arms

  abbrev SuchWhen : Type 0
  SuchWhen = (when : When) × WhenIn when

  all-in : (xs : List SuchStmt) → AreAll AreInFrom (map (stmt_lines program) (map (λ x. x.0) xs))
  unfolding AreAll
  all-in [] = tt
  all-in (x ∷ xs) = (x.1, all-in xs)

  all-whens-in : (xs : List SuchWhen) → AreAll WhenInFrom (map (when_lines program) (map (λ x. x.0) xs))
  unfolding AreAll
  all-whens-in [] = tt
  all-whens-in (x ∷ xs) = (x.1, all-whens-in xs)

  abbrev mapped : Stmt-F SuchStmt SuchArms SuchWhen → Stmt-F Stmt Arms When
  mapped = map-Stmt SuchStmt SuchArms SuchWhen Stmt Arms When (λ e. e.0) (λ e. e.0) (λ e. e.0)

  abbrev lines_of : Stmt-F Stmt Arms When → Stmt-F Lines ArmLines WhenLines
  lines_of = map-Stmt Stmt Arms When Lines ArmLines WhenLines (stmt_lines program) (arms_lines program) (when_lines program)

  held-in : (y : Stmt-F SuchStmt SuchArms SuchWhen) → AreInFrom (held_step (lines_of (mapped y)))
  held-in (Stmt-F.Arith calc into arms) column closed low high =
      in-append ((arms_lines program arms.0).lines OnSizeError column) _ (arms.1 OnSizeError column low high)
      (end-in ((arms_lines program arms.0).some || closed) (end_word calc) column low high)
  held-in (Stmt-F.Read file into arms) column closed low high =
      in-append ((arms_lines program arms.0).lines AtEnd column) _ (arms.1 AtEnd column low high)
      (end-in ((arms_lines program arms.0).some || closed) (codes "END-READ") column low high)
  held-in (Stmt-F.If cond met unmet) column closed low high =
      in-append (list_lines (map (stmt_lines program) (map (λ x. x.0) met)) (deeper column) false) _
      (list-in _ (all-in met) (deeper column) false (deeper-low column low) (deeper-high column))
      (else-in _ (all-in unmet) column low high)
  held-in (Stmt-F.Evaluate subject whens None) column closed low high =
      in-append (whens_lines (map (when_lines program) (map (λ x. x.0) whens)) column) _
      (whens-in _ (all-whens-in whens) column low high)
      (one-in column (kind.Word (codes "END-EVALUATE") ∷ []) low high tt)
  held-in (Stmt-F.Evaluate subject whens (Some other)) column closed low high =
      in-append (whens_lines (map (when_lines program) (map (λ x. x.0) whens)) column) _
      (whens-in _ (all-whens-in whens) column low high)
      (other-in _ (all-in other) column low high)
  held-in (Stmt-F.Loop control body) column closed low high =
      body-in _ (codes "END-PERFORM") (all-in body) column low high
  held-in (Stmt-F.Display items advance) column closed low high = none-in
  held-in (Stmt-F.Move from to) column closed low high = none-in
  held-in (Stmt-F.SetTrue place) column closed low high = none-in
  held-in (Stmt-F.Opens openings) column closed low high = none-in
  held-in (Stmt-F.Closes files) column closed low high = none-in
  held-in (Stmt-F.Write entry from) column closed low high = none-in
  held-in (Stmt-F.Rewrite entry from) column closed low high = none-in
  held-in (Stmt-F.Perform entry exit control) column closed low high = none-in
  held-in (Stmt-F.Go to) column closed low high = none-in
  held-in (Stmt-F.GoDepending to on) column closed low high = none-in
  held-in Stmt-F.NextSentence column closed low high = none-in
  held-in Stmt-F.StopRun column closed low high = none-in
  held-in Stmt-F.Exit column closed low high = none-in
  held-in Stmt-F.ExitParagraph column closed low high = none-in
  held-in Stmt-F.ExitSection column closed low high = none-in
  held-in (Stmt-F.ExitPerform cycle) column closed low high = none-in
  held-in Stmt-F.Continue column closed low high = none-in

  layer-in : (y : Stmt-F SuchStmt SuchArms SuchWhen) → StmtIn (roll-Stmt (mapped y))
  layer-in y =
      subst AreInFrom (sym (fold-roll-Stmt Lines ArmLines WhenLines (stmt_step program) arms_step (when_step program) (mapped y)))
      (λ column closed low high.
      cons-in column (head_step program (lines_of (mapped y))) (held_step (lines_of (mapped y)) column closed) low high
      (head-begins program (lines_of (mapped y)))
      (held-in y column closed low high))

  abbrev mapped_arms : Arms-F SuchStmt SuchArms SuchWhen → Arms-F Stmt Arms When
  mapped_arms = map-Arms SuchStmt SuchArms SuchWhen Stmt Arms When (λ e. e.0) (λ e. e.0) (λ e. e.0)

  abbrev arm_of : Option (List SuchStmt) → Option (List Lines)
  arm_of None = None
  arm_of (Some stmts) = Some (map (stmt_lines program) (map (λ x. x.0) stmts))

  arm-if-in : (arm : Option (List SuchStmt)) (not : Bool) (phrase : ArmPhrase) (column : ℕ) → 8 ≤ column → column ≤ 32 →
      AreIn (arm_if_any (arm_of arm) phrase not column)
  arm-if-in None not phrase column low high = none-in
  arm-if-in (Some stmts) not phrase column low high = arm-in _ phrase not (all-in stmts) column low high

  arms-in : (first second : Option (List SuchStmt)) → ArmsIn (roll-Arms (mapped_arms (record { first = first; second = second })))
  arms-in None None phrase column low high =
      subst (λ (arms : ArmLines). AreIn (arms.lines phrase column))
      (sym (fold-roll-Arms Lines ArmLines WhenLines (stmt_step program) arms_step (when_step program) (mapped_arms (record { first = None; second = None }))))
      (in-append (arm_if_any (arm_of None) phrase false column) (arm_if_any (arm_of None) phrase true column)
      (arm-if-in None false phrase column low high) (arm-if-in None true phrase column low high))
  arms-in None (Some second) phrase column low high =
      subst (λ (arms : ArmLines). AreIn (arms.lines phrase column))
      (sym (fold-roll-Arms Lines ArmLines WhenLines (stmt_step program) arms_step (when_step program) (mapped_arms (record { first = None; second = Some second }))))
      (in-append (arm_if_any (arm_of None) phrase false column) (arm_if_any (arm_of (Some second)) phrase true column)
      (arm-if-in None false phrase column low high) (arm-if-in (Some second) true phrase column low high))
  arms-in (Some first) None phrase column low high =
      subst (λ (arms : ArmLines). AreIn (arms.lines phrase column))
      (sym (fold-roll-Arms Lines ArmLines WhenLines (stmt_step program) arms_step (when_step program) (mapped_arms (record { first = Some first; second = None }))))
      (in-append (arm_if_any (arm_of (Some first)) phrase false column) (arm_if_any (arm_of None) phrase true column)
      (arm-if-in (Some first) false phrase column low high) (arm-if-in None true phrase column low high))
  arms-in (Some first) (Some second) phrase column low high =
      subst (λ (arms : ArmLines). AreIn (arms.lines phrase column))
      (sym (fold-roll-Arms Lines ArmLines WhenLines (stmt_step program) arms_step (when_step program) (mapped_arms (record { first = Some first; second = Some second }))))
      (in-append (arm_if_any (arm_of (Some first)) phrase false column) (arm_if_any (arm_of (Some second)) phrase true column)
      (arm-if-in (Some first) false phrase column low high) (arm-if-in (Some second) true phrase column low high))

  whens-layer-in : (tests : List Test) (stmts : List SuchStmt) →
      WhenIn (roll-When (map-When SuchStmt SuchArms SuchWhen Stmt Arms When (λ e. e.0) (λ e. e.0) (λ e. e.0) (record { tests = tests; stmts = stmts })))
  whens-layer-in tests stmts column low high =
      subst (λ (when : WhenLines). AreIn (when column))
      (sym (fold-roll-When Lines ArmLines WhenLines (stmt_step program) arms_step (when_step program) (record { tests = tests; stmts = map (λ x. x.0) stmts })))
      (when-in program column tests _ (all-in stmts) low high)

  stmt-in : (stmt : Stmt) → StmtIn stmt
  stmt-in stmt =
      ind-Stmt StmtIn ArmsIn WhenIn
      (λ x y is. subst (λ z. StmtIn (roll-Stmt z)) is (layer-in y))
      (λ x y is. subst (λ z. ArmsIn (roll-Arms z)) is (arms-in y.first y.second))
      (λ x y is. subst (λ z. WhenIn (roll-When z)) is (whens-layer-in y.tests y.stmts)) stmt

  stmts-in : (stmts : List Stmt) → AreAll AreInFrom (map (stmt_lines program) stmts)
  unfolding AreAll
  stmts-in [] = tt
  stmts-in (stmt ∷ stmts) = (stmt-in stmt, stmts-in stmts)

-- ---- sentences, and the divisions

ended-begins : (tokens : Tokens) → Begins tokens → Begins (tokens ++ kind.Period ∷ [])
ended-begins (kind.Word word ∷ tokens) h = tt
ended-begins (kind.Digits digits ∷ tokens) h = tt
ended-begins [] h = absurd h
ended-begins (kind.Decimal number ∷ tokens) h = absurd h
ended-begins (kind.Literal value ∷ tokens) h = absurd h
ended-begins (kind.Picture picture ∷ tokens) h = absurd h
ended-begins (kind.Period ∷ tokens) h = absurd h
ended-begins (kind.Mark b ∷ tokens) h = absurd h
ended-begins (kind.LessEqual ∷ tokens) h = absurd h
ended-begins (kind.GreaterEqual ∷ tokens) h = absurd h
ended-begins (kind.Power ∷ tokens) h = absurd h

ended-in : (units : List PrintUnit) → AreIn units → AreIn (ended units)
unfolding AreIn
ended-in [] h = tt
ended-in (unit ∷ []) h = ((h.0.0, h.0.1, ended-begins unit.tokens h.0.2), tt)
ended-in (unit ∷ next ∷ units) h = (h.0, ended-in (next ∷ units) h.1)

header-in : (tokens : Tokens) → Begins tokens → AreIn (unit_at 8 tokens ∷ [])
header-in tokens begins = one-in 8 tokens (omega arith) (omega arith) begins

headed-in : (tokens : Tokens) (units : List PrintUnit) → Begins tokens → AreIn units → AreIn (unit_at 8 tokens ∷ units)
headed-in tokens units begins h = cons-in 8 tokens units (omega arith) (omega arith) begins h

header-on : (first second : List ℕ) (units : List PrintUnit) → AreIn units → AreIn (header first second ∷ units)
header-on first second units h = headed-in (kind.Word first ∷ kind.Word second ∷ kind.Period ∷ []) units tt h

sentence-in : (program : Program) (sentence : Sentence) → AreIn (sentence_units program sentence)
sentence-in program sentence =
    ended-in _ (list-in (map (stmt_lines program) sentence.stmts) (stmts-in program sentence.stmts) 12 false (omega arith) (omega arith))

sentences-in : (program : Program) (sentences : List Sentence) → AreIn (flat_map (sentence_units program) sentences)
sentences-in program [] = none-in
sentences-in program (sentence ∷ sentences) =
    in-append (sentence_units program sentence) _ (sentence-in program sentence) (sentences-in program sentences)

procedure-begins : (digits : Bool) (name : List ℕ) (more : Tokens) → Begins ((if digits then kind.Digits name else kind.Word name) ∷ more)
procedure-begins true name more = tt
procedure-begins false name more = tt

section-in : (section : Option (List ℕ)) → AreIn (section_line section)
section-in None = none-in
section-in (Some name) = header-in (procedure_token name ∷ kind.Word (codes "SECTION") ∷ kind.Period ∷ [])
    (procedure-begins (list_all is_digit name) name (kind.Word (codes "SECTION") ∷ kind.Period ∷ []))

named-in : (name : Option (List ℕ)) → AreIn (named_line name)
named-in None = none-in
named-in (Some name) = header-in (procedure_token name ∷ kind.Period ∷ [])
    (procedure-begins (list_all is_digit name) name (kind.Period ∷ []))

paragraph-in : (program : Program) (paragraph : Paragraph) → AreIn (paragraph_units program paragraph)
paragraph-in program paragraph =
    in-append (section_line paragraph.section ++ named_line paragraph.name) _
    (in-append (section_line paragraph.section) (named_line paragraph.name) (section-in paragraph.section) (named-in paragraph.name))
    (sentences-in program paragraph.sentences)

paragraphs-in : (program : Program) (paragraphs : List Paragraph) → AreIn (paragraphs_units program paragraphs)
paragraphs-in program [] = none-in
paragraphs-in program (paragraph ∷ paragraphs) =
    in-append (paragraph_units program paragraph) _ (paragraph-in program paragraph) (paragraphs-in program paragraphs)

files-in : (program : Program) (files : List FileEntry) → AreIn (file_units program files)
files-in program [] = none-in
files-in program (file ∷ files) =
    cons-in 12 (file_unit program file).tokens (file_units program files) (omega arith) (omega arith) tt (files-in program files)

environment-in : (program : Program) (files : List FileEntry) → AreIn (environment_units program files)
environment-in program [] = none-in
environment-in program (file ∷ files) =
    header-on (codes "ENVIRONMENT") (codes "DIVISION") _ (header-on (codes "INPUT-OUTPUT") (codes "SECTION") _
    (headed-in (kind.Word (codes "FILE-CONTROL") ∷ kind.Period ∷ []) (file_units program (file ∷ files)) tt (files-in program (file ∷ files))))

fd-in : (program : Program) (file : ℕ) → AreIn (fd_unit program file ∷ [])
fd-in program file = header-in (fd_unit program file).tokens tt

file_section-in : (program : Program) (file : ℕ) → AreIn (file_section program file)
file_section-in program file = header-on (codes "FILE") (codes "SECTION") (fd_unit program file ∷ []) (fd-in program file)

fd-if-in : (program : Program) (file : ℕ) (same : Bool) → AreIn (if same then [] else fd_unit program file ∷ [])
fd-if-in program file true = none-in
fd-if-in program file false = fd-in program file

headers-in : (program : Program) (before : Option (Option ℕ)) (file : Option ℕ) → AreIn (headers_between program before file)
headers-in program None None = header-on (codes "WORKING-STORAGE") (codes "SECTION") [] none-in
headers-in program None (Some file) = file_section-in program file
headers-in program (Some None) None = none-in
headers-in program (Some None) (Some file) = file_section-in program file
headers-in program (Some (Some other)) None = header-on (codes "WORKING-STORAGE") (codes "SECTION") [] none-in
headers-in program (Some (Some other)) (Some file) = fd-if-in program file (other == file)

level-low : (b : Bool) → 8 ≤ (if b then 8 else 12)
level-low true = omega arith
level-low false = omega arith

level-high : (b : Bool) → (if b then 8 else 12) ≤ 32
level-high true = omega arith
level-high false = omega arith

entries-in : (program : Program) (before : Option (Option ℕ)) (entries : List Entry) → AreIn (entries_units program before entries)
entries-in program before [] = none-in
entries-in program before (entry ∷ entries) =
    in-append (headers_between program before entry.file) _ (headers-in program before entry.file)
    (cons-in (level_column entry.level) (entry_unit program entry).tokens (entries_units program (Some entry.file) entries)
    (level-low (entry.level == 1 || entry.level == 77)) (level-high (entry.level == 1 || entry.level == 77)) tt
    (entries-in program (Some entry.file) entries))

data-in : (program : Program) (entries : List Entry) → AreIn (data_units program entries)
data-in program [] = none-in
data-in program (entry ∷ entries) = header-on (codes "DATA") (codes "DIVISION") _ (entries-in program None (entry ∷ entries))

program-in : (program : Program) → AreIn (program_units program)
program-in program =
    header-on (codes "IDENTIFICATION") (codes "DIVISION") _
    (headed-in (program_id program.name).tokens _ tt
    (in-append (environment_units program program.files ++ data_units program program.entries) _
    (in-append (environment_units program program.files) _ (environment-in program program.files) (data-in program program.entries))
    (header-on (codes "PROCEDURE") (codes "DIVISION") _ (paragraphs-in program program.paragraphs))))

all-narrow : (units : List PrintUnit) → AreIn units → All (λ unit. unit.column ≤ 32) units
unfolding AreIn
all-narrow [] h = All-nil (λ (unit : PrintUnit). unit.column ≤ 32)
all-narrow (unit ∷ units) h = All-cons (λ (unit : PrintUnit). unit.column ≤ 32) unit units h.0.1 (all-narrow units h.1)

-- the lines of a sentence before its period
pub sentence-lines-in : (program : Program) (sentence : Sentence) → AreIn (sentence_lines program sentence)
sentence-lines-in program sentence =
    list-in (map (stmt_lines program) sentence.stmts) (stmts-in program sentence.stmts) 12 false (omega arith) (omega arith)

pub units-narrow : (program : Program) → All (λ unit. unit.column ≤ 32) (program_units program)
units-narrow program = all-narrow (program_units program) (program-in program)
