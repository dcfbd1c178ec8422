-- What statements that hold no others give.
use Rattle.std.proofs.Common.{◌≡◌, ℕ, true, List, [], ◌∷◌, Option, Some, None, refl}
use Rattle.std.specs.Prelude.{codes}
use Rattle.cob_tree.specs.declared.place.Operand.{Operand}
use Rattle.cob_tree.specs.declared.stmt.Stmt.{Stmt}
use Rattle.parser_combinators.specs.declared.note.Position.{Position}
use Rattle.parser_combinators.proofs.MakerLaws as laws
use Rattle.cobol_grammar.specs.declared.stmt_forms.scope.Scope.{Scope}
use Rattle.cobol_grammar.specs.stmt_forms.Part.{Parts}
use Rattle.cobol_grammar.specs.stmt_forms.Laws.{PartsAreLawful}
use Rattle.cobol_grammar.specs.stmt_forms.Move as move
use Rattle.cobol_grammar.specs.stmt_forms.Arithmetic as arithmetic
use Rattle.cobol_grammar.specs.stmt_forms.Arithmetic.{Goal, Work, added_to, subtracted_from, multiplied_by, divided_into}
use Rattle.cobol_grammar.specs.stmt_forms.File as file
use Rattle.cobol_grammar.specs.stmt_forms.Jump as jump
use Rattle.cobol_grammar.specs.stmt_forms.Stmt as forms
use Rattle.cobol_grammar.proofs.stmt_forms_lemmas.SimpleLaws as law
use Rattle.program_facts.specs.well_scoped.Part.{if_any}
use Rattle.program_facts.proofs.well_scoped_lemmas.Made.{both}
use Rattle.grammar_laws.specs.form_results.Giving.{Gives}
use Rattle.grammar_laws.proofs.form_results_lemmas.Giving.{Full, full-added, any, hence, still, pure, refuse, note, key, maybe, where_next, added, items, some, ◌>>=◌, ◌>>◌}
use Rattle.round_trip.specs.printable.printable_tokens.Printable.{IsPrintable}
use Rattle.round_trip.specs.printable.Part.{is_printable_place, is_printable_operand}
use Rattle.round_trip.specs.printable.Beside.{is_printable_calc, is_printable_target}
use Rattle.round_trip.specs.printable.Statement.{is_printable_stmt, are_printable_stmts}
use Rattle.round_trip.proofs.printable_lemmas.Made as made
use Rattle.round_trip.specs.printable.printable_stmts.Printable.{PartsPrint}

-- ---- what is known of what is read

abbrev pub Fine : Stmt → Type 0
Fine stmt = is_printable_stmt stmt ≡ true

abbrev pub Operands : List Operand → Type 0
Operands operands = Full is_printable_operand operands

abbrev pub GoalFine : Goal → Type 0
GoalFine goal = (if_any is_printable_operand goal.0 ≡ true) × Full is_printable_target goal.1

abbrev pub WorkFine : Work → Type 0
WorkFine work = (is_printable_calc work.0 ≡ true) × Full is_printable_target work.1

added_work : (operands : List Operand) (goal : Goal) → Operands operands → GoalFine goal → WorkFine (added_to operands goal)
added_work operands (None, into) o g = (o.1, g.1)
added_work operands (Some operand, into) o g = ((full-added is_printable_operand operands operand o.1 g.0).1, g.1)

subtracted_work : (operands : List Operand) (goal : Goal) → Operands operands → GoalFine goal → WorkFine (subtracted_from operands goal)
subtracted_work operands (None, into) o g = (o.1, g.1)
subtracted_work operands (Some from, into) o g = (both o.1 g.0, g.1)

multiplied_work : (one : Operand) (goal : Goal) → is_printable_operand one ≡ true → GoalFine goal → WorkFine (multiplied_by one goal)
multiplied_work one (None, into) o g = (o, g.1)
multiplied_work one (Some by, into) o g = (both o g.0, g.1)

divided_work : (one : Operand) (goal : Goal) → is_printable_operand one ≡ true → GoalFine goal → WorkFine (divided_into one goal)
divided_work one (None, into) o g = (o, g.1)
divided_work one (Some by, into) o g = (both o g.0, g.1)

-- ---- without parts

go_alone : (targets : List ℕ) → Gives IsPrintable (jump.go_alone targets) Fine
unfolding jump.go_alone
go_alone [] = refuse
go_alone (target ∷ []) = pure (made.made-Go target)
go_alone (target ∷ more ∷ others) = refuse

cycle : Gives IsPrintable jump.cycle (λ _. Unit {0})
unfolding jump.cycle
cycle = where_next (key (codes "CYCLE") >> pure (λ _. tt)) (pure tt)

pub exit_behind : (scope : Scope) (position : Position) → Gives IsPrintable (jump.exit_behind scope position) Fine
unfolding jump.exit_behind jump.exit_paragraph jump.exit_section jump.exit_perform
exit_behind scope position =
    where_next (key (codes "PARAGRAPH") >> pure (λ _. made.made-ExitParagraph))
    (where_next (key (codes "SECTION") >> (note >> pure (λ _ _. made.made-ExitSection)))
    (key (codes "PERFORM") >> (cycle >>= (λ again. note >> pure (λ _ _ _. made.made-ExitPerform again)))))

exit_stmt : (scope : Scope) → Gives IsPrintable (jump.exit_stmt scope) Fine
unfolding jump.exit_stmt
exit_stmt scope = key (codes "EXIT") >>= (λ position. still (exit_behind scope position))

still_stmt : Gives IsPrintable jump.still_stmt Fine
unfolding jump.still_stmt jump.next_sentence jump.stop_run jump.continue_stmt
still_stmt =
    where_next (any (laws.◌>>◌ (laws.key (codes "NEXT")) (laws.key (codes "SENTENCE"))) >> pure (λ _. made.made-NextSentence))
    (where_next (any (laws.◌>>◌ (laws.key (codes "STOP")) (laws.key (codes "RUN"))) >> pure (λ _. made.made-StopRun))
    (key (codes "CONTINUE") >> pure (λ _. made.made-Continue)))

module _ {Side Known : Type 0} {parts : Parts Side Known} (lawful : PartsAreLawful parts) (P : PartsPrint parts) where
  -- ---- moves

  pub value : Gives IsPrintable (move.value parts) (λ side. is_printable_operand (parts.operand_of side) ≡ true)
  unfolding move.value
  value = P.operand >>= (λ side. note >> pure (λ _ o. o))

  pub value_operand : Gives IsPrintable (move.value_operand parts) (λ operand. is_printable_operand operand ≡ true)
  unfolding move.value_operand
  value_operand = value >>= (λ side. pure (λ o. o))

  display_stmt : Gives IsPrintable (move.display_stmt parts) Fine
  unfolding move.display_stmt
  display_stmt = do
    key (codes "DISPLAY")
    operands ← some is_printable_operand value_operand
    advance ← any law.advancing
    pure (λ _ o _. made.made-Display operands advance o.1)

  receiver : (from : Side) → Gives IsPrintable (move.receiver parts from) (λ place. is_printable_place place ≡ true)
  unfolding move.receiver
  receiver from = P.reference >>= (λ side. note >> (note >> pure (λ _ _ r. r.0)))

  move_stmt : Gives IsPrintable (move.move_stmt parts) Fine
  unfolding move.move_stmt
  move_stmt = do
    key (codes "MOVE")
    from ← value
    key (codes "TO")
    places ← some is_printable_place (receiver from)
    pure (λ t _ f _. made.made-Move (parts.operand_of from) places f t.1)

  set_one : Gives IsPrintable (move.set_one parts) Fine
  unfolding move.set_one
  set_one = P.reference >>= (λ side. note >> pure (λ _ r. made.made-SetTrue (parts.place_of side) r.0))

  set_stmts : (before : List Stmt) → Gives IsPrintable (move.set_stmts parts before) (λ list. are_printable_stmts before ≡ true → Full is_printable_stmt list)
  unfolding move.set_stmts
  set_stmts before = do
    key (codes "SET")
    first ← set_one
    found ← items is_printable_stmt set_one
    key (codes "TO")
    key (codes "TRUE")
    pure (λ _ _ h f _ b. h (full-added is_printable_stmt before first b f))

  -- ---- arithmetic

  pub number_operand : Gives IsPrintable (arithmetic.number_operand parts) (λ operand. is_printable_operand operand ≡ true)
  unfolding arithmetic.number_operand
  number_operand = P.operand >>= (λ side. note >> pure (λ _ o. o))

  target : Gives IsPrintable (arithmetic.target parts) (λ found. is_printable_target found ≡ true)
  unfolding arithmetic.target
  target = P.reference >>= (λ side. note >> (any law.rounded >>= (λ round. pure (λ _ _ r. r.0))))

  result : Gives IsPrintable (arithmetic.result parts) (λ found. is_printable_target found ≡ true)
  unfolding arithmetic.result
  result = P.reference >>= (λ side. note >> (any law.rounded >>= (λ round. pure (λ _ _ r. r.0))))

  giving : Gives IsPrintable (arithmetic.giving parts) (Full is_printable_target)
  unfolding arithmetic.giving
  giving = key (codes "GIVING") >> still (some is_printable_target result)

  giving_goal : (operand : Operand) → Gives IsPrintable (arithmetic.giving_goal parts operand) (λ goal. is_printable_operand operand ≡ true → GoalFine goal)
  unfolding arithmetic.giving_goal
  giving_goal operand = giving >>= (λ into. pure (λ t o. (o, t)))

  literal_goal : Gives IsPrintable (arithmetic.literal_goal parts) GoalFine
  unfolding arithmetic.literal_goal
  literal_goal = number_operand >>= giving_goal

  targets_goal : (side : Side) → Gives IsPrintable (arithmetic.targets_goal parts side) (λ goal. is_printable_place (parts.place_of side) ≡ true → GoalFine goal)
  unfolding arithmetic.targets_goal
  targets_goal side = do
    round ← any law.rounded
    into ← items is_printable_target target
    pure (λ h _ p. (refl, h (refl, both p refl)))

  item_goal : Gives IsPrintable (arithmetic.item_goal parts) GoalFine
  unfolding arithmetic.item_goal arithmetic.item_goal_behind
  item_goal = P.reference >>= (λ side. note >> where_next (hence (λ goal h _ r. h r.1) (giving_goal (parts.operand_of side))) (hence (λ goal h _ r. h r.0) (targets_goal side)))

  goal : Gives IsPrintable (arithmetic.goal parts) GoalFine
  unfolding arithmetic.goal
  goal = where_next item_goal literal_goal

  pub add : Gives IsPrintable (arithmetic.add parts) WorkFine
  unfolding arithmetic.add arithmetic.add_giving arithmetic.add_to
  add = do
    key (codes "ADD")
    operands ← some is_printable_operand number_operand
    where_next (giving >>= (λ into. pure (λ t o _. (o.1, t))))
        (key (codes "TO") >> (goal >>= (λ found. pure (λ g _ o _. added_work operands found o g))))

  pub subtract : Gives IsPrintable (arithmetic.subtract parts) WorkFine
  unfolding arithmetic.subtract
  subtract = do
    key (codes "SUBTRACT")
    operands ← some is_printable_operand number_operand
    key (codes "FROM")
    found ← goal
    pure (λ g _ o _. subtracted_work operands found o g)

  pub multiply : Gives IsPrintable (arithmetic.multiply parts) WorkFine
  unfolding arithmetic.multiply
  multiply = do
    key (codes "MULTIPLY")
    one ← number_operand
    key (codes "BY")
    found ← goal
    pure (λ g _ o _. multiplied_work one found o g)

  divide_by : (dividend : Operand) → Gives IsPrintable (arithmetic.divide_by parts dividend) (λ work. is_printable_operand dividend ≡ true → WorkFine work)
  unfolding arithmetic.divide_by
  divide_by dividend = do
    key (codes "BY")
    by ← number_operand
    into ← giving
    pure (λ t o _ d. (both o d, t))

  pub divide : Gives IsPrintable (arithmetic.divide parts) WorkFine
  unfolding arithmetic.divide arithmetic.divide_into
  divide = do
    key (codes "DIVIDE")
    one ← number_operand
    where_next (hence (λ work h o _. h o) (divide_by one))
        (key (codes "INTO") >> (goal >>= (λ found. pure (λ g _ o _. divided_work one found o g))))

  pub compute : Gives IsPrintable (arithmetic.compute parts) WorkFine
  unfolding arithmetic.compute
  compute = do
    key (codes "COMPUTE")
    into ← some is_printable_target result
    any law.equals
    side ← P.expr
    note
    pure (λ _ e _ t _. (e, t))

  -- ---- files

  open_stmt : Gives IsPrintable (file.open_stmt parts) Fine
  unfolding file.open_stmt
  open_stmt = do
    key (codes "OPEN")
    first ← any (law.open_group lawful [])
    openings ← any (laws.loop (law.open_group lawful))
    pure (λ _ _ _. made.made-Opens openings)

  close_stmt : Gives IsPrintable (file.close_stmt parts) Fine
  unfolding file.close_stmt
  close_stmt = do
    key (codes "CLOSE")
    files ← any (laws.some (law.file_name lawful))
    pure (λ _ _. made.made-Closes files)

  from_part : (target : Side) → Gives IsPrintable (file.from_part parts target) (λ from. if_any is_printable_operand from ≡ true)
  unfolding file.from_part file.from_operand
  from_part record_side = where_next (key (codes "FROM") >> (value >>= (λ side. note >> pure (λ _ o _. o)))) (pure refl)

  write_stmt : Gives IsPrintable (file.write_stmt parts) Fine
  unfolding file.write_stmt
  write_stmt = do
    key (codes "WRITE")
    target ← any lawful.record_name
    from ← from_part target
    maybe (codes "END-WRITE")
    pure (λ _ f _ _. made.made-Write (parts.entry_of target) from f)

  rewrite_stmt : Gives IsPrintable (file.rewrite_stmt parts) Fine
  unfolding file.rewrite_stmt
  rewrite_stmt = do
    key (codes "REWRITE")
    target ← any lawful.record_name
    from ← from_part target
    maybe (codes "END-REWRITE")
    pure (λ _ f _ _. made.made-Rewrite (parts.entry_of target) from f)

  pub into_part : (found : Option ℕ) → Gives IsPrintable (file.into_part parts found) (λ into. if_any is_printable_place into ≡ true)
  unfolding file.into_part file.into_item
  into_part found = maybe (codes "RECORD") >> where_next (key (codes "INTO") >> (P.reference >>= (λ side. note >> (note >> pure (λ _ _ r _ _. r.0))))) (pure (λ _. refl))

  -- ---- jumps

  go_depending : (targets : List ℕ) → Gives IsPrintable (jump.go_depending parts targets) Fine
  unfolding jump.go_depending
  go_depending targets = do
    key (codes "DEPENDING")
    maybe (codes "ON")
    side ← P.reference
    note
    pure (λ _ r _ _. made.made-GoDepending targets (parts.place_of side) r.0)

  go_stmt : Gives IsPrintable (jump.go_stmt parts) Fine
  unfolding jump.go_stmt
  go_stmt = do
    key (codes "GO")
    maybe (codes "TO")
    first ← any (law.procedure_entry lawful)
    targets ← any (laws.loop (λ front. laws.added front (law.procedure_entry lawful)))
    still (still (still (still (where_next (go_depending targets) (go_alone targets)))))

  jump_stmt : (scope : Scope) → Gives IsPrintable (jump.jump_stmt parts scope) Fine
  unfolding jump.jump_stmt
  jump_stmt scope = where_next go_stmt (where_next (exit_stmt scope) still_stmt)

  -- ---- all of them

  moving_stmts : (before : List Stmt) → Gives IsPrintable (forms.moving_stmts parts before) (λ list. are_printable_stmts before ≡ true → Full is_printable_stmt list)
  unfolding forms.moving_stmts forms.moving_stmt
  moving_stmts before = where_next (set_stmts before) (added is_printable_stmt before (where_next display_stmt move_stmt))

  filing_stmt : Gives IsPrintable (forms.filing_stmt parts) Fine
  unfolding forms.filing_stmt forms.writing_stmt
  filing_stmt = where_next open_stmt (where_next close_stmt (where_next write_stmt rewrite_stmt))

  pub simple_stmts : (scope : Scope) (before : List Stmt) → Gives IsPrintable (forms.simple_stmts parts scope before) (λ list. are_printable_stmts before ≡ true → Full is_printable_stmt list)
  unfolding forms.simple_stmts forms.filing_or_jump
  simple_stmts scope before = where_next (moving_stmts before) (added is_printable_stmt before (where_next filing_stmt (jump_stmt scope)))
