-- What statements that hold no others give.
use Rattle.std.proofs.Common.{◌≡◌, ℕ, true, List, [], ◌∷◌, map, Option, Some, None, refl}
use Rattle.std.specs.Prelude.{codes}
use Rattle.std.proofs.lemmas.Bool.{and_parts}
use Rattle.cob_tree.specs.declared.file.How.{How}
use Rattle.cob_tree.specs.declared.file.Opening.{Opening}
use Rattle.cob_tree.specs.declared.place.Operand.{Operand}
use Rattle.cob_tree.specs.declared.stmt.Stmt.{Stmt}
use Rattle.parser_combinators.specs.declared.note.Position.{Position}
use Rattle.parser_combinators.proofs.MakerLaws as laws
use Rattle.cobol_grammar.specs.declared.stmt_forms.scope.Scope.{Scope}
use Rattle.cobol_grammar.specs.stmt_forms.Part.{Parts}
use Rattle.cobol_grammar.specs.stmt_forms.Move as move
use Rattle.cobol_grammar.specs.stmt_forms.Arithmetic as arithmetic
use Rattle.cobol_grammar.specs.stmt_forms.Arithmetic.{Goal, Work, added_to, subtracted_from, multiplied_by, divided_into}
use Rattle.cobol_grammar.specs.stmt_forms.File as file
use Rattle.cobol_grammar.specs.stmt_forms.Jump as jump
use Rattle.cobol_grammar.specs.stmt_forms.Stmt as forms
use Rattle.cobol_grammar.proofs.stmt_forms_lemmas.SimpleLaws as law
use Rattle.control_flow_theory.specs.language.All.{all}
use Rattle.program_facts.specs.well_scoped.Part.{Counts, if_any, file_named, paragraph_named, place_named, operand_named}
use Rattle.program_facts.specs.well_scoped.Beside.{calc_named, target_named}
use Rattle.program_facts.specs.well_scoped.Named.{opening_named, stmt_named, stmts_named}
use Rattle.program_facts.proofs.well_scoped_lemmas.Made as made
use Rattle.program_facts.proofs.well_scoped_lemmas.Made.{both}
use Rattle.grammar_laws.specs.form_results.Giving.{Gives}
use Rattle.grammar_laws.specs.form_results.Numbered.{IsNumbered}
use Rattle.grammar_laws.proofs.form_results_lemmas.Giving.{Full, full-added, full-one, any, hence, still, pure, refuse, note, key, maybe, where_next, loop, added, items, some, ◌>>=◌, ◌>>◌}
use Rattle.grammar_laws.specs.well_scoped.named_stmts.Parts.{PartsGive}

module _ (counts : Counts) where
  -- ---- what is known of what is read

  abbrev pub Named : Stmt → Type 0
  Named stmt = stmt_named counts stmt ≡ true

  abbrev pub Operands : List Operand → Type 0
  Operands operands = Full (operand_named counts) operands

  abbrev pub GoalNamed : Goal → Type 0
  GoalNamed goal = (if_any (operand_named counts) goal.0 ≡ true) × Full (target_named counts) goal.1

  abbrev pub WorkNamed : Work → Type 0
  WorkNamed work = (calc_named counts work.0 ≡ true) × Full (target_named counts) work.1

  -- the entry and exit of a procedure
  abbrev pub SpanNamed : ℕ × ℕ → Type 0
  SpanNamed span = (paragraph_named counts span.0 ≡ true) × (paragraph_named counts span.1 ≡ true)

  added_work : (operands : List Operand) (goal : Goal) → Operands operands → GoalNamed goal → WorkNamed (added_to operands goal)
  added_work operands (None, into) o g = (both o.0 o.1, g.1)
  added_work operands (Some operand, into) o g =
      let h = full-added (operand_named counts) operands operand o.1 g.0 in (both h.0 h.1, g.1)

  subtracted_work : (operands : List Operand) (goal : Goal) → Operands operands → GoalNamed goal → WorkNamed (subtracted_from operands goal)
  subtracted_work operands (None, into) o g = (both o.0 o.1, g.1)
  subtracted_work operands (Some from, into) o g = (both (both o.0 o.1) g.0, g.1)

  multiplied_work : (one : Operand) (goal : Goal) → operand_named counts one ≡ true → GoalNamed goal → WorkNamed (multiplied_by one goal)
  multiplied_work one (None, into) o g = (o, g.1)
  multiplied_work one (Some by, into) o g = (both o g.0, g.1)

  divided_work : (one : Operand) (goal : Goal) → operand_named counts one ≡ true → GoalNamed goal → WorkNamed (divided_into one goal)
  divided_work one (None, into) o g = (o, g.1)
  divided_work one (Some by, into) o g = (both o g.0, g.1)

  -- ---- without parts

  go_alone : (targets : List ℕ) → Gives IsNumbered (jump.go_alone targets) (λ stmt. Full (paragraph_named counts) targets → Named stmt)
  unfolding jump.go_alone
  go_alone [] = refuse
  go_alone (target ∷ []) = pure (λ h. made.made-Go counts target (and_parts (paragraph_named counts target) true h.1).0)
  go_alone (target ∷ more ∷ others) = refuse

  cycle : Gives IsNumbered jump.cycle (λ _. Unit {0})
  unfolding jump.cycle
  cycle = where_next (key (codes "CYCLE") >> pure (λ _. tt)) (pure tt)

  pub exit_behind : (scope : Scope) (position : Position) → Gives IsNumbered (jump.exit_behind scope position) Named
  unfolding jump.exit_behind jump.exit_paragraph jump.exit_section jump.exit_perform
  exit_behind scope position =
      where_next (key (codes "PARAGRAPH") >> pure (λ _. made.made-ExitParagraph counts))
      (where_next (key (codes "SECTION") >> (note >> pure (λ _ _. made.made-ExitSection counts)))
      (key (codes "PERFORM") >> (cycle >>= (λ again. note >> pure (λ _ _ _. made.made-ExitPerform counts again)))))

  exit_stmt : (scope : Scope) → Gives IsNumbered (jump.exit_stmt scope) Named
  unfolding jump.exit_stmt
  exit_stmt scope = key (codes "EXIT") >>= (λ position. still (exit_behind scope position))

  still_stmt : Gives IsNumbered jump.still_stmt Named
  unfolding jump.still_stmt jump.next_sentence jump.stop_run jump.continue_stmt
  still_stmt =
      where_next (any (laws.◌>>◌ (laws.key (codes "NEXT")) (laws.key (codes "SENTENCE"))) >> pure (λ _. made.made-NextSentence counts))
      (where_next (any (laws.◌>>◌ (laws.key (codes "STOP")) (laws.key (codes "RUN"))) >> pure (λ _. made.made-StopRun counts))
      (key (codes "CONTINUE") >> pure (λ _. made.made-Continue counts)))

  module _ {Side Known : Type 0} {parts : Parts Side Known} (P : PartsGive counts parts) where
    -- ---- moves

    pub value : Gives IsNumbered (move.value parts) (λ side. operand_named counts (parts.operand_of side) ≡ true)
    unfolding move.value
    value = P.operand >>= (λ side. note >> pure (λ _ o. o))

    pub value_operand : Gives IsNumbered (move.value_operand parts) (λ operand. operand_named counts operand ≡ true)
    unfolding move.value_operand
    value_operand = value >>= (λ side. pure (λ o. o))

    display_stmt : Gives IsNumbered (move.display_stmt parts) Named
    unfolding move.display_stmt
    display_stmt = do
      key (codes "DISPLAY")
      operands ← some (operand_named counts) value_operand
      advance ← any law.advancing
      pure (λ _ o _. made.made-Display counts operands advance o.0 o.1)

    receiver : (from : Side) → Gives IsNumbered (move.receiver parts from) (λ place. place_named counts place ≡ true)
    unfolding move.receiver
    receiver from = P.reference >>= (λ side. note >> (note >> pure (λ _ _ r. r.0)))

    move_stmt : Gives IsNumbered (move.move_stmt parts) Named
    unfolding move.move_stmt
    move_stmt = do
      key (codes "MOVE")
      from ← value
      key (codes "TO")
      places ← some (place_named counts) (receiver from)
      pure (λ t _ f _. made.made-Move counts (parts.operand_of from) places f t.0 t.1)

    set_one : Gives IsNumbered (move.set_one parts) Named
    unfolding move.set_one
    set_one = P.reference >>= (λ side. note >> pure (λ _ r. made.made-SetTrue counts (parts.place_of side) r.0))

    set_stmts : (before : List Stmt) → Gives IsNumbered (move.set_stmts parts before) (λ list. stmts_named counts before ≡ true → Full (stmt_named counts) list)
    unfolding move.set_stmts
    set_stmts before = do
      key (codes "SET")
      first ← set_one
      found ← items (stmt_named counts) set_one
      key (codes "TO")
      key (codes "TRUE")
      pure (λ _ _ h f _ b. h (full-added (stmt_named counts) before first b f))

    -- ---- arithmetic

    pub number_operand : Gives IsNumbered (arithmetic.number_operand parts) (λ operand. operand_named counts operand ≡ true)
    unfolding arithmetic.number_operand
    number_operand = P.operand >>= (λ side. note >> pure (λ _ o. o))

    target : Gives IsNumbered (arithmetic.target parts) (λ found. target_named counts found ≡ true)
    unfolding arithmetic.target
    target = P.reference >>= (λ side. note >> (any law.rounded >>= (λ round. pure (λ _ _ r. r.0))))

    result : Gives IsNumbered (arithmetic.result parts) (λ found. target_named counts found ≡ true)
    unfolding arithmetic.result
    result = P.reference >>= (λ side. note >> (any law.rounded >>= (λ round. pure (λ _ _ r. r.0))))

    giving : Gives IsNumbered (arithmetic.giving parts) (Full (target_named counts))
    unfolding arithmetic.giving
    giving = key (codes "GIVING") >> still (some (target_named counts) result)

    giving_goal : (operand : Operand) → Gives IsNumbered (arithmetic.giving_goal parts operand) (λ goal. operand_named counts operand ≡ true → GoalNamed goal)
    unfolding arithmetic.giving_goal
    giving_goal operand = giving >>= (λ into. pure (λ t o. (o, t)))

    literal_goal : Gives IsNumbered (arithmetic.literal_goal parts) GoalNamed
    unfolding arithmetic.literal_goal
    literal_goal = number_operand >>= giving_goal

    targets_goal : (side : Side) → Gives IsNumbered (arithmetic.targets_goal parts side) (λ goal. place_named counts (parts.place_of side) ≡ true → GoalNamed goal)
    unfolding arithmetic.targets_goal
    targets_goal side = do
      round ← any law.rounded
      into ← items (target_named counts) target
      pure (λ h _ p. (refl, h (refl, both p refl)))

    item_goal : Gives IsNumbered (arithmetic.item_goal parts) GoalNamed
    unfolding arithmetic.item_goal arithmetic.item_goal_behind
    item_goal = P.reference >>= (λ side. note >> where_next (hence (λ goal h _ r. h r.1) (giving_goal (parts.operand_of side))) (hence (λ goal h _ r. h r.0) (targets_goal side)))

    goal : Gives IsNumbered (arithmetic.goal parts) GoalNamed
    unfolding arithmetic.goal
    goal = where_next item_goal literal_goal

    pub add : Gives IsNumbered (arithmetic.add parts) WorkNamed
    unfolding arithmetic.add arithmetic.add_giving arithmetic.add_to
    add = do
      key (codes "ADD")
      operands ← some (operand_named counts) number_operand
      where_next (giving >>= (λ into. pure (λ t o _. (both o.0 o.1, t))))
          (key (codes "TO") >> (goal >>= (λ found. pure (λ g _ o _. added_work operands found o g))))

    pub subtract : Gives IsNumbered (arithmetic.subtract parts) WorkNamed
    unfolding arithmetic.subtract
    subtract = do
      key (codes "SUBTRACT")
      operands ← some (operand_named counts) number_operand
      key (codes "FROM")
      found ← goal
      pure (λ g _ o _. subtracted_work operands found o g)

    pub multiply : Gives IsNumbered (arithmetic.multiply parts) WorkNamed
    unfolding arithmetic.multiply
    multiply = do
      key (codes "MULTIPLY")
      one ← number_operand
      key (codes "BY")
      found ← goal
      pure (λ g _ o _. multiplied_work one found o g)

    divide_by : (dividend : Operand) → Gives IsNumbered (arithmetic.divide_by parts dividend) (λ work. operand_named counts dividend ≡ true → WorkNamed work)
    unfolding arithmetic.divide_by
    divide_by dividend = do
      key (codes "BY")
      by ← number_operand
      into ← giving
      pure (λ t o _ d. (both o d, t))

    pub divide : Gives IsNumbered (arithmetic.divide parts) WorkNamed
    unfolding arithmetic.divide arithmetic.divide_into
    divide = do
      key (codes "DIVIDE")
      one ← number_operand
      where_next (hence (λ work h o _. h o) (divide_by one))
          (key (codes "INTO") >> (goal >>= (λ found. pure (λ g _ o _. divided_work one found o g))))

    pub compute : Gives IsNumbered (arithmetic.compute parts) WorkNamed
    unfolding arithmetic.compute
    compute = do
      key (codes "COMPUTE")
      into ← some (target_named counts) result
      any law.equals
      side ← P.expr
      note
      pure (λ _ e _ t _. (e, t))

    -- ---- files

    file_name : Gives IsNumbered (file.file_name parts) (λ found. file_named counts found ≡ true)
    unfolding file.file_name
    file_name = P.file >>= (λ found. pure (λ h. h))

    open_one : (mode : How) → Gives IsNumbered (file.open_one parts mode) (λ opening. opening_named counts opening ≡ true)
    unfolding file.open_one
    open_one mode = file_name >>= (λ file. pure (λ h. h))

    open_group : (before : List Opening) → Gives IsNumbered (file.open_group parts before)
        (λ list. all (map (opening_named counts) before) ≡ true → Full (opening_named counts) list)
    unfolding file.open_group
    open_group before = do
      mode ← any law.how
      first ← open_one mode
      hence (λ list h f _ b. h (full-added (opening_named counts) before first b f)) (items (opening_named counts) (open_one mode))

    open_stmt : Gives IsNumbered (file.open_stmt parts) Named
    unfolding file.open_stmt
    open_stmt = do
      key (codes "OPEN")
      first ← open_group []
      openings ← loop {P = Full (opening_named counts)} (λ before. hence (λ last h w. h w.1) (open_group before))
      pure (λ h f _. let w = h (f refl) in made.made-Opens counts openings w.0 w.1)

    close_stmt : Gives IsNumbered (file.close_stmt parts) Named
    unfolding file.close_stmt
    close_stmt = do
      key (codes "CLOSE")
      files ← some (file_named counts) file_name
      pure (λ f _. made.made-Closes counts files f.0 f.1)

    from_part : (target : Side) → Gives IsNumbered (file.from_part parts target) (λ from. if_any (operand_named counts) from ≡ true)
    unfolding file.from_part file.from_operand
    from_part record_side = where_next (key (codes "FROM") >> (value >>= (λ side. note >> pure (λ _ o _. o)))) (pure refl)

    write_stmt : Gives IsNumbered (file.write_stmt parts) Named
    unfolding file.write_stmt
    write_stmt = do
      key (codes "WRITE")
      target ← P.record_name
      from ← from_part target
      maybe (codes "END-WRITE")
      pure (λ _ f e _. made.made-Write counts (parts.entry_of target) from e f)

    rewrite_stmt : Gives IsNumbered (file.rewrite_stmt parts) Named
    unfolding file.rewrite_stmt
    rewrite_stmt = do
      key (codes "REWRITE")
      target ← P.record_name
      from ← from_part target
      maybe (codes "END-REWRITE")
      pure (λ _ f e _. made.made-Rewrite counts (parts.entry_of target) from e f)

    pub into_part : (found : Option ℕ) → Gives IsNumbered (file.into_part parts found) (λ into. if_any (place_named counts) into ≡ true)
    unfolding file.into_part file.into_item
    into_part found = maybe (codes "RECORD") >> where_next (key (codes "INTO") >> (P.reference >>= (λ side. note >> (note >> pure (λ _ _ r _ _. r.0))))) (pure (λ _. refl))

    pub read_file : Gives IsNumbered (file.read_file parts) (λ found. file_named counts (file.index_or_0 found) ≡ true)
    unfolding file.read_file
    read_file = key (codes "READ") >> still P.file

    -- ---- jumps

    span_named : (name : List ℕ) (position : Position) (o : Option (ℕ × ℕ)) → parts.procedure_of name ≡ o → jump.unknown_fault o position ≡ None → SpanNamed (jump.span_or_0 o)
    span_named name position None is n = absurd cc
    span_named name position (Some span) is n = P.procedure_of name span is

    pub procedure_named : (name : List ℕ) (position : Position) → Gives IsNumbered (jump.procedure_named parts name position) SpanNamed
    unfolding jump.procedure_named
    procedure_named name position = note >> pure (λ n. span_named name position (parts.procedure_of name) refl n.1)

    pub procedure : Gives IsNumbered (jump.procedure parts) SpanNamed
    unfolding jump.procedure jump.word_procedure jump.digits_procedure
    procedure =
        where_next (any laws.word >>= (λ name. still (procedure_named name.0 name.1)))
        (any laws.digits >>= (λ name. still (procedure_named name.0 name.1)))

    procedure_entry : Gives IsNumbered (jump.procedure_entry parts) (λ number. paragraph_named counts number ≡ true)
    unfolding jump.procedure_entry
    procedure_entry = procedure >>= (λ span. pure (λ s. s.0))

    go_depending : (targets : List ℕ) → Gives IsNumbered (jump.go_depending parts targets) (λ stmt. Full (paragraph_named counts) targets → Named stmt)
    unfolding jump.go_depending
    go_depending targets = do
      key (codes "DEPENDING")
      maybe (codes "ON")
      side ← P.reference
      note
      pure (λ _ r _ _ t. made.made-GoDepending counts targets (parts.place_of side) t.0 t.1 r.0)

    go_stmt : Gives IsNumbered (jump.go_stmt parts) Named
    unfolding jump.go_stmt
    go_stmt = do
      key (codes "GO")
      maybe (codes "TO")
      first ← procedure_entry
      targets ← items (paragraph_named counts) procedure_entry
      where_next (hence (λ stmt h t f _ _. h (t (full-one (paragraph_named counts) first f))) (go_depending targets))
          (hence (λ stmt h t f _ _. h (t (full-one (paragraph_named counts) first f))) (go_alone targets))

    jump_stmt : (scope : Scope) → Gives IsNumbered (jump.jump_stmt parts scope) Named
    unfolding jump.jump_stmt
    jump_stmt scope = where_next go_stmt (where_next (exit_stmt scope) still_stmt)

    -- ---- all of them

    moving_stmts : (before : List Stmt) → Gives IsNumbered (forms.moving_stmts parts before) (λ list. stmts_named counts before ≡ true → Full (stmt_named counts) list)
    unfolding forms.moving_stmts forms.moving_stmt
    moving_stmts before = where_next (set_stmts before) (added (stmt_named counts) before (where_next display_stmt move_stmt))

    filing_stmt : Gives IsNumbered (forms.filing_stmt parts) Named
    unfolding forms.filing_stmt forms.writing_stmt
    filing_stmt = where_next open_stmt (where_next close_stmt (where_next write_stmt rewrite_stmt))

    pub simple_stmts : (scope : Scope) (before : List Stmt) → Gives IsNumbered (forms.simple_stmts parts scope before) (λ list. stmts_named counts before ≡ true → Full (stmt_named counts) list)
    unfolding forms.simple_stmts forms.filing_or_jump
    simple_stmts scope before = where_next (moving_stmts before) (added (stmt_named counts) before (where_next filing_stmt (jump_stmt scope)))
