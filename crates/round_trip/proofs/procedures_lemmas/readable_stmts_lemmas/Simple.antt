-- Statements that hold no others.
use Rattle.std.proofs.Common.{◌≡◌, ℕ, Bool, true, false, List, [], ◌∷◌, Option, Some, None, refl}
use Rattle.std.specs.Prelude.{codes}
use Rattle.cob_tree.specs.declared.file.How.{How}
use Rattle.cob_tree.specs.declared.file.Opening.{Opening}
use Rattle.cob_tree.specs.declared.place.Operand.{Operand}
use Rattle.cob_tree.specs.declared.place.Operand.TheVariants as operands
use Rattle.cob_tree.specs.declared.place.Place.{Place}
use Rattle.cob_tree.specs.declared.program.Program.{Program}
use Rattle.cob_tree.specs.declared.stmt.Arms.{Arms}
use Rattle.cob_tree.specs.declared.stmt.Stmt.{Stmt, roll-Stmt}
use Rattle.cob_tree.specs.declared.stmt.Stmt.TheOpen.{Stmt-F}
use Rattle.cob_tree.specs.declared.stmt.Stmt.TheVariants as stmts
use Rattle.cob_tree.specs.declared.stmt.When.{When}
use Rattle.cobol_lex.specs.declared.token.TokenKind.{TokenKind}
use Rattle.parser_combinators.specs.declared.note.Note.{Note}
use Rattle.parser_combinators.specs.declared.note.Position.{Position}
use Rattle.parser_combinators.proofs.MakerLaws as laws
use Rattle.cobol_grammar.specs.declared.stmt_forms.scope.Scope.{Scope}
use Rattle.cobol_grammar.specs.stmt_forms.Part.{Parts}
use Rattle.cobol_grammar.specs.stmt_forms.Move as move
use Rattle.cobol_grammar.specs.stmt_forms.Arithmetic as arithmetic
use Rattle.cobol_grammar.specs.stmt_forms.Arithmetic.{Goal, Work, added_to, subtracted_from, multiplied_by, divided_into, target_of}
use Rattle.cobol_grammar.specs.stmt_forms.File as file
use Rattle.cobol_grammar.specs.stmt_forms.Jump as jump
use Rattle.cobol_grammar.specs.stmt_forms.Stmt as forms
use Rattle.cobol_grammar.proofs.stmt_forms_lemmas.SimpleLaws as law
use Rattle.grammar_laws.specs.form_results.Giving.{Gives}
use Rattle.grammar_laws.proofs.form_results_lemmas.Giving.{any, hence, still, pure, refuse, note, key, maybe, where_next, loop, ◌>>=◌, ◌>>◌}
use Rattle.round_trip.specs.spelling.stmt_spelling.Part.{Kept, Without, WithoutExpr, SpellsPlace, SpellsValue, SpellsNumber, SpellsFile, SpellsEntry}
use Rattle.round_trip.specs.spelling.stmt_spelling.Stmt.{Each, Some_of, IfAny, Receives, TakesResult, Targets, Results, SpellsCalc, WrittenFrom, SpellsShape, SpellsStmt}
use Rattle.round_trip.specs.procedures.readable_stmts.Fit.{FitsOperand, FitsPlace, FitsExpr, FitsEntry, FitsFile, Passes, PassesExpr, PartsFit}
use Rattle.round_trip.proofs.procedures_lemmas.readable_stmts_lemmas.Lists.{some-added, some-one, some-under, added, items, some}
use Rattle.round_trip.proofs.procedures_lemmas.readable_stmts_lemmas.Made.{made}

module _ {Side Known : Type 0} {parts again : Parts Side Known} {kept : Kept Side} {program : Program} {Kind : TokenKind → Type 0} (F : PartsFit parts again kept program Kind) where
  -- ---- uses of sides

  pub without : (fault others : Side → Option Note) → Passes parts again kept program fault others → (side : Side) → FitsOperand parts again kept program side → fault side ≡ None →
      Without again kept program others (parts.operand_of side)
  without fault others passes side f n next k = passes (parts.operand_of side) side next f.side_kept k n

  pub without_place : (fault others : Side → Option Note) → Passes parts again kept program fault others → (side : Side) → FitsPlace parts again kept program side → fault side ≡ None →
      Without again kept program others (operands.Place (parts.place_of side))
  without_place fault others passes side f n next k = passes (operands.Place (parts.place_of side)) side next f.side_kept k n

  abbrev pub IsSpan : ℕ × ℕ → Type 0
  IsSpan span = (name : List ℕ) × (parts.procedure_of name ≡ Some span)

  abbrev pub Number : Operand → Type 0
  Number operand = SpellsNumber again kept program operand

  -- ---- operands and receivers

  -- a side that is a value
  abbrev pub IsValue : Side → Type 0
  IsValue side = FitsOperand parts again kept program side × SpellsValue again kept program (parts.operand_of side)

  pub value : Gives Kind (move.value parts) IsValue
  unfolding move.value
  value = F.operand >>= (λ side. note >> pure (λ n f. (f, (f.spelled, without parts.value_fault again.value_fault F.uses.value side f n.1))))

  value_operand : Gives Kind (move.value_operand parts) (SpellsValue again kept program)
  unfolding move.value_operand
  value_operand = value >>= (λ side. pure (λ h. h.1))

  abbrev ReceivesFrom : Side → Place → Type 0
  ReceivesFrom from place = FitsOperand parts again kept program from → Receives again kept program (parts.operand_of from) place

  receiver : (from : Side) → Gives Kind (move.receiver parts from) (ReceivesFrom from)
  unfolding move.receiver
  receiver from = F.reference >>= (λ side. note >> (note >> pure (λ m n f o. (
    f.spelled,
    (
      without_place parts.value_fault again.value_fault F.uses.value side f n.1,
      λ next last k l. F.uses.moves (parts.operand_of from) (operands.Place (parts.place_of side)) from next side last o.side_kept k f.side_kept l m.1,
    ),
  ))))

  pub number_operand : Gives Kind (arithmetic.number_operand parts) Number
  unfolding arithmetic.number_operand
  number_operand = F.operand >>= (λ side. note >> pure (λ n f. (f.spelled, without parts.number_fault again.number_fault F.uses.number side f n.1)))

  -- ---- arithmetic

  abbrev GoalFine : Goal → Type 0
  GoalFine (None, into) = Targets again kept program into
  GoalFine (Some operand, into) = Number operand × Results again kept program into

  abbrev pub WorkFine : Work → Type 0
  WorkFine work = SpellsCalc again kept program work.0 work.1

  added_work : (operands : List Operand) (goal : Goal) → Some_of Number operands → GoalFine goal → WorkFine (added_to operands goal)
  added_work operands (None, into) o g = (o, g)
  added_work operands (Some operand, into) o g = (some-added Number operands operand o.1 g.0, g.1)

  subtracted_work : (operands : List Operand) (goal : Goal) → Some_of Number operands → GoalFine goal → WorkFine (subtracted_from operands goal)
  subtracted_work operands (None, into) o g = (o, g)
  subtracted_work operands (Some from, into) o g = (o, (g.0, g.1))

  multiplied_work : (one : Operand) (goal : Goal) → Number one → GoalFine goal → WorkFine (multiplied_by one goal)
  multiplied_work one (None, into) o g = (o, g)
  multiplied_work one (Some by, into) o g = (o, (g.0, g.1))

  divided_work : (one : Operand) (goal : Goal) → Number one → GoalFine goal → WorkFine (divided_into one goal)
  divided_work one (None, into) o g = (o, g)
  divided_work one (Some by, into) o g = (o, (g.0, g.1))

  target : Gives Kind (arithmetic.target parts) (TakesResult again kept program again.number_fault)
  unfolding arithmetic.target
  target = F.reference >>= (λ side. note >> (any law.rounded >>= (λ round. pure (λ _ n f. (f.spelled, without_place parts.number_fault again.number_fault F.uses.number side f n.1)))))

  result : Gives Kind (arithmetic.result parts) (TakesResult again kept program again.result_fault)
  unfolding arithmetic.result
  result = F.reference >>= (λ side. note >> (any law.rounded >>= (λ round. pure (λ _ n f. (f.spelled, without_place parts.result_fault again.result_fault F.uses.result side f n.1)))))

  giving : Gives Kind (arithmetic.giving parts) (Results again kept program)
  unfolding arithmetic.giving
  giving = key (codes "GIVING") >> still (some (TakesResult again kept program again.result_fault) result)

  giving_goal : (operand : Operand) → Gives Kind (arithmetic.giving_goal parts operand) (λ goal. Number operand → GoalFine goal)
  unfolding arithmetic.giving_goal
  giving_goal operand = giving >>= (λ into. pure (λ t o. (o, t)))

  literal_goal : Gives Kind (arithmetic.literal_goal parts) GoalFine
  unfolding arithmetic.literal_goal
  literal_goal = number_operand >>= giving_goal

  targets_goal : (side : Side) → Gives Kind (arithmetic.targets_goal parts side) (λ goal. TakesResult again kept program again.number_fault (target_of (parts.place_of side) false) → GoalFine goal)
  unfolding arithmetic.targets_goal
  targets_goal side = do
    round ← any law.rounded
    into ← items (TakesResult again kept program again.number_fault) target
    pure (λ h _ p. h (some-one (TakesResult again kept program again.number_fault) (target_of (parts.place_of side) round) p))

  item_goal : Gives Kind (arithmetic.item_goal parts) GoalFine
  unfolding arithmetic.item_goal arithmetic.item_goal_behind
  item_goal = F.reference >>= (λ side. note >> where_next
      (hence (λ goal h n f. h ((f.number n.1).spelled, without parts.number_fault again.number_fault F.uses.number side (f.number n.1) n.1)) (giving_goal (parts.operand_of side)))
      (hence (λ goal h n f. h (f.spelled, without_place parts.number_fault again.number_fault F.uses.number side f n.1)) (targets_goal side)))

  goal : Gives Kind (arithmetic.goal parts) GoalFine
  unfolding arithmetic.goal
  goal = where_next item_goal literal_goal

  pub add : Gives Kind (arithmetic.add parts) WorkFine
  unfolding arithmetic.add arithmetic.add_giving arithmetic.add_to
  add = do
    key (codes "ADD")
    operands ← some Number number_operand
    where_next (giving >>= (λ into. pure (λ t o _. (o, t))))
        (key (codes "TO") >> (goal >>= (λ found. pure (λ g _ o _. added_work operands found o g))))

  pub subtract : Gives Kind (arithmetic.subtract parts) WorkFine
  unfolding arithmetic.subtract
  subtract = do
    key (codes "SUBTRACT")
    operands ← some Number number_operand
    key (codes "FROM")
    found ← goal
    pure (λ g _ o _. subtracted_work operands found o g)

  pub multiply : Gives Kind (arithmetic.multiply parts) WorkFine
  unfolding arithmetic.multiply
  multiply = do
    key (codes "MULTIPLY")
    one ← number_operand
    key (codes "BY")
    found ← goal
    pure (λ g _ o _. multiplied_work one found o g)

  divide_by : (dividend : Operand) → Gives Kind (arithmetic.divide_by parts dividend) (λ work. Number dividend → WorkFine work)
  unfolding arithmetic.divide_by
  divide_by dividend = do
    key (codes "BY")
    by ← number_operand
    into ← giving
    pure (λ t o _ d. (o, (d, t)))

  pub divide : Gives Kind (arithmetic.divide parts) WorkFine
  unfolding arithmetic.divide arithmetic.divide_into
  divide = do
    key (codes "DIVIDE")
    one ← number_operand
    where_next (hence (λ work h o _. h o) (divide_by one))
        (key (codes "INTO") >> (goal >>= (λ found. pure (λ g _ o _. divided_work one found o g))))

  pub without_expr : (fault others : Side → Option Note) → PassesExpr parts again kept program fault others → (side : Side) → FitsExpr parts again kept program side → fault side ≡ None →
      WithoutExpr again kept program others (parts.expr_of side)
  without_expr fault others passes side f n next k = passes (parts.expr_of side) side next f.side_kept k n

  pub compute : Gives Kind (arithmetic.compute parts) WorkFine
  unfolding arithmetic.compute
  compute = do
    key (codes "COMPUTE")
    into ← some (TakesResult again kept program again.result_fault) result
    any law.equals
    side ← F.expr
    note
    pure (λ n f _ t _. ((f.spelled, without_expr parts.number_fault again.number_fault F.uses.number_expr side f n.1), t))

  -- ---- files

  pub file_there : (found : Option ℕ) → FitsFile parts again kept program found → SpellsFile again kept program (file.index_or_0 found)
  file_there None f = absurd f
  file_there (Some number) f = f

  file_name : Gives Kind (file.file_name parts) (SpellsFile again kept program)
  unfolding file.file_name
  file_name = F.file >>= (λ found. pure (λ f. file_there found f))

  abbrev IsOpened : Opening → Type 0
  IsOpened opening = SpellsFile again kept program opening.file

  open_one : (mode : How) → Gives Kind (file.open_one parts mode) IsOpened
  unfolding file.open_one
  open_one mode = file_name >>= (λ number. pure (λ f. f))

  open_group : (before : List Opening) → Gives Kind (file.open_group parts before) (λ list. Each IsOpened before → Some_of IsOpened list)
  unfolding file.open_group
  open_group before = do
    mode ← any law.how
    first ← open_one mode
    hence (λ list h f _ b. h (some-added IsOpened before first b f)) (items IsOpened (open_one mode))

  -- what a record is written from
  from_part : (target : Side) → Gives Kind (file.from_part parts target) (λ from. FitsEntry parts again kept program target → IfAny (WrittenFrom again kept program (parts.entry_of target)) from)
  unfolding file.from_part file.from_operand
  from_part target = where_next
      (key (codes "FROM") >> (value >>= (λ side. note >> pure (λ n v _ t.
      (v.1, λ next last k l. F.uses.writes (parts.operand_of side) (parts.entry_of target) side next target last v.0.side_kept k t.side_kept l n.1)))))
      (pure (λ _. tt))

  abbrev pub TakesRecord : ℕ → Place → Type 0
  TakesRecord number place =
      SpellsPlace again kept program place
      × (Without again kept program again.value_fault (operands.Place place)
      × Without again kept program (again.into_fault (Some number)) (operands.Place place))

  into_free : (found : Option ℕ) (side : Side) → FitsFile parts again kept program found → FitsPlace parts again kept program side → parts.into_fault found side ≡ None →
      Without again kept program (again.into_fault (Some (file.index_or_0 found))) (operands.Place (parts.place_of side))
  into_free None side h f n = absurd h
  into_free (Some number) side h f n = without_place (parts.into_fault (Some number)) (again.into_fault (Some number)) (F.uses.into number) side f n

  pub into_part : (found : Option ℕ) → Gives Kind (file.into_part parts found) (λ into. FitsFile parts again kept program found → IfAny (TakesRecord (file.index_or_0 found)) into)
  unfolding file.into_part file.into_item
  into_part found = maybe (codes "RECORD") >> where_next
      (key (codes "INTO") >> (F.reference >>= (λ side. note >> (note >> pure (λ m n f _ _ h.
      (f.spelled, (without_place parts.value_fault again.value_fault F.uses.value side f n.1, into_free found side h f m.1)))))))
      (pure (λ _ _. tt))

  pub read_file : Gives Kind (file.read_file parts) (FitsFile parts again kept program)
  unfolding file.read_file
  read_file = key (codes "READ") >> still F.file

  -- ---- procedures

  span_told : (name : List ℕ) (position : Position) (o : Option (ℕ × ℕ)) → parts.procedure_of name ≡ o → jump.unknown_fault o position ≡ None → IsSpan (jump.span_or_0 o)
  span_told name position None is n = absurd cc
  span_told name position (Some span) is n = (name, is)

  pub procedure_named : (name : List ℕ) (position : Position) → Gives Kind (jump.procedure_named parts name position) IsSpan
  unfolding jump.procedure_named
  procedure_named name position = note >> pure (λ n. span_told name position (parts.procedure_of name) refl n.1)

  pub procedure : Gives Kind (jump.procedure parts) IsSpan
  unfolding jump.procedure jump.word_procedure jump.digits_procedure
  procedure =
      where_next (any laws.word >>= (λ name. still (procedure_named name.0 name.1)))
      (any laws.digits >>= (λ name. still (procedure_named name.0 name.1)))

  procedure_entry : Gives Kind (jump.procedure_entry parts) (SpellsEntry again kept program)
  unfolding jump.procedure_entry
  procedure_entry = procedure >>= (λ span. pure (λ s. F.entry s.0 span s.1))

  usage-told : (holds : Bool) (position : Position) → jump.usage_unless holds position ≡ None → holds ≡ true
  usage-told true position n = refl
  usage-told false position n = absurd cc

  -- ---- statements, over what is held, in a scope

  module _ (Held : Scope → List Stmt → Type 0) (scope : Scope) where
    abbrev pub Fine : Stmt → Type 0
    Fine stmt = SpellsStmt again kept program Held scope stmt

    abbrev pub Stmts : List Stmt → Type 0
    Stmts list = Some_of Fine list

    shaped : (y : Stmt-F Stmt Arms When) (x : Stmt) → roll-Stmt y ≡ x → SpellsShape again kept program Held scope y → Fine x
    shaped y x e h = made again kept program Held scope y x e h

    display_stmt : Gives Kind (move.display_stmt parts) Fine
    unfolding move.display_stmt
    display_stmt = do
      key (codes "DISPLAY")
      operands ← some (SpellsValue again kept program) value_operand
      advance ← any law.advancing
      pure (λ _ o _. shaped (Stmt-F.Display operands advance) (stmts.Display operands advance) (stmts.rolls-Display operands advance) o)

    move_stmt : Gives Kind (move.move_stmt parts) Fine
    unfolding move.move_stmt
    move_stmt = do
      key (codes "MOVE")
      from ← value
      key (codes "TO")
      places ← some (ReceivesFrom from) (receiver from)
      pure (λ t _ f _. shaped (Stmt-F.Move (parts.operand_of from) places) (stmts.Move (parts.operand_of from) places) (stmts.rolls-Move (parts.operand_of from) places) (f.1, some-under (Receives again kept program (parts.operand_of from)) places f.0 t))

    set_one : Gives Kind (move.set_one parts) Fine
    unfolding move.set_one
    set_one = F.reference >>= (λ side. note >> pure (λ n f.
        shaped (Stmt-F.SetTrue (parts.place_of side)) (stmts.SetTrue (parts.place_of side)) (stmts.rolls-SetTrue (parts.place_of side))
        (f.spelled, without_place parts.condition_fault again.condition_fault F.uses.condition side f n.1)))

    set_stmts : (before : List Stmt) → Gives Kind (move.set_stmts parts before) (λ list. Each Fine before → Stmts list)
    unfolding move.set_stmts
    set_stmts before = do
      key (codes "SET")
      first ← set_one
      found ← items Fine set_one
      key (codes "TO")
      key (codes "TRUE")
      pure (λ _ _ h f _ b. h (some-added Fine before first b f))

    open_stmt : Gives Kind (file.open_stmt parts) Fine
    unfolding file.open_stmt
    open_stmt = do
      key (codes "OPEN")
      first ← open_group []
      openings ← loop {P = Some_of IsOpened} (λ before. hence (λ last h w. h w.1) (open_group before))
      pure (λ h f _. shaped (Stmt-F.Opens openings) (stmts.Opens openings) (stmts.rolls-Opens openings) (h (f tt)))

    close_stmt : Gives Kind (file.close_stmt parts) Fine
    unfolding file.close_stmt
    close_stmt = do
      key (codes "CLOSE")
      files ← some (SpellsFile again kept program) file_name
      pure (λ f _. shaped (Stmt-F.Closes files) (stmts.Closes files) (stmts.rolls-Closes files) f)

    write_stmt : Gives Kind (file.write_stmt parts) Fine
    unfolding file.write_stmt
    write_stmt = do
      key (codes "WRITE")
      target ← F.record_name
      from ← from_part target
      maybe (codes "END-WRITE")
      pure (λ _ f t _. shaped (Stmt-F.Write (parts.entry_of target) from) (stmts.Write (parts.entry_of target) from) (stmts.rolls-Write (parts.entry_of target) from) (t.spelled, f t))

    rewrite_stmt : Gives Kind (file.rewrite_stmt parts) Fine
    unfolding file.rewrite_stmt
    rewrite_stmt = do
      key (codes "REWRITE")
      target ← F.record_name
      from ← from_part target
      maybe (codes "END-REWRITE")
      pure (λ _ f t _. shaped (Stmt-F.Rewrite (parts.entry_of target) from) (stmts.Rewrite (parts.entry_of target) from) (stmts.rolls-Rewrite (parts.entry_of target) from) (t.spelled, f t))

    -- ---- jumps

    go_alone : (targets : List ℕ) → Gives Kind (jump.go_alone targets) (λ stmt. Some_of (SpellsEntry again kept program) targets → Fine stmt)
    unfolding jump.go_alone
    go_alone [] = refuse
    go_alone (to ∷ []) = pure (λ h. shaped (Stmt-F.Go to) (stmts.Go to) (stmts.rolls-Go to) h.1.0)
    go_alone (to ∷ more ∷ others) = refuse

    go_depending : (targets : List ℕ) → Gives Kind (jump.go_depending parts targets) (λ stmt. Some_of (SpellsEntry again kept program) targets → Fine stmt)
    unfolding jump.go_depending
    go_depending targets = do
      key (codes "DEPENDING")
      maybe (codes "ON")
      side ← F.reference
      note
      pure (λ n f _ _ t. shaped (Stmt-F.GoDepending targets (parts.place_of side)) (stmts.GoDepending targets (parts.place_of side)) (stmts.rolls-GoDepending targets (parts.place_of side))
          (t, (f.spelled, without_place parts.whole_fault again.whole_fault F.uses.whole side f n.1)))

    go_stmt : Gives Kind (jump.go_stmt parts) Fine
    unfolding jump.go_stmt
    go_stmt = do
      key (codes "GO")
      maybe (codes "TO")
      first ← procedure_entry
      targets ← items (SpellsEntry again kept program) procedure_entry
      where_next (hence (λ stmt h t f _ _. h (t (some-one (SpellsEntry again kept program) first f))) (go_depending targets))
          (hence (λ stmt h t f _ _. h (t (some-one (SpellsEntry again kept program) first f))) (go_alone targets))

    cycle : Gives Kind jump.cycle (λ _. Unit {0})
    unfolding jump.cycle
    cycle = where_next (key (codes "CYCLE") >> pure (λ _. tt)) (pure tt)

    pub exit_behind : (position : Position) → Gives Kind (jump.exit_behind scope position) Fine
    unfolding jump.exit_behind jump.exit_paragraph jump.exit_section jump.exit_perform
    exit_behind position =
        where_next (key (codes "PARAGRAPH") >> pure (λ _. shaped Stmt-F.ExitParagraph stmts.ExitParagraph stmts.rolls-ExitParagraph tt))
        (where_next (key (codes "SECTION") >> (note >> pure (λ n _. shaped Stmt-F.ExitSection stmts.ExitSection stmts.rolls-ExitSection (usage-told scope.in_section position n.1))))
        (key (codes "PERFORM") >> (cycle >>= (λ again_turn. note >> pure (λ n _ _.
        shaped (Stmt-F.ExitPerform again_turn) (stmts.ExitPerform again_turn) (stmts.rolls-ExitPerform again_turn) (usage-told scope.in_loop position n.1))))))

    exit_stmt : Gives Kind (jump.exit_stmt scope) Fine
    unfolding jump.exit_stmt
    exit_stmt = key (codes "EXIT") >>= (λ position. still (exit_behind position))

    still_stmt : Gives Kind jump.still_stmt Fine
    unfolding jump.still_stmt jump.next_sentence jump.stop_run jump.continue_stmt
    still_stmt =
        where_next (any (laws.◌>>◌ (laws.key (codes "NEXT")) (laws.key (codes "SENTENCE"))) >> pure (λ _. shaped Stmt-F.NextSentence stmts.NextSentence stmts.rolls-NextSentence tt))
        (where_next (any (laws.◌>>◌ (laws.key (codes "STOP")) (laws.key (codes "RUN"))) >> pure (λ _. shaped Stmt-F.StopRun stmts.StopRun stmts.rolls-StopRun tt))
        (key (codes "CONTINUE") >> pure (λ _. shaped Stmt-F.Continue stmts.Continue stmts.rolls-Continue tt)))

    jump_stmt : Gives Kind (jump.jump_stmt parts scope) Fine
    unfolding jump.jump_stmt
    jump_stmt = where_next go_stmt (where_next exit_stmt still_stmt)

    -- ---- all of them

    moving_stmts : (before : List Stmt) → Gives Kind (forms.moving_stmts parts before) (λ list. Each Fine before → Stmts list)
    unfolding forms.moving_stmts forms.moving_stmt
    moving_stmts before = where_next (set_stmts before) (added Fine before (where_next display_stmt move_stmt))

    filing_stmt : Gives Kind (forms.filing_stmt parts) Fine
    unfolding forms.filing_stmt forms.writing_stmt
    filing_stmt = where_next open_stmt (where_next close_stmt (where_next write_stmt rewrite_stmt))

    pub simple_stmts : (before : List Stmt) → Gives Kind (forms.simple_stmts parts scope before) (λ list. Each Fine before → Stmts list)
    unfolding forms.simple_stmts forms.filing_or_jump
    simple_stmts before = where_next (moving_stmts before) (added Fine before (where_next filing_stmt jump_stmt))
