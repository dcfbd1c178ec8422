-- Statements that hold no others are lawful.
use Rattle.std.proofs.Common.{ℕ, true, false, List, [], ◌∷◌, Option}
use Rattle.std.specs.Prelude.{codes}
use Rattle.cob_base.specs.Bytes.{equal_sign}
use Rattle.cob_tree.specs.declared.file.How.{How}
use Rattle.cob_tree.specs.declared.file.Opening.{Opening}
use Rattle.cob_tree.specs.declared.place.Operand.{Operand}
use Rattle.cob_tree.specs.declared.stmt.Stmt.{Stmt}
use Rattle.parser_combinators.specs.declared.note.Position.{Position}
use Rattle.parser_combinators.proofs.MakerLaws.{Law, pure, refuse, note, one, key, mark, word, digits, where_next, loop, some, added, maybe, loose, ◌>>=◌, ◌>>◌}
use Rattle.cobol_grammar.specs.declared.stmt_forms.scope.Scope.{Scope}
use Rattle.cobol_grammar.specs.stmt_forms.Part.{Parts}
use Rattle.cobol_grammar.specs.stmt_forms.Laws.{PartsAreLawful}
use Rattle.cobol_grammar.specs.stmt_forms.Move as move
use Rattle.cobol_grammar.specs.stmt_forms.Arithmetic as arithmetic
use Rattle.cobol_grammar.specs.stmt_forms.File as file
use Rattle.cobol_grammar.specs.stmt_forms.Jump as jump
use Rattle.cobol_grammar.specs.stmt_forms.Stmt as all

-- ---- without parts

pub advancing : Law false move.advancing
unfolding move.advancing move.no_advancing
advancing = where_next (loose (maybe (codes "WITH") >> (key (codes "NO") >> (key (codes "ADVANCING") >> pure)))) pure

pub rounded : Law false arithmetic.rounded
unfolding arithmetic.rounded
rounded = where_next (loose (key (codes "ROUNDED") >> pure)) pure

pub equals : Law true arithmetic.equals
unfolding arithmetic.equals
equals = where_next (mark equal_sign >> pure) (key (codes "EQUAL") >> pure)

pub how : Law true file.how
how = one (λ position kind. file.how_of kind)

pub go_alone : (to : List ℕ) → Law false (jump.go_alone to)
unfolding jump.go_alone
go_alone [] = refuse
go_alone (to ∷ []) = pure
go_alone (to ∷ more ∷ others) = refuse

pub exit_behind : (scope : Scope) (position : Position) → Law true (jump.exit_behind scope position)
unfolding jump.exit_behind jump.exit_paragraph jump.exit_section jump.exit_perform jump.cycle
exit_behind scope position =
    where_next (key (codes "PARAGRAPH") >> pure)
    (where_next (key (codes "SECTION") >> (note >> pure))
    (key (codes "PERFORM") >> (where_next (loose (key (codes "CYCLE") >> pure)) pure >>= (λ again. note >> pure))))

pub exit_stmt : (scope : Scope) → Law true (jump.exit_stmt scope)
unfolding jump.exit_stmt
exit_stmt scope = key (codes "EXIT") >>= exit_behind scope

pub still_stmt : Law true jump.still_stmt
unfolding jump.still_stmt jump.next_sentence jump.stop_run jump.continue_stmt
still_stmt =
    where_next (key (codes "NEXT") >> key (codes "SENTENCE") >> pure)
    (where_next (key (codes "STOP") >> key (codes "RUN") >> pure) (key (codes "CONTINUE") >> pure))

module _ {Side Known : Type 0} {parts : Parts Side Known} (P : PartsAreLawful parts) where
  -- ---- moves

  pub value : Law true (move.value parts)
  unfolding move.value
  value = P.operand >>= (λ side. note >> pure)

  pub value_operand : Law true (move.value_operand parts)
  unfolding move.value_operand
  value_operand = value >>= (λ side. pure)

  pub display_stmt : Law true (move.display_stmt parts)
  unfolding move.display_stmt
  display_stmt = do
    key (codes "DISPLAY")
    items ← some value_operand
    advance ← advancing
    pure

  pub receiver : (from : Side) → Law true (move.receiver parts from)
  unfolding move.receiver
  receiver from = P.reference >>= (λ side. note >> (note >> pure))

  pub move_stmt : Law true (move.move_stmt parts)
  unfolding move.move_stmt
  move_stmt = do
    key (codes "MOVE")
    from ← value
    key (codes "TO")
    to ← some (receiver from)
    pure

  pub set_one : Law true (move.set_one parts)
  unfolding move.set_one
  set_one = P.reference >>= (λ side. note >> pure)

  pub set_stmts : (before : List Stmt) → Law true (move.set_stmts parts before)
  unfolding move.set_stmts
  set_stmts before = do
    key (codes "SET")
    first ← set_one
    found ← loop (λ front. added front set_one)
    key (codes "TO")
    key (codes "TRUE")
    pure

  -- ---- arithmetic

  pub number_operand : Law true (arithmetic.number_operand parts)
  unfolding arithmetic.number_operand
  number_operand = P.operand >>= (λ side. note >> pure)

  pub target : Law true (arithmetic.target parts)
  unfolding arithmetic.target
  target = P.reference >>= (λ side. note >> (rounded >>= (λ round. pure)))

  pub result : Law true (arithmetic.result parts)
  unfolding arithmetic.result
  result = P.reference >>= (λ side. note >> (rounded >>= (λ round. pure)))

  pub giving : Law true (arithmetic.giving parts)
  unfolding arithmetic.giving
  giving = key (codes "GIVING") >> some result

  pub giving_goal : (operand : Operand) → Law true (arithmetic.giving_goal parts operand)
  unfolding arithmetic.giving_goal
  giving_goal operand = giving >>= (λ into. pure)

  pub literal_goal : Law true (arithmetic.literal_goal parts)
  unfolding arithmetic.literal_goal
  literal_goal = number_operand >>= giving_goal

  pub targets_goal : (side : Side) → Law false (arithmetic.targets_goal parts side)
  unfolding arithmetic.targets_goal
  targets_goal side = do
    round ← rounded
    into ← loop (λ front. added front target)
    pure

  pub item_goal : Law true (arithmetic.item_goal parts)
  unfolding arithmetic.item_goal arithmetic.item_goal_behind
  item_goal = P.reference >>= (λ side. note >> where_next (loose (giving_goal _)) (targets_goal side))

  pub goal : Law true (arithmetic.goal parts)
  unfolding arithmetic.goal
  goal = where_next item_goal literal_goal

  pub add : Law true (arithmetic.add parts)
  unfolding arithmetic.add arithmetic.add_giving arithmetic.add_to
  add = do
    key (codes "ADD")
    operands ← some number_operand
    where_next (giving >>= (λ into. pure)) (key (codes "TO") >> (goal >>= (λ found. pure)))

  pub subtract : Law true (arithmetic.subtract parts)
  unfolding arithmetic.subtract
  subtract = do
    key (codes "SUBTRACT")
    operands ← some number_operand
    key (codes "FROM")
    found ← goal
    pure

  pub multiply : Law true (arithmetic.multiply parts)
  unfolding arithmetic.multiply
  multiply = do
    key (codes "MULTIPLY")
    one ← number_operand
    key (codes "BY")
    found ← goal
    pure

  pub divide_by : (dividend : Operand) → Law true (arithmetic.divide_by parts dividend)
  unfolding arithmetic.divide_by
  divide_by dividend = do
    key (codes "BY")
    by ← number_operand
    into ← giving
    pure

  pub divide : Law true (arithmetic.divide parts)
  unfolding arithmetic.divide arithmetic.divide_into
  divide = do
    key (codes "DIVIDE")
    one ← number_operand
    where_next (divide_by one) (key (codes "INTO") >> (goal >>= (λ found. pure)))

  pub compute : Law true (arithmetic.compute parts)
  unfolding arithmetic.compute
  compute = do
    key (codes "COMPUTE")
    into ← some result
    equals
    side ← P.expr
    note
    pure

  -- ---- files

  pub file_name : Law true (file.file_name parts)
  unfolding file.file_name
  file_name = P.file >>= (λ found. pure)

  pub open_one : (mode : How) → Law true (file.open_one parts mode)
  unfolding file.open_one
  open_one mode = file_name >>= (λ file. pure)

  pub open_group : (before : List Opening) → Law true (file.open_group parts before)
  unfolding file.open_group
  open_group before = do
    mode ← how
    first ← open_one mode
    loop (λ front. added front (open_one mode))

  pub open_stmt : Law true (file.open_stmt parts)
  unfolding file.open_stmt
  open_stmt = do
    key (codes "OPEN")
    first ← open_group []
    all ← loop open_group
    pure

  pub close_stmt : Law true (file.close_stmt parts)
  unfolding file.close_stmt
  close_stmt = do
    key (codes "CLOSE")
    files ← some file_name
    pure

  pub from_part : (target : Side) → Law false (file.from_part parts target)
  unfolding file.from_part file.from_operand
  from_part record_side = where_next (loose (key (codes "FROM") >> (value >>= (λ side. note >> pure)))) pure

  pub write_stmt : Law true (file.write_stmt parts)
  unfolding file.write_stmt
  write_stmt = do
    key (codes "WRITE")
    target ← P.record_name
    from ← from_part target
    maybe (codes "END-WRITE")
    pure

  pub rewrite_stmt : Law true (file.rewrite_stmt parts)
  unfolding file.rewrite_stmt
  rewrite_stmt = do
    key (codes "REWRITE")
    target ← P.record_name
    from ← from_part target
    maybe (codes "END-REWRITE")
    pure

  pub into_part : (found : Option ℕ) → Law false (file.into_part parts found)
  unfolding file.into_part file.into_item
  into_part found = maybe (codes "RECORD") >> where_next (loose (key (codes "INTO") >> (P.reference >>= (λ side. note >> (note >> pure))))) pure

  pub read_file : Law true (file.read_file parts)
  unfolding file.read_file
  read_file = key (codes "READ") >> P.file

  -- ---- jumps

  pub procedure_named : (name : List ℕ) (position : Position) → Law false (jump.procedure_named parts name position)
  unfolding jump.procedure_named
  procedure_named name position = note >> pure

  pub procedure : Law true (jump.procedure parts)
  unfolding jump.procedure jump.word_procedure jump.digits_procedure
  procedure = where_next (word >>= (λ name. procedure_named name.0 name.1)) (digits >>= (λ name. procedure_named name.0 name.1))

  pub procedure_entry : Law true (jump.procedure_entry parts)
  unfolding jump.procedure_entry
  procedure_entry = procedure >>= (λ span. pure)

  pub go_depending : (to : List ℕ) → Law true (jump.go_depending parts to)
  unfolding jump.go_depending
  go_depending to = do
    key (codes "DEPENDING")
    maybe (codes "ON")
    side ← P.reference
    note
    pure

  pub go_stmt : Law true (jump.go_stmt parts)
  unfolding jump.go_stmt
  go_stmt = do
    key (codes "GO")
    maybe (codes "TO")
    first ← procedure_entry
    to ← loop (λ front. added front procedure_entry)
    where_next (loose (go_depending to)) (go_alone to)

  pub jump_stmt : (scope : Scope) → Law true (jump.jump_stmt parts scope)
  unfolding jump.jump_stmt
  jump_stmt scope = where_next go_stmt (where_next (exit_stmt scope) still_stmt)

  -- ---- all of them

  pub moving_stmts : (before : List Stmt) → Law true (all.moving_stmts parts before)
  unfolding all.moving_stmts all.moving_stmt
  moving_stmts before = where_next (set_stmts before) (added before (where_next display_stmt move_stmt))

  pub filing_stmt : Law true (all.filing_stmt parts)
  unfolding all.filing_stmt all.writing_stmt
  filing_stmt = where_next open_stmt (where_next close_stmt (where_next write_stmt rewrite_stmt))

  pub simple_stmts : (scope : Scope) (before : List Stmt) → Law true (all.simple_stmts parts scope before)
  unfolding all.simple_stmts all.filing_or_jump
  simple_stmts scope before = where_next (moving_stmts before) (added before (where_next filing_stmt (jump_stmt scope)))
