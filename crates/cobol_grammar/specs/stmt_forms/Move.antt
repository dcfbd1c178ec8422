-- DISPLAY, MOVE and SET (ISO 1989:1985, the DISPLAY, MOVE and SET statements).
use Rattle.std.specs.Prelude.{Bool, true, false, ◌||◌, codes, List, [], ◌∷◌, ◌++◌}
use Rattle.cobol_lex.specs.declared.token.TokenKind.{TokenKind}
use Rattle.cob_tree.specs.declared.place.Operand.{Operand}
use Rattle.cob_tree.specs.declared.place.Place.{Place}
use Rattle.cob_tree.specs.declared.stmt.Stmt.{Stmt}
use Rattle.cob_tree.specs.declared.stmt.Stmt.TheVariants as stmts
use Rattle.parser_combinators.specs.Form.{Form, pure, note, ◌>>=◌, ◌>>◌, loop, where_next, some, added}
use Rattle.parser_combinators.specs.Part.{key, maybe, is_key}
use Rattle.cobol_grammar.specs.stmt_forms.Part.{Parts}

-- an operand that is a value
unfoldable pub value : {Side Known : Type 0} → (parts : Parts Side Known) → Form Side
value parts = do
  side ← parts.operand
  note (parts.value_fault side)
  pure side

-- an operand that is a value, as it is in the tree
unfoldable pub value_operand : {Side Known : Type 0} → Parts Side Known → Form Operand
value_operand parts = value parts >>= (λ side. pure (parts.operand_of side))

-- operand+
abbrev pub value_operands : {Side Known : Type 0} → Parts Side Known → Form (List Operand)
value_operands parts = some parts.begins_operand (value_operand parts)

-- WITH or NO
abbrev pub begins_advancing : TokenKind → Bool
begins_advancing kind = is_key (codes "WITH") kind || is_key (codes "NO") kind

-- the words that keep the line: [WITH] NO ADVANCING
unfoldable pub no_advancing : Form Bool
no_advancing = do
  maybe (codes "WITH")
  key (codes "NO")
  key (codes "ADVANCING")
  pure false

-- [[WITH] NO ADVANCING]
unfoldable pub advancing : Form Bool
advancing = where_next begins_advancing no_advancing (pure true)

-- DISPLAY operand+ [[WITH] NO ADVANCING]
unfoldable pub display_stmt : {Side Known : Type 0} → Parts Side Known → Form Stmt
display_stmt parts = do
  key (codes "DISPLAY")
  items ← value_operands parts
  advance ← advancing
  pure (stmts.Display items advance)

-- an item that takes what is moved to it
unfoldable pub receiver : {Side Known : Type 0} → (parts : Parts Side Known) →
    (from : Side) → Form Place
receiver parts from = do
  side ← parts.reference
  note (parts.value_fault side)
  note (parts.move_fault from side)
  pure (parts.place_of side)

-- ref+
abbrev pub receivers : {Side Known : Type 0} → (parts : Parts Side Known) →
    (from : Side) → Form (List Place)
receivers parts from = some parts.is_name (receiver parts from)

-- MOVE operand TO ref+
unfoldable pub move_stmt : {Side Known : Type 0} → Parts Side Known → Form Stmt
move_stmt parts = do
  key (codes "MOVE")
  from ← value parts
  key (codes "TO")
  to ← receivers parts from
  pure (stmts.Move (parts.operand_of from) to)

-- SET of one name of a level 88, which is a statement of its own
unfoldable pub set_one : {Side Known : Type 0} → Parts Side Known → Form Stmt
set_one parts = do
  side ← parts.reference
  note (parts.condition_fault side)
  pure (stmts.SetTrue (parts.place_of side))

-- any number of names, after those before
abbrev pub set_more : {Side Known : Type 0} → Parts Side Known → List Stmt → Form (List Stmt)
set_more parts before = loop parts.is_name (added (set_one parts)) before

-- SET ref+ TO TRUE
unfoldable pub set_stmts : {Side Known : Type 0} → Parts Side Known → List Stmt → Form (List Stmt)
set_stmts parts before = do
  key (codes "SET")
  first ← set_one parts
  found ← set_more parts (before ++ first ∷ [])
  key (codes "TO")
  key (codes "TRUE")
  pure found
