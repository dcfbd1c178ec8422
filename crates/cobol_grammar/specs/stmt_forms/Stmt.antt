-- All statements. Those that hold others take lists of one level less.
use Rattle.std.specs.Prelude.{ℕ, zero, suc, false, codes, List, [], ◌∷◌, ◌++◌}
use Rattle.cob_tree.specs.declared.stmt.Stmt.{Stmt}
use Rattle.parser_combinators.specs.declared.why.Why.TheVariants.{Syntax, Nesting}
use Rattle.parser_combinators.specs.Form.{Form, pure, refuse, ◌>>=◌, loop, chosen, where_next, added}
use Rattle.parser_combinators.specs.Part.{is_key}
use Rattle.cobol_grammar.specs.declared.stmt_forms.scope.Scope.{Scope}
use Rattle.cobol_grammar.specs.stmt_forms.Part.{Parts}
use Rattle.cobol_grammar.specs.stmt_forms.Verb.{begins_stmt, begins_simple, begins_moving, begins_filing}
use Rattle.cobol_grammar.specs.stmt_forms.Verb.{begins_arithmetic, begins_choice}
use Rattle.cobol_grammar.specs.stmt_forms.Move.{display_stmt, move_stmt, set_stmts}
use Rattle.cobol_grammar.specs.stmt_forms.File.{open_stmt, close_stmt, write_stmt, rewrite_stmt}
use Rattle.cobol_grammar.specs.stmt_forms.Jump.{jump_stmt}
use Rattle.cobol_grammar.specs.stmt_forms.Arms.{Level, Found, FoundOne, arithmetic_stmt, read_stmt}
use Rattle.cobol_grammar.specs.stmt_forms.Choice.{choice_stmt}
use Rattle.cobol_grammar.specs.stmt_forms.Loop.{perform_stmt}

-- ---- statements that hold no others

-- DISPLAY or MOVE
unfoldable pub moving_stmt : {Side Known : Type 0} → Parts Side Known → Form Stmt
moving_stmt parts =
    where_next (is_key (codes "DISPLAY")) (display_stmt parts) (move_stmt parts)

-- a statement that moves, after those before; SET of several names is as many statements
unfoldable pub moving_stmts : {Side Known : Type 0} → Parts Side Known →
    List Stmt → Form (List Stmt)
moving_stmts parts before =
    where_next (is_key (codes "SET")) (set_stmts parts before) (added (moving_stmt parts) before)

-- WRITE or REWRITE
unfoldable pub writing_stmt : {Side Known : Type 0} → Parts Side Known → Form Stmt
writing_stmt parts =
    where_next (is_key (codes "WRITE")) (write_stmt parts) (rewrite_stmt parts)

-- OPEN, CLOSE, WRITE or REWRITE
unfoldable pub filing_stmt : {Side Known : Type 0} → Parts Side Known → Form Stmt
filing_stmt parts =
    where_next (is_key (codes "OPEN")) (open_stmt parts)
    (where_next (is_key (codes "CLOSE")) (close_stmt parts) (writing_stmt parts))

-- a statement on files that holds no others, a jump, or what does nothing
unfoldable pub filing_or_jump : {Side Known : Type 0} → Parts Side Known → Scope → Form Stmt
filing_or_jump parts scope =
    where_next begins_filing (filing_stmt parts) (jump_stmt parts scope)

-- a statement that holds no others, after those before; SET may be several
unfoldable pub simple_stmts : {Side Known : Type 0} → Parts Side Known →
    Scope → List Stmt → Form (List Stmt)
simple_stmts parts scope before =
    where_next begins_moving (moving_stmts parts before) (added (filing_or_jump parts scope) before)

-- ---- statements that hold others

-- arithmetic, IF, EVALUATE or PERFORM
unfoldable pub holding_stmt : {Side Known : Type 0} → Parts Side Known →
    Level → Scope → Form FoundOne
holding_stmt parts level scope =
    where_next begins_arithmetic (arithmetic_stmt parts level scope)
    (where_next begins_choice (choice_stmt parts level scope) (perform_stmt parts level scope))

-- a statement that was found, after those before
abbrev pub behind : List Stmt → FoundOne → Found
behind before found = (before ++ found.0 ∷ [], found.1)

-- a statement that may hold others, after those before
unfoldable pub held_stmts : {Side Known : Type 0} → Parts Side Known →
    Level → Scope → List Stmt → Form Found
held_stmts parts level scope before =
    where_next (is_key (codes "READ")) (read_stmt parts level scope before)
    (holding_stmt parts level scope >>= (λ found. pure (behind before found)))

-- ---- stmt

-- a statement, after those before
unfoldable pub stmt : {Side Known : Type 0} → Parts Side Known →
    Level → Scope → List Stmt → Form Found
stmt parts level scope before =
    where_next begins_simple (simple_stmts parts scope before >>= (λ found. pure (found, false)))
    (held_stmts parts level scope before)

-- one more statement; after a NOT that isn't theirs no statement goes on
unfoldable pub stmts_turn : {Side Known : Type 0} → Parts Side Known →
    Level → Scope → Found → Form Found
stmts_turn parts level scope found =
    chosen found.1 (refuse Syntax) (stmt parts level scope found.0)

-- any number of statements, after those before
abbrev pub stmts_from : {Side Known : Type 0} → Parts Side Known →
    Level → Scope → Found → Form Found
stmts_from parts level scope before = loop begins_stmt (stmts_turn parts level scope) before

-- stmt+
unfoldable pub stmts_with : {Side Known : Type 0} → Parts Side Known → Level → Scope → Form Found
stmts_with parts level scope = stmt parts level scope [] >>= stmts_from parts level scope

-- no token; refused where no level is left
unfoldable pub enter_level : ℕ → Form (Unit {0})
enter_level zero = refuse Nesting
enter_level (suc n) = pure tt

-- held statements, which take one of the levels that are left; refused where none is
unfoldable pub held : {Side Known : Type 0} → Parts Side Known → ℕ → Scope → Form Found
held parts zero scope = refuse Nesting
held parts (suc n) scope =
    stmts_with parts (record { enter = enter_level n; stmts = held parts n }) scope

-- what statements hold, with so many levels left
abbrev pub level : {Side Known : Type 0} → Parts Side Known → ℕ → Level
level parts levels = record { enter = enter_level levels; stmts = held parts levels }

-- statements, one at least, with so many levels left
abbrev pub stmts : {Side Known : Type 0} → Parts Side Known → ℕ → Scope → Form Found
stmts parts levels scope = stmts_with parts (level parts levels) scope
