-- Which tokens begin what.
use Rattle.std.specs.Prelude.{Bool, ◌||◌, codes}
use Rattle.cobol_lex.specs.declared.token.TokenKind.{TokenKind}
use Rattle.parser_combinators.specs.Part.{is_key}

-- DISPLAY, MOVE, SET
unfoldable pub begins_moving : TokenKind → Bool
begins_moving kind =
    is_key (codes "DISPLAY") kind || (is_key (codes "MOVE") kind || is_key (codes "SET") kind)

-- OPEN, CLOSE, WRITE, REWRITE
unfoldable pub begins_filing : TokenKind → Bool
begins_filing kind =
    (is_key (codes "OPEN") kind || is_key (codes "CLOSE") kind)
    || (is_key (codes "WRITE") kind || is_key (codes "REWRITE") kind)

-- GO, NEXT SENTENCE, STOP, EXIT, CONTINUE
unfoldable pub begins_jumping : TokenKind → Bool
begins_jumping kind =
    (is_key (codes "GO") kind || is_key (codes "NEXT") kind)
    || (is_key (codes "STOP") kind
    || (is_key (codes "EXIT") kind || is_key (codes "CONTINUE") kind))

-- ADD or SUBTRACT
unfoldable pub begins_adding : TokenKind → Bool
begins_adding kind = is_key (codes "ADD") kind || is_key (codes "SUBTRACT") kind

-- MULTIPLY or DIVIDE
unfoldable pub begins_multiplying : TokenKind → Bool
begins_multiplying kind = is_key (codes "MULTIPLY") kind || is_key (codes "DIVIDE") kind

-- ADD, SUBTRACT, MULTIPLY, DIVIDE or COMPUTE
unfoldable pub begins_arithmetic : TokenKind → Bool
begins_arithmetic kind =
    begins_adding kind || (begins_multiplying kind || is_key (codes "COMPUTE") kind)

-- IF, EVALUATE
unfoldable pub begins_choice : TokenKind → Bool
begins_choice kind = is_key (codes "IF") kind || is_key (codes "EVALUATE") kind

-- a token with which a statement begins that holds no other
unfoldable pub begins_simple : TokenKind → Bool
begins_simple kind = begins_moving kind || (begins_filing kind || begins_jumping kind)

-- a statement that may hold others
unfoldable pub begins_holding : TokenKind → Bool
begins_holding kind =
    begins_arithmetic kind
    || (is_key (codes "READ") kind || (begins_choice kind || is_key (codes "PERFORM") kind))

-- a statement
unfoldable pub begins_stmt : TokenKind → Bool
begins_stmt kind = begins_simple kind || begins_holding kind
