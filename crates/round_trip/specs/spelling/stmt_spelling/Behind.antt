-- What may follow statements and their parts in a text that is printed: nothing, a period, or
-- one of some words.
use Rattle.std.specs.Prelude.{ℕ, ◌≡◌, Bool, true, false, ◌||◌, ◌⊎◌, List, [], ◌∷◌, ◌++◌, Option, Some, None, codes}
use Rattle.std.specs.Str.{bytes_eq}
use Rattle.cobol_lex.specs.declared.token.TokenKind.{TokenKind}
use Rattle.cobol_lex.specs.declared.token.TokenKind.TheVariants as kinds

-- some words
abbrev pub Words : Type 0
Words = List (List ℕ)

-- it is one of these words
abbrev pub is_one_of : Words → List ℕ → Bool
is_one_of [] word = false
is_one_of (one ∷ others) word = bytes_eq one word || is_one_of others word

-- what follows is nothing, a period, or one of these words
abbrev pub Among : Words → Option TokenKind → Type 0
Among words None = Unit {0}
Among words (Some (kinds.Word word)) = is_one_of words word ≡ true
Among words (Some kinds.Period) = Unit {0}
Among words (Some _) = ⊥

-- ---- words

-- the words with which statements begin
abbrev pub verbs : Words
verbs =
    codes "DISPLAY" ∷ codes "MOVE" ∷ codes "SET" ∷ codes "OPEN" ∷ codes "CLOSE" ∷ codes "WRITE"
    ∷ codes "REWRITE" ∷ codes "GO" ∷ codes "NEXT" ∷ codes "STOP" ∷ codes "EXIT" ∷ codes "CONTINUE"
    ∷ codes "ADD" ∷ codes "SUBTRACT" ∷ codes "MULTIPLY" ∷ codes "DIVIDE" ∷ codes "COMPUTE"
    ∷ codes "READ" ∷ codes "IF" ∷ codes "EVALUATE" ∷ codes "PERFORM" ∷ []

-- the words that end a list of statements that is held
abbrev pub ends : Words
ends =
    codes "ELSE" ∷ codes "WHEN" ∷ codes "END-IF" ∷ codes "END-EVALUATE" ∷ codes "END-PERFORM" ∷ []

-- the words that end statements with arms
abbrev pub arm_ends : Words
arm_ends =
    codes "END-ADD" ∷ codes "END-SUBTRACT" ∷ codes "END-MULTIPLY" ∷ codes "END-DIVIDE"
    ∷ codes "END-COMPUTE" ∷ codes "END-READ" ∷ []

-- the words that end a list of statements
abbrev pub closings : Words
closings = ends ++ arm_ends

-- the words that may end a list of statements; where its last one is closed by a word of its own,
-- those that end arms may too
abbrev pub ends_of : (closed : Bool) → Words
ends_of true = closings
ends_of false = ends

-- what is between the parts of a statement
abbrev pub joints : Words
joints =
    codes "TO" ∷ codes "FROM" ∷ codes "BY" ∷ codes "INTO" ∷ codes "GIVING" ∷ codes "ROUNDED"
    ∷ codes "TIMES" ∷ codes "UNTIL" ∷ codes "VARYING" ∷ codes "THRU" ∷ codes "THROUGH"
    ∷ codes "DEPENDING" ∷ codes "WITH" ∷ codes "TEST" ∷ codes "NO" ∷ codes "ON" ∷ codes "SIZE"
    ∷ codes "AT" ∷ codes "END" ∷ codes "INPUT" ∷ codes "OUTPUT" ∷ codes "I-O" ∷ codes "EXTEND"
    ∷ []

-- what may follow a list of statements
abbrev pub behind_lists : Words
behind_lists = codes "NOT" ∷ closings

-- what may follow a statement
abbrev pub behind_stmts : Words
behind_stmts = verbs ++ behind_lists

-- what may follow a part of a statement
abbrev pub behind_parts : Words
behind_parts = behind_stmts ++ joints

-- ---- places

-- what may follow a list of statements
abbrev pub BehindList : Option TokenKind → Type 0
BehindList behind = Among behind_lists behind

-- the end of a list of statements
abbrev pub EndsList : Option TokenKind → Type 0
EndsList behind = Among closings behind

-- what may follow a statement
abbrev pub BehindStmt : Option TokenKind → Type 0
BehindStmt behind = Among behind_stmts behind

-- the end of a statement
abbrev pub EndsStmt : Option TokenKind → Type 0
EndsStmt behind = Among (verbs ++ closings) behind

-- what may follow an expression or the name of a procedure
abbrev pub BehindPart : Option TokenKind → Type 0
BehindPart behind = Among behind_parts behind

-- the next token is a NOT
abbrev pub IsNot : Option TokenKind → Type 0
IsNot behind = behind ≡ Some (kinds.Word (codes "NOT"))

-- ON or AT, with which the phrase of an arm begins
abbrev pub BeginsPhrase : Option TokenKind → Type 0
BeginsPhrase behind =
    (behind ≡ Some (kinds.Word (codes "ON"))) ⊎ (behind ≡ Some (kinds.Word (codes "AT")))
