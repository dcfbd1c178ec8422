-- The words that a program can't take for its own names.
use Rattle.std.specs.Prelude.{ℕ, ◌+◌, ◌*◌, ◌%◌, ◌==◌, Bool, List, [], ◌∷◌, length, filter, codes}
use Rattle.std.specs.List.{list_any}
use Rattle.std.specs.Str.{bytes_eq}

-- the words that this profile reads
unfoldable pub reserved_words : List (List ℕ)
reserved_words =
    codes "ACCESS" ∷ codes "ADD" ∷ codes "ADVANCING" ∷ codes "AFTER" ∷ codes "ALPHABETIC" ∷
    codes "AND" ∷ codes "ANY" ∷ codes "ARE" ∷ codes "ASSIGN" ∷ codes "AT" ∷ codes "BEFORE" ∷
    codes "BINARY" ∷ codes "BLOCK" ∷ codes "BY" ∷ codes "CHARACTER" ∷ codes "CHARACTERS" ∷
    codes "CLOSE" ∷ codes "COMP" ∷ codes "COMP-3" ∷ codes "COMPUTATIONAL" ∷
    codes "COMPUTATIONAL-3" ∷ codes "COMPUTE" ∷ codes "CONFIGURATION" ∷ codes "CONTAINS" ∷
    codes "CONTINUE" ∷ codes "DATA" ∷ codes "DEPENDING" ∷ codes "DISPLAY" ∷ codes "DIVIDE" ∷
    codes "DIVISION" ∷ codes "ELSE" ∷ codes "END" ∷ codes "END-ADD" ∷ codes "END-COMPUTE" ∷
    codes "END-DIVIDE" ∷ codes "END-EVALUATE" ∷ codes "END-IF" ∷ codes "END-MULTIPLY" ∷
    codes "END-PERFORM" ∷ codes "END-READ" ∷ codes "END-REWRITE" ∷ codes "END-SUBTRACT" ∷
    codes "END-WRITE" ∷ codes "ENVIRONMENT" ∷ codes "EQUAL" ∷ codes "ERROR" ∷ codes "EVALUATE" ∷
    codes "EXIT" ∷ codes "EXTEND" ∷ codes "FALSE" ∷ codes "FD" ∷ codes "FILE" ∷
    codes "FILE-CONTROL" ∷ codes "FILLER" ∷ codes "FROM" ∷ codes "GIVING" ∷ codes "GO" ∷
    codes "GREATER" ∷ codes "HIGH-VALUE" ∷ codes "HIGH-VALUES" ∷ codes "I-O" ∷
    codes "IDENTIFICATION" ∷ codes "IF" ∷ codes "IN" ∷ codes "INPUT" ∷ codes "INPUT-OUTPUT" ∷
    codes "INTO" ∷ codes "IS" ∷ codes "LABEL" ∷ codes "LEADING" ∷ codes "LESS" ∷ codes "LOW-VALUE" ∷
    codes "LOW-VALUES" ∷ codes "MODE" ∷ codes "MOVE" ∷ codes "MULTIPLY" ∷ codes "NEGATIVE" ∷
    codes "NEXT" ∷ codes "NO" ∷ codes "NOT" ∷ codes "NUMERIC" ∷ codes "OBJECT-COMPUTER" ∷
    codes "OCCURS" ∷ codes "OF" ∷ codes "OMITTED" ∷ codes "ON" ∷ codes "OPEN" ∷ codes "OR" ∷
    codes "ORGANIZATION" ∷ codes "OTHER" ∷ codes "OUTPUT" ∷ codes "PACKED-DECIMAL" ∷
    codes "PERFORM" ∷ codes "PIC" ∷ codes "PICTURE" ∷ codes "POSITIVE" ∷ codes "PROCEDURE" ∷
    codes "PROGRAM" ∷ codes "PROGRAM-ID" ∷ codes "QUOTE" ∷ codes "QUOTES" ∷ codes "READ" ∷
    codes "RECORD" ∷ codes "RECORDS" ∷ codes "REDEFINES" ∷ codes "REWRITE" ∷ codes "ROUNDED" ∷
    codes "RUN" ∷ codes "SECTION" ∷ codes "SELECT" ∷ codes "SENTENCE" ∷ codes "SEPARATE" ∷
    codes "SEQUENTIAL" ∷ codes "SET" ∷ codes "SIGN" ∷ codes "SIZE" ∷ codes "SOURCE-COMPUTER" ∷
    codes "SPACE" ∷ codes "SPACES" ∷ codes "STANDARD" ∷ codes "STATUS" ∷ codes "STOP" ∷
    codes "SUBTRACT" ∷ codes "TEST" ∷ codes "THAN" ∷ codes "THEN" ∷ codes "THROUGH" ∷ codes "THRU" ∷
    codes "TIMES" ∷ codes "TO" ∷ codes "TRAILING" ∷ codes "TRUE" ∷ codes "UNTIL" ∷ codes "USAGE" ∷
    codes "VALUE" ∷ codes "VALUES" ∷ codes "VARYING" ∷ codes "WHEN" ∷ codes "WITH" ∷
    codes "WORKING-STORAGE" ∷ codes "WRITE" ∷ codes "ZERO" ∷ codes "ZEROES" ∷ codes "ZEROS" ∷ []

-- words that no program may use as its own either, of what is left out of the language
unfoldable pub left_out_words : List (List ℕ)
left_out_words =
    codes "ACCEPT" ∷ codes "ALL" ∷ codes "ALSO" ∷ codes "ALTER" ∷ codes "BLANK" ∷ codes "CALL" ∷
    codes "CANCEL" ∷ codes "COMMUNICATION" ∷ codes "COPY" ∷ codes "CORR" ∷ codes "CORRESPONDING" ∷
    codes "DEBUGGING" ∷ codes "DECIMAL-POINT" ∷ codes "DECLARATIVES" ∷ codes "DELETE" ∷
    codes "DISABLE" ∷ codes "ENABLE" ∷ codes "ENTER" ∷ codes "EXTERNAL" ∷ codes "GENERATE" ∷
    codes "GLOBAL" ∷ codes "GOBACK" ∷ codes "I-O-CONTROL" ∷ codes "INDEX" ∷ codes "INDEXED" ∷
    codes "INITIALIZE" ∷ codes "INITIATE" ∷ codes "INSPECT" ∷ codes "INVALID" ∷ codes "JUST" ∷
    codes "JUSTIFIED" ∷ codes "LINAGE" ∷ codes "LINKAGE" ∷ codes "MERGE" ∷ codes "OPTIONAL" ∷
    codes "RECEIVE" ∷ codes "RELATIVE" ∷ codes "RELEASE" ∷ codes "REMAINDER" ∷ codes "RENAMES" ∷
    codes "REPLACE" ∷ codes "REPORT" ∷ codes "RETURN" ∷ codes "SEARCH" ∷ codes "SEND" ∷
    codes "SORT" ∷ codes "SPECIAL-NAMES" ∷ codes "START" ∷ codes "STRING" ∷ codes "SYNC" ∷
    codes "SYNCHRONIZED" ∷ codes "TERMINATE" ∷ codes "UNSTRING" ∷ codes "UPON" ∷ codes "USE" ∷ []

-- the word is one of the list
abbrev pub is_listed : List (List ℕ) → List ℕ → Bool
is_listed words word = list_any (bytes_eq word) words

-- the row of a list in which a word is looked for, by its first byte and its length
abbrev pub row_of : List ℕ → ℕ
row_of [] = 0
row_of (b ∷ bytes) = (b * 11 + length (b ∷ bytes) % 64) % 64

-- the words of this row
abbrev pub of_row : ℕ → List (List ℕ) → List (List ℕ)
of_row n words = filter (λ w. row_of w == n) words
