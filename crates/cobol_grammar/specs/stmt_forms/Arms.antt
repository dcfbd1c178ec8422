-- The arms of READ and of arithmetic. NOT belongs to the innermost statement that can take it: it
-- is read there, and where what follows isn't that statement's own, the value says that NOT was
-- read. Then no list goes on and no statement ends with a word of its own, up to a statement whose
-- own phrase follows.
use Rattle.std.specs.Prelude.{ℕ, Bool, true, false, ◌||◌, codes, List, [], ◌∷◌, ◌++◌, Option, Some, None}
use Rattle.cobol_lex.specs.declared.token.TokenKind.{TokenKind}
use Rattle.cob_tree.specs.declared.stmt.Arms.{Arms, roll-Arms}
use Rattle.cob_tree.specs.declared.stmt.Stmt.{Stmt}
use Rattle.cob_tree.specs.declared.stmt.Stmt.TheVariants as stmts
use Rattle.parser_combinators.specs.Form.{Form, pure, ◌>>=◌, ◌>>◌, chosen, where_next}
use Rattle.parser_combinators.specs.Part.{key, maybe, is_key}
use Rattle.cobol_grammar.specs.declared.stmt_forms.scope.Scope.{Scope}
use Rattle.cobol_grammar.specs.declared.stmt_forms.head.ArithmeticVerb.{ArithmeticVerb}
use Rattle.cobol_grammar.specs.declared.stmt_forms.head.ArithmeticVerb.TheVariants as verbs
use Rattle.cobol_grammar.specs.declared.stmt_forms.head.NotPhrase.{NotPhrase}
use Rattle.cobol_grammar.specs.declared.stmt_forms.head.NotPhrase.TheVariants as nots
use Rattle.cobol_grammar.specs.declared.stmt_forms.head.ReadHead.{ReadHead}
use Rattle.cobol_grammar.specs.declared.stmt_forms.head.ReadHead.TheVariants as reads
use Rattle.cobol_grammar.specs.declared.stmt_forms.phrase.Phrase.{Phrase}
use Rattle.cobol_grammar.specs.declared.stmt_forms.phrase.Phrase.TheVariants as phrases
use Rattle.cobol_grammar.specs.stmt_forms.Part.{Parts}
use Rattle.cob_tree.specs.declared.place.Place.{Place}
use Rattle.cobol_grammar.specs.stmt_forms.Verb.{begins_adding, begins_multiplying}
use Rattle.cobol_grammar.specs.stmt_forms.Arithmetic.{Work, add, subtract, multiply, divide, compute}
use Rattle.cobol_grammar.specs.stmt_forms.File.{index_or_0, is_some, read_file, into_part}

-- statements, and whether a NOT was read after them that isn't theirs
abbrev pub Found : Type 0
Found = List Stmt × Bool

-- one statement, and the same
abbrev pub FoundOne : Type 0
FoundOne = Stmt × Bool

-- how statements are held, one level down
pub record Level : Type 1 where
  -- no token; refused where no level is left
  pub enter : Form (Unit {0})
  -- statements, and whether a NOT was read after them that isn't theirs
  pub stmts : Scope → Form Found

-- ---- the words of a phrase

-- a word with which the phrase begins
unfoldable pub begins_phrase : Phrase → TokenKind → Bool
begins_phrase phrases.End kind = is_key (codes "AT") kind || is_key (codes "END") kind
begins_phrase phrases.Size kind = is_key (codes "ON") kind || is_key (codes "SIZE") kind

-- [AT] END
unfoldable pub end_words : Form (Unit {0})
end_words = do
  maybe (codes "AT")
  key (codes "END")
  pure tt

-- [ON] SIZE ERROR
unfoldable pub size_words : Form (Unit {0})
size_words = do
  maybe (codes "ON")
  key (codes "SIZE")
  key (codes "ERROR")
  pure tt

-- the words of a phrase
unfoldable pub phrase_words : Phrase → Form (Unit {0})
phrase_words phrases.End = end_words
phrase_words phrases.Size = size_words

-- ---- arms

-- an arm, if there is one, and whether NOT was read
abbrev pub Arm : Type 0
Arm = Option (List Stmt) × Bool

-- the words of the first phrase of a statement, which enters a level
unfoldable pub entering_words : Phrase → (enter : Form (Unit {0})) → Form (Unit {0})
entering_words phrase enter = enter >> phrase_words phrase

-- whether the first arm is there
unfoldable pub first_phrase : Phrase → (enter : Form (Unit {0})) → Form Bool
first_phrase phrase enter =
    where_next (begins_phrase phrase) (entering_words phrase enter >> pure true) (pure false)

-- the words of a phrase after NOT, which is the statement's own
unfoldable pub own_words : Phrase → (enter : Form (Unit {0})) → (has_first : Bool) → Form NotPhrase
own_words phrase enter has_first =
    chosen has_first (phrase_words phrase) (entering_words phrase enter) >> pure nots.Own

-- what a NOT belongs to by what follows it, which may be a statement further out
unfoldable pub behind_not : Phrase → (enter : Form (Unit {0})) → (has_first : Bool) → Form NotPhrase
behind_not phrase enter has_first =
    where_next (begins_phrase phrase) (own_words phrase enter has_first) (pure nots.Foreign)

-- NOT and its phrase, or none
unfoldable pub not_or_none : Phrase → (enter : Form (Unit {0})) → (has_first : Bool) →
    Form NotPhrase
not_or_none phrase enter has_first =
    where_next (is_key (codes "NOT")) (key (codes "NOT") >> behind_not phrase enter has_first)
    (pure nots.Missing)

-- what follows the first arm: NOT and its phrase, or none; the NOT may have been read
unfoldable pub not_phrase : Phrase → (enter : Form (Unit {0})) → (has_first pending_not : Bool) →
    Form NotPhrase
not_phrase phrase enter has_first pending_not =
    chosen pending_not (behind_not phrase enter has_first) (not_or_none phrase enter has_first)

-- the statements of an arm
unfoldable pub held_arm : Level → Scope → Form Arm
held_arm level scope = level.stmts scope >>= (λ found. pure (Some found.0, found.1))

-- the first arm, if it is there
unfoldable pub first_arm : Level → Scope → (present : Bool) → Form Arm
first_arm level scope present = chosen present (held_arm level scope) (pure (None, false))

-- the second arm, if its NOT is there
unfoldable pub second_arm : Level → Scope → NotPhrase → Form Arm
second_arm level scope nots.Missing = pure (None, false)
second_arm level scope nots.Own = held_arm level scope
second_arm level scope nots.Foreign = pure (None, true)

-- the two arms of a statement
abbrev pub arms_of : Option (List Stmt) → Option (List Stmt) → Arms
arms_of first second = roll-Arms (record { first = first; second = second })

-- the second arm, after the first
unfoldable pub second_behind : Phrase → Level → Scope → Arm → Form (Arms × Bool)
second_behind phrase level scope first = do
  following ← not_phrase phrase level.enter (is_some first.0) first.1
  second ← second_arm level scope following
  pure (arms_of first.0 second.0, second.1)

-- [phrase stmt+] [NOT phrase stmt+]
unfoldable pub arms : Phrase → Level → Scope → Form (Arms × Bool)
arms phrase level scope = do
  present ← first_phrase phrase level.enter
  first ← first_arm level scope present
  second_behind phrase level scope first

-- the word that ends a statement, unless NOT was read
unfoldable pub end_word : List ℕ → Bool → Form (Unit {0})
end_word word pending_not = chosen pending_not (pure tt) (maybe word)

-- ---- arithmetic

-- the verb of arithmetic, with what is worked out
abbrev pub Worked : Type 0
Worked = ArithmeticVerb × Work

-- what is worked out, with its verb
abbrev pub verbed : ArithmeticVerb → Form Work → Form Worked
verbed verb form = form >>= (λ work. pure (verb, work))

-- ADD or SUBTRACT
unfoldable pub adding_work : {Side Known : Type 0} → Parts Side Known → Form Worked
adding_work parts =
    where_next (is_key (codes "ADD")) (verbed verbs.Add (add parts))
    (verbed verbs.Subtract (subtract parts))

-- MULTIPLY or DIVIDE
unfoldable pub multiplying_work : {Side Known : Type 0} → Parts Side Known → Form Worked
multiplying_work parts =
    where_next (is_key (codes "MULTIPLY")) (verbed verbs.Multiply (multiply parts))
    (verbed verbs.Divide (divide parts))

-- COMPUTE
unfoldable pub computing_work : {Side Known : Type 0} → Parts Side Known → Form Worked
computing_work parts = verbed verbs.Compute (compute parts)

-- arithmetic up to its arms
unfoldable pub arithmetic_work : {Side Known : Type 0} → Parts Side Known → Form Worked
arithmetic_work parts =
    where_next begins_adding (adding_work parts)
    (where_next begins_multiplying (multiplying_work parts) (computing_work parts))

-- the word that ends arithmetic of this verb
abbrev pub end_of : ArithmeticVerb → List ℕ
end_of verbs.Add = codes "END-ADD"
end_of verbs.Subtract = codes "END-SUBTRACT"
end_of verbs.Multiply = codes "END-MULTIPLY"
end_of verbs.Divide = codes "END-DIVIDE"
end_of verbs.Compute = codes "END-COMPUTE"

-- the word that may end arithmetic, unless NOT was read
unfoldable pub end_work : ArithmeticVerb → Bool → Form (Unit {0})
end_work verb pending_not = end_word (end_of verb) pending_not

-- work [[ON] SIZE ERROR stmt+] [NOT [ON] SIZE ERROR stmt+] [END-verb]
unfoldable pub arithmetic_stmt : {Side Known : Type 0} → Parts Side Known →
    Level → Scope → Form FoundOne
arithmetic_stmt parts level scope = do
  worked ← arithmetic_work parts
  found ← arms phrases.Size level scope
  end_work worked.0 found.1
  pure (stmts.Arith worked.1.0 worked.1.1 found.0, found.1)

-- ---- READ

-- [RECORD] [INTO ref]
unfoldable pub read_open : {Side Known : Type 0} → Parts Side Known → Option ℕ → Form ReadHead
read_open parts file = into_part parts file >>= (λ into. pure (reads.Open (index_or_0 file) into))

-- the rest of READ word NEXT SENTENCE, which is two statements
unfoldable pub read_sentence : Option ℕ → Form ReadHead
read_sentence file = key (codes "SENTENCE") >> pure (reads.WithSentence (index_or_0 file))

-- what follows READ and its file, from NEXT on; NEXT SENTENCE is a statement of its own
unfoldable pub read_next : {Side Known : Type 0} → Parts Side Known → Option ℕ → Form ReadHead
read_next parts file =
    key (codes "NEXT")
    >> where_next (is_key (codes "SENTENCE")) (read_sentence file) (read_open parts file)

-- READ word [NEXT] [RECORD] [INTO ref]
unfoldable pub read_head : {Side Known : Type 0} → Parts Side Known → Form ReadHead
read_head parts = do
  file ← read_file parts
  where_next (is_key (codes "NEXT")) (read_next parts file) (read_open parts file)

-- neither arm
abbrev pub no_arms : Arms
no_arms = arms_of None None

-- READ without arms, and then NEXT SENTENCE, after the statements before
abbrev pub read_and_next : List Stmt → ℕ → List Stmt
read_and_next before file = (before ++ stmts.Read file None no_arms ∷ []) ++ stmts.NextSentence ∷ []

-- [[AT] END stmt+] [NOT [AT] END stmt+] [END-READ]
unfoldable pub read_arms : Level → Scope → List Stmt → ℕ → Option Place → Form Found
read_arms level scope before file into = do
  found ← arms phrases.End level scope
  end_word (codes "END-READ") found.1
  pure (before ++ stmts.Read file into found.0 ∷ [], found.1)

-- what follows the head of READ
unfoldable pub read_by : Level → Scope → List Stmt → ReadHead → Form Found
read_by level scope before (reads.WithSentence file) = pure (read_and_next before file, false)
read_by level scope before (reads.Open file into) = read_arms level scope before file into

-- READ word [NEXT] [RECORD] [INTO ref] [[AT] END stmt+] [NOT [AT] END stmt+] [END-READ]
unfoldable pub read_stmt : {Side Known : Type 0} → Parts Side Known →
    Level → Scope → List Stmt → Form Found
read_stmt parts level scope before = read_head parts >>= read_by level scope before
