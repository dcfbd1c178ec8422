-- What statements are made of, read by forms of their own: whatever these are, the statements are
-- read over them.
use Rattle.std.specs.Prelude.{ℕ, Bool, List, Option}
use Rattle.cobol_lex.specs.declared.token.TokenKind.{TokenKind}
use Rattle.cob_tree.specs.declared.cond.Cond.{Cond}
use Rattle.cob_tree.specs.declared.place.Expr.{Expr}
use Rattle.cob_tree.specs.declared.place.Operand.{Operand}
use Rattle.cob_tree.specs.declared.place.Place.{Place}
use Rattle.parser_combinators.specs.declared.note.Note.{Note}
use Rattle.parser_combinators.specs.declared.note.Position.{Position}
use Rattle.parser_combinators.specs.Form.{Form}

-- Over what is kept of an operand, reference or expression as it is read, and what is kept of a
-- subject of EVALUATE to hold others against it.
pub record Parts (Side Known : Type 0) : Type 1 where
  -- what is kept of a subject
  pub known_of : Side → Known
  -- the token begins an operand
  pub begins_operand : TokenKind → Bool
  -- the token may be the name of data or of a file
  pub is_name : TokenKind → Bool
  -- the token may be the name of a paragraph or section, and isn't digits
  pub is_procedure_word : TokenKind → Bool
  -- an operand: ref | lit
  pub operand : Form Side
  -- a reference
  pub reference : Form Side
  -- a reference after its first word
  pub reference_behind : List ℕ → Position → Form Side
  -- digits as an operand
  pub digits_side : List ℕ → Position → Side
  -- an expression
  pub expr : Form Side
  -- a condition, and whether a NOT was read after it that isn't its own
  pub cond : Form (Cond × Bool)
  -- a file, by its place among the files, if it is one
  pub file : Form (Option ℕ)
  -- the name of a record that is written
  pub record_name : Form Side
  -- the name that a paragraph or section is given, and its place
  pub header_name : Form (List ℕ × Position)
  -- the entry and exit of a paragraph or section
  pub procedure_of : List ℕ → Option (ℕ × ℕ)
  -- the fault of a name that an earlier paragraph or section has
  pub duplicate_fault : List ℕ → Position → Option Note
  -- the operand that a side is in the tree
  pub operand_of : Side → Operand
  -- the place that a side is in the tree
  pub place_of : Side → Place
  -- the expression that a side is in the tree
  pub expr_of : Side → Expr
  -- the number of a record's entry
  pub entry_of : Side → ℕ
  -- the fault of a side that is no value
  pub value_fault : Side → Option Note
  -- the fault of a side that isn't a number
  pub number_fault : Side → Option Note
  -- the fault of a side that isn't a number without decimals
  pub whole_fault : Side → Option Note
  -- the fault of a side that isn't the name of a level 88
  pub condition_fault : Side → Option Note
  -- the fault of a side that can't take a result
  pub result_fault : Side → Option Note
  -- the fault of a move from the first to the second
  pub move_fault : Side → Side → Option Note
  -- the fault of a side that can't take the records of a file
  pub into_fault : Option ℕ → Side → Option Note
  -- the fault of what can't be compared with a subject
  pub subject_fault : Known → Side → Option Note
