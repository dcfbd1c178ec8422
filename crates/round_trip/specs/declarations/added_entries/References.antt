-- What references stand for in a program with added entries.
use Rattle.std.specs.Prelude.{ℕ, ◌≡◌, ◌+◌, ◌<◌, true, false, List, [], length, Some, None, slice_get}
use Rattle.cob_tree.specs.declared.cond.Cond.{Cond}
use Rattle.cob_tree.specs.declared.place.Expr.{Expr}
use Rattle.cob_tree.specs.declared.place.Operand.{Operand}
use Rattle.cob_tree.specs.declared.place.Place.{Place}
use Rattle.cob_tree.specs.declared.program.Program.{Program}
use Rattle.symbol_tables.specs.declared.data_names.name.Referent.TheVariants as found
use Rattle.symbol_tables.specs.declared.data_names.name.ItemKind.TheVariants.{Number}
use Rattle.symbol_tables.specs.data_names.Look.{look, look_file}
use Rattle.symbol_tables.specs.data_names.Names.{Names, names_of}
use Rattle.cobol_grammar.specs.declared.expr_forms.side.ExprContent.TheVariants as makes
use Rattle.cobol_grammar.specs.declared.expr_forms.side.ValueKind.TheVariants as kinds
use Rattle.unparser.specs.Place.{item_name}
use Rattle.round_trip.specs.spelling.expr_spelling.Printable.{judged_expr, judged_operand, judged_place, IsPrintableExpr, IsPrintableOperand, IsPrintablePlace}
use Rattle.round_trip.specs.spelling.expr_spelling.Spelled.{made_place}
use Rattle.round_trip.specs.spelling.cond_spelling.Printable.{IsPrintableCond}
use Rattle.round_trip.specs.declarations.added_entries.Items.{WholeItem, HasAdded, AreDifferent, AreNew, AreTitled, is_one_of}

-- the names of a program's files and entries
abbrev pub known_by : Program → Names
known_by program = names_of program.files program.entries

-- what is fit to be printed is so still, and what is known of it is the same
pub record AreJudgedAlike (program made : Program) : Type 0 where
  pub place : (place : Place) → IsPrintablePlace (known_by program) program place →
      judged_place (known_by made) made place ≡ judged_place (known_by program) program place
  pub operand : (operand : Operand) → IsPrintableOperand (known_by program) program operand →
      judged_operand (known_by made) made operand
      ≡ judged_operand (known_by program) program operand
  pub expr : (expr : Expr) → IsPrintableExpr (known_by program) program expr →
      judged_expr (known_by made) made expr ≡ judged_expr (known_by program) program expr
  pub cond : (cond : Cond) → IsPrintableCond (known_by program) program cond →
      IsPrintableCond (known_by made) made cond

-- a word that names no added item stands for what it stood for, and items have their names
pub record NamesStay : Type 0 where
  -- a word that names no added item
  pub look : (program made : Program) (items : List WholeItem) (word : List ℕ)
      (of : List (List ℕ)) → HasAdded program items made → is_one_of word items ≡ false →
      look (known_by made) word of ≡ look (known_by program) word of
  -- the name of a file
  pub file : (program made : Program) (items : List WholeItem) (word : List ℕ) →
      HasAdded program items made →
      look_file (known_by made) word ≡ look_file (known_by program) word
  -- the name of an item of the program
  pub name : (program made : Program) (items : List WholeItem) (item : ℕ) →
      HasAdded program items made → item < length program.entries →
      item_name made item ≡ item_name program item
  -- what is known of parts is the same
  pub judged : (program made : Program) (items : List WholeItem) →
      HasAdded program items made → AreNew program items → AreJudgedAlike program made

-- the item that is added with this number
abbrev pub place_of : Program → ℕ → Place
place_of program number = made_place (length program.entries + number) [] [] None

-- the name of an added item, alone, stands for it, and it can be printed so, as a whole number
pub record AddedNamesStand : Type 0 where
  -- the name of an added item stands for it
  pub look : (program made : Program) (items : List WholeItem) (number : ℕ) (item : WholeItem) →
      HasAdded program items made → AreNew program items → AreDifferent items →
      slice_get items number ≡ Some item →
      look (known_by made) item.name []
      ≡ found.Item (length program.entries + number) (Number true) 0
  -- and is known as a whole number
  pub judged : (program made : Program) (items : List WholeItem) (number : ℕ)
      (item : WholeItem) → HasAdded program items made → AreNew program items →
      AreDifferent items → AreTitled items → slice_get items number ≡ Some item →
      judged_place (known_by made) made (place_of program number)
      ≡ record { fit = true; kind = kinds.Number true; make = makes.Item; bare = true }
