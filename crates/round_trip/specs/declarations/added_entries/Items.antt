-- Items for whole numbers, whose entries are added after those of a program.
use Rattle.std.specs.Prelude.{ℕ, ◌≡◌, ◌≤◌, Bool, true, false, not, List, [], ◌∷◌, ◌++◌, map, Some, None}
use Rattle.std.specs.List.{list_any}
use Rattle.std.specs.Str.{bytes_eq}
use Rattle.cob_base.specs.Bytes.{digit_0}
use Rattle.cob_tree.specs.declared.entry.Entry.{Entry}
use Rattle.cob_tree.specs.declared.number.Number.{Number}
use Rattle.cob_tree.specs.declared.picture.Picture.TheVariants as pictures
use Rattle.cob_tree.specs.declared.picture.Sign.TheVariants.{Within}
use Rattle.cob_tree.specs.declared.picture.Usage.TheVariants.{Display}
use Rattle.cob_tree.specs.declared.place.Operand.TheVariants as operands
use Rattle.cob_tree.specs.declared.program.Program.{Program}
use Rattle.control_flow_theory.specs.language.All.{all}
use Rattle.program_facts.specs.well_scoped.Part.{if_any}
use Rattle.parser_combinators.specs.words.Word.{is_data_word}

-- an item of whole numbers: its name, how many digits it has, and whether it has a sign
pub record WholeItem : Type 0 where
  pub name : List ℕ
  pub digits : ℕ
  pub signed : Bool

-- the number zero as a literal
abbrev pub zero_literal : Number
zero_literal = record { negative = false; digits = digit_0 ∷ []; scale = 0 }

-- 01 name PIC 9(digits) VALUE 0, or PIC S9(digits)
abbrev pub whole_entry : WholeItem → Entry
whole_entry item = record {
  level = 1;
  name = Some item.name;
  file = None;
  redefines = None;
  picture = Some (pictures.Number item.signed item.digits 0);
  sign = Within;
  usage = Display;
  occurs = None;
  value = Some (operands.Number zero_literal);
  ranges = [];
}

-- the entries of these items
abbrev pub whole_entries : List WholeItem → List Entry
whole_entries = map whole_entry

-- a program with the files and entries of another, and these after
pub record HasAdded (program : Program) (items : List WholeItem) (made : Program) : Type 0 where
  pub files : made.files ≡ program.files
  pub entries : made.entries ≡ program.entries ++ whole_entries items

-- each item has 1 to 18 digits
abbrev pub AreSized : List WholeItem → Type 0
AreSized [] = Unit {0}
AreSized (item ∷ items) = (1 ≤ item.digits) × (item.digits ≤ 18) × AreSized items

-- the item's name may be a name
abbrev pub has_title : WholeItem → Bool
has_title item = is_data_word item.name

-- the names of these items may be names
abbrev pub AreTitled : List WholeItem → Type 0
AreTitled items = all (map has_title items) ≡ true

-- the name of one of these
abbrev pub is_one_of : List ℕ → List WholeItem → Bool
is_one_of word items = list_any (λ item. bytes_eq word item.name) items

-- all have names of their own
abbrev pub AreDifferent : List WholeItem → Type 0
AreDifferent [] = Unit {0}
AreDifferent (item ∷ items) = (is_one_of item.name items ≡ false) × AreDifferent items

-- none has the name of this entry
abbrev pub is_other : List WholeItem → Entry → Bool
is_other items entry = if_any (λ name. not (is_one_of name items)) entry.name

-- nor that of any entry of the program
abbrev pub AreNew : Program → List WholeItem → Type 0
AreNew program items = all (map (is_other items) program.entries) ≡ true
