-- The rules on entries, as the entries of a program keep them.
use Rattle.std.specs.Prelude.{ℕ, ◌≡◌, ◌+◌, ◌≤◌, Bool, true, false, ◌||◌, ◌==◌, nat_lt, List, [], ◌∷◌, map, slice_get, Option, Some, None}
use Rattle.cob_tree.specs.declared.entry.Entry.{Entry}
use Rattle.cob_tree.specs.declared.entry.Span.{Span}
use Rattle.cob_tree.specs.declared.picture.Picture.{Picture}
use Rattle.cob_tree.specs.declared.picture.Sign.{Sign}
use Rattle.cob_tree.specs.declared.picture.Sign.TheVariants.{Within}
use Rattle.cob_tree.specs.declared.picture.Usage.{Usage}
use Rattle.cob_tree.specs.declared.picture.Usage.TheVariants.{Display, Binary, Packed}
use Rattle.cob_tree.specs.declared.place.Operand.{Operand}
use Rattle.cob_tree.specs.declared.program.Program.{Program}
use Rattle.symbol_tables.specs.data_names.Names.{is_group}
use Rattle.cob_store.specs.sizes.Size.{sized}
use Rattle.declaration_checks.specs.declared.literal.LiteralTarget.{LiteralTarget}
use Rattle.declaration_checks.specs.Item.{level_stands, is_signed, may_repeat}
use Rattle.declaration_checks.specs.Literal.{fits}
use Rattle.declaration_checks.specs.Redefining.{redefined, is_short}
use Rattle.declaration_checks.specs.Rule.{target_of}
use Rattle.declaration_checks.specs.Standing.{before, behind, holder_of, standing_of}
use Rattle.declaration_checks.specs.Value.{may_have_value}
use Rattle.declaration_checks.specs.Usage.{usages_of}
use Rattle.grammar_laws.specs.whole_counts.entry_bounds.Bounds.{usage_suits}
use Rattle.round_trip.specs.declarations.printed_pictures.Writable.{IsWritable}
use Rattle.unparser.specs.Place.{item_name}
use Rattle.round_trip.specs.spelling.data_spelling.Printable.{IfAny}

-- ---- entries by themselves, where 0 stands for each item that is redefined, and DISPLAY for each
-- ---- usage

-- 0 where something is redefined
abbrev pub marked : Option ℕ → Option ℕ
marked None = None
marked (Some number) = Some 0

-- an entry by itself
abbrev pub base : Entry → Entry
base entry = record {
  level = entry.level;
  name = entry.name;
  file = entry.file;
  redefines = marked entry.redefines;
  picture = entry.picture;
  sign = entry.sign;
  usage = Display;
  occurs = entry.occurs;
  value = entry.value;
  ranges = entry.ranges;
}

-- the entries of a program by themselves
abbrev pub bases : Program → List Entry
bases program = map base program.entries

-- the usage that is said, where one is: DISPLAY isn't
abbrev pub said : Usage → Option Usage
said Display = None
said Binary = Some Binary
said Packed = Some Packed

-- the usages that the entries of a program say
abbrev pub owns : Program → List (Option Usage)
owns program = map (λ (entry : Entry). said entry.usage) program.entries

-- their usages, as groups hand them down
abbrev pub usages : Program → List (Option Usage)
usages program = usages_of (bases program) (owns program)

-- how many bytes each entry of a program has
abbrev pub sizes : Program → List ℕ
sizes program = (sized program.entries).sizes

-- ---- an item or a group

-- a group has no picture, an item has one that can be written
abbrev pub PictureSuits : (group : Bool) → Option Picture → Type 0
PictureSuits true picture = picture ≡ None
PictureSuits false None = ⊥
PictureSuits false (Some picture) = IsWritable picture

-- a separate sign is on a number that has a sign
abbrev pub SignSuits : Sign → Option Picture → Type 0
SignSuits Within picture = Unit {0}
SignSuits _ picture = is_signed picture ≡ true

-- an entry of this level may occur so often
abbrev pub Repeats : (level dims : ℕ) → ℕ → Type 0
Repeats level dims count = (may_repeat level dims ≡ true) × (1 ≤ count) × (count ≤ 65535)

-- an item may have a value here, and this one fits
abbrev pub IsValued : Entry → LiteralTarget → (barred : Bool) → Operand → Type 0
IsValued entry target barred value =
    (may_have_value (base entry) target.group barred ≡ true) × (fits value target ≡ true)

-- the entry of this number is the one that may be redefined here, and is long enough
abbrev pub Redefines : Program → (at : ℕ) → Entry → ℕ → Type 0
Redefines program at entry number =
    (redefined (bases program) at (base entry) (item_name program number) ≡ Some number)
    × (is_short (sizes program) at (base entry) number ≡ true)

-- an item or a group keeps the rules
pub record ItemKeeps (program : Program) (at : ℕ) (entry : Entry) : Type 0 where
  -- it has a picture, or is a group without one
  pub pictured : PictureSuits (is_group (base entry) (behind (bases program) at)) entry.picture
  -- its sign suits its picture
  pub signed : SignSuits entry.sign entry.picture
  -- a usage other than DISPLAY is on a number whose sign is within it
  pub used : usage_suits entry.usage entry.sign entry.picture ≡ true
  -- it may occur so often
  pub repeated : IfAny
      (Repeats entry.level (standing_of (base entry) (before (bases program) at)).dims)
      entry.occurs
  -- it may have a value, which fits
  pub valued : IfAny
      (IsValued entry (target_of (bases program) (sizes program) at (base entry))
      (standing_of (base entry) (before (bases program) at)).barred)
      entry.value
  -- what it redefines may be redefined here
  pub redefines : IfAny (Redefines program at entry) entry.redefines
  -- it has no values of a level 88
  pub no_ranges : entry.ranges ≡ []

-- ---- a level 88

-- a value, or each end of a range of values, fits
abbrev pub SpanFits : LiteralTarget → Span → Type 0
SpanFits target span =
    (fits span.from target ≡ true) × IfAny (λ to. fits to target ≡ true) span.to

-- these values fit
abbrev pub SpansFit : LiteralTarget → List Span → Type 0
SpansFit target [] = Unit {0}
SpansFit target (span ∷ spans) = SpanFits target span × SpansFit target spans

-- these values fit the item with this number
abbrev pub FitAt : Program → List Span → ℕ → Option Entry → Type 0
FitAt program spans item None = Unit {0}
FitAt program spans item (Some entry) =
    SpansFit (target_of (bases program) (sizes program) item entry) spans

-- these values fit the item, if there is one
abbrev pub FitHolder : Program → List Span → Option ℕ → Type 0
FitHolder program spans None = Unit {0}
FitHolder program spans (Some item) = FitAt program spans item (slice_get (bases program) item)

-- there is a value
abbrev pub IsFilled : List Span → Type 0
IsFilled [] = ⊥
IsFilled (span ∷ spans) = Unit {0}

-- a level 88 keeps the rules
pub record ConditionKeeps (program : Program) (at : ℕ) (entry : Entry) : Type 0 where
  pub no_redefines : entry.redefines ≡ None
  pub no_picture : entry.picture ≡ None
  pub no_sign : entry.sign ≡ Within
  pub no_usage : entry.usage ≡ Display
  pub no_occurs : entry.occurs ≡ None
  pub no_value : entry.value ≡ None
  -- it has a value
  pub filled : IsFilled entry.ranges
  -- its values fit its item
  pub fit : FitHolder program entry.ranges (holder_of (base entry) (before (bases program) at))

-- ---- an entry

-- a level up to 49, 77 or 88
abbrev pub is_level : ℕ → Bool
is_level level = nat_lt level 50 || (level == 77 || level == 88)

-- the entry keeps the rules of a level 88, or those of an item
abbrev pub KindKeeps : (condition : Bool) → Program → (at : ℕ) → Entry → Type 0
KindKeeps true = ConditionKeeps
KindKeeps false = ItemKeeps

-- an entry keeps the rules
pub record EntryKeeps (program : Program) (at : ℕ) (entry : Entry) : Type 0 where
  -- its level may be printed
  pub level : is_level entry.level ≡ true
  -- it is in an item or a group, or needs none
  pub stands : level_stands entry.level
      (holder_of (base entry) (before (bases program) at)) ≡ true
  -- it keeps the rules of its kind
  pub kind : KindKeeps (entry.level == 88) program at entry

-- entries from this number on
abbrev pub EntriesKeep : Program → (at : ℕ) → List Entry → Type 0
EntriesKeep program at [] = Unit {0}
EntriesKeep program at (entry ∷ entries) =
    EntryKeeps program at entry × EntriesKeep program (at + 1) entries
