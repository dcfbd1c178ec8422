-- What is asked of a program beside that it is proper and counts by whole numbers.
use Rattle.std.specs.Prelude.{ℕ, ◌≡◌, ◌<◌, ◌^◌, nat_lt, Bool, true, ◌&&◌, ◌||◌, not, ◌==◌, length, map, Option, Some, None, is_some}
use Rattle.cob_tree.specs.declared.entry.Entry.{Entry}
use Rattle.cob_tree.specs.declared.picture.Picture.{Picture}
use Rattle.cob_tree.specs.declared.picture.Picture.TheVariants as pictures
use Rattle.cob_tree.specs.declared.picture.Sign.{Sign}
use Rattle.cob_tree.specs.declared.program.Program.{Program}
use Rattle.cob_tree.specs.declared.stmt.Arms.{Arms, fold-Arms}
use Rattle.cob_tree.specs.declared.stmt.Stmt.{Stmt, fold-Stmt}
use Rattle.cob_tree.specs.declared.stmt.Stmt.TheOpen.{Stmt-F, Arms-F, When-F}
use Rattle.cob_tree.specs.declared.stmt.When.{When, fold-When}
use Rattle.cob_store.specs.Size.{is_condition, sign_size}
use Rattle.control_flow_theory.specs.language.All.{all, all_if}
use Rattle.meanings.specs.statements.Does.{declared_in}
use Rattle.cobol_theory.specs.added_items.Own.{has_record}
use Rattle.program_facts.specs.well_scoped.Named.{NamesItsOwn}

-- a sign that takes a byte goes with a number that has a sign
abbrev pub sign_fits : Sign → Option Picture → Bool
sign_fits sign None = true
sign_fits sign (Some (pictures.Number signed whole part)) = signed || sign_size sign == 0
sign_fits sign (Some (pictures.Edited mask)) = true
sign_fits sign (Some (pictures.Letters count)) = true
sign_fits sign (Some (pictures.Any count)) = true

-- the entry has a separate sign only where it may, and a level 88 has no picture
abbrev pub entry_fits : Entry → Bool
entry_fits entry =
    not (is_condition entry && is_some entry.picture) && sign_fits entry.sign entry.picture

-- each GO TO DEPENDING names fewer paragraphs than 18 digits count

-- one level of a statement
abbrev pub few_step : Stmt-F Bool Bool Bool → Bool
few_step (Stmt-F.Arith calc into arms) = arms
few_step (Stmt-F.Read file into arms) = arms
few_step (Stmt-F.If cond met unmet) = all met && all unmet
few_step (Stmt-F.Evaluate subject whens other) = all whens && all_if other
few_step (Stmt-F.Loop control body) = all body
few_step (Stmt-F.GoDepending to on) = nat_lt (length to) (10 ^ 18)
few_step _ = true

-- one level of a statement's arms
abbrev pub few_arms : Arms-F Bool Bool Bool → Bool
few_arms arms = all_if arms.first && all_if arms.second

-- one level of a WHEN
abbrev pub few_when : When-F Bool Bool Bool → Bool
few_when when = all when.stmts

-- each of those in a statement does
abbrev pub stmt_names_few : Stmt → Bool
stmt_names_few = fold-Stmt Bool Bool Bool few_step few_arms few_when

-- each of those in arms does
abbrev pub arms_name_few : Arms → Bool
arms_name_few = fold-Arms Bool Bool Bool few_step few_arms few_when

-- each of those in a WHEN does
abbrev pub when_names_few : When → Bool
when_names_few = fold-When Bool Bool Bool few_step few_arms few_when

-- each of those in the program does
abbrev pub names_few : Program → Bool
names_few program = all
    (map (λ paragraph. all (map (λ sentence. all
    (map stmt_names_few sentence.stmts)) paragraph.sentences))
    program.paragraphs)

-- what it names is there, and of each file a record; entries and lists of names are as they can be
-- written
pub record IsFit (program : Program) : Type 0 where
  -- what its statements name is there
  pub own : NamesItsOwn program
  -- each file has a record
  pub records : (file : ℕ) → file < length program.files →
      has_record (declared_in program) file ≡ true
  pub entries : all (map entry_fits program.entries) ≡ true
  -- each GO TO DEPENDING names few paragraphs
  pub few : names_few program ≡ true
