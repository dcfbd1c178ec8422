-- Entries whose files and redefined entries are there, whose level 88s have values and no picture,
-- and whose signs and usages suit their pictures.
use Rattle.std.specs.Prelude.{ℕ, ◌≡◌, ◌+◌, ◌<◌, ◌==◌, nat_lt, Bool, true, false, ◌&&◌, ◌||◌, not, List, [], ◌∷◌, map, Option, Some, None, is_some}
use Rattle.cob_tree.specs.declared.entry.Entry.{Entry}
use Rattle.cob_tree.specs.declared.picture.Picture.{Picture}
use Rattle.cob_tree.specs.declared.picture.Picture.TheVariants as pictures
use Rattle.cob_tree.specs.declared.picture.Sign.{Sign}
use Rattle.cob_tree.specs.declared.picture.Sign.TheVariants.{Within, SeparateLeading, SeparateTrailing}
use Rattle.cob_tree.specs.declared.picture.Usage.{Usage}
use Rattle.cob_tree.specs.declared.picture.Usage.TheVariants.{Display}
use Rattle.control_flow_theory.specs.language.All.{all}
use Rattle.program_facts.specs.well_scoped.Part.{is_filled, if_any}

-- it is among the first so many, if there is one
abbrev pub is_below : (count : ℕ) → Option ℕ → Bool
is_below count number = if_any (λ n. nat_lt n count) number

-- the file of its FD is one of so many
abbrev pub file_there : (files : ℕ) → Entry → Bool
file_there files entry = is_below files entry.file

-- each redefines nothing, or an entry before it, where so many come before all of them
abbrev pub redefine_earlier : (before : ℕ) → List Entry → Bool
redefine_earlier before [] = true
redefine_earlier before (entry ∷ entries) =
    is_below before entry.redefines && redefine_earlier (before + 1) entries

-- a level 88 has a value
abbrev pub has_values : Entry → Bool
has_values entry = not (entry.level == 88) || is_filled entry.ranges

-- the sign is within the last digit
abbrev pub is_within : Sign → Bool
is_within Within = true
is_within SeparateLeading = false
is_within SeparateTrailing = false

-- a separate sign goes with a number that has a sign
abbrev pub sign_suits : Sign → Option Picture → Bool
sign_suits sign None = true
sign_suits sign (Some (pictures.Number signed whole part)) = signed || is_within sign
sign_suits sign (Some (pictures.Letters count)) = true
sign_suits sign (Some (pictures.Any count)) = true
sign_suits sign (Some (pictures.Edited mask)) = true

-- a usage other than DISPLAY goes with a number alone, whose sign is within it
abbrev pub usage_suits : Usage → Sign → Option Picture → Bool
usage_suits Display sign picture = true
usage_suits _ sign None = false
usage_suits _ sign (Some (pictures.Number signed whole part)) = is_within sign
usage_suits _ sign (Some (pictures.Letters count)) = false
usage_suits _ sign (Some (pictures.Any count)) = false
usage_suits _ sign (Some (pictures.Edited mask)) = false

-- a level 88 has no picture, and the sign and the usage of an entry suit its picture
abbrev pub is_pictured : Entry → Bool
is_pictured entry =
    not (entry.level == 88 && is_some entry.picture) && sign_suits entry.sign entry.picture
    && usage_suits entry.usage entry.sign entry.picture

-- the entry is in the FD of this file
abbrev pub is_in : (file : ℕ) → Option ℕ → Bool
is_in file None = false
is_in file (Some other) = other == file

-- one of them is in the FD of this file
abbrev pub has_file : ℕ → List Entry → Bool
has_file file [] = false
has_file file (entry ∷ entries) = is_in file entry.file || has_file file entries

-- in a program with so many files
pub record EntriesBound (files : ℕ) (entries : List Entry) : Type 0 where
  -- each file is one of so many
  pub in_files : all (map (file_there files) entries) ≡ true
  -- each redefines nothing, or an entry before it
  pub redefined : redefine_earlier 0 entries ≡ true
  -- each level 88 has a value
  pub valued : all (map has_values entries) ≡ true
  -- each sign and each usage suits its picture
  pub pictured : all (map is_pictured entries) ≡ true
  -- each file has a record
  pub recorded : (file : ℕ) → file < files → has_file file entries ≡ true
