-- The names of entries fit them.
use Rattle.std.proofs.Common.{◌≡◌, ℕ, zero, suc, ◌+◌, Bool, true, false, if◌then◌else◌, List, [], ◌∷◌, map, Option, Some, None, ap, ◌∙◌, arith}
use Rattle.std.specs.Prelude.{◌==◌, nat_le, slice_get}
use Rattle.std.proofs.lemmas.Bool.{and_parts, le-leb, leb-true}
use Rattle.cob_tree.specs.declared.entry.Entry.{Entry}
use Rattle.cob_tree.specs.declared.file.FileEntry.{FileEntry}
use Rattle.cob_tree.specs.declared.picture.Picture.{Picture}
use Rattle.cob_tree.specs.declared.picture.Picture.TheVariants as pictures
use Rattle.symbol_tables.specs.declared.data_names.name.ItemKind.TheVariants as kinds
use Rattle.symbol_tables.specs.declared.data_names.name.Name.{Name}
use Rattle.symbol_tables.specs.data_names.Names.{picture_kind, is_group, kind_of, name_of, names_from, names_of}
use Rattle.control_flow_theory.specs.language.All.{all}
use Rattle.program_facts.proofs.well_scoped_lemmas.Made.{both}
use Rattle.program_facts.specs.whole_counts.Whole.{is_whole_picture, is_whole_entry}
use Rattle.grammar_laws.specs.whole_counts.whole_entries.Fitting.{NamesFit, is_short, has_short_picture}

no_more : (whole part : ℕ) → nat_le (whole + part) 18 ≡ true → nat_le whole 18 ≡ true
no_more whole part h = let k = leb-true (whole + part) 18 h in le-leb whole 18 (omega (arith, k))

picture-fits : (picture : Option Picture) → is_short picture ≡ true → picture_kind picture ≡ kinds.Number true → is_whole_picture picture ≡ true
picture-fits None s e = absurd cc
picture-fits (Some (pictures.Number signed whole part)) s e = both (told e) (no_more whole part s)
  where
    told : {b : Bool} → kinds.Number b ≡ kinds.Number true → b ≡ true
    told e = cc
picture-fits (Some (pictures.Letters count)) s e = absurd cc
picture-fits (Some (pictures.Any count)) s e = absurd cc
picture-fits (Some (pictures.Edited mask)) s e = absurd cc

entry-fits : (entry : Entry) (behind : List Entry) → has_short_picture entry ≡ true → kind_of entry behind ≡ kinds.Number true → is_whole_picture entry.picture ≡ true
entry-fits entry behind s e = go (entry.level == 88) (is_group entry behind) e
  where
    go : (condition group : Bool) → (if condition then kinds.Condition else (if group then kinds.Group else picture_kind entry.picture)) ≡ kinds.Number true → is_whole_picture entry.picture ≡ true
    go true group e = absurd cc
    go false true e = absurd cc
    go false false e = picture-fits entry.picture s e

from-fit : (files : List FileEntry) (before entries : List Entry) → all (map has_short_picture entries) ≡ true → (item : ℕ) (name : Name) → slice_get (names_from files before entries) item ≡ Some name →
    name.kind ≡ kinds.Number true → is_whole_entry (slice_get entries item) ≡ true
unfolding names_from
from-fit files before [] s item name e k = absurd cc
from-fit files before (entry ∷ behind) s zero name e k =
    entry-fits entry behind (and_parts (has_short_picture entry) (all (map has_short_picture behind)) s).0 (ap (λ n. n.kind) (some_is (name_of files before entry behind) name e) ∙ k)
  where
    some_is : (x y : Name) → Some x ≡ Some y → x ≡ y
    some_is x y e = cc
from-fit files before (entry ∷ behind) s (suc item) name e k =
    from-fit files (entry ∷ before) behind (and_parts (has_short_picture entry) (all (map has_short_picture behind)) s).1 item name e k

pub entries-fit : (files : List FileEntry) (entries : List Entry) → all (map has_short_picture entries) ≡ true → NamesFit (names_of files entries) entries
entries-fit files entries s = from-fit files [] entries s
