-- Entries and files as references see them, one by one.
use Rattle.std.proofs.Common.{◌≡◌, ℕ, suc, ◌+◌, ◌<◌, List, [], ◌∷◌, length, get_or, take, drop, reverse, refl, sym, ap, ◌∙◌, add-one}
use Rattle.std.proofs.Math.Seq.{drop-cons}
use Rattle.cob_tree.specs.declared.entry.Entry.{Entry}
use Rattle.cob_tree.specs.declared.file.FileEntry.{FileEntry}
use Rattle.symbol_tables.specs.data_names.Names.{name_of, names_from}
use Rattle.symbol_tables.proofs.data_names_lemmas.GroupingLemmas.{reverse-take}

pub names_from-none : (files : List FileEntry) (before : List Entry) → names_from files before [] ≡ []
unfolding names_from
names_from-none files before = refl

pub names_from-cons : (files : List FileEntry) (before : List Entry) (entry : Entry) (behind : List Entry) → names_from files before (entry ∷ behind) ≡ name_of files before entry behind ∷ names_from files (entry ∷ before) behind
unfolding names_from
names_from-cons files before entry behind = refl

-- the name of the next entry, and those of the others
pub names_from-at : (files : List FileEntry) (entries : List Entry) (at : ℕ) (x : Entry) → at < length entries → x ≡ get_or entries at x → names_from files (reverse (take at entries)) (drop at entries) ≡ name_of files (reverse (take at entries)) x (drop (at + 1) entries) ∷ names_from files (reverse (take (at + 1) entries)) (drop (at + 1) entries)
names_from-at files entries at x h e =
    let d : drop at entries ≡ x ∷ drop (at + 1) entries = rw add-one (drop-cons entries at x h ∙ ap (λ y. y ∷ drop (suc at) entries) (sym e)) in
    let r : reverse (take (at + 1) entries) ≡ x ∷ reverse (take at entries) = rw add-one (reverse-take entries at x h ∙ ap (λ y. y ∷ reverse (take at entries)) (sym e)) in
    rw (d, r) (names_from-cons files (reverse (take at entries)) x (drop (at + 1) entries))

-- there are as many as entries
pub length-names_from : (files : List FileEntry) (before entries : List Entry) → length (names_from files before entries) ≡ length entries
unfolding names_from
length-names_from files before [] = refl
length-names_from files before (entry ∷ behind) = ap suc (length-names_from files (entry ∷ before) behind)
