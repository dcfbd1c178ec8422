-- An entry more before another one, or behind it.
use Rattle.std.proofs.Common.{◌≡◌, ℕ, suc, ◌+◌, ◌-◌, ◌<◌, ◌≤◌, Bool, true, false, nat_lt, List, [], ◌∷◌, ◌++◌, length, get_or, take, drop, reverse, Option, Some, None, refl, sym, ap, ◌∙◌, add-one, arith, if◌then◌else◌, cond}
use Rattle.std.proofs.Math.Seq.{take-suc, drop-cons}
use Rattle.std.proofs.lemmas.List.{reverse-append}
use Rattle.std.proofs.lemmas.List.Sums.{sum_by-cons}
use mir.Val.{bool_byte}
use Rattle.std.specs.List.{cons_option}
use Rattle.cob_tree.specs.declared.entry.Entry.{Entry}
use Rattle.symbol_tables.specs.data_names.Grouping.{bound_of, dims_in, group_words, groups_of, has_items, holds, is_numbered, repeats, same_file, word_list}

pub has_items-cons : (level : ℕ) (file : Option ℕ) (entries : List Entry) (i : ℕ) (d : Entry) → i < length entries → has_items level file (drop i entries) ≡ (if same_file file (get_or entries i d).file then (if is_numbered (get_or entries i d).level then nat_lt level (get_or entries i d).level else has_items level file (drop (i + 1) entries)) else false)
unfolding has_items
has_items-cons level file entries i d h = rw (add-one, drop-cons entries i d h) refl

pub has_items-none : (level : ℕ) (file : Option ℕ) → has_items level file [] ≡ false
unfolding has_items
has_items-none level file = refl

pub groups_of-none : (bound : ℕ) (file : Option ℕ) → groups_of bound file [] ≡ []
unfolding groups_of
groups_of-none bound file = refl

-- the entries before, the last first, from one of them on
pub reverse-take : (entries : List Entry) (i : ℕ) (d : Entry) → i < length entries → reverse (take (suc i) entries) ≡ get_or entries i d ∷ reverse (take i entries)
reverse-take entries i d h = ap reverse (take-suc entries i d h) ∙ reverse-append (take i entries) (get_or entries i d ∷ [])

pub groups_of-other : (bound : ℕ) (file : Option ℕ) (entry : Entry) (before : List Entry) → same_file file entry.file ≡ false → groups_of bound file (entry ∷ before) ≡ []
unfolding groups_of
groups_of-other bound file entry before e = rw e refl

pub groups_of-holds : (bound : ℕ) (file : Option ℕ) (entry : Entry) (before : List Entry) → same_file file entry.file ≡ true → holds bound entry ≡ true → groups_of bound file (entry ∷ before) ≡ entry ∷ groups_of (bound_of entry.level) file before
unfolding groups_of
groups_of-holds bound file entry before e h = rw (e, h) refl

pub groups_of-past : (bound : ℕ) (file : Option ℕ) (entry : Entry) (before : List Entry) → same_file file entry.file ≡ true → holds bound entry ≡ false → groups_of bound file (entry ∷ before) ≡ groups_of bound file before
unfolding groups_of
groups_of-past bound file entry before e h = rw (e, h) refl

word_list-cons : (o : Option (List ℕ)) (words : List (List ℕ)) → cons_option o words ≡ word_list o ++ words
word_list-cons None words = refl
word_list-cons (Some word) words = refl

pub group_words-cons : (entry : Entry) (groups : List Entry) → group_words (entry ∷ groups) ≡ word_list entry.name ++ group_words groups
group_words-cons entry groups = word_list-cons entry.name (group_words groups)

-- the entries before one, the last first, begin with the last of them
pub last_first : (before : List Entry) (at : ℕ) (x : Entry) → 0 < at → at ≤ length before → x ≡ get_or before (at - 1) x → reverse (take at before) ≡ x ∷ reverse (take (at - 1) before)
last_first before at x h l e =
    let s : at ≡ suc (at - 1) = omega arith in
    ap (λ n. reverse (take n before)) s ∙ reverse-take before (at - 1) x (omega arith)
    ∙ ap (λ y. y ∷ reverse (take (at - 1) before)) (sym e)

pub dims_in-cons : (entry : Entry) (groups : List Entry) → dims_in (entry ∷ groups) ≡ bool_byte (repeats entry) + dims_in groups
dims_in-cons entry groups = sum_by-cons (λ x. cond (repeats x) 1 0) entry groups ∙ ap (λ n. n + dims_in groups) (go (repeats entry))
  where
    go : (b : Bool) → cond b 1 0 ≡ bool_byte b
    go true = refl
    go false = refl

pub bool_byte-le : (b : Bool) → bool_byte b ≤ 1
bool_byte-le true = omega arith
bool_byte-le false = omega arith
