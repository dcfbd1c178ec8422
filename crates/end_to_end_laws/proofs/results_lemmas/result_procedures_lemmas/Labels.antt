-- The labels of a program's paragraphs are words of the program, and different where no name of its
-- procedures stands twice.
use Rattle.std.proofs.Common.{◌≡◌, ℕ, zero, suc, true, false, List, [], ◌∷◌, ◌++◌, Option, Some, None, refl, ap, sym, subst}
use Rattle.std.specs.List.{list_any}
use Rattle.std.specs.Option.{option_to_list}
use Rattle.std.specs.Str.{bytes_eq}
use Rattle.std.proofs.lemmas.Bool.{both_ways, or_left, or_right}
use Rattle.cob_tree.specs.declared.program.Paragraph.{Paragraph}
use Rattle.cob_tree.specs.declared.program.Program.{Program}
use Rattle.grammar_laws.specs.form_results.Giving.{Each}
use Rattle.out_names.specs.Naming.{either, paragraph_label}
use Rattle.out_names.specs.Words.{file_names, entry_names, paragraph_names, program_words, table_of}
use Rattle.round_trip.specs.printable.Whole.{IfNamed, IsPrintableParagraph}
use Rattle.round_trip.specs.printable.printable_tokens.Header.{IsHeaderName}
use Rattle.round_trip.proofs.declarations_lemmas.fresh_items_lemmas.Program.{any-right, same-word, all-come}
use Rattle.round_trip.specs.procedures.Names.{own_name, header_names, AreDifferent, IsTitle, IfTitle, AreTitled}

some-is : {A : Type 0} {x y : A} → Some x ≡ Some y → x ≡ y
some-is e = cc

here : (name : List ℕ) (more : List (List ℕ)) → list_any (bytes_eq name) (name ∷ more) ≡ true
here name more = or_left (bytes_eq name name) (list_any (bytes_eq name) more) (same-word name)

-- ---- a label is one of the names

among : (name section : Option (List ℕ)) (rest : List (List ℕ)) (label : List ℕ) → either name section ≡ Some label →
    list_any (bytes_eq label) (own_name section ++ (own_name name ++ rest)) ≡ true
among None None rest label e = absurd cc
among None (Some section) rest label e = subst (λ n. list_any (bytes_eq label) (n ∷ rest) ≡ true) (sym (some-is e)) (here label rest)
among (Some name) section rest label e =
    any-right (bytes_eq label) (own_name section) (name ∷ rest) (subst (λ n. list_any (bytes_eq label) (n ∷ rest) ≡ true) (sym (some-is e)) (here label rest))

pub label-among : (list : List Paragraph) (entry : ℕ) (label : List ℕ) → paragraph_label list entry ≡ Some label → list_any (bytes_eq label) (header_names list) ≡ true
label-among [] entry label e = absurd cc
label-among (p ∷ list) zero label e = among p.name p.section (header_names list) label e
label-among (p ∷ list) (suc entry) label e =
    any-right (bytes_eq label) (own_name p.section) (own_name p.name ++ header_names list)
    (any-right (bytes_eq label) (own_name p.name) (header_names list) (label-among list entry label e))

-- ---- and a word of the program

among-words : (name section : Option (List ℕ)) (rest : List (List ℕ)) (label : List ℕ) → either name section ≡ Some label →
    list_any (bytes_eq label) (option_to_list name ++ option_to_list section ++ rest) ≡ true
among-words None None rest label e = absurd cc
among-words None (Some section) rest label e = subst (λ n. list_any (bytes_eq label) (n ∷ rest) ≡ true) (sym (some-is e)) (here label rest)
among-words (Some name) section rest label e =
    subst (λ n. list_any (bytes_eq label) (n ∷ option_to_list section ++ rest) ≡ true) (sym (some-is e)) (here label (option_to_list section ++ rest))

label-word : (list : List Paragraph) (entry : ℕ) (label : List ℕ) → paragraph_label list entry ≡ Some label → list_any (bytes_eq label) (paragraph_names list) ≡ true
label-word [] entry label e = absurd cc
label-word (p ∷ list) zero label e = among-words p.name p.section (paragraph_names list) label e
label-word (p ∷ list) (suc entry) label e =
    any-right (bytes_eq label) (option_to_list p.name ++ option_to_list p.section) (paragraph_names list) (label-word list entry label e)

pub label-there : (program : Program) (entry : ℕ) (label : List ℕ) → paragraph_label program.paragraphs entry ≡ Some label →
    list_any (bytes_eq label) (table_of (program_words program)) ≡ true
label-there program entry label e =
    all-come [] (program_words program) label
    (or_right (bytes_eq label program.name) (list_any (bytes_eq label) (file_names program.files ++ entry_names program.entries ++ paragraph_names program.paragraphs))
    (any-right (bytes_eq label) (file_names program.files ++ entry_names program.entries) (paragraph_names program.paragraphs)
    (label-word program.paragraphs entry label e)))

-- ---- two labels

none-behind : (name section : Option (List ℕ)) (rest : List (List ℕ)) (label : List ℕ) → either name section ≡ Some label →
    AreDifferent (own_name section ++ (own_name name ++ rest)) → list_any (bytes_eq label) rest ≡ false
none-behind None None rest label e d = absurd cc
none-behind None (Some section) rest label e d = subst (λ n. list_any (bytes_eq n) rest ≡ false) (some-is e) d.0
none-behind (Some name) None rest label e d = subst (λ n. list_any (bytes_eq n) rest ≡ false) (some-is e) d.0
none-behind (Some name) (Some section) rest label e d = subst (λ n. list_any (bytes_eq n) rest ≡ false) (some-is e) d.1.0

different-behind : (name section : Option (List ℕ)) (rest : List (List ℕ)) → AreDifferent (own_name section ++ (own_name name ++ rest)) → AreDifferent rest
different-behind None None rest d = d
different-behind None (Some section) rest d = d.1
different-behind (Some name) None rest d = d.1
different-behind (Some name) (Some section) rest d = d.1.1

pub same-entry : (list : List Paragraph) → AreDifferent (header_names list) → (one other : ℕ) (label : List ℕ) →
    paragraph_label list one ≡ Some label → paragraph_label list other ≡ Some label → one ≡ other
same-entry [] d one other label e f = absurd cc
same-entry (p ∷ list) d zero zero label e f = refl
same-entry (p ∷ list) d zero (suc other) label e f =
    absurd (both_ways (list_any (bytes_eq label) (header_names list)) (none-behind p.name p.section (header_names list) label e d) (label-among list other label f))
same-entry (p ∷ list) d (suc one) zero label e f =
    absurd (both_ways (list_any (bytes_eq label) (header_names list)) (none-behind p.name p.section (header_names list) label f d) (label-among list one label e))
same-entry (p ∷ list) d (suc one) (suc other) label e f = ap suc (same-entry list (different-behind p.name p.section (header_names list) d) one other label e f)

-- ---- what a label may be

title-by : (name section : Option (List ℕ)) (label : List ℕ) → IfTitle section → IfTitle name → either name section ≡ Some label → IsTitle label
title-by None None label s n e = absurd cc
title-by None (Some section) label s n e = subst IsTitle (some-is e) s
title-by (Some name) section label s n e = subst IsTitle (some-is e) n

pub label-title : (list : List Paragraph) → AreTitled list → (entry : ℕ) (label : List ℕ) → paragraph_label list entry ≡ Some label → IsTitle label
label-title [] t entry label e = absurd cc
label-title (p ∷ list) t zero label e = title-by p.name p.section label t.0 t.1.0 e
label-title (p ∷ list) t (suc entry) label e = label-title list t.1.1 entry label e

printable-by : (name section : Option (List ℕ)) (label : List ℕ) → IfNamed section → IfNamed name → either name section ≡ Some label → IsHeaderName label
printable-by None None label s n e = absurd cc
printable-by None (Some section) label s n e = subst IsHeaderName (some-is e) s
printable-by (Some name) section label s n e = subst IsHeaderName (some-is e) n

pub label-printable : (list : List Paragraph) → Each IsPrintableParagraph list → (entry : ℕ) (label : List ℕ) → paragraph_label list entry ≡ Some label → IsHeaderName label
label-printable [] t entry label e = absurd cc
label-printable (p ∷ list) t zero label e = let first = t.0 in printable-by p.name p.section label first.section first.name e
label-printable (p ∷ list) t (suc entry) label e = label-printable list t.1 entry label e
