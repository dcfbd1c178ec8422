-- What paragraphs tell but for the places of headers.
use Rattle.std.proofs.Common.{◌≡◌, ℕ, ◌+◌, false, if◌then◌else◌, List, [], ◌∷◌, ◌++◌, length, Option, Some, None, option_map, refl, ap, sym, ◌∙◌}
use Rattle.std.specs.Prelude.{position}
use Rattle.std.specs.Str.{bytes_eq}
use Rattle.std.proofs.lemmas.List.{map-append}
use Rattle.std.proofs.lemmas.Option.{slice_get-map}
use Rattle.cob_tree.specs.declared.program.Paragraph.{Paragraph}
use Rattle.cob_tree.specs.declared.program.Program.{Program}
use Rattle.cob_tree.specs.declared.program.Sentence.{Sentence}
use Rattle.symbol_tables.specs.declared.procedure_names.scan.Awaited.{Awaited}
use Rattle.symbol_tables.specs.declared.procedure_names.scan.Awaited.TheVariants as awaited
use Rattle.symbol_tables.specs.declared.procedure_names.scan.Scan.{Scan}
use Rattle.symbol_tables.specs.declared.procedure_names.table.Header.{Header}
use Rattle.symbol_tables.specs.declared.procedure_names.table.ProcedureTable.{ProcedureTable}
use Rattle.symbol_tables.specs.procedure_names.Procedures as procedures
use Rattle.symbol_tables.specs.procedure_names.Procedures.{named_by, whole_count, section_headed, paragraph_headed, unheaded, closed, header_at, header_of, range_of}
use Rattle.cobol_grammar.specs.Name.{is_capital_word, procedure_of}
use Rattle.round_trip.specs.procedures.Own.{without_index, without_indices}
use Rattle.round_trip.specs.procedures.Told.{section_told, behind_section, name_told, sentences_told, paragraph_told, paragraphs_told, own_procedures}
use Rattle.round_trip.proofs.procedures_lemmas.Heads.{units_count}

abbrev pub plain : Scan → Scan
plain scan = record { found = without_indices scan.found; awaited = scan.awaited }

-- as if each header stood in front of all tokens
abbrev pub paragraph_plain : (name section : Option (List ℕ)) → List Sentence → Scan → Scan
paragraph_plain name section sentences scan = sentences_told sentences (name_told name 0 (section_told section 0 scan))

abbrev pub paragraphs_plain : List Paragraph → Scan → Scan
paragraphs_plain [] scan = scan
paragraphs_plain (paragraph ∷ paragraphs) scan = paragraphs_plain paragraphs (paragraph_plain paragraph.name paragraph.section paragraph.sentences scan)

pub plain-append : (list more : List Paragraph) (scan : Scan) → paragraphs_plain (list ++ more) scan ≡ paragraphs_plain more (paragraphs_plain list scan)
plain-append [] more scan = refl
plain-append (p ∷ list) more scan = plain-append list more (paragraph_plain p.name p.section p.sentences scan)

-- ---- headers

named-plain : (o : Option ℕ) (name : List ℕ) (header : Header) (table : ProcedureTable) → without_indices (named_by o name header table) ≡ named_by o name (without_index header) (without_indices table)
named-plain (Some k) name header table = refl
named-plain None name header table = ap (λ list. record (named_by None name header table) { headers = list }) (map-append without_index table.headers (header ∷ []))

pub section-plain : (name : List ℕ) (index : ℕ) (scan : Scan) → plain (section_headed name index scan) ≡ section_headed name 0 (plain scan)
section-plain name index scan =
    ap (λ t. record { found = t; awaited = awaited.Section })
    (named-plain (position (bytes_eq name) scan.found.names) name (record { first = whole_count scan; section = Some (length scan.found.starts); index = index })
    (record scan.found { starts = scan.found.starts ++ whole_count scan ∷ []; count = whole_count scan }))

pub paragraph-plain : (name : List ℕ) (index : ℕ) (scan : Scan) → plain (paragraph_headed name index scan) ≡ paragraph_headed name 0 (plain scan)
paragraph-plain name index scan =
    ap (λ t. record { found = t; awaited = awaited.Nothing })
    (named-plain (position (bytes_eq name) scan.found.names) name (record { first = scan.found.count; section = None; index = index })
    (record scan.found { count = scan.found.count + 1 }))

pub unheaded-plain : (scan : Scan) → plain (unheaded false scan) ≡ unheaded false (plain scan)
unheaded-plain scan = go scan.awaited
  where
    go : (a : Awaited) → plain (record { found = procedures.with_sentences a scan.found; awaited = awaited.Nothing }) ≡ record { found = procedures.with_sentences a (without_indices scan.found); awaited = awaited.Nothing }
    go awaited.Division = refl
    go awaited.Section = refl
    go awaited.Nothing = refl

sentences-plain : (list : List Sentence) (scan : Scan) → plain (sentences_told list scan) ≡ sentences_told list (plain scan)
sentences-plain [] scan = refl
sentences-plain (s ∷ list) scan = unheaded-plain scan

name-plain : (name : Option (List ℕ)) (index : ℕ) (scan : Scan) → plain (name_told name index scan) ≡ name_told name 0 (plain scan)
name-plain None index scan = refl
name-plain (Some name) index scan = paragraph-plain name index scan

began-plain : (section : Option (List ℕ)) (index : ℕ) (scan : Scan) → plain (section_told section index scan) ≡ section_told section 0 (plain scan)
began-plain None index scan = refl
began-plain (Some section) index scan = section-plain section index scan

one-plain : (name section : Option (List ℕ)) (list : List Sentence) (index : ℕ) (scan : Scan) → plain (paragraph_told name section list index scan) ≡ paragraph_plain name section list (plain scan)
one-plain name section list index scan =
    sentences-plain list (name_told name (behind_section section index) (section_told section index scan))
    ∙ (ap (sentences_told list) (name-plain name (behind_section section index) (section_told section index scan) ∙ ap (name_told name 0) (began-plain section index scan)))

pub all-plain : (program : Program) (list : List Paragraph) (index : ℕ) (scan : Scan) → plain (paragraphs_told program list index scan) ≡ paragraphs_plain list (plain scan)
all-plain program [] index scan = refl
all-plain program (p ∷ list) index scan =
    all-plain program list (index + units_count program p) (paragraph_told p.name p.section p.sentences index scan)
    ∙ ap (paragraphs_plain list) (one-plain p.name p.section p.sentences index scan)

pub own-plain : (program : Program) (taken : ℕ) → without_indices (own_procedures program taken) ≡ closed (paragraphs_plain program.paragraphs procedures.start)
own-plain program taken = ap (λ s. closed s) (all-plain program program.paragraphs taken procedures.start)

-- behind the name of a paragraph sentences tell nothing more
pub named-settled : (list : List Sentence) (name : List ℕ) (index : ℕ) (scan : Scan) → sentences_told list (paragraph_headed name index scan) ≡ paragraph_headed name index scan
named-settled [] name index scan = refl
named-settled (s ∷ list) name index scan = refl

-- ---- what a name stands for doesn't depend on places

range-plain : (table : ProcedureTable) (o : Option Header) → range_of (without_indices table) (option_map without_index o) ≡ range_of table o
range-plain table None = refl
range-plain table (Some header) = go header.section
  where
    go : (section : Option ℕ) → range_of (without_indices table) (Some (record { first = header.first; section = section; index = 0 })) ≡ range_of table (Some (record { first = header.first; section = section; index = header.index }))
    go None = refl
    go (Some section) = refl

header-plain : (table : ProcedureTable) (o : Option ℕ) → header_at o (without_indices table) ≡ option_map without_index (header_at o table)
header-plain table None = refl
header-plain table (Some k) = slice_get-map without_index table.headers k

stands-plain : (table : ProcedureTable) (name : List ℕ) → procedure_of (without_indices table) name ≡ procedure_of table name
stands-plain table name =
    ap (λ o. if is_capital_word name then o else None)
    (ap (range_of (without_indices table)) (header-plain table (position (bytes_eq name) table.names)) ∙ range-plain table (header_of table name))

pub same-procedure : (table other : ProcedureTable) → without_indices table ≡ without_indices other → (name : List ℕ) → procedure_of table name ≡ procedure_of other name
same-procedure table other e name = sym (stands-plain table name) ∙ (ap (λ t. procedure_of t name) e ∙ stands-plain other name)
