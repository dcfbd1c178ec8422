-- The table that paragraphs tell, as the list of their headers.
use Rattle.std.proofs.Common.{◌≡◌, ℕ, suc, ◌+◌, Bool, true, false, if◌then◌else◌, ◌⊎◌, inl, inr, List, [], ◌∷◌, ◌++◌, length, Option, Some, None, refl, ap, sym, ◌∙◌, subst, append_assoc, append-nil, arith}
use Rattle.std.specs.List.{list_any}
use Rattle.std.specs.Str.{bytes_eq}
use Rattle.std.proofs.lemmas.Bool.{ne_eqb}
use Rattle.std.proofs.lemmas.List.{length-append, map-append}
use Rattle.cob_tree.specs.declared.program.Paragraph.{Paragraph}
use Rattle.cob_tree.specs.declared.program.Program.{Program}
use Rattle.cob_tree.specs.declared.program.Sentence.{Sentence}
use Rattle.cobol_print.specs.Unit.{all_tokens}
use Rattle.program_facts.specs.well_scoped.Part.{is_filled}
use Rattle.cobol_print.specs.units.Division.{paragraph_units}
use Rattle.symbol_tables.specs.declared.procedure_names.scan.Awaited.{Awaited}
use Rattle.symbol_tables.specs.declared.procedure_names.scan.Awaited.TheVariants as awaited
use Rattle.symbol_tables.specs.declared.procedure_names.scan.Scan.{Scan}
use Rattle.symbol_tables.specs.declared.procedure_names.table.Header.{Header}
use Rattle.symbol_tables.specs.declared.procedure_names.table.ProcedureTable.{ProcedureTable}
use Rattle.symbol_tables.specs.procedure_names.Procedures as procedures
use Rattle.symbol_tables.specs.procedure_names.Procedures.{with_empty, with_name, at_least_one, closed}
use Rattle.round_trip.specs.spelling.stmt_spelling.Division.{is_bare_by}
use Rattle.round_trip.specs.procedures.Names.{own_name, header_names, AreDifferent}
use Rattle.round_trip.specs.procedures.Outline.{MayFollow, is_bare, AreHeaded, MayBegin, AreOutlined, HasProcedures}
use Rattle.round_trip.specs.procedures.Told.{behind_section, sentences_told, paragraph_told, paragraphs_told, own_procedures}
use Rattle.round_trip.proofs.procedures_lemmas.Finding.{Head, name_of, header_in, names_in, headers_in, with-new, new-name}

-- ---- the headers in their order

abbrev pub section_heads : Option (List ℕ) → (first index section : ℕ) → List Head
section_heads None first index section = []
section_heads (Some name) first index section = (name, record { first = first; section = Some section; index = index }) ∷ []

abbrev pub name_heads : Option (List ℕ) → (first index : ℕ) → List Head
name_heads None first index = []
name_heads (Some name) first index = (name, record { first = first; section = None; index = index }) ∷ []

-- those of one paragraph
abbrev pub heads_of : (name section : Option (List ℕ)) → (first index sections : ℕ) → List Head
heads_of name section first index sections = section_heads section first index sections ++ name_heads name first (behind_section section index)

abbrev pub starts_of : Option (List ℕ) → (first : ℕ) → List ℕ
starts_of None first = []
starts_of (Some section) first = first ∷ []

abbrev pub starts : List Paragraph → (first : ℕ) → List ℕ
starts [] first = []
starts (paragraph ∷ paragraphs) first = starts_of paragraph.section first ++ starts paragraphs (first + 1)

abbrev pub units_count : Program → Paragraph → ℕ
units_count program paragraph = length (all_tokens (paragraph_units program paragraph))

abbrev pub heads : Program → List Paragraph → (first index sections : ℕ) → List Head
heads program [] first index sections = []
heads program (paragraph ∷ paragraphs) first index sections =
    heads_of paragraph.name paragraph.section first index sections
    ++ heads program paragraphs (first + 1) (index + units_count program paragraph) (sections + length (starts_of paragraph.section first))

abbrev pub table_of : List Head → (starts : List ℕ) → (count : ℕ) → ProcedureTable
table_of list starts count = record { names = names_in list; headers = headers_in list; starts = starts; count = count }

-- ---- one more header

one-more : (front : List Head) (starts : List ℕ) (count : ℕ) (name : List ℕ) (header : Header) → list_any (bytes_eq name) (names_in front) ≡ false →
    with_name name header (table_of front starts count) ≡ table_of (front ++ (name, header) ∷ []) starts count
one-more front starts count name header new =
    with-new name header (table_of front starts count) new
    ∙ (ap (λ list. record { names = list; headers = headers_in front ++ header ∷ []; starts = starts; count = count }) (sym (map-append name_of front ((name, header) ∷ [])))
    ∙ ap (λ list. record { names = names_in (front ++ (name, header) ∷ []); headers = list; starts = starts; count = count }) (sym (map-append header_in front ((name, header) ∷ []))))

-- where these headers, sections and paragraphs are found
record Stands (bare : Bool) (front : List Head) (sections : List ℕ) (number : ℕ) (scan : Scan) : Type 0 where
  count : ℕ
  wait : Awaited
  found : scan ≡ record { found = table_of front sections count; awaited = wait }
  whole : with_empty wait count ≡ number
  settled : bare ≡ false → count ≡ number

section-told : (bare : Bool) (front : List Head) (sections : List ℕ) (number : ℕ) (scan : Scan) → Stands bare front sections number scan → (name : List ℕ) → list_any (bytes_eq name) (names_in front) ≡ false → (index : ℕ) →
    procedures.section_headed name index scan
    ≡ record { found = table_of (front ++ (name, record { first = number; section = Some (length sections); index = index }) ∷ []) (sections ++ number ∷ []) number; awaited = awaited.Section }
section-told bare front sections number scan S name new index =
    ap (λ s. procedures.section_headed name index s) S.found
    ∙ (ap (λ w. record { found = with_name name (record { first = w; section = Some (length sections); index = index }) (table_of front (sections ++ w ∷ []) w); awaited = awaited.Section }) S.whole
    ∙ ap (λ t. record { found = t; awaited = awaited.Section }) (one-more front (sections ++ number ∷ []) number name (record { first = number; section = Some (length sections); index = index }) new))

name-told : (front : List Head) (sections : List ℕ) (count number : ℕ) (wait : Awaited) → count ≡ number → (name : List ℕ) → list_any (bytes_eq name) (names_in front) ≡ false → (index : ℕ) →
    procedures.paragraph_headed name index (record { found = table_of front sections count; awaited = wait })
    ≡ record { found = table_of (front ++ (name, record { first = number; section = None; index = index }) ∷ []) sections (number + 1); awaited = awaited.Nothing }
name-told front sections count number wait same name new index =
    ap (λ c. record { found = with_name name (record { first = c; section = None; index = index }) (table_of front sections (c + 1)); awaited = awaited.Nothing }) same
    ∙ ap (λ t. record { found = t; awaited = awaited.Nothing }) (one-more front sections (number + 1) name (record { first = number; section = None; index = index }) new)

-- ---- one paragraph

named-settled : (list : List Sentence) (table : ProcedureTable) → sentences_told list (record { found = table; awaited = awaited.Nothing }) ≡ record { found = table; awaited = awaited.Nothing }
named-settled [] table = refl
named-settled (s ∷ list) table = refl

-- behind the header of a section
section-sentences : (list : List Sentence) (front : List Head) (sections : List ℕ) (number : ℕ) (name : List ℕ) (scan : Scan) → scan ≡ record { found = table_of front sections number; awaited = awaited.Section } →
    Stands (is_bare_by None (Some name) list) front sections (number + 1) (sentences_told list scan)
section-sentences [] front sections number name scan e = record { count = number; wait = awaited.Section; found = e; whole = refl; settled = λ h. absurd cc }
section-sentences (s ∷ list) front sections number name scan e =
    record { count = number + 1; wait = awaited.Nothing; found = ap (λ n. procedures.unheaded false n) e; whole = refl; settled = λ h. refl }

behind-name : (bare : Bool) (list : List Sentence) (front : List Head) (sections : List ℕ) (number : ℕ) (scan : Scan) → scan ≡ record { found = table_of front sections (number + 1); awaited = awaited.Nothing } →
    Stands bare front sections (number + 1) (sentences_told list scan)
behind-name bare list front sections number scan e =
    record { count = number + 1; wait = awaited.Nothing; found = ap (λ s. sentences_told list s) e ∙ named-settled list (table_of front sections (number + 1)); whole = refl; settled = λ h. refl }

-- a name behind that of its section
second-new : (front : List Head) (name other : List ℕ) (header : Header) (more : List (List ℕ)) → AreDifferent (names_in front ++ name ∷ other ∷ more) → list_any (bytes_eq other) (names_in (front ++ (name, header) ∷ [])) ≡ false
second-new front name other header more d =
    ap (list_any (bytes_eq other)) (map-append name_of front ((name, header) ∷ []))
    ∙ new-name (names_in front ++ name ∷ []) other more (subst AreDifferent (sym (append_assoc (names_in front) (name ∷ []) (other ∷ more))) d)

headed-stands : (bare : Bool) (name section : Option (List ℕ)) (list : List Sentence) → MayFollow bare name section → (front : List Head) (sections : List ℕ) (number index : ℕ) (scan : Scan) → Stands bare front sections number scan →
    (more : List (List ℕ)) → AreDifferent (names_in front ++ (own_name section ++ (own_name name ++ more))) →
    Stands (is_bare_by name section list) (front ++ heads_of name section number index (length sections)) (sections ++ starts_of section number) (number + 1) (paragraph_told name section list index scan)
headed-stands bare None None list f front sections number index scan S more d = absurd f
headed-stands bare (Some name) None list f front sections number index scan S more d =
    let same : scan ≡ record { found = table_of front sections S.count; awaited = S.wait } = S.found in
    let header : Header = record { first = number; section = None; index = index } in
    let named = name-told front sections S.count number S.wait (S.settled f) name (new-name (names_in front) name more d) index in
    subst (λ l. Stands false (front ++ (name, header) ∷ []) l (number + 1) (paragraph_told (Some name) None list index scan)) (sym (append-nil sections))
    (behind-name false list (front ++ (name, header) ∷ []) sections number (procedures.paragraph_headed name index scan) (ap (λ s. procedures.paragraph_headed name index s) same ∙ named))
headed-stands bare None (Some section) list f front sections number index scan S more d =
    section-sentences list (front ++ (section, record { first = number; section = Some (length sections); index = index }) ∷ []) (sections ++ number ∷ []) number section (procedures.section_headed section index scan)
    (section-told bare front sections number scan S section (new-name (names_in front) section more d) index)
headed-stands bare (Some name) (Some section) list f front sections number index scan S more d =
    let first : Head = (section, record { first = number; section = Some (length sections); index = index }) in
    let second : Head = (name, record { first = number; section = None; index = index + 3 }) in
    let opened = section-told bare front sections number scan S section (new-name (names_in front) section (name ∷ more) d) index in
    let named = name-told (front ++ first ∷ []) (sections ++ number ∷ []) number number awaited.Section refl name (second-new front section name (header_in first) more d) (index + 3) in
    subst (λ l. Stands false l (sections ++ number ∷ []) (number + 1) (paragraph_told (Some name) (Some section) list index scan)) (append_assoc front (first ∷ []) (second ∷ []))
    (behind-name false list ((front ++ first ∷ []) ++ second ∷ []) (sections ++ number ∷ []) number (procedures.paragraph_headed name (index + 3) (procedures.section_headed section index scan))
    (ap (λ s. procedures.paragraph_headed name (index + 3) s) opened ∙ named))

-- ---- all of them

pub names-of-heads : (name section : Option (List ℕ)) (first index sections : ℕ) → names_in (heads_of name section first index sections) ≡ own_name section ++ own_name name
names-of-heads None None first index sections = refl
names-of-heads (Some name) None first index sections = refl
names-of-heads None (Some section) first index sections = refl
names-of-heads (Some name) (Some section) first index sections = refl

pub names-are-own : (program : Program) (list : List Paragraph) (first index sections : ℕ) → names_in (heads program list first index sections) ≡ header_names list
names-are-own program [] first index sections = refl
names-are-own program (p ∷ list) first index sections =
    let more = heads program list (first + 1) (index + units_count program p) (sections + length (starts_of p.section first)) in
    map-append name_of (heads_of p.name p.section first index sections) more
    ∙ (ap (λ l. l ++ names_in more) (names-of-heads p.name p.section first index sections)
    ∙ (ap (λ l. (own_name p.section ++ own_name p.name) ++ l) (names-are-own program list (first + 1) (index + units_count program p) (sections + length (starts_of p.section first)))
    ∙ append_assoc (own_name p.section) (own_name p.name) (header_names list)))

-- the same names, those of the first paragraph in front
moved : (front : List Head) (p : Paragraph) (list : List Paragraph) (first index sections : ℕ) → AreDifferent (names_in front ++ header_names (p ∷ list)) →
    AreDifferent (names_in (front ++ heads_of p.name p.section first index sections) ++ header_names list)
moved front p list first index sections d =
    let here = heads_of p.name p.section first index sections in
    let same : names_in front ++ header_names (p ∷ list) ≡ names_in (front ++ here) ++ header_names list =
    ap (λ l. names_in front ++ l) (sym (append_assoc (own_name p.section) (own_name p.name) (header_names list)) ∙ ap (λ l. l ++ header_names list) (sym (names-of-heads p.name p.section first index sections)))
    ∙ (sym (append_assoc (names_in front) (names_in here) (header_names list)) ∙ ap (λ l. l ++ header_names list) (sym (map-append name_of front here))) in
    subst AreDifferent same d

-- where so many paragraphs stand, whatever follows them
abbrev Stand : List Head → List ℕ → ℕ → Scan → Type 0
Stand front sections number scan = (bare : Bool) × Stands bare front sections number scan

as-stand : (f g : List Head) (s u : List ℕ) (m n : ℕ) (scan : Scan) → f ≡ g → s ≡ u → m ≡ n → Stand f s m scan → Stand g u n scan
as-stand f g s u m n scan e i k S = subst (λ x. Stand x u n scan) e (subst (λ x. Stand f x n scan) i (subst (λ x. Stand f s x scan) k S))

all-stand : (program : Program) (list : List Paragraph) (bare : Bool) → AreHeaded bare list → (front : List Head) (sections : List ℕ) (number index : ℕ) (scan : Scan) → Stands bare front sections number scan →
    AreDifferent (names_in front ++ header_names list) →
    Stand (front ++ heads program list number index (length sections)) (sections ++ starts list number) (number + length list) (paragraphs_told program list index scan)
all-stand program [] bare a front sections number index scan S d =
    let none : number ≡ number + 0 = omega arith in
    as-stand front (front ++ []) sections (sections ++ []) number (number + 0) scan (sym (append-nil front)) (sym (append-nil sections)) none (bare, S)
all-stand program (p ∷ list) bare a front sections number index scan S d =
    let here = heads_of p.name p.section number index (length sections) in
    let began = starts_of p.section number in
    let i = index + units_count program p in
    let T = headed-stands bare p.name p.section p.sentences a.0 front sections number index scan S (header_names list) d in
    let more = all-stand program list (is_bare p) a.1 (front ++ here) (sections ++ began) (number + 1) i (paragraph_told p.name p.section p.sentences index scan) T (moved front p list number index (length sections) d) in
    let count : (number + 1) + length list ≡ number + length (p ∷ list) = omega arith in
    let found : (front ++ here) ++ heads program list (number + 1) i (length (sections ++ began)) ≡ front ++ (here ++ heads program list (number + 1) i (length sections + length began)) =
    ap (λ k. (front ++ here) ++ heads program list (number + 1) i k) (length-append sections began) ∙ append_assoc front here (heads program list (number + 1) i (length sections + length began)) in
    as-stand _ _ _ _ _ _ (paragraphs_told program list i (paragraph_told p.name p.section p.sentences index scan)) found (append_assoc sections began (starts list (number + 1))) count more

start-stands : Stands false [] [] 0 procedures.start
start-stands = record { count = 0; wait = awaited.Division; found = refl; whole = refl; settled = λ h. refl }

some-one : (n : ℕ) → at_least_one (suc n) ≡ suc n
some-one n = ap (λ (b : Bool). if b then 1 else suc n) (ne_eqb (suc n) 0 (λ e. absurd cc))

-- the table of a list that isn't empty
closed-is : (front : List Head) (sections : List ℕ) (n number : ℕ) (scan : Scan) → number ≡ suc n → Stand front sections number scan → closed scan ≡ table_of front sections number
closed-is front sections n number scan some S =
    let T = S.1 in
    ap (λ s. closed s) T.found ∙ (ap (λ c. record { names = names_in front; headers = headers_in front; starts = sections; count = at_least_one c }) T.whole
    ∙ ap (λ c. record { names = names_in front; headers = headers_in front; starts = sections; count = c }) (ap at_least_one some ∙ (some-one n ∙ sym some)))

-- sentences before the first name
unnamed-stands : (list : List Sentence) → is_filled list ≡ true → Stands false [] [] 1 (sentences_told list procedures.start)
unnamed-stands [] f = absurd cc
unnamed-stands (s ∷ list) f = record { count = 1; wait = awaited.Nothing; found = refl; whole = refl; settled = λ h. refl }

module _ (program : Program) where
  abbrev pub Own : List Paragraph → ℕ → ProcedureTable → Type 0
  Own list taken table = table ≡ table_of (heads program list 0 taken 0) (starts list 0) (length list)

  headed-own : (p : Paragraph) (list : List Paragraph) (taken : ℕ) → AreHeaded false (p ∷ list) → AreDifferent (header_names (p ∷ list)) → Own (p ∷ list) taken (closed (paragraphs_told program (p ∷ list) taken procedures.start))
  headed-own p list taken a d =
      let count : 0 + length (p ∷ list) ≡ length (p ∷ list) = omega arith in
      let some : length (p ∷ list) ≡ suc (length list) = omega arith in
      closed-is (heads program (p ∷ list) 0 taken 0) (starts (p ∷ list) 0) (length list) (length (p ∷ list)) (paragraphs_told program (p ∷ list) taken procedures.start) some
      (as-stand _ _ _ _ _ _ (paragraphs_told program (p ∷ list) taken procedures.start) refl refl count (all-stand program (p ∷ list) false a [] [] 0 taken procedures.start start-stands d))

  abbrev unnamed : List Sentence → Paragraph
  unnamed sentences = record { name = None; section = None; sentences = sentences }

  -- a first paragraph without name and section
  filled-own : (sentences : List Sentence) (list : List Paragraph) (taken : ℕ) → is_filled sentences ≡ true → AreHeaded false list → AreDifferent (header_names list) →
      Own (unnamed sentences ∷ list) taken (closed (paragraphs_told program (unnamed sentences ∷ list) taken procedures.start))
  filled-own sentences list taken f a d =
      let i = taken + units_count program (unnamed sentences) in
      let some : 1 + length list ≡ suc (length list) = omega arith in
      let count : 1 + length list ≡ length (unnamed sentences ∷ list) = omega arith in
      closed-is (heads program list 1 i 0) (starts list 1) (length list) (1 + length list) (paragraphs_told program list i (sentences_told sentences procedures.start)) some
      (all-stand program list false a [] [] 1 i (sentences_told sentences procedures.start) (unnamed-stands sentences f) d)
      ∙ ap (λ n. table_of (heads program list 1 i 0) (starts list 1) n) count

  unnamed-own : (sentences : List Sentence) (list : List Paragraph) (taken : ℕ) → (is_filled sentences ≡ true) ⊎ (list ≡ []) → AreHeaded false list → AreDifferent (header_names list) →
      Own (unnamed sentences ∷ list) taken (closed (paragraphs_told program (unnamed sentences ∷ list) taken procedures.start))
  unnamed-own sentences list taken (inl f) a d = filled-own sentences list taken f a d
  unnamed-own [] list taken (inr none) a d = subst (λ l. Own (unnamed [] ∷ l) taken (closed (paragraphs_told program (unnamed [] ∷ l) taken procedures.start))) (sym none) refl
  unnamed-own (s ∷ sentences) list taken (inr none) a d = filled-own (s ∷ sentences) list taken refl a d

  first-own : (name section : Option (List ℕ)) (sentences : List Sentence) (list : List Paragraph) (taken : ℕ) → MayBegin name section (record { name = name; section = section; sentences = sentences }) list →
      AreDifferent (header_names (record { name = name; section = section; sentences = sentences } ∷ list)) →
      Own (record { name = name; section = section; sentences = sentences } ∷ list) taken (closed (paragraphs_told program (record { name = name; section = section; sentences = sentences } ∷ list) taken procedures.start))
  first-own None None sentences list taken f d = unnamed-own sentences list taken f.0 f.1 d
  first-own (Some name) None sentences list taken f d = headed-own (record { name = Some name; section = None; sentences = sentences }) list taken f d
  first-own None (Some section) sentences list taken f d = headed-own (record { name = None; section = Some section; sentences = sentences }) list taken f d
  first-own (Some name) (Some section) sentences list taken f d = headed-own (record { name = Some name; section = Some section; sentences = sentences }) list taken f d

  all-own : (list : List Paragraph) (taken : ℕ) → AreOutlined list → AreDifferent (header_names list) → Own list taken (closed (paragraphs_told program list taken procedures.start))
  all-own [] taken o d = absurd o
  all-own (p ∷ list) taken o d = first-own p.name p.section p.sentences list taken o d

  pub own-told : (taken : ℕ) → HasProcedures program → Own program.paragraphs taken (own_procedures program taken)
  own-told taken H = all-own program.paragraphs taken H.outlined H.different
