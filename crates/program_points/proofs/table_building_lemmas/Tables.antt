-- From what is told of all places to a table.
use Rattle.std.proofs.Common.{◌≡◌, ◌+◌, ◌<◌, ◌≤◌, ℕ, zero, suc, Bool, true, List, [], ◌∷◌, length, Option, Some, None, slice_get, refl, ap, sym, ◌∙◌, subst, inl, inr, arith}
use Rattle.cob_tree.specs.declared.program.Range.{Range}
use Rattle.cob_tree.specs.declared.file.FileEntry.{FileEntry}
use Rattle.cob_tree.specs.declared.program.Paragraph as tree_paragraph
use Rattle.cob_tree.specs.declared.program.Program as tree
use Rattle.control_flow_theory.specs.language.Language.{Chooser, Paragraph, Program}
use Rattle.control_flow_theory.specs.language.Control.{control_of, seen_paragraphs}
use Rattle.control_flow_theory.specs.language.Items.{Item}
use Rattle.control_flow_theory.specs.semantics.Items.{Way, On, Halts, Into, To, ToEnd}
use Rattle.program_points.specs.paths.Step.{Point, Next, next, next_in, next_by, way_of, is_paragraph, is_present}
use Rattle.program_points.specs.paths.Step as lang
use Rattle.program_points.specs.paths.Flow.{part}
use Rattle.program_points.specs.declared.point_table.table.ProgramPoint.{ProgramPoint}
use Rattle.program_points.specs.declared.point_table.table.ProgramPoint.TheVariants.{Goes, Chooses, Calls, Stops, Ends}
use Rattle.program_points.specs.declared.point_table.table.Table.{Table}
use Rattle.program_points.specs.point_table.Table.{Describes, IsTable, IsTidy, IsTidyPlace}
use Rattle.program_points.specs.numbering.Build.{part_of}
use Rattle.program_points.specs.numbering.Kind.{never_first_of}
use Rattle.program_points.specs.table_building.Numbering.{HasEnds, CountsTwice, Numbered, KeepsRanges, NumbersAll, BoundsEntries, Counts, HasTable}
use Rattle.program_points.proofs.table_building_lemmas.Beginning.{before-or-now}
use Rattle.program_points.proofs.table_building_lemmas.Paragraphs.{numbers-begin}
use Rattle.program_points.proofs.table_building_lemmas.Sections.{seen-length}

get-below : {A : Type 0} → (xs : List A) (index : ℕ) (x : A) → slice_get xs index ≡ Some x → index < length xs
get-below [] index x e = absurd (let k : ⊥ = cc in k)
get-below (y ∷ ys) zero x e = omega arith
get-below (y ∷ ys) (suc index) x e = (let less : index < length ys = get-below ys index x e in omega arith)

present : {A : Type 0} → (xs : List A) (index : ℕ) → index < length xs → (x : A) × (slice_get xs index ≡ Some x)
present [] index lt = absurd (omega arith)
present (x ∷ xs) zero lt = (x, refl)
present (x ∷ xs) (suc index) lt = present xs index (omega arith)

is-paragraph : (program : Program) (number : ℕ) → number < length program.paragraphs → is_paragraph program number ≡ true
is-paragraph program number lt = ap is_present (present program.paragraphs number lt).1

present-is : (found : Option Paragraph) → is_present found ≡ true → (paragraph : Paragraph) × (found ≡ Some paragraph)
present-is None e = absurd (let k : ⊥ = cc in k)
present-is (Some paragraph) e = (paragraph, refl)

paragraph-below : (program : Program) (number : ℕ) → is_paragraph program number ≡ true → number < length program.paragraphs
paragraph-below program number e = (let found = present-is (slice_get program.paragraphs number) e in get-below program.paragraphs number found.0 found.1)

-- a place of the builder is one of the table
same-place : (table : Table) (points : ℕ → Point) (place : ProgramPoint) (now : Next) → Describes (part_of table.places table.ranges) points place now → Describes table points place now
same-place table points (Goes to) now d = d
same-place table points (Chooses ways) now d = d
same-place table points (Calls range after) now d = d
same-place table points Stops now d = d
same-place table points (Ends paragraph) now d = d

ends-by : (never_first : Chooser → Bool) (program : Program) (number : ℕ) (item : Item) (rest : List Item) (way : Way (Unit {0})) (paragraph : ℕ) → next_by never_first program number item rest way ≡ lang.Ends paragraph → ⊥
ends-by never_first program number item rest (On trace nothing items) paragraph e = (let k : ⊥ = cc in k)
ends-by never_first program number item rest (Halts trace how nothing) paragraph e = (let k : ⊥ = cc in k)
ends-by never_first program number item rest (Into entry exit items) paragraph e = (let k : ⊥ = cc in k)
ends-by never_first program number item rest (To trace nothing to) paragraph e = (let k : ⊥ = cc in k)
ends-by never_first program number item rest (ToEnd trace nothing to) paragraph e = (let k : ⊥ = cc in k)

ends-in : (never_first : Chooser → Bool) (program : Program) (number : ℕ) (rest : List Item) (paragraph : ℕ) → next_in never_first program number rest ≡ lang.Ends paragraph → paragraph ≡ number
ends-in never_first program number [] paragraph e = (let k : paragraph ≡ number = cc in k)
ends-in never_first program number (item ∷ rest) paragraph e = absurd (ends-by never_first program number item rest (way_of 0 item rest) paragraph e)

-- control is at the end of the paragraph in which it stands
ends-here : (never_first : Chooser → Bool) (program : Program) (point : Point) (paragraph : ℕ) → next never_first program point ≡ lang.Ends paragraph → paragraph ≡ point.paragraph
ends-here never_first program point paragraph e = ends-in never_first program point.paragraph point.rest paragraph e

module _ (never_first : Chooser → Bool) (program : Program) (count : ℕ) (table : Table) (size : count ≡ length program.paragraphs) (starts : Counts count table.starts) where
  -- what stands at a number of the starts is that number
  start-is : (paragraph place : ℕ) → slice_get table.starts paragraph ≡ Some place → (paragraph < count) × (place ≡ paragraph)
  start-is paragraph place e =
      let lt : paragraph < count = omega (arith, get-below table.starts paragraph place e, starts.size) in
      let both : Some place ≡ Some paragraph = sym e ∙ starts.each paragraph lt in
      (lt, let k : place ≡ paragraph = cc in k)

  table-is : (numbered : Numbered never_first program count table.places table.ranges table.owners 0) → BoundsEntries count table.ranges → IsTable never_first program table numbered.0
  table-is numbered entries =
      let points = numbered.0 in
      let is = numbered.1 in
      record {
        starts = λ paragraph place e.
            let s = start-is paragraph place e in (
              ap points s.1 ∙ is.paragraphs.starts paragraph s.0,
              omega (arith, is.paragraphs.room, s.0, s.1),
              is-paragraph program paragraph (omega (arith, s.0, size)),
            );
        started = λ paragraph e. (paragraph, starts.each paragraph (omega (arith, paragraph-below program paragraph e, size)));
        places = λ number place e.
            let d = is.told number (omega arith) (get-below table.places number place e) in
            let both : Some d.0 ≡ Some place = sym d.1 ∙ e in
            let k : d.0 ≡ place = cc in
            same-place table points place (next never_first program (points number)) (subst (λ (p : ProgramPoint). Describes (part_of table.places table.ranges) points p (next never_first program (points number))) k d.2);
        owned = λ number place e. (is.owned number (get-below table.places number place e)).0;
        entries = λ number range e. is-paragraph program range.entry (omega (arith, entries number range e, size));
      }

  pub has-table : Numbered never_first program count table.places table.ranges table.owners 0 → BoundsEntries count table.ranges → HasTable never_first program table
  has-table numbered entries = (numbered.0, table-is numbered entries)

  tidy-place : (points : ℕ → Point) (place : ProgramPoint) (point : Point) → point.paragraph < count → Describes table points place (next never_first program point) → IsTidyPlace table place
  tidy-place points (Goes to) point less d = d.1
  tidy-place points (Chooses ways) point less d = d.1
  tidy-place points (Calls range after) point less d = (get-below table.ranges range (part d.0 d.1) d.3, d.4)
  tidy-place points Stops point less d = tt
  tidy-place points (Ends paragraph) point less d = omega (arith, ends-here never_first program point paragraph d, less, starts.size)

  pub is-tidy : length table.owners ≡ length table.places → (numbered : Numbered never_first program count table.places table.ranges table.owners 0) → BoundsEntries count table.ranges → IsTidy table
  is-tidy long numbered entries =
      let has = table-is numbered entries in
      let points = numbered.0 in
      let is = numbered.1 in
      record {
        places = λ number place e. tidy-place points place (points number) (is.owned number (get-below table.places number place e)).1 (has.places number place e);
        starts = λ paragraph place e. (has.starts paragraph place e).1;
        size = long;
        owners = λ number owner e.
            let o = is.owned number (omega (arith, get-below table.owners number owner e, long)) in
            let both : Some owner ≡ Some (points number).paragraph = sym e ∙ o.0 in
            let same : owner ≡ (points number).paragraph = cc in
            omega (arith, same, o.1, starts.size);
      }

-- ranges that keep their numbers, of which there are as many, are the same
pub same-ranges : (old new : List Range) → length new ≡ length old → ((number : ℕ) (range : Range) → slice_get old number ≡ Some range → slice_get new number ≡ Some range) → new ≡ old
same-ranges [] [] size kept = refl
same-ranges [] (r ∷ new) size kept = absurd (omega (arith, size))
same-ranges (r ∷ old) [] size kept = absurd (omega (arith, size))
same-ranges (r ∷ old) (s ∷ new) size kept =
    let head : Some s ≡ Some r = kept 0 r refl in
    let first : s ≡ r = cc in
    let rest : new ≡ old = same-ranges old new (omega (arith, size)) (λ number range e. kept (suc number) range e) in
    ap (λ (x : Range). x ∷ new) first ∙ ap (λ (xs : List Range). r ∷ xs) rest

-- the entries of the first so many ranges
abbrev pub BoundsFirst : ℕ → ℕ → List Range → Type 0
BoundsFirst count most ranges = (number : ℕ) (range : Range) → number < most → slice_get ranges number ≡ Some range → range.entry < count

pub bounds-none : (count : ℕ) (ranges : List Range) → BoundsFirst count 0 ranges
bounds-none count ranges = λ number range lt e. absurd (omega (arith, lt))

pub bounds-more : (count index : ℕ) (ranges : List Range) (range : Range) → slice_get ranges index ≡ Some range → range.entry < count → BoundsFirst count index ranges → BoundsFirst count (index + 1) ranges
bounds-more count index ranges range here lt bounds = λ number other less e. elim (before-or-now number index less) [
  | inl earlier ↦ bounds number other earlier e
  | inr now ↦
      let both : Some other ≡ Some range = sym e ∙ ap (λ (n : ℕ). slice_get ranges n) now ∙ here in
      let same : other ≡ range = cc in
      omega (arith, ap (λ (r : Range). r.entry) same, lt)
]

pub bounds-all : (count most : ℕ) (ranges : List Range) → length ranges ≤ most → BoundsFirst count most ranges → BoundsEntries count ranges
bounds-all count most ranges le bounds = λ number range e. (let less : number < length ranges = get-below ranges number range e in bounds number range (omega (arith, le, less)) e)

-- the whole, from the places with which numbering begins, by the lists as they are lent
module _ (program : tree.Program) (files : List FileEntry) (paragraphs : List tree_paragraph.Paragraph) (count n0 n1 : ℕ) (old new : List ProgramPoint) (r0 r1 : List Range) (o0 o1 : List ℕ) (table : Table) (files_are : files ≡ program.files) (paragraphs_are : paragraphs ≡ program.paragraphs) (size : count ≡ length program.paragraphs)
    (first : n0 ≡ count) (second : n1 ≡ n0) (ends : HasEnds count old) (twice : CountsTwice count o0) (builds : NumbersAll (never_first_of files) (seen_paragraphs 0 paragraphs) n0 old new r0 r1 o0 o1) (places_are : table.places ≡ new) (owners_are : table.owners ≡ o1) (ranges_are : table.ranges ≡ r1) (starts : Counts n1 table.starts) where
  abbrev never : Chooser → Bool
  never = never_first_of program.files

  whole-builds : Numbered never (control_of program) count new r1 o1 0 × KeepsRanges r0 r1
  whole-builds =
      let one = subst (λ (fs : List FileEntry). NumbersAll (never_first_of fs) (seen_paragraphs 0 paragraphs) n0 old new r0 r1 o0 o1) files_are builds in
      let two = subst (λ (ps : List tree_paragraph.Paragraph). NumbersAll never (seen_paragraphs 0 ps) n0 old new r0 r1 o0 o1) paragraphs_are one in
      let all = subst (λ (n : ℕ). NumbersAll never (seen_paragraphs 0 program.paragraphs) n old new r0 r1 o0 o1) first two in
      all (control_of program) refl (numbers-begin never (control_of program) count old r0 o0 ends twice)

  whole-numbered : Numbered never (control_of program) count table.places table.ranges table.owners 0
  whole-numbered =
      subst (λ (ps : List ProgramPoint). Numbered never (control_of program) count ps table.ranges table.owners 0) (sym places_are)
      (subst (λ (rs : List Range). Numbered never (control_of program) count new rs table.owners 0) (sym ranges_are)
      (subst (λ (os : List ℕ). Numbered never (control_of program) count new r1 os 0) (sym owners_are) whole-builds.0))

  whole-size : count ≡ length (control_of program).paragraphs
  whole-size = size ∙ sym (seen-length 0 program.paragraphs)

  whole-starts : Counts count table.starts
  whole-starts = subst (λ (n : ℕ). Counts n table.starts) (second ∙ first) starts

  whole-entries : BoundsEntries n1 table.ranges → BoundsEntries count table.ranges
  whole-entries entries = subst (λ (n : ℕ). BoundsEntries n table.ranges) (second ∙ first) entries

  pub whole-table : BoundsEntries n1 table.ranges → HasTable never (control_of program) table
  whole-table entries = has-table never (control_of program) count table whole-size whole-starts whole-numbered (whole-entries entries)

  pub whole-tidy : BoundsEntries n1 table.ranges → length o1 ≡ length new → IsTidy table
  whole-tidy entries long = is-tidy never (control_of program) count table whole-size whole-starts (ap (λ (os : List ℕ). length os) owners_are ∙ long ∙ sym (ap (λ (ps : List ProgramPoint). length ps) places_are)) whole-numbered (whole-entries entries)

  pub whole-ranges : (given : List Range) → r0 ≡ given → length r1 ≡ length given → table.ranges ≡ given
  whole-ranges given is long = ranges_are ∙ same-ranges given r1 long (subst (λ (rs : List Range). KeepsRanges rs r1) is whole-builds.1)

  pub whole-counts : Counts (length program.paragraphs) table.starts
  whole-counts = subst (λ (n : ℕ). Counts n table.starts) (second ∙ first ∙ size) starts
