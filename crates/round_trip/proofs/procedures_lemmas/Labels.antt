-- The labels of a program's paragraphs, by the table that these tell.
use Rattle.std.proofs.Common.{◌≡◌, ℕ, zero, suc, ◌+◌, Bool, true, false, if◌then◌else◌, ◌⊎◌, inl, inr, List, [], ◌∷◌, length, Option, Some, None, slice_get, refl, ap, sym, ◌∙◌, subst, arith, eqb-true}
use Rattle.cob_tree.specs.declared.program.Paragraph.{Paragraph}
use Rattle.cob_tree.specs.declared.program.Program.{Program}
use Rattle.unparser.specs.File.{label_tokens, label_of, paragraph_label}
use Rattle.symbol_tables.specs.declared.procedure_names.table.Header.{Header}
use Rattle.symbol_tables.specs.declared.procedure_names.table.ProcedureTable.{ProcedureTable}
use Rattle.symbol_tables.specs.procedure_names.Procedures.{header_of, range_of}
use Rattle.cobol_grammar.specs.Name.{is_capital_word, procedure_of}
use Rattle.round_trip.specs.spelling.Named.{IsLabel, IsRange}
use Rattle.round_trip.specs.procedures.Names.{AreDifferent, IsTitle, IfTitle, AreTitled}
use Rattle.round_trip.specs.procedures.Outline.{HasProcedures}
use Rattle.round_trip.specs.procedures.Own.{IfHeader, AreHeaders, AreLabelled, without_indices}
use Rattle.round_trip.specs.procedures.Told.{behind_section, own_procedures}
use Rattle.round_trip.proofs.procedures_lemmas.Finding.{among-found}
use Rattle.round_trip.proofs.procedures_lemmas.Heads.{heads, units_count, names-are-own, Own, own-told}
use Rattle.round_trip.proofs.procedures_lemmas.Plainly.{same-procedure}
use Rattle.round_trip.proofs.procedures_lemmas.Spans.{NamedAt, Rows, rows-next, Spot, spot-at, head-at, outlined-behind, name-found, section-found}

some-is : {A : Type 0} {x y : A} → Some x ≡ Some y → x ≡ y
some-is e = cc

names-at : (list : List Paragraph) → AreTitled list → (at : ℕ) (p : Paragraph) → slice_get list at ≡ Some p → IfTitle p.section × IfTitle p.name
names-at [] t at p e = absurd cc
names-at (q ∷ list) t zero p e = subst (λ (r : Paragraph). IfTitle r.section × IfTitle r.name) (some-is e) (t.0, t.1.0)
names-at (q ∷ list) t (suc at) p e = names-at list t.1.1 at p e

none-some : {A : Type 0} {C : Type 0} {x : A} → None ≡ Some x → C
none-some e = absurd cc

abbrev Span : Type 0
Span = ℕ × ℕ

both-same : {a b c d : ℕ} → ◌≡◌ {A = Option Span} (Some (a, b)) (Some (c, d)) → (a ≡ c) × (b ≡ d)
both-same e = let pair = some-is e in (ap (λ p. p.0) pair, ap (λ p. p.1) pair)

module _ (program : Program) (taken : ℕ) (H : HasProcedures program) where
  abbrev table : ProcedureTable
  table = own_procedures program taken

  own : Own program program.paragraphs taken table
  own = own-told program taken H

  different : AreDifferent table.names
  different = subst AreDifferent (sym (ap (λ t. t.names) own ∙ names-are-own program program.paragraphs 0 taken 0)) H.different

  rows : Rows program table [] [] 0 taken program.paragraphs
  rows =
      let count : length program.paragraphs ≡ 0 + length program.paragraphs = omega arith in
      record { names = ap (λ t. t.names) own; headers = ap (λ t. t.headers) own; starts = ap (λ t. t.starts) own; count = ap (λ t. t.count) own ∙ count }

  -- ---- headers

  name-header : (o : Option (List ℕ)) → IfTitle o → (index : ℕ) → ((name : List ℕ) → o ≡ Some name → (header : Header) × (header_of table name ≡ Some header) × (header.index ≡ index)) → IfHeader table o index
  name-header None t index h = tt
  name-header (Some name) t index h = let s = h name refl in record { named = t.named; header = s.0; found = s.1; index = s.2 }

  all-headers : (list : List Paragraph) → AreTitled list → (front : List _) (sections : List ℕ) (number index : ℕ) → Rows program table front sections number index list → AreHeaders table program list index
  all-headers [] t front sections number index R = tt
  all-headers (p ∷ list) t front sections number index R = (
    name-header p.section t.0 index (λ name e. (record { first = number; section = Some (length sections); index = index }, section-found program table different front sections number index p list R name e, refl)),
    (
      name-header p.name t.1.0 (behind_section p.section index)
          (λ name e. (record { first = number; section = None; index = behind_section p.section index }, name-found program table different front sections number index p list R name e, refl)),
      all-headers list t.1.1 _ _ (number + 1) (index + units_count program p) (rows-next program table different front sections number index p list R),
    ),
  )

  pub headers : AreHeaders table program program.paragraphs taken
  headers = all-headers program.paragraphs H.titled [] [] 0 taken rows

  -- ---- labels

  spot : (at : ℕ) (p : Paragraph) → slice_get program.paragraphs at ≡ Some p → Spot program table different program.paragraphs 0 at p
  spot at p e =
      let none : 0 + at ≡ at = omega arith in
      subst (λ n. Spot program table different program.paragraphs 0 n p) none (spot-at program table different program.paragraphs [] [] 0 taken rows (outlined-behind program.paragraphs H.outlined) at p e)

  -- what a name stands for, if it may head a paragraph or section
  stands-for : (name : List ℕ) → IsTitle name → (span : ℕ × ℕ) → range_of table (header_of table name) ≡ Some span → procedure_of table name ≡ Some span
  stands-for name t span e = ap (λ b. if b then range_of table (header_of table name) else None) t.capital ∙ e

  label-by : (name section : Option (List ℕ)) (at : ℕ) (p : Paragraph) → slice_get program.paragraphs at ≡ Some p → p.name ≡ name → p.section ≡ section → label_tokens program at ≡ paragraph_label name section
  label-by name section at p e n s = ap label_of e ∙ (ap (λ o. paragraph_label o p.section) n ∙ ap (paragraph_label name) s)

  name-may : (at : ℕ) (p : Paragraph) → slice_get program.paragraphs at ≡ Some p → (name : List ℕ) → p.name ≡ Some name → IsTitle name
  name-may at p e name n = subst IfTitle n (names-at program.paragraphs H.titled at p e).1

  section-may : (at : ℕ) (p : Paragraph) → slice_get program.paragraphs at ≡ Some p → (section : List ℕ) → p.section ≡ Some section → IsTitle section
  section-may at p e section s = subst IfTitle s (names-at program.paragraphs H.titled at p e).0

  name-label : (at : ℕ) (p : Paragraph) → slice_get program.paragraphs at ≡ Some p → (name : List ℕ) → p.name ≡ Some name → IsLabel table program at (at, at)
  name-label at p e name n =
      let t = name-may at p e name n in
      record { name = name; tokens = label-by (Some name) p.section at p e n refl; named = t.named; found = stands-for name t (at, at) ((spot at p e).named name n) }

  section-label : (at : ℕ) (p : Paragraph) (e : slice_get program.paragraphs at ≡ Some p) → p.name ≡ None → (section : List ℕ) → p.section ≡ Some section → IsLabel table program at (at, (spot at p e).last)
  section-label at p e n section s =
      let t = section-may at p e section s in
      record { name = section; tokens = label-by None (Some section) at p e n s; named = t.named; found = stands-for section t (at, (spot at p e).last) ((spot at p e).headed section s) }

  -- ---- what a name stands for

  record Named (first last : ℕ) : Type 0 where
    paragraph : Paragraph
    there : slice_get program.paragraphs first ≡ Some paragraph
    stands : ((name : List ℕ) × (paragraph.name ≡ Some name) × (last ≡ first)) ⊎ ((section : List ℕ) × (paragraph.section ≡ Some section) × (last ≡ (spot first paragraph there).last))

  ranged : (name : List ℕ) (span : ℕ × ℕ) → procedure_of table name ≡ Some span → range_of table (header_of table name) ≡ Some span
  ranged name span e = go (is_capital_word name) e
    where
      go : (b : Bool) → (if b then range_of table (header_of table name) else None) ≡ Some span → range_of table (header_of table name) ≡ Some span
      go true e = e
      go false e = none-some e

  named : (name : List ℕ) (first last : ℕ) → procedure_of table name ≡ Some (first, last) → Named first last
  named name first last e = by-header (header_of table name) refl (ranged name (first, last) e)
    where
      by-header : (o : Option Header) → header_of table name ≡ o → range_of table o ≡ Some (first, last) → Named first last
      by-header None is e = none-some e
      by-header (Some header) is e =
          let s = head-at program table different program.paragraphs 0 taken 0 name header (among-found table (heads program program.paragraphs 0 taken 0) name header rows.names rows.headers is) in
          let at : s.place ≡ first = (let none : s.place ≡ 0 + s.place = omega arith in none) ∙ (sym s.first ∙ (both-same e).0) in
          let there : slice_get program.paragraphs first ≡ Some s.paragraph = ap (slice_get program.paragraphs) (sym at) ∙ s.there in
          go s.paragraph there s.has
        where
          go : (p : Paragraph) (there : slice_get program.paragraphs first ≡ Some p) → (p.name ≡ Some name) ⊎ (p.section ≡ Some name) → Named first last
          go p there (inl n) = record {
            paragraph = p;
            there = there;
            stands = inl (name, n, (both-same (sym (ap (range_of table) is ∙ e) ∙ (spot first p there).named name n)).1);
          }
          go p there (inr s) = record {
            paragraph = p;
            there = there;
            stands = inr (name, s, (both-same (sym (ap (range_of table) is ∙ e) ∙ (spot first p there).headed name s)).1);
          }

  -- ---- what is read of them

  entry-by : (first : ℕ) (p : Paragraph) (e : slice_get program.paragraphs first ≡ Some p) (name : Option (List ℕ)) → p.name ≡ name →
      ((word : List ℕ) × (p.name ≡ Some word)) ⊎ ((section : List ℕ) × (p.section ≡ Some section)) → (exit : ℕ) × IsLabel table program first (first, exit)
  entry-by first p e (Some name) n has = (first, name-label first p e name n)
  entry-by first p e None n (inl h) = none-some (sym n ∙ h.1)
  entry-by first p e None n (inr h) = ((spot first p e).last, section-label first p e n h.0 h.1)

  has-one : (first last : ℕ) (N : Named first last) → ((word : List ℕ) × (N.paragraph.name ≡ Some word)) ⊎ ((section : List ℕ) × (N.paragraph.section ≡ Some section))
  has-one first last N = go N.stands
    where
      go : ((name : List ℕ) × (N.paragraph.name ≡ Some name) × (last ≡ first)) ⊎ ((section : List ℕ) × (N.paragraph.section ≡ Some section) × (last ≡ (spot first N.paragraph N.there).last)) →
          ((word : List ℕ) × (N.paragraph.name ≡ Some word)) ⊎ ((section : List ℕ) × (N.paragraph.section ≡ Some section))
      go (inl h) = inl (h.0, h.1)
      go (inr h) = inr (h.0, h.1)

  pub entry : (name : List ℕ) (first last : ℕ) → procedure_of table name ≡ Some (first, last) → (exit : ℕ) × IsLabel table program first (first, exit)
  entry name first last e = let N = named name first last e in entry-by first N.paragraph N.there N.paragraph.name refl (has-one first last N)

  -- the last paragraph has a name, or is the first one
  ends-of : (first last : ℕ) (N : Named first last) → (last ≡ first) ⊎ NamedAt program.paragraphs 0 last
  ends-of first last N = go N.stands
    where
      S : Spot program table different program.paragraphs 0 first N.paragraph
      S = spot first N.paragraph N.there

      by-last : (S.last ≡ first) ⊎ NamedAt program.paragraphs 0 S.last → last ≡ S.last → (last ≡ first) ⊎ NamedAt program.paragraphs 0 last
      by-last (inl e) is = inl (is ∙ e)
      by-last (inr k) is = inr (subst (NamedAt program.paragraphs 0) (sym is) k)

      go : ((name : List ℕ) × (N.paragraph.name ≡ Some name) × (last ≡ first)) ⊎ ((section : List ℕ) × (N.paragraph.section ≡ Some section) × (last ≡ (spot first N.paragraph N.there).last)) →
          (last ≡ first) ⊎ NamedAt program.paragraphs 0 last
      go (inl h) = inl h.2
      go (inr h) = by-last S.last_named h.2

  -- the label of the last paragraph names what ends there
  exit-label : (first last : ℕ) → Named first last → (start : ℕ) × IsLabel table program last (start, last)
  exit-label first last N = by-end (ends-of first last N)
    where
      here : (name : Option (List ℕ)) → N.paragraph.name ≡ name → last ≡ first →
          ((word : List ℕ) × (N.paragraph.name ≡ Some word) × (last ≡ first)) ⊎ ((section : List ℕ) × (N.paragraph.section ≡ Some section) × (last ≡ (spot first N.paragraph N.there).last)) →
          (start : ℕ) × IsLabel table program last (start, last)
      here (Some name) n same has = subst (λ at. (start : ℕ) × IsLabel table program at (start, at)) (sym same) (first, name-label first N.paragraph N.there name n)
      here None n same (inl h) = none-some (sym n ∙ h.1)
      here None n same (inr h) =
          (first, subst (λ at. IsLabel table program at (first, last)) (sym same) (subst (λ end. IsLabel table program first (first, end)) (sym h.2) (section-label first N.paragraph N.there n h.0 h.1)))

      by-end : (last ≡ first) ⊎ NamedAt program.paragraphs 0 last → (start : ℕ) × IsLabel table program last (start, last)
      by-end (inl same) = here N.paragraph.name refl same N.stands
      by-end (inr k) =
          let at : k.place ≡ last = (let none : k.place ≡ 0 + k.place = omega arith in none) ∙ k.number_is in
          (last, name-label last k.paragraph (ap (slice_get program.paragraphs) (sym at) ∙ k.there) k.name k.named)

  -- ---- from one name to another

  same-paragraph : (at : ℕ) (p q : Paragraph) → slice_get program.paragraphs at ≡ Some p → slice_get program.paragraphs at ≡ Some q → p ≡ q
  same-paragraph at p q e f = some-is (sym e ∙ f)

  -- a paragraph without a name that ends what a name stands for begins it too
  ends-alone : (next exit first : ℕ) (N : Named next exit) → exit ≡ first → (p : Paragraph) (e : slice_get program.paragraphs first ≡ Some p) → p.name ≡ None → (section : List ℕ) → p.section ≡ Some section → (spot first p e).last ≡ exit
  ends-alone next exit first N same p e none section s = by-end (ends-of next exit N)
    where
      by-section : exit ≡ next → (N.paragraph ≡ p) →
          ((word : List ℕ) × (N.paragraph.name ≡ Some word) × (exit ≡ next)) ⊎ ((section : List ℕ) × (N.paragraph.section ≡ Some section) × (exit ≡ (spot next N.paragraph N.there).last)) →
          (spot first p e).last ≡ exit
      by-section is one (inl h) = none-some (sym none ∙ (ap (λ (q : Paragraph). q.name) (sym one) ∙ h.1))
      by-section is one (inr h) =
          let word : h.0 ≡ section = some-is (sym h.1 ∙ (ap (λ (q : Paragraph). q.section) one ∙ s)) in
          let there = (spot next N.paragraph N.there).headed h.0 h.1 in
          let here = (spot first p e).headed section s in
          (both-same (sym here ∙ (ap (λ w. range_of table (header_of table w)) (sym word) ∙ there))).1 ∙ sym h.2

      by-end : (exit ≡ next) ⊎ NamedAt program.paragraphs 0 exit → (spot first p e).last ≡ exit
      by-end (inl is) =
          by-section is (same-paragraph first N.paragraph p (ap (slice_get program.paragraphs) (sym same ∙ is) ∙ N.there) e) N.stands
      by-end (inr k) =
          let at : k.place ≡ first = (let none : k.place ≡ 0 + k.place = omega arith in none) ∙ (k.number_is ∙ same) in
          let one = same-paragraph first k.paragraph p (ap (slice_get program.paragraphs) (sym at) ∙ k.there) e in
          none-some (sym none ∙ (ap (λ (q : Paragraph). q.name) (sym one) ∙ k.named))

  range-by : (first last next exit : ℕ) (N : Named first last) (M : Named next exit) (name : Option (List ℕ)) → N.paragraph.name ≡ name →
      ((word : List ℕ) × (N.paragraph.name ≡ Some word)) ⊎ ((section : List ℕ) × (N.paragraph.section ≡ Some section)) → IsRange table program first exit
  range-by first last next exit N M (Some name) n has = record {
    last = first;
    first_label = name-label first N.paragraph N.there name n;
    alone = λ e. eqb-true first exit e;
    last_label = λ e. exit-label next exit M;
  }
  range-by first last next exit N M None n (inl h) = none-some (sym n ∙ h.1)
  range-by first last next exit N M None n (inr h) = record {
    last = (spot first N.paragraph N.there).last;
    first_label = section-label first N.paragraph N.there n h.0 h.1;
    alone = λ e. ends-alone next exit first M (sym (eqb-true first exit e)) N.paragraph N.there n h.0 h.1;
    last_label = λ e. exit-label next exit M;
  }

  pub range : (name other : List ℕ) (first last next exit : ℕ) → procedure_of table name ≡ Some (first, last) → procedure_of table other ≡ Some (next, exit) → IsRange table program first exit
  range name other first last next exit e f =
      let N = named name first last e in
      range-by first last next exit N (named other next exit f) N.paragraph.name refl (has-one first last N)

  pub labelled-by : (source : ProcedureTable) → without_indices source ≡ without_indices table → AreLabelled source table program
  labelled-by source same = record {
    entry = λ name first last e. entry name first last (sym (same-procedure source table same name) ∙ e);
    range = λ name other first last next exit e f.
        range name other first last next exit (sym (same-procedure source table same name) ∙ e) (sym (same-procedure source table same other) ∙ f);
  }
