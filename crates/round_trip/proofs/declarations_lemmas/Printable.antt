-- A program that is titled and keeps the rules can be printed so that it spells drafts.
use Rattle.std.proofs.Common.{◌≡◌, ℕ, zero, suc, ◌+◌, Bool, true, false, List, [], ◌∷◌, ◌++◌, map, reverse, Option, Some, None, ap, sym, ◌∙◌, subst}
use Rattle.std.specs.Prelude.{◌==◌, slice_get}
use Rattle.std.proofs.lemmas.Bool.{and_parts}
use Rattle.cob_tree.specs.declared.entry.Entry.{Entry}
use Rattle.cob_tree.specs.declared.entry.Span.{Span}
use Rattle.cob_tree.specs.declared.file.FileEntry.{FileEntry}
use Rattle.cob_tree.specs.declared.place.Expr.TheOpen.{Operand-F}
use Rattle.cob_tree.specs.declared.place.Operand.{Operand, out-roll-Operand}
use Rattle.cob_tree.specs.declared.place.Operand.TheVariants as operands
use Rattle.cob_tree.specs.declared.place.Place.{Place}
use Rattle.cob_tree.specs.declared.program.Program.{Program}
use Rattle.parser_combinators.specs.Form.{Form}
use Rattle.control_flow_theory.specs.language.All.{all}
use Rattle.grammar_laws.specs.form_results.Numbered.{literal_step, is_literal}
use Rattle.program_facts.specs.well_scoped.Part.{if_any}
use Rattle.unparser.specs.Place.{item_name}
use Rattle.parser_combinators.specs.words.Word.{is_data_word}
use Rattle.declaration_checks.specs.Redefining.{last_alike}
use Rattle.declaration_checks.specs.Standing.{before}
use Rattle.round_trip.specs.spelling.data_spelling.Printable.{IsLiteral, IfAny, AreLiteralSpans, IsDataWord, ArePrintableEntries, ArePrintableFiles, ArePrintableFds, IsPrintable}
use Rattle.round_trip.specs.spelling.data_spelling.Sections.{Fd, records, all_records}
use Rattle.round_trip.specs.declarations.printed_declarations.Rules.{base, bases, Redefines, KindKeeps, EntriesKeep}
use Rattle.round_trip.specs.declarations.printed_declarations.FileRules.{AreThere, KeepsRules}
use Rattle.round_trip.specs.declarations.Named.{file_titled, entry_titled, span_literal, values_literal, IsTitled, AreStated}
use Rattle.round_trip.proofs.declarations_lemmas.Entries.{named-so}

no-true : true ≡ false → ⊥
no-true e = cc

literal-is : (operand : Operand) → is_literal operand ≡ true → IsLiteral operand
literal-is (operands.Place place) e =
    absurd (no-true (sym e ∙ ap is_literal (sym (operands.rolls-Place place)) ∙ ap literal_step (out-roll-Operand (Operand-F.Place place))))
literal-is (operands.Number number) e = tt
literal-is (operands.Text text) e = tt
literal-is (operands.Figure figure) e = tt

any-literal : (o : Option Operand) → if_any is_literal o ≡ true → IfAny IsLiteral o
any-literal None e = tt
any-literal (Some operand) e = literal-is operand e

spans-literal : (spans : List Span) → all (map span_literal spans) ≡ true → AreLiteralSpans spans
spans-literal [] e = tt
spans-literal (span ∷ spans) e =
    let h = and_parts (span_literal span) (all (map span_literal spans)) e in
    let k = and_parts (is_literal span.from) (if_any is_literal span.to) h.0 in
    ((literal-is span.from k.0, any-literal span.to k.1), spans-literal spans h.1)

any-word : (o : Option (List ℕ)) → if_any is_data_word o ≡ true → IfAny IsDataWord o
any-word None e = tt
any-word (Some word) e = e

-- the entry of a number has a name that may be one
base-titled : (entries : List Entry) (n : ℕ) (other : Entry) → slice_get (map base entries) n ≡ Some other → all (map entry_titled entries) ≡ true → if_any is_data_word other.name ≡ true
base-titled [] zero other e t = absurd cc
base-titled [] (suc n) other e t = absurd cc
base-titled (entry ∷ entries) zero other e t = subst (λ (x : Entry). if_any is_data_word x.name ≡ true) (some-is e) (and_parts (entry_titled entry) (all (map entry_titled entries)) t).0
  where
    some-is : Some (base entry) ≡ Some other → base entry ≡ other
    some-is e = cc
base-titled (entry ∷ entries) (suc n) other e t = base-titled entries n other e (and_parts (entry_titled entry) (all (map entry_titled entries)) t).1

module _ (program : Program) (titled : all (map entry_titled program.entries) ≡ true) where
  redefined-word : (at : ℕ) (entry : Entry) (o : Option ℕ) → IfAny (Redefines program at entry) o → IfAny (λ number. IsDataWord (item_name program number)) o
  redefined-word at entry None h = tt
  redefined-word at entry (Some number) h =
      let so = named-so (bases program) (item_name program number) (base entry) (last_alike (base entry) (reverse (before (bases program) at))) number h.0 in
      subst (λ (o : Option (List ℕ)). if_any is_data_word o ≡ true) so.2 (base-titled program.entries number so.0 so.1 titled)

  redefined-named : (at : ℕ) (entry : Entry) → KindKeeps (entry.level == 88) program at entry → IfAny (λ number. IsDataWord (item_name program number)) entry.redefines
  redefined-named at entry K = go (entry.level == 88) K
    where
      go : (b : Bool) → KindKeeps b program at entry → IfAny (λ number. IsDataWord (item_name program number)) entry.redefines
      go true K = subst (IfAny (λ number. IsDataWord (item_name program number))) (sym K.no_redefines) tt
      go false K = redefined-word at entry entry.redefines K.redefines

  entries-printable : (at : ℕ) (entries : List Entry) → all (map entry_titled entries) ≡ true → all (map values_literal entries) ≡ true → EntriesKeep program at entries → ArePrintableEntries program entries
  entries-printable at [] t v k = tt
  entries-printable at (entry ∷ entries) t v k =
      let name = and_parts (entry_titled entry) (all (map entry_titled entries)) t in
      let value = and_parts (values_literal entry) (all (map values_literal entries)) v in
      let literal = and_parts (if_any is_literal entry.value) (all (map span_literal entry.ranges)) value.0 in (
        record {
          named = any-word entry.name name.0;
          redefined = redefined-named at entry k.0.kind;
          valued = any-literal entry.value literal.0;
          ranged = spans-literal entry.ranges literal.1;
        },
        entries-printable (at + 1) entries name.1 value.1 k.1,
      )

printable-parts : (program : Program) (front back : List Entry) → ArePrintableEntries program (front ++ back) → ArePrintableEntries program front × ArePrintableEntries program back
printable-parts program [] back h = (tt, h)
printable-parts program (entry ∷ front) back h = let more = printable-parts program front back h.1 in ((h.0, more.0), more.1)

file-named : (files : List FileEntry) (n : ℕ) (file : FileEntry) → slice_get files n ≡ Some file → all (map file_titled files) ≡ true → IsDataWord file.name
file-named [] zero file e t = absurd cc
file-named [] (suc n) file e t = absurd cc
file-named (first ∷ files) zero file e t = subst (λ (f : FileEntry). IsDataWord f.name) (some-is e) (and_parts (file_titled first) (all (map file_titled files)) t).0
  where
    some-is : Some first ≡ Some file → first ≡ file
    some-is e = cc
file-named (first ∷ files) (suc n) file e t = file-named files n file e (and_parts (file_titled first) (all (map file_titled files)) t).1

fds-printable : (program : Program) (fds : List Fd) → all (map file_titled program.files) ≡ true → AreThere program fds → ArePrintableEntries program (all_records fds) → ArePrintableFds program fds
fds-printable program [] t there h = tt
fds-printable program (fd ∷ fds) t there h =
    let parts = printable-parts program (records fd) (all_records fds) h in
    (record { file = there.0.0; there = there.0.1; named = file-named program.files fd.number there.0.0 there.0.1 t; written = parts.0 }, fds-printable program fds t there.1 parts.1)

files-printable : (status : Form Place) (program : Program) (files : List FileEntry) → all (map file_titled files) ≡ true → AreStated status program files → ArePrintableFiles status program files
files-printable status program [] t s = tt
files-printable status program (file ∷ files) t s =
    let h = and_parts (file_titled file) (all (map file_titled files)) t in
    (record { named = h.0; stated = s.0 }, files-printable status program files h.1 s.1)

pub titled-printable : (status : Form Place) (program : Program) (fds : List Fd) (storage : List Entry) → IsTitled program → KeepsRules program fds storage → AreStated status program program.files →
    IsPrintable status program fds storage
titled-printable status program fds storage T K S =
    let entries = entries-printable program T.entries 0 program.entries T.entries T.values K.entries in
    let parts = printable-parts program (all_records fds) storage (subst (ArePrintableEntries program) K.sorted.is entries) in
    record {
      titled = T.title;
      files = files-printable status program program.files T.files S;
      fds = fds-printable program fds T.files K.there parts.0;
      storage = parts.1;
    }
