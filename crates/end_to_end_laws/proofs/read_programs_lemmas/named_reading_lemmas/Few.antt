-- Divisions declare no more entries than there are tokens.
use Rattle.std.proofs.Common.{◌≡◌, ℕ, zero, suc, ◌+◌, ◌≤◌, Bool, true, false, if◌then◌else◌, List, [], ◌∷◌, ◌++◌, length, Option, Some, None, refl, ap, ◌∙◌, length-append, arith}
use Rattle.std.specs.Prelude.{codes, slice_get}
use Rattle.std.specs.List.{fold}
use Rattle.cob_tree.specs.declared.entry.Entry.{Entry}
use Rattle.cob_tree.specs.declared.picture.Usage.{Usage}
use Rattle.cob_tree.specs.declared.place.Place.{Place}
use Rattle.cobol_lex.specs.declared.token.TokenKind.{TokenKind}
use Rattle.parser_combinators.specs.Form as form
use Rattle.parser_combinators.specs.Form.{Input, Got, left, Form, then_read, begins_by, is_next, loop_reads}
use Rattle.parser_combinators.proofs.Lawful.{got_is, then_got}
use Rattle.parser_combinators.proofs.MakerLaws as makers
use Rattle.parser_combinators.proofs.MakerLaws.{Law}
use Rattle.parser_combinators.proofs.words_lemmas.WordLaws as words
use Rattle.cobol_grammar.specs.declared.data_forms.draft.DataDraft.{DataDraft}
use Rattle.cobol_grammar.specs.declared.data_forms.draft.Divisions.{Divisions}
use Rattle.cobol_grammar.specs.declared.data_forms.draft.EntryDraft.{EntryDraft}
use Rattle.cobol_grammar.specs.declared.data_forms.draft.FdDraft.{FdDraft}
use Rattle.cobol_grammar.specs.data_forms.Data as datas
use Rattle.cobol_grammar.specs.data_forms.Divisions as all_forms
use Rattle.cobol_grammar.proofs.data_forms_lemmas.EntryLaws as entry_law
use Rattle.cobol_grammar.proofs.data_forms_lemmas.DivisionLaws as law
use Rattle.declaration_checks.specs.Declaring.{settled, settled_at, settle, settle_all, settle_records, bases_of, usages_in, entries_of}

-- A form that is begun with so much has no more behind it than that and a token for each one more.
record Takes {A : Type 0} (n : ℕ) (f : Form A) (size : A → ℕ) : Type 0 where
  takes : (p : Input) (a : A) (q : Input) → f.reads p ≡ Got a q → size a + length q.rest ≤ n + length p.rest

any : {A : Type 0} {b : Bool} {n : ℕ} {f : Form A} → Law b f → Takes n f (λ _. n)
any {n = n} {f = f} F = record {
  takes = λ p a q e.
      let w = F.lawful.within p in
      let k : length p.rest ≡ length (w.0 ++ q.rest) = ap length (w.1 ∙ ap (λ o. w.0 ++ left o) e) in
      omega (arith, k, length-append w.0 q.rest);
}

one_more : {A : Type 0} {n : ℕ} {f : Form A} → Law true f → Takes n f (λ _. n + 1)
one_more {n = n} F = record { takes = λ p a q e. let k = (F.consumes refl).less p a q e in omega (arith, k) }

pure : {A : Type 0} {n : ℕ} {a : A} {size : A → ℕ} → size a ≤ n → Takes n (form.pure a) size
pure {n = n} {a = a} {size = size} h = record {
  takes = λ p b q e.
      let s = got_is a b p q e in
      let k : size a ≡ size b = ap size s.0 in
      let r : length p.rest ≡ length q.rest = ap (λ i. length i.rest) s.1 in
      omega (arith, h, k, r);
}

from : {A : Type 0} {m n : ℕ} {f : Form A} {size : A → ℕ} → m ≤ n → Takes m f size → Takes n f size
from h F = record { takes = λ p a q e. let k = F.takes p a q e in omega (arith, h, k) }

infixl 10 ◌>>=◌
◌>>=◌ : {A B : Type 0} {n : ℕ} {f : Form A} {g : A → Form B} {size : A → ℕ} {more : B → ℕ} → Takes n f size → ((a : A) → Takes (size a) (g a) more) → Takes n (form.◌>>=◌ f g) more
◌>>=◌ {f = f} {g = g} F G = record {
  takes = λ p b q e.
      let s = then_got (f.reads p) (λ a r. (g a).reads r) b q e in
      let before = F.takes p s.0 s.1 s.2 in
      let behind = (G s.0).takes s.1 b q s.3 in
      omega (arith, before, behind);
}

chosen : {A : Type 0} (test : Bool) {n : ℕ} {there other : Form A} {size : A → ℕ} → Takes n there size → Takes n other size → Takes n (form.chosen test there other) size
chosen true T O = T
chosen false T O = O

where_next : {A : Type 0} {begin : TokenKind → Bool} {n : ℕ} {there other : Form A} {size : A → ℕ} → Takes n there size → Takes n other size → Takes n (form.where_next begin there other) size
where_next {begin = begin} T O = record { takes = λ p. (chosen (begins_by begin (form.next p.rest)) T O).takes p }

turns : {S : Type 0} (begin : TokenKind → Bool) (step : S → Form S) (size : S → ℕ) → ((s : S) → Takes (size s) (step s) size) →
    (n : ℕ) (s : S) (p : Input) (a : S) (q : Input) → loop_reads (λ _. begin) step n s p ≡ Got a q → size a + length q.rest ≤ size s + length p.rest
unfolding loop_reads
turns begin step size G zero s p a q e =
    let h = got_is s a p q e in
    let k : size s ≡ size a = ap size h.0 in
    let r : length p.rest ≡ length q.rest = ap (λ i. length i.rest) h.1 in
    omega (arith, k, r)
turns {S = S} begin step size G (suc n) s p a q e = turn (λ x r. turns begin step size G n x r a q) (is_next begin p) e
  where
    turn : ((x : S) (r : Input) → loop_reads (λ _. begin) step n x r ≡ Got a q → size a + length q.rest ≤ size x + length r.rest) → (b : Bool) →
        (if b then then_read ((step s).reads p) (λ x r. loop_reads (λ _. begin) step n x r) else Got s p) ≡ Got a q → size a + length q.rest ≤ size s + length p.rest
    turn again true e =
        let h = then_got ((step s).reads p) (λ x r. loop_reads (λ _. begin) step n x r) a q e in
        let before = (G s).takes p h.0 h.1 h.2 in
        let behind = again h.0 h.1 h.3 in
        omega (arith, before, behind)
    turn again false e =
        let h = got_is s a p q e in
        let k : size s ≡ size a = ap size h.0 in
        let r : length p.rest ≡ length q.rest = ap (λ i. length i.rest) h.1 in
        omega (arith, k, r)

loop : {S : Type 0} {begin : TokenKind → Bool} {step : S → Form S} {s : S} {size : S → ℕ} → ((s : S) → Takes (size s) (step s) size) → Takes (size s) (form.loop begin step s) size
loop {begin = begin} {step = step} {s = s} {size = size} G = record { takes = λ p a q e. turns begin step size G (length p.rest) s p a q e }

-- ---- lists of entries

added-few : {A : Type 0} (n : ℕ) (front : List A) (x : A) → n + length (front ++ x ∷ []) ≤ n + length front + 1
added-few n front x = let k : length (front ++ x ∷ []) ≡ length front + 1 = length-append front (x ∷ []) in omega (arith, k)

more : {A : Type 0} {begin : TokenKind → Bool} {item : Form A} (n : ℕ) (first : List A) → Law true item → Takes (n + length first) (form.loop begin (form.added item) first) (λ list. n + length list)
more n first F = loop {size = λ list. n + length list} (λ front. one_more F >>= (λ x. pure (added-few n front x)))

no-more : (A : Type 0) (n : ℕ) → n + length {A = A} [] ≤ n
no-more A n = omega (arith)

first-more : {A : Type 0} (n : ℕ) (x : A) → n + length (x ∷ []) ≤ n + 1
first-more n x = omega (arith)

records : (n : ℕ) → Takes n datas.records (λ list. n + length list)
unfolding datas.records
records n = one_more entry_law.entry >>= (λ x. from (first-more n x) (more n (x ∷ []) entry_law.entry))

items : (n : ℕ) → Takes n datas.entries (λ list. n + length list)
unfolding datas.entries
items n = from (no-more EntryDraft n) (more n [] entry_law.entry)

-- ---- the DATA DIVISION

abbrev held : List FdDraft → ℕ
held [] = 0
held (fd ∷ fds) = length fd.entries + held fds

held-added : (front : List FdDraft) (fd : FdDraft) → held (front ++ fd ∷ []) ≡ held front + length fd.entries
held-added [] fd = omega (arith)
held-added (first ∷ front) fd = let k = held-added front fd in omega (arith, k)

-- how many entries there are
abbrev drafted : DataDraft → ℕ
drafted data_part = held data_part.fds + length data_part.storage

fd : (n : ℕ) → Takes n datas.fd (λ fd. n + length fd.entries)
unfolding datas.fd
fd n =
    any (makers.key (codes "FD")) >>= (λ at. any words.name >>= (λ file. any (law.fd_clauses tt) >>= (λ _. any makers.period >>= (λ _.
    records n >>= (λ entries. pure (omega (arith)))))))

fds : (n : ℕ) → Takes n datas.fds (λ fds. n + held fds)
unfolding datas.fds
fds n =
    from (omega (arith)) (loop {size = λ fds. n + held fds} (λ front. fd (n + held front) >>= (λ one. pure (let k = held-added front one in omega (arith, k)))))

files : (n : ℕ) → Takes n datas.files (λ fds. n + held fds)
unfolding datas.files datas.file_section
files n = where_next (any (entry_law.header (codes "FILE") (codes "SECTION")) >>= (λ _. fds n)) (pure (omega (arith)))

storage : (n : ℕ) → Takes n datas.storage (λ list. n + length list)
unfolding datas.storage datas.working_storage
storage n = where_next (any (entry_law.header (codes "WORKING-STORAGE") (codes "SECTION")) >>= (λ _. items n)) (pure (omega (arith)))

data_part : Takes 0 datas.data_part drafted
unfolding datas.data_part datas.data_division
data_part =
    where_next (any (entry_law.header (codes "DATA") (codes "DIVISION")) >>= (λ _. files 0 >>= (λ fds. storage (0 + held fds) >>= (λ list. pure (omega (arith))))))
    (pure (omega (arith)))

divisions : {status : Form Place} → Law true status → Takes 0 (all_forms.divisions status) (λ divisions. drafted divisions.data_part)
unfolding all_forms.divisions
divisions S = any law.identification >>= (λ name. any (law.environment S) >>= (λ selects. data_part >>= (λ found. pure (omega (arith)))))

-- ---- entries as they are declared

settle-few : (bases : List Entry) (usages : List (Option Usage)) (entries : List Entry) (draft : EntryDraft) (o : Option Entry) → length (settled_at bases usages entries draft o) ≤ length entries + 1
settle-few bases usages entries draft None = omega (arith)
settle-few bases usages entries draft (Some entry) = let next : Entry = settled bases usages (length entries) draft entry in let k = length-append entries (next ∷ []) in omega (arith, k)

all-few : (bases : List Entry) (usages : List (Option Usage)) (entries : List Entry) (drafts : List EntryDraft) → length (settle_all bases usages entries drafts) ≤ length entries + length drafts
all-few bases usages entries [] = omega (arith)
all-few bases usages entries (draft ∷ drafts) =
    let one = settle-few bases usages entries draft (slice_get bases (length entries)) in
    let behind = all-few bases usages (settle bases usages entries draft) drafts in
    omega (arith, one, behind)

through : (start one rest mid end : ℕ) → mid ≤ start + one → end ≤ mid + rest → end ≤ start + (one + rest)
through start one rest mid end h k = omega (arith, h, k)

from-none : (one rest mid end : ℕ) → mid ≤ 0 + one → end ≤ mid + rest → end ≤ one + rest
from-none one rest mid end h k = omega (arith, h, k)

records-few : (bases : List Entry) (usages : List (Option Usage)) (entries : List Entry) (records : List FdDraft) → length (fold (settle_records bases usages) entries records) ≤ length entries + held records
records-few bases usages entries [] = omega (arith)
records-few bases usages entries (one ∷ behind) =
    through (length entries) (length one.entries) (held behind) (length (settle_all bases usages entries one.entries)) _
    (all-few bases usages entries one.entries) (records-few bases usages (settle_records bases usages entries one) behind)

entries-few : (found : Divisions) → length (entries_of found) ≤ drafted found.data_part
entries-few found =
    let bases = bases_of found in
    let usages = usages_in bases found in
    let before = fold (settle_records bases usages) [] found.data_part.fds in
    from-none (held found.data_part.fds) (length found.data_part.storage) (length before) _
    (records-few bases usages [] found.data_part.fds) (all-few bases usages before found.data_part.storage)

-- as many as tokens, at most
pub few : {status : Form Place} → Law true status → (p : Input) (found : Divisions) (q : Input) → (all_forms.divisions status).reads p ≡ Got found q → length (entries_of found) ≤ length p.rest
few S p found q e =
    let k = (divisions S).takes p found q e in
    let h = entries-few found in
    omega (arith, k, h)
