-- The step that is made is the one of the source meaning.
use Rattle.std.proofs.Common.{◌≡◌, ℕ, zero, suc, ◌+◌, Bool, true, false, if◌then◌else◌, ◌==◌, List, [], ◌∷◌, ◌++◌, map, Option, Some, None, slice_get, Result, Ok, Err, refl, ap, sym, ◌∙◌, subst, append-nil, arith}
use Rattle.std.specs.Prelude.{OnOk}
use Rattle.std.specs.List.{flat_map}
use Rattle.std.proofs.lemmas.Grind.{flat_map-append}
use Rattle.cob_tree.specs.declared.ending.FlowFault.TheVariants.{Overlap, Reentry}
use Rattle.cob_tree.specs.declared.stmt.Stmt as tree_stmt
use Rattle.cob_tree.specs.declared.program.Sentence as tree_sentence
use Rattle.cob_tree.specs.declared.program.Paragraph as tree_paragraph
use Rattle.cob_tree.specs.declared.program.Program as tree
use Rattle.meanings.specs.declared.plain.state.Item.{Item}
use Rattle.meanings.specs.declared.plain.state.Item.TheVariants as items
use Rattle.meanings.specs.declared.plain.state.Waiting.{Waiting}
use Rattle.meanings.specs.declared.plain.state.Over.{Over}
use Rattle.meanings.specs.declared.plain.state.Over.TheVariants as over
use Rattle.meanings.specs.declared.plain.state.PlainState.{PlainState}
use Rattle.meanings.specs.plain.Language.{Stmt, Display, Go, Perform, StopRun, Other, Do, SentenceEnd, before, items_of, unless_absent, seen, seen_stmt, seen_sentence, seen_paragraph}
use Rattle.meanings.specs.plain.World.{World, Faulted, Trace, displayed}
use Rattle.meanings.specs.plain.World as outside
use Rattle.meanings.specs.plain.Source.{SourceState, rest_of, ends_at, comes_to, goes_to, falls, end_step, stmt_step, rest_step, source_step, source_begun}
use Rattle.meanings.specs.plain.Seen.{item_seen, waiting_seen, state_in, event_bytes, bytes_shown, IsStep, IsBegun}
use Rattle.meanings.specs.plain.Stepped.{next_stmt, next_of, sentence_items, items_in, whole_rest, is_pending, over_by, gone, entered, fallen_to, fallen, returned, ended, stepped}
use Rattle.meanings.specs.plain.Stepped as made

-- ---- what is to do in a paragraph

sentence-seen : (stmts : List tree_stmt.Stmt) (others : List Item) →
    before (map seen_stmt stmts) (SentenceEnd ∷ map item_seen others) ≡ map item_seen ((map items.Stmt stmts ++ items.SentenceEnd ∷ []) ++ others)
sentence-seen [] others = refl
sentence-seen (stmt ∷ stmts) others = ap (λ rest. Do (seen_stmt stmt) ∷ rest) (sentence-seen stmts others)

sentences-seen : (sentences : List tree_sentence.Sentence) → items_of (map seen_sentence sentences) ≡ map item_seen (flat_map sentence_items sentences)
sentences-seen [] = refl
sentences-seen (sentence ∷ others) =
    ap (λ rest. before (map seen_stmt sentence.stmts) (SentenceEnd ∷ rest)) (sentences-seen others)
    ∙ sentence-seen sentence.stmts (flat_map sentence_items others)

paragraph-seen : (paragraphs : List tree_paragraph.Paragraph) (number : ℕ) →
    items_of (unless_absent (slice_get (map seen_paragraph paragraphs) number)) ≡ map item_seen (items_in (slice_get paragraphs number))
paragraph-seen [] number = refl
paragraph-seen (paragraph ∷ others) zero = sentences-seen paragraph.sentences
paragraph-seen (paragraph ∷ others) (suc number) = paragraph-seen others number

rest-seen : (program : tree.Program) (number : ℕ) → rest_of (seen program) number ≡ map item_seen (whole_rest program number)
rest-seen program number = paragraph-seen program.paragraphs number

-- ---- the returns that are pending

pending-seen : (number : ℕ) (pending : List Waiting) → ends_at number (map waiting_seen pending) ≡ is_pending number pending
pending-seen number [] = refl
pending-seen number (waiting ∷ others) = ap (λ t. if waiting.end == number then true else t) (pending-seen number others)

-- ---- one step

shown-more : (trace : Trace) (shown bytes : List ℕ) → bytes_shown trace ≡ shown → bytes_shown (trace ++ outside.Display bytes ∷ []) ≡ shown ++ bytes
shown-more trace shown bytes same =
    flat_map-append event_bytes trace (outside.Display bytes ∷ [])
    ∙ ap (λ more. bytes_shown trace ++ more) (append-nil bytes)
    ∙ ap (λ before. before ++ bytes) same

module _ (program : tree.Program) (world : World) (trace : Trace) (paragraph : ℕ) (shown : List ℕ) (same : bytes_shown trace ≡ shown) where
  abbrev plain : List Waiting → List Item → Option Over → PlainState
  plain pending rest over = record { paragraph = paragraph; rest = rest; pending = pending; shown = shown; over = over }

  abbrev state : List Waiting → List Item → SourceState
  state pending rest = state_in world trace (plain pending rest None)

  -- the state is that of the plain one, with events that showed what that has shown
  abbrev IsThat : SourceState → PlainState → Type 0
  IsThat next second = (later : Trace) × (bytes_shown later ≡ second.shown) × (next ≡ state_in world later second)

  goes-there : (pending : List Waiting) (rest : List Item) (number : ℕ) →
      goes_to (seen program) number (state pending rest) ≡ state_in world trace (gone program number (plain pending rest None))
  goes-there pending rest number = ap (λ list. record (state pending rest) { paragraph = number; rest = list }) (rest-seen program number)

  falls-there : (pending : List Waiting) (rest : List Item) (paragraphs : List tree_paragraph.Paragraph) (number : ℕ) →
      IsThat (falls (seen program) (state pending rest) (slice_get (map seen_paragraph paragraphs) number)) (fallen_to program (plain pending rest None) (slice_get paragraphs number))
  falls-there pending rest [] number = (trace, same, refl)
  falls-there pending rest (first ∷ others) zero =
      let e : suc paragraph ≡ paragraph + 1 = omega arith in
      (trace, same, ap (λ n. goes_to (seen program) n (state pending rest)) e ∙ goes-there pending rest (paragraph + 1))
  falls-there pending rest (first ∷ others) (suc number) = falls-there pending rest others number

  fall-there : (pending : List Waiting) (rest : List Item) →
      IsThat (falls (seen program) (state pending rest) (slice_get (seen program).paragraphs (suc paragraph))) (fallen program (plain pending rest None))
  fall-there pending rest =
      let e : paragraph + 1 ≡ suc paragraph = omega arith in
      subst (λ n. IsThat (falls (seen program) (state pending rest) (slice_get (seen program).paragraphs n)) (fallen program (plain pending rest None))) e (falls-there pending rest program.paragraphs (paragraph + 1))

  overlap-there : (pending : List Waiting) (rest : List Item) (t : Bool) →
      IsThat (if t then comes_to (Faulted (Overlap paragraph)) (state pending rest) else falls (seen program) (state pending rest) (slice_get (seen program).paragraphs (suc paragraph)))
      (if t then over_by (over.Fault (Overlap paragraph)) (plain pending rest None) else fallen program (plain pending rest None))
  overlap-there pending rest true = (trace, same, refl)
  overlap-there pending rest false = fall-there pending rest

  end-there : (pending : List Waiting) (rest : List Item) →
      IsThat (end_step (seen program) (state pending rest) (map waiting_seen pending)) (ended program (plain pending rest None) (slice_get pending 0))
  end-there [] rest = fall-there [] rest
  end-there (top ∷ others) rest =
      elim (top.end == paragraph) as (λ t. IsThat
      (if t then record (state (top ∷ others) rest) { paragraph = top.paragraph; rest = map item_seen top.rest; pending = map waiting_seen others }
      else (if ends_at paragraph (map waiting_seen others) then comes_to (Faulted (Overlap paragraph)) (state (top ∷ others) rest)
      else falls (seen program) (state (top ∷ others) rest) (slice_get (seen program).paragraphs (suc paragraph))))
      (if t then returned (plain (top ∷ others) rest None) top
      else (if (if t then true else is_pending paragraph others) then over_by (over.Fault (Overlap paragraph)) (plain (top ∷ others) rest None)
      else fallen program (plain (top ∷ others) rest None)))) [
        | true ↦ (trace, same, refl)
        | false ↦ subst (λ b. IsThat (if b then comes_to (Faulted (Overlap paragraph)) (state (top ∷ others) rest) else falls (seen program) (state (top ∷ others) rest) (slice_get (seen program).paragraphs (suc paragraph)))
            (if is_pending paragraph others then over_by (over.Fault (Overlap paragraph)) (plain (top ∷ others) rest None) else fallen program (plain (top ∷ others) rest None)))
            (sym (pending-seen paragraph others)) (overlap-there (top ∷ others) rest (is_pending paragraph others))
      ]

  enters-there : (pending : List Waiting) (head : Item) (rest : List Item) (entry exit : ℕ) (t : Bool) →
      IsThat (if t then comes_to (Faulted (Reentry exit)) (state pending (head ∷ rest))
      else goes_to (seen program) entry (record (state pending (head ∷ rest)) { pending = record { end = exit; paragraph = paragraph; rest = map item_seen rest } ∷ map waiting_seen pending }))
      (if t then over_by (over.Fault (Reentry exit)) (plain pending (head ∷ rest) None)
      else entered entry exit (whole_rest program entry) pending (plain pending (head ∷ rest) None))
  enters-there pending head rest entry exit true = (trace, same, refl)
  enters-there pending head rest entry exit false =
      (trace, same, ap (λ list. record (state pending (head ∷ rest)) { paragraph = entry; rest = list; pending = record { end = exit; paragraph = paragraph; rest = map item_seen rest } ∷ map waiting_seen pending }) (rest-seen program entry))

  stmt-there : (pending : List Waiting) (head : Item) (rest : List Item) (stmt : Stmt) →
      IsThat (stmt_step (seen program) (state pending (head ∷ rest)) (map item_seen rest) stmt) (made.comes_to program (plain pending (head ∷ rest) None) (next_stmt stmt))
  stmt-there pending head rest (Display items advance) =
      (trace ++ outside.Display (displayed items advance) ∷ [], shown-more trace shown (displayed items advance) same, refl)
  stmt-there pending head rest (Go to) = (trace, same, goes-there pending (head ∷ rest) to)
  stmt-there pending head rest (Perform entry exit) =
      subst (λ b. IsThat (if b then comes_to (Faulted (Reentry exit)) (state pending (head ∷ rest))
      else goes_to (seen program) entry (record (state pending (head ∷ rest)) { pending = record { end = exit; paragraph = paragraph; rest = map item_seen rest } ∷ map waiting_seen pending }))
      (made.performed program entry exit (plain pending (head ∷ rest) None)))
      (sym (pending-seen exit pending)) (enters-there pending head rest entry exit (is_pending exit pending))
  stmt-there pending head rest StopRun = (trace, same, refl)
  stmt-there pending head rest Other = (trace, same, refl)

  rest-there : (pending : List Waiting) (rest : List Item) →
      IsThat (rest_step (seen program) (state pending rest) (map item_seen rest)) (made.comes_to program (plain pending rest None) (next_of rest))
  rest-there pending [] = end-there pending []
  rest-there pending (items.Stmt stmt ∷ rest) = stmt-there pending (items.Stmt stmt) rest (seen_stmt stmt)
  rest-there pending (items.SentenceEnd ∷ rest) = (trace, same, refl)

  step-there : (pending : List Waiting) (rest : List Item) (over : Option Over) →
      IsThat (source_step (seen program) (state_in world trace (plain pending rest over))) (stepped program (plain pending rest over) over)
  step-there pending rest None = rest-there pending rest
  step-there pending rest (Some over.Stopped) = (trace, same, refl)
  step-there pending rest (Some (over.Fault fault)) = (trace, same, refl)

-- what is made of a state is a step behind it
pub made-is-step : (program : tree.Program) (first second : PlainState) → second ≡ stepped program first first.over → IsStep program first second
made-is-step program first second is =
    subst (λ s. IsStep program first s) (sym is)
    (λ world trace same. step-there program world trace first.paragraph first.shown same first.pending first.rest first.over)

-- a run begins with the whole first paragraph
pub begun-is : (program : tree.Program) (rest : List Item) (pending : List Waiting) (shown : List ℕ) → rest ≡ whole_rest program 0 → pending ≡ [] → shown ≡ [] →
    IsBegun program (record { paragraph = 0; rest = rest; pending = pending; shown = shown; over = None })
begun-is program rest pending shown is none nothing = (
  nothing,
  λ world.
      ap (λ returns. record (source_begun (seen program) world) { rest = map item_seen rest; pending = map waiting_seen returns }) none
      ∙ ap (λ list. record (source_begun (seen program) world) { rest = list }) (ap (map item_seen) is ∙ sym (rest-seen program 0)),
)

pub on-ok : {A E : Type 0} {P Q : Type 0} (result : Result A E) → (P → Q) → OnOk result P → OnOk result Q
on-ok (Ok value) f h = f h
on-ok (Err error) f h = tt
