-- The step of a plain state, as it is made.
use Rattle.std.specs.Prelude.{ℕ, ◌+◌, Bool, true, false, if◌then◌else◌, ◌==◌, List, [], ◌∷◌, ◌++◌, map, drop, Option, Some, None, slice_get}
use Rattle.std.specs.List.{flat_map}
use Rattle.cob_tree.specs.declared.ending.FlowFault.TheVariants.{Overlap, Reentry}
use Rattle.cob_tree.specs.declared.program.Sentence.{Sentence}
use Rattle.cob_tree.specs.declared.program.Paragraph.{Paragraph}
use Rattle.cob_tree.specs.declared.program.Program.{Program}
use Rattle.meanings.specs.declared.plain.next.Next.{Next}
use Rattle.meanings.specs.declared.plain.next.Next.TheVariants.{Ends, Drops, Shows, Goes, Performs, Stops}
use Rattle.meanings.specs.declared.plain.state.Item.{Item}
use Rattle.meanings.specs.declared.plain.state.Item.TheVariants.{Stmt, SentenceEnd}
use Rattle.meanings.specs.declared.plain.state.Waiting.{Waiting}
use Rattle.meanings.specs.declared.plain.state.Over.{Over}
use Rattle.meanings.specs.declared.plain.state.Over.TheVariants.{Stopped, Fault}
use Rattle.meanings.specs.declared.plain.state.PlainState.{PlainState}
use Rattle.meanings.specs.plain.Language.{Display, Go, Perform, StopRun, Other, seen_stmt}
use Rattle.meanings.specs.plain.Language as language
use Rattle.meanings.specs.plain.World.{displayed}

-- what a statement comes to
abbrev pub next_stmt : language.Stmt → Next
next_stmt (Display items advance) = Shows (displayed items advance)
next_stmt (Go to) = Goes to
next_stmt (Perform entry exit) = Performs entry exit
next_stmt StopRun = Stops
next_stmt Other = Drops

-- what the head of a rest comes to
abbrev pub next_of : List Item → Next
next_of [] = Ends
next_of (Stmt stmt ∷ rest) = next_stmt (seen_stmt stmt)
next_of (SentenceEnd ∷ rest) = Drops

-- a sentence's statements, and its end
abbrev pub sentence_items : Sentence → List Item
sentence_items sentence = map Stmt sentence.stmts ++ SentenceEnd ∷ []

-- all that is to do in a paragraph; nothing where it is absent
abbrev pub items_in : Option Paragraph → List Item
items_in None = []
items_in (Some paragraph) = flat_map sentence_items paragraph.sentences

-- all that is to do in the paragraph with this number
abbrev pub whole_rest : Program → ℕ → List Item
whole_rest program number = items_in (slice_get program.paragraphs number)

-- a return is pending at the end of the paragraph with this number
abbrev pub is_pending : ℕ → List Waiting → Bool
is_pending number [] = false
is_pending number (waiting ∷ others) =
    if waiting.end == number then true else is_pending number others

-- the state past the head of its rest
abbrev pub done : PlainState → PlainState
done state = record state { rest = drop 1 state.rest }

-- the state that is over so
abbrev pub over_by : Over → PlainState → PlainState
over_by over state = record state { over = Some over }

-- the state at the beginning of the paragraph with this number
abbrev pub gone : Program → ℕ → PlainState → PlainState
gone program number state =
    record state { paragraph = number; rest = whole_rest program number }

-- the state at this rest of the entry, with the return to what follows the PERFORM pending
abbrev pub entered : ℕ → ℕ → List Item → List Waiting → PlainState → PlainState
entered entry exit rest others state = record state {
  paragraph = entry;
  rest = rest;
  pending =
      record { end = exit; paragraph = state.paragraph; rest = drop 1 state.rest } ∷ others;
}

-- the state in the range; to perform one whose exit is pending already is a fault
abbrev pub performed : Program → ℕ → ℕ → PlainState → PlainState
performed program entry exit state =
    if is_pending exit state.pending then over_by (Fault (Reentry exit)) state
    else entered entry exit (whole_rest program entry) state.pending state

-- the state in the next paragraph, or at the end of the run where there is none
abbrev pub fallen_to : Program → PlainState → Option Paragraph → PlainState
fallen_to program state None = over_by Stopped state
fallen_to program state (Some next) = gone program (state.paragraph + 1) state

-- on to the next paragraph
abbrev pub fallen : Program → PlainState → PlainState
fallen program state =
    fallen_to program state (slice_get program.paragraphs (state.paragraph + 1))

-- the return that was made last is taken
abbrev pub returned : PlainState → Waiting → PlainState
returned state top =
    record state {
      paragraph = top.paragraph;
      rest = top.rest;
      pending = drop 1 state.pending;
    }

-- the state after the end of a paragraph, by the return that was made last
abbrev pub ended : Program → PlainState → Option Waiting → PlainState
ended program state None = fallen program state
ended program state (Some top) =
    if top.end == state.paragraph then returned state top
    else (if is_pending state.paragraph state.pending
    then over_by (Fault (Overlap state.paragraph)) state
    else fallen program state)

-- the state after the head of its rest came to this
abbrev pub comes_to : Program → PlainState → Next → PlainState
comes_to program state Ends = ended program state (slice_get state.pending 0)
comes_to program state Drops = done state
comes_to program state (Shows bytes) = record (done state) { shown = state.shown ++ bytes }
comes_to program state (Goes to) = gone program to state
comes_to program state (Performs entry exit) = performed program entry exit state
comes_to program state Stops = over_by Stopped state

-- a state that is over stays
abbrev pub stepped : Program → PlainState → Option Over → PlainState
stepped program state (Some over) = state
stepped program state None = comes_to program state (next_of state.rest)
