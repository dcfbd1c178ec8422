-- What is still to do, past statements and sentences.
use Rattle.std.proofs.Common.{◌≡◌, ℕ, Bool, true, false, ◌==◌, ◌||◌, List, [], ◌∷◌, map, reverse, refl, ap, sym, ◌∙◌}
use Rattle.std.specs.Prelude.{if◌then◌else◌}
use Rattle.std.specs.List.{list_any}
use Rattle.std.proofs.lemmas.List.Sorted.{IsPermutation-reverse, list_any-IsPermutation}
use Rattle.cob_tree.specs.declared.program.Program.{Program}
use Rattle.cob_tree.specs.declared.program.Sentence.{Sentence}
use Rattle.control_flow_theory.specs.language.Control.{seen_sentence}
use Rattle.control_flow_theory.specs.language.Language.{Stmts, none, also}
use Rattle.control_flow_theory.specs.language.Items.{Item, SentenceEnd, before, ends_at, from_loop, items_of, past_sentence}
use Rattle.cobol_run.specs.declared.frame.Frame.{Frame}
use Rattle.cobol_run.specs.declared.frame.Frame.TheVariants as frame
use Rattle.cobol_run.specs.Frames.{ends_here, pending_of, sentences_before}

pub past_before : (stmts : Stmts) (rest : List Item) → past_sentence (before stmts rest) ≡ past_sentence rest
past_before none rest = refl
past_before (also stmt stmts) rest = past_before stmts rest

pub loop_before : (cycle : Bool) (stmts : Stmts) (rest : List Item) → from_loop cycle (before stmts rest) ≡ from_loop cycle rest
loop_before cycle none rest = refl
loop_before cycle (also stmt stmts) rest = loop_before cycle stmts rest

pub loop_sentences : (last : ℕ) (cycle : Bool) (sentences : List Sentence) (rest : List Item) → from_loop cycle (sentences_before last sentences rest) ≡ from_loop cycle rest
loop_sentences last cycle [] rest = refl
loop_sentences last cycle (sentence ∷ sentences) rest =
    loop_before cycle (seen_sentence last sentence) (SentenceEnd ∷ sentences_before last sentences rest) ∙ loop_sentences last cycle sentences rest

pub sentences_items : (last : ℕ) (sentences : List Sentence) → sentences_before last sentences [] ≡ items_of (map (seen_sentence last) sentences)
sentences_items last [] = refl
sentences_items last (sentence ∷ sentences) = ap (λ rest. before (seen_sentence last sentence) (SentenceEnd ∷ rest)) (sentences_items last sentences)

-- some return is pending at the end of this paragraph, whichever way the frames are looked through
step-any : (end : ℕ) (here : Bool) (others : Bool) → (if here then true else others) ≡ (here || others)
step-any end true others = refl
step-any end false others = refl

pub ends-any : (program : Program) (end : ℕ) (frames : List Frame) → list_any (ends_here end) frames ≡ ends_at end (pending_of program frames)
ends-any program end [] = refl
ends-any program end (frame.Return at paragraph ∷ below) =
    ap (λ b. (at == end) || b) (ends-any program end below) ∙ sym (step-any end (at == end) (ends_at end (pending_of program below)))
ends-any program end (frame.Stmts stmts ∷ below) = ends-any program end below
ends-any program end (frame.Enter entry exit ∷ below) = ends-any program end below
ends-any program end (frame.Sentences sentences ∷ below) = ends-any program end below
ends-any program end (frame.Turn turning body ∷ below) = ends-any program end below

pub ends_reverse : (program : Program) (end : ℕ) (frames : List Frame) → list_any (ends_here end) frames ≡ ends_at end (pending_of program (reverse frames))
ends_reverse program end frames =
    list_any-IsPermutation (ends_here end) frames (reverse frames) (IsPermutation-reverse frames) ∙ ends-any program end (reverse frames)
