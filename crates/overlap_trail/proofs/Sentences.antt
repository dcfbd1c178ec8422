-- Sentences, one after the other.
use Rattle.std.proofs.Common.{◌≡◌, ◌+◌, ◌<◌, ◌≤◌, ℕ, zero, suc, Bool, true, false, List, [], ◌∷◌, map, drop, length, get_or, refl, ap, sym, ◌∙◌, subst, arith, add-one}
use Rattle.cob_tree.specs.declared.program.Sentence as tree
use Rattle.control_flow_theory.specs.language.Language.{Stmts, Paragraph}
use Rattle.control_flow_theory.specs.language.Items.{SentenceEnd, before, items_of, from_loop}
use Rattle.control_flow_theory.specs.language.Control.{seen_stmts, seen_sentence}
use Rattle.program_points.specs.declared.paths.trail.Move.{Move}
use Rattle.program_points.specs.paths.Step.{at}
use Rattle.program_points.specs.paths.Accepted.{walk}
use Rattle.program_points.proofs.numbering_lemmas.Growing.{loop-before}
use Rattle.overlap_trail.specs.declared.follow.Followed.TheVariants as way
use Rattle.overlap_trail.specs.declared.leg.ParagraphOutcome.TheVariants.{ToEnd, ToSectionEnd, ToStart, Met, Lost}
use Rattle.overlap_trail.specs.Follow.{Known, Sought, Quietly, rests, Follows}
use Rattle.overlap_trail.specs.Checking.{FollowsSentences}
use Rattle.overlap_trail.proofs.Steps.{quietly-then, then-goes, one-step}

-- through the first of the sentences, so many moves are taken
abbrev pub SentencesOn : Known → List Move → Paragraph → Paragraph → ℕ → ℕ → Type 0
SentencesOn known moves sentences left taken now = (sought : Sought) (paragraph : ℕ) →
    Quietly known sought (walk (at paragraph (items_of sentences)) (drop taken moves)) (walk (at paragraph (items_of left)) (drop now moves))

-- no loop is behind sentences
loop-items : (cycle : Bool) (ss : Paragraph) → from_loop cycle (items_of ss) ≡ []
loop-items cycle [] = refl
loop-items cycle (s ∷ ss) = loop-before cycle s (SentenceEnd ∷ items_of ss) ∙ loop-items cycle ss

module _ (known : Known) (moves : List Move) (last taken : ℕ) (sentences left more : Paragraph) (stmts : Stmts) (now : ℕ) (e : left ≡ stmts ∷ more) (on : SentencesOn known moves sentences left taken now) where
  onto : (sought : Sought) (paragraph : ℕ) → Quietly known sought (walk (at paragraph (items_of sentences)) (drop taken moves)) (walk (at paragraph (before stmts (SentenceEnd ∷ items_of more))) (drop now moves))
  onto sought paragraph = subst (λ ss. Quietly known sought (walk (at paragraph (items_of sentences)) (drop taken moves)) (walk (at paragraph (items_of ss)) (drop now moves))) e (on sought paragraph)

  pub sentences-through : (later : ℕ) → Follows known moves last now stmts (way.Through later) → SentencesOn known moves sentences more taken later
  sentences-through later follows = λ sought paragraph.
      let first = walk (at paragraph (items_of sentences)) (drop taken moves) in
      let mid = walk (at paragraph (before stmts (SentenceEnd ∷ items_of more))) (drop now moves) in
      let end = walk (at paragraph (SentenceEnd ∷ items_of more)) (drop later moves) in
      let next = walk (at paragraph (items_of more)) (drop later moves) in
      quietly-then known sought first mid next (onto sought paragraph)
      (quietly-then known sought mid end next (follows sought paragraph (SentenceEnd ∷ items_of more)) (one-step known sought (at paragraph (SentenceEnd ∷ items_of more)) (at paragraph (items_of more)) (drop later moves) refl))

  pub sentences-left : (later : ℕ) → Follows known moves last now stmts (way.Left later) → SentencesOn known moves sentences more taken later
  sentences-left later follows = λ sought paragraph.
      quietly-then known sought (walk (at paragraph (items_of sentences)) (drop taken moves)) (walk (at paragraph (before stmts (SentenceEnd ∷ items_of more))) (drop now moves)) (walk (at paragraph (items_of more)) (drop later moves))
      (onto sought paragraph) (follows sought paragraph (SentenceEnd ∷ items_of more))

  pub sentences-to : (to later : ℕ) → Follows known moves last now stmts (way.To to later) → FollowsSentences known moves last taken sentences (ToStart to later)
  sentences-to to later follows = λ sought paragraph.
      then-goes known sought (walk (at paragraph (items_of sentences)) (drop taken moves)) (walk (at paragraph (before stmts (SentenceEnd ∷ items_of more))) (drop now moves)) _
      (onto sought paragraph) (follows sought paragraph (SentenceEnd ∷ items_of more))

  pub sentences-ended : (later : ℕ) → Follows known moves last now stmts (way.Ended later) → FollowsSentences known moves last taken sentences (ToEnd later)
  sentences-ended later follows = λ sought paragraph.
      quietly-then known sought (walk (at paragraph (items_of sentences)) (drop taken moves)) (walk (at paragraph (before stmts (SentenceEnd ∷ items_of more))) (drop now moves)) (walk (at paragraph []) (drop later moves))
      (onto sought paragraph) (follows sought paragraph (SentenceEnd ∷ items_of more))

  looped : (cycle : Bool) (later : ℕ) (sought : Sought) (paragraph : ℕ) → Quietly known sought (walk (at paragraph (before stmts (SentenceEnd ∷ items_of more))) (drop now moves)) (walk (at paragraph (from_loop cycle (SentenceEnd ∷ items_of more))) (drop later moves)) →
      Quietly known sought (walk (at paragraph (items_of sentences)) (drop taken moves)) (walk (at paragraph []) (drop later moves))
  looped cycle later sought paragraph path =
      let mid = walk (at paragraph (before stmts (SentenceEnd ∷ items_of more))) (drop now moves) in
      quietly-then known sought (walk (at paragraph (items_of sentences)) (drop taken moves)) mid (walk (at paragraph []) (drop later moves)) (onto sought paragraph)
      (subst (λ items. Quietly known sought mid (walk (at paragraph items) (drop later moves))) (loop-items cycle more) path)

  pub sentences-broken : (later : ℕ) → Follows known moves last now stmts (way.Broken later) → FollowsSentences known moves last taken sentences (ToEnd later)
  sentences-broken later follows = λ sought paragraph. looped false later sought paragraph (follows sought paragraph (SentenceEnd ∷ items_of more))

  pub sentences-cycled : (later : ℕ) → Follows known moves last now stmts (way.Cycled later) → FollowsSentences known moves last taken sentences (ToEnd later)
  sentences-cycled later follows = λ sought paragraph. looped true later sought paragraph (follows sought paragraph (SentenceEnd ∷ items_of more))

  pub sentences-section : (later : ℕ) → Follows known moves last now stmts (way.SectionEnded later) → FollowsSentences known moves last taken sentences (ToSectionEnd later)
  sentences-section later follows = λ sought paragraph.
      quietly-then known sought (walk (at paragraph (items_of sentences)) (drop taken moves)) (walk (at paragraph (before stmts (SentenceEnd ∷ items_of more))) (drop now moves)) (walk (at last []) (drop later moves))
      (onto sought paragraph) (follows sought paragraph (SentenceEnd ∷ items_of more))

  pub sentences-met : (entry exit later : ℕ) → Follows known moves last now stmts (way.Met entry exit later) → FollowsSentences known moves last taken sentences (Met entry exit later)
  sentences-met entry exit later follows = λ sought paragraph.
      let met = follows sought paragraph (SentenceEnd ∷ items_of more) in
      (met.0, met.1, quietly-then known sought (walk (at paragraph (items_of sentences)) (drop taken moves)) (walk (at paragraph (before stmts (SentenceEnd ∷ items_of more))) (drop now moves)) (walk met.0 (drop later moves)) (onto sought paragraph) met.2, met.3, met.4)

  pub sentences-lost : Follows known moves last now stmts way.Lost → FollowsSentences known moves last taken sentences Lost
  sentences-lost follows = λ sought paragraph.
      let stuck = follows sought paragraph (SentenceEnd ∷ items_of more) in
      (stuck.0, quietly-then known sought (walk (at paragraph (items_of sentences)) (drop taken moves)) (walk (at paragraph (before stmts (SentenceEnd ∷ items_of more))) (drop now moves)) stuck.0 (onto sought paragraph) stuck.1, stuck.2, stuck.3)

pub sentences-begin : (known : Known) (moves : List Move) (taken : ℕ) (sentences : Paragraph) → SentencesOn known moves sentences sentences taken taken
sentences-begin known moves taken sentences = λ sought paragraph. rests (walk (at paragraph (items_of sentences)) (drop taken moves))

pub sentences-end : (known : Known) (moves : List Move) (last taken : ℕ) (sentences left : Paragraph) (now : ℕ) → left ≡ [] → SentencesOn known moves sentences left taken now → FollowsSentences known moves last taken sentences (ToEnd now)
sentences-end known moves last taken sentences left now e on = λ sought paragraph.
    subst (λ ss. Quietly known sought (walk (at paragraph (items_of sentences)) (drop taken moves)) (walk (at paragraph (items_of ss)) (drop now moves))) e (on sought paragraph)

sentence-drop : (xs : List tree.Sentence) (index : ℕ) (x : tree.Sentence) → index < length xs → x ≡ get_or xs index x → drop index xs ≡ x ∷ drop (suc index) xs
sentence-drop [] index x lt e = absurd (omega arith)
sentence-drop (y ∷ ys) zero x lt e = ap (λ z. z ∷ ys) (sym e)
sentence-drop (y ∷ ys) (suc index) x lt e = sentence-drop ys index x (omega arith) e

pub sentences-at : (last : ℕ) (sentences : List tree.Sentence) (index : ℕ) (sentence : tree.Sentence) → index < length sentences → sentence ≡ get_or sentences index sentence →
    map (seen_sentence last) (drop index sentences) ≡ seen_stmts last sentence.stmts ∷ map (seen_sentence last) (drop (index + 1) sentences)
sentences-at last sentences index sentence lt is =
    ap (λ (ss : List tree.Sentence). map (seen_sentence last) ss) (sentence-drop sentences index sentence lt is) ∙ ap (λ n. seen_stmts last sentence.stmts ∷ map (seen_sentence last) (drop n sentences)) (sym (add-one index))

pub sentences-past : (last : ℕ) (sentences : List tree.Sentence) (index : ℕ) → length sentences ≤ index → map (seen_sentence last) (drop index sentences) ≡ []
sentences-past last [] zero le = refl
sentences-past last [] (suc index) le = refl
sentences-past last (sentence ∷ sentences) zero le = absurd (omega arith)
sentences-past last (sentence ∷ sentences) (suc index) le = sentences-past last sentences index (omega arith)
