use Rattle.std.proofs.Common.{◌≤◌, ℕ, map, drop, length}
use Rattle.control_flow_theory.specs.language.Control.{seen_sentence}
use Rattle.overlap_trail.specs.Follow.{known_of}
use Rattle.overlap_trail.proofs.Sentences.{SentencesOn}
use Rattle.overlap_trail.proofs.leg.follow_sentences.Given as goal

abbrev pub invariant-loop-sentence : goal.invariant-loop-sentence
invariant-loop-sentence l = record {
  follows : (last : ℕ) → SentencesOn (known_of l.files l.lemmas) l.moves (map (seen_sentence last) l.sentences) (map (seen_sentence last) (drop l.sentence-index l.sentences)) l.taken l.now;
  begun : l.taken ≤ l.now;
  within : l.now ≤ length l.moves;
}
