use Rattle.std.proofs.Common.{◌≡◌, ◌++◌, drop}
use Rattle.out_names.specs.Words.{paragraph_names}
use Rattle.out_names.proofs.words.add_paragraphs.Given as goal

abbrev pub invariant-loop-paragraph : goal.invariant-loop-paragraph
invariant-loop-paragraph l = l.words ++ paragraph_names (drop l.paragraph-index l.paragraphs) ≡ l.fn.words ++ paragraph_names l.paragraphs
