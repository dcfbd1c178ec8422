use Rattle.grammar_laws.proofs.whole_counts_lemmas.header_counts_lemmas.Division.{counted-are-read}
use Rattle.grammar_laws.proofs.whole_counts.header_counts.headers_count_the_paragraphs.Goals as goal

pub returns : goal.returns
returns c names entries table p found q from e = counted-are-read names entries table p found q from e
