use Rattle.edit_fields.proofs.SymbolsHaveBytes as law
use Rattle.edit_fields.proofs.laws.symbols_have_bytes.Goals as goal

pub returns : goal.returns
returns c = law.symbols_have_bytes
