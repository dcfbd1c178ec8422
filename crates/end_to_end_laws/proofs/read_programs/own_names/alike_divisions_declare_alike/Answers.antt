use Rattle.end_to_end_laws.proofs.read_programs_lemmas.own_names_lemmas.Declared.{declare-alike}
use Rattle.end_to_end_laws.proofs.read_programs.own_names.alike_divisions_declare_alike.Goals as goal

pub returns : goal.returns
returns c = declare-alike
