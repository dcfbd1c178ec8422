use Rattle.std.proofs.Common.{sym, ap, ◌∙◌}
use Rattle.parser_combinators.specs.Example as example
use Rattle.parser_combinators.specs.Reading.{start}
use Rattle.parser_combinators.proofs.Reader.{spelled, the_only, stops, none}
use Rattle.parser_combinators.proofs.ExampleLaws as laws
use Rattle.parser_combinators.proofs.example.read.Goals as goal

pub returns-in-None-clause-found : goal.returns-in-None-clause-found
returns-in-None-clause-found c = (
  c.text.new.cursor,
  spelled (example.text c.args.known.now) (laws.text c.args.known.now).lawful (start c.args.tokens.now) c.in-Ok.found c.text.new.cursor _ c.new-cursor.ensures c.in-Ok.ensures,
  laws.text_ends c.args.known.now _ c.in-Ok.found c.text.new.cursor c.in-Ok.ensures,
  sym c.in-None.ensures,
)

pub returns-in-None-clause-only : goal.returns-in-None-clause-only
returns-in-None-clause-only c = λ steps fault s.
    let same = the_only (example.text c.args.known.now) (laws.text c.args.known.now).lawful (start c.args.tokens.now) c.in-Ok.found steps c.text.new.cursor s.0 _ c.new-cursor.ensures c.in-Ok.ensures s.1 in
    (same.0, sym (c.in-None.ensures ∙ ap (λ q. q.fault) same.1 ∙ s.3))

pub returns-in-Some-clause-only : goal.returns-in-Some-clause-only
returns-in-Some-clause-only c = λ steps fault s.
    let same = the_only (example.text c.args.known.now) (laws.text c.args.known.now).lawful (start c.args.tokens.now) c.in-Ok.found steps c.text.new.cursor s.0 _ c.new-cursor.ensures c.in-Ok.ensures s.1 in
    sym (c.in-Some.ensures ∙ ap (λ q. q.fault) same.1 ∙ s.3)

pub returns-in-Some-clause-fault : goal.returns-in-Some-clause-fault
returns-in-Some-clause-fault c = (
  c.in-Ok.found,
  (
    c.text.new.cursor,
    spelled (example.text c.args.known.now) (laws.text c.args.known.now).lawful (start c.args.tokens.now) c.in-Ok.found c.text.new.cursor _ c.new-cursor.ensures c.in-Ok.ensures,
    laws.text_ends c.args.known.now _ c.in-Ok.found c.text.new.cursor c.in-Ok.ensures,
    sym c.in-Some.ensures,
  ),
)

pub returns-in-Err-Stop-clause-only : goal.returns-in-Err-Stop-clause-only
returns-in-Err-Stop-clause-only c = λ steps fault s.
    let h = stops (example.text c.args.known.now) (laws.text c.args.known.now).lawful (start c.args.tokens.now) c.in-Err-Stop.field-0 c.in-Err-Stop.why c.text.new.cursor _ c.new-cursor.ensures c.in-Err-Stop.field-0-is c.in-Err-Stop.ensures in
    none (example.text c.args.known.now) (laws.text c.args.known.now).lawful (start c.args.tokens.now) c.in-Err-Stop.why c.text.new.cursor.rest steps s.0 h s.1

pub returns-in-Err-Stop-clause-fault : goal.returns-in-Err-Stop-clause-fault
returns-in-Err-Stop-clause-fault c = (
  c.text.new.cursor.rest,
  stops (example.text c.args.known.now) (laws.text c.args.known.now).lawful (start c.args.tokens.now) c.in-Err-Stop.field-0 c.in-Err-Stop.why c.text.new.cursor _ c.new-cursor.ensures c.in-Err-Stop.field-0-is c.in-Err-Stop.ensures,
  c.fault_line.ensures,
)
