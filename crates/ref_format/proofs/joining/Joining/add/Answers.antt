use Rattle.std.proofs.Common.{◌≡◌, sym, ap, ◌∙◌}
use Rattle.ref_format.specs.Column.{columns}
use Rattle.ref_format.specs.Joining.{behind, literal_at_end, trimmed, continuing}
use Rattle.ref_format.specs.declared.joining.Literal.TheVariants.{Closed}
use Rattle.ref_format.proofs.JoiningLemmas.{literal_at_end-placed, literal_at_end-trimmed, literal_at_end-line_end}
use Rattle.ref_format.proofs.joining.Joining.add.Goals as goal
use Rattle.ref_format.proofs.joining.Joining.add.Goals.{then-card-eq45+in_ok-go_on, else-card-eq45+in_ok-end_line+in_ok-put_line}

pub returns-clause-sound : goal.returns-clause-sound
returns-clause-sound c =
    let text = c.args.self.now.text in
    let literal = c.args.self.now.literal in
    let number = c.args.number in
    let card = c.args.card.now in
    elim c.if-card-eq45.branch [
      | then-card-eq45+in_ok-go_on w ↦
          let more = continuing literal card in
          let literal_is : w.go_on.new.self.literal ≡ literal_at_end w.go_on.new.self.text =
          w.in_ok-go_on.ensures.literal
          ∙ ap (λ l. behind l more) (c.requires.open_at_end ∙ sym (literal_at_end-trimmed literal text))
          ∙ sym (literal_at_end-placed (trimmed literal text) number more)
          ∙ ap literal_at_end (sym w.in_ok-go_on.ensures.text) in
          rw w.self-is record { open_at_end = literal_is; begins = λ e. absurd (cc) }
      | else-card-eq45+in_ok-end_line+in_ok-put_line w ↦
          let more = columns 8 72 card in
          let ended = w.end_line.new.self.text in
          let closed : literal_at_end ended ≡ Closed =
          ap literal_at_end w.in_ok-end_line.ensures ∙ literal_at_end-line_end c.args.self.now.last text c.requires.begins in
          let literal_is : w.put_line.new.self.literal ≡ literal_at_end w.put_line.new.self.text =
          w.in_ok-put_line.ensures.literal
          ∙ ap (λ l. behind l more) (sym closed)
          ∙ sym (literal_at_end-placed ended number more)
          ∙ ap literal_at_end (sym w.in_ok-put_line.ensures.text) in
          rw w.self-is record { open_at_end = literal_is; begins = λ e. absurd (cc) }
    ]
