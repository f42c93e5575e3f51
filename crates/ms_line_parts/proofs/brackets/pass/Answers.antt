use Rattle.std.proofs.Common.{Some, None, ap, sym, ◌∙◌, if◌then◌else◌}
use Rattle.ms_grammar.specs.Kept.{behind_token}
use Rattle.ms_grammar.specs.Parts.{bytes_at}
use Rattle.ms_line_parts.specs.Reach.{open_marks}
use Rattle.ms_line_parts.proofs.Marks.{closing_passes}
use Rattle.ms_line_parts.proofs.brackets.pass.Goals as goal

pub returns-in-Some-pop-clause-yes : goal.returns-in-Some-pop-clause-yes
returns-in-Some-pop-clause-yes c = λ e.
    ap (λ ms. behind_token (open_marks ms) (bytes_at c.args.line.now c.args.token)) c.in-Some-pop.ensures.items
    ∙ closing_passes c.pop.new.self.items c.in-Some-pop.mark (bytes_at c.args.line.now c.args.token) c.is_keyword.result c.in_default.ensures
    (sym c.is_closing_mark.ensures ∙ c.if-not-is_closing_mark.false) c.is_keyword.ensures
    ∙ ap (λ b. if b then Some (open_marks c.pop.new.self.items) else None) e

pub returns-in-Some-pop-clause-no : goal.returns-in-Some-pop-clause-no
returns-in-Some-pop-clause-no c = λ e.
    ap (λ ms. behind_token (open_marks ms) (bytes_at c.args.line.now c.args.token)) c.in-Some-pop.ensures.items
    ∙ closing_passes c.pop.new.self.items c.in-Some-pop.mark (bytes_at c.args.line.now c.args.token) c.is_keyword.result c.in_default.ensures
    (sym c.is_closing_mark.ensures ∙ c.if-not-is_closing_mark.false) c.is_keyword.ensures
    ∙ ap (λ b. if b then Some (open_marks c.pop.new.self.items) else None) e
