use Rattle.std.proofs.Common.{◌∷◌, sym, ap, ◌∙◌}
use Rattle.ms_grammar.specs.Words.{spelling}
use Rattle.ms_grammar.specs.Parts.{texts, bytes_at}
use Rattle.ms_grammar.proofs.Steps.{same}
use Rattle.ms_line.proofs.Cells.{heads, same_text_told}
use Rattle.ms_line.proofs.cut.starts_with.Goals as goal

pub returns-in-Some-clause-is : goal.returns-in-Some-clause-is
returns-in-Some-clause-is c =
    let line = c.args.line.now in
    let first = c.in-Some.first in
    let rest = texts line c.in-Some.field-0-1.now in
    let word = spelling c.args.keyword in
    let shown = ap (λ ts. texts line ts) c.in-Some.ensures.cells in (
      λ yes. (rest, shown ∙ ap (λ b. b ∷ rest) (same_text_told (bytes_at line first) word (sym c.is_keyword.ensures ∙ yes))),
      λ h. c.is_keyword.ensures ∙ same (bytes_at line first) word (heads (bytes_at line first) word rest h.0 (sym shown ∙ h.1)),
    )
