use Rattle.std.proofs.Common.{sym, ◌∙◌}
use Rattle.ms_line.proofs.Cells.{not_true}
use Rattle.ms_line.proofs.Wholes.{no_label, no_label_colon, label_found}
use Rattle.ms_line.proofs.small.label.Goals as goal

pub returns-then-not-starts_with : goal.returns-then-not-starts_with
returns-then-not-starts_with c =
    no_label c.args.line.now c.args.tokens.now (no_label_colon c.args.line.now c.args.tokens.now c.in-Some.rest.now c.in-Some.first c.in-Some.ensures.cells
    (λ first. not_true c.starts_with.result c.if-not-starts_with.true (c.starts_with.ensures.is.1 first)))

pub returns-in-Some-2 : goal.returns-in-Some-2
returns-in-Some-2 c =
    let first = c.starts_with.ensures.is.0 c.if-not-starts_with.false in
    let told = rw c.in-Some-2.is at c.in_ok-name.ensures in
    label_found c.args.line.now c.args.tokens.now c.in-Some.rest.now c.in-Some.first c.in-Some-2.name first.0 c.in-Some.ensures.cells first.1
    (sym c.behind.ensures.value ∙ c.is_end.ensures.0 c.if-not-is_end.false) told.0 (sym c.bytes_of.ensures.bytes ∙ told.1)
