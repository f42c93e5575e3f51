use Rattle.std.proofs.Common.{sym, ap, ◌∙◌}
use Rattle.ms_line.specs.declared.found.Said.TheVariants.{Past}
use Rattle.ms_line.proofs.Cells.{not_true}
use Rattle.ms_line.proofs.InstLines.{past_gep, past_copy, may_named, named_some}
use Rattle.ms_line.proofs.insts.past.Goals as goal

pub returns-then-is_absent-2 : goal.returns-then-is_absent-2
returns-then-is_absent-2 c = λ inst h told made.
    let first = c.starts_with.ensures.is.0 c.if-starts_with.true in
    let is = past_gep c.args.line.now c.args.tokens.now inst first.0 h (sym c.if-alloca.false ∙ told.0) told.1 first.1 c.args.name.now in
    named_some c.args.name.now (is.0 made) (c.is_absent-then-starts_with.ensures.0 c.if-is_absent-2.true)

pub returns-then-starts_with : goal.returns-then-starts_with
returns-then-starts_with c = λ inst h told.
    let first = c.starts_with.ensures.is.0 c.if-starts_with.true in
    let is = past_gep c.args.line.now c.args.tokens.now inst first.0 h (sym c.if-alloca.false ∙ told.0) told.1 first.1 c.args.name.now in
    (is.1 (may_named c.args.name.now c.requires.named (λ e. not_true c.is_absent-then-starts_with.result c.if-is_absent-2.false (c.is_absent-then-starts_with.ensures.1 e))), ap (λ s. Past s) is.2)

pub returns-then-is_absent-3 : goal.returns-then-is_absent-3
returns-then-is_absent-3 c = λ inst h told.
    let is = past_copy c.args.line.now c.args.tokens.now inst h (sym c.if-alloca.false ∙ told.0) told.1
    (λ first. not_true c.starts_with.result c.if-starts_with.false (c.starts_with.ensures.is.1 first)) c.args.name.now in
    (is.1 (c.is_absent-2.ensures.0 c.if-is_absent-3.true), ap (λ s. Past s) is.2)

pub returns : goal.returns
returns c = λ inst h told made.
    let is = past_copy c.args.line.now c.args.tokens.now inst h (sym c.if-alloca.false ∙ told.0) told.1
    (λ first. not_true c.starts_with.result c.if-starts_with.false (c.starts_with.ensures.is.1 first)) c.args.name.now in
    not_true c.is_absent-2.result c.if-is_absent-3.false (c.is_absent-2.ensures.1 (is.0 made))
