use Rattle.std.proofs.Common.{ap, drop, sym, ◌∙◌}
use Rattle.ms_grammar.specs.Parts.{texts}
use Rattle.ms_line.proofs.Cells.{not_true}
use Rattle.ms_line.proofs.HeadLemmas.{define_found, no_define_head, no_define_brace, no_define_end, no_define_may}
use Rattle.ms_line.proofs.heads.define.Goals as goal

pub returns-then-not-starts_with : goal.returns-then-not-starts_with
returns-then-not-starts_with c =
    let line = c.args.line.now in
    no_define_brace line c.args.tokens.now c.in-Some.found (rw c.in-Some.is at c.in_ok-found.ensures)
    (λ first. not_true c.starts_with.result c.if-not-starts_with.true (c.starts_with.ensures.is.1 (first.0, ap (λ ts. texts line ts) c.behind-rest.ensures.value ∙ first.1)))

pub returns-then-not-is_end : goal.returns-then-not-is_end
returns-then-not-is_end c =
    no_define_end c.args.line.now c.args.tokens.now c.in-Some.found (rw c.in-Some.is at c.in_ok-found.ensures)
    (λ e. not_true c.is_end.result c.if-not-is_end.true (c.is_end.ensures.1 (c.behind.ensures.value ∙ ap (λ ts. drop 1 ts) c.behind-rest.ensures.value ∙ e)))

pub returns-then-not-may_be_defined : goal.returns-then-not-may_be_defined
returns-then-not-may_be_defined c =
    let line = c.args.line.now in
    let first = c.starts_with.ensures.is.0 c.if-not-starts_with.false in
    no_define_may line c.args.tokens.now c.in-Some.found first.0 (rw c.in-Some.is at c.in_ok-found.ensures) (ap (λ ts. texts line ts) (sym c.behind-rest.ensures.value) ∙ first.1)
    (ap (λ ts. drop 1 ts) (sym c.behind-rest.ensures.value) ∙ sym c.behind.ensures.value ∙ c.is_end.ensures.0 c.if-not-is_end.false)
    (λ may. not_true c.may_be_defined.result c.if-not-may_be_defined.true (c.may_be_defined.ensures.1 may))

pub returns : goal.returns
returns c =
    let line = c.args.line.now in
    let first = c.starts_with.ensures.is.0 c.if-not-starts_with.false in
    define_found line c.args.tokens.now c.in-Some.found first.0 (rw c.in-Some.is at c.in_ok-found.ensures) (ap (λ ts. texts line ts) (sym c.behind-rest.ensures.value) ∙ first.1)
    (ap (λ ts. drop 1 ts) (sym c.behind-rest.ensures.value) ∙ sym c.behind.ensures.value ∙ c.is_end.ensures.0 c.if-not-is_end.false)
    (c.may_be_defined.ensures.0 c.if-not-may_be_defined.false)

pub returns-in_default : goal.returns-in_default
returns-in_default c = no_define_head c.args.line.now c.args.tokens.now (rw c.in_default.is at c.in_ok-found.ensures)
