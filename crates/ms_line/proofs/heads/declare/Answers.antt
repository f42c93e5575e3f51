use Rattle.std.proofs.Common.{sym, ◌∙◌}
use Rattle.ms_line.proofs.Cells.{not_true}
use Rattle.ms_line.proofs.HeadLemmas.{declare_found, no_declare_head, no_declare_end}
use Rattle.ms_line.proofs.heads.declare.Goals as goal

pub returns-then-not-is_end : goal.returns-then-not-is_end
returns-then-not-is_end c =
    no_declare_end c.args.line.now c.args.tokens.now c.in-Some.found (rw c.in-Some.is at c.in_ok-found.ensures)
    (λ e. not_true c.is_end.result c.if-not-is_end.true (c.is_end.ensures.1 (c.behind.ensures.value ∙ e)))

pub returns : goal.returns
returns c =
    declare_found c.args.line.now c.args.tokens.now c.in-Some.found (rw c.in-Some.is at c.in_ok-found.ensures) (sym c.behind.ensures.value ∙ c.is_end.ensures.0 c.if-not-is_end.false)

pub returns-in_default : goal.returns-in_default
returns-in_default c = no_declare_head c.args.line.now c.args.tokens.now (rw c.in_default.is at c.in_ok-found.ensures)
