use Rattle.ms_line.proofs.Cells.{not_true}
use Rattle.ms_line.proofs.HeadLemmas.{first_result, signature_cells, signature_found}
use Rattle.ms_line.proofs.heads.signature_at.Goals as goal

pub returns-in_default-result_at : goal.returns-in_default-result_at
returns-in_default-result_at c = λ ret name ps h.
    c.in_default-result_at.ensures ret (first_result c.args.line.now c.args.tokens.now c.in-Some.rest.now c.in-Some.first ret name ps c.in-Some.ensures.cells h)

pub returns-then-not-starts_with : goal.returns-then-not-starts_with
returns-then-not-starts_with c = λ ret name ps h.
    let cells = signature_cells c.args.line.now c.args.tokens.now c.in-Some.rest.now c.in-Some-cut.behind.now c.in-Some.first c.in-Some-cut.second ret name ps
    c.in-Some.ensures.cells c.in-Some-cut.ensures.cells h in
    not_true c.starts_with.result c.if-not-starts_with.true (c.starts_with.ensures.is.1 cells.opening)

pub returns-in-Some-2 : goal.returns-in-Some-2
returns-in-Some-2 c =
    let told = rw c.in-Some-2.is at c.in_ok-name.ensures in
    let first = c.starts_with.ensures.is.0 c.if-not-starts_with.false in
    signature_found c.args.line.now c.args.tokens.now c.in-Some.rest.now c.in-Some-cut.behind.now c.in-Some.first c.in-Some-cut.second c.in-Some-result_at.ret c.in-Some-2.name first.0
    c.in-Some.ensures.cells c.in-Some-cut.ensures.cells c.in-Some-result_at.ensures told.0 told.1 first.1 (c.starts_with.ensures.some c.if-not-starts_with.false)

pub returns-in-None : goal.returns-in-None
returns-in-None c = λ ret name ps h.
    let cells = signature_cells c.args.line.now c.args.tokens.now c.in-Some.rest.now c.in-Some-cut.behind.now c.in-Some.first c.in-Some-cut.second ret name ps
    c.in-Some.ensures.cells c.in-Some-cut.ensures.cells h in
    let told = rw c.in-None.is at c.in_ok-name.ensures in
    told name cells.global
