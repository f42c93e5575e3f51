use Rattle.std.proofs.Common.{refl}
use Rattle.ms_line_insts.proofs.CallLemmas.{callee_found, callee_none, callee_other}
use Rattle.ms_line_insts.proofs.calls.callee_front.Goals as goal

pub returns-in_default-2 : goal.returns-in_default-2
returns-in_default-2 c =
    let none = rw c.in_default-2.is at c.in_ok-name.ensures in
    callee_none c.args.line.now c.args.tokens.now c.in-Some.first c.in-Some.rest.now c.in-Some.ensures.cells (λ n own e. none n own.0 e)

pub returns-then-is_own : goal.returns-then-is_own
returns-then-is_own c =
    let f = rw c.in-Some-2.is at c.in_ok-name.ensures in
    callee_found c.args.line.now c.args.tokens.now c.in-Some.first c.in-Some.rest.now c.in-Some-2.name c.in-Some.ensures.cells c.in-Some.ensures.behind (c.if-is_own.ensures.yes refl) f.1

pub returns : goal.returns
returns c =
    let f = rw c.in-Some-2.is at c.in_ok-name.ensures in
    callee_none c.args.line.now c.args.tokens.now c.in-Some.first c.in-Some.rest.now c.in-Some.ensures.cells (callee_other c.args.line.now c.in-Some.first c.in-Some-2.name f.0 f.1 (c.if-is_own.ensures.no refl))
