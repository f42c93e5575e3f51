use Rattle.std.proofs.Common.{List, [], ◌∷◌, ◌++◌, sym, ap, subst, ◌∙◌}
use Rattle.ms_grammar.specs.Fits.{IsArg}
use Rattle.ms_grammar.specs.Form.{arg_parts}
use Rattle.ms_grammar.specs.declared.line.RawArg.{RawArg}
use Rattle.ms_line_insts.specs.CallFronts.{BeginsMark, EndsClosed}
use Rattle.ms_line_insts.proofs.ArgLemmas.{args_next, arg_no_end}
use Rattle.ms_line_insts.proofs.Lists.{SoFar, so_far_first, so_far_more, so_far_end, no_first}
use Rattle.ms_line_insts.proofs.args.some_args.Goals as goal

pub returns-in_default : goal.returns-in_default
returns-in_default c =
    no_first (BeginsMark c.args.line.now) EndsClosed IsArg arg_parts c.args.line.now c.args.tokens.now (args_next c.args.line.now) (rw c.in_default.is at c.in_ok-first.ensures)

pub loop-args-init : goal.loop-args-init
loop-args-init c =
    subst (λ (xs : List RawArg). SoFar EndsClosed IsArg arg_parts c.args.line.now c.args.tokens.now xs c.in-Some.behind.now) (sym (c.in_ok-push.ensures.ok ∙ ap (λ l. l ++ c.in-Some.first ∷ []) c.new-args.ensures))
    (so_far_first (BeginsMark c.args.line.now) EndsClosed IsArg arg_parts c.args.line.now c.args.tokens.now c.in-Some.first c.in-Some.behind.now (args_next c.args.line.now) (rw c.in-Some.is at c.in_ok-first.ensures))

pub loop-args-preserved : goal.loop-args-preserved
loop-args-preserved c =
    let at = c.loop-args.at.now in
    let a = rw c.in-Some-2.is at c.in_ok-arg.ensures in
    subst (λ (xs : List RawArg). SoFar EndsClosed IsArg arg_parts c.args.line.now c.args.tokens.now xs c.in-Some-2.rest.now) (sym c.in_ok-push-2.ensures.ok)
    (so_far_more (BeginsMark c.args.line.now) EndsClosed IsArg arg_parts c.args.line.now c.args.tokens.now c.loop-args.args c.in-Some-2.arg at c.in-Some-2.rest.now (args_next c.args.line.now) c.loop-args.invariant a (arg_no_end c.args.line.now at c.in-Some-2.arg c.in-Some-2.rest.now a))

pub returns : goal.returns
returns c =
    so_far_end (BeginsMark c.args.line.now) EndsClosed IsArg arg_parts c.args.line.now c.args.tokens.now c.loop-args.args c.loop-args.at.now (args_next c.args.line.now) c.loop-args.invariant (rw c.in_default-2.is at c.in_ok-arg.ensures)
