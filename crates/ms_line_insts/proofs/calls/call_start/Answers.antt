use Rattle.std.proofs.Common.{Option, refl, subst}
use Rattle.ms_grammar.specs.Form.{name_text}
use Rattle.ms_grammar.specs.Fits.{IsResult}
use Rattle.ms_ir.specs.declared.names.Ty.{Ty}
use Rattle.ms_line_insts.proofs.CallLemmas.{call_mid, call_no_result, call_result, call_head_back, call_found}
use Rattle.ms_line_insts.proofs.calls.call_start.Goals as goal

pub returns-in_default-result_front : goal.returns-in_default-result_front
returns-in_default-result_front c =
    λ y ps g h.
    let m = call_mid c.args.line.now c.args.tokens.now c.in-Some.mark.now c.in-Some.at_attributes.now c.in_ok-before.before.now c.in_ok-before.at_result.now y.0 y.1 _ c.in-Some.ensures c.in_ok-before.ensures h in
    call_no_result c.args.line.now c.in-Some.mark.now c.in_ok-before.before.now c.in_ok-before.at_result.now y.0 y.1 _ c.in_default-result_front.ensures m

pub returns-then-not-is_result : goal.returns-then-not-is_result
returns-then-not-is_result c =
    λ y ps g h.
    let m = call_mid c.args.line.now c.args.tokens.now c.in-Some.mark.now c.in-Some.at_attributes.now c.in_ok-before.before.now c.in_ok-before.at_result.now y.0 y.1 _ c.in-Some.ensures c.in_ok-before.ensures h in
    c.if-not-is_result.ensures.no refl (subst (λ (r : Option Ty). IsResult r) (call_result c.args.line.now c.in-Some.mark.now c.in_ok-before.before.now c.in_ok-before.at_result.now c.in-Some-result_front.at_written.now y.0 c.in-Some-result_front.ret y.1 _ c.in-Some-result_front.ensures m).same g.1)

pub returns-in_default-2 : goal.returns-in_default-2
returns-in_default-2 c =
    λ y ps g h.
    let m = call_head_back c.args.line.now c.args.tokens.now c.in-Some.mark.now c.in-Some.at_attributes.now c.in_ok-before.before.now c.in_ok-before.at_result.now c.in-Some-result_front.at_written.now c.in_ok-written.written.now c.in_ok-written.at_callee.now y.0 c.in-Some-result_front.ret y.1 (name_text y.2) _ c.in-Some.ensures c.in_ok-before.ensures c.in-Some-result_front.ensures c.in_ok-written.ensures h in
    (rw c.in_default-2.is at c.in_ok-callee.ensures) y.2 _ g.0 m.further

pub returns-in_default-behind_word : goal.returns-in_default-behind_word
returns-in_default-behind_word c =
    λ y ps g h.
    let m = call_head_back c.args.line.now c.args.tokens.now c.in-Some.mark.now c.in-Some.at_attributes.now c.in_ok-before.before.now c.in_ok-before.at_result.now c.in-Some-result_front.at_written.now c.in_ok-written.written.now c.in_ok-written.at_callee.now y.0 c.in-Some-result_front.ret y.1 (name_text y.2) _ c.in-Some.ensures c.in_ok-before.ensures c.in-Some-result_front.ensures c.in_ok-written.ensures h in
    let n = (rw c.in-Some-2.is at c.in_ok-callee.ensures) in
    c.in_default-behind_word.ensures _ (n.back y.2 _ g.0 m.further).further

pub returns : goal.returns
returns c =
    call_found c.args.line.now c.args.tokens.now c.in-Some.mark.now c.in-Some.at_attributes.now c.in_ok-before.before.now c.in_ok-before.at_result.now c.in-Some-result_front.at_written.now c.in_ok-written.written.now c.in_ok-written.at_callee.now c.in-Some-2.at_open.now c.in-Some-behind_word.rest.now c.in-Some-result_front.ret c.in_ok-head.head c.in-Some-2.callee c.in-Some.ensures c.in_ok-before.ensures c.in-Some-result_front.ensures
    (c.if-not-is_result.ensures.yes refl) c.in_ok-written.ensures (rw c.in-Some-2.is at c.in_ok-callee.ensures) c.in-Some-behind_word.ensures c.in_ok-head.ensures
