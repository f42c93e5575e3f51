use Rattle.std.proofs.Common.{sym, subst, arith}
use Rattle.ms_grammar.specs.Kept.{AreMany, IsTailItem}
use Rattle.ms_line_parts.specs.Rests.{tail_length}
use Rattle.ms_line_parts.proofs.Tailing.{tail_behind, tail_before}
use Rattle.ms_line_parts.proofs.Longest.{left_behind, left_told, left_some, left_within}
use Rattle.ms_line_parts.proofs.wholes.is_tail.Goals as goal

pub returns-then-n-eq0-clause-no : goal.returns-then-n-eq0-clause-no
returns-then-n-eq0-clause-no c = λ e many.
    let behind = tail_behind _ c.in_ok-n.n (c.loop-at.invariant.no many) (left_some c.args.line.now c.args.tokens.now c.loop-at.at c.loop-at-test.true)
    (left_told c.args.line.now c.args.tokens.now c.loop-at.at tail_length c.in_ok-n.n c.in_ok-n.ensures.is) in
    let some = behind.some in
    omega (arith, some, c.if-n-eq0.true)

pub loop-at-preserved : goal.loop-at-preserved
loop-at-preserved c =
    let is = left_told c.args.line.now c.args.tokens.now c.loop-at.at tail_length c.in_ok-n.n c.in_ok-n.ensures.is in
    let behind = left_behind c.args.line.now c.args.tokens.now c.loop-at.at c.in_ok-n.n in
    record {
      within = left_within c.args.tokens.now c.loop-at.at c.in_ok-n.n c.loop-at.invariant.within c.in_ok-n.ensures.within;
      yes = λ many. c.loop-at.invariant.yes (tail_before _ c.in_ok-n.n is c.if-n-eq0.false (subst (λ ts. AreMany IsTailItem ts) (sym behind) many));
      no = λ many. subst (λ ts. AreMany IsTailItem ts) behind (tail_behind _ c.in_ok-n.n (c.loop-at.invariant.no many) (left_some c.args.line.now c.args.tokens.now c.loop-at.at c.loop-at-test.true) is).left;
    }
