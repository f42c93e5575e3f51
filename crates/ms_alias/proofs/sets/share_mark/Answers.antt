use Rattle.std.proofs.Common.{sym, ◌∙◌, arith}
use Rattle.ms_alias.proofs.Shared.{share_past, share_true, share_false}
use Rattle.ms_alias.proofs.sets.share_mark.Goals as goal

pub returns-then-k-ys : goal.returns-then-k-ys
returns-then-k-ys c = sym (share_past c.args.xs.now c.args.ys.now c.loop-k.k c.if-k-ys.true) ∙ c.loop-k.invariant

pub returns-then-both : goal.returns-then-both
returns-then-both c = sym (share_true c.args.xs.now c.args.ys.now c.loop-k.k c.loop-k-test.true (omega arith) (sym c.both.ensures ∙ c.if-both.true)) ∙ c.loop-k.invariant

pub loop-k-preserved : goal.loop-k-preserved
loop-k-preserved c = sym (share_false c.args.xs.now c.args.ys.now c.loop-k.k c.loop-k-test.true (omega arith) (sym c.both.ensures ∙ c.if-both.false)) ∙ c.loop-k.invariant
