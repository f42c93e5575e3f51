use Rattle.std.proofs.Common.{◌≡◌, subst, arith}
use Rattle.ms_effects.proofs.Columned.{AreColumnsBelow, one_more, all_below}
use Rattle.ms_effects.proofs.columns.all_columns.Goals as goal

pub loop-i-preserved : goal.loop-i-preserved
loop-i-preserved c = one_more c.args.func.now c.args.root c.loop-i.i c.loop-i.columns.items c.add_columns.new.columns.items c.loop-i.invariant c.in_ok-add_columns.ensures

pub returns : goal.returns
returns c =
    let last : c.loop-i.i ≡ c.args.func.now.made = omega arith in
    all_below c.args.func.now c.numbered.ensures c.args.root c.loop-i.columns.items (subst (λ n. AreColumnsBelow c.args.func.now c.args.root n c.loop-i.columns.items) last c.loop-i.invariant)
