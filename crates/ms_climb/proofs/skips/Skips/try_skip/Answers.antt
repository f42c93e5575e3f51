use Rattle.std.proofs.Common.{◌≡◌, ◌<◌, None, length, refl, subst, arith}
use Rattle.ms_form.specs.declared.access.Access.TheVariants.{Phi}
use Rattle.ms_climb.specs.Skips.{skip_of, IsOnlyWay, HasTwoWays}
use Rattle.ms_climb.proofs.SkipLemmas.{none_of, skipping_more, fewer_kept}
use Rattle.ms_climb.proofs.skips.Skips.try_skip.Goals as goal

pub returns-in-Some-clause-skipping : goal.returns-in-Some-clause-skipping
returns-in-Some-clause-skipping c =
    let g = c.args.flow.now.graph in
    let s = c.args.self.now in
    let b = c.args.b in
    let lt : b.0 < length s.skips = (let size = c.requires.skipping.blocks in let l = c.requires.block in omega arith) in
    let free : skip_of s (Phi b) ≡ None = none_of (skip_of s (Phi b)) c.skip.result c.is_some.result c.skip.ensures c.is_some.ensures c.if-is_some.false in
    let way = subst (λ n. IsOnlyWay c.args.form.now c.args.walk.now s b n c.in-Some.to) c.pred_count.ensures c.in-Some.ensures in
    rw c.leave_out.ensures (skipping_more g c.args.form.now c.args.walk.now s b c.in-Some.to c.requires.skipping lt free way)

pub returns-in-Some-clause-tried : goal.returns-in-Some-clause-tried
returns-in-Some-clause-tried c =
    let g = c.args.flow.now.graph in
    let s = c.args.self.now in
    let b = c.args.b in
    let lt : b.0 < length s.skips = (let size = c.requires.skipping.blocks in let l = c.requires.block in omega arith) in
    let free : skip_of s (Phi b) ≡ None = none_of (skip_of s (Phi b)) c.skip.result c.is_some.result c.skip.ensures c.is_some.ensures c.if-is_some.false in
    let way = subst (λ n. IsOnlyWay c.args.form.now c.args.walk.now s b n c.in-Some.to) c.pred_count.ensures c.in-Some.ensures in
    rw c.leave_out.ensures (fewer_kept g c.args.form.now c.args.walk.now s b c.in-Some.to c.requires.skipping lt free way)

pub returns-in-None-clause-tried : goal.returns-in-None-clause-tried
returns-in-None-clause-tried c = (refl, λ free. subst (HasTwoWays c.args.form.now c.args.walk.now c.args.self.now c.args.b) c.pred_count.ensures c.in-None.ensures)
