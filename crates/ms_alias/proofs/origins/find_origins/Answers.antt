use Rattle.std.proofs.Common.{◌≡◌, ◌<◌, length, ◌∙◌, subst, arith}
use Rattle.ms_alias.specs.Building.{IsBeyond}
use Rattle.ms_alias.proofs.Tabled.{origins_more, origins_all}
use Rattle.ms_alias.proofs.origins.find_origins.Goals as goal

pub loop-l-preserved : goal.loop-l-preserved
loop-l-preserved c =
    let size = c.loop-l.origins.ok.0 in
    let at = c.loop-l.invariant.0 in
    let len : length c.loop-l.origins.items ≡ c.loop-l.l = omega arith in (
      omega (arith, c.in_ok-push.ensures.len),
      c.find_origin.ensures.len ∙ c.loop-l.invariant.1,
      origins_more c.args.func.now c.loop-l.origins.items c.push.new.self.items c.loop-l.l c.find_origin.result len c.in_ok-push.ensures.items c.loop-l.invariant.2 c.find_origin.ensures.root,
    )

pub returns-clause-origins : goal.returns-clause-origins
returns-clause-origins c =
    let size = c.loop-l.origins.ok.0 in
    let at = c.loop-l.invariant.0 in
    let same = c.requires.same in
    let end = c.len-l-end.ensures.len in
    let auto = c.loop-l.auto.l-end in
    let stop = c.loop-l-test.false in
    let len : length c.args.marks.now ≡ length c.loop-l.origins.items = omega arith in
    let len' : length c.loop-l.origins.items ≡ c.loop-l.l = omega arith in
    origins_all c.args.func.now c.loop-l.origins.items (subst (IsBeyond c.args.func.now) len c.requires.beyond) (λ k h. let lt : k < c.loop-l.l = omega (arith, h) in c.loop-l.invariant.2 k lt)
