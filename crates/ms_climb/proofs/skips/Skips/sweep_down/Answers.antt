use Rattle.std.proofs.Common.{◌≡◌, ◌∙◌, ◌-◌, ap, sym, subst, length, arith}
use Rattle.ms_climb.specs.Walk.{phi_at}
use Rattle.ms_climb.specs.Skips.{IsDone}
use Rattle.ms_climb.proofs.WalkLemmas.{get_or_of}
use Rattle.ms_climb.proofs.SkipLemmas.{swept_out, swept_left, swept_all}
use Rattle.ms_climb.proofs.skips.Skips.sweep_down.Goals as goal
use Rattle.ms_climb.proofs.skips.Skips.sweep_down.Goals.{then-try_skip, else-try_skip}

pub loop-k-preserved : goal.loop-k-preserved
loop-k-preserved c =
    let g = c.args.flow.now.graph in
    let f = c.args.form.now in
    let v = c.args.walk.now in
    let k = c.loop-k.k in
    let old = c.args.self.now in
    let now = c.loop-k.self in
    let new = c.try_skip.new.self in
    let place : c.phi_count-count.result - 1 - k ≡ length v.phis - 1 - k = ap (λ n. n - 1 - k) c.phi_count-count.ensures in
    let at : phi_at v (length v.phis - 1 - k) ≡ c.phi-b.result = ap (phi_at v) (sym place) ∙ get_or_of v.phis (c.phi_count-count.result - 1 - k) c.phi-b.result c.phi-b.ensures in
    elim c.if-try_skip.branch [
      | then-try_skip w ↦
          let less = rw w.if-try_skip.true at c.try_skip.ensures.tried in
          (c.try_skip.ensures.skipping, rw w.changed-is (swept_out g f v k old now new c.loop-k.changed c.loop-k.invariant.1 less))
      | else-try_skip w ↦
          let left = rw w.if-try_skip.false at c.try_skip.ensures.tried in
          (c.try_skip.ensures.skipping, rw w.changed-is (swept_left g f v k old now new c.loop-k.changed c.loop-k.invariant.1 left.0 (subst (IsDone g f v new) (sym at) left.1)))
    ]

pub returns-clause-swept : goal.returns-clause-swept
returns-clause-swept c =
    swept_all c.args.flow.now.graph c.args.form.now c.args.walk.now c.loop-k.k c.args.self.now c.loop-k.self c.loop-k.changed c.loop-k.invariant.1 (let end = c.loop-k-test.false in let n = c.phi_count-count.ensures in omega arith)
