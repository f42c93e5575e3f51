use Rattle.std.proofs.Common.{◌≡◌, ◌<◌, ◌∙◌, sym, subst, ap, length, arith}
use Rattle.ms_ir.specs.declared.names.BlockNo.{BlockNo}
use Rattle.ms_climb.specs.Chains.{first_of}
use Rattle.ms_climb.specs.Walk.{phi_at, IsWalked}
use Rattle.ms_climb.proofs.WalkLemmas.{get_or_of, walked_none, insts_none, blocks_none, sees_grown, collected_more}
use Rattle.ms_climb.proofs.walk.Walk.collect.Goals as goal

pub reach-requires-clause-walked : goal.reach-requires-clause-walked
reach-requires-clause-walked g c =
    subst (IsWalked c.args.form.now (g.W.Writes.test c.args.counted.now)) (sym c.in_ok-walk.ensures)
    (walked_none c.args.form.now (g.W.Writes.test c.args.counted.now) c.args.insts c.block_count.result)

pub opening-init : goal.opening-init
opening-init g c =
    let s = c.in_ok-reach.ensures in
    record {
      walked = s.walked;
      insts = s.grown.chains.size ∙ ap (λ w. length w.chains.marks) c.in_ok-walk.ensures ∙ insts_none c.args.insts;
      blocks = s.grown.blocks ∙ ap (λ w. length w.met) c.in_ok-walk.ensures ∙ blocks_none c.block_count.result ∙ c.block_count.ensures;
      sees = s.sees;
      opened = λ k slot lt. absurd (omega arith);
      place = omega arith;
    }

pub pred_count-requires : goal.pred_count-requires
pred_count-requires g c =
    let at : phi_at c.opening.walk c.opening.next ≡ c.phi-b.result = get_or_of c.opening.walk.phis c.opening.next c.phi-b.result c.phi-b.ensures in
    let same = ap (λ (b : BlockNo). b.0) at in
    let below = c.opening.invariant.walked.below c.opening.next (let t = c.opening-test.true in let n = c.phi_count.ensures in omega arith) in
    let size = c.opening.invariant.blocks in
    omega arith

pub opening-preserved : goal.opening-preserved
opening-preserved g c =
    let o = c.in_ok-open.ensures in
    let i = c.opening.invariant in
    let n = c.opening.next in
    let lt : n < length c.opening.walk.phis = (let t = c.opening-test.true in let m = c.phi_count.ensures in omega arith) in
    record {
      walked = o.walked;
      insts = o.grown.chains.size ∙ i.insts;
      blocks = o.grown.blocks ∙ i.blocks;
      sees = sees_grown c.opening.walk c.open.new.self (first_of c.args.passed.now c.args.at) o.grown i.sees;
      opened =
          collected_more c.args.flow.now.graph c.args.form.now (g.W.Writes.test c.args.counted.now) n c.pred_count.result c.phi-b.result c.opening.walk c.open.new.self o lt c.phi-b.ensures
          c.pred_count.ensures i.opened;
      place = let longer = o.grown.longer in omega arith;
    }
