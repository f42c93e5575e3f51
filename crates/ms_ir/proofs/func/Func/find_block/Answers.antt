use Rattle.std.proofs.Common.{◌≡◌, ◌∙◌, true, false, inl, inr, arith, sym, subst}
use Rattle.std.proofs.lemmas.Bool.Decides.{eqb_tells}
use Rattle.ms_ir.specs.Locals.{IsBlockNamed}
use Rattle.ms_ir.proofs.LookLemmas.{block_within}
use Rattle.ms_ir.proofs.func.Func.find_block.Goals as goal

pub loop-b-preserved : goal.loop-b-preserved
loop-b-preserved c = λ a lt h.
    elim (eqb_tells a c.loop-b.b) [
      | inl same ↦
          let here : IsBlockNamed c.args.self.now.blocks c.args.name.now c.loop-b.b = subst (λ i. IsBlockNamed c.args.self.now.blocks c.args.name.now i) same.1 h in
          let both : true ≡ false = sym (c.is_block_named.ensures.1 here) ∙ c.if-is_block_named.false in
          cc
      | inr other ↦ c.loop-b.invariant a (omega (arith, other.1, lt)) h
    ]

pub returns : goal.returns
returns c = inr (λ a h. let below = block_within c.args.self.now.blocks a c.args.name.now h in c.loop-b.invariant a (omega (arith, below)) h)
