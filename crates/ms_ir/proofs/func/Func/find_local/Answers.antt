use Rattle.std.proofs.Common.{◌≡◌, ◌∙◌, ℕ, true, false, inl, inr, arith, sym, subst}
use Rattle.std.proofs.lemmas.Bool.Decides.{eqb_tells}
use Rattle.ms_ir.specs.declared.names.LocalNo.{LocalNo}
use Rattle.ms_ir.specs.Locals.{HasName}
use Rattle.ms_ir.proofs.LookLemmas.{name_below}
use Rattle.ms_ir.proofs.func.Func.find_local.Goals as goal

pub loop-l-preserved : goal.loop-l-preserved
loop-l-preserved c = λ k lt h.
    elim (eqb_tells k.0 c.loop-l.l) [
      | inl same ↦
          let local : ℕ → LocalNo = λ i. record { 0 = i } in
          let here : HasName c.args.self.now (local c.loop-l.l) c.args.name.now = subst (λ i. HasName c.args.self.now (local i) c.args.name.now) same.1 h in
          let both : true ≡ false = sym (c.is_named.ensures.1 here) ∙ c.if-is_named.false in
          cc
      | inr other ↦ c.loop-l.invariant k (omega (arith, other.1, lt)) h
    ]

pub returns : goal.returns
returns c = inr (λ k h. let below = name_below c.args.self.now k c.args.name.now c.numbered.ensures h in c.loop-l.invariant k (omega (arith, below)) h)
