use Rattle.std.proofs.Common.{◌+◌, ◌-◌, ◌&&◌, drop, sym, ap, ◌∙◌, arith}
use Rattle.ms_grammar.specs.Parts.{texts}
use Rattle.ms_line_parts.specs.Sizes.{closes}
use Rattle.ms_line_parts.proofs.Sizing.{closes_step, closes_out}
use Rattle.ms_line_parts.proofs.objects.closes.Goals as goal
use Rattle.ms_line_parts.proofs.objects.closes.Goals.{then-i-tokens-via-then-i-tokens, then-i-tokens-via-else-i-tokens+then-not-is_keyword}

pub returns-then-i-tokens-clause-is : goal.returns-then-i-tokens-clause-is
returns-then-i-tokens-clause-is c =
    elim c.then-i-tokens.branch [
      | then-i-tokens-via-then-i-tokens w ↦ sym (closes_out c.args.line.now c.args.tokens.now c.loop-i.i c.args.k w.if-i-tokens.true c.loop-i-test.true) ∙ c.loop-i.invariant.same
      | then-i-tokens-via-else-i-tokens+then-not-is_keyword w ↦
          sym (closes_step c.args.line.now c.args.tokens.now c.loop-i.i c.args.k _ w.if-i-tokens.false c.loop-i-test.true
          ∙ ap (λ b. b && closes (c.args.k - (c.loop-i.i + 1)) (texts c.args.line.now (drop (c.loop-i.i + 1) c.args.tokens.now))) (sym w.is_keyword.ensures ∙ w.if-not-is_keyword.true)) ∙ c.loop-i.invariant.same
    ]

pub loop-i-preserved : goal.loop-i-preserved
loop-i-preserved c = record {
  within = omega arith;
  same = sym (closes_step c.args.line.now c.args.tokens.now c.loop-i.i c.args.k _ c.if-i-tokens.false c.loop-i-test.true
      ∙ ap (λ b. b && closes (c.args.k - (c.loop-i.i + 1)) (texts c.args.line.now (drop (c.loop-i.i + 1) c.args.tokens.now))) (sym c.is_keyword.ensures ∙ c.if-not-is_keyword.false)) ∙ c.loop-i.invariant.same;
}
