use Rattle.std.proofs.Common.{get_or, refl, arith}
use Rattle.std.proofs.lemmas.Bool.{iff_false, false≢true}
use Rattle.ms_ir.specs.Func.{no_block}
use Rattle.ms_edits.specs.Told.{TermHas}
use Rattle.ms_edits.proofs.ListLemmas.{none_more}
use Rattle.ms_edits.proofs.UseLemmas.{here_term, term_here}
use Rattle.ms_edits.proofs.uses.terms_have.Goals as goal

pub loop-b-init : goal.loop-b-init
loop-b-init c = λ j lt h. omega arith

pub loop-b-preserved : goal.loop-b-preserved
loop-b-preserved c =
    none_more (λ b. TermHas (get_or c.args.func.now.blocks b no_block).term c.args.l) c.loop-b.b c.loop-b.invariant (iff_false c.block_ends_in.ensures c.if-block_ends_in.false)

pub returns-then-block_ends_in : goal.returns-then-block_ends_in
returns-then-block_ends_in c = (
  λ t. term_here c.args.func.now.blocks c.loop-b.b c.args.l (let lt = c.loop-b-test.true in let n = c.block_count-b-end.ensures.count in omega arith)
      (c.block_ends_in.ensures.0 c.if-block_ends_in.true),
  λ h. refl,
)

pub returns : goal.returns
returns c = (
  λ t. absurd (false≢true t),
  λ h. absurd (
      let r = here_term c.args.func.now.blocks c.args.l h in
      let below = r.1 in
      let end = c.loop-b-test.false in
      let n = c.block_count-b-end.ensures.count in
      c.loop-b.invariant r.0 (omega arith) r.2),
)
