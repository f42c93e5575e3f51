use Rattle.std.proofs.Common.{◌≡◌, ◌∙◌, refl, sym, arith, get_or, Some, None}
use Rattle.ms_flow.specs.Flow.{order_of}
use Rattle.ms_build.proofs.Enter.{SameSizes, reached_below, enter_next, enter_none, entered_rest}
use Rattle.ms_build.proofs.entering.enter_blocks.Goals as goal
use Rattle.ms_build.proofs.entering.enter_blocks.Goals.{in-Some, in_default}

pub enter_block-requires-clause-reached : goal.enter_block-requires-clause-reached
enter_block-requires-clause-reached c =
    let g = c.args.flow.now.graph in
    let at : get_or c.args.blocks.now c.loop-k.k None ≡ Some c.in-Some.b = c.in-Some.is in
    let placed : order_of g c.in-Some.b ≡ Some c.loop-k.k = (c.requires.ordered c.loop-k.k c.in-Some.b).0 at in
    (c.order_told.ensures.reached g c.requires.closed c.in-Some.b).0 (rw placed refl)

pub enter_block-requires-clause-block : goal.enter_block-requires-clause-block
enter_block-requires-clause-block c =
    let g = c.args.flow.now.graph in
    let at : get_or c.args.blocks.now c.loop-k.k None ≡ Some c.in-Some.b = c.in-Some.is in
    let placed : order_of g c.in-Some.b ≡ Some c.loop-k.k = (c.requires.ordered c.loop-k.k c.in-Some.b).0 at in
    reached_below g c.requires.closed c.in-Some.b ((c.order_told.ensures.reached g c.requires.closed c.in-Some.b).0 (rw placed refl))

pub loop-k-preserved : goal.loop-k-preserved
loop-k-preserved c =
    let g = c.args.flow.now.graph in
    let k = c.loop-k.k in
    let f = c.loop-k.form in
    elim c.match-block.branch [
      | in-Some w ↦
          let at : get_or c.args.blocks.now k None ≡ Some w.in-Some.b = w.in-Some.is in
          let placed : order_of g w.in-Some.b ≡ Some k = (c.requires.ordered k w.in-Some.b).0 at in
          let below = reached_below g c.requires.closed w.in-Some.b ((c.order_told.ensures.reached g c.requires.closed w.in-Some.b).0 (rw placed refl)) in
          let size = c.loop-k.invariant.3 in
          let whole = c.requires.blocks in
          let rest : SameSizes f w.enter_block.new.form = entered_rest g (record { 0 = w.in-Some.b }) f w.enter_block.new.form w.enter_block.ensures.entered in (
            rw w.form-is (enter_next g k (record { 0 = w.in-Some.b }) f w.enter_block.new.form (c.order_told.ensures.one g) placed (omega arith) c.loop-k.invariant.0 w.enter_block.ensures.entered),
            rw w.form-is (rest.lasts ∙ c.loop-k.invariant.1),
            rw w.form-is (rest.numbers ∙ c.loop-k.invariant.2),
            rw w.form-is (rest.blocks ∙ c.loop-k.invariant.3),
            λ counts insts p. rw w.form-is (w.enter_block.ensures.places counts insts (c.loop-k.invariant.4 counts insts p)),
          )
      | in_default w ↦
          let none : get_or c.args.blocks.now k None ≡ None = w.in_default.is in (
            rw w.form-is (enter_none g k f (λ b e. (let both : None ≡ Some b = sym none ∙ (c.requires.ordered k b).1 e in cc)) c.loop-k.invariant.0),
            rw w.form-is c.loop-k.invariant.1,
            rw w.form-is c.loop-k.invariant.2,
            rw w.form-is c.loop-k.invariant.3,
            λ counts insts p. rw w.form-is (c.loop-k.invariant.4 counts insts p),
          )
    ]
