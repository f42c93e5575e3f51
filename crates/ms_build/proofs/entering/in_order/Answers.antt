use Rattle.std.proofs.Common.{◌∙◌, sym, arith}
use Rattle.ms_build.proofs.Enter.{order_below, ordered_next, ordered_skip, ordered_all}
use Rattle.ms_build.proofs.entering.in_order.Goals as goal
use Rattle.ms_build.proofs.entering.in_order.Goals.{in-Some, in_default}

pub index_mut-requires : goal.index_mut-requires
index_mut-requires c =
    let g = c.args.flow.now.graph in
    let below = c.order_told.ensures.below g c.loop-b.b c.in-Some.place (sym c.in-Some.ensures.place) in
    let few = order_below g c.requires (c.order_told.ensures.once g c.requires) (λ b h. (c.order_told.ensures.listed g c.requires b).0 h) in
    let size = c.loop-b.invariant.size in
    omega (arith, c.loop-b.blocks.ok.0)

pub loop-b-preserved : goal.loop-b-preserved
loop-b-preserved c =
    let g = c.args.flow.now.graph in
    let b = c.loop-b.b in
    elim c.match-order.branch [
      | in-Some w ↦
          let below = c.order_told.ensures.below g b w.in-Some.place (sym w.in-Some.ensures.place) in
          let few = order_below g c.requires (c.order_told.ensures.once g c.requires) (λ x h. (c.order_told.ensures.listed g c.requires x).0 h) in
          let size = c.loop-b.invariant.size in
          rw w.blocks-is (ordered_next g b w.in-Some.place c.loop-b.blocks.items (c.order_told.ensures.one g) c.loop-b.invariant (sym w.in-Some.ensures.place) (omega arith))
      | in_default w ↦ rw w.blocks-is (ordered_skip g b c.loop-b.blocks.items c.loop-b.invariant (sym c.order.ensures.place ∙ w.in_default.is))
    ]

pub returns : goal.returns
returns c =
    let g = c.args.flow.now.graph in
    let end = c.loop-b-test.false in
    let count = c.block_count-b-end.ensures in
    ordered_all g c.loop-b.b c.loop-b.blocks.items c.requires (λ b t. (c.order_told.ensures.reached g c.requires b).0 t) c.loop-b.invariant (omega arith)
