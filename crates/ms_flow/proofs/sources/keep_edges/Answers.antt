use Rattle.std.proofs.Common.{◌+◌, ◌≡◌, sym, ◌∙◌, arith}
use Rattle.std.specs.Prelude.{Some, slice_get}
use Rattle.std.proofs.lemmas.Option.{slice_get_read}
use Rattle.ms_flow.specs.Walk.{is_seen}
use Rattle.ms_flow.proofs.Sifted.{sifted_skip, sifted_keep}
use Rattle.ms_flow.proofs.sources.keep_edges.Goals as goal
use Rattle.ms_flow.proofs.sources.keep_edges.Goals.{then-edge_stays, else-edge_stays}

pub loop-k-preserved : goal.loop-k-preserved
loop-k-preserved c =
    let R = is_seen c.args.walker.now in
    let old = c.args.edges.now.items in
    let now = c.loop-k.edges.items in
    let places = c.loop-k.before.items in
    let k = c.loop-k.k in
    let e = c.index-source.result.now in
    let len = c.len-k-end.ensures in
    let size = c.args.edges.now.ok.0 in
    let edges_len = c.loop-k.invariant.edges_len in
    let at : slice_get now k ≡ Some e = slice_get_read now _ k e (sym edges_len) (omega arith) c.index-source.ensures in
    elim c.if-edge_stays.branch [
      | then-edge_stays w ↦
          rw (w.edges-is, w.before-is, w.to-is, w.edge_behind.ensures) (sifted_keep R c.args.c c.args.slot old now places k c.loop-k.to (k + 1) (c.loop-k.to + 1) e c.loop-k.invariant at (sym c.edge_stays.ensures ∙ w.if-edge_stays.true) (omega arith) (omega arith))
      | else-edge_stays w ↦
          rw (w.edges-is, w.before-is, w.to-is) (sifted_skip R c.args.c c.args.slot old now places k c.loop-k.to (k + 1) e c.loop-k.invariant at (sym c.edge_stays.ensures ∙ w.if-edge_stays.false) (omega arith))
    ]
