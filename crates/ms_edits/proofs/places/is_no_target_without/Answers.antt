use Rattle.std.proofs.Common.{arith}
use Rattle.ms_ir.specs.Func.{cut_at, insts_at}
use Rattle.ms_edits.proofs.PlaceLemmas.{moved_is, phi_left, phis_first_left, target_told}
use Rattle.ms_edits.proofs.places.is_no_target_without.Goals as goal

pub returns : goal.returns
returns c =
    let f = c.args.func.now in
    let b = c.args.b.0 in
    let p = c.args.place in
    let a = c.args.c.0 in
    let k = c.args.k in
    target_told (insts_at (cut_at f.blocks b p) a) k c.is_phi_at.result (phis_first_left f c.requires.sound b p a)
    (let n = c.count_without-count.ensures in let le = c.if-k-count.false in omega arith)
    (phi_left f.blocks b p a k c.place_with.result c.is_phi_at.result
    (moved_is b p a k c.place_with.result c.place_with.ensures.behind c.place_with.ensures.before c.place_with.ensures.other) c.is_phi_at.ensures)
