use Rattle.ms_edits.proofs.MoveLemmas.{moved_own, moved_other}
use Rattle.ms_edits.proofs.spots.moved_spot.Goals as goal

pub returns-then-is_same-clause-stands : goal.returns-then-is_same-clause-stands
returns-then-is_same-clause-stands c =
    let same = c.is_same.ensures.same c.if-is_same.true in
    moved_own c.args.func.now c.numbered.ensures c.args.from c.args.to c.requires.moves c.args.at.block c.args.at.place same.0 same.1

pub returns-clause-stands : goal.returns-clause-stands
returns-clause-stands c =
    moved_other c.args.func.now c.numbered.ensures c.args.from c.args.to c.requires.moves c.args.at.block c.args.at.place c.place_without-left.result c.place_with-place.result
    (c.is_same.ensures.other c.if-is_same.false)
    c.place_without-left.ensures.behind c.place_without-left.ensures.before c.place_without-left.ensures.other
    c.place_with-place.ensures.behind c.place_with-place.ensures.before c.place_with-place.ensures.other
