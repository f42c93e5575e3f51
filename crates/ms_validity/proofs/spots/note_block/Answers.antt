use Rattle.std.proofs.Common.{◌+◌, set, Option, subst, arith}
use Rattle.std.proofs.lemmas.Option.{slice_get_within}
use Rattle.ms_ir.specs.declared.names.InstNo.{InstNo}
use Rattle.ms_ir.specs.Func.{insts_at}
use Rattle.ms_validity.specs.Tables.{spot_at}
use Rattle.ms_validity.proofs.SpotLemmas.{IsNext, AreNoted, found_next, none_next, noted_more}
use Rattle.ms_validity.proofs.spots.note_block.Goals as goal
use Rattle.ms_validity.proofs.spots.note_block.Goals.{in-Some, in-None}

pub index_mut-requires : goal.index_mut-requires
index_mut-requires c =
    let f = c.args.func.now in
    let b = c.args.b.0 in
    let k = c.loop-place.place in
    let x = found_next f.blocks b k c.in-Some.i (subst (λ (o : Option InstNo). IsNext f.blocks b k o) c.in-Some.is c.loop-place.invariant.0) in
    let below = c.numbered.ensures.below_made b k x.0 x.1 in
    let made = c.loop-place.invariant.1.made in
    let number = x.2 in
    omega arith

pub loop-place-preserved : goal.loop-place-preserved
loop-place-preserved c =
    let f = c.args.func.now in
    let b = c.args.b.0 in
    let k = c.loop-place.place in
    elim c.match-at.branch [
      | in-Some w ↦
          let x = found_next f.blocks b k w.in-Some.i (subst (λ (o : Option InstNo). IsNext f.blocks b k o) w.in-Some.is c.loop-place.invariant.0) in
          let noted = noted_more f b k x.0 c.args.spots.now.items c.loop-place.spots.items c.numbered.ensures c.loop-place.invariant.1 x.1 in
          rw (w.at-is, w.spots-is) (
            w.next_inst-at.ensures.there b k x.0 (record { block = c.requires.block; found = x.1; numbered = x.2 }),
            subst (λ n. AreNoted f b c.args.spots.now.items (set c.loop-place.spots.items n (spot_at b k)) (k + 1)) x.2 noted,
          )
      | in-None w ↦
          absurd (none_next f.blocks b k (subst (λ (o : Option InstNo). IsNext f.blocks b k o) w.in-None.is c.loop-place.invariant.0)
          (let n = c.count-place-end.ensures in let lt = c.loop-place-test.true in omega arith))
    ]

pub returns-clause-own : goal.returns-clause-own
returns-clause-own c = λ k x get.
    let lt = slice_get_within (insts_at c.args.func.now.blocks c.args.b.0) k x get in
    let n = c.count-place-end.ensures in
    let end = c.loop-place-test.false in
    c.loop-place.invariant.1.own k x (omega arith) get
