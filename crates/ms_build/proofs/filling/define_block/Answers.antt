use Rattle.std.proofs.Common.{◌≡◌, ◌<◌, ◌∙◌, ap, refl, sym, subst, arith, length, Some}
use Rattle.ms_ir.specs.Func.{insts_at}
use Rattle.ms_build.specs.Filled.{before_at}
use Rattle.ms_build.specs.Accesses.{entering_at}
use Rattle.ms_ir.proofs.Along.{IsCursor, IsHere, here, not_past}
use Rattle.ms_build.proofs.Define.{UpTo, defined_none, defined_one, defined_next, defined_block, defined_entering, before_next}
use Rattle.ms_build.proofs.filling.define_block.Goals as goal
use Rattle.ms_build.proofs.filling.define_block.Goals.{in-Some, in_default}

pub loop-place-init : goal.loop-place-init
loop-place-init c = (defined_none c.args.func.now.blocks c.args.form.now (UpTo c.args.b.0 0) (λ x k v. absurd (let lt = v.1 in omega arith)), refl, c.requires.access, c.first_inst-at.ensures, refl, refl)

pub define_inst-access-requires-clause-inst : goal.define_inst-access-requires-clause-inst
define_inst-access-requires-clause-inst c =
    let blocks = c.args.func.now.blocks in
    let b = c.args.b.0 in
    let k = c.loop-place.place in
    let h : IsHere blocks b k c.in-Some.i = here blocks b k c.in-Some.i c.requires.block (subst (IsCursor blocks b k) c.in-Some.is c.loop-place.invariant.3) in
    let below = c.numbered.ensures.below_made b k h.x h.at.found in
    let number = h.at.numbered in
    let same = c.loop-place.invariant.0.numbers in
    let all = c.requires.numbers in
    omega arith

pub define_inst-access-requires-clause-access : goal.define_inst-access-requires-clause-access
define_inst-access-requires-clause-access c = c.loop-place.invariant.2

pub loop-place-preserved : goal.loop-place-preserved
loop-place-preserved c =
    let blocks = c.args.func.now.blocks in
    let b = c.args.b.0 in
    let k = c.loop-place.place in
    let f = c.args.form.now in
    elim c.match-at.branch [
      | in-Some w ↦
          let h : IsHere blocks b k w.in-Some.i = here blocks b k w.in-Some.i c.requires.block (subst (IsCursor blocks b k) w.in-Some.is c.loop-place.invariant.3) in
          let before : Some c.loop-place.access ≡ before_at blocks b k (entering_at c.loop-place.form b) =
          c.loop-place.invariant.1 ∙ ap (before_at blocks b k) (sym c.requires.start ∙ sym (defined_entering blocks (UpTo b k) f c.loop-place.form c.loop-place.invariant.0 b)) in
          let one = defined_one blocks c.loop-place.form w.define_inst-access.new.form b k w.in-Some.i c.loop-place.access h.x h.at before (w.define_inst-access.ensures.changed b k h.x h.at) in (
            rw w.form-is (defined_next blocks f c.loop-place.form w.define_inst-access.new.form b k c.numbered.ensures.one_place c.loop-place.invariant.0 one),
            rw w.access-is (ap Some (w.define_inst-access.ensures.after b k h.x h.at) ∙ before_next blocks b k h.x c.loop-place.access c.args.start h.at.found c.loop-place.invariant.1),
            rw (w.form-is, w.access-is) (w.define_inst-access.ensures.access b k h.x h.at),
            rw w.at-is (w.next_inst-at.ensures.there b k h.x h.at),
            rw w.form-is (w.define_inst-access.ensures.waiting ∙ c.loop-place.invariant.4),
            rw w.form-is ((w.define_inst-access.ensures.changed b k h.x h.at).spare ∙ c.loop-place.invariant.5),
          )
      | in_default w ↦
          let lt : k < length (insts_at blocks b) = (let t = c.loop-place-test.true in let n = c.count-place-end.ensures in omega arith) in
          absurd (not_past blocks b k lt (subst (IsCursor blocks b k) w.in_default.is c.loop-place.invariant.3))
    ]

pub returns-clause-defined : goal.returns-clause-defined
returns-clause-defined c =
    let end = c.loop-place-test.false in
    let count = c.count-place-end.ensures in
    defined_block c.args.func.now.blocks c.args.form.now c.loop-place.form c.args.b.0 c.loop-place.place (omega arith) c.loop-place.invariant.0
