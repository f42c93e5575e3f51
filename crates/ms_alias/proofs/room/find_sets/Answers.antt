use Rattle.std.proofs.Common.{arith}
use Rattle.ms_alias.proofs.Rooms.{kinds_plain, kinds_alloca}
use Rattle.ms_alias.proofs.room.find_sets.Goals as goal
use Rattle.ms_alias.proofs.room.find_sets.Goals.{in-Alloca+in_ok-push, in_default}

pub loop-l-preserved : goal.loop-l-preserved
loop-l-preserved c =
    let i = c.loop-l.invariant in
    let few = i.1 in
    let size = c.loop-l.columns.ok.0 in
    let len = c.len.ensures in
    elim c.match-set.branch [
      | in-Alloca+in_ok-push w ↦
          rw w.columns-is (
            kinds_alloca c.args.func.now c.loop-l.l c.len.result w.in-Alloca.field-0 c.loop-l.columns.items w.push.new.self.items c.loop-l.sets.items c.push-in-loop-l.new.self.items c.set_for-set.result i.0 c.set_for-set.ensures w.in-Alloca.is (omega arith) w.in_ok-push.ensures.items c.in_ok-push-2.ensures.items,
            omega (arith, w.in_ok-push.ensures.len),
          )
      | in_default w ↦
          rw w.columns-is (
            kinds_plain c.args.func.now c.loop-l.l c.len.result c.loop-l.columns.items c.loop-l.sets.items c.push-in-loop-l.new.self.items c.set_for-set.result i.0 c.set_for-set.ensures w.in_default.not-Alloca c.in_ok-push-2.ensures.items,
            omega arith,
          )
    ]
