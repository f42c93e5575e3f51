use Rattle.std.proofs.Common.{sym, ◌∙◌}
use Rattle.ms_alias.proofs.Rooms.{kind_alloca, kind_brought}
use Rattle.ms_alias.proofs.room.set_for.Goals as goal

pub returns-then-is_alloca : goal.returns-then-is_alloca
returns-then-is_alloca c = kind_alloca c.args.func.now c.numbered.ensures (record { 0 = c.args.l }) c.in-Some.inst.now c.args.column c.in-Some.ensures (sym c.is_alloca.ensures ∙ c.if-is_alloca.true)

pub returns-else-is_alloca : goal.returns-else-is_alloca
returns-else-is_alloca c = kind_brought c.args.func.now c.numbered.ensures (record { 0 = c.args.l }) c.in-Some.inst.now c.args.column c.in-Some.ensures (sym c.is_alloca.ensures ∙ c.if-is_alloca.false)
