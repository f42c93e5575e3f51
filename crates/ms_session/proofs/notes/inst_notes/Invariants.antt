use Rattle.std.proofs.Common.{◌≡◌, ◌<◌, ◌≤◌, ℕ, [], Some}
use Rattle.std.specs.Prelude.{slice_get}
use Rattle.ms_ir.specs.Inst.{kind_of_inst}
use Rattle.ms_ir.specs.Func.{Placed, insts_at}
use Rattle.ms_build.specs.Accesses.{defining_at}
use Rattle.ms_print.specs.Text.{note_at}
use Rattle.ms_session.specs.Shown.{IsShownLine}
use Rattle.ms_session.proofs.notes.inst_notes.Given as goal

abbrev pub invariant-loop-i : goal.invariant-loop-i
invariant-loop-i l = record {
  done : (b k : ℕ) (x : Placed) → slice_get (insts_at l.of.func.now.blocks b) k ≡ Some x → x.number < l.i
      → IsShownLine l.of.func.now l.numbers.all b k x (defining_at l.of.form.now x.number) (kind_of_inst x.inst) (note_at l.notes x.number);
  rest : (n : ℕ) → l.i ≤ n → note_at l.notes n ≡ [];
}
