use Rattle.std.proofs.Common.{◌≡◌, ◌++◌, drop}
use Rattle.ms_ir.specs.Func.{insts_at}
use Rattle.ms_print.specs.Lines.{shown_by}
use Rattle.ms_print.specs.Text.{insts_text}
use Rattle.ms_print.specs.Walk.{IsWalk}
use Rattle.ms_print.proofs.text.push_insts.Given as goal

-- the text so far, and that of the rest behind it
abbrev pub invariant-loop-place : goal.invariant-loop-place
invariant-loop-place l = record {
  walk : IsWalk l.func.blocks l.walk;
  block : l.walk.block ≡ l.fn.b;
  place : l.walk.place ≡ l.place;
  text : l.out.items ++ insts_text (shown_by l.names l.page.tables) l.notes.insts (drop l.place (insts_at l.func.blocks l.fn.b.0))
      ≡ l.initial.out.items ++ insts_text (shown_by l.names l.page.tables) l.notes.insts (insts_at l.func.blocks l.fn.b.0);
}
