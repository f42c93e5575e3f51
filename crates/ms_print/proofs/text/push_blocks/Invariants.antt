use Rattle.std.proofs.Common.{◌≡◌, ◌++◌, drop}
use Rattle.ms_print.specs.Lines.{shown_by}
use Rattle.ms_print.specs.Text.{blocks_text}
use Rattle.ms_print.proofs.text.push_blocks.Given as goal

-- the text so far, and that of the rest behind it
abbrev pub invariant-loop-b : goal.invariant-loop-b
invariant-loop-b l =
    l.out.items ++ blocks_text (shown_by l.names l.page.tables) l.notes l.b (drop l.b l.func.blocks)
    ≡ l.initial.out.items ++ blocks_text (shown_by l.names l.page.tables) l.notes 0 l.func.blocks
