-- Items whose lines rows say, whatever text they come from.
use Rattle.std.specs.Prelude.{ℕ, List}
use Rattle.std.specs.List.{flat_map}
use Rattle.ms_grammar.specs.Kept.{Each}
use Rattle.ms_grammar.specs.declared.line.Line.{Line}
use Rattle.ms_read.specs.Told.{IsSaid, IsPlaced, sorts_of}
use Rattle.ms_resolve.specs.Shape.{ItemLines, item_lines, IsItem}

-- each has its shape, rows say its lines within their limits, and these may stand behind one another
pub record IsBasis (items : List ItemLines) : Type 0 where
  pub each : Each IsItem items
  pub said_all : Each (λ item. Each (λ (e : ℕ × Line). IsSaid e.1) (item_lines item)) items
  pub placed : IsPlaced (sorts_of (flat_map item_lines items))
