use Rattle.std.proofs.Common.{ℕ, sym, ap}
use Rattle.ms_ir.specs.declared.names.BlockNo.{BlockNo}
use Rattle.ms_script.proofs.ScopeLemmas.{block_place, block_none}
use Rattle.ms_script.proofs.lookup.Lookup.block.Goals as goal

numbered : ℕ → BlockNo
numbered k = record { 0 = k }

pub returns-in-Some : goal.returns-in-Some
unfolding numbered
returns-in-Some c = ap numbered (sym (block_place c.args.self.now.func.now.blocks c.args.name.now c.in-Some.b.0 c.in-Some.ensures))

pub returns-in-None : goal.returns-in-None
unfolding numbered
returns-in-None c = ap numbered (sym (block_none c.args.self.now.func.now.blocks c.args.name.now c.in-None.ensures))
