use Rattle.ms_ir.specs.declared.inst.Entry.{Entry}
use Rattle.ms_ir.specs.Edits.{IsNoBlock}
use Rattle.ms_edits.specs.Told.{AtPlace}
use Rattle.ms_edits.proofs.ListLemmas.{NoneBelow}
use Rattle.ms_edits.proofs.names.has_from_none.Given as goal

abbrev pub invariant-loop-k : goal.invariant-loop-k
invariant-loop-k l = NoneBelow (AtPlace l.entries (λ (e : Entry). IsNoBlock l.func e.from.0)) l.k
