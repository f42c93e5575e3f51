use Rattle.ms_resolve.specs.Used.{global_of, values_of}
use Rattle.ms_validity.specs.Raw.{HasName}
use Rattle.ms_validity.proofs.ListLemmas.{AtPlace, NoneBelow}
use Rattle.ms_validity.proofs.raw.inst_names.Given as goal

abbrev pub invariant-loop-k : goal.invariant-loop-k
invariant-loop-k l = NoneBelow (AtPlace (values_of l.inst) (λ v. HasName (global_of v) l.names.funcs)) l.k
