use Rattle.std.proofs.Common.{List, ◌+◌, sym, ap, ◌∙◌, subst, arith}
use Rattle.std.specs.Prelude.{Contains, ℕ}
use Rattle.ms_ir.specs.declared.inst.Term.{Term}
use Rattle.ms_ir.specs.Graph.{successors}
use Rattle.ms_validity.specs.Tables.{with_sources}
use Rattle.ms_validity.proofs.SourceLemmas.{AreListed, listed_more, targets_within}
use Rattle.ms_validity.proofs.sources.sources.Goals as goal

pub add_targets-requires : goal.add_targets-requires
add_targets-requires c = λ t on.
    let lt = targets_within c.args.func.now.blocks c.loop-from.from t c.requires (subst (λ (x : Term). Contains (successors x) t) c.term.ensures.term on) in
    let len = c.loop-from.invariant.blocks_are in
    omega arith

pub loop-from-preserved : goal.loop-from-preserved
loop-from-preserved c =
    let is = c.in_ok-add_targets.ensures ∙ ap (λ (x : Term). with_sources c.loop-from.lists.items (successors x) c.loop-from.from) c.term.ensures.term in
    subst (λ (l : List (List ℕ)). AreListed c.args.func.now.blocks l (c.loop-from.from + 1)) (sym is) (listed_more c.args.func.now.blocks c.loop-from.lists.items c.loop-from.from c.loop-from.invariant)
