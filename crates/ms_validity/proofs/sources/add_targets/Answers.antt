use Rattle.std.proofs.Common.{◌≡◌, List, [], ◌∷◌, length, ap, sym, subst, arith}
use Rattle.std.specs.Prelude.{Contains, ℕ}
use Rattle.ms_ir.specs.Graph.{successors}
use Rattle.ms_flow.proofs.Members.{here, there}
use Rattle.std.proofs.lemmas.List.{length-set}
use Rattle.ms_validity.proofs.sources.add_targets.Goals as goal

pub add-requires : goal.add-requires
add-requires c =
    let on : successors c.args.term.now ≡ c.in-Br.a.0 ∷ [] = ap successors c.in-Br.is in
    c.requires c.in-Br.a.0 (subst (λ (l : List ℕ). Contains l c.in-Br.a.0) (sym on) (here c.in-Br.a.0 []))

pub add-requires-in-CondBr : goal.add-requires-in-CondBr
add-requires-in-CondBr c =
    let on : successors c.args.term.now ≡ c.in-CondBr.a.0 ∷ c.in-CondBr.b.0 ∷ [] = ap successors c.in-CondBr.is in
    c.requires c.in-CondBr.a.0 (subst (λ (l : List ℕ). Contains l c.in-CondBr.a.0) (sym on) (here c.in-CondBr.a.0 (c.in-CondBr.b.0 ∷ [])))

pub add-requires-in-CondBr-2 : goal.add-requires-in-CondBr-2
add-requires-in-CondBr-2 c =
    let on : successors c.args.term.now ≡ c.in-CondBr.a.0 ∷ c.in-CondBr.b.0 ∷ [] = ap successors c.in-CondBr.is in
    let lt = c.requires c.in-CondBr.b.0 (subst (λ (l : List ℕ). Contains l c.in-CondBr.b.0) (sym on) (there c.in-CondBr.a.0 (c.in-CondBr.b.0 ∷ []) c.in-CondBr.b.0 (here c.in-CondBr.b.0 []))) in
    let len = ap length c.in_ok-add-in-CondBr.ensures in
    omega (arith, length-set {A = List ℕ})
