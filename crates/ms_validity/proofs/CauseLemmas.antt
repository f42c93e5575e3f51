-- From what is told of a resolved module to why its draft is not accepted.
use Rattle.std.proofs.Common.{◌≡◌, ℕ, ◌⊎◌, List, Option, subst}
use Rattle.ms_ir.specs.Module.{ModuleState}
use Rattle.ms_grammar.specs.declared.line.Line.{Line}
use Rattle.ms_resolve.specs.declared.resolved.BodyLines.{BodyLines}
use Rattle.ms_validity.specs.declared.phase.Phase.TheVariants.{Types, Edges, Order}
use Rattle.ms_validity.specs.Cause.{IsNamed, IsResolvedTo}
use Rattle.ms_validity.specs.Faults.{HasTypeFault, HasEdgeFault, HasOrderFault}
use Rattle.ms_validity.specs.Raw.{LineHas}
use Rattle.ms_validity.specs.Told.{AreClosed, ModuleHas, Tells}
use Rattle.ms_validity.proofs.FaultLemmas.{module_sites, edge_sites, order_sites, type_sites, all_closed}
use Rattle.ms_validity.proofs.ToldLemmas.{told_like}

pub is_named : (draft : List (ℕ × Line)) (m : ModuleState) (lines : List BodyLines) (r : IsResolvedTo draft m lines) → IsNamed draft r.items m
is_named draft m lines r = record { shape = r.shape; sound = r.sound; whole = r.whole }

pub is_closed : (draft : List (ℕ × Line)) (m : ModuleState) (lines : List BodyLines) → IsResolvedTo draft m lines → AreClosed m
is_closed draft m lines r = all_closed draft r.items m r.shape r.whole

pub types_told : (draft : List (ℕ × Line)) (m : ModuleState) (lines : List BodyLines) (r : IsResolvedTo draft m lines) (o : Option ℕ)
    → Tells (λ n. ModuleHas Types m lines n ⊎ ((k : ℕ) × LineHas m.names draft k n)) o → Tells (HasTypeFault r.items m) o
types_told draft m lines r o t =
    told_like (λ n. ModuleHas Types m lines n ⊎ ((k : ℕ) × LineHas m.names draft k n)) (HasTypeFault r.items m) o
    (λ n h. (type_sites draft r.items m lines n r.shape r.sound r.whole r.lines).0 h)
    (λ n h. (type_sites draft r.items m lines n r.shape r.sound r.whole r.lines).1 h) t

pub edges_told : (draft : List (ℕ × Line)) (m : ModuleState) (lines : List BodyLines) (r : IsResolvedTo draft m lines) (o : Option ℕ)
    → Tells (ModuleHas Edges m lines) o → Tells (HasEdgeFault r.items m) o
edges_told draft m lines r o t =
    told_like (ModuleHas Edges m lines) (HasEdgeFault r.items m) o
    (λ n h. (edge_sites r.items m n).0 ((module_sites Edges r.items m lines n r.whole r.lines).0 h))
    (λ n h. (module_sites Edges r.items m lines n r.whole r.lines).1 ((edge_sites r.items m n).1 h)) t

pub order_told : (draft : List (ℕ × Line)) (m : ModuleState) (lines : List BodyLines) (r : IsResolvedTo draft m lines) (o : Option ℕ)
    → Tells (ModuleHas Order m lines) o → Tells (HasOrderFault r.items m) o
order_told draft m lines r o t =
    told_like (ModuleHas Order m lines) (HasOrderFault r.items m) o
    (λ n h. (order_sites r.items m n).0 ((module_sites Order r.items m lines n r.whole r.lines).0 h))
    (λ n h. (module_sites Order r.items m lines n r.whole r.lines).1 ((order_sites r.items m n).1 h)) t

pub told_as : (Has : ℕ → Type 0) (o p : Option ℕ) → o ≡ p → Tells Has o → Tells Has p
told_as Has o p e t = subst (λ (q : Option ℕ). Tells Has q) e t
