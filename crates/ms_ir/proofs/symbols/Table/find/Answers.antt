use Rattle.std.proofs.Common.{sym}
use Rattle.ms_ir.proofs.SymbolLemmas.{found_at, not_found}
use Rattle.ms_ir.proofs.symbols.Table.find.Goals as goal

pub returns-in-Some-clause-found : goal.returns-in-Some-clause-found
returns-in-Some-clause-found c =
    rw (← c.self.view_is) (found_at (λ v. v.items) c.self.inside.names.keys c.args.name.now c.in-Some.at (sym c.in-Some.ensures.index))

pub returns-in-Some-clause-each : goal.returns-in-Some-clause-each
returns-in-Some-clause-each c =
    let here = found_at (λ v. v.items) c.self.inside.names.keys c.args.name.now c.in-Some.at (sym c.in-Some.ensures.index) in
    rw (← c.self.view_is) (λ m e. c.self.invariant.0 m c.in-Some.at c.args.name.now e here)

pub returns-in-None-clause-found : goal.returns-in-None-clause-found
returns-in-None-clause-found c =
    rw (← c.self.view_is) (not_found (λ v. v.items) c.self.inside.names.keys c.args.name.now (sym c.in-None.ensures.found))
