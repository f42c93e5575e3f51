use Rattle.std.proofs.Common.{ℕ, Option, sym, subst, ◌⊎◌}
use Rattle.ms_ir.specs.Symbols.{NamesState}
use Rattle.ms_validity.specs.declared.phase.Phase.TheVariants.{Types}
use Rattle.ms_validity.specs.Raw.{LineHas}
use Rattle.ms_validity.specs.Told.{ModuleHas, Tells}
use Rattle.ms_validity.proofs.ToldLemmas.{told_either}
use Rattle.ms_validity.proofs.module.type_fault.Goals as goal

pub returns : goal.returns
returns c =
    let named = subst (λ (s : NamesState). Tells (λ n. (k : ℕ) × LineHas s c.args.draft.now k n) c.in_ok-named.named) c.names.ensures c.in_ok-named.ensures in
    subst (λ (o : Option ℕ). Tells (λ n. ModuleHas Types c.args.m.now c.args.lines.now n ⊎ ((k : ℕ) × LineHas c.args.m.now.names c.args.draft.now k n)) o) (sym c.earlier.ensures)
    (told_either (ModuleHas Types c.args.m.now c.args.lines.now) (λ n. (k : ℕ) × LineHas c.args.m.now.names c.args.draft.now k n) c.in_ok-inside.inside c.in_ok-named.named c.in_ok-inside.ensures named)
