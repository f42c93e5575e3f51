use Rattle.std.proofs.Common.{◌≡◌, Some, None, ap, sym, refl}
use Rattle.std.specs.List.{slice_get}
use Rattle.std.specs.Option.{option_map}
use Rattle.std.proofs.lemmas.Option.{slice_get_read, slice_get_past}
use Rattle.ms_ir.specs.declared.func.BlockParts.{BlockParts}
use Rattle.ms_ir.proofs.FuncLemmas.{block_at}
use Rattle.ms_ir.proofs.func.Func.block_name.Goals as goal

pub returns-in-Some : goal.returns-in-Some
returns-in-Some c =
    let found = c.in-Some.ensures.lookup in
    let here : slice_get c.deref.result.now c.args.b.0 ≡ Some c.in-Some.parts.now = slice_get_read c.deref.result.now _ c.args.b.0 c.in-Some.parts.now refl found.3.0 found.1 in
    rw (← c.self.view_is, block_at, ← c.deref.ensures.value) (ap (option_map (λ (d : BlockParts). d.name)) (sym here))

pub returns-in-None : goal.returns-in-None
returns-in-None c =
    let past : slice_get c.deref.result.now c.args.b.0 ≡ None = slice_get_past c.deref.result.now c.args.b.0 c.in-None.ensures.lookup.3 in
    rw (← c.self.view_is, block_at, ← c.deref.ensures.value) (ap (option_map (λ (d : BlockParts). d.name)) (sym past))
