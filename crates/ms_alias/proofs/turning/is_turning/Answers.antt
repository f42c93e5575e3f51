use Rattle.std.proofs.Common.{length, sym, ap, ◌∙◌, arith}
use Rattle.std.specs.Prelude.{option_map}
use Rattle.ms_ir.specs.declared.names.BlockNo.{BlockNo}
use Rattle.ms_alias.proofs.Tabled.{edges_len, moved_within}
use Rattle.ms_alias.proofs.turning.is_turning.Goals as goal

pub on_cycle-requires : goal.on_cycle-requires
on_cycle-requires c =
    let f = c.args.func.now in
    let e = sym c.home.ensures ∙ ap (option_map (λ (b : BlockNo). b.0)) c.in-Some.is in
    let lt = moved_within f _ c.in-Some.block.0 e in
    let len = ap length c.requires ∙ edges_len f.blocks in
    omega (arith, lt, len)
