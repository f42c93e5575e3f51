use Rattle.std.proofs.lemmas.Int.{to_z-of_z}
use Rattle.ms_alias.specs.Tables.{reach_in}
use Rattle.ms_alias.proofs.Queries.{must_write_told}
use Rattle.ms_alias.proofs.alias.Alias.must_write.Goals as goal

pub returns : goal.returns
returns c =
    let fits = c.ranges.byte in
    let e = simp to_z-of_z at c.must_hold.ensures in
    must_write_told c.args.func.now c.args.self.now c.requires c.args.i.0 c.args.root c.args.byte (reach_in c.write_at.result) c.write_at.ensures c.must_hold.result e
