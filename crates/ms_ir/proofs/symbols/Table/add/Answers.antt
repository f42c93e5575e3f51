use Rattle.std.proofs.Common.{◌∙◌, arith, sym}
use Rattle.std.proofs.lemmas.List.{length-map}
use Rattle.ms_ir.proofs.SymbolLemmas.{added, distinct-push, length-added}
use Rattle.ms_ir.proofs.symbols.Table.add.Goals as goal

pub invariant_of-self-2 : goal.invariant_of-self-2
invariant_of-self-2 c =
    let new = rw (← c.self.view_is) at c.requires.new in
    let few = rw (← c.self.view_is, length-map) at c.requires.few in
    let more = added (λ v. v.items) c.self.inside.names.keys c.insert.new.self.keys c.into_vec.result c.args.name c.into_vec.ensures new c.in_ok-insert.ensures.keys in
    (rw more (distinct-push _ c.args.name c.self.invariant.0 new), (let longer = length-added (λ v. v.items) c.self.inside.names.keys c.insert.new.self.keys c.args.name more in omega (arith, longer, few)))

pub returns-clause-ok : goal.returns-clause-ok
returns-clause-ok c =
    let new = rw (← c.self.view_is) at c.requires.new in
    let more = added (λ v. v.items) c.self.inside.names.keys c.insert.new.self.keys c.into_vec.result c.args.name c.into_vec.ensures new c.in_ok-insert.ensures.keys in
    rw (← c.self.view_is) (c.len-number.ensures.len ∙ sym (length-map c.self.inside.names.keys (λ v. v.items)), more)
