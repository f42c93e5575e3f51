use Rattle.std.proofs.Common.{◌≡◌, ◌∙◌, ◌++◌, ◌∷◌, [], List, ap, refl}
use Rattle.ms_ir.specs.declared.names.Name.{Name}
use Rattle.ms_ir.specs.declared.names.Name.TheVariants.{Word, Number}
use Rattle.ms_names.proofs.PlaceLemmas.{name_found, other_found}
use Rattle.ms_names.proofs.table.NameTable.add_number.Goals as goal

pub invariant_of-self-2 : goal.invariant_of-self-2
invariant_of-self-2 c =
    let old = c.self.inside.names.items in
    let number : Name = Number c.args.number in
    let items : c.push_reserved.new.self.items ≡ old ++ number ∷ [] = c.push_reserved.ensures.items ∙ ap (λ (ns : List Name). ns ++ number ∷ []) c.reserve.ensures.items in (
      λ q. other_found old c.push_reserved.new.self.items number (Word q) _ (c.self.invariant.0 q) refl items,
      λ n. name_found old c.push_reserved.new.self.items number (Number n) _ _ c.len-place.result (c.self.invariant.1 n) (c.len-place.ensures ∙ c.self.inside.names.ok.0) (c.in_ok-put_number.ensures.ok n) items,
    )
