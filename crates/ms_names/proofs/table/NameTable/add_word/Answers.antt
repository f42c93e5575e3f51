use Rattle.std.proofs.Common.{◌≡◌, ◌∙◌, ◌++◌, ◌∷◌, [], List, ap, refl}
use Rattle.ms_ir.specs.declared.names.Name.{Name}
use Rattle.ms_ir.specs.declared.names.Name.TheVariants.{Word, Number}
use Rattle.ms_names.proofs.PlaceLemmas.{name_found, other_found}
use Rattle.ms_names.proofs.table.NameTable.add_word.Goals as goal

pub invariant_of-self-2 : goal.invariant_of-self-2
invariant_of-self-2 c =
    let old = c.self.inside.names.items in
    let word : Name = Word c.args.word.now in
    let items : c.push_reserved.new.self.items ≡ old ++ word ∷ [] = c.push_reserved.ensures.items ∙ ap (λ (ns : List Name). ns ++ Word c.in_ok-copy.copy ∷ []) c.reserve.ensures.items ∙ ap (λ t. old ++ Word t ∷ []) c.in_ok-copy.ensures in (
      λ q. name_found old c.push_reserved.new.self.items word (Word q) _ _ c.len-place.result (c.self.invariant.0 q) (c.len-place.ensures ∙ c.self.inside.names.ok.0) (c.in_ok-put_word.ensures.ok q) items,
      λ n. other_found old c.push_reserved.new.self.items word (Number n) _ (c.self.invariant.1 n) refl items,
    )
