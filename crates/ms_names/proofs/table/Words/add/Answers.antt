use Rattle.std.proofs.Common.{◌∙◌, ◌++◌, ◌∷◌, [], List, ℕ, Bor, ap}
use Rattle.ms_names.proofs.PlaceLemmas.{word_found}
use Rattle.ms_names.proofs.table.Words.add.Goals as goal

pub invariant_of-self-2 : goal.invariant_of-self-2
invariant_of-self-2 c = λ q.
    word_found (λ w. w.now) c.self.inside.words.items c.push_reserved.new.self.items c.args.word _ _ c.len-place.result q
    (c.self.invariant q) (c.len-place.ensures ∙ c.self.inside.words.ok.0) (c.in_ok-put_word.ensures.ok q) (c.push_reserved.ensures.items ∙ ap (λ (ws : List (Bor (List ℕ))). ws ++ c.args.word ∷ []) c.reserve.ensures.items)
