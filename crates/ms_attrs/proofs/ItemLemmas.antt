-- All items, one by one.
use Rattle.std.proofs.Common.{◌≡◌, ◌<◌, ℕ, zero, suc, List, [], ◌∷◌, ◌++◌, Option, Some, None, length, get_or, map, option_map, refl, arith}
use Rattle.ms_attrs.specs.declared.part.Part.{Part}
use Rattle.ms_attrs.specs.declared.memory.Item.{Item}
use Rattle.ms_attrs.specs.Memory.{item_of, all_of}

-- an item before others
push_behind : (first : Item) (found : List (Option Item)) (items : List Item) (item : Item) (rest : Option (List Item)) → ((more : List Item) → rest ≡ Some more → all_of (found ++ Some item ∷ []) ≡ Some (more ++ item ∷ []))
    → option_map (λ more. first ∷ more) rest ≡ Some items → option_map (λ more. first ∷ more) (all_of (found ++ Some item ∷ [])) ≡ Some (items ++ item ∷ [])
push_behind first found items item None push all = cc
push_behind first found items item (Some rest) push all =
    let more : first ∷ rest ≡ items = cc in
    rw (push rest refl, ← more) refl

-- one item more
pub all_of_push : (found : List (Option Item)) (items : List Item) (item : Item) → all_of found ≡ Some items → all_of (found ++ Some item ∷ []) ≡ Some (items ++ item ∷ [])
all_of_push [] items item all = let none : [] ≡ items = cc in rw (← none) refl
all_of_push (None ∷ found) items item all = cc
all_of_push (Some first ∷ found) items item all = push_behind first found items item (all_of found) (λ more is. all_of_push found more item is) all

-- where one piece is no item, not all are
pub all_of_none : (pieces : List (List Part)) (k : ℕ) (d : List Part) → k < length pieces → item_of (get_or pieces k d) ≡ None → all_of (map item_of pieces) ≡ None
all_of_none [] k d within none = absurd (omega arith)
all_of_none (piece ∷ pieces) zero d within none = rw none refl
all_of_none (piece ∷ pieces) (suc k) d within none = none_behind (item_of piece) (map item_of pieces) (all_of_none pieces k d (omega arith) none)
  where
    none_behind : (first : Option Item) (found : List (Option Item)) → all_of found ≡ None → all_of (first ∷ found) ≡ None
    none_behind None found none = refl
    none_behind (Some item) found none = rw none refl
