use Rattle.std.proofs.Common.{◌≡◌, ◌≢◌, ◌<◌, ◌≤◌, ◌⊎◌, inl, inr, ℕ, suc, zero, ◌+◌, List, [], ◌∷◌, ◌++◌, length, get_or, set, take, drop, map, Some, refl, ap, sym, ◌∙◌, arith, length-set, get_or-set_same, get_or-set_other}
use Rattle.std.specs.Prelude.{is_some}
use Rattle.std.specs.List.{slice_get}
use Rattle.std.proofs.lemmas.List.{get_or_default, length-map}
use Rattle.std.proofs.lemmas.List.Edits.{map_over_more}
use Rattle.std.proofs.lemmas.Bool.Decides.{eqb_tells}
use Rattle.ms_ir.specs.declared.names.LocalNo.{LocalNo}
use Rattle.ms_ir.specs.declared.inst.Val.{Val}
use Rattle.ms_ir.specs.declared.inst.Arg.{Arg}
use Rattle.ms_ir.specs.declared.inst.Inst.{Inst}
use Rattle.ms_ir.specs.declared.inst.Inst.TheVariants.{Alloca, Gep, Step, Load, Store, Copy, Call, Bin, Cmp, Select, Cast, Phi}
use Rattle.ms_ir.specs.declared.names.BlockNo.{BlockNo}
use Rattle.ms_ir.specs.declared.inst.Term.{Term}
use Rattle.ms_ir.specs.declared.inst.Term.TheVariants.{Br}
use Rattle.ms_ir.specs.declared.func.Node.{Node}
use Rattle.ms_ir.specs.declared.func.BlockParts.{BlockParts}
use Rattle.ms_ir.specs.Inst.{has_result}
use Rattle.ms_ir.specs.Links.{NotIn, IsListed}
use Rattle.ms_ir.specs.Locals.{IsGiven}
use Rattle.ms_ir.proofs.LinkLemmas.{listed_place}
use Rattle.ms_ir.proofs.LocalLemmas.{given-same, given-set}
use Rattle.ms_ir.specs.Order.{StandOnce}
use Rattle.ms_ir.specs.Func.{Placed, Block, no_node, no_block, placed, placed_as, blocks_of, insts_at, with_insts}
use Rattle.ms_ir.specs.Changes.{inst_with, term_with, node_with, parts_with, node_without, placed_with, block_with, inst_sourced, placed_sourced, block_sourced, inst_without, placed_without, with_entry_lost, with_term, blocks_with_edge_cut, kept_target, cut_target}
use Rattle.ms_ir.proofs.FuncLemmas.{length-blocks_of}

-- a loop that changes each member of a list
pub map_over_step : {A : Type 0} (f : A → A) (xs ys : List A) (i : ℕ) (d : A) → i < length xs → ys ≡ map f (take i xs) ++ drop i xs → i < length ys → set ys i (f (get_or ys i d)) ≡ map f (take (i + 1) xs) ++ drop (i + 1) xs
map_over_step f xs ys i d lt is lt' = map_over_more f xs ys i (get_or ys i d) lt is (get_or_default ys i d (get_or ys i d) lt')

pub length-over : {A : Type 0} (f : A → A) (xs ys : List A) (i : ℕ) → ys ≡ map f (take i xs) ++ drop i xs → length ys ≡ length xs
length-over f xs ys i e = ap length e ∙ over f xs i
  where
    over : {A : Type 0} (f : A → A) (xs : List A) (i : ℕ) → length (map f (take i xs) ++ drop i xs) ≡ length xs
    over f [] zero = refl
    over f [] (suc i) = refl
    over f (x ∷ xs) zero = refl
    over f (x ∷ xs) (suc i) = ap suc (over f xs i)

-- each instruction of the blocks changes in one way
pub insts-over : (nodes nodes' : List Node) (g : Placed → Placed) (xs : List ℕ) → ((n : ℕ) → IsListed n xs → placed nodes' n ≡ g (placed nodes n)) → map (placed nodes') xs ≡ map g (map (placed nodes) xs)
insts-over nodes nodes' g [] h = refl
insts-over nodes nodes' g (x ∷ xs) h = rw (h x (inl refl)) (ap (λ r. g (placed nodes x) ∷ r) (insts-over nodes nodes' g xs (λ n l. h n (inr l))))

insts-same : (nodes nodes' : List Node) (xs : List ℕ) → ((n : ℕ) → IsListed n xs → placed nodes' n ≡ placed nodes n) → map (placed nodes') xs ≡ map (placed nodes) xs
insts-same nodes nodes' [] h = refl
insts-same nodes nodes' (x ∷ xs) h = rw (h x (inl refl)) (ap (λ r. placed nodes x ∷ r) (insts-same nodes nodes' xs (λ n l. h n (inr l))))

pub blocks-over : (nodes nodes' : List Node) (g : Placed → Placed) (parts : List BlockParts) (lists : List (List ℕ)) → ((n : ℕ) → placed nodes' n ≡ g (placed nodes n))
    → blocks_of nodes' parts lists ≡ map (λ (b : Block). with_insts b (map g b.insts)) (blocks_of nodes parts lists)
blocks-over nodes nodes' g [] lists h = refl
blocks-over nodes nodes' g (d ∷ parts) [] h = ap (λ r. record { name = d.name; insts = []; term = d.term } ∷ r) (blocks-over nodes nodes' g parts [] h)
blocks-over nodes nodes' g (d ∷ parts) (xs ∷ lists) h =
    rw (insts-over nodes nodes' g xs (λ n l. h n)) (ap (λ r. record { name = d.name; insts = map g (map (placed nodes) xs); term = d.term } ∷ r) (blocks-over nodes nodes' g parts lists h))

get_or-map_fixed : {A : Type 0} (f : A → A) (xs : List A) (n : ℕ) (d : A) → f d ≡ d → get_or (map f xs) n d ≡ f (get_or xs n d)
get_or-map_fixed f [] n d e = sym e
get_or-map_fixed f (x ∷ xs) zero d e = refl
get_or-map_fixed f (x ∷ xs) (suc n) d e = get_or-map_fixed f xs n d e

node_replaced : (l : LocalNo) (by : Val) (nodes : List Node) (n : ℕ) → get_or (map (node_with l by) nodes) n no_node ≡ node_with l by (get_or nodes n no_node)
node_replaced l by nodes n = get_or-map_fixed (node_with l by) nodes n no_node refl

insts-replaced : (l : LocalNo) (by : Val) (nodes : List Node) (xs : List ℕ) → map (placed (map (node_with l by) nodes)) xs ≡ map (placed_with l by) (map (placed nodes) xs)
insts-replaced l by nodes xs = insts-over nodes (map (node_with l by) nodes) (placed_with l by) xs (λ n h. ap (placed_as n) (node_replaced l by nodes n))

pub blocks-replaced : (l : LocalNo) (by : Val) (nodes : List Node) (parts : List BlockParts) (lists : List (List ℕ))
    → blocks_of (map (node_with l by) nodes) (map (parts_with l by) parts) lists ≡ map (block_with l by) (blocks_of nodes parts lists)
blocks-replaced l by nodes [] lists = refl
blocks-replaced l by nodes (d ∷ parts) [] = ap (λ r. record { name = d.name; insts = []; term = term_with l by d.term } ∷ r) (blocks-replaced l by nodes parts [])
blocks-replaced l by nodes (d ∷ parts) (xs ∷ lists) =
    rw (insts-replaced l by nodes xs) (ap (λ r. record { name = d.name; insts = map (placed_with l by) (map (placed nodes) xs); term = term_with l by d.term } ∷ r) (blocks-replaced l by nodes parts lists))

result-with : (l : LocalNo) (by : Val) (inst : Inst) → has_result (inst_with l by inst) ≡ has_result inst
result-with l by (Alloca size head tail) = refl
result-with l by (Gep base offset head index tail) = refl
result-with l by (Step base offset terms head index tail) = refl
result-with l by (Load ty ptr tail) = refl
result-with l by (Store ty val ptr tail) = refl
result-with l by (Copy to from len head tail) = refl
result-with l by (Call callee ret args effects head tail) = refl
result-with l by (Bin op flags ty a b tail) = refl
result-with l by (Cmp pred flags ty a b tail) = refl
result-with l by (Select cond ty a b tail) = refl
result-with l by (Cast op flags from a to tail) = refl
result-with l by (Phi ty entries tail) = refl

pub given-replaced : (l : LocalNo) (by : Val) (nodes : List Node) (results : List ℕ) (params : ℕ) → IsGiven nodes results params → IsGiven (map (node_with l by) nodes) results params
given-replaced l by nodes results params g =
    given-same nodes (map (node_with l by) nodes) results params g (length-map nodes (node_with l by))
    (λ n. ap (λ (x : Node). x.result) (node_replaced l by nodes n))
    (λ n lt.
    let within : n < length nodes = simp length-map at lt in
    ap (λ (x : Node). is_some x.result) (node_replaced l by nodes n) ∙ g.gives n within ∙ sym (ap (λ (x : Node). has_result x.inst) (node_replaced l by nodes n) ∙ result-with l by (get_or nodes n no_node).inst))

result-sourced : (arg : Arg) (inst : Inst) → has_result (inst_sourced arg inst) ≡ has_result inst
result-sourced arg (Alloca size head tail) = refl
result-sourced arg (Gep base offset head index tail) = refl
result-sourced arg (Step base offset terms head index tail) = refl
result-sourced arg (Load ty ptr tail) = refl
result-sourced arg (Store ty val ptr tail) = refl
result-sourced arg (Copy to from len head tail) = refl
result-sourced arg (Call callee ret args effects head tail) = refl
result-sourced arg (Bin op flags ty a b tail) = refl
result-sourced arg (Cmp pred flags ty a b tail) = refl
result-sourced arg (Select cond ty a b tail) = refl
result-sourced arg (Cast op flags from a to tail) = refl
result-sourced arg (Phi ty entries tail) = refl

-- one copy reads another source
pub blocks-sourced : (n : ℕ) (arg : Arg) (nodes : List Node) (node : Node) (parts : List BlockParts) (lists : List (List ℕ)) → n < length nodes
    → node ≡ record (get_or nodes n no_node) { inst = inst_sourced arg (get_or nodes n no_node).inst }
    → blocks_of (set nodes n node) parts lists ≡ map (block_sourced n arg) (blocks_of nodes parts lists)
blocks-sourced n arg nodes node parts lists lt is =
    blocks-over nodes (set nodes n node) (placed_sourced n arg) parts lists
    (λ k. elim (eqb_tells k n) [
      | inl same ↦ rw (same.0, same.1, get_or-set_same nodes n node no_node lt, is) refl
      | inr other ↦ rw (other.0, get_or-set_other nodes n k node no_node other.1) refl
    ])

pub given-sourced : (n : ℕ) (arg : Arg) (nodes : List Node) (node : Node) (results : List ℕ) (params : ℕ) → IsGiven nodes results params → n < length nodes
    → node ≡ record (get_or nodes n no_node) { inst = inst_sourced arg (get_or nodes n no_node).inst }
    → IsGiven (set nodes n node) results params
given-sourced n arg nodes node results params g lt is =
    given-set nodes results params n node g lt (ap (λ (x : Node). x.result) is)
    (ap (λ (x : Node). has_result x.inst) is ∙ result-sourced arg (get_or nodes n no_node).inst ∙ sym (g.gives n lt) ∙ sym (ap (λ (x : Node). is_some x.result) is))

pub blocks-term : (nodes : List Node) (parts : List BlockParts) (lists : List (List ℕ)) (b : ℕ) (term : Term) (d : BlockParts) → b < length parts
    → blocks_of nodes (set parts b (record (get_or parts b d) { term = term })) lists ≡ with_term (blocks_of nodes parts lists) b term
blocks-term nodes [] lists b term d lt = absurd (omega arith)
blocks-term nodes (p ∷ parts) [] zero term d lt = refl
blocks-term nodes (p ∷ parts) (xs ∷ lists) zero term d lt = refl
blocks-term nodes (p ∷ parts) [] (suc b) term d lt = ap (λ r. record { name = p.name; insts = []; term = p.term } ∷ r) (blocks-term nodes parts [] b term d (omega arith))
blocks-term nodes (p ∷ parts) (xs ∷ lists) (suc b) term d lt = ap (λ r. record { name = p.name; insts = map (placed nodes) xs; term = p.term } ∷ r) (blocks-term nodes parts lists b term d (omega arith))

blocks-same : (nodes nodes' : List Node) (parts : List BlockParts) (lists : List (List ℕ)) → ((b n : ℕ) → IsListed n (get_or lists b []) → placed nodes' n ≡ placed nodes n) → blocks_of nodes' parts lists ≡ blocks_of nodes parts lists
blocks-same nodes nodes' [] lists h = refl
blocks-same nodes nodes' (d ∷ parts) [] h = ap (λ r. record { name = d.name; insts = []; term = d.term } ∷ r) (blocks-same nodes nodes' parts [] (λ b n l. absurd l))
blocks-same nodes nodes' (d ∷ parts) (xs ∷ lists) h =
    rw (insts-same nodes nodes' xs (h 0)) (ap (λ r. record { name = d.name; insts = map (placed nodes) xs; term = d.term } ∷ r) (blocks-same nodes nodes' parts lists (λ b. h (suc b))))

-- the instructions of one block change
blocks-one : (nodes nodes' : List Node) (g : Placed → Placed) (parts : List BlockParts) (lists : List (List ℕ)) (c : ℕ) → length parts ≡ length lists
    → ((n : ℕ) → IsListed n (get_or lists c []) → placed nodes' n ≡ g (placed nodes n))
    → ((b n : ℕ) → b ≢ c → IsListed n (get_or lists b []) → placed nodes' n ≡ placed nodes n)
    → blocks_of nodes' parts lists ≡ set (blocks_of nodes parts lists) c (with_insts (get_or (blocks_of nodes parts lists) c no_block) (map g (insts_at (blocks_of nodes parts lists) c)))
blocks-one nodes nodes' g [] [] c e h o = refl
blocks-one nodes nodes' g [] (xs ∷ lists) c e h o = absurd (omega arith)
blocks-one nodes nodes' g (d ∷ parts) [] c e h o = absurd (omega arith)
blocks-one nodes nodes' g (d ∷ parts) (xs ∷ lists) zero e h o =
    rw (insts-over nodes nodes' g xs h) (ap (λ r. record { name = d.name; insts = map g (map (placed nodes) xs); term = d.term } ∷ r) (blocks-same nodes nodes' parts lists (λ b n. o (suc b) n (λ w. absurd (omega (arith, w))))))
blocks-one nodes nodes' g (d ∷ parts) (xs ∷ lists) (suc c) e h o =
    rw (insts-same nodes nodes' xs (λ n. o 0 n (λ w. absurd (omega (arith, w))))) (ap (λ r. record { name = d.name; insts = map (placed nodes) xs; term = d.term } ∷ r)
    (blocks-one nodes nodes' g parts lists c (omega arith) h (λ b n ne. o (suc b) n (λ w. ne (omega (arith, w))))))

-- what is in no place of a list is not in it
not_in-nowhere : (n : ℕ) (xs : List ℕ) → ((j : ℕ) → slice_get xs j ≡ Some n → ⊥) → NotIn n xs
not_in-nowhere n [] h = tt
not_in-nowhere n (x ∷ xs) h = (λ e. h 0 (ap Some e), not_in-nowhere n xs (λ j. h (suc j)))

listed_elsewhere : (lists : List (List ℕ)) (n b c : ℕ) → StandOnce lists → b ≢ c → IsListed n (get_or lists b []) → NotIn n (get_or lists c [])
listed_elsewhere lists n b c once ne h =
    let at = listed_place n (get_or lists b []) h in
    not_in-nowhere n (get_or lists c []) (λ j e. ne (once n b at.0 c j at.1 e).0)

-- the phis of one block lose an entry
pub blocks-lost : (nodes nodes' : List Node) (parts : List BlockParts) (lists : List (List ℕ)) (c from : ℕ) → length parts ≡ length lists → StandOnce lists
    → ((n : ℕ) → IsListed n (get_or lists c []) → get_or nodes' n no_node ≡ node_without from (get_or nodes n no_node))
    → ((n : ℕ) → NotIn n (get_or lists c []) → get_or nodes' n no_node ≡ get_or nodes n no_node)
    → blocks_of nodes' parts lists ≡ with_entry_lost (blocks_of nodes parts lists) c from
blocks-lost nodes nodes' parts lists c from e once here others =
    blocks-one nodes nodes' (placed_without from) parts lists c e
    (λ n h. ap (placed_as n) (here n h))
    (λ b n ne h. ap (placed_as n) (others n (listed_elsewhere lists n b c once ne h)))

listed_or_not : (n : ℕ) (xs : List ℕ) → IsListed n xs ⊎ NotIn n xs
listed_or_not n [] = inr tt
listed_or_not n (x ∷ xs) = elim (eqb_tells x n) [
  | inl same ↦ inl (inl same.1)
  | inr other ↦ elim (listed_or_not n xs) [
    | inl h ↦ inl (inr h)
    | inr h ↦ inr (other.1, h)
  ]
]

result-without : (from : ℕ) (inst : Inst) → has_result (inst_without from inst) ≡ has_result inst
result-without from (Alloca size head tail) = refl
result-without from (Gep base offset head index tail) = refl
result-without from (Step base offset terms head index tail) = refl
result-without from (Load ty ptr tail) = refl
result-without from (Store ty val ptr tail) = refl
result-without from (Copy to src len head tail) = refl
result-without from (Call callee ret args effects head tail) = refl
result-without from (Bin op flags ty a b tail) = refl
result-without from (Cmp pred flags ty a b tail) = refl
result-without from (Select cond ty a b tail) = refl
result-without from (Cast op flags src a to tail) = refl
result-without from (Phi ty entries tail) = refl

pub given-lost : (nodes nodes' : List Node) (results : List ℕ) (params from : ℕ) (xs : List ℕ) → IsGiven nodes results params → length nodes' ≡ length nodes
    → ((n : ℕ) → IsListed n xs → get_or nodes' n no_node ≡ node_without from (get_or nodes n no_node))
    → ((n : ℕ) → NotIn n xs → get_or nodes' n no_node ≡ get_or nodes n no_node)
    → IsGiven nodes' results params
given-lost nodes nodes' results params from xs g len here others =
    given-same nodes nodes' results params g len
    (λ n. elim (listed_or_not n xs) [
      | inl h ↦ ap (λ (x : Node). x.result) (here n h)
      | inr h ↦ ap (λ (x : Node). x.result) (others n h)
    ])
    (λ n lt. elim (listed_or_not n xs) [
      | inl h ↦ rw (here n h) (g.gives n (omega arith) ∙ sym (result-without from (get_or nodes n no_node).inst))
      | inr h ↦ rw (others n h) (g.gives n (omega arith))
    ])

-- one more number of a list
pub not_in_passed : (n : ℕ) (xs : List ℕ) (k : ℕ) → slice_get xs k ≡ Some n → ((j : ℕ) → slice_get xs j ≡ Some n → j ≡ k) → NotIn n (take k xs)
not_in_passed n xs k e once = not_in-nowhere n (take k xs) (λ j f. let in' = taken_place xs k j n f in let same = once j in'.0 in omega (arith, in'.1, same))
  where
    taken_place : (xs : List ℕ) (k j n : ℕ) → slice_get (take k xs) j ≡ Some n → (slice_get xs j ≡ Some n) × (j < k)
    taken_place [] zero j n e = cc
    taken_place [] (suc k) j n e = cc
    taken_place (x ∷ xs) zero j n e = cc
    taken_place (x ∷ xs) (suc k) zero n e = (e, omega arith)
    taken_place (x ∷ xs) (suc k) (suc j) n e = let deeper = taken_place xs k j n e in (deeper.0, omega (arith, deeper.1))

pub listed-passed : (n m : ℕ) (xs : List ℕ) (k : ℕ) → slice_get xs k ≡ Some m → IsListed n (take (suc k) xs) → IsListed n (take k xs) ⊎ (n ≡ m)
listed-passed n m [] k e h = absurd h
listed-passed n m (x ∷ xs) zero e (inl same) = let first : x ≡ m = cc in inr (sym same ∙ first)
listed-passed n m (x ∷ xs) zero e (inr h) = absurd h
listed-passed n m (x ∷ xs) (suc k) e (inl same) = inl (inl same)
listed-passed n m (x ∷ xs) (suc k) e (inr h) = elim (listed-passed n m xs k e h) [
  | inl deeper ↦ inl (inr deeper)
  | inr same ↦ inr same
]

pub not_in-passed : (n m : ℕ) (xs : List ℕ) (k : ℕ) → slice_get xs k ≡ Some m → NotIn n (take (suc k) xs) → NotIn n (take k xs) × (m ≢ n)
not_in-passed n m [] k e h = cc
not_in-passed n m (x ∷ xs) zero e h = let first : x ≡ m = cc in (tt, λ w. h.0 (first ∙ w))
not_in-passed n m (x ∷ xs) (suc k) e h = let deeper = not_in-passed n m xs k e h.1 in ((h.0, deeper.0), deeper.1)

-- after one more number of the list, exactly the nodes of the numbers that were passed are changed
pub record IsPassed (f : Node → Node) (old new : List Node) (xs : List ℕ) : Type 0 where
  pub listed : (n : ℕ) → IsListed n xs → get_or new n no_node ≡ f (get_or old n no_node)
  pub others : (n : ℕ) → NotIn n xs → get_or new n no_node ≡ get_or old n no_node
  pub len : length new ≡ length old

pub passed-more : (f : Node → Node) (old new : List Node) (xs : List ℕ) (k m : ℕ) (node : Node) → slice_get xs k ≡ Some m → ((j : ℕ) → slice_get xs j ≡ Some m → j ≡ k) → m < length old
    → node ≡ f (get_or new m no_node) → IsPassed f old new (take k xs) → IsPassed f old (set new m node) (take (suc k) xs)
passed-more f old new xs k m node e once lt is p =
    let out : NotIn m (take k xs) = not_in_passed m xs k e once in
    let in' : m < length new = omega (arith, p.len) in
    record {
      listed = λ n h. elim (eqb_tells n m) [
        | inl same ↦ rw (same.1, get_or-set_same new m node no_node in', is, p.others m out) refl
        | inr other ↦ elim (listed-passed n m xs k e h) [
          | inl before ↦ rw (get_or-set_other new m n node no_node other.1) (p.listed n before)
          | inr same ↦ absurd (other.1 same)
        ]
      ];
      others = λ n h.
          let before = not_in-passed n m xs k e h in
          rw (get_or-set_other new m n node no_node (λ w. before.1 (sym w))) (p.others n before.0);
      len = length-set new m node ∙ p.len;
    }

set_past : {A : Type 0} (xs : List A) (i : ℕ) (x : A) → length xs ≤ i → set xs i x ≡ xs
set_past [] i x le = refl
set_past (y ∷ xs) zero x le = absurd (omega arith)
set_past (y ∷ xs) (suc i) x le = ap (λ r. y ∷ r) (set_past xs i x (omega arith))

-- where the block is not there, nothing changes
pub lost_past : (blocks : List Block) (c from : ℕ) → length blocks ≤ c → with_entry_lost blocks c from ≡ blocks
lost_past blocks c from le = set_past blocks c _ le

-- The branch of block b becomes one to the target that is kept, and the phis of the target that is cut lose an entry.
edge-cut : (nodes nodes' : List Node) (parts : List BlockParts) (lists : List (List ℕ)) (b slot : ℕ) (d : BlockParts) (kept cut : BlockNo) (text : List ℕ) → b < length parts → d ≡ get_or parts b d
    → kept ≡ kept_target (get_or (blocks_of nodes parts lists) b no_block).term slot → cut ≡ cut_target (get_or (blocks_of nodes parts lists) b no_block).term slot → text ≡ []
    → blocks_of nodes' (set parts b (record d { term = Br kept text })) lists ≡ with_entry_lost (blocks_of nodes (set parts b (record d { term = Br kept text })) lists) cut.0 b
    → blocks_of nodes' (set parts b (record d { term = Br kept text })) lists
    ≡ blocks_with_edge_cut (blocks_of nodes parts lists) b (kept_target (get_or (blocks_of nodes parts lists) b no_block).term slot) (cut_target (get_or (blocks_of nodes parts lists) b no_block).term slot)
edge-cut nodes nodes' parts lists b slot d kept cut text lt d_is kept_is cut_is text_is lost =
    let blocks : List Block = blocks_of nodes parts lists in
    let kept' : BlockNo = kept_target (get_or blocks b no_block).term slot in
    lost
    ∙ ap (λ (e : BlockParts). with_entry_lost (blocks_of nodes (set parts b (record e { term = Br kept text })) lists) cut.0 b) d_is
    ∙ ap (λ (bs : List Block). with_entry_lost bs cut.0 b) (blocks-term nodes parts lists b (Br kept text) d lt)
    ∙ ap (λ (t : List ℕ). with_entry_lost (with_term blocks b (Br kept t)) cut.0 b) text_is
    ∙ ap (λ (k : BlockNo). with_entry_lost (with_term blocks b (Br k [])) cut.0 b) kept_is
    ∙ ap (λ (k : BlockNo). with_entry_lost (with_term blocks b (Br kept' [])) k.0 b) cut_is

pub edge-cut_there : (nodes nodes' : List Node) (parts : List BlockParts) (lists : List (List ℕ)) (b slot : ℕ) (d : BlockParts) (kept cut : BlockNo) (text : List ℕ) → b < length parts → d ≡ get_or parts b d
    → kept ≡ kept_target (get_or (blocks_of nodes parts lists) b no_block).term slot → cut ≡ cut_target (get_or (blocks_of nodes parts lists) b no_block).term slot → text ≡ []
    → length parts ≡ length lists → StandOnce lists
    → ((n : ℕ) → IsListed n (get_or lists cut.0 []) → get_or nodes' n no_node ≡ node_without b (get_or nodes n no_node))
    → ((n : ℕ) → NotIn n (get_or lists cut.0 []) → get_or nodes' n no_node ≡ get_or nodes n no_node)
    → blocks_of nodes' (set parts b (record d { term = Br kept text })) lists
    ≡ blocks_with_edge_cut (blocks_of nodes parts lists) b (kept_target (get_or (blocks_of nodes parts lists) b no_block).term slot) (cut_target (get_or (blocks_of nodes parts lists) b no_block).term slot)
edge-cut_there nodes nodes' parts lists b slot d kept cut text lt d_is kept_is cut_is text_is e once here others =
    edge-cut nodes nodes' parts lists b slot d kept cut text lt d_is kept_is cut_is text_is
    (blocks-lost nodes nodes' (set parts b (record d { term = Br kept text })) lists cut.0 b (length-set parts b (record d { term = Br kept text }) ∙ e) once here others)

pub edge-cut_past : (nodes : List Node) (parts : List BlockParts) (lists : List (List ℕ)) (b slot : ℕ) (d : BlockParts) (kept cut : BlockNo) (text : List ℕ) → b < length parts → d ≡ get_or parts b d
    → kept ≡ kept_target (get_or (blocks_of nodes parts lists) b no_block).term slot → cut ≡ cut_target (get_or (blocks_of nodes parts lists) b no_block).term slot → text ≡ []
    → length parts ≤ cut.0
    → blocks_of nodes (set parts b (record d { term = Br kept text })) lists
    ≡ blocks_with_edge_cut (blocks_of nodes parts lists) b (kept_target (get_or (blocks_of nodes parts lists) b no_block).term slot) (cut_target (get_or (blocks_of nodes parts lists) b no_block).term slot)
edge-cut_past nodes parts lists b slot d kept cut text lt d_is kept_is cut_is text_is past =
    let parts' : List BlockParts = set parts b (record d { term = Br kept text }) in
    edge-cut nodes nodes parts lists b slot d kept cut text lt d_is kept_is cut_is text_is
    (sym (lost_past (blocks_of nodes parts' lists) cut.0 b (omega (arith, length-blocks_of nodes parts' lists, length-set parts b (record d { term = Br kept text })))))
