use Rattle.std.proofs.Common.{◌≡◌, ◌<◌, ◌≤◌, ◌⊎◌, inl, inr, ℕ, suc, zero, ◌+◌, ◌-◌, List, [], ◌∷◌, ◌++◌, length, get_or, set, Bool, true, false, Option, Some, None, refl, ap, sym, ◌∙◌, subst, arith, length-append, length-set, get_or-set_same, get_or-set_other}
use Rattle.std.specs.Prelude.{if◌then◌else◌, is_some}
use Rattle.std.specs.List.{slice_get}
use Rattle.std.proofs.Math.ListN.{get_or-append}
use Rattle.std.proofs.lemmas.List.{get_or_push, get_or_past}
use Rattle.std.proofs.lemmas.Bool.Decides.{eqb_tells, leb_tells}
use Rattle.ms_ir.specs.declared.names.LocalNo.{LocalNo}
use Rattle.ms_ir.specs.declared.func.Node.{Node}
use Rattle.ms_ir.specs.declared.func.BlockParts.{BlockParts}
use Rattle.ms_ir.specs.Inst.{has_result, result_for}
use Rattle.ms_ir.specs.Links.{NotIn, AllBelow}
use Rattle.ms_ir.specs.Order.{StandOnce}
use Rattle.ms_ir.specs.Func.{Placed, FuncState, no_node, blocks_of, insts_at}
use Rattle.ms_ir.specs.Locals.{IsGiver, IsUngiven, IsGiven, IsNumbered}
use Rattle.ms_ir.proofs.LinkLemmas.{not_in_get}
use Rattle.ms_ir.proofs.FuncLemmas.{IsPlaced, placed_at}

result_at : List Node → ℕ → Option LocalNo
result_at nodes n = (get_or nodes n no_node).result

-- past the end there is no result
within_nodes : (nodes : List Node) (n : ℕ) (l : LocalNo) → (get_or nodes n no_node).result ≡ Some l → n < length nodes
within_nodes nodes n l e =
    elim (leb_tells (length nodes) n) [
      | inl past ↦ absurd (let none : None ≡ Some l = sym (ap (λ (x : Node). x.result) (get_or_past nodes n no_node past.1)) ∙ e in cc)
      | inr within ↦ within.1
    ]

given-put_by : (nodes : List Node) (results : List ℕ) (params : ℕ) (node : Node) (n next : ℕ) (b : Bool) → IsGiven nodes results params → n ≡ length nodes → next ≡ params + length results
    → has_result node.inst ≡ b → node.result ≡ (if b then Some (record { 0 = next }) else None)
    → IsGiven (nodes ++ node ∷ []) (if b then results ++ n ∷ [] else results) params
given-put_by nodes results params node n next false g en el eb er =
    let more : List Node = nodes ++ node ∷ [] in
    record {
      back = λ k lt.
          let old = g.back k lt in
          let in' : get_or results k 0 < length nodes = within_nodes nodes (get_or results k 0) _ old in
          rw (get_or-append nodes (node ∷ []) no_node (get_or results k 0) in') old;
      forth = λ m l e. elim (leb_tells (length nodes) m) [
        | inl past ↦
            let in_more : m < length more = within_nodes more m l e in
            let last : m ≡ length nodes = omega (arith, past.1, in_more, length-append nodes (node ∷ [])) in
            let none : None ≡ Some l = sym er ∙ sym (ap (λ (x : Node). x.result) (get_or_push nodes node no_node m (sym last))) ∙ e in
            absurd (cc)
        | inr within ↦ g.forth m l (rw (get_or-append nodes (node ∷ []) no_node m within.1) at e)
      ];
      gives = λ m lt. elim (leb_tells (length nodes) m) [
        | inl past ↦
            let last : m ≡ length nodes = omega (arith, past.1, lt, length-append nodes (node ∷ [])) in
            rw (get_or_push nodes node no_node m (sym last), er, eb) refl
        | inr within ↦ rw (get_or-append nodes (node ∷ []) no_node m within.1) (g.gives m within.1)
      ];
      few = omega (arith, g.few, length-append nodes (node ∷ []));
    }
given-put_by nodes results params node n next true g en el eb er =
    let more : List Node = nodes ++ node ∷ [] in
    let longer : List ℕ = results ++ n ∷ [] in
    let new_is : get_or longer (length results) 0 ≡ n = get_or_push results n 0 (length results) refl in
    let node_is : get_or more n no_node ≡ node = get_or_push nodes node no_node n (sym en) in
    record {
      back = λ k lt. elim (leb_tells (length results) k) [
        | inl past ↦
            let last : k ≡ length results = omega (arith, past.1, lt, length-append results (n ∷ [])) in
            rw (last, new_is, node_is, er, el) refl
        | inr within ↦
            let old = g.back k within.1 in
            let in' : get_or results k 0 < length nodes = within_nodes nodes (get_or results k 0) _ old in
            rw (get_or-append results (n ∷ []) 0 k within.1, get_or-append nodes (node ∷ []) no_node (get_or results k 0) in') old
      ];
      forth = λ m l e. elim (leb_tells (length nodes) m) [
        | inl past ↦
            let in_more : m < length more = within_nodes more m l e in
            let last : m ≡ length nodes = omega (arith, past.1, in_more, length-append nodes (node ∷ [])) in
            let both : Some (record { 0 = next }) ≡ Some l = sym er ∙ sym (ap (λ (x : Node). x.result) (get_or_push nodes node no_node m (sym last))) ∙ e in
            let local_is : l.0 ≡ next = (let w : record { 0 = next } ≡ l = cc in ap (λ (k : LocalNo). k.0) (sym w)) in
            (length results, omega (arith, length-append results (n ∷ [])), local_is ∙ el, new_is ∙ en ∙ sym last)
        | inr within ↦
            let old = g.forth m l (rw (get_or-append nodes (node ∷ []) no_node m within.1) at e) in
            (old.0, omega (arith, old.1, length-append results (n ∷ [])), old.2, get_or-append results (n ∷ []) 0 old.0 old.1 ∙ old.3)
      ];
      gives = λ m lt. elim (leb_tells (length nodes) m) [
        | inl past ↦
            let last : m ≡ length nodes = omega (arith, past.1, lt, length-append nodes (node ∷ [])) in
            rw (get_or_push nodes node no_node m (sym last), er, eb) refl
        | inr within ↦ rw (get_or-append nodes (node ∷ []) no_node m within.1) (g.gives m within.1)
      ];
      few = omega (arith, g.few, length-append nodes (node ∷ []), length-append results (n ∷ []));
    }

-- a new instruction, and its result where it gives one
pub given-put : (nodes : List Node) (results : List ℕ) (params : ℕ) (node : Node) (n next : ℕ) → IsGiven nodes results params → n ≡ length nodes → next ≡ params + length results
    → node.result ≡ result_for node.inst next
    → IsGiven (nodes ++ node ∷ []) (if has_result node.inst then results ++ n ∷ [] else results) params
given-put nodes results params node n next g en el er = given-put_by nodes results params node n next (has_result node.inst) g en el refl er

-- instructions change, and keep their results
pub given-same : (nodes nodes' : List Node) (results : List ℕ) (params : ℕ) → IsGiven nodes results params → length nodes' ≡ length nodes
    → ((n : ℕ) → (get_or nodes' n no_node).result ≡ (get_or nodes n no_node).result)
    → ((n : ℕ) → n < length nodes' → is_some (get_or nodes' n no_node).result ≡ has_result (get_or nodes' n no_node).inst)
    → IsGiven nodes' results params
given-same nodes nodes' results params g len same gives = record {
  back = λ k lt. same (get_or results k 0) ∙ g.back k lt;
  forth = λ n l e. g.forth n l (sym (same n) ∙ e);
  gives = gives;
  few = omega (arith, g.few);
}

pub given-set : (nodes : List Node) (results : List ℕ) (params n : ℕ) (node : Node) → IsGiven nodes results params → n < length nodes
    → node.result ≡ (get_or nodes n no_node).result → has_result node.inst ≡ is_some node.result
    → IsGiven (set nodes n node) results params
given-set nodes results params n node g lt same gives =
    given-same nodes (set nodes n node) results params g (length-set nodes n node)
    (λ m. elim (eqb_tells m n) [
      | inl here ↦ rw (here.1, get_or-set_same nodes n node no_node lt) same
      | inr other ↦ rw (get_or-set_other nodes n m node no_node other.1) refl
    ])
    (λ m lt'. elim (eqb_tells m n) [
      | inl here ↦ rw (here.1, get_or-set_same nodes n node no_node lt) (sym gives)
      | inr other ↦ rw (get_or-set_other nodes n m node no_node other.1) (g.gives m (rw length-set at lt'))
    ])

-- what is known of an instruction that gives a local
pub record IsKnownGiver (nodes : List Node) (results : List ℕ) (lists : List (List ℕ)) (params : ℕ) (l : LocalNo) (b place : ℕ) (x : Placed) : Type 0 where
  pub k : ℕ
  pub within : k < length results
  pub local : l.0 ≡ params + k
  pub number : get_or results k 0 ≡ x.number
  pub listed : slice_get (get_or lists b []) place ≡ Some x.number

pub known_giver : (nodes : List Node) (results : List ℕ) (parts : List BlockParts) (lists : List (List ℕ)) (params : ℕ) (l : LocalNo) (b place : ℕ) (x : Placed) → IsGiven nodes results params → length parts ≡ length lists
    → IsGiver (blocks_of nodes parts lists) l b place x → IsKnownGiver nodes results lists params l b place x
known_giver nodes results parts lists params l b place x g e giver =
    let there = placed_at nodes parts lists b place x e giver.found in
    let result_is : (get_or nodes x.number no_node).result ≡ Some l = sym (ap (λ (y : Placed). y.result) there.by_number) ∙ giver.gives in
    let found = g.forth x.number l result_is in
    record { k = found.0; within = found.1; local = found.2; number = found.3; listed = there.listed }

pub ungiven_past : (nodes : List Node) (results : List ℕ) (parts : List BlockParts) (lists : List (List ℕ)) (params : ℕ) (l : LocalNo) → IsGiven nodes results params → length parts ≡ length lists
    → (l.0 < params) ⊎ (params + length results ≤ l.0) → IsUngiven (blocks_of nodes parts lists) l
ungiven_past nodes results parts lists params l g e (inl h) = λ b place x giver.
    let known = known_giver nodes results parts lists params l b place x g e giver in
    omega (arith, h, known.local)
ungiven_past nodes results parts lists params l g e (inr h) = λ b place x giver.
    let known = known_giver nodes results parts lists params l b place x g e giver in
    omega (arith, h, known.local, known.within)

-- the number that the list of results has for a local
pub giver_number : (nodes : List Node) (results : List ℕ) (parts : List BlockParts) (lists : List (List ℕ)) (params n : ℕ) (l : LocalNo) → IsGiven nodes results params → length parts ≡ length lists
    → params ≤ l.0 → get_or results (l.0 - params) 0 ≡ n → (b place : ℕ) (x : Placed) → IsGiver (blocks_of nodes parts lists) l b place x → (x.number ≡ n) × (slice_get (get_or lists b []) place ≡ Some n)
giver_number nodes results parts lists params n l g e le is = λ b place x giver.
    let known = known_giver nodes results parts lists params l b place x g e giver in
    let at : l.0 - params ≡ known.k = omega (arith, known.local) in
    let same : x.number ≡ n = sym known.number ∙ ap (λ k. get_or results k 0) (sym at) ∙ is in
    (same, known.listed ∙ ap Some same)

pub ungiven_out : (nodes : List Node) (results : List ℕ) (parts : List BlockParts) (lists : List (List ℕ)) (params n : ℕ) (l : LocalNo) → IsGiven nodes results params → length parts ≡ length lists
    → params ≤ l.0 → get_or results (l.0 - params) 0 ≡ n → ((b : ℕ) → NotIn n (get_or lists b [])) → IsUngiven (blocks_of nodes parts lists) l
ungiven_out nodes results parts lists params n l g e le is out = λ b place x giver.
    not_in_get n (get_or lists b []) place (out b) (giver_number nodes results parts lists params n l g e le is b place x giver).1

-- the instruction whose number the list of results has
pub gives_local : (nodes : List Node) (results : List ℕ) (params n : ℕ) (l : LocalNo) → IsGiven nodes results params
    → params ≤ l.0 → l.0 - params < length results → get_or results (l.0 - params) 0 ≡ n → (get_or nodes n no_node).result ≡ Some l
gives_local nodes results params n l g le lt is =
    let at : params + (l.0 - params) ≡ l.0 = omega arith in
    let back = g.back (l.0 - params) lt in
    let local : ℕ → LocalNo = λ k. record { 0 = k } in
    ap (λ k. (get_or nodes k no_node).result) (sym is) ∙ back ∙ ap (λ k. Some (local k)) at

pub all_below_at : (n : ℕ) (xs : List ℕ) (p x : ℕ) → AllBelow n xs → slice_get xs p ≡ Some x → x < n
all_below_at n [] p x h e = cc
all_below_at n (y ∷ xs) zero x h e = let same : y ≡ x = cc in rw (← same) h.0
all_below_at n (y ∷ xs) (suc p) x h e = all_below_at n xs p x h.1 e

-- what the lists of numbers and of results tell
pub numbered_by : (f : FuncState) (nodes : List Node) (results : List ℕ) (parts : List BlockParts) (lists : List (List ℕ)) → f.blocks ≡ blocks_of nodes parts lists → length parts ≡ length lists
    → IsGiven nodes results (length f.params) → StandOnce lists → ((b : ℕ) → AllBelow f.made (get_or lists b [])) → f.made ≡ length nodes
    → f.locals ≡ length f.params + length results → f.made < 4294967296 → length f.blocks < 2147483648 → length f.params < 4294967296 → IsNumbered f
numbered_by f nodes results parts lists is e g once below made locals few few_blocks few_params =
    let placed_in : (b j : ℕ) (x : Placed) → slice_get (insts_at f.blocks b) j ≡ Some x → IsPlaced nodes lists b j x =
    λ b j x h. placed_at nodes parts lists b j x e (rw is at h) in
    let giver_in : (l : LocalNo) (b j : ℕ) (x : Placed) → IsGiver f.blocks l b j x → IsKnownGiver nodes results lists (length f.params) l b j x =
    λ l b j x h. known_giver nodes results parts lists (length f.params) l b j x g e (rw is at h) in
    let below_at : (b j : ℕ) (x : Placed) → slice_get (insts_at f.blocks b) j ≡ Some x → x.number < f.made =
    λ b j x h. all_below_at f.made (get_or lists b []) j x.number (below b) (placed_in b j x h).listed in
    record {
      one_place = λ b j c k x y hx hy same. once x.number b j c k (placed_in b j x hx).listed ((placed_in c k y hy).listed ∙ ap Some (sym same));
      below_made = below_at;
      one_giver = λ l b j c k x y hx hy.
          let gx = giver_in l b j x hx in
          let gy = giver_in l c k y hy in
          let same_k : gx.k ≡ gy.k = omega (arith, gx.local, gy.local) in
          let same : x.number ≡ y.number = sym gx.number ∙ ap (λ i. get_or results i 0) same_k ∙ gy.number in
          once x.number b j c k gx.listed (gy.listed ∙ ap Some (sym same));
      result_range = λ l b j x h. let gx = giver_in l b j x h in (omega (arith, gx.local), omega (arith, gx.local, gx.within, locals));
      gives = λ b j x h.
          let there = placed_in b j x h in
          let lt = below_at b j x h in
          let P : Placed → Type 0 = λ y. is_some y.result ≡ has_result y.inst in
          subst P (sym there.by_number) (g.gives x.number (omega (arith, lt, made)));
      few_made = few;
      few_blocks = few_blocks;
      few_params = few_params;
      few_locals = omega (arith, locals, g.few, made);
      params_first = omega (arith, locals);
    }

pub results-put : (b : Bool) (n : ℕ) (results results' : List ℕ) → results' ≡ (if b then results ++ n ∷ [] else results) → length results' ≤ length results + 1
results-put false n results results' e = omega (arith, ap length e)
results-put true n results results' e = omega (arith, ap length e, length-append results (n ∷ []))

-- how many locals there are then
pub locals-put : (b : Bool) (params n : ℕ) (results results' : List ℕ) (len len' : ℕ) → len ≡ length results → len' ≡ length results' → results' ≡ (if b then results ++ n ∷ [] else results)
    → params + len' ≡ (if b then params + len + 1 else params + len)
locals-put false params n results results' len len' el el' e = omega (arith, ap length e)
locals-put true params n results results' len len' el el' e = omega (arith, ap length e, length-append results (n ∷ []))
