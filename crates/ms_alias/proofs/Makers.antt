-- The instruction that makes a pointer, found block by block.
use Rattle.std.proofs.Common.{◌≡◌, ◌+◌, ◌⊎◌, ℕ, zero, suc, Bool, true, false, List, [], ◌∷◌, Option, Some, None, cond, refl, sym, ap, ◌∙◌, inl, inr, ⊎_elim, arith}
use Rattle.std.specs.Prelude.{◌&&◌, not, slice_get, option_map}
use Rattle.std.proofs.lemmas.Bool.{eqb-true, eq-eqb, and_parts, and_from, and_cases, both_ways, false≢true, cond-true, cond-false, not-true, not-false, cases_Bool}
use Rattle.ms_ir.specs.declared.names.LocalNo.{LocalNo}
use Rattle.ms_ir.specs.declared.inst.Inst.{Inst}
use Rattle.ms_ir.specs.Func.{Placed, Block, FuncState, insts_at, NotNumbered, IsNowhere, IsAt, node_parts, parts_of}
use Rattle.ms_ir.specs.declared.func.Node.{Node}
use Rattle.ms_ir.specs.declared.names.Name.{Name}
use Rattle.ms_ir.specs.Locals.{IsGiver, IsUngiven, IsNumbered}
use Rattle.ms_alias.specs.Roots.{Maker, makes, makes_pointer, is_local, is_alloca, maker_in, maker_from, maker_of, or_else, moving_block}

pub pick : {A : Type 0} (b : Bool) (x y z : A) → cond b x y ≡ z → ((b ≡ true) × (x ≡ z)) ⊎ ((b ≡ false) × (y ≡ z))
pick true x y z e = inl (refl, e)
pick false x y z e = inr (refl, e)

pub cases_Option : {A : Type 0} (o : Option A) → (o ≡ None) ⊎ ((x : A) × (o ≡ Some x))
cases_Option None = inl refl
cases_Option (Some x) = inr (x, refl)

pub is_number : (k l : LocalNo) → k.0 ≡ l.0 → k ≡ l
is_number k l e = let make : ℕ → LocalNo = λ n. record { 0 = n } in ap make e

local_is : (l : LocalNo) (o : Option LocalNo) → is_local l o ≡ true → o ≡ Some l
local_is l None e = absurd (false≢true e)
local_is l (Some k) e = ap Some (is_number k l (eqb-true k.0 l.0 e))

pub giver_from : (l : LocalNo) (x : Placed) → makes l x ≡ true → x.result ≡ Some l
giver_from l x e = local_is l x.result (and_parts (makes_pointer x.inst) (is_local l x.result) e).1

pub pointer_from : (l : LocalNo) (x : Placed) → makes l x ≡ true → makes_pointer x.inst ≡ true
pointer_from l x e = (and_parts (makes_pointer x.inst) (is_local l x.result) e).0

abbrev maker_at : ℕ → Placed → Maker
maker_at b x = record { block = b; inst = x.inst }

-- the maker in a list stands there
pub maker_in_list : (b : ℕ) (xs : List Placed) (l : LocalNo) (m : Maker) → maker_in b xs l ≡ Some m
    → (k : ℕ) × (x : Placed) × (slice_get xs k ≡ Some x) × (makes l x ≡ true) × (m ≡ maker_at b x)
maker_in_list b [] l m e = cc
maker_in_list b (x ∷ xs) l m e =
    ⊎_elim
    (λ (t : (makes l x ≡ true) × (Some (maker_at b x) ≡ Some m)). (zero, x, refl, t.0, let u = t.1 in cc))
    (λ (f : (makes l x ≡ false) × (maker_in b xs l ≡ Some m)). let rest = maker_in_list b xs l m f.1 in (suc rest.0, rest.1, rest.2, rest.3, rest.4))
    (pick (makes l x) (Some (maker_at b x)) (maker_in b xs l) (Some m) e)

-- what makes a local in a list is found
pub maker_in_found : (b : ℕ) (xs : List Placed) (l : LocalNo) (k : ℕ) (x : Placed) → slice_get xs k ≡ Some x → makes l x ≡ true → (m : Maker) × (maker_in b xs l ≡ Some m)
maker_in_found b [] l k x e t = cc
maker_in_found b (y ∷ ys) l zero x e t = (maker_at b y, let same : y ≡ x = cc in let u : makes l y ≡ true = ap (makes l) same ∙ t in rw u refl)
maker_in_found b (y ∷ ys) l (suc k) x e t =
    let rest = maker_in_found b ys l k x e t in
    first b (makes l y) (Some (maker_at b y)) (maker_in b ys l) (maker_at b y, refl) rest where
      first : (b : ℕ) (t : Bool) (here there : Option Maker) → (m : Maker) × (here ≡ Some m) → (m : Maker) × (there ≡ Some m) → (m : Maker) × (cond t here there ≡ Some m)
      first b true here there h r = h
      first b false here there h r = r

pub maker_in_blocks : (b : ℕ) (blocks : List Block) (l : LocalNo) (m : Maker) → maker_from b blocks l ≡ Some m
    → (c : ℕ) × (k : ℕ) × (x : Placed) × (m.block ≡ b + c) × (slice_get (insts_at blocks c) k ≡ Some x) × (makes l x ≡ true) × (m.inst ≡ x.inst)
maker_in_blocks b [] l m e = cc
maker_in_blocks b (y ∷ ys) l m e =
    ⊎_elim
    (λ (none : maker_in b y.insts l ≡ None).
    let later : maker_from (suc b) ys l ≡ Some m = sym (ap (λ o. or_else o (maker_from (suc b) ys l)) none) ∙ e in
    let rest = maker_in_blocks (suc b) ys l m later in
    let step : m.block ≡ b + suc rest.0 = let r = rest.3 in omega arith in
    (suc rest.0, rest.1, rest.2, step, rest.4, rest.5, rest.6))
    (λ (some : (n : Maker) × (maker_in b y.insts l ≡ Some n)).
    let same : Some some.0 ≡ Some m = sym (ap (λ o. or_else o (maker_from (suc b) ys l)) some.1) ∙ e in
    let is : some.0 ≡ m = cc in
    let here = maker_in_list b y.insts l some.0 some.1 in
    let block : m.block ≡ b + 0 = ap (λ (n : Maker). n.block) (sym is ∙ here.4) ∙ omega arith in
    (zero, here.0, here.1, block, here.2, here.3, ap (λ (n : Maker). n.inst) (sym is ∙ here.4)))
    (cases_Option (maker_in b y.insts l))

found_or : (o p : Option Maker) → (m : Maker) × (p ≡ Some m) → (m : Maker) × (or_else o p ≡ Some m)
found_or None p h = h
found_or (Some n) p h = (n, refl)

pub maker_found : (b : ℕ) (blocks : List Block) (l : LocalNo) (c k : ℕ) (x : Placed) → slice_get (insts_at blocks c) k ≡ Some x → makes l x ≡ true → (m : Maker) × (maker_from b blocks l ≡ Some m)
maker_found b [] l c k x e t = cc
maker_found b (y ∷ ys) l zero k x e t =
    let here = maker_in_found b y.insts l k x e t in
    (here.0, ap (λ o. or_else o (maker_from (suc b) ys l)) here.1)
maker_found b (y ∷ ys) l (suc c) k x e t = found_or (maker_in b y.insts l) (maker_from (suc b) ys l) (maker_found (suc b) ys l c k x e t)

makes_from : (l : LocalNo) (x : Placed) → makes_pointer x.inst ≡ true → x.result ≡ Some l → makes l x ≡ true
makes_from l x p e = and_from (makes_pointer x.inst) (is_local l x.result) p (ap (is_local l) e ∙ eq-eqb l.0 l.0 refl)

-- without an instruction that gives it and makes a pointer, a local has no maker
pub no_maker : (f : FuncState) (l : LocalNo) → ((b k : ℕ) (x : Placed) → IsGiver f.blocks l b k x → makes_pointer x.inst ≡ true → ⊥) → maker_of f l ≡ None
no_maker f l none =
    ⊎_elim
    (λ (e : maker_of f l ≡ None). e)
    (λ (some : (m : Maker) × (maker_of f l ≡ Some m)).
    let there = maker_in_blocks 0 f.blocks l some.0 some.1 in
    absurd (none there.0 there.1 there.2 (record { found = there.4; gives = giver_from l there.2 there.5 }) (pointer_from l there.2 there.5)))
    (cases_Option (maker_of f l))

same_maker : (m : Maker) (b : ℕ) (inst : Inst) → m.block ≡ b → m.inst ≡ inst → m ≡ record { block = b; inst = inst }
same_maker m b inst p q = let make : ℕ → Maker = λ c. record { block = c; inst = m.inst } in let put : Inst → Maker = λ i. record { block = b; inst = i } in ap make p ∙ ap put q

-- the instruction that gives a local makes it, where it makes a pointer
pub giver_makes : (f : FuncState) → IsNumbered f → (l : LocalNo) (b k : ℕ) (x : Placed) → IsGiver f.blocks l b k x → makes_pointer x.inst ≡ true → maker_of f l ≡ Some (record { block = b; inst = x.inst })
giver_makes f n l b k x g p =
    let some = maker_found 0 f.blocks l b k x g.found (makes_from l x p g.gives) in
    let there = maker_in_blocks 0 f.blocks l some.0 some.1 in
    let one = n.one_giver l there.0 there.1 b k there.2 x (record { found = there.4; gives = giver_from l there.2 there.5 }) g in
    let same : Some there.2 ≡ Some x = sym there.4 ∙ ap (λ c. slice_get (insts_at f.blocks c) there.1) one.0 ∙ ap (slice_get (insts_at f.blocks b)) one.1 ∙ g.found in
    let is : there.2 ≡ x = cc in
    let block : some.0.block ≡ b = there.3 ∙ (let o = one.0 in omega arith) in
    some.1 ∙ ap Some (same_maker some.0 b x.inst block (there.6 ∙ ap (λ (y : Placed). y.inst) is))

-- and none makes it otherwise
pub giver_makes_none : (f : FuncState) → IsNumbered f → (l : LocalNo) (b k : ℕ) (x : Placed) → IsGiver f.blocks l b k x → makes_pointer x.inst ≡ false → maker_of f l ≡ None
giver_makes_none f n l b k x g p =
    no_maker f l (λ c j y h t.
    let one = n.one_giver l c j b k y x h g in
    let same : Some y ≡ Some x = sym h.found ∙ ap (λ d. slice_get (insts_at f.blocks d) j) one.0 ∙ ap (slice_get (insts_at f.blocks b)) one.1 ∙ g.found in
    let is : y ≡ x = cc in
    both_ways (makes_pointer x.inst) p (ap (λ (z : Placed). makes_pointer z.inst) (sym is) ∙ t))

abbrev inst_in : Option Maker → Option Inst
inst_in o = option_map (λ m. m.inst) o

parts_inst : (x : Placed) (node : Node) → node_parts x ≡ parts_of node → x.inst ≡ node.inst
parts_inst x node e = ap (λ (p : Inst × Option LocalNo × Name). p.0) e

pub maker_none : (f : FuncState) (l : LocalNo) → IsUngiven f.blocks l → None ≡ inst_in (maker_of f l)
maker_none f l u = sym (ap inst_in (no_maker f l (λ b k x g p. u b k x g)))

pub maker_some : (f : FuncState) (l : LocalNo) (node : Node) → IsNumbered f → (b : ℕ) × (place : ℕ) × (x : Placed) × IsGiver f.blocks l b place x × (node_parts x ≡ parts_of node)
    → makes_pointer node.inst ≡ true → Some node.inst ≡ inst_in (maker_of f l)
maker_some f l node n h p =
    let is : h.2.inst ≡ node.inst = parts_inst h.2 node h.4 in
    sym (ap inst_in (giver_makes f n l h.0 h.1 h.2 h.3 (ap makes_pointer is ∙ p)) ∙ ap Some is)

pub maker_other : (f : FuncState) (l : LocalNo) (node : Node) → IsNumbered f → (b : ℕ) × (place : ℕ) × (x : Placed) × IsGiver f.blocks l b place x × (node_parts x ≡ parts_of node)
    → makes_pointer node.inst ≡ false → None ≡ inst_in (maker_of f l)
maker_other f l node n h p =
    let is : h.2.inst ≡ node.inst = parts_inst h.2 node h.4 in
    sym (ap inst_in (giver_makes_none f n l h.0 h.1 h.2 h.3 (ap makes_pointer is ∙ p)))

pub numbered_there : (n : ℕ) (xs : List Placed) (k : ℕ) (x : Placed) → NotNumbered n xs → slice_get xs k ≡ Some x → x.number ≡ n → ⊥
numbered_there n [] k x h e i = cc
numbered_there n (y ∷ ys) zero x h e i = let same : y ≡ x = cc in h.0 (ap (λ (z : Placed). z.number) same ∙ i)
numbered_there n (y ∷ ys) (suc k) x h e i = numbered_there n ys k x h.1 e i

pub not_nowhere : (blocks : List Block) (n b k : ℕ) (x : Placed) → IsAt blocks n b k x → IsNowhere blocks n → ⊥
not_nowhere blocks n b k x at nowhere = numbered_there n (insts_at blocks b) k x (nowhere b) at.found at.numbered

abbrev pub moves : Inst → Bool
moves inst = makes_pointer inst && not (is_alloca inst)

pub home_none : (f : FuncState) (l : LocalNo) → IsUngiven f.blocks l → None ≡ moving_block (maker_of f l)
home_none f l u = sym (ap moving_block (no_maker f l (λ b k x g p. u b k x g)))

pub home_still : (f : FuncState) (l : LocalNo) → IsNumbered f → (b k : ℕ) (x : Placed) → IsGiver f.blocks l b k x → moves x.inst ≡ false → None ≡ moving_block (maker_of f l)
home_still f l n b k x g m =
    ⊎_elim
    (λ (p : makes_pointer x.inst ≡ false). sym (ap moving_block (giver_makes_none f n l b k x g p)))
    (λ (a : not (is_alloca x.inst) ≡ false).
    ⊎_elim
    (λ (t : makes_pointer x.inst ≡ true).
    sym (ap moving_block (giver_makes f n l b k x g t) ∙ cond-true (is_alloca x.inst) None (Some b) (not-false (is_alloca x.inst) a)))
    (λ (p : makes_pointer x.inst ≡ false). sym (ap moving_block (giver_makes_none f n l b k x g p)))
    (cases_Bool (makes_pointer x.inst)))
    (and_cases (makes_pointer x.inst) (not (is_alloca x.inst)) m)

pub home_moving : (f : FuncState) (l : LocalNo) → IsNumbered f → (b k : ℕ) (x : Placed) → IsGiver f.blocks l b k x → moves x.inst ≡ true → Some b ≡ moving_block (maker_of f l)
home_moving f l n b k x g m =
    let parts = and_parts (makes_pointer x.inst) (not (is_alloca x.inst)) m in
    sym (ap moving_block (giver_makes f n l b k x g parts.0) ∙ cond-false (is_alloca x.inst) None (Some b) (not-true (is_alloca x.inst) parts.1))
