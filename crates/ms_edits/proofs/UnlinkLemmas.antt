-- The block to which a cut edge led: it has phis and no edge exactly where each of its phis has one entry.
use Rattle.std.proofs.Common.{◌≡◌, ◌∙◌, ◌+◌, ◌<◌, ℕ, zero, suc, Bool, true, false, List, [], ◌∷◌, length, map, Option, Some, None, refl, sym, ap, subst, inl, inr, arith}
use Rattle.std.specs.Prelude.{IsTrue, ◌↔◌, Contains, slice_get, option_map, if◌then◌else◌, ◌==◌}
use Rattle.std.proofs.lemmas.Bool.{cases_eq}
use Rattle.std.proofs.lemmas.List.{length-map}
use Rattle.std.proofs.lemmas.Option.{slice_get_within}
use Rattle.ms_ir.specs.declared.names.BlockNo.{BlockNo}
use Rattle.ms_ir.specs.declared.inst.Inst.{Inst}
use Rattle.ms_ir.specs.declared.inst.Inst.TheVariants.{Alloca, Gep, Step, Load, Store, Copy, Call, Bin, Cmp, Select, Cast, Phi}
use Rattle.ms_ir.specs.declared.inst.Term.{Term}
use Rattle.ms_ir.specs.declared.inst.Term.TheVariants.{Br, CondBr, Ret, Unreachable}
use Rattle.ms_ir.specs.Func.{Placed, Block, FuncState, insts_at}
use Rattle.ms_ir.specs.Changes.{IsCondBr, kept_target, cut_target, placed_without, with_term, with_edge_cut}
use Rattle.ms_paths.specs.Flow.{block_at, HasEdge}
use Rattle.ms_ir.specs.Graph.{graph_of, successors}
use Rattle.ms_ir.specs.Types.{is_phi}
use Rattle.ms_ir.specs.Sound.{HasBadEntries, edges_between, times_in, from_of}
use Rattle.ms_ir.specs.SoundFunc.{IsSoundFunc}
use Rattle.ms_ir.specs.Edits.{term_at, HasIdlePhis}
use Rattle.ms_edited.proofs.Places.{term_stays}
use Rattle.ms_edited.proofs.Faults.{there_is}
use Rattle.ms_edited.proofs.Lost.{lost, lost_at, lost_phi, times_one, times_none, times_first, same_number}
use Rattle.ms_edits.specs.Told.{HasOneEntry, IsOnlyEntered}
use Rattle.ms_edits.proofs.PlaceLemmas.{phis_first}

-- ---- lists of one

one_left : (xs : List ℕ) (b : ℕ) → times_in b xs ≡ 1 → ((a : ℕ) → (a ≡ b → ⊥) → times_in a xs ≡ 0) → length xs ≡ 1
one_left [] b e none = absurd (let z : 0 ≡ 1 = e in omega (arith, z))
one_left (x ∷ []) b e none = refl
one_left (x ∷ y ∷ xs) b e none = elim (cases_eq x b) [
  | inr other ↦ (let z = none x other in let more = times_one x x (y ∷ xs) refl in absurd (omega (arith, z, more)))
  | inl same ↦ elim (cases_eq y b) [
    | inr other ↦
        let z = none y other in
        let all = times_first y x (y ∷ xs) in
        let more = times_one y y xs refl in
        absurd (omega (arith, z, all, more))
    | inl also ↦
        let first = times_one b x (y ∷ xs) same in
        let second = times_one b y xs also in
        absurd (omega (arith, e, first, second))
  ]
]

-- ---- phis whose entries are the edges

abbrev Fits : List Block → ℕ → Inst → Type 0
Fits blocks t inst = HasBadEntries blocks t inst → ⊥

-- the one entry of such a phi is for the block of the one edge
single : (blocks : List Block) (t : ℕ) (inst : Inst) → HasOneEntry inst → Fits blocks t inst → (is_phi inst ≡ true) × ((x : ℕ) × ((a : ℕ) → times_in a (x ∷ []) ≡ edges_between blocks a t))
single blocks t (Phi ty [] tail) h fits = absurd (let z : 0 ≡ 1 = h in omega (arith, z))
single blocks t (Phi ty (e ∷ []) tail) h fits = (refl, (e.from.0, λ a. same_number (times_in a (e.from.0 ∷ [])) (edges_between blocks a t) (λ other. fits (inl (a, other)))))
single blocks t (Phi ty (e ∷ d ∷ es) tail) h fits = absurd (let z : suc (suc (length es)) ≡ 1 = h in omega (arith, z))
single blocks t (Alloca size head tail) h fits = absurd h
single blocks t (Gep base offset head index tail) h fits = absurd h
single blocks t (Step base offset terms head index tail) h fits = absurd h
single blocks t (Load ty ptr tail) h fits = absurd h
single blocks t (Store ty val ptr tail) h fits = absurd h
single blocks t (Copy to from len head tail) h fits = absurd h
single blocks t (Call callee ret args effects head tail) h fits = absurd h
single blocks t (Bin op flags ty a b tail) h fits = absurd h
single blocks t (Cmp pred flags ty a b tail) h fits = absurd h
single blocks t (Select cond ty a b tail) h fits = absurd h
single blocks t (Cast op flags from a to tail) h fits = absurd h

-- a phi of a block to which one edge leads has one entry
entered_once : (blocks : List Block) (t b : ℕ) (inst : Inst) → is_phi inst ≡ true → Fits blocks t inst → edges_between blocks b t ≡ 1 → ((a : ℕ) → (a ≡ b → ⊥) → edges_between blocks a t ≡ 0) → HasOneEntry inst
entered_once blocks t b (Phi ty entries tail) is fits one none =
    let same : (a : ℕ) → times_in a (map from_of entries) ≡ edges_between blocks a t = λ a. same_number (times_in a (map from_of entries)) (edges_between blocks a t) (λ other. fits (inl (a, other))) in
    sym (length-map entries from_of) ∙ one_left (map from_of entries) b (same b ∙ one) (λ a ne. same a ∙ none a ne)
entered_once blocks t b (Alloca size head tail) is fits one none = cc
entered_once blocks t b (Gep base offset head index tail) is fits one none = cc
entered_once blocks t b (Step base offset terms head index tail) is fits one none = cc
entered_once blocks t b (Load ty ptr tail) is fits one none = cc
entered_once blocks t b (Store ty val ptr tail) is fits one none = cc
entered_once blocks t b (Copy to from len head tail) is fits one none = cc
entered_once blocks t b (Call callee ret args effects head tail) is fits one none = cc
entered_once blocks t b (Bin op flags ty x y tail) is fits one none = cc
entered_once blocks t b (Cmp pred flags ty x y tail) is fits one none = cc
entered_once blocks t b (Select cond ty x y tail) is fits one none = cc
entered_once blocks t b (Cast op flags from x to tail) is fits one none = cc

-- ---- the function without the edge

two_ways : (p : Bool) (x y : BlockNo) (c : ℕ) → times_in c (x.0 ∷ y.0 ∷ []) ≡ times_in c ((if p then y else x).0 ∷ []) + times_in c ((if p then x else y).0 ∷ [])
two_ways true x y c = (let e = times_first c x.0 (y.0 ∷ []) in omega (arith, e))
two_ways false x y c = times_first c x.0 (y.0 ∷ [])

both_targets : (term : Term) (slot c : ℕ) → IsCondBr term → times_in c (successors term) ≡ times_in c ((kept_target term slot).0 ∷ []) + times_in c ((cut_target term slot).0 ∷ [])
both_targets (CondBr cond x y text) slot c h = two_ways (slot == 0) x y c
both_targets (Br to text) slot c h = absurd h
both_targets (Ret given text) slot c h = absurd h
both_targets (Unreachable text) slot c h = absurd h

insts_stay : (blocks : List Block) (b : ℕ) (t : Term) (c : ℕ) → insts_at (with_term blocks b t) c ≡ insts_at blocks c
insts_stay [] b t c = refl
insts_stay (x ∷ blocks) zero t zero = refl
insts_stay (x ∷ blocks) zero t (suc c) = refl
insts_stay (x ∷ blocks) (suc b) t zero = refl
insts_stay (x ∷ blocks) (suc b) t (suc c) = insts_stay blocks b t c

term_here : (blocks : List Block) (b : ℕ) (t : Term) → b < length blocks → term_at (with_term blocks b t) b ≡ t
term_here [] b t lt = absurd (omega arith)
term_here (x ∷ blocks) zero t lt = refl
term_here (x ∷ blocks) (suc b) t lt = term_here blocks b t (omega arith)

term_there : (blocks : List Block) (b : ℕ) (t : Term) (c : ℕ) → (c ≡ b → ⊥) → term_at (with_term blocks b t) c ≡ term_at blocks c
term_there [] b t c ne = refl
term_there (x ∷ blocks) zero t zero ne = absurd (ne refl)
term_there (x ∷ blocks) zero t (suc c) ne = refl
term_there (x ∷ blocks) (suc b) t zero ne = refl
term_there (x ∷ blocks) (suc b) t (suc c) ne = term_there blocks b t c (λ e. ne (ap suc e))

from_map : (F : Placed → Placed) (o : Option Placed) (z : Placed) → option_map F o ≡ Some z → (x : Placed) × (o ≡ Some x) × (F x ≡ z)
from_map F None z e = cc
from_map F (Some x) z e = let one : F x ≡ z = cc in (x, refl, one)

module _ (f : FuncState) (sound : IsSoundFunc f) (b slot : ℕ) (is_cond : IsCondBr (term_at f.blocks b)) (in_block : b < length f.blocks) where
  abbrev cut : BlockNo
  cut = cut_target (term_at f.blocks b) slot

  abbrev t : ℕ
  t = cut.0

  abbrev new_end : Term
  new_end = Br (kept_target (term_at f.blocks b) slot) []

  abbrev g : FuncState
  g = with_edge_cut f b slot

  stood : (k : ℕ) → slice_get (insts_at g.blocks t) k ≡ option_map (lost t b t) (slice_get (insts_at f.blocks t) k)
  stood k = lost_at (with_term f.blocks b new_end) t b t k ∙ ap (λ xs. option_map (lost t b t) (slice_get xs k)) (insts_stay f.blocks b new_end t)

  ends : (c : ℕ) → term_at g.blocks c ≡ term_at (with_term f.blocks b new_end) c
  ends c = term_stays (with_term f.blocks b new_end) t c (map (placed_without b) (insts_at (with_term f.blocks b new_end) t))

  edges_here : edges_between f.blocks b t ≡ suc (edges_between g.blocks b t)
  edges_here =
      let all = both_targets (term_at f.blocks b) slot t is_cond in
      let own = times_one t t [] refl in
      let left : edges_between g.blocks b t ≡ times_in t ((kept_target (term_at f.blocks b) slot).0 ∷ []) = ap (λ (e : Term). times_in t (successors e)) (ends b ∙ term_here f.blocks b new_end in_block) in
      let none : times_in t [] ≡ 0 = refl in
      omega (arith, all, own, left, none)

  edges_there : (a : ℕ) → (a ≡ b → ⊥) → edges_between g.blocks a t ≡ edges_between f.blocks a t
  edges_there a ne = ap (λ (e : Term). times_in t (successors e)) (ends a ∙ term_there f.blocks b new_end a ne)

  fits : (k : ℕ) (x : Placed) → slice_get (insts_at f.blocks t) k ≡ Some x → Fits f.blocks t x.inst
  fits k x found = (sound.insts t k x found).entries

  -- where a phi stands, one stands first
  first_phi : (k : ℕ) (x : Placed) → slice_get (insts_at f.blocks t) k ≡ Some x → is_phi x.inst ≡ true → (z : Placed) × (slice_get (insts_at f.blocks t) 0 ≡ Some z) × (is_phi z.inst ≡ true)
  first_phi zero x found is = (x, found, is)
  first_phi (suc k) x found is =
      let within = slice_get_within (insts_at f.blocks t) (suc k) x found in
      let z = there_is (insts_at f.blocks t) 0 (omega (arith, within)) in
      (z.0, z.1, phis_first f sound t (suc k) 0 x z.0 found is (omega arith) z.1)

  idle_once : HasIdlePhis g.blocks t → IsOnlyEntered (insts_at f.blocks t)
  idle_once ((k, z, found, is), none) =
      let old = from_map (lost t b t) (slice_get (insts_at f.blocks t) k) z (sym (stood k) ∙ found) in
      let was : is_phi old.0.inst ≡ true = sym (lost_phi t b t old.0.inst) ∙ ap (λ (w : Placed). is_phi w.inst) old.2 ∙ is in
      let first = first_phi k old.0 old.1 was in
      let no_edge = none b in
      (first.0, first.1, entered_once f.blocks t b first.0.inst first.2 (fits 0 first.0 first.1) (omega (arith, edges_here, no_edge)) (λ a ne. sym (edges_there a ne) ∙ none a))

  once_idle : IsOnlyEntered (insts_at f.blocks t) → HasIdlePhis g.blocks t
  once_idle (x, found, once) =
      let one = single f.blocks t x.inst once (fits 0 x found) in
      let e = one.1.0 in
      let same = one.1.1 in
      let nothing : (a : ℕ) → times_in a [] ≡ 0 = λ a. refl in
      let from_b : e ≡ b = same_number e b (λ ne. (let at = same b in let no = times_none b e [] ne in let z = nothing b in omega (arith, at, no, z, edges_here))) in (
        (0, lost t b t x, stood 0 ∙ ap (option_map (lost t b t)) found, lost_phi t b t x.inst ∙ one.0),
        λ a. elim (cases_eq a b) [
          | inl here ↦
              let at = same b in
              let only = times_one b e [] from_b in
              let z = nothing b in
              ap (λ c. edges_between g.blocks c t) here ∙ (let out : edges_between g.blocks b t ≡ 0 = omega (arith, at, only, z, edges_here) in out)
          | inr other ↦
              let no = times_none a e [] (λ is. other (sym is ∙ from_b)) in
              let z = nothing a in
              edges_there a other ∙ sym (same a) ∙ no ∙ z
        ],
      )

  pub idle_told : (target : ℕ) (s : Bool) → t ≡ target → (IsTrue s ↔ IsOnlyEntered (insts_at f.blocks target)) → IsTrue s ↔ HasIdlePhis g.blocks target
  idle_told target s is told = (
    λ h. subst (λ c. HasIdlePhis g.blocks c) is (once_idle (subst (λ c. IsOnlyEntered (insts_at f.blocks c)) (sym is) (told.0 h))),
    λ h. told.1 (subst (λ c. IsOnlyEntered (insts_at f.blocks c)) is (idle_once (subst (λ c. HasIdlePhis g.blocks c) (sym is) h))),
  )

-- a branch leads to blocks of the function
cut_there : (blocks : List Block) (term : Term) (slot : ℕ) → IsCondBr term → Contains (successors term) (cut_target term slot).0
cut_there blocks (CondBr cond x y text) slot h = either (slot == 0)
  where
    either : (p : Bool) → Contains (x.0 ∷ y.0 ∷ []) (if p then x else y).0
    either true = (zero, omega arith, refl)
    either false = (suc zero, omega arith, refl)
cut_there blocks (Br to text) slot h = absurd h
cut_there blocks (Ret given text) slot h = absurd h
cut_there blocks (Unreachable text) slot h = absurd h

next_at : (blocks : List Block) (b : ℕ) → (block_at (graph_of blocks) b).next ≡ successors (term_at blocks b)
next_at [] b = refl
next_at (x ∷ blocks) zero = refl
next_at (x ∷ blocks) (suc b) = next_at blocks b

graph_size : (blocks : List Block) → length (graph_of blocks) ≡ length blocks
graph_size [] = refl
graph_size (x ∷ blocks) = ap suc (graph_size blocks)

pub cut_in : (f : FuncState) → IsSoundFunc f → (b slot : ℕ) (target : BlockNo) → IsCondBr (term_at f.blocks b) → cut_target (term_at f.blocks b) slot ≡ target → target.0 < length f.blocks
cut_in f sound b slot target is e =
    let edge : HasEdge (graph_of f.blocks) b (cut_target (term_at f.blocks b) slot).0 =
    subst (λ bs. Contains bs (cut_target (term_at f.blocks b) slot).0) (sym (next_at f.blocks b)) (cut_there f.blocks (term_at f.blocks b) slot is) in
    let within = sound.closed.edges_in b (cut_target (term_at f.blocks b) slot).0 edge in
    let same = ap (λ (t : BlockNo). t.0) e in
    let size = graph_size f.blocks in
    omega (arith, within, same, size)
