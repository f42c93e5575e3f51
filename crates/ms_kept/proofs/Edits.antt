-- What an insert, a remove and a move leave: the edges, and all other instructions in their order.
use Rattle.std.proofs.Common.{◌≡◌, ℕ, zero, suc, cond, not, eqb, List, [], ◌∷◌, Some, get_or, set, refl, sym, ap, ◌∙◌, subst}
use Rattle.std.specs.Prelude.{slice_get, insert, remove}
use Rattle.std.proofs.lemmas.Bool.{cond-false, eq-eqb}
use Rattle.ms_paths.specs.Flow.{block_at}
use Rattle.ms_ir.specs.Func.{Placed, Block, FuncState, IsTaken, IsShifted, no_block, insts_at, with_insts, put_at, cut_at, after_put}
use Rattle.ms_ir.specs.declared.inst.Inst.{Inst}
use Rattle.ms_ir.specs.declared.names.Name.{Name}
use Rattle.ms_ir.specs.Graph.{graph_of}
use Rattle.ms_kept.specs.Spared.{others, SameBut}

-- n itself is not among the others
own_out : (n : ℕ) (x : Placed) (xs : List Placed) → x.number ≡ n → others n (x ∷ xs) ≡ others n xs
own_out n x xs e = cond-false (not (eqb x.number n)) (x ∷ others n xs) (others n xs) (ap not (eq-eqb x.number n e))

others_put : (n : ℕ) (xs : List Placed) (p : ℕ) (x : Placed) → x.number ≡ n → others n (insert xs p x) ≡ others n xs
others_put n [] zero x e = own_out n x [] e
others_put n [] (suc p) x e = own_out n x [] e
others_put n (y ∷ ys) zero x e = own_out n x (y ∷ ys) e
others_put n (y ∷ ys) (suc p) x e = ap (λ l. cond (not (eqb y.number n)) (y ∷ l) l) (others_put n ys p x e)

others_cut : (n : ℕ) (xs : List Placed) (p : ℕ) (x : Placed) → slice_get xs p ≡ Some x → x.number ≡ n → others n (remove xs p) ≡ others n xs
others_cut n [] p x f e = cc
others_cut n (y ∷ ys) zero x f e = let same : y ≡ x = cc in sym (own_out n y ys (ap (λ (z : Placed). z.number) same ∙ e))
others_cut n (y ∷ ys) (suc p) x f e = ap (λ l. cond (not (eqb y.number n)) (y ∷ l) l) (others_cut n ys p x f e)

-- a block with other instructions, of which the others are the same
rest_set : (n : ℕ) (blocks : List Block) (b : ℕ) (ys : List Placed) → others n ys ≡ others n (insts_at blocks b) → (c : ℕ) →
    others n (insts_at blocks c) ≡ others n (insts_at (set blocks b (with_insts (get_or blocks b no_block) ys)) c)
rest_set n [] b ys h c = refl
rest_set n (x ∷ xs) zero ys h zero = sym h
rest_set n (x ∷ xs) zero ys h (suc c) = refl
rest_set n (x ∷ xs) (suc b) ys h zero = refl
rest_set n (x ∷ xs) (suc b) ys h (suc c) = rest_set n xs b ys h c

next_set : (blocks : List Block) (b : ℕ) (ys : List Placed) (c : ℕ) →
    (block_at (graph_of blocks) c).next ≡ (block_at (graph_of (set blocks b (with_insts (get_or blocks b no_block) ys))) c).next
next_set [] b ys c = refl
next_set (x ∷ xs) zero ys zero = refl
next_set (x ∷ xs) zero ys (suc c) = refl
next_set (x ∷ xs) (suc b) ys zero = refl
next_set (x ∷ xs) (suc b) ys (suc c) = next_set xs b ys c

abbrev with_blocks : FuncState → List Block → FuncState
with_blocks f blocks = record f { blocks = blocks }

cut_same : (f : FuncState) (n b p : ℕ) (x : Placed) → slice_get (insts_at f.blocks b) p ≡ Some x → x.number ≡ n → SameBut f (with_blocks f (cut_at f.blocks b p)) n
cut_same f n b p x found e = record {
  next = next_set f.blocks b (remove (insts_at f.blocks b) p);
  rest = rest_set n f.blocks b (remove (insts_at f.blocks b) p) (others_cut n (insts_at f.blocks b) p x found e);
}

put_blocks : (n : ℕ) (blocks : List Block) (b p : ℕ) (x : Placed) → x.number ≡ n → (c : ℕ) → others n (insts_at blocks c) ≡ others n (insts_at (put_at blocks b p x) c)
put_blocks n blocks b p x e = rest_set n blocks b (insert (insts_at blocks b) p x) (others_put n (insts_at blocks b) p x e)

put_next : (blocks : List Block) (b p : ℕ) (x : Placed) (c : ℕ) → (block_at (graph_of blocks) c).next ≡ (block_at (graph_of (put_at blocks b p x)) c).next
put_next blocks b p x = next_set blocks b (insert (insts_at blocks b) p x)

pub taken_same : (f g : FuncState) (n : ℕ) (inst : Inst) → IsTaken f g n inst → SameBut f g n
taken_same f g n inst t = subst (λ (h : FuncState). SameBut f h n) (sym t.rest) (cut_same f n t.b t.place t.x t.at.found t.at.numbered)

pub shifted_same : (f g : FuncState) (n b place : ℕ) → IsShifted f g n b place → SameBut f g n
shifted_same f g n b place s =
    let cut = cut_same f n s.b s.place s.x s.at.found s.at.numbered in
    subst (λ (h : FuncState). SameBut f h n) (sym s.rest) (record {
      next = λ c. cut.next c ∙ put_next (cut_at f.blocks s.b s.place) b place s.x c;
      rest = λ c. cut.rest c ∙ put_blocks n (cut_at f.blocks s.b s.place) b place s.x s.at.numbered c;
    })

pub put_same : (f : FuncState) (b place : ℕ) (inst : Inst) (name : Name) → SameBut f (after_put f b place inst name) f.made
put_same f b place inst name = record {
  next = put_next f.blocks b place _;
  rest = put_blocks f.made f.blocks b place _ refl;
}
