-- The uses of a local, over all instructions and terminators.
use Rattle.std.proofs.Common.{◌≡◌, ◌∙◌, ◌<◌, ℕ, zero, suc, Bool, false, List, [], ◌∷◌, length, get_or, Some, refl, sym, ap, subst, arith}
use Rattle.std.specs.Prelude.{IsTrue, ◌↔◌, slice_get, option_map}
use Rattle.std.proofs.lemmas.Bool.{false≢true}
use Rattle.std.proofs.lemmas.Option.{slice_get_within, slice_get-get_or, get_or_from_slice_get, none-some, same_Some}
use Rattle.ms_ir.specs.declared.names.LocalNo.{LocalNo}
use Rattle.ms_ir.specs.declared.inst.Inst.{Inst}
use Rattle.ms_ir.specs.Func.{Placed, Block, FuncState, IsAt, IsNowhere, insts_at, no_block, parts_of, node_parts}
use Rattle.ms_ir.specs.Locals.{IsNumbered}
use Rattle.ms_ir.proofs.FuncLemmas.{not_nowhere}
use Rattle.ms_ir.specs.declared.inst.Val.TheVariants.{Local}
use Rattle.ms_ir.specs.Uses.{Operand, operands_of}
use Rattle.ms_edits.specs.declared.operands.Ask.TheVariants.{Is}
use Rattle.ms_ir.specs.declared.func.Node.{Node}
use Rattle.ms_ir.specs.Edits.{IsOperandIn}
use Rattle.ms_edits.proofs.PlaceLemmas.{node_there, same_result}
use Rattle.ms_edits.specs.Told.{HasIn, IsAsked, IsResultUsed, HasOperand, HasTermOperand, InstHas, NumberHasOperand, TermHas}

pub number_told : (blocks : List Block) (n : ℕ) (l : LocalNo) (inst : Inst) (t : Bool) → ((b : ℕ) × (k : ℕ) × (x : Placed) × IsAt blocks n b k x × (x.inst ≡ inst))
    → ((b k : ℕ) (x : Placed) → IsAt blocks n b k x → x.inst ≡ inst) → (IsTrue t ↔ InstHas inst l) → IsTrue t ↔ NumberHasOperand blocks n l
number_told blocks n l inst t (b, k, x, at, is) each told = (
  λ s. (b, k, x, at, subst (λ (i : Inst). InstHas i l) (sym is) (told.0 s)),
  λ (c, j, y, there, has). told.1 (subst (λ (i : Inst). InstHas i l) (each c j y there) has),
)

pub no_number : (blocks : List Block) (n : ℕ) (l : LocalNo) → IsNowhere blocks n → IsTrue false ↔ NumberHasOperand blocks n l
no_number blocks n l none = (
  λ s. absurd (false≢true s),
  λ (b, k, x, at, has). absurd (not_nowhere (insts_at blocks b) n k x (none b) at.found at.numbered),
)

pub block_in : (blocks : List Block) (b k : ℕ) (x : Placed) → slice_get (insts_at blocks b) k ≡ Some x → b < length blocks
block_in [] b k x e = absurd (none-some x e)
block_in (y ∷ blocks) zero k x e = omega arith
block_in (y ∷ blocks) (suc b) k x e = (let r = block_in blocks b k x e in omega (arith, r))

-- an instruction has a number
pub numbered_has : (f : FuncState) (l : LocalNo) → IsNumbered f → HasOperand f.blocks l → (n : ℕ) × (n < f.made) × NumberHasOperand f.blocks n l
numbered_has f l num (b, k, x, found, has) = (x.number, num.below_made b k x found, (b, k, x, record { block = block_in f.blocks b k x found; found = found; numbered = refl }, has))

pub has_numbered : (blocks : List Block) (n : ℕ) (l : LocalNo) → NumberHasOperand blocks n l → HasOperand blocks l
has_numbered blocks n l (b, k, x, at, has) = (b, k, x, at.found, has)

pub term_here : (blocks : List Block) (b : ℕ) (l : LocalNo) → b < length blocks → TermHas (get_or blocks b no_block).term l → HasTermOperand blocks l
term_here blocks b l lt has = (b, get_or blocks b no_block, slice_get-get_or blocks b no_block lt, has)

pub here_term : (blocks : List Block) (l : LocalNo) → HasTermOperand blocks l → (b : ℕ) × (b < length blocks) × TermHas (get_or blocks b no_block).term l
here_term blocks l (b, x, found, has) = (b, slice_get_within blocks b x found, subst (λ (y : Block). TermHas y.term l) (sym (get_or_from_slice_get blocks b x no_block found)) has)

-- an operand that is this local
pub asked_is : (f : FuncState) (l : LocalNo) (o : Operand) → IsAsked f (Is l) o → o.val ≡ Local l
asked_is f l o (m, is, same) = is ∙ ap (λ (k : LocalNo). Local k) same

pub is_asked_so : (f : FuncState) (l : LocalNo) (o : Operand) → o.val ≡ Local l → IsAsked f (Is l) o
is_asked_so f l o is = (l, is, refl)

pub inst_told : (f : FuncState) (l : LocalNo) (inst : Inst) (t : Bool) → (IsTrue t ↔ HasIn (operands_of inst) (IsAsked f (Is l))) → IsTrue t ↔ InstHas inst l
inst_told f l inst t told = (
  λ s. let h = told.0 s in (h.0, h.1, asked_is f l h.0 h.2),
  λ h. told.1 (h.0, h.1, is_asked_so f l h.0 h.2),
)

pub result_told : (f : FuncState) (b place : ℕ) (node : Node) (l : LocalNo) (t : Bool) → Some (parts_of node) ≡ option_map node_parts (slice_get (insts_at f.blocks b) place) → node.result ≡ Some l
    → (IsTrue t ↔ IsOperandIn f.blocks l) → IsTrue t ↔ IsResultUsed f b place
result_told f b place node l t e is told =
    let r = node_there (slice_get (insts_at f.blocks b) place) node e in
    let gives : r.0.result ≡ Some l = same_result r.0 node r.2 ∙ is in (
      λ s. (r.0, l, r.1, gives, told.0 s),
      λ (x, m, found, its, used). told.1 (
          let one : x ≡ r.0 = same_Some x r.0 (sym found ∙ r.1) in
          let same : m ≡ l = same_Some m l (sym its ∙ ap (λ (z : Placed). z.result) one ∙ gives) in
          subst (λ (k : LocalNo). IsOperandIn f.blocks k) same used),
    )
