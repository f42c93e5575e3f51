-- Rows say the lines of an accepted function under its printed names.
use Rattle.std.proofs.Common.{◌≡◌, ◌≤◌, ◌<◌, ◌+◌, ℕ, zero, suc, Bool, true, false, cond, if◌then◌else◌, nat_lt, ◌==◌, List, [], ◌∷◌, ◌++◌, Some, None, length, map, refl, sym, ap, subst, ◌∙◌, inl, inr, ⊎_elim, arith, tests, eq-eqb}
use Rattle.std.specs.Prelude.{slice_get, slice_index_or, filter, Contains}
use Rattle.std.specs.Option.{is_some}
use Rattle.std.proofs.lemmas.Bool.{cases_lt}
use Rattle.std.proofs.lemmas.Option.{slice_get_within}
use Rattle.ms_paths.specs.Flow.{block_at, IsClosed}
use Rattle.ms_ir.specs.declared.names.Name.{Name}
use Rattle.ms_ir.specs.declared.names.Name.TheVariants as name
use Rattle.ms_ir.specs.declared.names.Mark.{Mark}
use Rattle.ms_ir.specs.declared.names.Param.{Param}
use Rattle.ms_ir.specs.declared.names.Ty.{Ty}
use Rattle.ms_ir.specs.declared.names.LocalNo.{LocalNo}
use Rattle.ms_ir.specs.declared.inst.Val.{Val}
use Rattle.ms_ir.specs.declared.inst.Val.TheVariants as val
use Rattle.ms_ir.specs.declared.inst.Entry.{Entry}
use Rattle.ms_ir.specs.declared.inst.Inst.TheVariants as inst
use Rattle.ms_ir.specs.Func.{Placed, Block, FuncState, no_block}
use Rattle.ms_ir.specs.Graph.{graph_of, successors}
use Rattle.ms_ir.specs.Locals.{HasType}
use Rattle.ms_ir.specs.Module.{ModuleState}
use Rattle.ms_ir.specs.Uses.{Operand, arg_operand, index_operand, entry_operand, operands_of, term_operands}
use Rattle.ms_ir.specs.Sound.{HasBadEntries, edges_between, times_in, from_of}
use Rattle.ms_ir.specs.SoundFunc.{IsValueIn, AreValues, IsSoundInst, IsSoundTerm}
use Rattle.ms_grammar.specs.Kept.{Each}
use Rattle.ms_grammar.specs.Grammar.{Says, without_name}
use Rattle.ms_grammar.specs.Form.{name_text, param_parts, dots_parts}
use Rattle.ms_grammar.specs.Fits.{IsNamed, IsParam}
use Rattle.ms_grammar.specs.declared.keyword.Keyword.TheVariants as word
use Rattle.ms_grammar.specs.declared.line.Head.{Head}
use Rattle.ms_grammar.specs.declared.line.Line.TheVariants as said
use Rattle.ms_grammar.specs.declared.line.RawVal.{RawVal}
use Rattle.ms_grammar.specs.declared.line.RawVal.TheVariants.{Num, Local, Global}
use Rattle.ms_grammar.specs.declared.line.RawArg.{RawArg}
use Rattle.ms_grammar.specs.declared.line.RawEntry.{RawEntry}
use Rattle.ms_grammar.specs.declared.line.RawIndex.{RawIndex}
use Rattle.ms_grammar.specs.declared.line.RawInst.{RawInst}
use Rattle.ms_grammar.specs.declared.line.RawInst.TheVariants.{Alloca, Gep, Step, Load, Store, Copy, Call, Bin, Cmp, Select, Cast, Phi}
use Rattle.ms_grammar.specs.declared.line.RawTerm.{RawTerm}
use Rattle.ms_grammar.specs.declared.line.RawTerm.TheVariants.{Br, CondBr, Ret, Unreachable}
use Rattle.ms_resolve.specs.Scope.{Scope, number_of_name, number_of_word, value_of, index_of, args_of, entry_of, inst_of, term_of, behind_first, marks_of, sig_of}
use Rattle.ms_resolve.specs.Used.{values_of, term_values, inst_blocks, term_blocks, arg_value, index_value, entry_value, entry_block}
use Rattle.ms_resolve.specs.Faults.{IsIn}
use Rattle.ms_validity.proofs.ListLemmas.{get_map, map_get}
use Rattle.ms_reread.proofs.Values.{EachBack}
use Rattle.ms_reread.proofs.Pieces.{Back, behind}
use Rattle.ms_again.specs.Ordered.{results_in, place_in, local_at}
use Rattle.ms_again.proofs.Fine.{IsFitVal, IsFitBlock, inst_printed, term_printed}
use Rattle.ms_again.proofs.InOrder.{place_less}
use Rattle.ms_again.proofs.Quiet.{IsPrinted, printed_by}
use Rattle.ms_again.proofs.Renamed.{param_back, head_back, each_dots, brace_next}
use Rattle.ms_again.proofs.Renaming.{renamed_inst, renamed_term}
use Rattle.ms_again.proofs.Sites.{each_at}
use Rattle.ms_reprint.proofs.Parts.{given_in}
use Rattle.ms_reprint.proofs.Lines.{Target, ren, LineOf}
use Rattle.ms_reprint.proofs.Names.{AreGiven, target_of, is_there}

-- ---- the values of a line are those of its instruction

abbrev pub val_of : Operand → Val
val_of o = o.val

args_vals : (s : Scope) (marks : List Mark) (args : List RawArg) → map val_of (map arg_operand (args_of s marks args)) ≡ map (value_of s) (map arg_value args)
args_vals s marks [] = refl
args_vals s marks (a ∷ args) = ap (λ (vs : List Val). value_of s a.val ∷ vs) (args_vals s (behind_first marks) args)

entries_vals : (s : Scope) (ty : Ty) (es : List RawEntry) → map val_of (map (entry_operand ty) (map (entry_of s) es)) ≡ map (value_of s) (map entry_value es)
entries_vals s ty [] = refl
entries_vals s ty (e ∷ es) = ap (λ (vs : List Val). value_of s e.val ∷ vs) (entries_vals s ty es)

terms_vals : (s : Scope) (ts : List RawIndex) → map val_of (map index_operand (map (index_of s) ts)) ≡ map (value_of s) (map index_value ts)
terms_vals s [] = refl
terms_vals s (t ∷ ts) = ap (λ (vs : List Val). value_of s t.val ∷ vs) (terms_vals s ts)

inst_vals : (s : Scope) (i : RawInst) → map val_of (operands_of (inst_of s i)) ≡ map (value_of s) (values_of i)
inst_vals s (Alloca size head rest) = refl
inst_vals s (Gep base offset head index rest) = refl
inst_vals s (Step base offset terms head index rest) = ap (λ (vs : List Val). value_of s base ∷ vs) (terms_vals s terms)
inst_vals s (Load ty ptr rest) = refl
inst_vals s (Store ty v ptr rest) = refl
inst_vals s (Copy to from len head behind rest) = refl
inst_vals s (Call callee ret args head behind rest) = args_vals s (marks_of (sig_of s (number_of_word s.funcs (name_text callee)))) args
inst_vals s (Bin op flags ty a b rest) = refl
inst_vals s (Cmp pred flags ty a b rest) = refl
inst_vals s (Select c ty a b rest) = refl
inst_vals s (Cast op flags from a to rest) = refl
inst_vals s (Phi ty entries rest) = entries_vals s ty entries

term_vals : (s : Scope) (t : RawTerm) → map val_of (term_operands (term_of s t)) ≡ map (value_of s) (term_values t)
term_vals s (Br to rest) = refl
term_vals s (CondBr c a b rest) = refl
term_vals s (Ret None rest) = refl
term_vals s (Ret (Some g) rest) = refl
term_vals s (Unreachable rest) = refl

-- ---- each is one that the function has

abbrev pub IsKnownVal : Target → Scope → RawVal → Type 0
IsKnownVal t s (Num ty n) = Unit {0}
IsKnownVal t s (Local n) = t.at (number_of_name s.locals n) < length t.locals
IsKnownVal t s (Global n) = Unit {0}

abbrev pub IsKnownBlock : Target → Scope → Name → Type 0
IsKnownBlock t s n = number_of_name s.blocks n < length t.blocks

pub record IsKnownUse (t : Target) (s : Scope) (values : List RawVal) (blocks : List Name) : Type 0 where
  pub vals : Each (IsKnownVal t s) values
  pub froms : Each (IsKnownBlock t s) blocks

pub local_less : (f : FuncState) (l : LocalNo) (ty : Ty) → HasType f l ty → local_at (length f.params) (results_in f.blocks) l.0 < length f.params + length (results_in f.blocks)
local_less f l ty (inl (p, at, is)) =
    let less = slice_get_within f.params l.0 p at in
    let t : nat_lt l.0 (length f.params) ≡ true = grind (arith, tests) in
    let stays = ap (λ (b : Bool). if b then l.0 else length f.params + place_in (results_in f.blocks) l.0) t in
    omega arith
local_less f l ty (inr (b, k, x, gives, is)) = by (nat_lt l.0 (length f.params)) refl
  where
    on : IsIn (results_in f.blocks) l.0
    on = given_in f.blocks b k x l gives.found gives.gives

    by : (t : Bool) → nat_lt l.0 (length f.params) ≡ t → local_at (length f.params) (results_in f.blocks) l.0 < length f.params + length (results_in f.blocks)
    by true t = let less : l.0 < length f.params = grind (arith, tests) in let stays = ap (λ (b : Bool). if b then l.0 else length f.params + place_in (results_in f.blocks) l.0) t in omega arith
    by false t =
        let stays = ap (λ (b : Bool). if b then l.0 else length f.params + place_in (results_in f.blocks) l.0) t in
        let less = place_less (results_in f.blocks) on.0 l.0 on.1 in
        omega arith

-- a member by place is a member
pub contains_at : {A : Type 0} (xs : List A) (k : ℕ) (x : A) → slice_get xs k ≡ Some x → Contains xs x
contains_at [] k x e = absurd (cc)
contains_at (y ∷ ys) zero x e = (zero, omega arith, (let same : y ≡ x = cc in same))
contains_at (y ∷ ys) (suc k) x e = let r = contains_at ys k x e in (suc r.0, (let l = r.1 in omega arith), r.2)

local_known : (f : FuncState) (given : AreGiven f) (s : Scope) (os : List Operand) (vs : List RawVal) → map val_of os ≡ map (value_of s) vs → AreValues f os → (k : ℕ) (v : RawVal) → slice_get vs k ≡ Some v → IsKnownVal (target_of f) s v
local_known f given s os vs same values k (Num ty n) at = tt
local_known f given s os vs same values k (Global n) at = tt
local_known f given s os vs same values k (Local n) at =
    let l : LocalNo = record { 0 = number_of_name s.locals n } in
    let from = get_map val_of os k (value_of s (Local n)) (ap (λ (ws : List Val). slice_get ws k) same ∙ map_get (value_of s) vs k (Local n) at) in
    let value : IsValueIn f from.0.ty (val.Local l) = subst (λ (v : Val). IsValueIn f from.0.ty v) from.2 (values from.0 (contains_at os k from.0 from.1)) in
    let less = local_less f l from.0.ty value in
    subst (λ c. local_at (length f.params) (results_in f.blocks) l.0 < c) (sym given.locals_many) less

vals_known : (f : FuncState) (given : AreGiven f) (s : Scope) (os : List Operand) (vs : List RawVal) → map val_of os ≡ map (value_of s) vs → AreValues f os → Each (IsKnownVal (target_of f) s) vs
vals_known f given s os vs same values = each_at (IsKnownVal (target_of f) s) vs (λ k v at. local_known f given s os vs same values k v at)

-- ---- blocks

times_some : (n : ℕ) (xs : List ℕ) (k : ℕ) → slice_get xs k ≡ Some n → 0 < times_in n xs
times_some n [] k e = absurd (cc)
times_some n (x ∷ xs) zero e = here (x == n) (eq-eqb x n (let same : x ≡ n = cc in same))
  where
    here : (t : Bool) → t ≡ true → 0 < length (cond t (x ∷ filter (λ (y : ℕ). y == n) xs) (filter (λ (y : ℕ). y == n) xs))
    here true t = omega arith
    here false t = absurd (cc)
times_some n (x ∷ xs) (suc k) e = later (x == n) (times_some n xs k e)
  where
    later : (t : Bool) → 0 < length (filter (λ (y : ℕ). y == n) xs) → 0 < length (cond t (x ∷ filter (λ (y : ℕ). y == n) xs) (filter (λ (y : ℕ). y == n) xs))
    later true h = omega arith
    later false h = h

none_past : (bs : List Block) (a : ℕ) → length bs ≤ a → slice_index_or bs a no_block ≡ no_block
none_past [] a h = refl
none_past (b ∷ bs) zero h = absurd (omega arith)
none_past (b ∷ bs) (suc a) h = none_past bs a (omega arith)

entry_known : (bs : List Block) (b : ℕ) (ty : Ty) (es : List Entry) (tail : List ℕ) → (HasBadEntries bs b (inst.Phi ty es tail) → ⊥) → (k : ℕ) (e : Entry) → slice_get es k ≡ Some e → e.from.0 < length bs
entry_known bs b ty es tail fine k e at = ⊎_elim
    (λ (less : e.from.0 < length bs). less)
    (λ (more : length bs ≤ e.from.0).
    let some = times_some e.from.0 (map from_of es) k (map_get from_of es k e at) in
    let none : edges_between bs e.from.0 b ≡ 0 = ap (λ (x : Block). times_in b (successors x.term)) (none_past bs e.from.0 more) in
    absurd (fine (inl (e.from.0, λ same. absurd (omega arith)))))
    (cases_lt e.from.0 (length bs))

entries_known : (f : FuncState) (given : AreGiven f) (s : Scope) (es : List RawEntry) → ((k : ℕ) (e : Entry) → slice_get (map (entry_of s) es) k ≡ Some e → e.from.0 < length f.blocks) → Each (IsKnownBlock (target_of f) s) (map entry_block es)
entries_known f given s [] h = tt
entries_known f given s (e ∷ es) h =
    (subst (λ c. number_of_name s.blocks e.from < c) (sym given.blocks_many) (h 0 (entry_of s e) refl), entries_known f given s es (λ k d at. h (suc k) d at))

froms_known : (f : FuncState) (given : AreGiven f) (s : Scope) (b : ℕ) (i : RawInst) → (HasBadEntries f.blocks b (inst_of s i) → ⊥) → Each (IsKnownBlock (target_of f) s) (inst_blocks i)
froms_known f given s b (Alloca size head rest) h = tt
froms_known f given s b (Gep base offset head index rest) h = tt
froms_known f given s b (Step base offset terms head index rest) h = tt
froms_known f given s b (Load ty ptr rest) h = tt
froms_known f given s b (Store ty v ptr rest) h = tt
froms_known f given s b (Copy to from len head behind rest) h = tt
froms_known f given s b (Call callee ret args head behind rest) h = tt
froms_known f given s b (Bin op flags ty x y rest) h = tt
froms_known f given s b (Cmp pred flags ty x y rest) h = tt
froms_known f given s b (Select c ty x y rest) h = tt
froms_known f given s b (Cast op flags from x to rest) h = tt
froms_known f given s b (Phi ty entries rest) h = entries_known f given s entries (λ k e at. entry_known f.blocks b ty (map (entry_of s) entries) rest h k e at)

pub inst_use : (f : FuncState) (given : AreGiven f) (s : Scope) (b k : ℕ) (i : RawInst) → IsSoundInst f b k (inst_of s i) → IsKnownUse (target_of f) s (values_of i) (inst_blocks i)
inst_use f given s b k i sound = record {
  vals = vals_known f given s (operands_of (inst_of s i)) (values_of i) (inst_vals s i) sound.operands;
  froms = froms_known f given s b i sound.entries;
}

next_at : (bs : List Block) (b : ℕ) (x : Block) → slice_get bs b ≡ Some x → (block_at (graph_of bs) b).next ≡ successors x.term
next_at [] b x e = absurd (cc)
next_at (y ∷ bs) zero x e = let same : y ≡ x = cc in ap (λ (z : Block). successors z.term) same
next_at (y ∷ bs) (suc b) x e = next_at bs b x e

graph_size : (bs : List Block) → length (graph_of bs) ≡ length bs
graph_size [] = refl
graph_size (x ∷ bs) = ap suc (graph_size bs)

targets_known : (f : FuncState) (given : AreGiven f) (s : Scope) (t : RawTerm) → ((c : ℕ) → Contains (successors (term_of s t)) c → c < length f.blocks) → Each (IsKnownBlock (target_of f) s) (term_blocks t)
targets_known f given s (Br to rest) h = (subst (λ c. number_of_name s.blocks to < c) (sym given.blocks_many) (h (number_of_name s.blocks to) (0, omega arith, refl)), tt)
targets_known f given s (CondBr c first_to other_to rest) h = (
  subst (λ c. number_of_name s.blocks first_to < c) (sym given.blocks_many) (h (number_of_name s.blocks first_to) (0, omega arith, refl)),
  (subst (λ c. number_of_name s.blocks other_to < c) (sym given.blocks_many) (h (number_of_name s.blocks other_to) (1, omega arith, refl)), tt),
)
targets_known f given s (Ret g rest) h = tt
targets_known f given s (Unreachable rest) h = tt

pub term_use : (f : FuncState) (given : AreGiven f) (s : Scope) (b : ℕ) (x : Block) (t : RawTerm) → IsClosed (graph_of f.blocks) → slice_get f.blocks b ≡ Some x → x.term ≡ term_of s t → IsSoundTerm f b (term_of s t) →
    IsKnownUse (target_of f) s (term_values t) (term_blocks t)
term_use f given s b x t closed at is sound = record {
  vals = vals_known f given s (term_operands (term_of s t)) (term_values t) (term_vals s t) sound.operands;
  froms = targets_known f given s t (λ c on.
      let edge = subst (λ (ns : List ℕ). Contains ns c) (sym (next_at f.blocks b x at ∙ ap successors is)) on in
      subst (λ n. c < n) (graph_size f.blocks) (closed.edges_in b c edge));
}

-- ---- so its names are names

val_fits : (f : FuncState) (given : AreGiven f) (s : Scope) (v : RawVal) → IsKnownVal (target_of f) s v → IsFitVal (ren (target_of f) s) v
val_fits f given s (Num ty n) h = tt
val_fits f given s (Local n) h = (is_there (target_of f).locals ((target_of f).at (number_of_name s.locals n)) h given.locals_apart given.locals_named).named
val_fits f given s (Global n) h = tt

vals_fit : (f : FuncState) (given : AreGiven f) (s : Scope) (vs : List RawVal) → Each (IsKnownVal (target_of f) s) vs → Each (IsFitVal (ren (target_of f) s)) vs
vals_fit f given s [] h = tt
vals_fit f given s (v ∷ vs) h = (val_fits f given s v h.0, vals_fit f given s vs h.1)

froms_fit : (f : FuncState) (given : AreGiven f) (s : Scope) (ns : List Name) → Each (IsKnownBlock (target_of f) s) ns → Each (IsFitBlock (ren (target_of f) s)) ns
froms_fit f given s [] h = tt
froms_fit f given s (n ∷ ns) h = ((is_there (target_of f).blocks (number_of_name s.blocks n) h.0 given.blocks_apart given.blocks_named).named, froms_fit f given s ns h.1)

-- the lines are said

pub inst_said : (m : ModuleState) (f : FuncState) (given : AreGiven f) (n : Name) (x : Placed) (h : LineOf m x) → (is_some x.result ≡ true → IsNamed n) →
    IsKnownUse (target_of f) h.said.scope (values_of h.said.line) (inst_blocks h.said.line) →
    IsPrinted (said.Inst (if is_some x.result then n else name.Absent) (renamed_inst (ren (target_of f) h.said.scope) h.said.line))
inst_said m f given n x h named known =
    let r = ren (target_of f) h.said.scope in
    subst (λ (b : Bool). IsPrinted (said.Inst (if b then n else name.Absent) (renamed_inst r h.said.line))) h.makes_is
    (inst_printed r h.said.name n h.said.bytes h.said.line h.said.says (vals_fit f given h.said.scope _ known.vals) (froms_fit f given h.said.scope _ known.froms) (λ e. named (sym h.makes_is ∙ e)))

pub term_said : (f : FuncState) (given : AreGiven f) (s : Scope) (bytes : List ℕ) (t : RawTerm) → Says bytes (said.Term t) → IsKnownUse (target_of f) s (term_values t) (term_blocks t) →
    IsPrinted (said.Term (renamed_term (ren (target_of f) s) t))
term_said f given s bytes t says known = term_printed (ren (target_of f) s) bytes t says (vals_fit f given s _ known.vals) (froms_fit f given s _ known.froms)

-- ---- the first line

each_renamed : (ps qs : List Param) (variadic : Bool) → map without_name ps ≡ map without_name qs → Each IsParam qs → EachBack (map param_parts ps ++ dots_parts variadic) (map param_parts qs ++ dots_parts variadic)
each_renamed [] [] variadic e h = each_dots variadic
each_renamed [] (q ∷ qs) variadic e h = absurd (cc)
each_renamed (p ∷ ps) [] variadic e h = absurd (cc)
each_renamed (p ∷ ps) (q ∷ qs) variadic e h =
    let one : without_name p ≡ without_name q = cc in
    let rest : map without_name ps ≡ map without_name qs = cc in
    let same : record p { name = q.name } ≡ q = ap (λ (r : Param). let s : Param = record r { name = q.name } in s) one in
    (subst (λ (r : Param). Back false (param_parts p) (param_parts r)) same (param_back p q.name h.0), each_renamed ps qs variadic rest h.1)

pub define_said : (bytes : List ℕ) (h : Head) (qs : List Param) → Says bytes (said.Define h) → map without_name h.params ≡ map without_name qs → Each IsParam qs → IsPrinted (said.Define (record h { params = qs }))
define_said bytes h qs says same named =
    printed_by bytes (said.Define h) (said.Define (record h { params = qs })) says
    (behind (head_back word.Define h (map param_parts h.params ++ dots_parts h.variadic) (map param_parts qs ++ dots_parts h.variadic) says.fits.0 (each_renamed h.params qs h.variadic same named)) brace_next)
    ((says.fits.0.0, named), says.fits.1, says.fits.2)
