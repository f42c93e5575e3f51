-- The printed items have no other fault where the items have none.
use Rattle.std.proofs.Common.{◌≡◌, ◌+◌, ℕ, zero, suc, Bool, true, false, List, [], ◌∷◌, Option, Some, None, length, refl, sym, ap, subst, ◌∙◌}
use Rattle.std.specs.Prelude.{slice_get}
use Rattle.std.specs.List.{flat_map}
use Rattle.std.specs.Option.{option_map}
use Rattle.ms_paths.specs.Flow.{Block as Run, IsReducible}
use Rattle.ms_ir.specs.declared.inst.Effects.{Effects}
use Rattle.ms_ir.specs.declared.inst.Inst.{Inst}
use Rattle.ms_ir.specs.declared.inst.Inst.TheVariants.{Alloca, Gep, Step, Load, Store, Copy, Call, Bin, Cmp, Select, Cast, Phi}
use Rattle.ms_ir.specs.declared.inst.Term.{Term}
use Rattle.ms_ir.specs.declared.inst.Term.TheVariants.{Br, CondBr, Ret, Unreachable}
use Rattle.ms_ir.specs.declared.module.Sig.{Sig}
use Rattle.ms_ir.specs.Symbols.{NamesState}
use Rattle.ms_ir.specs.Func.{Placed, Block, FuncState}
use Rattle.ms_ir.specs.Module.{ModuleState}
use Rattle.ms_ir.specs.Uses.{operands_of, term_operands, uses_at, term_uses_at}
use Rattle.ms_ir.specs.Sound.{LeadsToFirst, HasBadEntries}
use Rattle.ms_grammar.specs.declared.line.RawInst.{RawInst}
use Rattle.ms_resolve.specs.Shape.{InstLine, BlockLines, FuncLines, ItemLines, plain, body}
use Rattle.ms_resolve.specs.Used.{values_of, term_values, global_of, callee_of}
use Rattle.ms_resolve.specs.Faults.{IsIn}
use Rattle.ms_resolve.specs.Module.{funcs_of, module_of}
use Rattle.ms_validity.specs.Cause.{HasNone}
use Rattle.ms_validity.specs.Faults.{IsBody, HasInst, HasTerm, CallsOtherwise, ReturnsOtherwise, HasTypeFaultIn, HasEdgeFaultIn, HasOrderFaultIn, HasTypeFault, HasEdgeFault, HasOrderFault, IsIrreducible, bodies_there}
use Rattle.ms_validity.specs.Faults as valid
use Rattle.ms_validity.proofs.ListLemmas.{get_map, map_get}
use Rattle.ms_again.specs.Same.{plain_func, plain_module}
use Rattle.ms_again.proofs.Renaming.{renamed_inst, renamed_term}
use Rattle.ms_again.proofs.Again.{renaming, start, gap_said, func_said, label_said, block_again, func_again, items_again}
use Rattle.ms_again.proofs.Sites.{built, bodies_built, body_at, func_in}
use Rattle.ms_again.proofs.Names.{label_name}
use Rattle.ms_again.proofs.Draft.{AreNamed}
use Rattle.ms_again.proofs.Same.{names_same, sigs_same}
use Rattle.ms_again.proofs.SameModule.{built_same}
use Rattle.ms_again.proofs.NameSound.{block_from, inst_from, inst_globals, term_globals, callee_is}
use Rattle.ms_again.proofs.Carried.{AreAlike, graph_alike, other_inst, other_block, other_type_alike, entries_alike, uses_alike, term_uses_alike, before_alike}

-- a printed function comes from the one at its place
record FromFunc (items : List ItemLines) (p : ℕ) (new : FuncLines) : Type 0 where
  pub row : ℕ
  pub f : FuncLines
  pub there : slice_get (funcs_of items) p ≡ Some f
  pub is : new ≡ func_again row f

same_func : (f g : FuncLines) → Some f ≡ Some g → f ≡ g
same_func f g e = cc

func_from : (row : ℕ) (before : Option Bool) (items : List ItemLines) (p : ℕ) (new : FuncLines) → slice_get (funcs_of (items_again row before items)) p ≡ Some new → FromFunc items p new
func_from row before [] p new e = absurd (cc)
func_from row before (plain n line ∷ rest) p new e =
    let r = func_from (row + length (gap_said before false) + 1) (Some false) rest p new e in record { row = r.row; f = r.f; there = r.there; is = r.is }
func_from row before (body f ∷ rest) zero new e =
    let at = row + length (gap_said before true) in record { row = at; f = f; there = refl; is = sym (same_func (func_again at f) new e) }
func_from row before (body f ∷ rest) (suc p) new e =
    let r = func_from (row + length (gap_said before true) + length (func_said f)) (Some true) rest p new e in record { row = r.row; f = r.f; there = r.there; is = r.is }

same_state : (f g : FuncState) → Some f ≡ Some g → f ≡ g
same_state f g e = cc

-- the lines of a function and of its printed form, at the same places
record OldInst (row : ℕ) (f : FuncLines) (F : FuncState) (b k : ℕ) (new : InstLine) (x : Placed) : Type 0 where
  pub line : InstLine
  pub y : Placed
  pub here : HasInst f F line.line b k line y
  pub inst_is : y.inst ≡ x.inst
  pub raw_is : new.inst ≡ renamed_inst (renaming f) line.inst

record OldTerm (row : ℕ) (f : FuncLines) (F : FuncState) (b : ℕ) (new : BlockLines) (x : Block) : Type 0 where
  pub block : BlockLines
  pub y : Block
  pub here : HasTerm f F block.end.line b block y
  pub term_is : y.term ≡ x.term
  pub raw_is : new.end.term ≡ renamed_term (renaming f) block.end.term

inst_old : (row : ℕ) (f : FuncLines) (F G : FuncState) → AreAlike G F → (n b k : ℕ) (new : InstLine) (x : Placed) → HasInst (func_again row f) G n b k new x → OldInst row f F b k new x
inst_old row f F G alike n b k new x h =
    let r = renaming f in
    let block = block_from r true (row + 1) (start f) f.blocks b h.block h.block_is in
    let at : slice_get (block_again r block.first block.row block.next block.block).insts k ≡ Some new = subst (λ (y : BlockLines). slice_get y.insts k ≡ Some new) block.is h.line_is in
    let line = inst_from r (block.row + length (label_said block.first block.next (label_name block.block.label))) _ block.block.insts k new at in
    let other = other_inst G F alike b k x h.inst_is in
    record {
      line = line.line;
      y = other.y;
      here = record { block = block.block; block_is = block.there; line_is = line.there; inst_is = other.there; on = refl };
      inst_is = ap (λ (p : Placed). p.inst) other.same;
      raw_is = line.is;
    }

term_old : (row : ℕ) (f : FuncLines) (F G : FuncState) → AreAlike G F → (n b : ℕ) (new : BlockLines) (x : Block) → HasTerm (func_again row f) G n b new x → OldTerm row f F b new x
term_old row f F G alike n b new x h =
    let r = renaming f in
    let block = block_from r true (row + 1) (start f) f.blocks b new h.block_is in
    let other = other_block G F alike b x h.term_is in
    record {
      block = block.block;
      y = other.y;
      here = record { block_is = block.there; term_is = other.there; on = refl };
      term_is = ap (λ (p : Block). p.term) other.same;
      raw_is = ap (λ (y : BlockLines). y.end.term) block.is;
    }

-- types
in_same : {X : Type 0} (xs ys : List X) (x : X) → xs ≡ ys → IsIn xs x → IsIn ys x
in_same {X} xs ys x e h = let P : List X → Type 0 = λ l. IsIn l x in subst P e h

pub calls_same : (m n : ModuleState) (i : Inst) → m.sigs ≡ n.sigs → CallsOtherwise m i → CallsOtherwise n i
calls_same m n (Call callee ret args effects head tail) e h = (h.0, ap (λ (ss : List Sig). slice_get ss callee.0) (sym e) ∙ h.1, h.2)
calls_same m n (Alloca size head rest) e h = absurd h
calls_same m n (Gep base offset head index rest) e h = absurd h
calls_same m n (Step base offset terms head index rest) e h = absurd h
calls_same m n (Load ty ptr rest) e h = absurd h
calls_same m n (Store ty val ptr rest) e h = absurd h
calls_same m n (Copy to from len head rest) e h = absurd h
calls_same m n (Bin op flags ty x y rest) e h = absurd h
calls_same m n (Cmp pred flags ty x y rest) e h = absurd h
calls_same m n (Select cond ty x y rest) e h = absurd h
calls_same m n (Cast op flags from x to rest) e h = absurd h
calls_same m n (Phi ty entries rest) e h = absurd h

returns_same : (F G : FuncState) (t : Term) → F.ret ≡ G.ret → ReturnsOtherwise F t → ReturnsOtherwise G t
returns_same F G (Ret given tail) e h = λ same. h (same ∙ sym e)
returns_same F G (Br to tail) e h = absurd h
returns_same F G (CondBr cond a b tail) e h = absurd h
returns_same F G (Unreachable tail) e h = absurd h

-- the modules have the same names and signatures
record AreOne (m n : ModuleState) : Type 0 where
  pub names : m.names ≡ n.names
  pub sigs : m.sigs ≡ n.sigs

type_old : (m n : ModuleState) → AreOne m n → (row : ℕ) (f : FuncLines) (F G : FuncState) → AreAlike G F → (k : ℕ) → HasTypeFaultIn m (func_again row f) G k → (j : ℕ) × HasTypeFaultIn n f F j
type_old m n one row f F G alike k (valid.HasTypeFaultIn.operand b p line x o h on other) =
    let old = inst_old row f F G alike k b p line x h in
    (old.line.line, valid.HasTypeFaultIn.operand b p old.line old.y o old.here (in_same (operands_of x.inst) (operands_of old.y.inst) o (ap operands_of (sym old.inst_is)) on) (other_type_alike G F alike o other))
type_old m n one row f F G alike k (valid.HasTypeFaultIn.func_operand b p line x name h on there) =
    let old = inst_old row f F G alike k b p line x h in (
      old.line.line,
      valid.HasTypeFaultIn.func_operand b p old.line old.y name old.here
          (in_same (flat_map global_of (values_of line.inst)) (flat_map global_of (values_of old.line.inst)) name (ap (λ (i : RawInst). flat_map global_of (values_of i)) old.raw_is ∙ inst_globals (renaming f) old.line.inst) on)
          (in_same m.names.funcs n.names.funcs name (ap (λ (s : NamesState). s.funcs) one.names) there),
    )
type_old m n one row f F G alike k (valid.HasTypeFaultIn.global_called b p line x name h on there) =
    let old = inst_old row f F G alike k b p line x h in (
      old.line.line,
      valid.HasTypeFaultIn.global_called b p old.line old.y name old.here
          (in_same (callee_of line.inst) (callee_of old.line.inst) name (ap callee_of old.raw_is ∙ callee_is (renaming f) old.line.inst) on)
          (in_same m.names.globals n.names.globals name (ap (λ (s : NamesState). s.globals) one.names) there),
    )
type_old m n one row f F G alike k (valid.HasTypeFaultIn.call b p line x name h on there calls) =
    let old = inst_old row f F G alike k b p line x h in (
      old.line.line,
      valid.HasTypeFaultIn.call b p old.line old.y name old.here
          (in_same (callee_of line.inst) (callee_of old.line.inst) name (ap callee_of old.raw_is ∙ callee_is (renaming f) old.line.inst) on)
          (in_same m.names.funcs n.names.funcs name (ap (λ (s : NamesState). s.funcs) one.names) there)
          (subst (λ (i : Inst). CallsOtherwise n i) (sym old.inst_is) (calls_same m n x.inst one.sigs calls)),
    )
type_old m n one row f F G alike k (valid.HasTypeFaultIn.term_operand b block x o h on other) =
    let old = term_old row f F G alike k b block x h in
    (old.block.end.line, valid.HasTypeFaultIn.term_operand b old.block old.y o old.here (in_same (term_operands x.term) (term_operands old.y.term) o (ap term_operands (sym old.term_is)) on) (other_type_alike G F alike o other))
type_old m n one row f F G alike k (valid.HasTypeFaultIn.func_returned b block x name h on there) =
    let old = term_old row f F G alike k b block x h in (
      old.block.end.line,
      valid.HasTypeFaultIn.func_returned b old.block old.y name old.here
          (in_same (flat_map global_of (term_values block.end.term)) (flat_map global_of (term_values old.block.end.term)) name
          (ap (λ t. flat_map global_of (term_values t)) old.raw_is ∙ term_globals (renaming f) old.block.end.term) on)
          (in_same m.names.funcs n.names.funcs name (ap (λ (s : NamesState). s.funcs) one.names) there),
    )
type_old m n one row f F G alike k (valid.HasTypeFaultIn.returned b block x h returns) =
    let old = term_old row f F G alike k b block x h in (
      old.block.end.line,
      valid.HasTypeFaultIn.returned b old.block old.y old.here
          (subst (λ (t : Term). ReturnsOtherwise F t) (sym old.term_is) (returns_same G F x.term (ap (λ (s : FuncState). s.ret) alike) returns)),
    )

edge_old : (row : ℕ) (f : FuncLines) (F G : FuncState) → AreAlike G F → (k : ℕ) → HasEdgeFaultIn (func_again row f) G k → (j : ℕ) × HasEdgeFaultIn f F j
edge_old row f F G alike k (valid.HasEdgeFaultIn.branch b block x h leads) =
    let old = term_old row f F G alike k b block x h in
    (old.block.end.line, valid.HasEdgeFaultIn.branch b old.block old.y old.here (subst (λ (t : Term). LeadsToFirst t) (sym old.term_is) leads))
edge_old row f F G alike k (valid.HasEdgeFaultIn.phi b p line x h bad) =
    let old = inst_old row f F G alike k b p line x h in
    (old.line.line, valid.HasEdgeFaultIn.phi b p old.line old.y old.here (subst (λ (i : Inst). HasBadEntries F.blocks b i) (sym old.inst_is) (entries_alike G F alike b x.inst bad)))

order_old : (row : ℕ) (f : FuncLines) (F G : FuncState) → AreAlike G F → (k : ℕ) → HasOrderFaultIn (func_again row f) G k → (j : ℕ) × HasOrderFaultIn f F j
order_old row f F G alike k (valid.HasOrderFaultIn.inst b p line x u h on before) =
    let old = inst_old row f F G alike k b p line x h in (
      old.line.line,
      valid.HasOrderFaultIn.inst b p old.line old.y u old.here
          (in_same (uses_at G.blocks b p x.inst) (uses_at F.blocks b p old.y.inst) u (uses_alike G F alike b p x.inst ∙ ap (λ (i : Inst). uses_at F.blocks b p i) (sym old.inst_is)) on)
          (before_alike G F alike u before),
    )
order_old row f F G alike k (valid.HasOrderFaultIn.term b block x u h on before) =
    let old = term_old row f F G alike k b block x h in (
      old.block.end.line,
      valid.HasOrderFaultIn.term b old.block old.y u old.here
          (in_same (term_uses_at G.blocks b x.term) (term_uses_at F.blocks b old.y.term) u (term_uses_alike G F alike b x.term ∙ ap (λ (t : Term). term_uses_at F.blocks b t) (sym old.term_is)) on)
          (before_alike G F alike u before),
    )

-- a function of the printed module, and the one that it comes from
record Pair (effects : List ℕ → Effects) (keeps : List ℕ → Bool) (spare : List ℕ → ℕ) (items : List ItemLines) (new : FuncLines) (G : FuncState) : Type 0 where
  pub row : ℕ
  pub f : FuncLines
  pub is : new ≡ func_again row f
  pub there : IsBody items (module_of effects keeps spare items) f (built effects keeps spare items f)
  pub alike : AreAlike G (built effects keeps spare items f)

pair_of : (effects : List ℕ → Effects) (keeps : List ℕ → Bool) (spare : List ℕ → ℕ) (items : List ItemLines) → AreNamed items → (new : FuncLines) (G : FuncState) →
    IsBody (items_again 1 None items) (module_of effects keeps spare (items_again 1 None items)) new G → Pair effects keeps spare items new G
pair_of effects keeps spare items named new G h =
    let again = items_again 1 None items in
    let from = func_from 1 None items h.place new h.lines_are in
    let fine = named.each from.f (func_in items h.place from.f from.there) in
    let own : slice_get (bodies_there (module_of effects keeps spare again)) h.place ≡ Some (built effects keeps spare again new) =
    ap (λ (xs : List FuncState). slice_get xs h.place) (bodies_built effects keeps spare again) ∙ map_get (built effects keeps spare again) (funcs_of again) h.place new h.lines_are in
    let same : G ≡ built effects keeps spare again (func_again from.row from.f) = same_state G (built effects keeps spare again new) (sym h.body_is ∙ own) ∙ ap (λ (l : FuncLines). built effects keeps spare again l) from.is in
    record {
      row = from.row;
      f = from.f;
      is = from.is;
      there = body_at effects keeps spare items h.place from.f from.there;
      alike = ap plain_func same ∙ built_same effects keeps spare items from.row from.f fine;
    }

pub types_sound : (effects : List ℕ → Effects) (keeps : List ℕ → Bool) (spare : List ℕ → ℕ) (items : List ItemLines) → AreNamed items → HasNone (HasTypeFault items (module_of effects keeps spare items)) →
    HasNone (HasTypeFault (items_again 1 None items) (module_of effects keeps spare (items_again 1 None items)))
types_sound effects keeps spare items named none n h =
    let again = items_again 1 None items in
    let m = module_of effects keeps spare again in
    let pair = pair_of effects keeps spare items named h.lines h.f h.body in
    let one : AreOne m (module_of effects keeps spare items) = record { names = names_same 1 None items; sigs = sigs_same effects keeps 1 None items } in
    let old = type_old m (module_of effects keeps spare items) one pair.row pair.f (built effects keeps spare items pair.f) h.f pair.alike n
    (subst (λ (l : FuncLines). HasTypeFaultIn m l h.f n) pair.is h.fault) in
    none old.0 (record { lines = pair.f; f = built effects keeps spare items pair.f; body = pair.there; fault = old.1 })

pub edges_sound : (effects : List ℕ → Effects) (keeps : List ℕ → Bool) (spare : List ℕ → ℕ) (items : List ItemLines) → AreNamed items → HasNone (HasEdgeFault items (module_of effects keeps spare items)) →
    HasNone (HasEdgeFault (items_again 1 None items) (module_of effects keeps spare (items_again 1 None items)))
edges_sound effects keeps spare items named none n h =
    let pair = pair_of effects keeps spare items named h.lines h.f h.body in
    let old = edge_old pair.row pair.f (built effects keeps spare items pair.f) h.f pair.alike n (subst (λ (l : FuncLines). HasEdgeFaultIn l h.f n) pair.is h.fault) in
    none old.0 (record { lines = pair.f; f = built effects keeps spare items pair.f; body = pair.there; fault = old.1 })

pub order_sound : (effects : List ℕ → Effects) (keeps : List ℕ → Bool) (spare : List ℕ → ℕ) (items : List ItemLines) → AreNamed items → HasNone (HasOrderFault items (module_of effects keeps spare items)) →
    HasNone (HasOrderFault (items_again 1 None items) (module_of effects keeps spare (items_again 1 None items)))
order_sound effects keeps spare items named none n h =
    let pair = pair_of effects keeps spare items named h.lines h.f h.body in
    let old = order_old pair.row pair.f (built effects keeps spare items pair.f) h.f pair.alike n (subst (λ (l : FuncLines). HasOrderFaultIn l h.f n) pair.is h.fault) in
    none old.0 (record { lines = pair.f; f = built effects keeps spare items pair.f; body = pair.there; fault = old.1 })

-- loops
body_alike : (m n : ModuleState) → plain_module m ≡ plain_module n → (k : ℕ) (f : FuncState) → slice_get m.bodies k ≡ Some (Some f) → (g : FuncState) × (slice_get n.bodies k ≡ Some (Some g)) × AreAlike f g
body_alike m n e k f at =
    let plain = map_get (option_map plain_func) m.bodies k (Some f) at in
    let r = get_map (option_map plain_func) n.bodies k (Some (plain_func f)) (ap (λ (x : ModuleState). slice_get x.bodies k) (sym e) ∙ plain) in
    by r.0 r.1 r.2
  where
    by : (o : Option FuncState) → slice_get n.bodies k ≡ Some o → option_map plain_func o ≡ Some (plain_func f) → (g : FuncState) × (slice_get n.bodies k ≡ Some (Some g)) × AreAlike f g
    by None at same = absurd (cc)
    by (Some g) at same = (g, at, sym (same_state (plain_func g) (plain_func f) same))

pub loops_sound : (m n : ModuleState) → plain_module m ≡ plain_module n → HasNone (IsIrreducible n) → HasNone (IsIrreducible m)
loops_sound m n e none k h =
    let r = body_alike m n e k h.f h.body in
    none k (record {
      f = r.0;
      body = r.1;
      irreducible = λ reducible. h.irreducible (subst (λ (runs : List Run). IsReducible runs) (sym (graph_alike h.f r.0 r.2)) reducible);
    })
