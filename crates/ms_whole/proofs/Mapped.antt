-- Where each instruction becomes one of the same number and kind, and the edges stay, a form stays the function's.
use Rattle.std.proofs.Common.{◌≡◌, ◌∙◌, ◌≤◌, ℕ, zero, suc, Bool, List, [], ◌∷◌, length, map, Option, Some, None, refl, sym, ap, subst, inl, inr}
use Rattle.std.specs.Prelude.{◌&&◌, ◌||◌, slice_get, nat_eq, if◌then◌else◌}
use mathlib.Core.Path.{fun_ext}
use Rattle.ms_paths.specs.Flow.{Block as Run, IsReached, IsNeeded, IsAnswer}
use Rattle.ms_ir.specs.declared.names.InstNo.{InstNo}
use Rattle.ms_ir.specs.declared.inst.Kind.{Kind}
use Rattle.ms_ir.specs.Inst.{kind_of_inst}
use Rattle.ms_ir.specs.Func.{Placed, Block, FuncState, insts_at}
use Rattle.ms_ir.specs.Graph.{graph_of, defs_of, has_def, is_def, numbers, successors}
use Rattle.ms_flow.specs.declared.sources.Source.{Source}
use Rattle.ms_flow.specs.Table.{edges_of, run_to}
use Rattle.ms_flow.specs.Flow.{sources_of}
use Rattle.ms_form.specs.declared.access.Access.{Access}
use Rattle.ms_form.specs.Form.{FormState}
use Rattle.ms_build.specs.Accesses.{event_of, has_phi, enters_at, operand_at, defining_at}
use Rattle.ms_build.specs.Filled.{HasAccessAt, names_access, last_step, last_from, last_of}
use Rattle.ms_build.specs.Built.{IsAnswered, IsFormOf}
use Rattle.ms_cache.proofs.Mapped.{found_to, found_from}

abbrev run_of : List ℕ → List ℕ → Run
run_of events next = record { events = events; next = next }

answered : (bs cs : List Block) → graph_of bs ≡ graph_of cs → defs_of bs ≡ defs_of cs → (b k : ℕ) (o : Option Access) → IsAnswered bs b k o → IsAnswered cs b k o
answered bs cs g d b k None h = h
answered bs cs g d b k (Some a) h =
    subst (λ (r : List Run). IsAnswer r (defs_of cs) b k (event_of a)) g (subst (λ (e : ℕ → Bool). IsAnswer (graph_of bs) e b k (event_of a)) d h)

module _ (p : Placed → Placed) (change : Block → Block) (is : (b : Block) → (change b).insts ≡ map p b.insts) (number : (x : Placed) → (p x).number ≡ x.number)
    (kind : (x : Placed) → kind_of_inst (p x).inst ≡ kind_of_inst x.inst) (next : (b : Block) → successors (change b).term ≡ successors b.term) where
  insts_map : (blocks : List Block) (b : ℕ) → insts_at (map change blocks) b ≡ map p (insts_at blocks b)
  insts_map [] b = refl
  insts_map (x ∷ xs) zero = is x
  insts_map (x ∷ xs) (suc b) = insts_map xs b

  numbers_map : (xs : List Placed) → numbers (map p xs) ≡ numbers xs
  numbers_map [] = refl
  numbers_map (x ∷ xs) = ap (λ (n : ℕ). n ∷ numbers (map p xs)) (number x) ∙ ap (λ (ns : List ℕ). x.number ∷ ns) (numbers_map xs)

  length_map : (xs : List Placed) → length (map p xs) ≡ length xs
  length_map [] = refl
  length_map (x ∷ xs) = ap suc (length_map xs)

  pub graph_map : (blocks : List Block) → graph_of (map change blocks) ≡ graph_of blocks
  graph_map [] = refl
  graph_map (b ∷ bs) =
      ap (λ (xs : List Placed). run_of (numbers xs) (successors (change b).term) ∷ graph_of (map change bs)) (is b)
      ∙ ap (λ (ns : List ℕ). run_of ns (successors (change b).term) ∷ graph_of (map change bs)) (numbers_map b.insts)
      ∙ ap (λ (ns : List ℕ). run_of (numbers b.insts) ns ∷ graph_of (map change bs)) (next b)
      ∙ ap (λ (g : List Run). run_of (numbers b.insts) (successors b.term) ∷ g) (graph_map bs)

  pub edges_map : (blocks : List Block) → edges_of (map change blocks) ≡ edges_of blocks
  edges_map [] = refl
  edges_map (b ∷ bs) = ap (λ (ns : List ℕ). run_to ns ∷ edges_of (map change bs)) (next b) ∙ ap (λ (g : List Run). run_to (successors b.term) ∷ g) (edges_map bs)

  def_in : (xs : List Placed) (i : ℕ) → has_def (map p xs) i ≡ has_def xs i
  def_in [] i = refl
  def_in (x ∷ xs) i =
      ap (λ (n : ℕ). (nat_eq n i && is_def (kind_of_inst (p x).inst)) || has_def (map p xs) i) (number x)
      ∙ ap (λ (k : Kind). (nat_eq x.number i && is_def k) || has_def (map p xs) i) (kind x)
      ∙ ap (λ (t : Bool). (nat_eq x.number i && is_def (kind_of_inst x.inst)) || t) (def_in xs i)

  defs_at : (blocks : List Block) (i : ℕ) → defs_of (map change blocks) i ≡ defs_of blocks i
  defs_at [] i = refl
  defs_at (b ∷ bs) i =
      ap (λ (xs : List Placed). has_def xs i || defs_of (map change bs) i) (is b) ∙ ap (λ (t : Bool). t || defs_of (map change bs) i) (def_in b.insts i)
      ∙ ap (λ (t : Bool). has_def b.insts i || t) (defs_at bs i)

  defs_map : (blocks : List Block) → defs_of (map change blocks) ≡ defs_of blocks
  defs_map blocks = fun_ext (defs_at blocks)

  step_map : (m : Option InstNo) (x : Placed) → last_step m (p x) ≡ last_step m x
  step_map m x =
      ap (λ (k : Kind). if is_def k then Some (record { 0 = (p x).number }) else m) (kind x)
      ∙ ap (λ (n : ℕ). if is_def (kind_of_inst x.inst) then Some (record { 0 = n }) else m) (number x)

  last_in : (m : Option InstNo) (xs : List Placed) → last_from m (map p xs) ≡ last_from m xs
  last_in m [] = refl
  last_in m (x ∷ xs) = ap (λ (l : Option InstNo). last_from l (map p xs)) (step_map m x) ∙ last_in (last_step m x) xs

  last_map : (blocks : List Block) (b : ℕ) → last_of (map change blocks) b ≡ last_of blocks b
  last_map blocks b = ap (last_from None) (insts_map blocks b) ∙ last_in None (insts_at blocks b)

  module _ (f : FuncState) (h : FormState) (r : IsFormOf f h) where
    abbrev bs : List Block
    bs = f.blocks

    abbrev cs : List Block
    cs = map change f.blocks

    there : (b : ℕ) → IsReached (graph_of cs) b → IsReached (graph_of bs) b
    there b = subst (λ (g : List Run). IsReached g b) (graph_map bs)

    here : (b : ℕ) → IsReached (graph_of bs) b → IsReached (graph_of cs) b
    here b = subst (λ (g : List Run). IsReached g b) (sym (graph_map bs))

    same : (b k : ℕ) (o : Option Access) → IsAnswered bs b k o → IsAnswered cs b k o
    same = answered bs cs (sym (graph_map bs)) (sym (defs_map bs))

    sources : (b : ℕ) → sources_of (edges_of cs) b ≡ sources_of (edges_of bs) b
    sources b = ap (λ (g : List Run). sources_of g b) (edges_map bs)

    before : (b k : ℕ) (x : Placed) → HasAccessAt cs b k x → (y : Placed) × HasAccessAt bs b k y × (y.number ≡ x.number)
    before b k x at =
        let y = found_from p change is bs b k x at.found in (
          y.0,
          record { found = y.1; names = ap names_access (sym (kind y.0)) ∙ ap (λ (z : Placed). names_access (kind_of_inst z.inst)) y.2 ∙ at.names },
          sym (number y.0) ∙ ap (λ (z : Placed). z.number) y.2,
        )

    behind : (b k : ℕ) (x : Placed) → HasAccessAt bs b k x → HasAccessAt cs b k (p x)
    behind b k x at = record { found = found_to p change is bs b k x at.found; names = ap names_access (kind x) ∙ at.names }

    pub form_map : IsFormOf (record f { blocks = cs }) h
    form_map = record {
      phis = subst (λ (g : List Run). IsNeeded g (defs_of cs) (has_phi h)) (sym (graph_map bs)) (subst (λ (e : ℕ → Bool). IsNeeded (graph_of bs) e (has_phi h)) (sym (defs_map bs)) r.phis);
      entering = λ b t no_phi. same b 0 (enters_at h b) (r.entering b (there b t) no_phi);
      no_entering = λ b c. r.no_entering b (elim c [
        | inl out ↦ inl (λ t. out (here b t))
        | inr phi ↦ inr phi
      ]);
      operands = λ b slot e phi found. subst (λ (n : ℕ). IsAnswered cs e.from n (operand_at h b slot)) (sym (ap length (insts_map bs e.from) ∙ length_map (insts_at bs e.from)))
          (same e.from (length (insts_at bs e.from)) (operand_at h b slot) (r.operands b slot e phi (ap (λ (es : List Source). slice_get es slot) (sym (sources b)) ∙ found)));
      no_operand = λ b slot c. r.no_operand b slot (elim c [
        | inl none ↦ inl none
        | inr past ↦ inr (subst (λ (es : List Source). length es ≤ slot) (sources b) past)
      ]);
      defining = λ b k x t at. (let y = before b k x at in
          subst (λ (n : ℕ). IsAnswered cs b k (defining_at h n)) y.2 (same b k (defining_at h y.0.number) (r.defining b k y.0 (there b t) y.1)));
      no_defining = λ i none. r.no_defining i (λ b k x t at e. none b k (p x) (here b t) (behind b k x at) (number x ∙ e));
      lasts = λ b. r.lasts b ∙ sym (last_map bs b);
    }
