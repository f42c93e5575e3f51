-- What is told of a function's lines, and of the functions of a module.
use Rattle.std.proofs.Common.{◌≡◌, ℕ, zero, suc, ◌+◌, ◌<◌, Bool, not, List, [], ◌∷◌, length, map, get_or, take, Option, Some, None, refl, sym, ap, ◌∙◌, subst, inl, inr, ⊎_elim, add-one}
use Rattle.std.specs.Prelude.{IsTrue, ◌↔◌}
use Rattle.std.specs.List.{slice_get, flat_map}
use Rattle.std.proofs.lemmas.Bool.{both_ways, not-true, not_from_false, false_from_ne_true}
use Rattle.std.proofs.lemmas.Option.{none-some, same_Some}
use Rattle.ms_paths.specs.Flow.{Block as Run, IsReducible}
use Rattle.ms_ir.specs.declared.inst.Inst.{Inst}
use Rattle.ms_ir.specs.declared.inst.Inst.TheVariants.{Alloca, Gep, Step, Load, Store, Copy, Call, Bin, Cmp, Select, Cast, Phi}
use Rattle.ms_ir.specs.Func.{Placed, Block, FuncState, IsNowhere, NotNumbered, insts_at}
use Rattle.ms_ir.specs.Graph.{graph_of}
use Rattle.ms_ir.specs.Module.{ModuleState, body_in}
use Rattle.ms_ir.specs.Sound.{times_in, edges_between, from_of, HasBadEntries, HasTwoValues}
use Rattle.ms_flow.specs.Table.{edges_of}
use Rattle.ms_resolve.specs.declared.resolved.BodyLines.{BodyLines}
use Rattle.ms_validity.specs.declared.phase.Phase.{Phase}
use Rattle.ms_validity.specs.declared.phase.Phase.TheVariants.{Edges}
use Rattle.ms_validity.specs.Faults.{IsIrreducible, body_there, bodies_there}
use Rattle.ms_validity.specs.Tables.{AreSources, HasBadEntriesFor}
use Rattle.ms_validity.specs.Told.{BodyHas, InstFault, InstHas, PlaceHas, Tells}
use Rattle.ms_validity.proofs.ToldLemmas.{told_like}

-- the entries of a phi are its block's edges exactly where they are those from the listed blocks
edges_fit : (blocks : List Block) (lists : List (List ℕ)) (b : ℕ) (list : List ℕ) (inst : Inst) → AreSources blocks lists → b < length blocks → list ≡ get_or lists b []
    → HasBadEntriesFor list inst ↔ HasBadEntries blocks b inst
edges_fit blocks lists b list (Alloca _ _ _) all lt is = (λ h. h, λ h. h)
edges_fit blocks lists b list (Gep _ _ _ _ _) all lt is = (λ h. h, λ h. h)
edges_fit blocks lists b list (Step _ _ _ _ _ _) all lt is = (λ h. h, λ h. h)
edges_fit blocks lists b list (Load _ _ _) all lt is = (λ h. h, λ h. h)
edges_fit blocks lists b list (Store _ _ _ _) all lt is = (λ h. h, λ h. h)
edges_fit blocks lists b list (Copy _ _ _ _ _) all lt is = (λ h. h, λ h. h)
edges_fit blocks lists b list (Call _ _ _ _ _ _) all lt is = (λ h. h, λ h. h)
edges_fit blocks lists b list (Bin _ _ _ _ _ _) all lt is = (λ h. h, λ h. h)
edges_fit blocks lists b list (Cmp _ _ _ _ _ _) all lt is = (λ h. h, λ h. h)
edges_fit blocks lists b list (Select _ _ _ _ _) all lt is = (λ h. h, λ h. h)
edges_fit blocks lists b list (Cast _ _ _ _ _ _) all lt is = (λ h. h, λ h. h)
edges_fit blocks lists b list (Phi ty entries tail) all lt is = (
  λ h. ⊎_elim (λ (w : (a : ℕ) × (times_in a (map from_of entries) ≡ times_in a list → ⊥)).
      inl (w.0, λ e. w.1 (e ∙ sym (all.each w.0 b lt) ∙ sym (ap (times_in w.0) is))))
      (λ (t : HasTwoValues entries). inr t) h,
  λ h. ⊎_elim (λ (w : (a : ℕ) × (times_in a (map from_of entries) ≡ edges_between blocks a b → ⊥)).
      inl (w.0, λ e. w.1 (e ∙ ap (times_in w.0) is ∙ all.each w.0 b lt)))
      (λ (t : HasTwoValues entries). inr t) h,
)

pub edges_told : (phase : Phase) (m : ModuleState) (f : FuncState) (lists : List (List ℕ)) (b k : ℕ) (list : List ℕ) (inst : Inst) → phase ≡ Edges → AreSources f.blocks lists
    → b < length f.blocks → list ≡ get_or lists b [] → (t : Bool) → (IsTrue t ↔ HasBadEntriesFor list inst) → IsTrue t ↔ InstFault phase m f b k inst
edges_told phase m f lists b k list inst is all lt at t told =
    let fit = edges_fit f.blocks lists b list inst all lt at in
    subst (λ (p : Phase). IsTrue t ↔ InstFault p m f b k inst) (sym is) (λ s. fit.0 (told.0 s), λ h. told.1 (fit.1 h))

not_there : (xs : List Placed) (k n : ℕ) (x : Placed) → NotNumbered n xs → slice_get xs k ≡ Some x → x.number ≡ n → ⊥
not_there [] k n x none e is = cc
not_there (y ∷ xs) zero n x none e is = none.0 (let same : y ≡ x = cc in ap (λ (p : Placed). p.number) same ∙ is)
not_there (y ∷ xs) (suc k) n x none e is = not_there xs k n x none.1 e is

pub nowhere_told : (phase : Phase) (m : ModuleState) (f : FuncState) (lines : List ℕ) (i : ℕ) → IsNowhere f.blocks i → (n : ℕ) → InstHas phase m f lines i n → ⊥
nowhere_told phase m f lines i none n h = not_there (insts_at f.blocks h.0) h.1 i h.2 (none h.0) h.3.found h.3.numbered

pub body_found : (o : Option (Option FuncState)) (f : FuncState) → Some f ≡ body_in o → o ≡ Some (Some f)
body_found None f e = absurd (none-some f (sym e))
body_found (Some None) f e = absurd (none-some f (sym e))
body_found (Some (Some g)) f e = ap (λ (x : Option FuncState). Some x) (sym e)

pub irreducible_told : (m : ModuleState) (n : ℕ) (f : FuncState) (g : List Run) (t : Bool) → slice_get m.bodies n ≡ Some (Some f) → g ≡ edges_of f.blocks
    → (IsReducible (edges_of f.blocks) ↔ IsReducible (graph_of f.blocks)) → (IsTrue t ↔ IsReducible g) → IsTrue (not t) ↔ IsIrreducible m n
irreducible_told m n f g t at is same told =
    let told' = subst (λ (h : List Run). IsTrue t ↔ IsReducible h) is told in (
      λ k. record { f = f; body = at; irreducible = λ r. both_ways t (not-true t k) (told'.1 (same.1 r)) },
      λ h.
          let same_body : h.f ≡ f = let e : Some h.f ≡ Some f = same_Some _ _ (sym h.body ∙ at) in same_Some h.f f e in
          let none = subst (λ (x : FuncState). IsReducible (graph_of x.blocks) → ⊥) same_body h.irreducible in
          not_from_false t (false_from_ne_true t (λ k. none (same.0 (told'.0 k)))),
    )

pub reducible_told : (m : ModuleState) (n : ℕ) → None ≡ body_in (slice_get m.bodies n) → IsIrreducible m n → ⊥
reducible_told m n none h = none-some h.f (none ∙ ap body_in h.body)

pub place_told : (phase : Phase) (m : ModuleState) (lines : List BodyLines) (p : ℕ) (f : FuncState) (body : BodyLines) → slice_get (bodies_there m) p ≡ Some f
    → Some body ≡ slice_get lines p → (o : Option ℕ) → Tells (BodyHas phase m f body) o → Tells (PlaceHas phase m lines p) o
place_told phase m lines p f body at got o t =
    told_like (BodyHas phase m f body) (PlaceHas phase m lines p) o
    (λ n h. (f, body, at, sym got, h))
    (λ n h.
    let fs : h.0 ≡ f = same_Some h.0 f (sym h.2 ∙ at) in
    let bs : h.1 ≡ body = same_Some h.1 body (sym h.3 ∙ sym got) in
    subst (λ (y : BodyLines). BodyHas phase m f y n) bs (subst (λ (g : FuncState). BodyHas phase m g h.1 n) fs h.4))
    t

-- the bodies before a function
pub bodies_at : (bodies : List (Option FuncState)) (n : ℕ) (f : FuncState) → slice_get bodies n ≡ Some (Some f)
    → slice_get (flat_map body_there bodies) (length (flat_map body_there (take n bodies))) ≡ Some f
bodies_at [] n f e = absurd (none-some _ e)
bodies_at (None ∷ bodies) zero f e = absurd (let s : None ≡ Some f = same_Some _ _ e in none-some f s)
bodies_at (Some g ∷ bodies) zero f e = same_Some _ _ e
bodies_at (None ∷ bodies) (suc n) f e = bodies_at bodies n f e
bodies_at (Some g ∷ bodies) (suc n) f e = bodies_at bodies n f e

bodies_suc : (bodies : List (Option FuncState)) (n : ℕ) (f : FuncState) → slice_get bodies n ≡ Some (Some f)
    → length (flat_map body_there (take (suc n) bodies)) ≡ suc (length (flat_map body_there (take n bodies)))
bodies_suc [] n f e = absurd (none-some _ e)
bodies_suc (None ∷ bodies) zero f e = absurd (let s : None ≡ Some f = same_Some _ _ e in none-some f s)
bodies_suc (Some g ∷ bodies) zero f e = refl
bodies_suc (None ∷ bodies) (suc n) f e = bodies_suc bodies n f e
bodies_suc (Some g ∷ bodies) (suc n) f e = ap suc (bodies_suc bodies n f e)

bodies_same_suc : (bodies : List (Option FuncState)) (n : ℕ) → None ≡ body_in (slice_get bodies n)
    → length (flat_map body_there (take (suc n) bodies)) ≡ length (flat_map body_there (take n bodies))
bodies_same_suc [] zero e = refl
bodies_same_suc [] (suc n) e = refl
bodies_same_suc (None ∷ bodies) zero e = refl
bodies_same_suc (Some g ∷ bodies) zero e = absurd (none-some g e)
bodies_same_suc (None ∷ bodies) (suc n) e = bodies_same_suc bodies n e
bodies_same_suc (Some g ∷ bodies) (suc n) e = ap suc (bodies_same_suc bodies n e)

pub bodies_more : (bodies : List (Option FuncState)) (n : ℕ) (f : FuncState) → slice_get bodies n ≡ Some (Some f)
    → length (flat_map body_there (take (n + 1) bodies)) ≡ suc (length (flat_map body_there (take n bodies)))
bodies_more bodies n f e = rw (add-one n) (bodies_suc bodies n f e)

pub bodies_same : (bodies : List (Option FuncState)) (n : ℕ) → None ≡ body_in (slice_get bodies n)
    → length (flat_map body_there (take (n + 1) bodies)) ≡ length (flat_map body_there (take n bodies))
bodies_same bodies n e = rw (add-one n) (bodies_same_suc bodies n e)
