-- Into a reached block with a phi comes some other access: the way back from its own phi leads to the entry or to another edge.
use Rattle.std.proofs.Common.{true, false, ◌≡◌, ◌≢◌, ◌⊎◌, inl, inr, ℕ, List, [], ◌∷◌, get_or, Option, Some, None, ap, sym, ◌∙◌, subst, ⊎_elim}
use Rattle.std.proofs.lemmas.Bool.{cases_Bool, cases_eq}
use Rattle.ms_paths.specs.Flow.{Block as Run, HasEdge, IsPath, IsReached}
use Rattle.ms_ir.specs.declared.names.InstNo.{InstNo}
use Rattle.ms_ir.specs.declared.names.BlockNo.{BlockNo}
use Rattle.ms_flow.specs.Flow.{sources_of}
use Rattle.ms_form.specs.declared.access.Access.{Access}
use Rattle.ms_form.specs.declared.access.Access.TheVariants.{Entry, Of, Phi}
use Rattle.ms_form.specs.Form.{FormState, after_last}
use Rattle.ms_build.specs.Accesses.{has_phi, enters_at, operand_at, entering_at, leaving_at}
use Rattle.ms_build.specs.Consistent.{IsConsistent}
use Rattle.ms_build.specs.Changes.{HasOther}
use Rattle.ms_build.proofs.Slots.{IsSlot, EdgesAll, slot_of_edge}
use Rattle.ms_build.proofs.Lists.{slice_get_below}
use Rattle.ms_build.proofs.Phis.{one_phi}

-- an edge over which another access comes
pub record ComesOver (g : List Run) (f : FormState) (b : BlockNo) : Type 0 where
  pub from : ℕ
  pub reached : IsReached g from
  pub edge : HasEdge g from b.0
  pub other : leaving_at f from ≢ Some (Phi b)

is_the_phi : (b : BlockNo) (x : Option Access) → (x ≡ Some (Phi b)) ⊎ (x ≢ Some (Phi b))
is_the_phi b None = inr (λ w. cc)
is_the_phi b (Some Entry) = inr (λ w. cc)
is_the_phi b (Some (Of i)) = inr (λ w. cc)
is_the_phi b (Some (Phi c)) = ⊎_elim (λ (s : c.0 ≡ b.0). inl (ap (λ (n : ℕ). Some (Phi (record { 0 = n }))) s)) (λ (n : c.0 ≡ b.0 → ⊥). inr (λ w. n (one_phi c b (cc)))) (cases_eq c.0 b.0)

-- the phi of a block leaves that block, or another that it enters
leaves_phi : (f : FormState) (b : BlockNo) (x : ℕ) → leaving_at f x ≡ Some (Phi b) → (x ≡ b.0) ⊎ ((has_phi f x ≡ false) × (enters_at f x ≡ Some (Phi b)))
leaves_phi f b x e =
    let start : entering_at f x ≡ Some (Phi b) = by_last (get_or f.lasts x None) e in
    ⊎_elim
    (λ (t : has_phi f x ≡ true).
    let s : Some (Phi (record { 0 = x })) ≡ Some (Phi b) = rw t at start in
    ⊎_elim (λ (i : x ≡ b.0). inl i) (λ (n : x ≡ b.0 → ⊥). absurd (n (one_phi (record { 0 = x }) b (cc)))) (cases_eq x b.0))
    (λ (o : has_phi f x ≡ false). inr (o, rw o at start))
    (cases_Bool (has_phi f x))
  where
    by_last : (last : Option InstNo) → after_last last (entering_at f x) ≡ Some (Phi b) → entering_at f x ≡ Some (Phi b)
    by_last None e' = e'
    by_last (Some i) e' = cc

chase : (g : List Run) (f : FormState) (b : BlockNo) → IsConsistent g f → EdgesAll g → (x : ℕ) (p : List ℕ) → IsPath g x p → leaving_at f x ≡ Some (Phi b) → (b.0 ≡ 0) ⊎ ComesOver g f b
chase g f b k all x [] path e =
    ⊎_elim (λ (s : x ≡ b.0). inl (sym s ∙ path))
    (λ (h : (has_phi f x ≡ false) × (enters_at f x ≡ Some (Phi b))).
    let in' : has_phi f 0 ≡ false = subst (λ (n : ℕ). has_phi f n ≡ false) path h.0 in
    let at' : enters_at f 0 ≡ Some (Phi b) = subst (λ (n : ℕ). enters_at f n ≡ Some (Phi b)) path h.1 in
    let both : Some Entry ≡ Some (Phi b) = sym (k.entry in') ∙ at' in cc)
    (leaves_phi f b x e)
chase g f b k all x (a ∷ p) path e =
    ⊎_elim
    (λ (s : x ≡ b.0).
    ⊎_elim (λ (i : leaving_at f a ≡ Some (Phi b)). chase g f b k all a p path.1 i)
    (λ (n : leaving_at f a ≢ Some (Phi b)). inr (record { from = a; reached = (p, path.1); edge = subst (HasEdge g a) s path.0; other = n }))
    (is_the_phi b (leaving_at f a)))
    (λ (h : (has_phi f x ≡ false) × (enters_at f x ≡ Some (Phi b))).
    let over : IsSlot g a x = slot_of_edge g all a x (p, path.1) path.0 in
    let from' : enters_at f x ≡ leaving_at f a = k.enters x over.slot over.source h.0 over.found ∙ ap (leaving_at f) over.from in
    chase g f b k all a p path.1 (sym from' ∙ h.1))
    (leaves_phi f b x e)

comes : (g : List Run) (f : FormState) (b : BlockNo) → IsConsistent g f → EdgesAll g → (p : List ℕ) → IsPath g b.0 p → (b.0 ≡ 0) ⊎ ComesOver g f b
comes g f b k all [] path = inl path
comes g f b k all (a ∷ p) path =
    ⊎_elim (λ (i : leaving_at f a ≡ Some (Phi b)). chase g f b k all a p path.1 i)
    (λ (n : leaving_at f a ≢ Some (Phi b)). inr (record { from = a; reached = (p, path.1); edge = path.0; other = n }))
    (is_the_phi b (leaving_at f a))

pub has_other : (g : List Run) (f : FormState) (b : BlockNo) → IsConsistent g f → EdgesAll g → IsReached g b.0 → has_phi f b.0 ≡ true → HasOther g f b
has_other g f b k all r had =
    ⊎_elim (λ (z : b.0 ≡ 0). inl z)
    (λ (c : ComesOver g f b).
    let over : IsSlot g c.from b.0 = slot_of_edge g all c.from b.0 c.reached c.edge in
    let brought : operand_at f b.0 over.slot ≡ leaving_at f c.from = k.operands b.0 over.slot over.source had over.found ∙ ap (leaving_at f) over.from in
    inr (over.slot, slice_get_below (sources_of g b.0) over.slot over.source over.found, λ i. c.other (sym brought ∙ i)))
    (comes g f b k all r.0 r.1)
