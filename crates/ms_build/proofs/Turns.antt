-- Trivial phis are taken out one after another.
use Rattle.std.proofs.Common.{Bool, true, false, ◌≡◌, ◌<◌, ◌≤◌, ◌⊎◌, ◌*◌, ℕ, ◌+◌, List, [], ◌∷◌, ◌++◌, length, get_or, Option, Some, None, refl, ap, sym, ◌∙◌, subst, arith, ⊎_elim, length-append, length-set}
use Rattle.std.specs.Prelude.{sum_by}
use Rattle.std.proofs.lemmas.Bool.{cases_Bool, both_ways}
use Rattle.std.proofs.lemmas.List.Sums.{sum_by-set}
use Rattle.ms_paths.specs.Flow.{Block as Run}
use Rattle.ms_ir.specs.declared.names.BlockNo.{BlockNo}
use Rattle.ms_flow.specs.Flow.{FlowState}
use Rattle.ms_form.specs.declared.access.Access.{Access}
use Rattle.ms_form.specs.declared.access.Access.TheVariants.{Entry, Of, Phi}
use Rattle.ms_form.specs.Form.{FormState, HasPlaces, KeepsPlaces}
use Rattle.ms_form.specs.Counts.{pred_counts}
use Rattle.ms_form.specs.Waiting.{one_if, times}
use Rattle.ms_build.specs.Accesses.{has_phi}
use Rattle.ms_build.specs.Consistent.{IsConsistent}
use Rattle.ms_build.specs.Settled.{IsTrivial, NoTrivial, renamed, IsSettled}
use Rattle.ms_build.specs.Changes.{IsLeft, IsTakenOut, IsTried, Waits}
use Rattle.ms_build.proofs.Phis.{in_phis}
use Rattle.ms_build.proofs.Waits.{waits_still}
use Rattle.ms_build.proofs.Slots.{blocks_of_form}
use Rattle.ms_build.proofs.Out.{consistent_out, settled_out, trivial_before, phi_gone}

pub record IsSettling (flow : FlowState) (old new : FormState) : Type 0 where
  pub consistent : IsConsistent flow.graph new
  pub settled : IsSettled old new
  pub places : HasPlaces (pred_counts flow) 0 new
  pub keeps : KeepsPlaces old new
  pub awaited : (b : ℕ) (a : Access) → has_phi new b ≡ true → IsTrivial flow.graph new b a → Waits new b

consistent_waiting : (g : List Run) (f : FormState) (list : List ℕ) → IsConsistent g f → IsConsistent g (record f { waiting = list })
consistent_waiting g f list k = record { entry = k.entry; enters = k.enters; operands = k.operands }

renamed_none : (f : FormState) (list : List ℕ) (x : Option Access) → x ≡ renamed f (record f { waiting = list }) x
renamed_none f list None = refl
renamed_none f list (Some Entry) = refl
renamed_none f list (Some (Of i)) = refl
renamed_none f list (Some (Phi b)) = ⊎_elim (λ (t : has_phi f b.0 ≡ true). rw t refl) (λ (o : has_phi f b.0 ≡ false). rw o refl) (cases_Bool (has_phi f b.0))

settled_none : (f : FormState) (list : List ℕ) → IsSettled f (record f { waiting = list })
settled_none f list = record {
  blocks = refl;
  none_new = λ b t. t;
  cleared = λ b slot gone. absurd (both_ways (has_phi f b) gone.1 gone.0);
  operands = λ b slot same. renamed_none f list (get_or (get_or f.operands b []) slot None);
  enters = λ b same. renamed_none f list (get_or f.enters b None);
  defs = λ i. renamed_none f list (get_or f.defs i None);
  lasts = refl;
  spare = refl;
}

settled_waiting : (old f : FormState) (list : List ℕ) → IsSettled old f → IsSettled old (record f { waiting = list })
settled_waiting old f list s = record {
  blocks = s.blocks;
  none_new = s.none_new;
  cleared = s.cleared;
  operands = λ b slot same. s.operands b slot same ∙ now (get_or (get_or old.operands b []) slot None);
  enters = λ b same. s.enters b same ∙ now (get_or old.enters b None);
  defs = λ i. s.defs i ∙ now (get_or old.defs i None);
  lasts = s.lasts;
  spare = s.spare;
}
  where
    now : (x : Option Access) → renamed old f x ≡ renamed old (record f { waiting = list }) x
    now None = refl
    now (Some Entry) = refl
    now (Some (Of i)) = refl
    now (Some (Phi b)) = refl

-- every block waits
pub settling_begun : (flow : FlowState) (f g : FormState) → g ≡ record f { waiting = g.waiting } → ((b : ℕ) → b < length flow.graph → Waits g b) → KeepsPlaces f g
    → HasPlaces (pred_counts flow) 0 f → IsConsistent flow.graph f → IsSettling flow f g
settling_begun flow f g same all keeps places k = record {
  consistent = subst (IsConsistent flow.graph) (sym same) (consistent_waiting flow.graph f g.waiting k);
  settled = subst (IsSettled f) (sym same) (settled_none f g.waiting);
  places = keeps (pred_counts flow) 0 places;
  keeps = keeps;
  awaited = λ b a t triv. all b (let in' = in_phis g b t in let n = blocks_of_form flow 0 g (keeps (pred_counts flow) 0 places) in omega arith);
}

-- one block that waited was tried
pub settling_next : (flow : FlowState) (old f h k : FormState) (b : BlockNo) → IsSettling flow old f → b.0 < length f.phis → f.waiting ≡ h.waiting ++ b.0 ∷ [] → h ≡ record f { waiting = h.waiting }
    → KeepsPlaces f h → IsTried flow.graph b h k → KeepsPlaces h k → IsSettling flow old k
settling_next flow old f h k b s lt list same keeps' tried keeps = ⊎_elim left out tried
  where
    consistent : IsConsistent flow.graph h
    consistent = subst (IsConsistent flow.graph) (sym same) (consistent_waiting flow.graph f h.waiting s.consistent)

    settled : IsSettled old h
    settled = subst (IsSettled old) (sym same) (settled_waiting old f h.waiting s.settled)

    places : HasPlaces (pred_counts flow) 0 h
    places = keeps' (pred_counts flow) 0 s.places

    all_keep : KeepsPlaces old k
    all_keep counts insts p = keeps counts insts (keeps' counts insts (s.keeps counts insts p))

    awaited_in : (x : ℕ) (a : Access) → has_phi h x ≡ true → IsTrivial flow.graph h x a → (b.0 ≡ x) ⊎ Waits h x
    awaited_in x a t triv =
        let t' : has_phi f x ≡ true = rw same at t in
        let triv' : IsTrivial flow.graph f x a = subst (λ (g : FormState). IsTrivial flow.graph g x a → IsTrivial flow.graph f x a) (sym same) (λ w. w) triv in
        let w : 1 ≤ times x f.waiting = s.awaited x a t' triv' in
        waits_still x b.0 h.waiting (rw list at w)

    left : IsLeft flow.graph b h k → IsSettling flow old k
    left l = subst (IsSettling flow old) (sym l.same) (record {
      consistent = consistent;
      settled = settled;
      places = places;
      keeps = λ counts insts p. keeps' counts insts (s.keeps counts insts p);
      awaited = λ x a t triv.
          ⊎_elim (λ (i : b.0 ≡ x). absurd (l.none a (subst (λ (n : ℕ). has_phi h n ≡ true) (sym i) t) (subst (λ (n : ℕ). IsTrivial flow.graph h n a) (sym i) triv)))
          (λ (w : Waits h x). w) (awaited_in x a t triv);
    })

    out : IsTakenOut flow.graph b h k → IsSettling flow old k
    out o =
        record {
          consistent = consistent_out flow.graph b o.access h k o.out o.had consistent o.trivial o.other;
          settled = settled_out flow.graph b o.access h k o.out o.had old settled;
          places = all_keep_now;
          keeps = all_keep;
          awaited = λ x a t triv.
              ⊎_elim (λ (w : Waits k x). w)
              (λ (was : (has_phi h x ≡ true) × IsTrivial flow.graph h x a).
              ⊎_elim (λ (i : b.0 ≡ x). absurd (gone o x i t)) (λ (w : Waits h x). o.out.on x w) (awaited_in x a was.0 was.1))
              (trivial_before flow.graph b o.access h k o.out o.had x a t triv);
        }
      where
        all_keep_now : HasPlaces (pred_counts flow) 0 k
        all_keep_now = keeps (pred_counts flow) 0 places

        gone : (o : IsTakenOut flow.graph b h k) (x : ℕ) → b.0 ≡ x → has_phi k x ≡ true → ⊥
        gone o x i t = both_ways (has_phi k b.0) (phi_gone flow.graph b o.access h k o.out o.had) (subst (λ (n : ℕ). has_phi k n ≡ true) (sym i) t)

pub none_waits : (flow : FlowState) (old f : FormState) → IsSettling flow old f → f.waiting ≡ [] → NoTrivial flow.graph f
none_waits flow old f s none b a t triv = let w : 1 ≤ times b f.waiting = s.awaited b a t triv in let w' = rw none at w in absurd (omega arith)

-- how many phis there are
abbrev pub phi_count : FormState → ℕ
phi_count f = sum_by one_if f.phis

-- what is left to do
abbrev pub work : FormState → ℕ
work f = phi_count f * (length f.phis + 1) + length f.waiting

fewer_phis : (p q m n w v : ℕ) → q ≡ p + 1 → m ≡ n → w ≤ n → p * (m + 1) + w < q * (n + 1) + v
fewer_phis p q m n w v e s h = rw (e, s) (omega arith)

pub work_falls : (g : List Run) (f h k : FormState) (b : BlockNo) → f.waiting ≡ h.waiting ++ b.0 ∷ [] → h ≡ record f { waiting = h.waiting } → IsTried g b h k → length k.waiting ≤ length k.phis → work k < work f
work_falls g f h k b list same tried few = ⊎_elim left out tried
  where
    phis : h.phis ≡ f.phis
    phis = ap (λ (x : FormState). x.phis) same

    waits : length f.waiting ≡ length h.waiting + 1
    waits = ap length list ∙ length-append h.waiting (b.0 ∷ [])

    left : IsLeft g b h k → work k < work f
    left l = rw (l.same, phis) (omega (arith, waits))

    out : IsTakenOut g b h k → work k < work f
    out o =
        let in' = in_phis h b.0 o.had in
        let fall = sum_by-set one_if h.phis b.0 false false in' in
        let fall' = rw o.had at fall in
        let count : phi_count h ≡ phi_count k + 1 = rw o.out.phis (omega arith) in
        let count' : phi_count f ≡ phi_count k + 1 = ap (λ (l : List Bool). sum_by one_if l) (sym phis) ∙ count in
        let size : length k.phis ≡ length f.phis = ap length o.out.phis ∙ length-set h.phis b.0 false ∙ ap length phis in
        fewer_phis (phi_count k) (phi_count f) (length k.phis) (length f.phis) (length k.waiting) (length f.waiting) count' size (omega arith)
