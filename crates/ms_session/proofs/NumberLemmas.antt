-- Accesses and their numbers.
use Rattle.std.proofs.Common.{◌≡◌, ◌≢◌, ◌<◌, ◌+◌, ℕ, suc, Bool, true, false, eqb, List, [], ◌∷◌, ◌++◌, drop, length, map, set, get_or, Option, Some, None, if◌then◌else◌, refl, ap, sym, ◌∙◌, arith, add-one, append_assoc, append-nil, ⊎_elim}
use Rattle.std.specs.Prelude.{is_some, option_map, unwrap_or, slice_index_or}
use Rattle.std.proofs.lemmas.Bool.{cases_Bool}
use Rattle.std.proofs.lemmas.Bool.Decides.{nat_tests}
use Rattle.std.proofs.lemmas.List.{get_or-set_same, get_or-set_other, drop_more, length-map}
use Rattle.ms_paths.specs.Flow.{Block as Run, Event, Of, Phi, Entry}
use Rattle.ms_ir.specs.Inst.{kind_of_inst}
use Rattle.ms_ir.specs.Graph.{is_def}
use Rattle.ms_ir.specs.Func.{Placed, Block, no_block}
use Rattle.ms_form.specs.declared.access.Access.{Access}
use Rattle.ms_form.specs.Form.{FormState}
use Rattle.ms_build.specs.Accesses.{event_of, has_phi}
use Rattle.ms_session.specs.Annotated.{def_events, numbered_from, same_event, number_in}
use Rattle.ms_session.specs.Shown.{NumbersState, place_in, IsNumbering, with_more, reached_in, block_events}

-- the first of two that is there
abbrev first_of : Option ℕ → Option ℕ → Option ℕ
first_of a b = if is_some a then a else b

first_none : (a : Option ℕ) → first_of a None ≡ a
first_none None = refl
first_none (Some n) = refl

first_suc : (a b : Option ℕ) → option_map suc (first_of a b) ≡ first_of (option_map suc a) (option_map suc b)
first_suc None b = refl
first_suc (Some n) b = refl

last_place : (same : Bool) (n : ℕ) → option_map suc (if same then Some n else None) ≡ (if same then Some (suc n) else None)
last_place true n = refl
last_place false n = refl

-- the number in a list with one more access
place_more : (all : List Event) (a e : Event) → place_in (all ++ a ∷ []) e ≡ first_of (place_in all e) (if same_event a e then Some (suc (length all)) else None)
place_more [] a e = refl
place_more (x ∷ all) a e =
    ⊎_elim
    (λ (t : same_event x e ≡ true). rw t refl)
    (λ (f : same_event x e ≡ false).
    rw (f, place_more all a e)
    (first_suc (place_in all e) (if same_event a e then Some (suc (length all)) else None)
    ∙ ap (first_of (option_map suc (place_in all e))) (last_place (same_event a e) (suc (length all)))))
    (cases_Bool (same_event x e))

-- a table with a number more
abbrev given : List (Option ℕ) → ℕ → ℕ → List (Option ℕ)
given t at n = if is_some (slice_index_or t at None) then t else set t at (Some n)

given_at : (t : List (Option ℕ)) (at n c : ℕ) → at < length t
    → slice_index_or (given t at n) c None ≡ first_of (slice_index_or t c None) (if eqb at c then Some n else None)
given_at t at n c lt =
    ⊎_elim
    (λ (s : eqb at c ≡ true).
    let same : c ≡ at = grind (arith, nat_tests) in
    rw (s, same) (⊎_elim
    (λ (y : is_some (get_or t at None) ≡ true). rw y refl)
    (λ (f : is_some (get_or t at None) ≡ false). rw (f, get_or-set_same t at (Some n) None lt) refl)
    (cases_Bool (is_some (get_or t at None)))))
    (λ (o : eqb at c ≡ false).
    let other : c ≢ at = grind (arith, nat_tests) in
    rw o (⊎_elim
    (λ (y : is_some (get_or t at None) ≡ true). rw y (sym (first_none (get_or t c None))))
    (λ (f : is_some (get_or t at None) ≡ false). rw (f, get_or-set_other t at c (Some n) None other) (sym (first_none (get_or t c None))))
    (cases_Bool (is_some (get_or t at None)))))
    (cases_Bool (eqb at c))

pub phi_given : (all : List Event) (phis defs : List (Option ℕ)) (b n : ℕ) → IsNumbering all phis defs → b < length phis → n ≡ suc (length all)
    → IsNumbering (all ++ Phi b ∷ []) (if is_some (slice_index_or phis b None) then phis else set phis b (Some n)) defs
phi_given all phis defs b n k lt is = record {
  at_phis = λ c. given_at phis b n c lt ∙ sym (rw (place_more all (Phi b) (Phi c), k.at_phis c, is) refl);
  at_defs = λ i. k.at_defs i ∙ sym (place_more all (Phi b) (Of i) ∙ first_none (place_in all (Of i)));
}

pub def_given : (all : List Event) (phis defs : List (Option ℕ)) (i n : ℕ) → IsNumbering all phis defs → i < length defs → n ≡ suc (length all)
    → IsNumbering (all ++ Of i ∷ []) phis (if is_some (slice_index_or defs i None) then defs else set defs i (Some n))
def_given all phis defs i n k lt is = record {
  at_phis = λ b. k.at_phis b ∙ sym (place_more all (Of i) (Phi b) ∙ first_none (place_in all (Phi b)));
  at_defs = λ c. given_at defs i n c lt ∙ sym (rw (place_more all (Of i) (Of c), k.at_defs c, is) refl);
}

pub entry_given : (all : List Event) (phis defs : List (Option ℕ)) → IsNumbering all phis defs → IsNumbering (all ++ Entry ∷ []) phis defs
entry_given all phis defs k = record {
  at_phis = λ b. k.at_phis b ∙ sym (place_more all Entry (Phi b) ∙ first_none (place_in all (Phi b)));
  at_defs = λ i. k.at_defs i ∙ sym (place_more all Entry (Of i) ∙ first_none (place_in all (Of i)));
}

suc_or : (p : Option ℕ) (n : ℕ) → suc (unwrap_or p n) ≡ unwrap_or (option_map suc p) (suc n)
suc_or None n = refl
suc_or (Some k) n = refl

-- the number of an access, by its place
pub number_is : (all : List Event) (e : Event) → number_in all e ≡ unwrap_or (place_in all e) (suc (length all))
number_is [] e = refl
number_is (a ∷ all) e =
    ⊎_elim
    (λ (t : same_event a e ≡ true). rw t refl)
    (λ (f : same_event a e ≡ false). rw (f, number_is all e) (suc_or (place_in all e) (suc (length all))))
    (cases_Bool (same_event a e))

pub state_is : (s t : NumbersState) (es : List Event) → s.all ≡ t.all ++ es → s.blocks ≡ t.blocks → s.insts ≡ t.insts → s ≡ with_more t es
state_is s t es all blocks insts =
    let P : List Event → ℕ → ℕ → NumbersState = λ a b i. record { all = a; blocks = b; insts = i } in
    ap (λ a. P a s.blocks s.insts) all ∙ ap (λ b. P (t.all ++ es) b s.insts) blocks ∙ ap (λ i. P (t.all ++ es) t.blocks i) insts

-- the Defs behind an instruction
pub defs_more : (old : List Event) (x : Placed) (xs : List Placed) → (old ++ def_events (x ∷ [])) ++ def_events xs ≡ old ++ def_events (x ∷ xs)
defs_more old x xs =
    ⊎_elim
    (λ (t : is_def (kind_of_inst x.inst) ≡ true). rw t (append_assoc old (Of x.number ∷ []) (def_events xs)))
    (λ (f : is_def (kind_of_inst x.inst) ≡ false). rw f (ap (λ (l : List Event). l ++ def_events xs) (append-nil old)))
    (cases_Bool (is_def (kind_of_inst x.inst)))

-- the accesses behind a block
pub blocks_more : (g : List Run) (form : FormState) (blocks : List Block) (b : ℕ) (old : List Event) → b < length blocks
    → (old ++ block_events g form blocks b) ++ numbered_from (reached_in g) (has_phi form) (b + 1) (drop (b + 1) blocks)
    ≡ old ++ numbered_from (reached_in g) (has_phi form) b (drop b blocks)
blocks_more g form blocks b old within = rw (drop_more blocks b no_block within, add-one) (simp append_assoc)

-- the number of an access, as it is looked up
pub number_by : (accesses : List Access) (t u : List (Option ℕ)) (at free n : ℕ) (e : Event) → n ≡ unwrap_or (slice_index_or u at None) free → u ≡ t
    → free ≡ suc (length accesses) → slice_index_or t at None ≡ place_in (map event_of accesses) e → n ≡ number_in (map event_of accesses) e
number_by accesses t u at free n e first same next place =
    let len : free ≡ suc (length (map event_of accesses)) = next ∙ ap (λ (k : ℕ). suc k) (sym (length-map accesses event_of)) in
    first
    ∙ ap (λ l. unwrap_or (slice_index_or l at None) free) same
    ∙ ap (λ p. unwrap_or p free) place
    ∙ ap (λ k. unwrap_or (place_in (map event_of accesses) e) k) len
    ∙ sym (number_is (map event_of accesses) e)
