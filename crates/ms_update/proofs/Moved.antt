-- Operands move to where their edges stand now.
use Rattle.std.proofs.Common.{true, false, ◌≡◌, ◌<◌, ◌≤◌, ◌&&◌, ◌==◌, ℕ, ◌+◌, ◌-◌, List, [], length, get_or, Option, None, refl, ap, sym, ◌∙◌, arith, ⊎_elim, if◌then◌else◌}
use Rattle.std.specs.Prelude.{nat_lt}
use Rattle.std.proofs.lemmas.Bool.{cases_eq, cases_lt}
use Rattle.std.proofs.lemmas.Bool.Decides.{nat_tests}
use Rattle.std.proofs.lemmas.List.{get_or_past}
use Rattle.std.proofs.lemmas.List.FromFn.{get_or-map-range_with_len, length-map-range_with_len}
use Rattle.ms_paths.specs.Flow.{Block as Run}
use Rattle.ms_ir.specs.declared.names.BlockNo.{BlockNo}
use Rattle.ms_flow.specs.Flow.{FlowState, sources_of}
use Rattle.ms_form.specs.declared.access.Access.{Access}
use Rattle.ms_form.specs.declared.access.User.{User}
use Rattle.ms_form.specs.declared.access.User.TheVariants.{Inst, Operand, Entering}
use Rattle.ms_form.specs.Form.{FormState, HasPlaces, entry_of}
use Rattle.ms_form.specs.Counts.{pred_count, pred_counts}
use Rattle.ms_build.specs.Accesses.{operand_at}
use Rattle.ms_build.specs.Changes.{IsChanged, one_set}
use Rattle.ms_build.specs.Settled.{slot_count}
use Rattle.ms_build.proofs.Lists.{member_at, slice_get_below}
use Rattle.ms_build.proofs.Rules.{kept}
use Rattle.ms_build.proofs.Slots.{slots_of_form}
use Rattle.ms_update.specs.Dropped.{StoodBefore, operand_over, one_moved, all_moved}

-- at the first slots of a block
abbrev pub moved_below : List Run → (ℕ → ℕ → ℕ) → FormState → ℕ → ℕ → User → Option Access → Option Access
moved_below g before f b n (Inst i) x = x
moved_below g before f b n (Operand c slot) x = if (c.0 == b) && nat_lt slot n then operand_over g before f c.0 slot else x
moved_below g before f b n (Entering c) x = x

pub moved_begun : (g : List Run) (before : ℕ → ℕ → ℕ) (f : FormState) (b : ℕ) (u : User) (x : Option Access) → kept u x ≡ moved_below g before f b 0 u x
moved_begun g before f b (Inst i) x = refl
moved_begun g before f b (Operand c slot) x = grind (arith, nat_tests)
moved_begun g before f b (Entering c) x = refl

pub moved_next : (g : List Run) (before : ℕ → ℕ → ℕ) (f : FormState) (b : BlockNo) (k : ℕ) (y : Option Access) (u : User) (x : Option Access) → y ≡ operand_over g before f b.0 k
    → one_set (Operand b k) y u (moved_below g before f b.0 k u x) ≡ moved_below g before f b.0 (k + 1) u x
moved_next g before f b k y (Inst i) x e = refl
moved_next g before f b k y (Operand c slot) x e =
    ⊎_elim
    (λ (s : c.0 ≡ b.0).
    let t1 : (b.0 == c.0) ≡ true = grind (arith, nat_tests) in
    let t2 : (c.0 == b.0) ≡ true = grind (arith, nat_tests) in
    ⊎_elim
    (λ (i : slot ≡ k).
    let t3 : (k == slot) ≡ true = grind (arith, nat_tests) in
    let t4 : nat_lt slot (k + 1) ≡ true = grind (arith, nat_tests) in
    let e' : y ≡ operand_over g before f c.0 slot = e ∙ ap (λ (n : ℕ). operand_over g before f n k) (sym s) ∙ ap (operand_over g before f c.0) (sym i) in
    rw (t1, t3, t2, t4) e')
    (λ (n : slot ≡ k → ⊥).
    let t3 : (k == slot) ≡ false = grind (arith, nat_tests) in
    let t4 : nat_lt slot (k + 1) ≡ nat_lt slot k = grind (arith, nat_tests) in
    rw (t1, t3, t4) refl)
    (cases_eq slot k))
    (λ (n : c.0 ≡ b.0 → ⊥).
    let t1 : (b.0 == c.0) ≡ false = grind (arith, nat_tests) in
    let t2 : (c.0 == b.0) ≡ false = grind (arith, nat_tests) in
    rw (t1, t2) refl)
    (cases_eq c.0 b.0)
moved_next g before f b k y (Entering c) x e = refl

over_past : (g : List Run) (before : ℕ → ℕ → ℕ) (f : FormState) (b slot : ℕ) → length (sources_of g b) ≤ slot → operand_over g before f b slot ≡ None
over_past g before f b slot past = let t : nat_lt slot (length (sources_of g b)) ≡ false = grind (arith, nat_tests) in rw t refl

pub over_within : (g : List Run) (before : ℕ → ℕ → ℕ) (f : FormState) (b slot : ℕ) → slot < length (sources_of g b) → operand_over g before f b slot ≡ operand_at f b (before b slot)
over_within g before f b slot lt = let t : nat_lt slot (length (sources_of g b)) ≡ true = grind (arith, nat_tests) in rw t refl

pub moved_whole : (g : List Run) (before : ℕ → ℕ → ℕ) (f : FormState) (b k : ℕ) (u : User) → slot_count f b ≤ k → length (sources_of g b) ≤ slot_count f b
    → moved_below g before f b k u (entry_of f u) ≡ one_moved g before f b u (entry_of f u)
moved_whole g before f b k (Inst i) all few = refl
moved_whole g before f b k (Operand c slot) all few =
    ⊎_elim
    (λ (s : c.0 ≡ b).
    let t1 : (c.0 == b) ≡ true = grind (arith, nat_tests) in
    ⊎_elim
    (λ (lt : slot < k). let t2 : nat_lt slot k ≡ true = grind (arith, nat_tests) in rw (t1, t2) refl)
    (λ (le : k ≤ slot).
    let t2 : nat_lt slot k ≡ false = grind (arith, nat_tests) in
    let none : get_or (get_or f.operands c.0 []) slot None ≡ None = get_or_past (get_or f.operands c.0 []) slot None (rw s (omega arith)) in
    let none' : operand_over g before f c.0 slot ≡ None = over_past g before f c.0 slot (rw s (omega arith)) in
    rw (t1, t2) (none ∙ sym none'))
    (cases_lt slot k))
    (λ (n : c.0 ≡ b → ⊥). let t1 : (c.0 == b) ≡ false = grind (arith, nat_tests) in rw t1 refl)
    (cases_eq c.0 b)
moved_whole g before f b k (Entering c) all few = refl

-- Where the operands at the slots from k on are as before, so is what comes over the edge at k, which stood at k or behind.
pub over_still : (g : List Run) (before : ℕ → ℕ → ℕ) (f h : FormState) (b : BlockNo) (k : ℕ) → (k < length (sources_of g b.0) → k ≤ before b.0 k) → IsChanged (moved_below g before f b.0 k) f h
    → operand_over g before h b.0 k ≡ operand_over g before f b.0 k
over_still g before f h b k behind c =
    ⊎_elim
    (λ (lt : k < length (sources_of g b.0)).
    let le = behind lt in
    let t : nat_lt (before b.0 k) k ≡ false = grind (arith, nat_tests) in
    let t' : ((b.0 == b.0) && nat_lt (before b.0 k) k) ≡ false = grind (arith, nat_tests, t) in
    over_within g before h b.0 k lt ∙ c.entries (Operand b (before b.0 k)) ∙ (rw t' refl) ∙ sym (over_within g before f b.0 k lt))
    (λ (past : length (sources_of g b.0) ≤ k). over_past g before h b.0 k past ∙ sym (over_past g before f b.0 k past))
    (cases_lt k (length (sources_of g b.0)))

-- Block after block.

pub all_begun : (g : List Run) (before : ℕ → ℕ → ℕ) (f : FormState) (u : User) (x : Option Access) → kept u x ≡ all_moved g before f 0 u x
all_begun g before f (Inst i) x = refl
all_begun g before f (Operand c slot) x = grind (arith, nat_tests)
all_begun g before f (Entering c) x = refl

over_other : (g : List Run) (before : ℕ → ℕ → ℕ) (f h : FormState) (n c slot : ℕ) → n ≤ c → IsChanged (all_moved g before f n) f h → operand_over g before h c slot ≡ operand_over g before f c slot
over_other g before f h n c slot le ch =
    ap (λ (x : Option Access). if nat_lt slot (length (sources_of g c)) then x else None)
    (ch.entries (Operand (record { 0 = c }) (before c slot)) ∙ (let t : nat_lt c n ≡ false = grind (arith, nat_tests) in rw t refl))

pub all_next : (g : List Run) (before : ℕ → ℕ → ℕ) (f h : FormState) (n : ℕ) (u : User) (x : Option Access) → IsChanged (all_moved g before f n) f h
    → one_moved g before h n u (all_moved g before f n u x) ≡ all_moved g before f (n + 1) u x
all_next g before f h n (Inst i) x c = refl
all_next g before f h n (Operand b slot) x c =
    ⊎_elim
    (λ (s : b.0 ≡ n).
    let t1 : (b.0 == n) ≡ true = grind (arith, nat_tests) in
    let t2 : nat_lt b.0 (n + 1) ≡ true = grind (arith, nat_tests) in
    rw (t1, t2) (over_other g before f h n b.0 slot (omega arith) c))
    (λ (o : b.0 ≡ n → ⊥).
    let t1 : (b.0 == n) ≡ false = grind (arith, nat_tests) in
    let t2 : nat_lt b.0 (n + 1) ≡ nat_lt b.0 n = grind (arith, nat_tests) in
    rw (t1, t2) refl)
    (cases_eq b.0 n)
all_next g before f h n (Entering b) x c = refl

-- Fewer edges ask for fewer places.

pub fewer_sources : (old new : List Run) (before : ℕ → ℕ → ℕ) → StoodBefore old new before → (b : ℕ) → b < length new → length (sources_of new b) ≤ length (sources_of old b)
fewer_sources old new before stood b lt =
    ⊎_elim
    (λ (some : 0 < length (sources_of new b)).
    let last : ℕ = length (sources_of new b) - 1 in
    let at : last < length (sources_of new b) = omega arith in
    let e = member_at (sources_of new b) last at in
    let d = stood.over b last e.0 e.1 in
    let below = slice_get_below (sources_of old b) (before b last) d.0 d.1 in
    let le = stood.behind b last lt at in
    omega arith)
    (λ (none : length (sources_of new b) ≤ 0). omega arith)
    (cases_lt 0 (length (sources_of new b)))

pub places_fewer : (old new : FlowState) (insts : ℕ) (f : FormState) → length new.graph ≡ length old.graph → ((b : ℕ) → b < length new.graph → length (sources_of new.graph b) ≤ length (sources_of old.graph b))
    → HasPlaces (pred_counts old) insts f → HasPlaces (pred_counts new) insts f
places_fewer old new insts f same fewer p = record {
  blocks = p.blocks ∙ length-map-range_with_len (pred_count old) 0 (length old.graph) ∙ sym same ∙ sym size;
  slots = λ b.
      ⊎_elim
      (λ (lt : b < length new.graph).
      let least = slots_of_form old insts f b p (omega arith) in
      let few = fewer b lt in
      let count : get_or (pred_counts new) b 0 ≡ pred_count new b = get_or-map-range_with_len (pred_count new) 0 (length new.graph) b b 0 lt (omega arith) in
      omega arith)
      (λ (past : length new.graph ≤ b).
      let none : get_or (pred_counts new) b 0 ≡ 0 = get_or_past (pred_counts new) b 0 (omega (arith, size)) in
      omega arith)
      (cases_lt b (length new.graph));
  numbers = p.numbers;
}
  where
    size : length (pred_counts new) ≡ length new.graph
    size = length-map-range_with_len (pred_count new) 0 (length new.graph)
