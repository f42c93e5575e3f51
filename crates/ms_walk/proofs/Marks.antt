-- Marks of the instructions that are behind one of them.
use Rattle.std.proofs.Common.{◌≡◌, ◌<◌, ◌+◌, ◌↔◌, ℕ, Bool, true, false, List, length, set, Some, refl, sym, ap, ◌∙◌, subst, arith, ⊎_elim}
use Rattle.std.specs.Prelude.{◌==◌, IsTrue, slice_get, nat_lt}
use Rattle.std.proofs.lemmas.Bool.{cases_Bool, cases_eq, both_ways, eq-eqb, eqb-true, ltb-true, lt-ltb}
use Rattle.std.proofs.lemmas.List.{get_or-set_other, get_or-set_same, length-set}
use Rattle.ms_paths.specs.Flow.{Block as Run, IsReached, IsOnEveryPath, LiesOnEvery, StandsAt, StandsInOnePlace, IsClosed}
use Rattle.ms_ir.specs.Func.{Placed, Block, FuncState, IsAt, insts_at}
use Rattle.ms_ir.specs.Graph.{graph_of}
use Rattle.ms_build.proofs.Define.{OnePlaced}
use Rattle.ms_climb.proofs.Events.{reached_below}
use Rattle.ms_flow.proofs.Tables.{length-graph_of, length-edges_of}
use Rattle.ms_flow.specs.Table.{edges_of}
use Rattle.ms_flow.specs.Flow.{AreBehind}
use Rattle.ms_walk.specs.Turn.{is_marked, IsBehind, is_past, AreMarked, AreMarkedTo}
use Rattle.ms_walk.proofs.Passed.{stands_at, in_one_place}

-- one more instruction is marked
pub mark_more : (blocks : List Block) (starts : List Bool) (home place b n : ℕ) (old now : List Bool) (i : ℕ) (x : Placed) (t : Bool) → OnePlaced blocks
    → i < length old → IsAt blocks i b n x → t ≡ is_past starts home place b n
    → AreMarked blocks starts home place b n old now → AreMarked blocks starts home place b (n + 1) old (set now i t)
mark_more blocks starts home place b n old now i x t one lt at is h = record {
  size = length-set now i t ∙ h.size;
  here = λ k y there below. ⊎_elim
      (λ (e : k ≡ n).
      ap (λ (m : ℕ). is_marked (set now i t) m) (number_here k y there e) ∙ get_or-set_same now i t false (omega (arith, lt, h.size)) ∙ is ∙ ap (is_past starts home place b) (sym e))
      (λ (ne : k ≡ n → ⊥).
      get_or-set_other now i y.number t false (λ e. ne (one b k b n y x there at.found (e ∙ sym at.numbered)).1) ∙ h.here k y there (omega (arith, below, ne)))
      (cases_eq k n);
  others = λ c k y there ne. get_or-set_other now i y.number t false (λ e. ne (one c k b n y x there at.found (e ∙ sym at.numbered)).0) ∙ h.others c k y there ne;
} where
  number_here : (k : ℕ) (y : Placed) → slice_get (insts_at blocks b) k ≡ Some y → k ≡ n → y.number ≡ i
  number_here k y there e =
      let both : Some y ≡ Some x = sym there ∙ ap (slice_get (insts_at blocks b)) e ∙ at.found in
      let same : y ≡ x = cc in
      ap (λ (z : Placed). z.number) same ∙ at.numbered

past_home : (starts : List Bool) (home place b k : ℕ) → b ≡ home → is_past starts home place b k ≡ nat_lt place k
past_home starts home place b k e = let t : (b == home) ≡ true = eq-eqb b home e in rw t refl

past_other : (starts : List Bool) (home place b k : ℕ) → (b ≡ home → ⊥) → is_past starts home place b k ≡ is_marked starts b
past_other starts home place b k ne =
    ⊎_elim
    (λ (t : (b == home) ≡ true). absurd (ne (eqb-true b home t)))
    (λ (f : (b == home) ≡ false). rw f refl)
    (cases_Bool (b == home))

-- the laws on what lies on every path
abbrev pub LiesOwn : Type 0
LiesOwn = (g : List Run) (q c j k : ℕ) → StandsInOnePlace g → StandsAt g q c j → IsReached g c → LiesOnEvery g q c k ↔ (j < k)

abbrev pub LiesOther : Type 0
LiesOther = (g : List Run) (q c j b k : ℕ) → StandsInOnePlace g → StandsAt g q c j → (b ≡ c → ⊥) → LiesOnEvery g q b k ↔ IsOnEveryPath g c b

-- the blocks whose starts are behind instruction q of block home
record AreStarts (f : FuncState) (home : ℕ) (starts : List Bool) : Type 0 where
  own : is_marked starts home ≡ false
  each : (b : ℕ) → b < length f.blocks → (b ≡ home → ⊥) → IsTrue (is_marked starts b) ↔ IsOnEveryPath (graph_of f.blocks) home b

are_starts : (f : FuncState) (home : ℕ) (starts old : List Bool) → starts ≡ set old home false → home < length old
    → ((b : ℕ) → b < length f.blocks → IsTrue (is_marked old b) ↔ IsOnEveryPath (graph_of f.blocks) home b) → AreStarts f home starts
are_starts f home starts old is lt told = record {
  own = ap (λ (l : List Bool). is_marked l home) is ∙ get_or-set_same old home false false lt;
  each = λ b below ne.
      let same : is_marked starts b ≡ is_marked old b = ap (λ (l : List Bool). is_marked l b) is ∙ get_or-set_other old home b false false ne in
      ((λ t. (told b below).0 (sym same ∙ t)), (λ h. same ∙ (told b below).1 h));
}

start_behind : (f : FuncState) → OnePlaced f.blocks → LiesOwn → LiesOther → (q home place : ℕ) (y : Placed) → IsAt f.blocks q home place y → (starts : List Bool) → AreStarts f home starts
    → (b : ℕ) → b < length f.blocks → IsReached (graph_of f.blocks) b → IsTrue (is_marked starts b) ↔ LiesOnEvery (graph_of f.blocks) q b 0
start_behind f one own other q home place y at starts is b below r =
    let g = graph_of f.blocks in
    let stands = stands_at f.blocks q home place y at in
    ⊎_elim
    (λ (e : b ≡ home).
    let off : is_marked starts b ≡ false = ap (is_marked starts) e ∙ is.own in (
      (λ t. absurd (both_ways (is_marked starts b) off t)),
      (λ (h : LiesOnEvery g q b 0).
          let lt = (own g q home place 0 (in_one_place f.blocks one) stands (subst (IsReached g) e r)).0 (subst (λ (n : ℕ). LiesOnEvery g q n 0) e h) in
          absurd (omega (arith, lt))),
    ))
    (λ (ne : b ≡ home → ⊥).
    let lies = other g q home place b 0 (in_one_place f.blocks one) stands ne in
    ((λ t. lies.1 ((is.each b below ne).0 t)), (λ h. (is.each b below ne).1 (lies.0 h))))
    (cases_eq b home)

inst_behind : (f : FuncState) → OnePlaced f.blocks → LiesOwn → LiesOther → (q home place : ℕ) (y : Placed) → IsAt f.blocks q home place y → (starts : List Bool) → AreStarts f home starts
    → (b k : ℕ) → b < length f.blocks → IsReached (graph_of f.blocks) b → IsTrue (is_past starts home place b k) ↔ LiesOnEvery (graph_of f.blocks) q b k
inst_behind f one own other q home place y at starts is b k below r =
    let g = graph_of f.blocks in
    let stands = stands_at f.blocks q home place y at in
    ⊎_elim
    (λ (e : b ≡ home).
    let lies = own g q home place k (in_one_place f.blocks one) stands (subst (IsReached g) e r) in
    let past = past_home starts home place b k e in (
      (λ t. subst (λ (n : ℕ). LiesOnEvery g q n k) (sym e) (lies.1 (ltb-true place k (sym past ∙ t)))),
      (λ (h : LiesOnEvery g q b k). past ∙ lt-ltb place k (lies.0 (subst (λ (n : ℕ). LiesOnEvery g q n k) e h))),
    ))
    (λ (ne : b ≡ home → ⊥).
    let lies = other g q home place b k (in_one_place f.blocks one) stands ne in
    let past = past_other starts home place b k ne in
    ((λ t. lies.1 ((is.each b below ne).0 (sym past ∙ t))), (λ h. past ∙ (is.each b below ne).1 (lies.0 h))))
    (cases_eq b home)

pub marks_behind : (f : FuncState) → OnePlaced f.blocks → LiesOwn → LiesOther → IsClosed (graph_of f.blocks)
    → (q home place : ℕ) (y : Placed) → IsAt f.blocks q home place y → (starts insts old : List Bool) → starts ≡ set old home false
    → (g : List Run) → g ≡ edges_of f.blocks → ((h b : ℕ) → IsOnEveryPath (edges_of f.blocks) h b ↔ IsOnEveryPath (graph_of f.blocks) h b) → AreBehind g home old
    → AreMarkedTo f.blocks starts home place (length f.blocks) insts → IsBehind f q insts starts
marks_behind f one own other closed q home place y at starts insts old is g same paths told marked =
    let size : length old ≡ length f.blocks = told.blocks ∙ ap (λ (h : List Run). length h) same ∙ length-edges_of f.blocks in
    let each : (b : ℕ) → b < length f.blocks → IsTrue (is_marked old b) ↔ IsOnEveryPath (graph_of f.blocks) home b =
    λ b lt.
    let on = told.behind b (subst (λ (n : ℕ). b < n) (sym (ap (λ (h : List Run). length h) same ∙ length-edges_of f.blocks)) lt) in
    ((λ t. (paths home b).0 (subst (λ (h : List Run). IsOnEveryPath h home b) same (on.0 t))), (λ h. on.1 (subst (λ (h : List Run). IsOnEveryPath h home b) (sym same) ((paths home b).1 h)))) in
    let all = are_starts f home starts old is (subst (λ (n : ℕ). home < n) (sym size) at.block) each in
    record {
      insts_are = λ i b k x r here.
          let same : is_marked insts i ≡ is_past starts home place b k = ap (is_marked insts) (sym here.numbered) ∙ marked.each b k x here.found here.block in
          let lies = inst_behind f one own other q home place y at starts all b k here.block r in
          ((λ t. lies.0 (sym same ∙ t)), (λ h. same ∙ lies.1 h));
      starts_are = λ b r. start_behind f one own other q home place y at starts all b (within b r) r;
    } where
      within : (b : ℕ) → IsReached (graph_of f.blocks) b → b < length f.blocks
      within b r = subst (λ (n : ℕ). b < n) (length-graph_of f.blocks) (reached_below (graph_of f.blocks) closed b r.0 r.1)
