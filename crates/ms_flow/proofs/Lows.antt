-- The least places to which blocks fall, and the order of the pass that finds them.
use Rattle.std.proofs.Common.{◌≡◌, ℕ, ◌+◌, ◌<◌, ◌≤◌, ◌⊎◌, ◌↔◌, List, length, get_or, set, min, sym, ap, ◌∙◌, subst, inl, inr, ⊎_elim, arith, length-set, get_or-set_same, get_or-set_other}
use Rattle.std.specs.Prelude.{Some, slice_get, unwrap_or, is_some}
use Rattle.std.proofs.lemmas.Bool.{cases_eq, cases_lt}
use Rattle.std.proofs.lemmas.List.{get_or_default}
use Rattle.std.proofs.lemmas.List.Elements.{Contains-get_or}
use Rattle.std.proofs.lemmas.Option.{slice_get_within, same_Some}
use Rattle.ms_paths.specs.Flow.{Block as Run, IsReached, IsClosed}
use Rattle.ms_flow.specs.Table.{next_of}
use Rattle.ms_flow.specs.Flow.{walked, order_of, place_of}
use Rattle.ms_flow.specs.Loops.{FallsTo, FallsOver, IsLeast, IsLow, AreLow}
use Rattle.ms_flow.proofs.Listed.{left_few}
use Rattle.ms_flow.proofs.Orders.{order_reached, place_below, placed}
use Rattle.ms_flow.proofs.Rises.{FallsBack, falls_first, falls_over}

-- the least place of two lots of blocks
least_min : (g : List Run) (F G H : ℕ → Type 0) (x y : ℕ) → IsLeast g F x → IsLeast g G y → ((h : ℕ) → H h → F h ⊎ G h) → ((h : ℕ) → F h → H h) → ((h : ℕ) → G h → H h) → IsLeast g H (min x y)
least_min g F G H x y f k split left right = record {
  least = λ h r. ⊎_elim (λ (i : F h). let low = f.least h i in omega arith) (λ (i : G h). let low = k.least h i in omega arith) (split h r);
  is = ⊎_elim
      (λ (lt : x < y).
      let m : min x y ≡ x = omega arith in
      ⊎_elim (λ (e : x ≡ length g). inl (m ∙ e)) (λ (r : (h : ℕ) × F h × (x ≡ place_of g h)). inr (r.0, left r.0 r.1, m ∙ r.2)) f.is)
      (λ (le : y ≤ x).
      let m : min x y ≡ y = omega arith in
      ⊎_elim (λ (e : y ≡ length g). inl (m ∙ e)) (λ (r : (h : ℕ) × G h × (y ≡ place_of g h)). inr (r.0, right r.0 r.1, m ∙ r.2)) k.is)
      (cases_lt x y);
}

-- the blocks to which b falls over its first edges, so many of them
abbrev pub FallsAmong : List Run → ℕ → ℕ → ℕ → Type 0
FallsAmong g b count h = (k : ℕ) × (k < count) × FallsOver g b (get_or (next_of g b) k 0) h

-- over one more edge
pub one_edge_low : (g : List Run) (b k x y : ℕ) → IsLeast g (FallsAmong g b k) x → IsLeast g (FallsOver g b (get_or (next_of g b) k 0)) y → IsLeast g (FallsAmong g b (k + 1)) (min x y)
one_edge_low g b k x y f over =
    least_min g (FallsAmong g b k) (FallsOver g b (get_or (next_of g b) k 0)) (FallsAmong g b (k + 1)) x y f over
    (λ h r. ⊎_elim
    (λ (e : r.0 ≡ k). inr (subst (λ j. FallsOver g b (get_or (next_of g b) j 0) h) e r.2))
    (λ (n : r.0 ≡ k → ⊥). let lt = r.1 in inl (r.0, omega arith, r.2))
    (cases_eq r.0 k))
    (λ h r. let lt = r.1 in (r.0, omega arith, r.2))
    (λ h r. (k, omega arith, r))

-- over all of them
pub all_edges_low : (g : List Run) (b count low : ℕ) → count ≡ length (next_of g b) → IsLeast g (FallsAmong g b count) low → IsLow g b low
all_edges_low g b count low all f = record {
  least = λ h t.
      let r = falls_first g b h t in
      let k = r.1.0 in
      let lt = r.1.1 in
      let is : r.0 ≡ get_or (next_of g b) k 0 = sym r.1.2 ∙ get_or_default (next_of g b) k r.0 0 lt in
      f.least h (k, omega arith, subst (λ c. FallsOver g b c h) is r.2);
  is = ⊎_elim (λ (e : low ≡ length g). inl e)
      (λ (r : (h : ℕ) × FallsAmong g b count h × (low ≡ place_of g h)).
      let k = r.1.0 in
      let lt = r.1.1 in
      inr (r.0, falls_over g b (get_or (next_of g b) k 0) r.0 (Contains-get_or (next_of g b) k 0 (omega arith)) r.1.2, r.2))
      f.is;
}

-- reached blocks at one place are one
one_place : (g : List Run) → IsClosed g → (a b : ℕ) → IsReached g a → IsReached g b → place_of g a ≡ place_of g b → a ≡ b
one_place g closed a b r s e = same_Some a b (sym (placed g closed a r) ∙ ap (slice_get (walked g).left) e ∙ placed g closed b s)

-- one more block has its low
pub more_low : (g : List Run) → IsClosed g → (b low : ℕ) (lows : List ℕ) → IsReached g b → b < length g → IsLow g b low → AreLow g (place_of g b + 1) lows → AreLow g (place_of g b) (set lows b low)
more_low g closed b low lows r lt is are =
    let blocks = are.blocks in
    record {
      blocks = length-set lows b low ∙ are.blocks;
      have_low = λ x s le. ⊎_elim
          (λ (e : x ≡ b).
          let here : get_or (set lows b low) x 0 ≡ low = ap (λ k. get_or (set lows b low) k 0) e ∙ get_or-set_same lows b low 0 (omega arith) in
          subst (IsLow g x) (sym here) (subst (λ k. IsLow g k low) (sym e) is))
          (λ (n : x ≡ b → ⊥).
          let there : get_or (set lows b low) x 0 ≡ get_or lows x 0 = get_or-set_other lows b x low 0 n in
          let apart : place_of g x ≡ place_of g b → ⊥ = λ e. n (one_place g closed x b s r e) in
          subst (IsLow g x) (sym there) (are.have_low x s (omega arith)))
          (cases_eq x b);
    }

place_within : (g : List Run) → IsClosed g → (b : ℕ) → IsReached g b → place_of g b < length (walked g).left
place_within g closed b r = slice_get_within (walked g).left (place_of g b) b (placed g closed b r)

-- behind all blocks there is none
pub none_low : (g : List Run) → IsClosed g → (lows : List ℕ) (n : ℕ) → length lows ≡ length g → length (walked g).left ≤ n → AreLow g n lows
none_low g closed lows n blocks le = record { blocks = blocks; have_low = λ b r from. let lt = place_within g closed b r in absurd (omega arith) }

-- what a low tells
pub low_told : (g : List Run) → IsClosed g → (lows : List ℕ) (b place : ℕ) → AreLow g 0 lows → order_of g b ≡ Some place → (get_or lows b 0 ≤ place) ↔ FallsBack g b
low_told g closed lows b place are e =
    let r = (order_reached g closed b).0 (ap is_some e) in
    let is : place_of g b ≡ place = ap (λ o. unwrap_or o 0) e in
    let lt = place_below g b place e in
    let few = left_few g closed in
    let low = get_or lows b 0 in
    let f = are.have_low b r (omega arith) in (
      λ le. (
        r,
        ⊎_elim (λ (n : low ≡ length g). absurd (omega arith)) (λ (t : (h : ℕ) × FallsTo g b h × (low ≡ place_of g h)). let same = t.2 in (t.0, t.1, omega arith)) f.is,
      ),
      λ t. let least = f.least t.1.0 t.1.1 in let le = t.1.2 in omega arith,
    )
