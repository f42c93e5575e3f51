-- The tables of a graph that were made again.
use Rattle.std.proofs.Common.{◌≡◌, ◌<◌, ◌≤◌, ◌*◌, ℕ, Bool, List, [], length, get_or, refl, sym, ap, ◌∙◌, subst, inl, inr, arith}
use Rattle.std.specs.Prelude.{Contains, Some, slice_get}
use Rattle.std.proofs.lemmas.Option.{slice_get_within, get_or_from_slice_get}
use Rattle.std.proofs.lemmas.List.Elements.{Contains-get_or}
use Rattle.std.proofs.lemmas.List.{take_all}
use Rattle.ms_paths.specs.Flow.{Block as Run, IsClosed}
use Rattle.ms_flow.specs.declared.sources.Source.{Source}
use Rattle.ms_flow.specs.Table.{next_of}
use Rattle.ms_flow.specs.Walk.{WalkState, is_seen}
use Rattle.ms_flow.specs.Flow.{AreListed, AreRows, IsBefore, edges_to, has_reached, in_slot_of, sources_of, walked}
use Rattle.ms_flow.specs.Cut.{AreBefore, AreOwn, cut_graph}
use Rattle.ms_flow.specs.Kept.{AreApart, AreKept, AreNumbered, HasRows, kept, kept_places}
use Rattle.ms_flow.proofs.Edges.{listed_few}
use Rattle.ms_flow.proofs.Listed.{list_is, source_within, source_told, sources_order, edge_stands}
use Rattle.ms_flow.proofs.Cuts.{cut_blocks}
use Rattle.ms_flow.proofs.Kepts.{sources_kept, before_told, kept_few}

-- for each block the edges to it
abbrev pub AreSources : List Run → List (List Source) → Type 0
AreSources g lists = (length lists ≡ length g) × ((b : ℕ) → b < length g → get_or lists b [] ≡ sources_of g b)

pub are_sources : (g : List Run) (lists : List (List Source)) (slots : List ℕ) → AreListed (has_reached g) g (length g) lists slots → AreSources g lists
are_sources g lists slots listed = (listed.blocks, λ b lt. list_is g lists slots b listed lt)

get_in : (l : List Source) (i : ℕ) (e : Source) → slice_get l i ≡ Some e → Contains l e
get_in l i e h = (i, slice_get_within l i e h, get_or_from_slice_get l i e e h)

in_sources : (g : List Run) (lists : List (List Source)) → AreSources g lists → (b k : ℕ) (e : Source) → b < length lists → slice_get (get_or lists b []) k ≡ Some e → slice_get (sources_of g b) k ≡ Some e
in_sources g lists are b k e lt h = subst (λ (l : List Source). slice_get l k ≡ Some e) (are.1 b (let s = are.0 in omega (arith, lt, s))) h

pub from_within : (g : List Run) (lists : List (List Source)) → AreSources g lists → (n : ℕ) → n ≡ length g → (b k : ℕ) (e : Source) → b < length lists → slice_get (get_or lists b []) k ≡ Some e → e.from < n
from_within g lists are n is b k e lt h =
    let at = in_sources g lists are b k e lt h in
    let below = source_within g b e (get_in (sources_of g b) k e at) in
    omega (arith, below, is)

not_before_itself : (e : Source) → IsBefore e e → ⊥
not_before_itself e (inl h) = omega (arith, h)
not_before_itself e (inr h) = omega (arith, h.1)

either_order : (j k : ℕ) → (j < k → ⊥) → (k < j → ⊥) → j ≡ k
either_order j k a b = omega (arith, a, b)

pub sources_apart : (g : List Run) (lists : List (List Source)) → IsClosed g → ((x : ℕ) → length (next_of g x) ≤ 2) → AreSources g lists → AreApart (length lists) lists
sources_apart g lists closed few are =
    let told : (b k : ℕ) (e : Source) → b < length lists → slice_get (get_or lists b []) k ≡ Some e → (e.slot < length (next_of g e.from)) × (get_or (next_of g e.from) e.slot 0 ≡ b) = λ b k e lt h.
    let t = source_told g closed b e (get_in (sources_of g b) k e (in_sources g lists are b k e lt h)) in (t.1, t.2) in
    record {
      from = from_within g lists are (length lists) are.0;
      slot = λ b k e lt h. let t = told b k e lt h in let f = few e.from in omega (arith, f, t.0);
      block = λ a b j k e lt lt' h h'. sym (told a j e lt h).1 ∙ (told b k e lt' h').1;
      place = λ b j k e lt h h'.
          let s = in_sources g lists are b j e lt h in
          let t = in_sources g lists are b k e lt h' in
          either_order j k (λ up. not_before_itself e (sources_order g b j k e e up s t)) (λ up. not_before_itself e (sources_order g b k j e e up t s));
    }

pub listed_again : (g : List Run) (lists : List (List Source)) (slots : List ℕ) → IsClosed g → AreSources g lists → length slots ≡ 2 * length g →
    ((b : ℕ) → b < length g → AreNumbered (get_or lists b []) (length (get_or lists b [])) slots) → AreListed (has_reached g) g (length g) lists slots
listed_again g lists slots closed are sized numbered =
    record {
      blocks = are.0;
      slots = sized;
      edges = λ b lt. are.1 b lt ∙ ap (edges_to (has_reached g) b 0) (sym (take_all (length g) g (omega arith)));
      places = λ x slot lt on slot_lt.
          let b = get_or (next_of g x) slot 0 in
          let within = closed.edges_in x b (Contains-get_or (next_of g x) slot 0 slot_lt) in
          let stands = edge_stands (has_reached g) g x slot b lt on slot_lt refl in
          let there : slice_get (get_or lists b []) (in_slot_of (has_reached g) g x slot) ≡ Some (record { from = x; slot = slot }) = subst (λ (l : List Source). slice_get l (in_slot_of (has_reached g) g x slot) ≡ Some (record { from = x; slot = slot })) (sym (are.1 b within)) stands in
          numbered b within (in_slot_of (has_reached g) g x slot) (record { from = x; slot = slot }) (slice_get_within (get_or lists b []) (in_slot_of (has_reached g) g x slot) (record { from = x; slot = slot }) there) there;
    }

pub rows_from : (g : List Run) (lists : List (List Source)) (rows : List (List ℕ)) → AreSources g lists → HasRows lists rows → AreRows g rows
rows_from g lists rows are has =
    let blocks = are.0 in
    record { blocks = has.blocks ∙ blocks; counts = λ b lt. has.counts b (omega (arith, lt, blocks)) ∙ ap length (are.1 b lt) }

pub rows_back : (g : List Run) (lists : List (List Source)) (rows : List (List ℕ)) → AreSources g lists → AreRows g rows → HasRows lists rows
rows_back g lists rows are has =
    let blocks = are.0 in
    record { blocks = has.blocks ∙ sym blocks; counts = λ b lt. has.counts b (omega (arith, lt, blocks)) ∙ ap length (sym (are.1 b (omega (arith, lt, blocks)))) }

pub own_from : (g : List Run) (lists : List (List Source)) (rows : List (List ℕ)) → AreSources g lists → HasRows lists rows →
    ((b k : ℕ) → b < length lists → k < length (get_or lists b []) → get_or (get_or rows b []) k 0 ≡ k) → AreOwn g rows
own_from g lists rows are has own =
    let blocks = are.0 in
    record { rows_are = rows_from g lists rows are has; own = λ b k lt k_lt. own b k (omega (arith, lt, blocks)) (subst (λ (l : List Source). k < length l) (sym (are.1 b lt)) k_lt) }

-- a graph with an edge cut, and what is made of the lists
pub cut_sources : (g h : List Run) (c slot : ℕ) (w : WalkState) (lists new : List (List Source)) (rows : List (List ℕ)) → h ≡ cut_graph g c slot → w ≡ walked h → IsClosed g → length (next_of g c) ≡ 2 → slot < 2 →
    AreSources g lists → AreKept (is_seen w) c slot lists new rows → AreSources h new
cut_sources g h c slot w lists new rows is walk closed two lt are keeps =
    let blocks = are.0 in
    let same : w ≡ walked (cut_graph g c slot) = walk ∙ ap walked is in
    let cut : AreSources (cut_graph g c slot) new = (
      keeps.blocks ∙ blocks ∙ sym (cut_blocks g c slot),
      λ b b_lt.
          let here : b < length g = let s = cut_blocks g c slot in omega (arith, b_lt, s) in
          keeps.edges b (omega (arith, here, blocks)) ∙ ap (λ (v : WalkState). kept (is_seen v) c slot (get_or lists b [])) same ∙ ap (kept (has_reached (cut_graph g c slot)) c slot) (are.1 b here) ∙ sources_kept g c slot b closed two lt,
    ) in
    subst (λ (x : List Run). AreSources x new) (sym is) cut

pub cut_rows : (g h : List Run) (c slot : ℕ) (w : WalkState) (lists new : List (List Source)) (rows : List (List ℕ)) → h ≡ cut_graph g c slot → w ≡ walked h → IsClosed g → length (next_of g c) ≡ 2 → slot < 2 →
    AreSources g lists → AreKept (is_seen w) c slot lists new rows → AreBefore g c slot rows
cut_rows g h c slot w lists new rows is walk closed two lt are keeps =
    let blocks = are.0 in
    let same : w ≡ walked (cut_graph g c slot) = walk ∙ ap walked is in
    before_told g c slot closed two lt rows (keeps.rows_blocks ∙ blocks)
    (λ b b_lt. keeps.places b (omega (arith, b_lt, blocks)) ∙ ap (λ (v : WalkState). kept_places (is_seen v) c slot 0 (get_or lists b [])) same ∙ ap (kept_places (has_reached (cut_graph g c slot)) c slot 0) (are.1 b b_lt))

pub few_kept : (R : ℕ → Bool) (c slot m : ℕ) (lists new : List (List Source)) (rows : List (List ℕ)) → AreKept R c slot lists new rows → ((b : ℕ) → b < length lists → length (get_or lists b []) < m) → (b : ℕ) → b < length new → length (get_or new b []) < m
few_kept R c slot m lists new rows keeps few b lt =
    let blocks = keeps.blocks in
    let here : b < length lists = omega (arith, lt, blocks) in
    let old = few b here in
    let less = kept_few R c slot (get_or lists b []) in
    let is = ap length (keeps.edges b here) in
    omega (arith, old, less, is)

pub few_sources : (g : List Run) (lists : List (List Source)) (slots : List ℕ) → AreListed (has_reached g) g (length g) lists slots → ((x : ℕ) → length (next_of g x) ≤ 2) → length g < 2147483648 → (b : ℕ) → b < length lists → length (get_or lists b []) < 4294967296
few_sources g lists slots listed few small b lt =
    let blocks = listed.blocks in
    let f = listed_few (has_reached g) g (length g) lists slots listed few b (omega (arith, lt, blocks)) in
    omega (arith, f, small)
