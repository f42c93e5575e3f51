-- How far the lists of edges are made again.
use Rattle.std.proofs.Common.{◌≡◌, ◌<◌, ◌≤◌, ◌+◌, ℕ, zero, suc, Bool, true, false, eqb, ◌⊎◌, List, [], ◌∷◌, ◌++◌, length, get_or, set, take, refl, sym, ap, ap₂, ◌∙◌, subst, inl, inr, ⊎_elim, arith, append-nil, length-append, length-set, get_or-set_same, get_or-set_other}
use Rattle.std.specs.Prelude.{Some, slice_get}
use Rattle.std.proofs.Math.Seq.{take-suc, take-suc-set}
use Rattle.std.proofs.lemmas.Bool.{cases_Bool, both_ways, eqb-true, eq-eqb}
use Rattle.std.proofs.lemmas.Option.{same_Some, slice_get_within, get_or_from_slice_get}
use Rattle.ms_flow.specs.declared.sources.Source.{Source}
use Rattle.ms_flow.specs.Kept.{AreApart, AreNumbered, edge_behind, kept, kept_places, key_of, stays}
use Rattle.ms_flow.proofs.Kepts.{kept_append, places_append}

-- the first k edges were gone through, and what is kept of them stands at the front
pub record AreSifted (R : ℕ → Bool) (c slot : ℕ) (old now : List Source) (places : List ℕ) (k to : ℕ) : Type 0 where
  pub fits : to ≤ k
  pub edges_len : length now ≡ length old
  pub places_len : length places ≡ length old
  pub ahead : (i : ℕ) → k ≤ i → slice_get now i ≡ slice_get old i
  pub edges : take to now ≡ kept R c slot (take k old)
  pub told : take to places ≡ kept_places R c slot 0 (take k old)

set_get_other : {X : Type 0} (xs : List X) (i : ℕ) (x : X) (j : ℕ) → (j ≡ i → ⊥) → slice_get (set xs i x) j ≡ slice_get xs j
set_get_other [] i x j h = refl
set_get_other (y ∷ xs) zero x zero h = absurd (h refl)
set_get_other (y ∷ xs) zero x (suc j) h = refl
set_get_other (y ∷ xs) (suc i) x zero h = refl
set_get_other (y ∷ xs) (suc i) x (suc j) h = set_get_other xs i x j (λ e. h (ap suc e))

pub sifted_none : (R : ℕ → Bool) (c slot : ℕ) (old : List Source) (places : List ℕ) → length places ≡ length old → AreSifted R c slot old old places 0 0
sifted_none R c slot old places h = record { fits = omega arith; edges_len = refl; places_len = h; ahead = λ i l. refl; edges = refl; told = refl }

one_kept : (R : ℕ → Bool) (c slot : ℕ) (e : Source) → stays R c slot e ≡ true → kept R c slot (e ∷ []) ≡ edge_behind c e ∷ []
one_kept R c slot e y = rw y refl

one_lost : (R : ℕ → Bool) (c slot : ℕ) (e : Source) → stays R c slot e ≡ false → kept R c slot (e ∷ []) ≡ []
one_lost R c slot e n = rw n refl

place_kept : (R : ℕ → Bool) (c slot k : ℕ) (e : Source) → stays R c slot e ≡ true → kept_places R c slot k (e ∷ []) ≡ k ∷ []
place_kept R c slot k e y = rw y refl

place_lost : (R : ℕ → Bool) (c slot k : ℕ) (e : Source) → stays R c slot e ≡ false → kept_places R c slot k (e ∷ []) ≡ []
place_lost R c slot k e n = rw n refl

one_more : (old : List Source) (k : ℕ) (e : Source) → slice_get old k ≡ Some e → take (suc k) old ≡ take k old ++ e ∷ []
one_more old k e h =
    take-suc old k e (slice_get_within old k e h) ∙ ap (λ (x : Source). take k old ++ x ∷ []) (get_or_from_slice_get old k e e h)

take_len : {X : Type 0} (xs : List X) (k : ℕ) → k ≤ length xs → length (take k xs) ≡ k
take_len [] zero h = refl
take_len [] (suc k) h = absurd (omega arith)
take_len (x ∷ xs) zero h = refl
take_len (x ∷ xs) (suc k) h = ap suc (take_len xs k (omega arith))

pub sifted_skip : (R : ℕ → Bool) (c slot : ℕ) (old now : List Source) (places : List ℕ) (k to m : ℕ) (e : Source) → AreSifted R c slot old now places k to → slice_get now k ≡ Some e →
    stays R c slot e ≡ false → m ≡ suc k → AreSifted R c slot old now places m to
sifted_skip R c slot old now places k to m e s h n is =
    let h' : slice_get old k ≡ Some e = sym (s.ahead k (omega arith)) ∙ h in
    let more = one_more old k e h' in
    let fits = s.fits in
    let len : length (take k old) ≡ k = take_len old k (let w = slice_get_within old k e h' in omega (arith, w)) in
    let all : AreSifted R c slot old now places (suc k) to = record {
      fits = omega arith;
      edges_len = s.edges_len;
      places_len = s.places_len;
      ahead = λ i l. s.ahead i (omega arith);
      edges = s.edges ∙ sym (append-nil (kept R c slot (take k old))) ∙ ap (λ (l : List Source). kept R c slot (take k old) ++ l) (sym (one_lost R c slot e n)) ∙ sym (kept_append R c slot (take k old) (e ∷ [])) ∙ ap (kept R c slot) (sym more);
      told = s.told ∙ sym (append-nil (kept_places R c slot 0 (take k old))) ∙ ap (λ (l : List ℕ). kept_places R c slot 0 (take k old) ++ l) (sym (place_lost R c slot k e n)) ∙ sym (places_append R c slot 0 k (take k old) (e ∷ []) (omega (arith, len))) ∙ ap (kept_places R c slot 0) (sym more);
    } in
    subst (λ i. AreSifted R c slot old now places i to) (sym is) all

pub sifted_keep : (R : ℕ → Bool) (c slot : ℕ) (old now : List Source) (places : List ℕ) (k to m n : ℕ) (e : Source) → AreSifted R c slot old now places k to → slice_get now k ≡ Some e →
    stays R c slot e ≡ true → m ≡ suc k → n ≡ suc to → AreSifted R c slot old (set now to (edge_behind c e)) (set places to k) m n
sifted_keep R c slot old now places k to m n e s h y is is' =
    let h' : slice_get old k ≡ Some e = sym (s.ahead k (omega arith)) ∙ h in
    let more = one_more old k e h' in
    let fits = s.fits in
    let edges_len = s.edges_len in
    let places_len = s.places_len in
    let w = slice_get_within old k e h' in
    let len : length (take k old) ≡ k = take_len old k (omega (arith, w)) in
    let all : AreSifted R c slot old (set now to (edge_behind c e)) (set places to k) (suc k) (suc to) = record {
      fits = omega arith;
      edges_len = length-set now to (edge_behind c e) ∙ s.edges_len;
      places_len = length-set places to k ∙ s.places_len;
      ahead = λ i l. set_get_other now to (edge_behind c e) i (λ z. omega (arith, z, l, fits)) ∙ s.ahead i (omega arith);
      edges = take-suc-set now to (edge_behind c e) (omega (arith, w, edges_len, fits)) ∙ ap₂ (λ (a b : List Source). a ++ b) s.edges (sym (one_kept R c slot e y)) ∙ sym (kept_append R c slot (take k old) (e ∷ [])) ∙ ap (kept R c slot) (sym more);
      told = take-suc-set places to k (omega (arith, w, places_len, fits)) ∙ ap₂ (λ (a b : List ℕ). a ++ b) s.told (sym (place_kept R c slot k e y)) ∙ sym (places_append R c slot 0 k (take k old) (e ∷ []) (omega (arith, len))) ∙ ap (kept_places R c slot 0) (sym more);
    } in
    subst (λ i. AreSifted R c slot old (set now to (edge_behind c e)) (set places to k) i n) (sym is) (subst (λ i. AreSifted R c slot old (set now to (edge_behind c e)) (set places to k) (suc k) i) (sym is') all)

-- ---- own places

-- the first lists have their own places
pub record AreOwnFor (lists : List (List Source)) (b : ℕ) (rows : List (List ℕ)) : Type 0 where
  pub blocks : length rows ≡ b
  pub counts : (x : ℕ) → x < b → length (get_or rows x []) ≡ length (get_or lists x [])
  pub own : (x k : ℕ) → x < b → k < length (get_or lists x []) → get_or (get_or rows x []) k 0 ≡ k

row_there : (rows : List (List ℕ)) (row : List ℕ) (x : ℕ) → x < length rows → get_or (rows ++ row ∷ []) x [] ≡ get_or rows x []
row_there [] row x h = absurd (omega arith)
row_there (r ∷ rows) row zero h = refl
row_there (r ∷ rows) row (suc x) h = row_there rows row x (omega arith)

row_last : (rows : List (List ℕ)) (row : List ℕ) (x : ℕ) → x ≡ length rows → get_or (rows ++ row ∷ []) x [] ≡ row
row_last [] row zero h = refl
row_last [] row (suc x) h = absurd (omega arith)
row_last (r ∷ rows) row zero h = absurd (omega arith)
row_last (r ∷ rows) row (suc x) h = row_last rows row x (omega arith)

pub last_or : (x b : ℕ) → x < suc b → (x < b) ⊎ (x ≡ b)
last_or x b h = ⊎_elim (λ (y : eqb x b ≡ true). inr (eqb-true x b y)) (λ (n : eqb x b ≡ false). inl (below n)) (cases_Bool (eqb x b))
  where
    below : eqb x b ≡ false → x < b
    below n = let apart : x ≡ b → ⊥ = λ e. both_ways (eqb x b) n (eq-eqb x b e) in omega (arith, apart)

pub own_more : (lists : List (List Source)) (b m : ℕ) (rows : List (List ℕ)) (row : List ℕ) → AreOwnFor lists b rows → length row ≡ length (get_or lists b []) → ((k : ℕ) → k < length row → get_or row k 0 ≡ k) →
    m ≡ suc b → AreOwnFor lists m (rows ++ row ∷ [])
own_more lists b m rows row o len own is =
    let blocks = o.blocks in
    let all : AreOwnFor lists (suc b) (rows ++ row ∷ []) = record {
      blocks = length-append rows (row ∷ []) ∙ (let e : length rows + length (row ∷ []) ≡ suc b = omega (arith, blocks) in e);
      counts = λ x h. ⊎_elim
          (λ (l : x < b). ap length (row_there rows row x (omega (arith, l, blocks))) ∙ o.counts x l)
          (λ (e : x ≡ b). ap length (row_last rows row x (e ∙ sym blocks)) ∙ len ∙ ap (λ n. length (get_or lists n [])) (sym e))
          (last_or x b h);
      own = λ x k h k_lt. ⊎_elim
          (λ (l : x < b). ap (λ (r : List ℕ). get_or r k 0) (row_there rows row x (omega (arith, l, blocks))) ∙ o.own x k l k_lt)
          (λ (e : x ≡ b). ap (λ (r : List ℕ). get_or r k 0) (row_last rows row x (e ∙ sym blocks)) ∙ own k (let s : length (get_or lists x []) ≡ length row = ap (λ n. length (get_or lists n [])) e ∙ sym len in omega (arith, k_lt, s)))
          (last_or x b h);
    } in
    subst (λ i. AreOwnFor lists i (rows ++ row ∷ [])) (sym is) all

-- ---- numbered

-- the first edges of a list have their places
pub record AreWritten (list : List Source) (n : ℕ) (old now : List ℕ) : Type 0 where
  pub slots : length now ≡ length old
  pub numbered : AreNumbered list n now
  pub others : (x : ℕ) → ((k : ℕ) (e : Source) → slice_get list k ≡ Some e → key_of e ≡ x → ⊥) → get_or now x 0 ≡ get_or old x 0

pub written_none : (list : List Source) (old : List ℕ) → AreWritten list 0 old old
written_none list old = record { slots = refl; numbered = λ k e h. absurd (omega arith); others = λ x h. refl }

pub written_more : (list : List Source) (n m x : ℕ) (old now : List ℕ) (e : Source) → AreWritten list n old now → slice_get list n ≡ Some e → x ≡ key_of e → x < length now →
    ((j k : ℕ) (d f : Source) → slice_get list j ≡ Some d → slice_get list k ≡ Some f → key_of d ≡ key_of f → j ≡ k) → m ≡ suc n → AreWritten list m old (set now x n)
written_more list n m x old now e w h at lt once is =
    let all : AreWritten list (suc n) old (set now x n) = record {
      slots = length-set now x n ∙ w.slots;
      numbered = λ k f k_lt f_at. ⊎_elim
          (λ (l : k < n). get_or-set_other now x (key_of f) n 0 (λ z. omega (arith, l, once k n f e f_at h (z ∙ at))) ∙ w.numbered k f l f_at)
          (λ (l : k ≡ n).
          let same : f ≡ e = same_Some f e (sym f_at ∙ ap (slice_get list) l ∙ h) in
          let key : key_of f ≡ x = ap key_of same ∙ sym at in
          ap (λ i. get_or (set now x n) i 0) key ∙ get_or-set_same now x n 0 lt ∙ sym l)
          (last_or k n k_lt);
      others = λ y far. get_or-set_other now x y n 0 (λ z. far n e h (sym at ∙ sym z)) ∙ w.others y far;
    } in
    subst (λ i. AreWritten list i old (set now x n)) (sym is) all

-- two edges that leave at one of two slots have the same key only where they are one
pub one_key : (d e : Source) → d.slot < 2 → e.slot < 2 → key_of d ≡ key_of e → d ≡ e
one_key d e a b h =
    let from : d.from ≡ e.from = omega (arith, a, b, h) in
    let slot : d.slot ≡ e.slot = omega (arith, a, b, h) in
    ap₂ (λ (f s : ℕ). record { from = f; slot = s }) from slot

-- ---- what is kept of the first lists

pub record AreKeptTo (R : ℕ → Bool) (c slot : ℕ) (old : List (List Source)) (old_rows : List (List ℕ)) (b : ℕ) (now : List (List Source)) (rows : List (List ℕ)) : Type 0 where
  pub blocks : length now ≡ length old
  pub rows_blocks : length rows ≡ length old_rows
  pub edges : (x : ℕ) → x < b → get_or now x [] ≡ kept R c slot (get_or old x [])
  pub places : (x : ℕ) → x < b → get_or rows x [] ≡ kept_places R c slot 0 (get_or old x [])
  pub ahead : (x : ℕ) → b ≤ x → get_or now x [] ≡ get_or old x []
  pub rows_ahead : (x : ℕ) → b ≤ x → get_or rows x [] ≡ get_or old_rows x []

pub kept_to_none : (R : ℕ → Bool) (c slot : ℕ) (old : List (List Source)) (old_rows : List (List ℕ)) → AreKeptTo R c slot old old_rows 0 old old_rows
kept_to_none R c slot old old_rows = record {
  blocks = refl;
  rows_blocks = refl;
  edges = λ x h. absurd (omega arith);
  places = λ x h. absurd (omega arith);
  ahead = λ x h. refl;
  rows_ahead = λ x h. refl;
}

pub kept_to_more : (R : ℕ → Bool) (c slot : ℕ) (old : List (List Source)) (old_rows : List (List ℕ)) (b m : ℕ) (now : List (List Source)) (rows : List (List ℕ)) (list : List Source) (row : List ℕ) →
    AreKeptTo R c slot old old_rows b now rows → b < length now → b < length rows → list ≡ kept R c slot (get_or old b []) → row ≡ kept_places R c slot 0 (get_or old b []) → m ≡ suc b →
    AreKeptTo R c slot old old_rows m (set now b list) (set rows b row)
kept_to_more R c slot old old_rows b m now rows list row s lt rows_lt is_list is_row is =
    let all : AreKeptTo R c slot old old_rows (suc b) (set now b list) (set rows b row) = record {
      blocks = length-set now b list ∙ s.blocks;
      rows_blocks = length-set rows b row ∙ s.rows_blocks;
      edges = λ x h. ⊎_elim
          (λ (l : x < b). get_or-set_other now b x list [] (λ z. omega (arith, l, z)) ∙ s.edges x l)
          (λ (e : x ≡ b). ap (λ i. get_or (set now b list) i []) e ∙ get_or-set_same now b list [] lt ∙ is_list ∙ ap (λ i. kept R c slot (get_or old i [])) (sym e))
          (last_or x b h);
      places = λ x h. ⊎_elim
          (λ (l : x < b). get_or-set_other rows b x row [] (λ z. omega (arith, l, z)) ∙ s.places x l)
          (λ (e : x ≡ b). ap (λ i. get_or (set rows b row) i []) e ∙ get_or-set_same rows b row [] rows_lt ∙ is_row ∙ ap (λ i. kept_places R c slot 0 (get_or old i [])) (sym e))
          (last_or x b h);
      ahead = λ x h. get_or-set_other now b x list [] (λ z. omega (arith, h, z)) ∙ s.ahead x (omega arith);
      rows_ahead = λ x h. get_or-set_other rows b x row [] (λ z. omega (arith, h, z)) ∙ s.rows_ahead x (omega arith);
    } in
    subst (λ i. AreKeptTo R c slot old old_rows i (set now b list) (set rows b row)) (sym is) all

pub numbered_more : (lists : List (List Source)) (b m : ℕ) (list : List Source) (old now : List ℕ) → AreApart (length lists) lists → list ≡ get_or lists b [] → b < length lists →
    ((x : ℕ) → x < b → AreNumbered (get_or lists x []) (length (get_or lists x [])) old) → AreWritten list (length list) old now → m ≡ suc b →
    (x : ℕ) → x < m → AreNumbered (get_or lists x []) (length (get_or lists x [])) now
numbered_more lists b m list old now apart is lt before w more x x_lt k e k_lt at =
    ⊎_elim
    (λ (l : x < b).
    w.others (key_of e) (λ j d d_at key.
    let there : slice_get (get_or lists b []) j ≡ Some d = ap (λ (l : List Source). slice_get l j) (sym is) ∙ d_at in
    let same : d ≡ e = one_key d e (apart.slot b j d lt there) (apart.slot x k e (omega (arith, l, lt)) at) key in
    let one = apart.block x b k j e (omega (arith, l, lt)) lt at (there ∙ ap Some same) in
    omega (arith, l, one)) ∙ before x l k e k_lt at)
    (λ (s : x ≡ b).
    let all : list ≡ get_or lists x [] = is ∙ ap (λ i. get_or lists i []) (sym s) in
    w.numbered k e (subst (λ (l : List Source). k < length l) (sym all) k_lt) (ap (λ (l : List Source). slice_get l k) all ∙ at))
    (last_or x b (omega (arith, x_lt, more)))

pub once_in_list : (lists : List (List Source)) (b : ℕ) (list : List Source) → AreApart (length lists) lists → list ≡ get_or lists b [] → b < length lists →
    (j k : ℕ) (d e : Source) → slice_get list j ≡ Some d → slice_get list k ≡ Some e → key_of d ≡ key_of e → j ≡ k
once_in_list lists b list apart is lt j k d e d_at e_at key =
    let first : slice_get (get_or lists b []) j ≡ Some d = ap (λ (l : List Source). slice_get l j) (sym is) ∙ d_at in
    let second : slice_get (get_or lists b []) k ≡ Some e = ap (λ (l : List Source). slice_get l k) (sym is) ∙ e_at in
    let same : d ≡ e = one_key d e (apart.slot b j d lt first) (apart.slot b k e lt second) key in
    apart.place b j k e lt (first ∙ ap Some same) second
