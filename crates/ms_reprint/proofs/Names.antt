-- The printed names of an accepted function: each is a name of the language, and no two things have the same.
use Rattle.std.proofs.Common.{◌≡◌, ◌≤◌, ◌<◌, ◌+◌, ◌^◌, ℕ, zero, suc, Bool, true, false, cond, not, if◌then◌else◌, List, [], ◌∷◌, ◌++◌, Option, Some, None, length, map, refl, sym, ap, subst, ◌∙◌, inl, inr, arith, length-append}
use Rattle.std.specs.Prelude.{slice_get, slice_index_or, filter}
use Rattle.std.specs.List.{flat_map}
use Rattle.std.specs.Option.{is_some}
use Rattle.std.proofs.lemmas.List.{length-map}
use Rattle.ms_ir.specs.declared.names.Name.{Name}
use Rattle.ms_ir.specs.declared.names.Name.TheVariants.{Word, Number, Absent}
use Rattle.ms_ir.specs.declared.names.LocalNo.{LocalNo}
use Rattle.ms_ir.specs.declared.names.Param.{Param}
use Rattle.ms_ir.specs.Func.{Placed, Block, FuncState}
use Rattle.ms_grammar.specs.Kept.{Each}
use Rattle.ms_grammar.specs.Fits.{IsNamed}
use Rattle.ms_resolve.specs.Made.{Made, param_made, name_of_made}
use Rattle.ms_resolve.specs.Scope.{number_of_name}
use Rattle.ms_resolve.specs.Faults.{IsIn}
use Rattle.ms_resolve.proofs.Members.{Among, among_in}
use Rattle.ms_print.specs.Numbering.{shown_name, free_after}
use Rattle.ms_valid.specs.Func.{name_of_param, name_of_inst, names_of_block, IsWordOrNone}
use Rattle.ms_valid.specs.Func as words
use Rattle.ms_again.specs.Ordered.{number_in, result_of, results_of, results_in, local_at}
use Rattle.ms_again.proofs.Names.{shown, named_by, locals_in, blocks_in, locals_append, blocks_append}
use Rattle.ms_again.proofs.AgainNames.{made_as}
use Rattle.ms_again.proofs.Right.{AreApart, apart_number, apart_some, named_same, names_in, numbered_is, number_new, shown_next}
use Rattle.ms_again.proofs.Sites.{each_at}
use Rattle.ms_reprint.proofs.Lines.{Target, thing_of_inst, things_of_block, things, insts_many, size_of}

-- ---- words that stand once

abbrev pub AreWordsApart : List Name → Type 0
AreWordsApart [] = Unit {0}
AreWordsApart (Word text ∷ ns) = (Among ns (Word text) → ⊥) × AreWordsApart ns
AreWordsApart (Number k ∷ ns) = AreWordsApart ns
AreWordsApart (Absent ∷ ns) = AreWordsApart ns

words_by : (ns : List Name) → words.AreApart ns → AreWordsApart ns
words_by [] h = tt
words_by (Word text ∷ ns) h = (
  λ on. let at = among_in ns (Word text) on in h 0 (suc at.0) text (omega arith) refl at.1,
  words_by ns (λ i j w less one two. h (suc i) (suc j) w (omega arith) one two),
)
words_by (Number k ∷ ns) h = words_by ns (λ i j w less one two. h (suc i) (suc j) w (omega arith) one two)
words_by (Absent ∷ ns) h = words_by ns (λ i j w less one two. h (suc i) (suc j) w (omega arith) one two)

-- some of the names, in the same order
data AreSome : List Name → List Name → Type 0 where
  none : AreSome [] []
  keep : (n : Name) (xs ys : List Name) → AreSome xs ys → AreSome (n ∷ xs) (n ∷ ys)
  skip : (n : Name) (xs ys : List Name) → AreSome xs ys → AreSome xs (n ∷ ys)

some_among : (xs ys : List Name) (n : Name) → AreSome xs ys → Among xs n → Among ys n
some_among _ _ n none h = h
some_among _ _ n (keep m xs ys s) (inl e) = inl e
some_among _ _ n (keep m xs ys s) (inr h) = inr (some_among xs ys n s h)
some_among _ _ n (skip m xs ys s) h = inr (some_among xs ys n s h)

some_apart : (xs ys : List Name) → AreSome xs ys → AreWordsApart ys → AreWordsApart xs
some_apart _ _ none h = h
some_apart _ _ (keep (Word text) xs ys s) h = (λ on. h.0 (some_among xs ys (Word text) s on), some_apart xs ys s h.1)
some_apart _ _ (keep (Number k) xs ys s) h = some_apart xs ys s h
some_apart _ _ (keep Absent xs ys s) h = some_apart xs ys s h
some_apart _ _ (skip (Word text) xs ys s) h = some_apart xs ys s h.1
some_apart _ _ (skip (Number k) xs ys s) h = some_apart xs ys s h
some_apart _ _ (skip Absent xs ys s) h = some_apart xs ys s h

some_join : (xs ys us vs : List Name) → AreSome xs ys → AreSome us vs → AreSome (xs ++ us) (ys ++ vs)
some_join _ _ us vs none t = t
some_join _ _ us vs (keep n xs ys s) t = keep n (xs ++ us) (ys ++ vs) (some_join xs ys us vs s t)
some_join _ _ us vs (skip n xs ys s) t = skip n (xs ++ us) (ys ++ vs) (some_join xs ys us vs s t)

some_each : (P : Name → Type 0) (xs ys : List Name) → AreSome xs ys → Each P ys → Each P xs
some_each P _ _ none h = h
some_each P _ _ (keep n xs ys s) h = (h.0, some_each P xs ys s h.1)
some_each P _ _ (skip n xs ys s) h = some_each P xs ys s h.1

-- ---- what is made has some of the names of a function

names_append : (xs ys : List Made) → names_in (xs ++ ys) ≡ names_in xs ++ names_in ys
names_append [] ys = refl
names_append (x ∷ xs) ys = ap (λ (ns : List Name). x.name ∷ ns) (names_append xs ys)

join_names : (xs ys : List Made) (us vs : List Name) → AreSome (names_in xs) us → AreSome (names_in ys) vs → AreSome (names_in (xs ++ ys)) (us ++ vs)
join_names xs ys us vs s t = subst (λ (ns : List Name). AreSome ns (us ++ vs)) (sym (names_append xs ys)) (some_join (names_in xs) us (names_in ys) vs s t)

one_thing : (n : Name) (b : Bool) (rest : List Made) (more : List Name) → AreSome (names_in rest) more → AreSome (names_in ((if b then record { line = 0; is_block = false; name = n } ∷ [] else []) ++ rest)) (n ∷ more)
one_thing n true rest more s = keep n (names_in rest) more s
one_thing n false rest more s = skip n (names_in rest) more s

insts_some : (xs : List Placed) → AreSome (names_in (flat_map thing_of_inst xs)) (map name_of_inst xs)
insts_some [] = none
insts_some (x ∷ xs) = one_thing x.name (is_some x.result) (flat_map thing_of_inst xs) (map name_of_inst xs) (insts_some xs)

blocks_some : (bs : List Block) → AreSome (names_in (flat_map things_of_block bs)) (flat_map names_of_block bs)
blocks_some [] = none
blocks_some (b ∷ bs) =
    join_names (things_of_block b) (flat_map things_of_block bs) (names_of_block b) (flat_map names_of_block bs)
    (keep b.name (names_in (flat_map thing_of_inst b.insts)) (map name_of_inst b.insts) (insts_some b.insts)) (blocks_some bs)

params_some : (ps : List Param) → AreSome (names_in (map (param_made 0) ps)) (map name_of_param ps)
params_some [] = none
params_some (p ∷ ps) = keep p.name (names_in (map (param_made 0) ps)) (map name_of_param ps) (params_some ps)

things_some : (f : FuncState) → AreSome (names_in (things f)) (words.names_in f)
things_some f = join_names (map (param_made 0) f.params) (flat_map things_of_block f.blocks) (map name_of_param f.params) (flat_map names_of_block f.blocks) (params_some f.params) (blocks_some f.blocks)

-- ---- printed names

word_kept : (next : ℕ) (n : Name) (w : List ℕ) → next < 10 ^ 9 → shown_name next n ≡ Word w → n ≡ Word w
word_kept next (Word text) w h e = e
word_kept next (Number j) w h e = let same : Number next ≡ Word w = sym (numbered_is next h) ∙ e in absurd (cc)
word_kept next Absent w h e = let same : Number next ≡ Word w = sym (numbered_is next h) ∙ e in absurd (cc)

words_kept : (next : ℕ) (ms : List Made) (w : List ℕ) → next + length ms ≤ 10 ^ 9 → Among (names_in (named_by shown next ms)) (Word w) → Among (names_in ms) (Word w)
words_kept next [] w h on = absurd on
words_kept next (m ∷ ms) w h (inl e) = inl (word_kept next m.name w (omega arith) e)
words_kept next (m ∷ ms) w h (inr later) = let more = shown_next next m.name in inr (words_kept (free_after next m.name) ms w (omega arith) later)

apart_first : (next : ℕ) (n : Name) (ms : List Made) → next + suc (length ms) ≤ 10 ^ 9 → AreWordsApart (n ∷ names_in ms) → AreApart (names_in (named_by shown (free_after next n) ms)) →
    AreApart (shown_name next n ∷ names_in (named_by shown (free_after next n) ms))
apart_first next (Word text) ms h apart rest = (λ on. apart.0 (words_kept next ms text (omega arith) on), rest)
apart_first next (Number k) ms h apart rest = (λ on. number_new next ms (omega arith) on, rest)
apart_first next Absent ms h apart rest = (λ on. number_new next ms (omega arith) on, rest)

apart_rest : (n : Name) (ns : List Name) → AreWordsApart (n ∷ ns) → AreWordsApart ns
apart_rest (Word text) ns h = h.1
apart_rest (Number k) ns h = h
apart_rest Absent ns h = h

printed_apart : (next : ℕ) (ms : List Made) → next + length ms ≤ 10 ^ 9 → AreWordsApart (names_in ms) → AreApart (names_in (named_by shown next ms))
printed_apart next [] h apart = tt
printed_apart next (m ∷ ms) h apart =
    let more = shown_next next m.name in
    apart_first next m.name ms h apart (printed_apart (free_after next m.name) ms (omega arith) (apart_rest m.name (names_in ms) apart))

pub named_shown : (next : ℕ) (n : Name) → next < 10 ^ 9 → IsWordOrNone n → IsNamed (shown_name next n)
named_shown next (Word text) h w = w
named_shown next (Number k) h w = subst (λ n. IsNamed n) (sym (numbered_is next h)) h
named_shown next Absent h w = subst (λ n. IsNamed n) (sym (numbered_is next h)) h

printed_named : (next : ℕ) (ms : List Made) → next + length ms ≤ 10 ^ 9 → Each IsWordOrNone (names_in ms) → Each IsNamed (names_in (named_by shown next ms))
printed_named next [] h w = tt
printed_named next (m ∷ ms) h w = let more = shown_next next m.name in (named_shown next m.name (omega arith) w.0, printed_named (free_after next m.name) ms (omega arith) w.1)

abbrev some_if : Bool → Made → List Made → List Name
some_if b m rest = map name_of_made (cond b (m ∷ rest) rest)

each_some : (P : Name → Type 0) (p : Made → Bool) (ms : List Made) → Each P (names_in ms) → Each P (map name_of_made (filter p ms))
each_some P p [] h = tt
each_some P p (m ∷ ms) h = by (p m) (each_some P p ms h.1)
  where
    by : (b : Bool) → Each P (map name_of_made (filter p ms)) → Each P (some_if b m (filter p ms))
    by true rest = (h.0, rest)
    by false rest = rest

-- ---- how many there are

locals_count : (next : ℕ) (ms : List Made) → length (locals_in (named_by shown next ms)) ≡ length (locals_in ms)
locals_count next [] = refl
locals_count next (m ∷ ms) = by m.is_block (locals_count (free_after next m.name) ms)
  where
    by : (b : Bool) → length (locals_in (named_by shown (free_after next m.name) ms)) ≡ length (locals_in ms) →
        length (map name_of_made (cond (not b) (record m { name = shown_name next m.name } ∷ filter (λ (x : Made). not x.is_block) (named_by shown (free_after next m.name) ms)) (filter (λ (x : Made). not x.is_block) (named_by shown (free_after next m.name) ms))))
        ≡ length (map name_of_made (cond (not b) (m ∷ filter (λ (x : Made). not x.is_block) ms) (filter (λ (x : Made). not x.is_block) ms)))
    by true rest = rest
    by false rest = ap suc rest

blocks_count : (next : ℕ) (ms : List Made) → length (blocks_in (named_by shown next ms)) ≡ length (blocks_in ms)
blocks_count next [] = refl
blocks_count next (m ∷ ms) = by m.is_block (blocks_count (free_after next m.name) ms)
  where
    by : (b : Bool) → length (blocks_in (named_by shown (free_after next m.name) ms)) ≡ length (blocks_in ms) →
        length (map name_of_made (cond b (record m { name = shown_name next m.name } ∷ filter (λ (x : Made). x.is_block) (named_by shown (free_after next m.name) ms)) (filter (λ (x : Made). x.is_block) (named_by shown (free_after next m.name) ms))))
        ≡ length (map name_of_made (cond b (m ∷ filter (λ (x : Made). x.is_block) ms) (filter (λ (x : Made). x.is_block) ms)))
    by true rest = ap suc rest
    by false rest = rest

join_count : (P : List Made → List Name) → ((xs ys : List Made) → P (xs ++ ys) ≡ P xs ++ P ys) → (xs ys : List Made) → length (P (xs ++ ys)) ≡ length (P xs) + length (P ys)
join_count P join xs ys = ap length (join xs ys) ∙ length-append (P xs) (P ys)

inst_locals : (n : Name) (r : Option LocalNo) → length (locals_in (if is_some r then record { line = 0; is_block = false; name = n } ∷ [] else [])) ≡ length (number_in r)
inst_locals n None = refl
inst_locals n (Some l) = refl

inst_blocks : (n : Name) (b : Bool) → length (blocks_in (if b then record { line = 0; is_block = false; name = n } ∷ [] else [])) ≡ 0
inst_blocks n true = refl
inst_blocks n false = refl

insts_locals : (xs : List Placed) → length (locals_in (flat_map thing_of_inst xs)) ≡ length (flat_map result_of xs)
insts_locals [] = refl
insts_locals (x ∷ xs) =
    let one = inst_locals x.name x.result in
    let rest = insts_locals xs in
    let all = join_count locals_in locals_append (thing_of_inst x) (flat_map thing_of_inst xs) in
    let both = length-append (result_of x) (flat_map result_of xs) in
    omega arith

insts_blocks : (xs : List Placed) → length (blocks_in (flat_map thing_of_inst xs)) ≡ 0
insts_blocks [] = refl
insts_blocks (x ∷ xs) =
    let one = inst_blocks x.name (is_some x.result) in
    let rest = insts_blocks xs in
    let all = join_count blocks_in blocks_append (thing_of_inst x) (flat_map thing_of_inst xs) in
    omega arith

blocks_locals : (bs : List Block) → length (locals_in (flat_map things_of_block bs)) ≡ length (results_in bs)
blocks_locals [] = refl
blocks_locals (b ∷ bs) =
    let one = insts_locals b.insts in
    let rest = blocks_locals bs in
    let all = join_count locals_in locals_append (things_of_block b) (flat_map things_of_block bs) in
    let both = length-append (results_of b) (results_in bs) in
    omega arith

blocks_blocks : (bs : List Block) → length (blocks_in (flat_map things_of_block bs)) ≡ length bs
blocks_blocks [] = refl
blocks_blocks (b ∷ bs) =
    let one = insts_blocks b.insts in
    let rest = blocks_blocks bs in
    let all = join_count blocks_in blocks_append (things_of_block b) (flat_map things_of_block bs) in
    omega arith

params_locals : (ps : List Param) → length (locals_in (map (param_made 0) ps)) ≡ length ps
params_locals [] = refl
params_locals (p ∷ ps) = ap suc (params_locals ps)

params_blocks : (ps : List Param) → length (blocks_in (map (param_made 0) ps)) ≡ 0
params_blocks [] = refl
params_blocks (p ∷ ps) = params_blocks ps

one_size : (n : Name) (b : Bool) → length (made_as 0 n b) ≤ 1
one_size n true = omega arith
one_size n false = omega arith

insts_size : (xs : List Placed) → length (flat_map thing_of_inst xs) ≤ length xs
insts_size [] = omega arith
insts_size (x ∷ xs) =
    let one = one_size x.name (is_some x.result) in
    let rest = insts_size xs in
    let both = length-append (thing_of_inst x) (flat_map thing_of_inst xs) in
    omega arith

blocks_size : (bs : List Block) → length (flat_map things_of_block bs) ≤ insts_many bs
blocks_size [] = omega arith
blocks_size (b ∷ bs) =
    let one = insts_size b.insts in
    let rest = blocks_size bs in
    let both = length-append (things_of_block b) (flat_map things_of_block bs) in
    omega arith

pub things_size : (f : FuncState) → length (things f) ≤ size_of f
things_size f =
    let one = length-map f.params (param_made 0) in
    let rest = blocks_size f.blocks in
    let both = length-append (map (param_made 0) f.params) (flat_map things_of_block f.blocks) in
    omega arith

-- ---- the names of a function

abbrev pub target_of : FuncState → Target
target_of f = record {
  locals = locals_in (named_by shown 0 (things f));
  blocks = blocks_in (named_by shown 0 (things f));
  at = local_at (length f.params) (results_in f.blocks);
}

pub record AreGiven (f : FuncState) : Type 0 where
  pub few : size_of f ≤ 10 ^ 9
  pub apart : AreApart (names_in (named_by shown 0 (things f)))
  pub locals_apart : AreApart (target_of f).locals
  pub blocks_apart : AreApart (target_of f).blocks
  pub locals_named : Each IsNamed (target_of f).locals
  pub blocks_named : Each IsNamed (target_of f).blocks
  pub locals_many : length (target_of f).locals ≡ length f.params + length (results_in f.blocks)
  pub blocks_many : length (target_of f).blocks ≡ length f.blocks

pub are_given : (f : FuncState) → size_of f ≤ 10 ^ 9 → ((n : Name) → IsIn (words.names_in f) n → IsWordOrNone n) → words.AreApart (words.names_in f) → AreGiven f
are_given f few w apart =
    let ms = things f in
    let size = things_size f in
    let some = things_some f in
    let all = printed_apart 0 ms (omega arith) (some_apart (names_in ms) (words.names_in f) some (words_by (words.names_in f) apart)) in
    let named = printed_named 0 ms (omega arith) (some_each IsWordOrNone (names_in ms) (words.names_in f) some (each_at IsWordOrNone (words.names_in f) (λ k n e. w n (k, e)))) in
    let ps = map (param_made 0) f.params in
    let bs = flat_map things_of_block f.blocks in
    record {
      few = few;
      apart = all;
      locals_apart = apart_some (λ (m : Made). not m.is_block) (named_by shown 0 ms) all;
      blocks_apart = apart_some (λ (m : Made). m.is_block) (named_by shown 0 ms) all;
      locals_named = each_some IsNamed (λ (m : Made). not m.is_block) (named_by shown 0 ms) named;
      blocks_named = each_some IsNamed (λ (m : Made). m.is_block) (named_by shown 0 ms) named;
      locals_many =
          (let count = locals_count 0 ms in
          let both = join_count locals_in locals_append ps bs in
          let one = params_locals f.params in
          let two = blocks_locals f.blocks in
          omega arith);
      blocks_many =
          (let count = blocks_count 0 ms in
          let both = join_count blocks_in blocks_append ps bs in
          let one = params_blocks f.params in
          let two = blocks_blocks f.blocks in
          omega arith);
    }

-- a name that stands at a number is one, and has that number
pub record IsThere (ns : List Name) (k : ℕ) : Type 0 where
  pub there : slice_get ns k ≡ Some (slice_index_or ns k Absent)
  pub named : IsNamed (slice_index_or ns k Absent)
  pub number : number_of_name ns (slice_index_or ns k Absent) ≡ k

name_there : (ns : List Name) (k : ℕ) → k < length ns → slice_get ns k ≡ Some (slice_index_or ns k Absent)
name_there [] k h = absurd (omega arith)
name_there (n ∷ ns) zero h = refl
name_there (n ∷ ns) (suc k) h = name_there ns k (omega arith)

named_there : (ns : List Name) (k : ℕ) → k < length ns → Each IsNamed ns → IsNamed (slice_index_or ns k Absent)
named_there [] k h all = absurd (omega arith)
named_there (n ∷ ns) zero h all = all.0
named_there (n ∷ ns) (suc k) h all = named_there ns k (omega arith) all.1

pub is_there : (ns : List Name) (k : ℕ) → k < length ns → AreApart ns → Each IsNamed ns → IsThere ns k
is_there ns k less apart all =
    let there = name_there ns k less in
    let named = named_there ns k less all in
    record { there = there; named = named; number = apart_number ns k (slice_index_or ns k Absent) apart (named_same (slice_index_or ns k Absent) named) there }
