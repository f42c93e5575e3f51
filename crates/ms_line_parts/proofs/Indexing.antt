-- Lists of indices in front of tokens.
use Rattle.std.proofs.Common.{◌≡◌, ◌≢◌, ◌⊎◌, ℕ, ℤ, ◌<◌, ◌≤◌, suc, Bool, true, false, ◌&&◌, ◌||◌, if◌then◌else◌, is_some, List, [], ◌∷◌, ◌++◌, Option, Some, None, length, take, drop, refl, sym, ap, subst, ◌∙◌, inl, inr, arith}
use Rattle.std.specs.Str.{bytes_eq}
use Rattle.std.proofs.lemmas.Bool.{and_parts}
use Rattle.std.proofs.lemmas.List.{length-map, take-map, map-append}
use Rattle.ms_lex.specs.Kinds.{is_number, is_token}
use Rattle.ms_lex.specs.declared.token.Token.{Token}
use Rattle.ms_lex.specs.declared.token.TokenKind.TheVariants.{Local, Meta}
use Rattle.ms_ir.specs.declared.names.Ty.{Ty}
use Rattle.ms_ir.specs.declared.names.Ty.TheVariants.{I1, I8, I16, I32, I64, Ptr}
use Rattle.ms_grammar.specs.Words.{spelling, type_word}
use Rattle.ms_grammar.specs.Numbers.{bits, signed}
use Rattle.ms_grammar.specs.Kept.{AreMany, IsTailItem, IsStored, Index, IsIndex, IndexItem, constant, term, AreItems, more_indices, index_tokens, AreWoven}
use Rattle.ms_grammar.specs.Parts.{texts, bytes_at}
use Rattle.ms_grammar.specs.declared.keyword.Keyword.TheVariants as word
use Rattle.ms_grammar.proofs.Steps.{tells, same}
use Rattle.ms_grammar.proofs.Tails.{BeginsTail, tail_second}
use Rattle.ms_grammar.proofs.Objects.{type_no_align}
use Rattle.ms_line_parts.specs.Sizes.{stored_type, typed_value, index_value, is_index, starts_more, more_length, index_length}
use Rattle.ms_line_parts.proofs.Sizing.{Stored, stored_is, stored_there}

told : (s t : List ℕ) → bytes_eq s t ≡ true → s ≡ t
told s t e = elim (tells s t) [ inl is ↦ is.1 | inr other ↦ absurd (cc (e, other.0)) ]

both : (a b : Bool) → a ≡ true → b ≡ true → (a && b) ≡ true
both true b e f = f
both false b e f = absurd (cc)

either : (a b : Bool) → (a || b) ≡ true → (a ≡ true) ⊎ (b ≡ true)
either true b e = inl refl
either false b e = inr e

left_holds : (a b : Bool) → a ≡ true → (a || b) ≡ true
left_holds true b e = refl
left_holds false b e = absurd (cc)

right_holds : (a b : Bool) → b ≡ true → (a || b) ≡ true
right_holds true b e = refl
right_holds false b e = e

-- indices, each a number or a local
pub record Items (is : List Index) : Type 0 where
  pub items : List IndexItem
  pub names : List (List ℕ)
  pub each : AreItems is items names

-- an index and its tokens
pub record OneIndex (ty n : List ℕ) : Type 0 where
  pub index : Index
  pub onto : (is : List Index) → Items is → Items (index ∷ is)
  pub ty_is : ty ≡ type_word index.ty
  pub number_is : n ≡ index.number

number_is_index : (ty n : List ℕ) → is_some (index_value ty n) ≡ true → OneIndex ty n
number_is_index ty n e = by_type (stored_type ty) refl e
  where
    by_value : (t : Ty) → Stored ty t → is_number n ≡ true → (v : Option ℤ) → signed (bits t) n ≡ v → is_some v ≡ true → OneIndex ty n
    by_value t stored spelled None f g = absurd (cc)
    by_value t stored spelled (Some v) f g =
        let is : IsIndex (record { ty = t; number = n }) v = record { stored = stored.stored; spelled = spelled; in_range = f } in
        record {
          index = record { ty = t; number = n };
          onto = λ is_more more. record { items = constant v ∷ more.items; names = more.names; each = (is, more.each) };
          ty_is = stored.word_is;
          number_is = refl;
        }

    by_number : (t : Ty) → Stored ty t → (b : Bool) → is_number n ≡ b → is_some (if b then signed (bits t) n else None) ≡ true → OneIndex ty n
    by_number t stored true f g = by_value t stored f (signed (bits t) n) refl g
    by_number t stored false f g = absurd (cc)

    by_type : (o : Option Ty) → stored_type ty ≡ o → is_some (typed_value o n) ≡ true → OneIndex ty n
    by_type None f g = absurd (cc)
    by_type (Some t) f g = by_number t (stored_is ty t f) (is_number n) refl g

local_is_index : (ty n : List ℕ) → is_some (stored_type ty) ≡ true → is_token Local n ≡ true → OneIndex ty n
local_is_index ty n e token = by_type (stored_type ty) refl e
  where
    by_type : (o : Option Ty) → stored_type ty ≡ o → is_some o ≡ true → OneIndex ty n
    by_type None f g = absurd (cc)
    by_type (Some t) f g =
        let stored = stored_is ty t f in
        record {
          index = record { ty = t; number = n };
          onto = λ is_more more.
              record { items = term t ∷ more.items; names = n ∷ more.names; each = (record { typed = refl; stored = stored.stored; a_local = token; is = refl }, more.each) };
          ty_is = stored.word_is;
          number_is = refl;
        }

index_is : (ty n : List ℕ) → is_index ty n ≡ true → OneIndex ty n
index_is ty n e = elim (either (is_some (index_value ty n)) (is_some (stored_type ty) && is_token Local n) e) [
  | inl number ↦ number_is_index ty n number
  | inr variable ↦ (let parts = and_parts (is_some (stored_type ty)) (is_token Local n) variable in local_is_index ty n parts.0 parts.1)
]

number_there : (i : Index) (v : ℤ) → IsIndex i v → is_index (type_word i.ty) i.number ≡ true
number_there i v h =
    left_holds (is_some (index_value (type_word i.ty) i.number)) (is_some (stored_type (type_word i.ty)) && is_token Local i.number)
    (ap (λ o. is_some (typed_value o i.number)) (stored_there i.ty h.stored) ∙ ap (λ b. is_some (if b then signed (bits i.ty) i.number else None)) h.spelled ∙ ap is_some h.in_range)

local_there : (i : Index) → IsStored i.ty → is_token Local i.number ≡ true → is_index (type_word i.ty) i.number ≡ true
local_there i stored token =
    right_holds (is_some (index_value (type_word i.ty) i.number)) (is_some (stored_type (type_word i.ty)) && is_token Local i.number)
    (both (is_some (stored_type (type_word i.ty))) (is_token Local i.number) (ap is_some (stored_there i.ty stored)) token)

-- the first of indices, and the others
pub record There (i : Index) (is : List Index) : Type 0 where
  pub here : is_index (type_word i.ty) i.number ≡ true
  pub more : Items is

pub items_there : (i : Index) (is : List Index) (items : List IndexItem) (names : List (List ℕ)) → AreItems (i ∷ is) items names → There i is
items_there i is [] names each = absurd each
items_there i is (constant v ∷ items) names each = record { here = number_there i v each.0; more = record { items = items; names = names; each = each.1 } }
items_there i is (term ty ∷ items) [] each = absurd each
items_there i is (term ty ∷ items) (name ∷ names) each = record {
  here = local_there i (subst (λ t. IsStored t) (sym each.0.typed) each.0.stored) each.0.a_local;
  more = record { items = items; names = names; each = each.1 };
}

-- the further indices in front
pub record More (ts : List (List ℕ)) (n : ℕ) : Type 0 where
  pub within : n ≤ length ts
  pub indices : List Index
  pub are : Items indices
  pub tokens : take n ts ≡ more_indices indices

none_more : (ts : List (List ℕ)) (n : ℕ) → n ≡ 0 → More ts n
none_more ts n e = subst (λ k. More ts k) (sym e) (record { within = omega arith; indices = []; are = record { items = []; names = []; each = refl }; tokens = refl })

more_step : (c ty n : List ℕ) (ts : List (List ℕ)) (b : Bool) → (bytes_eq c (spelling word.Comma) && is_index ty n) ≡ b → More ts (more_length ts) →
    More (c ∷ ty ∷ n ∷ ts) (if b then suc (suc (suc (more_length ts))) else 0)
more_step c ty n ts false e below = none_more (c ∷ ty ∷ n ∷ ts) 0 refl
more_step c ty n ts true e below =
    let parts = and_parts (bytes_eq c (spelling word.Comma)) (is_index ty n) e in
    let one = index_is ty n parts.1 in
    record {
      within = omega (arith, below.within);
      indices = one.index ∷ below.indices;
      are = one.onto below.indices below.are;
      tokens = ap (λ us. c ∷ ty ∷ n ∷ us) below.tokens ∙ ap (λ s. s ∷ ty ∷ n ∷ more_indices below.indices) (told c _ parts.0)
          ∙ ap (λ s. spelling word.Comma ∷ s ∷ n ∷ more_indices below.indices) one.ty_is ∙ ap (λ s. spelling word.Comma ∷ type_word one.index.ty ∷ s ∷ more_indices below.indices) one.number_is;
    }

pub more_is : (ts : List (List ℕ)) → More ts (more_length ts)
more_is [] = none_more [] 0 refl
more_is (c ∷ []) = none_more (c ∷ []) 0 refl
more_is (c ∷ (ty ∷ [])) = none_more (c ∷ ty ∷ []) 0 refl
more_is (c ∷ (ty ∷ (n ∷ ts))) =
    subst (λ b. More (c ∷ ty ∷ n ∷ ts) (if b then suc (suc (suc (more_length ts))) else 0)) refl (more_step c ty n ts (bytes_eq c (spelling word.Comma) && is_index ty n) refl (more_is ts))

more_there : (is : List Index) (rest : List (List ℕ)) → Items is → more_length rest ≡ 0 → more_length (more_indices is ++ rest) ≡ length (more_indices is)
more_there [] rest are none = none
more_there (i ∷ is) rest are none =
    let there = items_there i is are.items are.names are.each in
    let one : (bytes_eq (spelling word.Comma) (spelling word.Comma) && is_index (type_word i.ty) i.number) ≡ true = both _ _ (same (spelling word.Comma) (spelling word.Comma) refl) there.here in
    ap (λ b. if b then suc (suc (suc (more_length (more_indices is ++ rest)))) else 0) one ∙ ap (λ k. suc (suc (suc k))) (more_there is rest there.more none)

-- the loop over further indices
pub more_turn : (ts : List (List ℕ)) → starts_more ts ≡ true → more_length ts ≡ suc (suc (suc (more_length (drop 3 ts))))
more_turn [] e = absurd (cc)
more_turn (c ∷ []) e = absurd (cc)
more_turn (c ∷ (ty ∷ [])) e = absurd (cc)
more_turn (c ∷ (ty ∷ (n ∷ ts))) e = ap (λ b. if b then suc (suc (suc (more_length ts))) else 0) e

pub more_end : (ts : List (List ℕ)) → starts_more ts ≡ false → more_length ts ≡ 0
more_end [] e = refl
more_end (c ∷ []) e = refl
more_end (c ∷ (ty ∷ [])) e = refl
more_end (c ∷ (ty ∷ (n ∷ ts))) e = ap (λ b. if b then suc (suc (suc (more_length ts))) else 0) e

pub more_short : (line : List ℕ) (tokens : List Token) → length tokens < 3 → false ≡ starts_more (texts line tokens)
more_short line [] h = refl
more_short line (a ∷ []) h = refl
more_short line (a ∷ (b ∷ [])) h = refl
more_short line (a ∷ (b ∷ (c ∷ ts))) h = absurd (omega arith)

-- a tail goes on no list of indices
type_no_meta : (ty : Ty) → is_token Meta (type_word ty) ≡ false
unfolding type_word
type_no_meta I1 = refl
type_no_meta I8 = refl
type_no_meta I16 = refl
type_no_meta I32 = refl
type_no_meta I64 = refl
type_no_meta Ptr = refl

tail_no_type : (s : List ℕ) (ty : Ty) → BeginsTail s → s ≡ type_word ty → ⊥
tail_no_type s ty (inl align) e = type_no_align ty (sym e ∙ align)
tail_no_type s ty (inr meta) e = let is : is_token Meta (type_word ty) ≡ true = subst (λ t. is_token Meta t ≡ true) e meta in let none = type_no_meta ty in cc

no_index : (s n : List ℕ) → BeginsTail s → (b : Bool) → is_index s n ≡ b → b ≡ false
no_index s n begins true e = let one = index_is s n e in absurd (tail_no_type s one.index.ty begins one.ty_is)
no_index s n begins false e = refl

and_false : (a b : Bool) → b ≡ false → (a && b) ≡ false
and_false true b e = e
and_false false b e = refl

pub tail_no_more : (ts : List (List ℕ)) → AreMany IsTailItem ts → more_length ts ≡ 0
tail_no_more [] many = refl
tail_no_more (c ∷ []) many = refl
tail_no_more (c ∷ (s ∷ [])) many = refl
tail_no_more (c ∷ (s ∷ (n ∷ ts))) many =
    ap (λ b. if b then suc (suc (suc (more_length ts))) else 0)
    (and_false (bytes_eq c (spelling word.Comma)) (is_index s n) (no_index s n (tail_second (c ∷ s ∷ n ∷ ts) c s (n ∷ ts) many refl) (is_index s n) refl))

-- the list of indices in front
pub record Listed (ts : List (List ℕ)) : Type 0 where
  pub items : List IndexItem
  pub names : List (List ℕ)
  pub woven : AreWoven items names ts

list_is : (ts : List (List ℕ)) (n : ℕ) → n ≡ index_length ts → 0 < n → Listed (take n ts)
list_is [] n e some = absurd (omega arith)
list_is (ty ∷ []) n e some = absurd (omega arith)
list_is (ty ∷ (m ∷ ts)) n e some = by_first (is_index ty m) refl e
  where
    by_first : (b : Bool) → is_index ty m ≡ b → n ≡ (if b then suc (suc (more_length ts)) else 0) → Listed (take n (ty ∷ m ∷ ts))
    by_first false f g = absurd (omega arith)
    by_first true f g =
        let one = index_is ty m f in
        let more = more_is ts in
        let are = one.onto more.indices more.are in
        record {
          items = are.items;
          names = are.names;
          woven = record {
            indices = one.index ∷ more.indices;
            some = λ none. cc;
            each = are.each;
            tokens = ap (λ k. take k (ty ∷ m ∷ ts)) g ∙ ap (λ us. ty ∷ m ∷ us) more.tokens ∙ ap (λ s. s ∷ m ∷ more_indices more.indices) one.ty_is ∙ ap (λ s. type_word one.index.ty ∷ s ∷ more_indices more.indices) one.number_is;
          };
        }

list_there : (indices : List Index) (rest : List (List ℕ)) → indices ≢ [] → Items indices → more_length rest ≡ 0 → index_length (index_tokens indices ++ rest) ≡ length (index_tokens indices)
list_there [] rest some are none = absurd (some refl)
list_there (i ∷ is) rest some are none =
    let there = items_there i is are.items are.names are.each in
    ap (λ b. if b then suc (suc (more_length (more_indices is ++ rest))) else 0) there.here ∙ ap (λ k. suc (suc k)) (more_there is rest there.more none)

pub indices_is : (line : List ℕ) (tokens : List Token) (n : ℕ) → n ≡ index_length (texts line tokens) → 0 < n →
    (items : List IndexItem) × (names : List (List ℕ)) × AreWoven items names (texts line (take n tokens))
indices_is line tokens n e some =
    let list = list_is (texts line tokens) n e some in
    (list.items, list.names, subst (λ ts. AreWoven list.items list.names ts) (take-map (bytes_at line) n tokens) list.woven)

pub indices_whole : (line : List ℕ) (tokens : List Token) (n : ℕ) → n ≡ index_length (texts line tokens) → (run rest : List Token) (items : List IndexItem) (names : List (List ℕ)) → tokens ≡ run ++ rest →
    AreWoven items names (texts line run) → AreMany IsTailItem (texts line rest) → n ≡ length run
indices_whole line tokens n e run rest items names cut h many =
    e ∙ ap index_length (ap (texts line) cut ∙ map-append (bytes_at line) run rest ∙ ap (λ ts. ts ++ texts line rest) h.tokens)
    ∙ list_there h.indices (texts line rest) h.some (record { items = items; names = names; each = h.each }) (tail_no_more (texts line rest) many) ∙ ap length (sym h.tokens) ∙ length-map run (bytes_at line)

pub index_short : (line : List ℕ) (tokens : List Token) → length tokens < 2 → 0 ≡ index_length (texts line tokens)
index_short line [] h = refl
index_short line (a ∷ []) h = refl
index_short line (a ∷ (b ∷ ts)) h = absurd (omega arith)
