-- Attributes lead a walk from each place where attributes may end to such a place.
use Rattle.std.proofs.Common.{◌≡◌, ◌⊎◌, ℕ, Bool, true, false, List, [], ◌∷◌, ◌++◌, Option, Some, None, if◌then◌else◌, refl, sym, ap, ◌∙◌, inl, inr}
use Rattle.std.specs.List.{flat_map}
use Rattle.std.specs.Str.{bytes_eq}
use Rattle.ms_lex.specs.Kinds.{is_word, is_number, is_token}
use Rattle.ms_lex.specs.declared.token.TokenKind.TheVariants.{Word, Number, Quoted, Group, Meta}
use Rattle.ms_lex.specs.declared.token.TokenKind.{TokenKind}
use Rattle.ms_lex.proofs.First.{first_tells, some_bytes}
use Rattle.ms_ir.specs.declared.names.Ty.{Ty}
use Rattle.ms_ir.specs.declared.names.Ty.TheVariants.{I1, I8, I16, I32, I64, Ptr}
use Rattle.ms_grammar.specs.Words.{spelling, type_word}
use Rattle.ms_grammar.specs.Kept.{Each, reserved, closer, is_closer, behind_closer, behind_mark, behind_token, behind_tokens, IsBalanced, in_parentheses, IsFree, IsAttribute, AreMany, IsMetaPair, IsPostItem, attribute, metadata}
use Rattle.ms_grammar.specs.Kept.IsAttribute.{plain, called, aligned, quoted, paired, grouped}
use Rattle.ms_grammar.specs.Scan.{Mode, free, after_word, after_align, after_string, after_equals, after_meta, inside, may_end, is_free, begins, opens, closes, step, walk, Stops}
use Rattle.ms_grammar.specs.declared.keyword.Keyword.TheVariants as word
use Rattle.ms_grammar.proofs.Steps.{tells}
use Rattle.ms_grammar.proofs.Cuts.{walk-append, one_cut}

-- texts that a test tells apart
pub differs : (test : List ℕ → Bool) (s t : List ℕ) → test s ≡ true → test t ≡ false → bytes_eq s t ≡ false
differs test s t passes fails =
    elim (tells s t) [
      | inl told ↦ (let e : test t ≡ true = rw told.1 at passes in absurd (cc))
      | inr told ↦ told.0
    ]

-- a walk to a place where attributes may end
pub record Ends (meta : Bool) (mode : Mode) (ts : List (List ℕ)) : Type 0 where
  pub last : Mode
  pub walks : walk meta (Some mode) ts ≡ Some last
  pub ends : may_end last ≡ true

lift_match : (b : Bool) (opened more next : List (List ℕ)) → (if b then Some opened else None) ≡ Some next → (if b then Some (opened ++ more) else None) ≡ Some (next ++ more)
lift_match true opened more next e = let left : opened ≡ next = cc in rw left refl
lift_match false opened more next e = absurd (cc)

lift_closer : (b : Bool) (opened more next : List (List ℕ)) (t : List ℕ) → (if b then behind_closer opened t else Some opened) ≡ Some next →
    (if b then behind_closer (opened ++ more) t else Some (opened ++ more)) ≡ Some (next ++ more)
lift_closer true [] more next t e = absurd (cc)
lift_closer true (c ∷ opened) more next t e = lift_match (bytes_eq c t) opened more next e
lift_closer false opened more next t e = let left : opened ≡ next = cc in rw left refl

lift_mark : (o : Option (List ℕ)) (opened more next : List (List ℕ)) (t : List ℕ) → behind_mark o opened t ≡ Some next → behind_mark o (opened ++ more) t ≡ Some (next ++ more)
lift_mark (Some c) opened more next t e = let left : c ∷ opened ≡ next = cc in rw (← left) refl
lift_mark None opened more next t e = lift_closer (is_closer t) opened more next t e

-- brackets that are closed among tokens leave those that were open before
behind_lift : (opened more next : List (List ℕ)) (t : List ℕ) → behind_token opened t ≡ Some next → behind_token (opened ++ more) t ≡ Some (next ++ more)
behind_lift opened more next t e = lift_mark (closer t) opened more next t e

still_inside : (opened : List (List ℕ)) (c : List ℕ) (more : List (List ℕ)) → closes (Some (opened ++ c ∷ more)) ≡ Some (inside (opened ++ c ∷ more))
still_inside [] c more = refl
still_inside (d ∷ opened) c more = refl

inside_step : (meta : Bool) (opened next : List (List ℕ)) (c : List ℕ) (more : List (List ℕ)) (t : List ℕ) (ts : List (List ℕ)) (o : Option (List (List ℕ))) →
    behind_token opened t ≡ o → behind_tokens o ts ≡ Some next →
    ((between : List (List ℕ)) → behind_tokens (Some between) ts ≡ Some next → walk meta (Some (inside (between ++ c ∷ more))) ts ≡ Some (inside (next ++ c ∷ more))) →
    walk meta (Some (inside (opened ++ c ∷ more))) (t ∷ ts) ≡ Some (inside (next ++ c ∷ more))
inside_step meta opened next c more t ts None is e further = absurd (cc)
inside_step meta opened next c more t ts (Some between) is e further =
    let lifted : behind_token (opened ++ c ∷ more) t ≡ Some (between ++ c ∷ more) = behind_lift opened (c ∷ more) between t is in
    ap (λ o. walk meta o ts) (ap closes lifted ∙ still_inside between c more) ∙ further between e

pub inside_walk : (meta : Bool) (opened next : List (List ℕ)) (c : List ℕ) (more ts : List (List ℕ)) → behind_tokens (Some opened) ts ≡ Some next →
    walk meta (Some (inside (opened ++ c ∷ more))) ts ≡ Some (inside (next ++ c ∷ more))
inside_walk meta opened next c more [] e = let left : opened ≡ next = cc in rw left refl
inside_walk meta opened next c more (t ∷ ts) e =
    inside_step meta opened next c more t ts (behind_token opened t) refl e (λ between h. inside_walk meta between next c more ts h)

closing : (meta : Bool) (rest : List (List ℕ)) → walk meta (Some (inside (spelling word.Close ∷ []))) (spelling word.Close ∷ rest) ≡ walk meta (Some free) rest
unfolding spelling
closing meta rest = refl

-- tokens in parentheses, from the opening one on
pub parentheses_walk : (meta : Bool) (inner rest : List (List ℕ)) → IsBalanced inner →
    walk meta (Some (inside (spelling word.Close ∷ []))) (inner ++ spelling word.Close ∷ rest) ≡ walk meta (Some free) rest
parentheses_walk meta inner rest balanced =
    let over : walk meta (Some (inside (spelling word.Close ∷ []))) inner ≡ Some (inside (spelling word.Close ∷ [])) =
    inside_walk meta [] [] (spelling word.Close) [] inner balanced in
    walk-append meta (Some (inside (spelling word.Close ∷ []))) inner (spelling word.Close ∷ rest)
    ∙ ap (λ o. walk meta o (spelling word.Close ∷ rest)) over ∙ closing meta rest

-- a token is of one kind
one_kind : (k l : TokenKind) (s : List ℕ) → is_token k s ≡ true → is_token l s ≡ true → Some k ≡ Some l
one_kind k l [] a b = let none : is_token k [] ≡ false = some_bytes k in absurd (cc)
one_kind k l (c ∷ cs) a b = sym (first_tells k c cs a) ∙ first_tells l c cs b

no_kind : (k l : TokenKind) (s : List ℕ) → is_token k s ≡ true → (Some k ≡ Some l → ⊥) → is_token l s ≡ false
no_kind k l s a apart = by_test (is_token l s) refl
  where
    by_test : (t : Bool) → is_token l s ≡ t → is_token l s ≡ false
    by_test true e = absurd (apart (one_kind k l s a e))
    by_test false e = e

word_opens : (w : List ℕ) → is_word w ≡ true → opens w ≡ false
unfolding spelling
word_opens w h = differs is_word w (spelling word.Open) h refl

word_equals : (w : List ℕ) → is_word w ≡ true → bytes_eq w (spelling word.Equals) ≡ false
unfolding spelling
word_equals w h = differs is_word w (spelling word.Equals) h refl

word_number : (w : List ℕ) → is_word w ≡ true → is_number w ≡ false
word_number w h = no_kind Word Number w h (λ e. cc)

free_word : (w : List ℕ) → IsFree w → is_free w ≡ true
free_word w h = rw (h.a_word, h.allowed) refl

begins_word : (meta : Bool) (w : List ℕ) → IsFree w → (begins meta w ≡ Some after_align) ⊎ (begins meta w ≡ Some after_word)
begins_word meta w h =
    elim (tells w (spelling word.Align)) [
      | inl told ↦ inl (rw (free_word w h, told.0) refl)
      | inr told ↦ inr (rw (free_word w h, told.0) refl)
    ]

-- a token that joins nothing steps from each place where attributes may end as it begins an attribute
begin_step : (meta : Bool) (mode : Mode) (s : List ℕ) → opens s ≡ false → is_number s ≡ false → bytes_eq s (spelling word.Equals) ≡ false →
    may_end mode ≡ true → step meta mode s ≡ begins meta s
begin_step meta free s a b c e = refl
begin_step meta after_word s a b c e = rw a refl
begin_step meta after_align s a b c e = rw (a, b) refl
begin_step meta after_string s a b c e = rw c refl
begin_step meta after_equals s a b c e = absurd (cc)
begin_step meta after_meta s a b c e = absurd (cc)
begin_step meta (inside opened) s a b c e = absurd (cc)

word_step : (meta : Bool) (mode : Mode) (w : List ℕ) → IsFree w → may_end mode ≡ true → step meta mode w ≡ begins meta w
word_step meta mode w h e = begin_step meta mode w (word_opens w h.a_word) (word_number w h.a_word) (word_equals w h.a_word) e

kind_step : (meta : Bool) (mode : Mode) (k : TokenKind) (s : List ℕ) → is_token k s ≡ true → is_token k (spelling word.Open) ≡ false →
    is_token k (spelling word.Equals) ≡ false → (Some k ≡ Some Number → ⊥) → may_end mode ≡ true → step meta mode s ≡ begins meta s
kind_step meta mode k s h no_open no_equals no_number e =
    begin_step meta mode s (differs (is_token k) s (spelling word.Open) h no_open) (no_kind k Number s h no_number)
    (differs (is_token k) s (spelling word.Equals) h no_equals) e

quoted_step : (meta : Bool) (mode : Mode) (s : List ℕ) → is_token Quoted s ≡ true → may_end mode ≡ true → step meta mode s ≡ Some after_string
unfolding spelling
quoted_step meta mode s h e =
    let no_word : is_word s ≡ false = no_kind Quoted Word s h (λ d. cc) in
    kind_step meta mode Quoted s h refl refl (λ d. cc) e ∙ rw (no_word, h) refl

group_step : (meta : Bool) (mode : Mode) (s : List ℕ) → is_token Group s ≡ true → may_end mode ≡ true → step meta mode s ≡ Some free
unfolding spelling
group_step meta mode s h e =
    let no_word : is_word s ≡ false = no_kind Group Word s h (λ d. cc) in
    let no_quote : is_token Quoted s ≡ false = no_kind Group Quoted s h (λ d. cc) in
    kind_step meta mode Group s h refl refl (λ d. cc) e ∙ rw (no_word, no_quote, h) refl

meta_step : (mode : Mode) (s : List ℕ) → is_token Meta s ≡ true → may_end mode ≡ true → step true mode s ≡ Some after_meta
unfolding spelling
meta_step mode s h e =
    let no_word : is_word s ≡ false = no_kind Meta Word s h (λ d. cc) in
    let no_quote : is_token Quoted s ≡ false = no_kind Meta Quoted s h (λ d. cc) in
    let no_group : is_token Group s ≡ false = no_kind Meta Group s h (λ d. cc) in
    kind_step true mode Meta s h refl refl (λ d. cc) e ∙ rw (no_word, no_quote, no_group, h) refl

-- the same for a walk that begins with a step
from_step : (meta : Bool) (mode next : Mode) (s : List ℕ) (ts : List (List ℕ)) → step meta mode s ≡ Some next → Ends meta next ts → Ends meta mode (s ∷ ts)
from_step meta mode next s ts e ends =
    record { last = ends.last; walks = ap (λ o. walk meta o ts) e ∙ ends.walks; ends = ends.ends }

here : (meta : Bool) (mode : Mode) → may_end mode ≡ true → Ends meta mode []
here meta mode e = record { last = mode; walks = refl; ends = e }

opened_step : (meta : Bool) (mode : Mode) → (mode ≡ after_align) ⊎ (mode ≡ after_word) → step meta mode (spelling word.Open) ≡ Some (inside (spelling word.Close ∷ []))
unfolding spelling
opened_step meta mode (inl e) = rw e refl
opened_step meta mode (inr e) = rw e refl

number_step : (meta : Bool) (n : List ℕ) → is_number n ≡ true → step meta after_align n ≡ Some free
unfolding spelling
number_step meta n h = let no_open : opens n ≡ false = differs is_number n (spelling word.Open) h refl in rw (no_open, h) refl

align_free : IsFree (spelling word.Align)
unfolding spelling reserved
align_free = record { a_word = refl; allowed = refl }

align_begins : (meta : Bool) → begins meta (spelling word.Align) ≡ Some after_align
unfolding spelling reserved
align_begins meta = refl

equals_step : (meta : Bool) → step meta after_string (spelling word.Equals) ≡ Some after_equals
unfolding spelling
equals_step meta = refl

in_parentheses_ends : (meta : Bool) (mode : Mode) (inner : List (List ℕ)) → (mode ≡ after_align) ⊎ (mode ≡ after_word) → IsBalanced inner → Ends meta mode (in_parentheses inner)
in_parentheses_ends meta mode inner e balanced =
    from_step meta mode (inside (spelling word.Close ∷ [])) (spelling word.Open) (inner ++ spelling word.Close ∷ []) (opened_step meta mode e)
    (record { last = free; walks = parentheses_walk meta inner [] balanced; ends = refl })

called_ends : (meta : Bool) (mode : Mode) (w : List ℕ) (inner : List (List ℕ)) → IsFree w → IsBalanced inner → may_end mode ≡ true → Ends meta mode (w ∷ in_parentheses inner)
called_ends meta mode w inner h balanced e =
    elim (begins_word meta w h) [
      | inl b ↦ from_step meta mode after_align w (in_parentheses inner) (word_step meta mode w h e ∙ b) (in_parentheses_ends meta after_align inner (inl refl) balanced)
      | inr b ↦ from_step meta mode after_word w (in_parentheses inner) (word_step meta mode w h e ∙ b) (in_parentheses_ends meta after_word inner (inr refl) balanced)
    ]

plain_ends : (meta : Bool) (mode : Mode) (w : List ℕ) → IsFree w → may_end mode ≡ true → Ends meta mode (w ∷ [])
plain_ends meta mode w h e =
    elim (begins_word meta w h) [
      | inl b ↦ from_step meta mode after_align w [] (word_step meta mode w h e ∙ b) (here meta after_align refl)
      | inr b ↦ from_step meta mode after_word w [] (word_step meta mode w h e ∙ b) (here meta after_word refl)
    ]

attribute_ends : (meta : Bool) (mode : Mode) (ts : List (List ℕ)) → IsAttribute ts → may_end mode ≡ true → Ends meta mode ts
attribute_ends meta mode ts (plain w h is) e = rw is (plain_ends meta mode w h e)
attribute_ends meta mode ts (called w inner h balanced is) e = rw is (called_ends meta mode w inner h balanced e)
attribute_ends meta mode ts (aligned n h is) e =
    rw is (from_step meta mode after_align (spelling word.Align) (n ∷ []) (word_step meta mode (spelling word.Align) align_free e ∙ align_begins meta)
    (from_step meta after_align free n [] (number_step meta n h) (here meta free refl)))
attribute_ends meta mode ts (quoted s h is) e = rw is (from_step meta mode after_string s [] (quoted_step meta mode s h e) (here meta after_string refl))
attribute_ends meta mode ts (paired s t h k is) e =
    rw is (from_step meta mode after_string s (spelling word.Equals ∷ t ∷ []) (quoted_step meta mode s h e)
    (from_step meta after_string after_equals (spelling word.Equals) (t ∷ []) (equals_step meta)
    (from_step meta after_equals free t [] (rw k refl) (here meta free refl))))
attribute_ends meta mode ts (grouped g h is) e = rw is (from_step meta mode free g [] (group_step meta mode g h e) (here meta free refl))

then_ends : (meta : Bool) (mode : Mode) (ss ts : List (List ℕ)) → Ends meta mode ss → ((next : Mode) → may_end next ≡ true → Ends meta next ts) → Ends meta mode (ss ++ ts)
then_ends meta mode ss ts a b =
    let c = b a.last a.ends in
    record { last = c.last; walks = walk-append meta (Some mode) ss ts ∙ ap (λ o. walk meta o ts) a.walks ∙ c.walks; ends = c.ends }

items_end : (meta : Bool) (P : List (List ℕ) → Type 0) → ((mode : Mode) (ts : List (List ℕ)) → P ts → may_end mode ≡ true → Ends meta mode ts) →
    (items : List (List (List ℕ))) → Each P items → (mode : Mode) → may_end mode ≡ true → Ends meta mode (flat_map (λ item. item) items)
items_end meta P one [] each mode e = here meta mode e
items_end meta P one (item ∷ items) each mode e =
    then_ends meta mode item (flat_map (λ i. i) items) (one mode item each.0 e) (λ next h. items_end meta P one items each.1 next h)

-- attributes
pub attributes_end : (meta : Bool) (mode : Mode) (ts : List (List ℕ)) → AreMany IsAttribute ts → may_end mode ≡ true → Ends meta mode ts
attributes_end meta mode ts many e = rw many.whole (items_end meta IsAttribute (attribute_ends meta) many.items many.each mode e)

meta_pair_ends : (mode : Mode) (ts : List (List ℕ)) → IsMetaPair ts → may_end mode ≡ true → Ends true mode ts
meta_pair_ends mode ts pair e =
    rw pair.both (from_step true mode after_meta pair.first (pair.second ∷ []) (meta_step mode pair.first pair.first_is e)
    (from_step true after_meta free pair.second [] (rw pair.second_is refl) (here true free refl)))

post_item_ends : (mode : Mode) (ts : List (List ℕ)) → IsPostItem ts → may_end mode ≡ true → Ends true mode ts
post_item_ends mode ts (attribute h) e = attribute_ends true mode ts h e
post_item_ends mode ts (metadata pair) e = meta_pair_ends mode ts pair e

-- attributes behind arguments
pub post_end : (mode : Mode) (ts : List (List ℕ)) → AreMany IsPostItem ts → may_end mode ≡ true → Ends true mode ts
post_end mode ts many e = rw many.whole (items_end true IsPostItem post_item_ends many.items many.each mode e)

-- one way to cut off attributes
pub one_attributes : (us vs ps qs : List (List ℕ)) → us ++ ps ≡ vs ++ qs → AreMany IsAttribute us → AreMany IsAttribute vs → Stops false ps → Stops false qs → us ≡ vs
one_attributes us vs ps qs e a b ps_stop qs_stop =
    let first = attributes_end false free us a refl in
    let second = attributes_end false free vs b refl in
    one_cut false (Some free) us vs ps qs first.last second.last e first.walks second.walks first.ends second.ends ps_stop qs_stop

pub one_post : (us vs ps qs : List (List ℕ)) → us ++ ps ≡ vs ++ qs → AreMany IsPostItem us → AreMany IsPostItem vs → Stops true ps → Stops true qs → us ≡ vs
one_post us vs ps qs e a b ps_stop qs_stop =
    let first = post_end free us a refl in
    let second = post_end free vs b refl in
    one_cut true (Some free) us vs ps qs first.last second.last e first.walks second.walks first.ends second.ends ps_stop qs_stop

-- what no attribute takes in: a token that can join nothing and begins no attribute
pub stops_at : (meta : Bool) (t : List ℕ) (ts : List (List ℕ)) → opens t ≡ false → is_number t ≡ false → bytes_eq t (spelling word.Equals) ≡ false → begins meta t ≡ None → Stops meta (t ∷ ts)
stops_at meta t ts a b c none mode e = begin_step meta mode t a b c e ∙ none

type_begins : (meta : Bool) (ty : Ty) → begins meta (type_word ty) ≡ None
unfolding spelling reserved type_word
type_begins true I1 = refl
type_begins true I8 = refl
type_begins true I16 = refl
type_begins true I32 = refl
type_begins true I64 = refl
type_begins true Ptr = refl
type_begins false I1 = refl
type_begins false I8 = refl
type_begins false I16 = refl
type_begins false I32 = refl
type_begins false I64 = refl
type_begins false Ptr = refl

type_joins : (ty : Ty) → (opens (type_word ty) ≡ false) × (is_number (type_word ty) ≡ false) × (bytes_eq (type_word ty) (spelling word.Equals) ≡ false)
unfolding spelling type_word
type_joins I1 = (refl, refl, refl)
type_joins I8 = (refl, refl, refl)
type_joins I16 = (refl, refl, refl)
type_joins I32 = (refl, refl, refl)
type_joins I64 = (refl, refl, refl)
type_joins Ptr = (refl, refl, refl)

-- the word of a type
pub type_stops : (meta : Bool) (ty : Ty) (ts : List (List ℕ)) → Stops meta (type_word ty ∷ ts)
type_stops meta ty ts = let joins = type_joins ty in stops_at meta (type_word ty) ts joins.0 joins.1 joins.2 (type_begins meta ty)

comma_begins : (meta : Bool) → begins meta (spelling word.Comma) ≡ None
unfolding spelling reserved
comma_begins true = refl
comma_begins false = refl

pub comma_stops : (meta : Bool) (ts : List (List ℕ)) → Stops meta (spelling word.Comma ∷ ts)
unfolding spelling reserved
comma_stops meta ts = stops_at meta (spelling word.Comma) ts refl refl refl (comma_begins meta)

close_begins : (meta : Bool) → begins meta (spelling word.Close) ≡ None
unfolding spelling reserved
close_begins true = refl
close_begins false = refl

pub close_stops : (meta : Bool) (ts : List (List ℕ)) → Stops meta (spelling word.Close ∷ ts)
unfolding spelling reserved
close_stops meta ts = stops_at meta (spelling word.Close) ts refl refl refl (close_begins meta)

brace_begins : (meta : Bool) → begins meta (spelling word.OpenBrace) ≡ None
unfolding spelling reserved
brace_begins true = refl
brace_begins false = refl

pub brace_stops : (meta : Bool) (ts : List (List ℕ)) → Stops meta (spelling word.OpenBrace ∷ ts)
unfolding spelling reserved
brace_stops meta ts = stops_at meta (spelling word.OpenBrace) ts refl refl refl (brace_begins meta)

square_begins : (meta : Bool) → begins meta (spelling word.OpenSquare) ≡ None
unfolding spelling reserved
square_begins true = refl
square_begins false = refl

pub square_stops : (meta : Bool) (ts : List (List ℕ)) → Stops meta (spelling word.OpenSquare ∷ ts)
unfolding spelling reserved
square_stops meta ts = stops_at meta (spelling word.OpenSquare) ts refl refl refl (square_begins meta)

void_begins : (meta : Bool) → begins meta (spelling word.Void) ≡ None
unfolding spelling reserved
void_begins true = refl
void_begins false = refl

pub void_stops : (meta : Bool) (ts : List (List ℕ)) → Stops meta (spelling word.Void ∷ ts)
unfolding spelling reserved
void_stops meta ts = stops_at meta (spelling word.Void) ts refl refl refl (void_begins meta)
