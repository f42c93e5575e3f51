-- Numbers, values, arguments and lists of them are read again where they are printed.
use Rattle.std.proofs.Common.{◌≡◌, ◌+◌, ℕ, Bool, true, false, List, [], ◌∷◌, ◌++◌, map, sym, ap, subst, ◌∙◌, decimal}
use Rattle.ms_lex.specs.Kinds.{is_token}
use Rattle.ms_lex.specs.declared.token.Token.{Token}
use Rattle.ms_lex.specs.declared.token.TokenKind.{TokenKind}
use Rattle.ms_ir.specs.declared.names.Ty.{Ty}
use Rattle.ms_ir.specs.declared.names.Name.{Name}
use Rattle.ms_ir.specs.declared.names.Name.TheVariants as name
use Rattle.ms_ir.specs.declared.names.Param.{Param}
use Rattle.ms_grammar.specs.Numbers.{number_text}
use Rattle.ms_grammar.specs.Kept.{Each}
use Rattle.ms_grammar.specs.Parts.{Part, blank, number, count, apart, attributes, bytes_at, texts}
use Rattle.ms_grammar.specs.Form.{word_part, type_part, local_part, value_part, further, listed, arg_parts, named_parts, param_parts, dots_parts, entry_parts}
use Rattle.ms_grammar.specs.Fits.{IsNamed, MayBeNamed, IsInt, IsValue, IsArg, IsParam, IsEntryOf}
use Rattle.ms_grammar.specs.Grammar.{IsReadableToken, without_name}
use Rattle.ms_grammar.specs.declared.line.RawVal.{RawVal}
use Rattle.ms_grammar.specs.declared.line.RawVal.TheVariants.{Num, Local, Global}
use Rattle.ms_grammar.specs.declared.line.RawArg.{RawArg}
use Rattle.ms_grammar.specs.declared.line.RawEntry.{RawEntry}
use Rattle.ms_grammar.specs.declared.keyword.Keyword.TheVariants as word
use Rattle.ms_reread.proofs.Moves.{Old, old_first, ends_by}
use Rattle.ms_reread.proofs.Pieces.{Back, Next, said_token, said_part, part_stands, part_long, behind, next_behind, nothing, blank_next, token_back, token_then, mark_free, mark_next}
use Rattle.ms_reread.proofs.Classes.{attributes_next}
use Rattle.ms_reread.proofs.Tokens.{word_whole, type_whole, local_whole, global_name_whole, comma_calm, open_square, number_again, count_again}

-- a number of a type
number_back : (ty : Ty) (n : ℕ) → IsInt ty → Back false (number ty n ∷ []) (number ty n ∷ [])
number_back ty n some = record {
  again = λ old tokens o h line rest at to stands before there.
      let again = number_again ty n h.3.0 some h.3.2 in
      let run = said_token line at to (number_text ty n) rest again.whole (part_stands line at (number ty n) rest stands)
      (ends_by again.whole.kind (number_text ty n) rest again.whole.is before) (there ∙ ap (λ k. at + k) (part_long (number ty n))) in
      said_part line at to (number ty n) run.0 run.1 (number_text ty n, run.2, again.means) run.3;
}

-- the one token of a text
record IsOld (s : List ℕ) : Type 0 where
  pub kind : TokenKind
  pub is : is_token kind s ≡ true
  pub readable : IsReadableToken kind s

one_old : (old : List ℕ) (run : List Token) (s : List ℕ) → Old old run → texts old run ≡ s ∷ [] → IsOld s
one_old old [] s o e = absurd (cc)
one_old old (t ∷ (u ∷ us)) s o e = absurd (cc)
one_old old (t ∷ []) s o e =
    let same : bytes_at old t ≡ s = cc in
    record {
      kind = t.kind;
      is = subst (λ b. is_token t.kind b ≡ true) same o.follow.0.bytes;
      readable = subst (λ b. IsReadableToken t.kind b) same o.readable.0;
    }

-- a number of 0 or more
pub count_back : (n : ℕ) → Back false (count n ∷ []) (count n ∷ [])
count_back n = record {
  again = λ old tokens o h line rest at to stands before there.
      let was = one_old old h.0 h.3.0 (old_first old h.0 h.1 (subst (λ x. Old old x) h.2 o)) h.3.1 in
      let again = count_again n h.3.0 was.kind h.3.2 was.is was.readable in
      let run = said_token line at to (decimal n) rest again.whole (part_stands line at (count n) rest stands)
      (ends_by again.whole.kind (decimal n) rest again.whole.is before) (there ∙ ap (λ k. at + k) (part_long (count n))) in
      said_part line at to (count n) run.0 run.1 (decimal n, run.2, again.is) run.3;
}

-- a value of a type
pub value_back : (ty : Ty) (a : RawVal) → IsValue ty a → Back false (value_part a ∷ []) (value_part a ∷ [])
value_back ty (Num own n) h = number_back own n (subst (λ t. IsInt t) (sym h.0) h.1)
value_back ty (Local n) h = token_back (local_whole n h)
value_back ty (Global n) h = token_back (global_name_whole n h.1)

pub value_then : {free : Bool} {was ps : List Part} (ty : Ty) (a : RawVal) → IsValue ty a → Next free was ps → Back free (value_part a ∷ was) (value_part a ∷ ps)
value_then ty a h next = behind (value_back ty a h) next

pub typed_then : {free : Bool} {was ps : List Part} (ty : Ty) (a : RawVal) → IsValue ty a → Next free was ps →
    Back free (type_part ty ∷ blank ∷ value_part a ∷ was) (type_part ty ∷ blank ∷ value_part a ∷ ps)
typed_then ty a h next = token_then (type_whole ty) (blank_next (value_then ty a h next))

pub local_then : {free : Bool} {was ps : List Part} (n : Name) → IsNamed n → Next free was ps → Back free (local_part n ∷ was) (local_part n ∷ ps)
local_then n h next = token_then (local_whole n h) next

pub comma_next : {free : Bool} {was ps : List Part} → Back free was ps → Next free (word_part word.Comma ∷ blank ∷ was) (word_part word.Comma ∷ blank ∷ ps)
comma_next b = mark_next comma_calm (blank_next b).back

-- an argument
pub arg_then : {free : Bool} {was ps : List Part} (a : RawArg) → IsArg a → Next free was ps →
    Back free (type_part a.ty ∷ apart attributes a.text ∷ blank ∷ value_part a.val ∷ was) (type_part a.ty ∷ apart attributes a.text ∷ blank ∷ value_part a.val ∷ ps)
arg_then a h next = token_then (type_whole a.ty) (next_behind (attributes_next a.text) (blank_next (value_then a.ty a.val h next)))

arg_back : (a : RawArg) → IsArg a → Back false (arg_parts a) (arg_parts a)
arg_back a h = arg_then a h nothing

-- an entry of a phi
entry_back : (ty : Ty) (e : RawEntry) → IsEntryOf ty e → Back false (entry_parts e) (entry_parts e)
entry_back ty e h =
    mark_free open_square
    (blank_next (value_then ty e.val h.0 (comma_next (local_then e.from h.1 (blank_next (token_back (word_whole word.CloseSquare))))))).back

-- a parameter, and one whose name is left out
named_next : (n : Name) → MayBeNamed n → Next false (named_parts n) (named_parts n)
named_next (name.Word text) h = blank_next (token_back (local_whole (name.Word text) h))
named_next (name.Number n) h = blank_next (token_back (local_whole (name.Number n) h))
named_next name.Absent h = nothing

param_back : (p : Param) → IsParam p → Back false (param_parts p) (param_parts p)
param_back p h = token_then (type_whole p.ty) (next_behind (attributes_next p.text) (named_next p.name h))

bare_back : (p : Param) → Back false (param_parts p) (param_parts (without_name p))
bare_back p = token_then (type_whole p.ty) (next_behind (attributes_next p.text) (nothing {was = named_parts p.name}))

-- members of a list, one by one
abbrev pub EachBack : List (List Part) → List (List Part) → Type 0
EachBack [] [] = Unit {0}
EachBack (m ∷ ms) (n ∷ ns) = Back false m n × EachBack ms ns
EachBack _ _ = ⊥

further_next : (ms ns : List (List Part)) → EachBack ms ns → Next false (further ms) (further ns)
further_next [] [] h = nothing
further_next [] (n ∷ ns) h = absurd h
further_next (m ∷ ms) [] h = absurd h
further_next (m ∷ ms) (n ∷ ns) h = comma_next (behind h.0 (further_next ms ns h.1))

pub listed_back : (ms ns : List (List Part)) → EachBack ms ns → Back false (listed ms) (listed ns)
listed_back [] [] h = nothing.back
listed_back [] (n ∷ ns) h = absurd h
listed_back (m ∷ ms) [] h = absurd h
listed_back (m ∷ ms) (n ∷ ns) h = behind h.0 (further_next ms ns h.1)

pub each_arg : (args : List RawArg) → Each IsArg args → EachBack (map arg_parts args) (map arg_parts args)
each_arg [] h = tt
each_arg (a ∷ args) h = (arg_back a h.0, each_arg args h.1)

pub each_entry : (ty : Ty) (entries : List RawEntry) → Each (IsEntryOf ty) entries → EachBack (map entry_parts entries) (map entry_parts entries)
each_entry ty [] h = tt
each_entry ty (e ∷ entries) h = (entry_back ty e h.0, each_entry ty entries h.1)

each_dots : (variadic : Bool) → EachBack (dots_parts variadic) (dots_parts variadic)
each_dots true = (token_back (word_whole word.Dots), tt)
each_dots false = tt

pub each_param : (ps : List Param) (variadic : Bool) → Each IsParam ps → EachBack (map param_parts ps ++ dots_parts variadic) (map param_parts ps ++ dots_parts variadic)
each_param [] variadic h = each_dots variadic
each_param (p ∷ ps) variadic h = (param_back p h.0, each_param ps variadic h.1)

pub each_bare : (ps : List Param) (variadic : Bool) → EachBack (map param_parts ps ++ dots_parts variadic) (map param_parts (map without_name ps) ++ dots_parts variadic)
each_bare [] variadic = each_dots variadic
each_bare (p ∷ ps) variadic = (bare_back p, each_bare ps variadic)
