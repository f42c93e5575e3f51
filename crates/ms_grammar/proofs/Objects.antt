-- Types of objects and lists of indices end at one place, and say one thing.
use Rattle.std.proofs.Common.{◌≡◌, ◌≢◌, ℕ, ℤ, Bool, true, false, List, [], ◌∷◌, ◌++◌, Some, None, refl, sym, ap, subst, ◌∙◌, inl, inr, append_assoc}
use Rattle.ms_ir.specs.declared.names.Ty.{Ty}
use Rattle.ms_ir.specs.declared.names.Ty.TheVariants.{I1, I8, I16, I32, I64, Ptr}
use Rattle.ms_grammar.specs.Words.{spelling, type_word}
use Rattle.ms_grammar.specs.Kept.{object_tokens, object_sizes, IsObject, Index, more_indices, index_tokens, AreIndices, IsIndexList}
use Rattle.ms_grammar.specs.Reading.{type_of}
use Rattle.ms_grammar.specs.declared.keyword.Keyword.TheVariants as word
use Rattle.ms_lex.specs.Kinds.{is_token}
use Rattle.ms_lex.specs.declared.token.TokenKind.TheVariants.{Meta}
use Rattle.ms_grammar.specs.Kept.{AreMany, IsTailItem}
use Rattle.ms_grammar.proofs.Tails.{BeginsTail, tail_second, tail_alone}
use Rattle.ms_grammar.specs.Scan.{Stops}
use Rattle.ms_grammar.proofs.Walks.{type_stops, square_stops}
use Rattle.ms_grammar.proofs.Words.{type_of_word}

-- a word names one type
pub type_one : (ty tz : Ty) → type_word ty ≡ type_word tz → ty ≡ tz
type_one ty tz e = let first = type_of_word ty in let second = type_of_word tz in cc

pub type_no_square : (ty : Ty) → type_word ty ≡ spelling word.OpenSquare → ⊥
unfolding type_of type_word spelling
type_no_square ty e =
    let first : type_of (type_word ty) ≡ Some ty = type_of_word ty in
    let none : type_of (spelling word.OpenSquare) ≡ None = refl in
    cc

pub void_no_type : (ty : Ty) → spelling word.Void ≡ type_word ty → ⊥
unfolding type_of type_word spelling
void_no_type ty e =
    let first : type_of (type_word ty) ≡ Some ty = type_of_word ty in
    let none : type_of (spelling word.Void) ≡ None = refl in
    cc

pub type_no_close : (ty : Ty) → spelling word.Close ≡ type_word ty → ⊥
unfolding type_of type_word spelling
type_no_close ty e =
    let first : type_of (type_word ty) ≡ Some ty = type_of_word ty in
    let none : type_of (spelling word.Close) ≡ None = refl in
    cc

pub type_no_align : (ty : Ty) → type_word ty ≡ spelling word.Align → ⊥
unfolding type_of type_word spelling
type_no_align ty e =
    let first : type_of (type_word ty) ≡ Some ty = type_of_word ty in
    let none : type_of (spelling word.Align) ≡ None = refl in
    cc

pub type_no_dots : (ty : Ty) → spelling word.Dots ≡ type_word ty → ⊥
unfolding type_of type_word spelling
type_no_dots ty e =
    let first : type_of (type_word ty) ≡ Some ty = type_of_word ty in
    let none : type_of (spelling word.Dots) ≡ None = refl in
    cc

pub record OneObject (ns ms : List (List ℕ)) (ty tz : Ty) (ps qs : List (List ℕ)) : Type 0 where
  pub counts : ns ≡ ms
  pub member : ty ≡ tz
  pub left : ps ≡ qs

pub one_object : (ns ms : List (List ℕ)) (ty tz : Ty) (ps qs : List (List ℕ)) → object_tokens ns ty ++ ps ≡ object_tokens ms tz ++ qs → OneObject ns ms ty tz ps qs
one_object [] [] ty tz ps qs e = record { counts = refl; member = type_one ty tz (cc); left = cc }
one_object [] (m ∷ ms) ty tz ps qs e = absurd (type_no_square ty (cc))
one_object (n ∷ ns) [] ty tz ps qs e = absurd (type_no_square tz (cc))
one_object (n ∷ ns) (m ∷ ms) ty tz ps qs e =
    let inner : (object_tokens ns ty ++ spelling word.CloseSquare ∷ []) ++ ps ≡ (object_tokens ms tz ++ spelling word.CloseSquare ∷ []) ++ qs = cc in
    let regrouped : object_tokens ns ty ++ (spelling word.CloseSquare ∷ ps) ≡ object_tokens ms tz ++ (spelling word.CloseSquare ∷ qs) =
    sym (append_assoc (object_tokens ns ty) (spelling word.CloseSquare ∷ []) ps) ∙ inner ∙ append_assoc (object_tokens ms tz) (spelling word.CloseSquare ∷ []) qs in
    let one = one_object ns ms ty tz (spelling word.CloseSquare ∷ ps) (spelling word.CloseSquare ∷ qs) regrouped in
    let number : n ≡ m = cc in
    let counts : ns ≡ ms = one.counts in
    let left : spelling word.CloseSquare ∷ ps ≡ spelling word.CloseSquare ∷ qs = one.left in
    record { counts = cc; member = one.member; left = cc }

-- what cannot go on a list of indices: no comma, or a comma before what is no type
pub StopsIndices : List (List ℕ) → Type 0
StopsIndices [] = Unit {0}
StopsIndices (t ∷ []) = t ≢ spelling word.Comma
StopsIndices (t ∷ (u ∷ us)) = t ≡ spelling word.Comma → (ty : Ty) → type_word ty ≢ u

pub record OneList (is js : List Index) (ps qs : List (List ℕ)) : Type 0 where
  pub indices : is ≡ js
  pub left : ps ≡ qs

index_one : (i j : Index) → type_word i.ty ≡ type_word j.ty → i.number ≡ j.number → i ≡ j
index_one i j e f = let types : i.ty ≡ j.ty = type_one i.ty j.ty e in ap (λ ty. record { ty = ty; number = i.number }) types ∙ ap (λ n. record { ty = j.ty; number = n }) f

goes_on : (i : Index) (is : List Index) (ps qs : List (List ℕ)) → qs ≡ more_indices (i ∷ is) ++ ps → StopsIndices qs → ⊥
unfolding StopsIndices
goes_on i is ps [] e stop = absurd (cc)
goes_on i is ps (q ∷ []) e stop = absurd (cc)
goes_on i is ps (q ∷ (r ∷ qs)) e stop = let first : q ≡ spelling word.Comma = cc in let second : type_word i.ty ≡ r = cc in stop first i.ty second

pub one_more : (is js : List Index) (ps qs : List (List ℕ)) → more_indices is ++ ps ≡ more_indices js ++ qs → StopsIndices ps → StopsIndices qs → OneList is js ps qs
one_more [] [] ps qs e ps_stop qs_stop = record { indices = refl; left = e }
one_more [] (j ∷ js) ps qs e ps_stop qs_stop = absurd (goes_on j js qs ps e ps_stop)
one_more (i ∷ is) [] ps qs e ps_stop qs_stop = absurd (goes_on i is ps qs (sym e) qs_stop)
one_more (i ∷ is) (j ∷ js) ps qs e ps_stop qs_stop =
    let one = one_more is js ps qs (cc) ps_stop qs_stop in
    let first : i ≡ j = index_one i j (cc) (cc) in
    let rest : is ≡ js = one.indices in
    record { indices = cc; left = one.left }

type_no_meta : (ty : Ty) → is_token Meta (type_word ty) ≡ false
unfolding type_word
type_no_meta I1 = refl
type_no_meta I8 = refl
type_no_meta I16 = refl
type_no_meta I32 = refl
type_no_meta I64 = refl
type_no_meta Ptr = refl

-- a tail does not go on a list of indices
pub tail_stops : (ts : List (List ℕ)) → AreMany IsTailItem ts → StopsIndices ts
unfolding StopsIndices
tail_stops [] many = tt
tail_stops (t ∷ []) many = λ e. tail_alone (t ∷ []) t many refl
tail_stops (t ∷ (u ∷ us)) many = λ e ty is. no_tail_type ty u is (tail_second (t ∷ (u ∷ us)) t u us many refl)
  where
    no_tail_type : (ty : Ty) (u : List ℕ) → type_word ty ≡ u → BeginsTail u → ⊥
    no_tail_type ty u is (inl e) = type_no_align ty (is ∙ e)
    no_tail_type ty u is (inr e) =
        let meta : is_token Meta (type_word ty) ≡ true = subst (λ t. is_token Meta t ≡ true) (sym is) e in
        let none = type_no_meta ty in cc

pub some_one : (v w : ℤ) → Some v ≡ Some w → v ≡ w
some_one v w e = cc

values_one : (indices : List Index) (v w : List ℤ) → AreIndices indices v → AreIndices indices w → v ≡ w
values_one [] [] [] f g = refl
values_one [] [] (w ∷ ws) f g = absurd g
values_one [] (v ∷ vs) w f g = absurd f
values_one (i ∷ is) [] w f g = absurd f
values_one (i ∷ is) (v ∷ vs) [] f g = absurd g
values_one (i ∷ is) (v ∷ vs) (w ∷ ws) f g =
    let first : v ≡ w = some_one v w (sym f.0.in_range ∙ g.0.in_range) in
    ap (λ x. x ∷ vs) first ∙ ap (λ xs. w ∷ xs) (values_one is vs ws f.1 g.1)

-- lists of indices that end before what cannot go on are one
pub one_indices : (is js : List Index) (ps qs : List (List ℕ)) → is ≢ [] → js ≢ [] → index_tokens is ++ ps ≡ index_tokens js ++ qs → StopsIndices ps → StopsIndices qs → OneList is js ps qs
one_indices [] js ps qs f g e ps_stop qs_stop = absurd (f refl)
one_indices (i ∷ is) [] ps qs f g e ps_stop qs_stop = absurd (g refl)
one_indices (i ∷ is) (j ∷ js) ps qs f g e ps_stop qs_stop =
    let one = one_more is js ps qs (cc) ps_stop qs_stop in
    let first : i ≡ j = index_one i j (cc) (cc) in
    record { indices = ap (λ x. x ∷ is) first ∙ ap (λ xs. j ∷ xs) one.indices; left = one.left }

-- what two cuts of one list of tokens agree on
pub record SameCut {X : Type 0} (us vs : List (List ℕ)) (x y : X) : Type 0 where
  pub run : us ≡ vs
  pub value : x ≡ y

pub objects_cut : (us vs ps qs : List (List ℕ)) (s t : List ℕ) → us ++ ps ≡ vs ++ qs → IsObject s us → IsObject t vs → SameCut us vs s t
objects_cut us vs ps qs s t e f g =
    let shown : object_tokens f.counts f.member ++ ps ≡ object_tokens g.counts g.member ++ qs = ap (λ ts. ts ++ ps) (sym f.tokens) ∙ e ∙ ap (λ ts. ts ++ qs) g.tokens in
    let one = one_object f.counts g.counts f.member g.member ps qs shown in
    record {
      run = f.tokens ∙ ap (λ ns. object_tokens ns f.member) one.counts ∙ ap (λ ty. object_tokens g.counts ty) one.member ∙ sym g.tokens;
      value = f.sized ∙ ap (λ ns. object_sizes ns f.member) one.counts ∙ ap (λ ty. object_sizes g.counts ty) one.member ∙ sym g.sized;
    }

pub indices_cut : (us vs ps qs : List (List ℕ)) (s t : List ℤ) → us ++ ps ≡ vs ++ qs → IsIndexList s us → IsIndexList t vs → StopsIndices ps → StopsIndices qs → SameCut us vs s t
indices_cut us vs ps qs s t e f g ps_stop qs_stop =
    let shown : index_tokens f.indices ++ ps ≡ index_tokens g.indices ++ qs = ap (λ ts. ts ++ ps) (sym f.tokens) ∙ e ∙ ap (λ ts. ts ++ qs) g.tokens in
    let one = one_indices f.indices g.indices ps qs f.some g.some shown ps_stop qs_stop in
    record {
      run = f.tokens ∙ ap (λ xs. index_tokens xs) one.indices ∙ sym g.tokens;
      value = values_one g.indices s t (subst (λ xs. AreIndices xs s) one.indices f.each) g.each;
    }

-- the type of an object begins with what attributes cannot take in
pub object_stops : (meta : Bool) (counts : List (List ℕ)) (ty : Ty) (ts : List (List ℕ)) → Stops meta (object_tokens counts ty ++ ts)
object_stops meta [] ty ts = type_stops meta ty ts
object_stops meta (n ∷ ns) ty ts = square_stops meta (n ∷ spelling word.Times ∷ (object_tokens ns ty ++ spelling word.CloseSquare ∷ []) ++ ts)
