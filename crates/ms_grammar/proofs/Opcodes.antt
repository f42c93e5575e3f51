-- Words of operations, predicates, casts and flags, each told from the others.
use Rattle.std.proofs.Common.{◌≡◌, ◌≢◌, ℕ, Bool, false, List, ◌∷◌, ◌++◌, Option, Some, None, if◌then◌else◌, refl, sym, ap, ◌∙◌}
use Rattle.std.specs.Str.{bytes_eq}
use Rattle.ms_ir.specs.declared.names.Ty.{Ty}
use Rattle.ms_ir.specs.declared.inst.Op.{Op}
use Rattle.ms_ir.specs.declared.inst.Op.TheVariants.{Add, Sub, Mul, And, Or, Xor, Shl, Lshr, Ashr}
use Rattle.ms_ir.specs.declared.inst.Pred.{Pred}
use Rattle.ms_ir.specs.declared.inst.Pred.TheVariants.{Eq, Ne, Ugt, Uge, Ult, Ule, Sgt, Sge, Slt, Sle}
use Rattle.ms_ir.specs.declared.inst.CastOp.{CastOp}
use Rattle.ms_ir.specs.declared.inst.CastOp.TheVariants.{Zext, Sext, Trunc}
use Rattle.ms_ir.specs.declared.inst.Flags.{Flags}
use Rattle.ms_grammar.specs.Words.{spelling, type_word, op_word, predicate_word, cast_word}
use Rattle.ms_grammar.specs.Parts.{Part, blank, flag}
use Rattle.ms_grammar.specs.Form.{type_part, bin_parts, cast_parts}
use Rattle.ms_grammar.specs.Fits.{flags_of_op, flags_of_cast}
use Rattle.ms_grammar.specs.Reading.{type_of}
use Rattle.ms_grammar.specs.declared.keyword.Keyword.TheVariants as word
use Rattle.ms_grammar.proofs.Words.{type_of_word}
use Rattle.ms_grammar.proofs.Steps.{same}
use Rattle.ms_grammar.proofs.Both.{Both, both_blank, both_token, both_flag, NotFirst, token_not_first, blank_not_first, flag_not_first}

unfoldable op_of : List ℕ → Option Op
op_of s =
    if bytes_eq s (op_word Add) then Some Add
    else (if bytes_eq s (op_word Sub) then Some Sub
    else (if bytes_eq s (op_word Mul) then Some Mul
    else (if bytes_eq s (op_word And) then Some And
    else (if bytes_eq s (op_word Or) then Some Or
    else (if bytes_eq s (op_word Xor) then Some Xor
    else (if bytes_eq s (op_word Shl) then Some Shl
    else (if bytes_eq s (op_word Lshr) then Some Lshr
    else (if bytes_eq s (op_word Ashr) then Some Ashr
    else None))))))))

op_of_word : (x : Op) → op_of (op_word x) ≡ Some x
unfolding op_of op_word
op_of_word Add = refl
op_of_word Sub = refl
op_of_word Mul = refl
op_of_word And = refl
op_of_word Or = refl
op_of_word Xor = refl
op_of_word Shl = refl
op_of_word Lshr = refl
op_of_word Ashr = refl

unfoldable predicate_of : List ℕ → Option Pred
predicate_of s =
    if bytes_eq s (predicate_word Eq) then Some Eq
    else (if bytes_eq s (predicate_word Ne) then Some Ne
    else (if bytes_eq s (predicate_word Ugt) then Some Ugt
    else (if bytes_eq s (predicate_word Uge) then Some Uge
    else (if bytes_eq s (predicate_word Ult) then Some Ult
    else (if bytes_eq s (predicate_word Ule) then Some Ule
    else (if bytes_eq s (predicate_word Sgt) then Some Sgt
    else (if bytes_eq s (predicate_word Sge) then Some Sge
    else (if bytes_eq s (predicate_word Slt) then Some Slt
    else (if bytes_eq s (predicate_word Sle) then Some Sle
    else None)))))))))

predicate_of_word : (x : Pred) → predicate_of (predicate_word x) ≡ Some x
unfolding predicate_of predicate_word
predicate_of_word Eq = refl
predicate_of_word Ne = refl
predicate_of_word Ugt = refl
predicate_of_word Uge = refl
predicate_of_word Ult = refl
predicate_of_word Ule = refl
predicate_of_word Sgt = refl
predicate_of_word Sge = refl
predicate_of_word Slt = refl
predicate_of_word Sle = refl

unfoldable cast_of : List ℕ → Option CastOp
cast_of s =
    if bytes_eq s (cast_word Zext) then Some Zext
    else (if bytes_eq s (cast_word Sext) then Some Sext
    else (if bytes_eq s (cast_word Trunc) then Some Trunc
    else None))

cast_of_word : (x : CastOp) → cast_of (cast_word x) ≡ Some x
unfolding cast_of cast_word
cast_of_word Zext = refl
cast_of_word Sext = refl
cast_of_word Trunc = refl

pub op_one : (a b : Op) → op_word a ≡ op_word b → a ≡ b
op_one a b e = let first = op_of_word a in let second = op_of_word b in let through : op_of (op_word a) ≡ op_of (op_word b) = ap (λ s. op_of s) e in cc

pub predicate_one : (a b : Pred) → predicate_word a ≡ predicate_word b → a ≡ b
predicate_one a b e = let first = predicate_of_word a in let second = predicate_of_word b in let through : predicate_of (predicate_word a) ≡ predicate_of (predicate_word b) = ap (λ s. predicate_of s) e in cc

pub cast_one : (a b : CastOp) → cast_word a ≡ cast_word b → a ≡ b
cast_one a b e = let first = cast_of_word a in let second = cast_of_word b in let through : cast_of (cast_word a) ≡ cast_of (cast_word b) = ap (λ s. cast_of s) e in cc

unlike : (s t : List ℕ) → bytes_eq s t ≡ false → s ≢ t
unlike s t fails e = let passes = same s t e in cc

no_type : (ty : Ty) (s : List ℕ) → type_of s ≡ None → type_word ty ≢ s
no_type ty s none e = let first = type_of_word ty in let through : type_of (type_word ty) ≡ type_of s = ap (λ t. type_of t) e in cc

type_no_nuw : (ty : Ty) → type_word ty ≢ spelling word.Nuw
unfolding type_of type_word spelling
type_no_nuw ty = no_type ty (spelling word.Nuw) refl

type_no_nsw : (ty : Ty) → type_word ty ≢ spelling word.Nsw
unfolding type_of type_word spelling
type_no_nsw ty = no_type ty (spelling word.Nsw) refl

type_no_exact : (ty : Ty) → type_word ty ≢ spelling word.Exact
unfolding type_of type_word spelling
type_no_exact ty = no_type ty (spelling word.Exact) refl

type_no_disjoint : (ty : Ty) → type_word ty ≢ spelling word.Disjoint
unfolding type_of type_word spelling
type_no_disjoint ty = no_type ty (spelling word.Disjoint) refl

type_no_nneg : (ty : Ty) → type_word ty ≢ spelling word.Nneg
unfolding type_of type_word spelling
type_no_nneg ty = no_type ty (spelling word.Nneg) refl

nsw_no_nuw : spelling word.Nsw ≢ spelling word.Nuw
unfolding spelling
nsw_no_nuw = unlike (spelling word.Nsw) (spelling word.Nuw) refl

exact_no_nuw : spelling word.Exact ≢ spelling word.Nuw
unfolding spelling
exact_no_nuw = unlike (spelling word.Exact) (spelling word.Nuw) refl

disjoint_no_nuw : spelling word.Disjoint ≢ spelling word.Nuw
unfolding spelling
disjoint_no_nuw = unlike (spelling word.Disjoint) (spelling word.Nuw) refl

exact_no_nsw : spelling word.Exact ≢ spelling word.Nsw
unfolding spelling
exact_no_nsw = unlike (spelling word.Exact) (spelling word.Nsw) refl

disjoint_no_nsw : spelling word.Disjoint ≢ spelling word.Nsw
unfolding spelling
disjoint_no_nsw = unlike (spelling word.Disjoint) (spelling word.Nsw) refl

disjoint_no_exact : spelling word.Disjoint ≢ spelling word.Exact
unfolding spelling
disjoint_no_exact = unlike (spelling word.Disjoint) (spelling word.Exact) refl

nuw_no_nneg : spelling word.Nuw ≢ spelling word.Nneg
unfolding spelling
nuw_no_nneg = unlike (spelling word.Nuw) (spelling word.Nneg) refl

nsw_no_nneg : spelling word.Nsw ≢ spelling word.Nneg
unfolding spelling
nsw_no_nneg = unlike (spelling word.Nsw) (spelling word.Nneg) refl

pub predicate_no_samesign : (p : Pred) → predicate_word p ≢ spelling word.Samesign
unfolding predicate_of predicate_word spelling
predicate_no_samesign p e =
    let first = predicate_of_word p in
    let none : predicate_of (spelling word.Samesign) ≡ None = refl in
    let through : predicate_of (predicate_word p) ≡ predicate_of (spelling word.Samesign) = ap (λ t. predicate_of t) e in cc

typed_not : (line w : List ℕ) (ty : Ty) (ps : List Part) → type_word ty ≢ w → NotFirst line w (blank ∷ type_part ty ∷ ps)
typed_not line w ty ps unlike = blank_not_first line w (type_part ty ∷ ps) (token_not_first line w (type_word ty) ps unlike)

-- the flags that an operation may have, from the words that stand there
op_flags : Op → Bool → Bool → Bool → Bool → Flags
op_flags op nsw nuw exact disjoint = flags_of_op op (record { nsw = nsw; nuw = nuw; exact = exact; disjoint = disjoint; nneg = false; samesign = false })

op_flags_are : (op : Op) (f : Flags) → flags_of_op op f ≡ op_flags op f.nsw f.nuw f.exact f.disjoint
unfolding op_flags
op_flags_are Add f = refl
op_flags_are Sub f = refl
op_flags_are Mul f = refl
op_flags_are And f = refl
op_flags_are Or f = refl
op_flags_are Xor f = refl
op_flags_are Shl f = refl
op_flags_are Lshr f = refl
op_flags_are Ashr f = refl

pub record SameBin (op or : Op) (f g : Flags) (line : List ℕ) (ps qs : List Part) : Type 0 where
  pub op_same : op ≡ or
  pub flags_same : f ≡ g
  pub rest : Both line ps qs

pub both_bin : (line : List ℕ) (op or : Op) (f g : Flags) (ty tz : Ty) (ps qs : List Part) → f ≡ flags_of_op op f → g ≡ flags_of_op or g →
    Both line (bin_parts op f ++ type_part ty ∷ ps) (bin_parts or g ++ type_part tz ∷ qs) → SameBin op or f g line (type_part ty ∷ ps) (type_part tz ∷ qs)
both_bin line op or f g ty tz ps qs f_is g_is h =
    let ops = both_token line (op_word op) (op_word or) (flag (spelling word.Nuw) f.nuw ∷ flag (spelling word.Nsw) f.nsw ∷ flag (spelling word.Exact) f.exact ∷ flag (spelling word.Disjoint) f.disjoint ∷ blank ∷ type_part ty ∷ ps) (flag (spelling word.Nuw) g.nuw ∷ flag (spelling word.Nsw) g.nsw ∷ flag (spelling word.Exact) g.exact ∷ flag (spelling word.Disjoint) g.disjoint ∷ blank ∷ type_part tz ∷ qs) h in
    let nuws = both_flag line (spelling word.Nuw) f.nuw g.nuw (flag (spelling word.Nsw) f.nsw ∷ flag (spelling word.Exact) f.exact ∷ flag (spelling word.Disjoint) f.disjoint ∷ blank ∷ type_part ty ∷ ps) (flag (spelling word.Nsw) g.nsw ∷ flag (spelling word.Exact) g.exact ∷ flag (spelling word.Disjoint) g.disjoint ∷ blank ∷ type_part tz ∷ qs)
    (flag_not_first line (spelling word.Nuw) (spelling word.Nsw) f.nsw (flag (spelling word.Exact) f.exact ∷ flag (spelling word.Disjoint) f.disjoint ∷ blank ∷ type_part ty ∷ ps) nsw_no_nuw (flag_not_first line (spelling word.Nuw) (spelling word.Exact) f.exact (flag (spelling word.Disjoint) f.disjoint ∷ blank ∷ type_part ty ∷ ps) exact_no_nuw (flag_not_first line (spelling word.Nuw) (spelling word.Disjoint) f.disjoint (blank ∷ type_part ty ∷ ps) disjoint_no_nuw (typed_not line (spelling word.Nuw) ty ps (type_no_nuw ty)))))
    (flag_not_first line (spelling word.Nuw) (spelling word.Nsw) g.nsw (flag (spelling word.Exact) g.exact ∷ flag (spelling word.Disjoint) g.disjoint ∷ blank ∷ type_part tz ∷ qs) nsw_no_nuw (flag_not_first line (spelling word.Nuw) (spelling word.Exact) g.exact (flag (spelling word.Disjoint) g.disjoint ∷ blank ∷ type_part tz ∷ qs) exact_no_nuw (flag_not_first line (spelling word.Nuw) (spelling word.Disjoint) g.disjoint (blank ∷ type_part tz ∷ qs) disjoint_no_nuw (typed_not line (spelling word.Nuw) tz qs (type_no_nuw tz)))))
    ops.rest in
    let nsws = both_flag line (spelling word.Nsw) f.nsw g.nsw (flag (spelling word.Exact) f.exact ∷ flag (spelling word.Disjoint) f.disjoint ∷ blank ∷ type_part ty ∷ ps) (flag (spelling word.Exact) g.exact ∷ flag (spelling word.Disjoint) g.disjoint ∷ blank ∷ type_part tz ∷ qs)
    (flag_not_first line (spelling word.Nsw) (spelling word.Exact) f.exact (flag (spelling word.Disjoint) f.disjoint ∷ blank ∷ type_part ty ∷ ps) exact_no_nsw (flag_not_first line (spelling word.Nsw) (spelling word.Disjoint) f.disjoint (blank ∷ type_part ty ∷ ps) disjoint_no_nsw (typed_not line (spelling word.Nsw) ty ps (type_no_nsw ty))))
    (flag_not_first line (spelling word.Nsw) (spelling word.Exact) g.exact (flag (spelling word.Disjoint) g.disjoint ∷ blank ∷ type_part tz ∷ qs) exact_no_nsw (flag_not_first line (spelling word.Nsw) (spelling word.Disjoint) g.disjoint (blank ∷ type_part tz ∷ qs) disjoint_no_nsw (typed_not line (spelling word.Nsw) tz qs (type_no_nsw tz))))
    nuws.rest in
    let exacts = both_flag line (spelling word.Exact) f.exact g.exact (flag (spelling word.Disjoint) f.disjoint ∷ blank ∷ type_part ty ∷ ps) (flag (spelling word.Disjoint) g.disjoint ∷ blank ∷ type_part tz ∷ qs)
    (flag_not_first line (spelling word.Exact) (spelling word.Disjoint) f.disjoint (blank ∷ type_part ty ∷ ps) disjoint_no_exact (typed_not line (spelling word.Exact) ty ps (type_no_exact ty)))
    (flag_not_first line (spelling word.Exact) (spelling word.Disjoint) g.disjoint (blank ∷ type_part tz ∷ qs) disjoint_no_exact (typed_not line (spelling word.Exact) tz qs (type_no_exact tz)))
    nsws.rest in
    let disjoints = both_flag line (spelling word.Disjoint) f.disjoint g.disjoint (blank ∷ type_part ty ∷ ps) (blank ∷ type_part tz ∷ qs)
    (typed_not line (spelling word.Disjoint) ty ps (type_no_disjoint ty))
    (typed_not line (spelling word.Disjoint) tz qs (type_no_disjoint tz))
    exacts.rest in
    let op_same : op ≡ or = op_one op or ops.same in
    let flags_same : op_flags op f.nsw f.nuw f.exact f.disjoint ≡ op_flags or g.nsw g.nuw g.exact g.disjoint =
    ap (λ o. op_flags o f.nsw f.nuw f.exact f.disjoint) op_same ∙ ap (λ b. op_flags or b f.nuw f.exact f.disjoint) nsws.same ∙ ap (λ b. op_flags or g.nsw b f.exact f.disjoint) nuws.same
    ∙ ap (λ b. op_flags or g.nsw g.nuw b f.disjoint) exacts.same ∙ ap (λ b. op_flags or g.nsw g.nuw g.exact b) disjoints.same in
    record { op_same = op_same; flags_same = f_is ∙ op_flags_are op f ∙ flags_same ∙ sym (op_flags_are or g) ∙ sym g_is; rest = both_blank line (type_part ty ∷ ps) (type_part tz ∷ qs) disjoints.rest }

cast_flags : CastOp → Bool → Bool → Bool → Flags
cast_flags op nsw nuw nneg = flags_of_cast op (record { nsw = nsw; nuw = nuw; exact = false; disjoint = false; nneg = nneg; samesign = false })

cast_flags_are : (op : CastOp) (f : Flags) → flags_of_cast op f ≡ cast_flags op f.nsw f.nuw f.nneg
unfolding cast_flags
cast_flags_are Zext f = refl
cast_flags_are Sext f = refl
cast_flags_are Trunc f = refl

pub record SameCast (op or : CastOp) (f g : Flags) (line : List ℕ) (ps qs : List Part) : Type 0 where
  pub op_same : op ≡ or
  pub flags_same : f ≡ g
  pub rest : Both line ps qs

pub both_cast : (line : List ℕ) (op or : CastOp) (f g : Flags) (ty tz : Ty) (ps qs : List Part) → f ≡ flags_of_cast op f → g ≡ flags_of_cast or g →
    Both line (cast_parts op f ++ type_part ty ∷ ps) (cast_parts or g ++ type_part tz ∷ qs) → SameCast op or f g line (type_part ty ∷ ps) (type_part tz ∷ qs)
both_cast line op or f g ty tz ps qs f_is g_is h =
    let ops = both_token line (cast_word op) (cast_word or) (flag (spelling word.Nneg) f.nneg ∷ flag (spelling word.Nuw) f.nuw ∷ flag (spelling word.Nsw) f.nsw ∷ blank ∷ type_part ty ∷ ps) (flag (spelling word.Nneg) g.nneg ∷ flag (spelling word.Nuw) g.nuw ∷ flag (spelling word.Nsw) g.nsw ∷ blank ∷ type_part tz ∷ qs) h in
    let nnegs = both_flag line (spelling word.Nneg) f.nneg g.nneg (flag (spelling word.Nuw) f.nuw ∷ flag (spelling word.Nsw) f.nsw ∷ blank ∷ type_part ty ∷ ps) (flag (spelling word.Nuw) g.nuw ∷ flag (spelling word.Nsw) g.nsw ∷ blank ∷ type_part tz ∷ qs)
    (flag_not_first line (spelling word.Nneg) (spelling word.Nuw) f.nuw (flag (spelling word.Nsw) f.nsw ∷ blank ∷ type_part ty ∷ ps) nuw_no_nneg (flag_not_first line (spelling word.Nneg) (spelling word.Nsw) f.nsw (blank ∷ type_part ty ∷ ps) nsw_no_nneg (typed_not line (spelling word.Nneg) ty ps (type_no_nneg ty))))
    (flag_not_first line (spelling word.Nneg) (spelling word.Nuw) g.nuw (flag (spelling word.Nsw) g.nsw ∷ blank ∷ type_part tz ∷ qs) nuw_no_nneg (flag_not_first line (spelling word.Nneg) (spelling word.Nsw) g.nsw (blank ∷ type_part tz ∷ qs) nsw_no_nneg (typed_not line (spelling word.Nneg) tz qs (type_no_nneg tz))))
    ops.rest in
    let nuws = both_flag line (spelling word.Nuw) f.nuw g.nuw (flag (spelling word.Nsw) f.nsw ∷ blank ∷ type_part ty ∷ ps) (flag (spelling word.Nsw) g.nsw ∷ blank ∷ type_part tz ∷ qs)
    (flag_not_first line (spelling word.Nuw) (spelling word.Nsw) f.nsw (blank ∷ type_part ty ∷ ps) nsw_no_nuw (typed_not line (spelling word.Nuw) ty ps (type_no_nuw ty)))
    (flag_not_first line (spelling word.Nuw) (spelling word.Nsw) g.nsw (blank ∷ type_part tz ∷ qs) nsw_no_nuw (typed_not line (spelling word.Nuw) tz qs (type_no_nuw tz)))
    nnegs.rest in
    let nsws = both_flag line (spelling word.Nsw) f.nsw g.nsw (blank ∷ type_part ty ∷ ps) (blank ∷ type_part tz ∷ qs)
    (typed_not line (spelling word.Nsw) ty ps (type_no_nsw ty))
    (typed_not line (spelling word.Nsw) tz qs (type_no_nsw tz))
    nuws.rest in
    let op_same : op ≡ or = cast_one op or ops.same in
    let flags_same : cast_flags op f.nsw f.nuw f.nneg ≡ cast_flags or g.nsw g.nuw g.nneg =
    ap (λ o. cast_flags o f.nsw f.nuw f.nneg) op_same ∙ ap (λ b. cast_flags or b f.nuw f.nneg) nsws.same ∙ ap (λ b. cast_flags or g.nsw b f.nneg) nuws.same ∙ ap (λ b. cast_flags or g.nsw g.nuw b) nnegs.same in
    record { op_same = op_same; flags_same = f_is ∙ cast_flags_are op f ∙ flags_same ∙ sym (cast_flags_are or g) ∙ sym g_is; rest = both_blank line (type_part ty ∷ ps) (type_part tz ∷ qs) nsws.rest }
