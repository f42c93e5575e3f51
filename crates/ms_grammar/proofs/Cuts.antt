-- Attributes end at one place only where what follows them could not go on.
use Rattle.std.proofs.Common.{◌≡◌, ℕ, Bool, true, List, [], ◌∷◌, ◌++◌, Option, Some, None, refl}
use Rattle.ms_grammar.specs.Scan.{Mode, may_end, step, walk, Stops}

pub walk-append : (metadata : Bool) (o : Option Mode) (ss ts : List (List ℕ)) → walk metadata o (ss ++ ts) ≡ walk metadata (walk metadata o ss) ts
walk-append metadata None ss ts = refl
walk-append metadata (Some mode) [] ts = refl
walk-append metadata (Some mode) (s ∷ ss) ts = walk-append metadata (step metadata mode s) ss ts

-- what cannot go on, behind a walk that may end there
stuck : (metadata : Bool) (mode last : Mode) (t : List ℕ) (ts vs : List (List ℕ)) → step metadata mode t ≡ None → walk metadata (step metadata mode t) vs ≡ Some last → ⊥
stuck metadata mode last t ts vs none walks =
    let left : walk metadata None vs ≡ Some last = rw none at walks in
    cc

-- two ways to cut one list into attributes and a rest that cannot go on are one way
pub one_cut : (metadata : Bool) (o : Option Mode) (us vs ps qs : List (List ℕ)) (first second : Mode) → us ++ ps ≡ vs ++ qs →
    walk metadata o us ≡ Some first → walk metadata o vs ≡ Some second → may_end first ≡ true → may_end second ≡ true →
    Stops metadata ps → Stops metadata qs → us ≡ vs
one_cut metadata None us vs ps qs first second e a b a_ends b_ends ps_stop qs_stop = absurd (cc)
one_cut metadata (Some mode) [] [] ps qs first second e a b a_ends b_ends ps_stop qs_stop = refl
one_cut metadata (Some mode) [] (v ∷ vs) [] qs first second e a b a_ends b_ends ps_stop qs_stop = absurd (cc)
one_cut metadata (Some mode) [] (v ∷ vs) (p ∷ ps) qs first second e a b a_ends b_ends ps_stop qs_stop =
    let same_mode : mode ≡ first = cc in
    let same_token : p ≡ v = cc in
    let none : step metadata mode p ≡ None = ps_stop mode (rw same_mode a_ends) in
    let none_v : step metadata mode v ≡ None = rw same_token at none in
    absurd (stuck metadata mode second v vs vs none_v b)
one_cut metadata (Some mode) (u ∷ us) [] ps [] first second e a b a_ends b_ends ps_stop qs_stop = absurd (cc)
one_cut metadata (Some mode) (u ∷ us) [] ps (q ∷ qs) first second e a b a_ends b_ends ps_stop qs_stop =
    let same_mode : mode ≡ second = cc in
    let same_token : q ≡ u = cc in
    let none : step metadata mode q ≡ None = qs_stop mode (rw same_mode b_ends) in
    let none_u : step metadata mode u ≡ None = rw same_token at none in
    absurd (stuck metadata mode first u us us none_u a)
one_cut metadata (Some mode) (u ∷ us) (v ∷ vs) ps qs first second e a b a_ends b_ends ps_stop qs_stop =
    let same_token : u ≡ v = cc in
    let left : us ++ ps ≡ vs ++ qs = cc in
    let b_u : walk metadata (step metadata mode u) vs ≡ Some second = rw same_token b in
    let rest : us ≡ vs = one_cut metadata (step metadata mode u) us vs ps qs first second left a b_u a_ends b_ends ps_stop qs_stop in
    cc
