use Rattle.std.proofs.Common.{◌≡◌, ◌≢◌, ◌<◌, ◌≤◌, ◌⊎◌, inl, inr, ℕ, suc, zero, ◌+◌, List, [], ◌∷◌, ◌++◌, length, get_or, set, map, Option, Some, None, refl, ap, sym, ◌∙◌, arith, length-append, length-set, get_or-set_same, get_or-set_other}
use Rattle.std.specs.List.{slice_get}
use Rattle.std.proofs.Math.ListN.{get_or-append, replicate, length-replicate}
use Rattle.std.proofs.lemmas.List.{get_or_push, ext_get_or, get_or-map, get_or_past, get_or_default, length-map, map-set}
use Rattle.std.proofs.Math.Seq.{map-set_same}
use Rattle.std.specs.Prelude.{IfSome}
use Rattle.std.proofs.lemmas.Bool.Decides.{eqb_tells, leb_tells}
use Rattle.ms_form.specs.declared.chains.Link.{Link}
use Rattle.ms_form.specs.Lists.{IsIn, NotIn, EachOnce}
use Rattle.ms_form.specs.Chains.{without, behind, AreExact, no_link, home_of, Chained, follow, numbers_from, IsChains, after_set, before_set, led_past, first_left}
use Rattle.ms_form.proofs.ListLemmas.{in_and_not, first_out, first_in, without-out, without-other, without-first, not_in-without, once-without, in-without, AllUnder, bounded, get_or-push_default, get_or-replicate_default}

-- A neighbour, if any, is no member of the list.
abbrev pub IsOut : Option ℕ → List ℕ → Type 0
IsOut None xs = Unit {0}
IsOut (Some n) xs = NotIn n xs

out_rest : (at : Option ℕ) (n : ℕ) (rest : List ℕ) → IsOut at (n ∷ rest) → IsOut at rest
out_rest None n rest out = tt
out_rest (Some m) n rest out = out.1

-- A link changes no list that its number is not in.
pub chained-set : (links : List Link) (list : ℕ) (before : Option ℕ) (xs : List ℕ) (q : ℕ) (v : Link) → Chained links list before xs → NotIn q xs → Chained (set links q v) list before xs
chained-set links list before [] q v h out = tt
chained-set links list before (n ∷ rest) q v h out =
    let ne : n ≢ q = out.0 in
    (simp length-set h.0, rw get_or-set_other h.1, chained-set links list (Some n) rest q v h.2 out.1)

pub chained-set_before : (links : List Link) (list : ℕ) (before : Option ℕ) (xs : List ℕ) (at v : Option ℕ) → Chained links list before xs → IsOut at xs → Chained (before_set links at v) list before xs
chained-set_before links list before xs None v h out = h
chained-set_before links list before xs (Some q) v h out = chained-set links list before xs q _ h out

pub chained-set_after : (links : List Link) (list : ℕ) (before : Option ℕ) (xs : List ℕ) (at v : Option ℕ) → Chained links list before xs → IsOut at xs → Chained (after_set links at v) list before xs
chained-set_after links list before xs None v h out = h
chained-set_after links list before xs (Some q) v h out = chained-set links list before xs q _ h out

-- the first number is led back to another one
pub chained-first : (links : List Link) (list : ℕ) (old new : Option ℕ) (xs : List ℕ) → Chained links list old xs → EachOnce xs → Chained (before_set links (slice_get xs 0) new) list new xs
chained-first links list old new [] h once = tt
chained-first links list old new (n ∷ rest) h once =
    let lt : n < length links = h.0 in (
      simp length-set lt,
      get_or-set_same links n _ no_link lt ∙ ap (λ (l : Link). record l { before = new }) h.1,
      chained-set links list (Some n) rest n _ h.2 once.0,
    )

pub after_in : (links : List Link) (list : ℕ) (before : Option ℕ) (xs : List ℕ) (n q : ℕ) → Chained links list before xs → IsIn n xs → (get_or links n no_link).after ≡ Some q → IsIn q xs
after_in links list before [] n q h i w = i
after_in links list before (m ∷ rest) n q h (inl e) w =
    inr (first_in q rest (sym (ap (λ (l : Link). l.after) h.1) ∙ ap (λ k. (get_or links k no_link).after) e ∙ w))
after_in links list before (m ∷ rest) n q h (inr i) w = inr (after_in links list (Some m) rest n q h.2 i w)

pub before_in : (links : List Link) (list : ℕ) (before : Option ℕ) (xs : List ℕ) (n q : ℕ) → Chained links list before xs → IsIn n xs → (get_or links n no_link).before ≡ Some q → (before ≡ Some q) ⊎ IsIn q xs
before_in links list before [] n q h i w = inr i
before_in links list before (m ∷ rest) n q h (inl e) w =
    inl (sym (ap (λ (l : Link). l.before) h.1) ∙ ap (λ k. (get_or links k no_link).before) e ∙ w)
before_in links list before (m ∷ rest) n q h (inr i) w = elim (before_in links list (Some m) rest n q h.2 i w) [
  | inl e ↦ inr (inl (cc))
  | inr j ↦ inr (inr j)
]

-- behind another number, a number has one before it
before_some : (links : List Link) (list k : ℕ) (xs : List ℕ) (n : ℕ) → Chained links list (Some k) xs → IsIn n xs → (get_or links n no_link).before ≢ None
before_some links list k [] n h i w = i
before_some links list k (m ∷ rest) n h (inl e) w =
    let is : Some k ≡ None = sym (ap (λ (l : Link). l.before) h.1) ∙ ap (λ j. (get_or links j no_link).before) e ∙ w in
    cc
before_some links list k (m ∷ rest) n h (inr i) w = before_some links list m rest n h.2 i w

pub home_in : (links : List Link) (list : ℕ) (before : Option ℕ) (xs : List ℕ) (n : ℕ) → Chained links list before xs → IsIn n xs → (get_or links n no_link).home ≡ Some list
home_in links list before [] n h i = absurd i
home_in links list before (m ∷ rest) n h (inl e) = ap (λ k. (get_or links k no_link).home) (sym e) ∙ ap (λ (l : Link). l.home) h.1
home_in links list before (m ∷ rest) n h (inr i) = home_in links list (Some m) rest n h.2 i

-- a number whose home is no list's is not in it
pub home_apart : (links : List Link) (list : ℕ) (before : Option ℕ) (xs : List ℕ) (n : ℕ) → Chained links list before xs → (get_or links n no_link).home ≢ Some list → NotIn n xs
home_apart links list before [] n h ne = tt
home_apart links list before (m ∷ rest) n h ne =
    (λ e. ne (ap (λ k. (get_or links k no_link).home) (sym e) ∙ ap (λ (l : Link). l.home) h.1), home_apart links list (Some m) rest n h.2 ne)

pub length-before_set : (links : List Link) (at v : Option ℕ) → length (before_set links at v) ≡ length links
length-before_set links None v = refl
length-before_set links (Some n) v = length-set links n _

pub length-after_set : (links : List Link) (at v : Option ℕ) → length (after_set links at v) ≡ length links
length-after_set links None v = refl
length-after_set links (Some n) v = length-set links n _

get_or-before_set : (links : List Link) (at v : Option ℕ) (m : ℕ) → at ≢ Some m → get_or (before_set links at v) m no_link ≡ get_or links m no_link
get_or-before_set links None v m ne = refl
get_or-before_set links (Some n) v m ne = get_or-set_other links n m _ no_link (λ w. ne (ap Some (sym w)))

get_or-after_set : (links : List Link) (at v : Option ℕ) (m : ℕ) → at ≢ Some m → get_or (after_set links at v) m no_link ≡ get_or links m no_link
get_or-after_set links None v m ne = refl
get_or-after_set links (Some n) v m ne = get_or-set_other links n m _ no_link (λ w. ne (ap Some (sym w)))

-- The link of a number before the one that is taken out, and of each number before that.
past_link : (links : List Link) (list : ℕ) (before : Option ℕ) (m : ℕ) (rest : List ℕ) (n : ℕ) (b f : Option ℕ) → Chained links list before (m ∷ rest) → EachOnce (m ∷ rest) → IsIn n rest
    → (get_or links n no_link).before ≡ b → (get_or links n no_link).after ≡ f
    → get_or (led_past links b f) m no_link ≡ record { home = Some list; before = before; after = slice_get (without n rest) 0 }
past_link links list before m [] n b f h once i eb ef = absurd i
past_link links list before m (k ∷ rest) n b f h once (inl e) eb ef =
    let b_is : b ≡ Some m = sym eb ∙ ap (λ j. (get_or links j no_link).before) (sym e) ∙ ap (λ (l : Link). l.before) h.2.1 in
    let f_is : f ≡ slice_get rest 0 = sym ef ∙ ap (λ j. (get_or links j no_link).after) (sym e) ∙ ap (λ (l : Link). l.after) h.2.1 in
    let out : slice_get rest 0 ≢ Some m = first_out m rest once.0.1 in
    let lt : m < length links = h.0 in
    rw (without-first n k rest e once.1.0, b_is, f_is)
    (get_or-before_set (after_set links (Some m) (slice_get rest 0)) (slice_get rest 0) (Some m) m out
    ∙ get_or-set_same links m _ no_link lt ∙ ap (λ (l : Link). record l { after = slice_get rest 0 }) h.1)
past_link links list before m (k ∷ rest) n b f h once (inr i) eb ef =
    let k_out : k ≢ m = once.0.0 in
    let ne : k ≢ n = λ e. in_and_not n rest i (let out : NotIn k rest = once.1.0 in rw (← e) out) in
    let b_out : b ≢ Some m = λ w. elim (before_in links list (Some k) rest n m h.2.2 i (eb ∙ w)) [
      | inl e ↦ k_out (cc)
      | inr j ↦ in_and_not m rest j once.0.1
    ] in
    let f_out : f ≢ Some m = λ w. in_and_not m rest (after_in links list (Some k) rest n m h.2.2 i (ef ∙ w)) once.0.1 in
    rw (without-other n k rest ne)
    (get_or-before_set (after_set links b f) f b m f_out ∙ get_or-after_set links b f m b_out ∙ h.1)

pub chained-without : (links : List Link) (list : ℕ) (before : Option ℕ) (xs : List ℕ) (n : ℕ) (b f : Option ℕ) → Chained links list before xs → EachOnce xs → IsOut before xs → IsIn n xs
    → (get_or links n no_link).before ≡ b → (get_or links n no_link).after ≡ f → Chained (led_past links b f) list before (without n xs)
chained-without links list before [] n b f h once out i eb ef = tt
chained-without links list before (m ∷ rest) n b f h once out (inl e) eb ef =
    let b_is : b ≡ before = sym eb ∙ ap (λ j. (get_or links j no_link).before) (sym e) ∙ ap (λ (l : Link). l.before) h.1 in
    let f_is : f ≡ slice_get rest 0 = sym ef ∙ ap (λ j. (get_or links j no_link).after) (sym e) ∙ ap (λ (l : Link). l.after) h.1 in
    rw (without-first n m rest e once.0, b_is, f_is)
    (chained-first (after_set links before (slice_get rest 0)) list (Some m) before rest
    (chained-set_after links list (Some m) rest before (slice_get rest 0) h.2 (out_rest before m rest out)) once.1)
chained-without links list before (m ∷ rest) n b f h once out (inr i) eb ef =
    let ne : m ≢ n = λ e. in_and_not n rest i (let out' : NotIn m rest = once.0 in rw (← e) out') in
    rw (without-other n m rest ne) (
      rw (length-before_set, length-after_set) h.0,
      past_link links list before m rest n b f h once i eb ef,
      chained-without links list (Some m) rest n b f h.2 once.1 once.0 i eb ef,
    )

pub first-without : (links : List Link) (list : ℕ) (xs : List ℕ) (n : ℕ) (b f : Option ℕ) → Chained links list None xs → EachOnce xs → IsIn n xs
    → (get_or links n no_link).before ≡ b → (get_or links n no_link).after ≡ f → first_left b f (slice_get xs 0) ≡ slice_get (without n xs) 0
first-without links list [] n b f h once i eb ef = absurd i
first-without links list (m ∷ rest) n b f h once (inl e) eb ef =
    let b_is : b ≡ None = sym eb ∙ ap (λ j. (get_or links j no_link).before) (sym e) ∙ ap (λ (l : Link). l.before) h.1 in
    let f_is : f ≡ slice_get rest 0 = sym ef ∙ ap (λ j. (get_or links j no_link).after) (sym e) ∙ ap (λ (l : Link). l.after) h.1 in
    rw (without-first n m rest e once.0, b_is, f_is) refl
first-without links list (m ∷ rest) n None f h once (inr i) eb ef = absurd (before_some links list m rest n h.2 i eb)
first-without links list (m ∷ rest) n (Some p) f h once (inr i) eb ef =
    let ne : m ≢ n = λ e. in_and_not n rest i (let out : NotIn m rest = once.0 in rw (← e) out) in
    rw (without-other n m rest ne) refl

-- what the links lead to from the first of a list
follow-chained : (links : List Link) (list : ℕ) (before : Option ℕ) (xs : List ℕ) (turns : ℕ) → Chained links list before xs → length xs ≤ turns → follow links turns (slice_get xs 0) ≡ xs
follow-chained links list before [] zero h le = refl
follow-chained links list before [] (suc turns) h le = refl
follow-chained links list before (n ∷ rest) zero h le = absurd (omega arith)
follow-chained links list before (n ∷ rest) (suc turns) h le =
    let next : (get_or links n no_link).after ≡ slice_get rest 0 = ap (λ (l : Link). l.after) h.1 in
    ap (λ r. n ∷ r) (ap (follow links turns) next ∙ follow-chained links list (Some n) rest turns h.2 (omega arith))

chained-under : (links : List Link) (list : ℕ) (before : Option ℕ) (xs : List ℕ) → Chained links list before xs → AllUnder (length links) xs
chained-under links list before [] h = tt
chained-under links list before (n ∷ rest) h = (h.0, chained-under links list (Some n) rest h.2)

-- The lists that the heads and links lead to are those that they keep.
pub lists_kept : (links : List Link) (heads : List (Option ℕ)) (lists : List (List ℕ)) → IsChains links heads lists → map (numbers_from links) heads ≡ lists
lists_kept links heads lists o =
    ext_get_or [] _ _ (simp length-map (sym o.lengths)) (λ a lt.
    let lt' : a < length heads = simp length-map at lt in
    let kept = o.each a lt' in
    let le : length (get_or lists a []) ≤ length links = bounded (length links) (get_or lists a []) kept.once (chained-under links a None (get_or lists a []) kept.chained) in
    get_or-map (numbers_from links) heads a None [] lt' ∙ ap (numbers_from links) kept.first ∙ follow-chained links a None (get_or lists a []) (length links) kept.chained le)

-- a number with a home stands in a list that is there
pub home_there : (links : List Link) (heads : List (Option ℕ)) (lists : List (List ℕ)) (n list : ℕ) → IsChains links heads lists → (get_or links n no_link).home ≡ Some list → list < length heads
home_there links heads lists n list o e = elim (leb_tells (length heads) list) [
  | inl past ↦
      let le : length lists ≤ list = omega (arith, past.1, o.lengths) in
      absurd (rw (get_or_past lists list [] le) at (o.exact n list e))
  | inr within ↦ within.1
]

home-before_set : (links : List Link) (at v : Option ℕ) (m : ℕ) → (get_or (before_set links at v) m no_link).home ≡ (get_or links m no_link).home
home-before_set links None v m = refl
home-before_set links (Some n) v m = elim (eqb_tells m n) [
  | inl same ↦ elim (leb_tells (length links) n) [
    | inl past ↦
        let le : length links ≤ m = omega (arith, past.1, same.1) in
        let le' : length (set links n (record (get_or links n no_link) { before = v })) ≤ m = simp length-set le in
        rw (get_or_past links m no_link le, get_or_past (set links n (record (get_or links n no_link) { before = v })) m no_link le') refl
    | inr within ↦ rw same.1 (ap (λ (l : Link). l.home) (get_or-set_same links n (record (get_or links n no_link) { before = v }) no_link within.1))
  ]
  | inr other ↦ ap (λ (l : Link). l.home) (get_or-set_other links n m (record (get_or links n no_link) { before = v }) no_link other.1)
]

home-after_set : (links : List Link) (at v : Option ℕ) (m : ℕ) → (get_or (after_set links at v) m no_link).home ≡ (get_or links m no_link).home
home-after_set links None v m = refl
home-after_set links (Some n) v m = elim (eqb_tells m n) [
  | inl same ↦ elim (leb_tells (length links) n) [
    | inl past ↦
        let le : length links ≤ m = omega (arith, past.1, same.1) in
        let le' : length (set links n (record (get_or links n no_link) { after = v })) ≤ m = simp length-set le in
        rw (get_or_past links m no_link le, get_or_past (set links n (record (get_or links n no_link) { after = v })) m no_link le') refl
    | inr within ↦ rw same.1 (ap (λ (l : Link). l.home) (get_or-set_same links n (record (get_or links n no_link) { after = v }) no_link within.1))
  ]
  | inr other ↦ ap (λ (l : Link). l.home) (get_or-set_other links n m (record (get_or links n no_link) { after = v }) no_link other.1)
]

-- the neighbours of a number of one list are in no other
before_out : (links : List Link) (list other : ℕ) (before : Option ℕ) (xs ys : List ℕ) (n : ℕ) (b : Option ℕ) → Chained links list None xs → Chained links other before ys → list ≢ other → IsIn n xs
    → (get_or links n no_link).before ≡ b → IsOut b ys
before_out links list other before xs ys n None h k ne i eb = tt
before_out links list other before xs ys n (Some p) h k ne i eb =
    home_apart links other before ys p k (λ w. elim (before_in links list None xs n p h i eb) [
      | inl e ↦ cc
      | inr j ↦ let both : Some list ≡ Some other = sym (home_in links list None xs p h j) ∙ w in ne (cc)
    ])

after_out : (links : List Link) (list other : ℕ) (before : Option ℕ) (xs ys : List ℕ) (n : ℕ) (f : Option ℕ) → Chained links list None xs → Chained links other before ys → list ≢ other → IsIn n xs
    → (get_or links n no_link).after ≡ f → IsOut f ys
after_out links list other before xs ys n None h k ne i ef = tt
after_out links list other before xs ys n (Some q) h k ne i ef =
    home_apart links other before ys q k (λ w.
    let both : Some list ≡ Some other = sym (home_in links list None xs q h (after_in links list None xs n q h i ef)) ∙ w in
    ne (cc))

-- A number is taken out of its list.
pub chains-take : (links : List Link) (heads : List (Option ℕ)) (lists : List (List ℕ)) (n list : ℕ) (b f : Option ℕ) → IsChains links heads lists
    → (get_or links n no_link).home ≡ Some list → (get_or links n no_link).before ≡ b → (get_or links n no_link).after ≡ f
    → IsChains (set (led_past links b f) n no_link) (set heads list (first_left b f (get_or heads list None))) (map (without n) lists)
chains-take links heads lists n list b f o eh eb ef =
    let there : list < length heads = home_there links heads lists n list o eh in
    let xs : List ℕ = get_or lists list [] in
    let kept = o.each list there in
    let listed : IsIn n xs = o.exact n list eh in
    let lengths : length lists ≡ length heads = o.lengths in
    record {
      lengths = simp (length-map, length-set) o.lengths;
      each = λ c lt.
          let lt' : c < length heads = simp length-set at lt in
          let lt'' : c < length lists = omega arith in
          rw (get_or-map (without n) lists c [] [] lt'') (elim (eqb_tells c list) [
            | inl same ↦ rw (same.1, get_or-set_same heads list (first_left b f (get_or heads list None)) None there) (record {
              first = ap (first_left b f) kept.first ∙ first-without links list xs n b f kept.chained kept.once listed eb ef;
              chained = chained-set (led_past links b f) list None (without n xs) n no_link (chained-without links list None xs n b f kept.chained kept.once tt listed eb ef) (not_in-without n xs);
              once = once-without n xs kept.once;
            })
            | inr other ↦
                let old = o.each c lt' in
                let ys : List ℕ = get_or lists c [] in
                let ne : list ≢ c = λ w. other.1 (sym w) in
                let out : NotIn n ys = home_apart links c None ys n old.chained (λ w. let both : Some list ≡ Some c = sym eh ∙ w in ne (cc)) in
                rw (get_or-set_other heads list c (first_left b f (get_or heads list None)) None other.1, without-out n ys out) (record {
                  first = old.first;
                  chained = chained-set (led_past links b f) c None ys n no_link (chained-set_before (after_set links b f) c None ys f b
                      (chained-set_after links c None ys b f old.chained (before_out links list c None xs ys n b kept.chained old.chained ne listed eb))
                      (after_out links list c None xs ys n f kept.chained old.chained ne listed ef)) out;
                  once = old.once;
                })
          ]);
      exact = λ m c e. elim (eqb_tells m n) [
        | inl same ↦ absurd (taken_home (led_past links b f) m n c same.1 e)
        | inr other ↦
            let old_home : (get_or links m no_link).home ≡ Some c = sym (ap (λ (l : Link). l.home) (get_or-set_other (led_past links b f) n m no_link no_link other.1) ∙ home-before_set (after_set links b f) f b m ∙ home-after_set links b f m) ∙ e in
            let lt : c < length heads = home_there links heads lists m c o old_home in
            let lt' : c < length lists = omega arith in
            rw (get_or-map (without n) lists c [] [] lt') (in-without n m (get_or lists c []) (o.exact m c old_home) other.1)
      ];
    }
  where
    taken_home : (links : List Link) (m n c : ℕ) → m ≡ n → (get_or (set links n no_link) m no_link).home ≡ Some c → ⊥
    taken_home links m n c same e = elim (leb_tells (length links) n) [
      | inl past ↦
          let le : length (set links n no_link) ≤ m = simp length-set (omega (arith, past.1)) in
          let none : None ≡ Some c = rw (get_or_past (set links n no_link) m no_link le) at e in
          cc
      | inr within ↦
          let none : None ≡ Some c = rw (same, get_or-set_same links n no_link no_link within.1) at e in
          cc
    ]

-- A number that is in no list is put to the front of one.
pub chains-put : (links : List Link) (heads : List (Option ℕ)) (lists : List (List ℕ)) (n list : ℕ) (x : Option ℕ) → IsChains links heads lists
    → n < length links → list < length heads → (get_or links n no_link).home ≡ None → x ≡ get_or heads list None
    → IsChains (before_set (set links n (record { home = Some list; before = None; after = x })) x (Some n)) (set heads list (Some n)) (set lists list (n ∷ get_or lists list []))
chains-put links heads lists n list x o lt there free x_is =
    let xs : List ℕ = get_or lists list [] in
    let kept = o.each list there in
    let lengths : length lists ≡ length heads = o.lengths in
    let in' : list < length lists = omega arith in
    let link : Link = record { home = Some list; before = None; after = x } in
    let first : x ≡ slice_get xs 0 = x_is ∙ kept.first in
    let out : (c : ℕ) (lt : c < length heads) → NotIn n (get_or lists c []) = λ c lt. home_apart links c None (get_or lists c []) n (o.each c lt).chained (λ w. let none : None ≡ Some c = sym free ∙ w in cc) in
    record {
      lengths = simp length-set o.lengths;
      each = λ c lt_set.
          let lt' : c < length heads = simp length-set at lt_set in
          elim (eqb_tells c list) [
            | inl same ↦ rw (same.1, get_or-set_same heads list (Some n) None there, get_or-set_same lists list (n ∷ xs) [] in', first) (record {
              first = refl;
              chained = chained_put links list xs n kept.chained kept.once (out list there) lt;
              once = (out list there, kept.once);
            })
            | inr other ↦
                let old = o.each c lt' in
                let ys : List ℕ = get_or lists c [] in
                rw (get_or-set_other heads list c (Some n) None other.1, get_or-set_other lists list c (n ∷ xs) [] other.1) (record {
                  first = old.first;
                  chained = chained-set_before (set links n link) c None ys x (Some n) (chained-set links c None ys n link old.chained (out c lt')) (first_apart links list c xs ys x kept.chained old.chained (λ w. other.1 (sym w)) first);
                  once = old.once;
                })
          ];
      exact = λ m c e. elim (eqb_tells m n) [
        | inl same ↦
            let both : Some list ≡ Some c = sym (ap (λ (l : Link). l.home) (get_or-set_same links n link no_link lt)) ∙ ap (λ k. (get_or (set links n link) k no_link).home) (sym same.1) ∙ sym (home-before_set (set links n link) x (Some n) m) ∙ e in
            let c_is : c ≡ list = cc in
            rw (c_is, get_or-set_same lists list (n ∷ xs) [] in') (inl (sym same.1))
        | inr other ↦
            let old_home : (get_or links m no_link).home ≡ Some c = sym (home-before_set (set links n link) x (Some n) m ∙ ap (λ (l : Link). l.home) (get_or-set_other links n m link no_link other.1)) ∙ e in
            elim (eqb_tells c list) [
              | inl same ↦ rw (same.1, get_or-set_same lists list (n ∷ xs) [] in') (inr (rw same.1 at (o.exact m c old_home)))
              | inr apart ↦ rw (get_or-set_other lists list c (n ∷ xs) [] apart.1) (o.exact m c old_home)
            ]
      ];
    }
  where
    chained_put : (links : List Link) (list : ℕ) (xs : List ℕ) (n : ℕ) → Chained links list None xs → EachOnce xs → NotIn n xs → n < length links
        → Chained (before_set (set links n (record { home = Some list; before = None; after = slice_get xs 0 })) (slice_get xs 0) (Some n)) list None (n ∷ xs)
    chained_put links list xs n h once out lt =
        let link : Link = record { home = Some list; before = None; after = slice_get xs 0 } in (
          rw length-before_set (simp length-set lt),
          get_or-before_set (set links n link) (slice_get xs 0) (Some n) n (first_out n xs out) ∙ get_or-set_same links n link no_link lt,
          chained-first (set links n link) list None (Some n) xs (chained-set links list None xs n link h out) once,
        )

    first_apart : (links : List Link) (list c : ℕ) (xs ys : List ℕ) (x : Option ℕ) → Chained links list None xs → Chained links c None ys → list ≢ c → x ≡ slice_get xs 0 → IsOut x ys
    first_apart links list c xs ys None h k ne e = tt
    first_apart links list c xs ys (Some q) h k ne e =
        home_apart links c None ys q k (λ w. let both : Some list ≡ Some c = sym (home_in links list None xs q h (first_in q xs (sym e))) ∙ w in ne (cc))

chained-push : (links : List Link) (list : ℕ) (before : Option ℕ) (xs : List ℕ) (v : Link) → Chained links list before xs → Chained (links ++ v ∷ []) list before xs
chained-push links list before [] v h = tt
chained-push links list before (n ∷ rest) v h =
    let lt : n < length links = h.0 in
    (simp length-append (omega arith), rw get_or-append h.1, chained-push links list (Some n) rest v h.2)

-- One more number, in no list, and one more list, empty.
pub chains-grow : (links : List Link) (heads : List (Option ℕ)) (lists : List (List ℕ)) → IsChains links heads lists → IsChains (links ++ no_link ∷ []) (heads ++ None ∷ []) (lists ++ [] ∷ [])
chains-grow links heads lists o =
    let lengths : length lists ≡ length heads = o.lengths in
    record {
      lengths = simp length-append (omega arith);
      each = λ c lt.
          let lt' : c < length heads + 1 = simp length-append at lt in
          elim (leb_tells (length heads) c) [
            | inl past ↦
                let same : c ≡ length heads = omega (arith, past.1) in
                rw (same, get_or_push heads None None (length heads) refl, get_or_push lists [] [] (length heads) lengths) (record { first = refl; chained = tt; once = tt })
            | inr within ↦
                let old = o.each c within.1 in
                rw (get_or-push_default heads None c, get_or-push_default lists [] c)
                (record { first = old.first; chained = chained-push links c None (get_or lists c []) no_link old.chained; once = old.once })
          ];
      exact = λ n list e.
          let old : (get_or links n no_link).home ≡ Some list = rw (get_or-push_default links no_link n) at e in
          rw (get_or-push_default lists [] list) (o.exact n list old);
    }

pub chains-free : (n m : ℕ) → IsChains (replicate n no_link) (replicate m None) (replicate m [])
chains-free n m = record {
  lengths = simp length-replicate;
  each = λ c lt. rw (get_or-replicate_default {A = Option ℕ} m None c, get_or-replicate_default {A = List ℕ} m [] c) (record { first = refl; chained = tt; once = tt });
  exact = λ k list e. absurd (let none : None ≡ Some list = rw (get_or-replicate_default n no_link k) at e in cc);
}

-- the homes that the links tell
pub homes-before_set : (links : List Link) (at v : Option ℕ) → map home_of (before_set links at v) ≡ map home_of links
homes-before_set links None v = refl
homes-before_set links (Some n) v = map-set_same home_of links n (record (get_or links n no_link) { before = v }) no_link refl

pub homes-after_set : (links : List Link) (at v : Option ℕ) → map home_of (after_set links at v) ≡ map home_of links
homes-after_set links None v = refl
homes-after_set links (Some n) v = map-set_same home_of links n (record (get_or links n no_link) { after = v }) no_link refl

pub get_or-homes : (links : List Link) (n : ℕ) → get_or (map home_of links) n None ≡ (get_or links n no_link).home
get_or-homes [] n = refl
get_or-homes (l ∷ links) zero = refl
get_or-homes (l ∷ links) (suc n) = get_or-homes links n

-- each list holds exactly the numbers whose home it is
pub chains-exact : (links : List Link) (heads : List (Option ℕ)) (lists : List (List ℕ)) → IsChains links heads lists → AreExact (map home_of links) lists
chains-exact links heads lists o list = elim (leb_tells (length heads) list) [
  | inl past ↦
      let lengths : length lists ≡ length heads = o.lengths in
      let none : get_or lists list [] ≡ [] = get_or_past lists list [] (omega (arith, past.1)) in (
        rw none tt,
        λ n. (
          λ i. let bad : ⊥ = rw none at i in absurd bad,
          λ e. o.exact n list (sym (get_or-homes links n) ∙ e),
        ),
      )
  | inr within ↦
      let kept = o.each list within.1 in (
        kept.once,
        λ n. (
          λ i. get_or-homes links n ∙ home_in links list None (get_or lists list []) n kept.chained i,
          λ e. o.exact n list (sym (get_or-homes links n) ∙ e),
        ),
      )
]

behind-chained : (links : List Link) (list : ℕ) (before : Option ℕ) (xs : List ℕ) (n : ℕ) → Chained links list before xs → IsIn n xs → (get_or links n no_link).after ≡ behind n xs
behind-chained links list before [] n h i = absurd i
behind-chained links list before (m ∷ rest) n h i = elim (eqb_tells m n) [
  | inl same ↦ rw same.0 (ap (λ k. (get_or links k no_link).after) (sym same.1) ∙ ap (λ (l : Link). l.after) h.1)
  | inr other ↦ rw other.0 (elim i [
    | inl e ↦ absurd (other.1 e)
    | inr j ↦ behind-chained links list (Some m) rest n h.2 j
  ])
]

-- the number behind another is what its link leads to
pub chains-behind : (links : List Link) (heads : List (Option ℕ)) (lists : List (List ℕ)) (n list : ℕ) → IsChains links heads lists → (get_or links n no_link).home ≡ Some list
    → (get_or links n no_link).after ≡ behind n (get_or lists list [])
chains-behind links heads lists n list o e =
    behind-chained links list None (get_or lists list []) n (o.each list (home_there links heads lists n list o e)).chained (o.exact n list e)

-- the neighbours of a number of a list are numbers
pub neighbours_there : (links : List Link) (heads : List (Option ℕ)) (lists : List (List ℕ)) (n list : ℕ) → IsChains links heads lists → (get_or links n no_link).home ≡ Some list
    → IfSome (get_or links n no_link).before (λ b. b < length links) × IfSome (get_or links n no_link).after (λ f. f < length links)
neighbours_there links heads lists n list o e =
    let h = (o.each list (home_there links heads lists n list o e)).chained in
    let i = o.exact n list e in (
      before_there links list (get_or lists list []) n (get_or links n no_link).before h i refl,
      after_there links list (get_or lists list []) n (get_or links n no_link).after h i refl,
    )
  where
    in_there : (links : List Link) (list : ℕ) (before : Option ℕ) (xs : List ℕ) (n : ℕ) → Chained links list before xs → IsIn n xs → n < length links
    in_there links list before [] n h i = absurd i
    in_there links list before (m ∷ rest) n h (inl e) = rw (← e) h.0
    in_there links list before (m ∷ rest) n h (inr i) = in_there links list (Some m) rest n h.2 i

    before_there : (links : List Link) (list : ℕ) (xs : List ℕ) (n : ℕ) (b : Option ℕ) → Chained links list None xs → IsIn n xs → (get_or links n no_link).before ≡ b → IfSome b (λ k. k < length links)
    before_there links list xs n None h i e = tt
    before_there links list xs n (Some p) h i e = elim (before_in links list None xs n p h i e) [
      | inl w ↦ cc
      | inr j ↦ in_there links list None xs p h j
    ]

    after_there : (links : List Link) (list : ℕ) (xs : List ℕ) (n : ℕ) (f : Option ℕ) → Chained links list None xs → IsIn n xs → (get_or links n no_link).after ≡ f → IfSome f (λ k. k < length links)
    after_there links list xs n None h i e = tt
    after_there links list xs n (Some q) h i e = in_there links list None xs q h (after_in links list None xs n q h i e)

-- what a list begins with is a number
pub first_there : (links : List Link) (heads : List (Option ℕ)) (lists : List (List ℕ)) (list : ℕ) (x : Option ℕ) → IsChains links heads lists → list < length heads → x ≡ get_or heads list None → IfSome x (λ n. n < length links)
first_there links heads lists list None o lt e = tt
first_there links heads lists list (Some n) o lt e = first_of (get_or lists list []) n (o.each list lt).chained (e ∙ (o.each list lt).first)
  where
    first_of : (xs : List ℕ) (n : ℕ) → Chained links list None xs → Some n ≡ slice_get xs 0 → n < length links
    first_of [] n h e = cc
    first_of (m ∷ rest) n h e = let same : m ≡ n = cc in rw (← same) h.0

-- a number without a home is in no list
pub none-without : (links : List Link) (heads : List (Option ℕ)) (lists : List (List ℕ)) (n : ℕ) → IsChains links heads lists → (get_or links n no_link).home ≡ None → map (without n) lists ≡ lists
none-without links heads lists n o e =
    ext_get_or [] _ _ (simp length-map) (λ c lt.
    let lt' : c < length lists = simp length-map at lt in
    let lt'' : c < length heads = omega (arith, o.lengths) in
    get_or-map (without n) lists c [] [] lt' ∙ without-out n (get_or lists c []) (home_apart links c None (get_or lists c []) n (o.each c lt'').chained (λ w. let none : None ≡ Some c = sym e ∙ w in cc)))

pub link_at : (links : List Link) (n : ℕ) (l : Link) → l ≡ get_or links n l → n < length links → get_or links n no_link ≡ l
link_at links n l e lt = get_or_default links n no_link l lt ∙ sym e

pub homes-take : (links : List Link) (n : ℕ) (b f : Option ℕ) → map home_of (set (led_past links b f) n no_link) ≡ set (map home_of links) n None
homes-take links n b f =
    map-set home_of (led_past links b f) n no_link ∙ ap (λ (hs : List (Option ℕ)). set hs n None) (homes-before_set (after_set links b f) f b ∙ homes-after_set links b f)

pub homes-put : (links : List Link) (n list : ℕ) (x : Option ℕ) → map home_of (before_set (set links n (record { home = Some list; before = None; after = x })) x (Some n)) ≡ set (map home_of links) n (Some list)
homes-put links n list x =
    homes-before_set (set links n (record { home = Some list; before = None; after = x })) x (Some n) ∙ map-set home_of links n (record { home = Some list; before = None; after = x })

-- the home of a number is a list that is there
pub home_below : (links : List Link) (heads : List (Option ℕ)) (lists : List (List ℕ)) (n : ℕ) (home : Option ℕ) → IsChains links heads lists → (get_or links n no_link).home ≡ home → IfSome home (λ list. list < length lists)
home_below links heads lists n None o e = tt
home_below links heads lists n (Some list) o e = omega (arith, home_there links heads lists n list o e, o.lengths)
