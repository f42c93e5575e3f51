-- First places of names.
use Rattle.std.proofs.Common.{◌≡◌, ⊎_elim, ℕ, suc, List, [], ◌∷◌, ◌++◌, Bool, true, false, Option, Some, None, length, map, refl, ap, sym, ◌∙◌, arith, bytes_eq}
use Rattle.std.specs.Prelude.{nat_eq, position, is_some, ◌||◌, if◌then◌else◌}
use Rattle.std.specs.Map.{update}
use Rattle.std.specs.Option.{option_map}
use Rattle.std.specs.Cmp.{nat_eq_equiv}
use Rattle.std.specs.Cmp.Lexicographic.{bytes_decides, nat_list_eq_equiv}
use Rattle.std.proofs.lemmas.Bool.{cases_Bool}
use Rattle.std.proofs.lemmas.List.{length-map}
use Rattle.std.proofs.lemmas.Grind.{common_steps}
use Rattle.ms_ir.specs.declared.names.Name.{Name}
use Rattle.ms_ir.specs.declared.names.Name.TheVariants.{Word, Number, Absent}
use Rattle.ms_names.specs.Made.{is_same_name}
use Rattle.ms_names.specs.Places.{word_place, name_place, is_name_there, or_here}

pub or_here_not : (o : Option ℕ) (place : ℕ) → or_here o false place ≡ o
or_here_not (Some k) place = refl
or_here_not None place = refl

-- the same place by going along the list
abbrev pub seek : {X : Type 0} → (X → Bool) → List X → Option ℕ
seek p [] = None
seek p (x ∷ xs) = if p x then Some 0 else option_map suc (seek p xs)

pub position-cons : {X : Type 0} (p : X → Bool) (x : X) (xs : List X) → position p (x ∷ xs) ≡ (if p x then Some 0 else option_map suc (position p xs))
position-cons p x xs = ⊎_elim (λ t. grind (arith, common_steps)) (λ f. grind (arith, common_steps)) (cases_Bool (p x))

pub seek_is : {X : Type 0} (p : X → Bool) (xs : List X) → position p xs ≡ seek p xs
seek_is p [] = refl
seek_is p (x ∷ xs) = position-cons p x xs ∙ ap (λ o. if p x then Some 0 else option_map suc o) (seek_is p xs)

step_here : (o : Option ℕ) (here : Bool) (n : ℕ) → option_map suc (or_here o here n) ≡ or_here (option_map suc o) here (suc n)
step_here (Some k) here n = refl
step_here None true n = refl
step_here None false n = refl

step_first : (first : Bool) (o : Option ℕ) (here : Bool) (n : ℕ) → (if first then Some 0 else option_map suc (or_here o here n)) ≡ or_here (if first then Some 0 else option_map suc o) here (suc n)
step_first true o here n = refl
step_first false o here n = step_here o here n

seek_added : {X : Type 0} (p : X → Bool) (xs : List X) (y : X) → seek p (xs ++ y ∷ []) ≡ or_here (seek p xs) (p y) (length xs)
seek_added p [] y = refl
seek_added p (x ∷ xs) y = ap (λ o. if p x then Some 0 else option_map suc o) (seek_added p xs y) ∙ step_first (p x) (seek p xs) (p y) (length xs)

-- the place after a further thing
pub place_added : {X : Type 0} (p : X → Bool) (xs : List X) (y : X) → position p (xs ++ y ∷ []) ≡ or_here (position p xs) (p y) (length xs)
place_added p xs y = seek_is p (xs ++ y ∷ []) ∙ seek_added p xs y ∙ sym (ap (λ o. or_here o (p y) (length xs)) (seek_is p xs))

some_here : (o : Option ℕ) (here : Bool) (place : ℕ) → is_some (or_here o here place) ≡ (is_some o || here)
some_here (Some k) here place = refl
some_here None true place = refl
some_here None false place = refl

-- whether a name is there after a further one
pub there_added : (names : List Name) (y q : Name) → is_name_there (names ++ y ∷ []) q ≡ (is_name_there names q || is_same_name q y)
there_added names y q = ap (λ (o : Option ℕ). is_some o) (place_added (is_same_name q) names y) ∙ some_here (name_place names q) (is_same_name q y) (length names)

pub same_absent : (q : Name) → is_same_name q Absent ≡ false
same_absent (Word w) = refl
same_absent (Number n) = refl
same_absent Absent = refl

nowhere : {X : Type 0} (p : X → Bool) → ((x : X) → p x ≡ false) → (xs : List X) → seek p xs ≡ None
nowhere p none [] = refl
nowhere p none (x ∷ xs) = rw (none x) (ap (option_map suc) (nowhere p none xs))

not_same_absent : (x : Name) → is_same_name Absent x ≡ false
not_same_absent (Word w) = refl
not_same_absent (Number n) = refl
not_same_absent Absent = refl

pub absent_nowhere : (names : List Name) → None ≡ name_place names Absent
absent_nowhere names = sym (seek_is (is_same_name Absent) names ∙ nowhere (is_same_name Absent) not_same_absent names)

-- a word that was not there is there from now on, and one that was there stays
pub word_new : (old new : List ℕ → Option ℕ) (w : List ℕ) (place : ℕ) → None ≡ old w → ((q : List ℕ) → new q ≡ update bytes_eq old w (Some place) q)
    → (q : List ℕ) → new q ≡ or_here (old q) (bytes_eq q w) place
word_new old new w place none put q = ⊎_elim
    (λ t. let same = (bytes_decides q w).0 t in
    let turned : bytes_eq w q ≡ true = sym (nat_list_eq_equiv.symm q w) ∙ t in
    put q ∙ rw turned (rw t (rw same (ap (λ o. or_here o true place) none))))
    (λ f. let turned : bytes_eq w q ≡ false = sym (nat_list_eq_equiv.symm q w) ∙ f in
    put q ∙ rw turned (rw f (sym (or_here_not (old q) place))))
    (cases_Bool (bytes_eq q w))

stays : (o : Option ℕ) (k : ℕ) (here : Bool) (place : ℕ) → o ≡ Some k → o ≡ or_here o here place
stays (Some j) k here place e = refl
stays None k here place e = cc

pub word_there : (old : List ℕ → Option ℕ) (w : List ℕ) (place k : ℕ) → Some k ≡ old w → (q : List ℕ) → old q ≡ or_here (old q) (bytes_eq q w) place
word_there old w place k some q = ⊎_elim
    (λ t. stays (old q) k (bytes_eq q w) place (ap old ((bytes_decides q w).0 t) ∙ sym some))
    (λ f. rw f (sym (or_here_not (old q) place)))
    (cases_Bool (bytes_eq q w))

map_push : {A B : Type 0} (f : A → B) (xs : List A) (y : A) → map f (xs ++ y ∷ []) ≡ map f xs ++ f y ∷ []
map_push f [] y = refl
map_push f (x ∷ xs) y = ap (λ r. f x ∷ r) (map_push f xs y)

-- what a map finds after a further word
pub word_found : {A : Type 0} (f : A → List ℕ) (items items' : List A) (y : A) (got got' : Option ℕ) (n : ℕ) (q : List ℕ) → got ≡ word_place (map f items) q
    → n ≡ length items → got' ≡ or_here got (bytes_eq q (f y)) n → items' ≡ items ++ y ∷ [] → got' ≡ word_place (map f items') q
word_found f items items' y got got' n q was len here is =
    here ∙ ap (λ o. or_here o (bytes_eq q (f y)) n) was ∙ ap (λ k. or_here (word_place (map f items) q) (bytes_eq q (f y)) k) (len ∙ sym (length-map items f))
    ∙ sym (place_added (bytes_eq q) (map f items) (f y)) ∙ ap (λ ws. word_place ws q) (sym (map_push f items y) ∙ ap (map f) (sym is))

-- what a map finds of a name after a further name
pub name_found : (names names' : List Name) (y q : Name) (got got' : Option ℕ) (n : ℕ) → got ≡ name_place names q → n ≡ length names → got' ≡ or_here got (is_same_name q y) n
    → names' ≡ names ++ y ∷ [] → got' ≡ name_place names' q
name_found names names' y q got got' n was len here is =
    here ∙ ap (λ o. or_here o (is_same_name q y) n) was ∙ ap (λ k. or_here (name_place names q) (is_same_name q y) k) len
    ∙ sym (place_added (is_same_name q) names y) ∙ ap (λ ns. name_place ns q) (sym is)

-- and of a name of another kind
pub other_found : (names names' : List Name) (y q : Name) (got : Option ℕ) → got ≡ name_place names q → is_same_name q y ≡ false → names' ≡ names ++ y ∷ [] → got ≡ name_place names' q
other_found names names' y q got was other is = name_found names names' y q got got (length names) was refl (sym (rw other (or_here_not got (length names)))) is

pub number_new : (old new : ℕ → Option ℕ) (w : ℕ) (place : ℕ) → None ≡ old w → ((q : ℕ) → new q ≡ update nat_eq old w (Some place) q)
    → (q : ℕ) → new q ≡ or_here (old q) (nat_eq q w) place
number_new old new w place none put q = ⊎_elim
    (λ t. let same : q ≡ w = grind (arith, common_steps) in
    let turned : nat_eq w q ≡ true = rw same (nat_eq_equiv.refl w) in
    put q ∙ rw turned (rw t (rw same (ap (λ o. or_here o true place) none))))
    (λ f. let turned : nat_eq w q ≡ false = sym (nat_eq_equiv.symm q w) ∙ f in
    put q ∙ rw turned (rw f (sym (or_here_not (old q) place))))
    (cases_Bool (nat_eq q w))

pub number_there : (old : ℕ → Option ℕ) (w : ℕ) (place k : ℕ) → Some k ≡ old w → (q : ℕ) → old q ≡ or_here (old q) (nat_eq q w) place
number_there old w place k some q = ⊎_elim
    (λ t. let same : q ≡ w = grind (arith, common_steps) in
    stays (old q) k (nat_eq q w) place (ap old same ∙ sym some))
    (λ f. rw f (sym (or_here_not (old q) place)))
    (cases_Bool (nat_eq q w))
