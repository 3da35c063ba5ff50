-- In ascending steps the last that has come is the last of those that a binary search passes.
use Rattle.std.proofs.Common.{◌≡◌, ◌≢◌, ◌⊎◌, ℕ, zero, suc, ◌+◌, ◌<◌, ◌≤◌, Bool, true, false, ◌&&◌}
use Rattle.std.proofs.Common.{◌||◌, cond, List, [], ◌∷◌, ◌++◌, length, take, drop, Some, refl, sym}
use Rattle.std.proofs.Common.{◌∙◌, ap, subst, arith, inl, inr, ⊎_elim}
use Rattle.std.proofs.lemmas.Bool.{cases_lt, ne_eqb, ltb-true, leb-true, le-leb, and_parts}
use Rattle.std.proofs.lemmas.List.{take-append-drop}
use Rattle.std.proofs.lemmas.Option.{slice_get_read}
use Rattle.std.proofs.lemmas.Bool.Decides.{Decides-or, Decides-and, Decides-ltb, Decides-eqb}
use Rattle.std.specs.Prelude.{get_or, slice_get, nat_le, nat_lt, ◌==◌, Decides}
use Rattle.model_timing.specs.declared.step.Step.{Step}
use Rattle.model_timing.specs.Timing.{ascend, comes_before, number_at, is_passed}
use Rattle.run_step.specs.Steps.{IsParted}

-- a step comes before another one: it is of an earlier parameter, or of the same one and from an
-- earlier tick
abbrev pub IsEarlier : {P : Type 0} → Step P → Step P → Type 0
IsEarlier a b = (a.param < b.param) ⊎ ((a.param ≡ b.param) × (a.from < b.from))

abbrev pub AreAscending : {P : Type 0} → List (Step P) → Type 0
AreAscending steps = (i j : ℕ) (a b : Step _) → i < j
    → slice_get steps i ≡ Some a → slice_get steps j ≡ Some b → IsEarlier a b

-- ---- steps that ascend one by one ascend

module _ {P : Type 0} where
  is_earlier : (a b : Step P) → comes_before a b ≡ true → IsEarlier a b
  is_earlier a b h = (Decides-or (nat_lt a.param b.param)
      ((a.param == b.param) && nat_lt a.from b.from) (Decides-ltb a.param b.param)
      (Decides-and (a.param == b.param) (nat_lt a.from b.from) (Decides-eqb a.param b.param)
      (Decides-ltb a.from b.from))).0 h

  earlier_on : (a b c : Step P) → IsEarlier a b → IsEarlier b c → IsEarlier a c
  earlier_on a b c p q =
      ⊎_elim
      (λ x. ⊎_elim (λ y. inl (omega (arith, x, y)))
      (λ y. let e : b.param ≡ c.param = y.0 in inl (omega (arith, x, e))) q)
      (λ x. let e : a.param ≡ b.param = x.0 in let f : a.from < b.from = x.1 in
      ⊎_elim (λ y. inl (omega (arith, e, y)))
      (λ y. let g : b.from < c.from = y.1 in inr (e ∙ y.0, omega arith)) q)
      p

  rest_ascend : (x : Step P) (xs : List (Step P)) → ascend (x ∷ xs) ≡ true → ascend xs ≡ true
  rest_ascend x [] h = refl
  rest_ascend x (y ∷ rest) h = (and_parts (comes_before x y) (ascend (y ∷ rest)) h).1

  first_before : (x : Step P) (xs : List (Step P)) → ascend (x ∷ xs) ≡ true → (j : ℕ) (b : Step P)
      → slice_get xs j ≡ Some b → IsEarlier x b
  first_before x [] h j b at = absurd (cc)
  first_before x (y ∷ rest) h zero b at =
      let same : y ≡ b = cc in
      subst (IsEarlier x) same (is_earlier x y (and_parts (comes_before x y) (ascend (y ∷ rest)) h).0)
  first_before x (y ∷ rest) h (suc j) b at =
      earlier_on x y b (is_earlier x y (and_parts (comes_before x y) (ascend (y ∷ rest)) h).0)
      (first_before y rest (and_parts (comes_before x y) (ascend (y ∷ rest)) h).1 j b at)

  pub all_ascend : (xs : List (Step P)) → ascend xs ≡ true → AreAscending xs
  all_ascend [] h i j a b lt at_i at_j = absurd (cc)
  all_ascend (x ∷ xs) h i zero a b lt at_i at_j = absurd (omega arith)
  all_ascend (x ∷ xs) h zero (suc j) a b lt at_i at_j =
      let same : x ≡ a = cc in
      subst (λ (s : Step P). IsEarlier s b) same (first_before x xs h j b at_j)
  all_ascend (x ∷ xs) h (suc i) (suc j) a b lt at_i at_j =
      all_ascend xs (rest_ascend x xs h) i j a b (omega arith) at_i at_j

-- ---- the value in force

module _ {S : Type 0} (param t : ℕ) where
  -- the value of the parameter at t
  abbrev value_by : S → List (Step S) → S
  value_by own xs = number_at xs param t own

  -- the step is of the parameter and has come
  abbrev applies : Step S → Bool
  applies s = (s.param == param) && nat_le s.from t

  none_apply : (own : S) (xs : List (Step S))
      → ((i : ℕ) (s : Step S) → slice_get xs i ≡ Some s → applies s ≡ false)
      → value_by own xs ≡ own
  none_apply own [] none = refl
  none_apply own (x ∷ xs) none =
      ap (λ (b : Bool). value_by (cond b x.value own) xs) (none zero x refl)
      ∙ none_apply own xs (λ i s at. none (suc i) s at)

  value-append : (own : S) (xs ys : List (Step S))
      → value_by own (xs ++ ys) ≡ value_by (value_by own xs) ys
  value-append own [] ys = refl
  value-append own (x ∷ xs) ys =
      value-append (cond (applies x) x.value own) xs ys

  at_drop : (xs : List (Step S)) (e i : ℕ) (s : Step S) → slice_get (drop e xs) i ≡ Some s
      → slice_get xs (e + i) ≡ Some s
  at_drop xs zero i s at =
      let e : 0 + i ≡ i = omega arith in subst (λ (k : ℕ). slice_get xs k ≡ Some s) (sym e) at
  at_drop [] (suc e) i s at = absurd (cc)
  at_drop (x ∷ xs) (suc e) i s at =
      let n : suc e + i ≡ suc (e + i) = omega arith in
      subst (λ (k : ℕ). slice_get (x ∷ xs) k ≡ Some s) (sym n) (at_drop xs e i s at)

  at_take : (xs : List (Step S)) (e i : ℕ) (s : Step S) → slice_get (take e xs) i ≡ Some s
      → (i < e) × (slice_get xs i ≡ Some s)
  at_take xs zero i s at = absurd (cc)
  at_take [] (suc e) i s at = absurd (cc)
  at_take (x ∷ xs) (suc e) zero s at = (omega arith, at)
  at_take (x ∷ xs) (suc e) (suc i) s at =
      let r = at_take xs e i s at in let lt : i < e = r.0 in (omega arith, r.1)

  take_one : (xs : List (Step S)) (i : ℕ) (s : Step S) → slice_get xs i ≡ Some s
      → take (suc i) xs ≡ take i xs ++ s ∷ []
  take_one [] i s at = absurd (cc)
  take_one (x ∷ xs) zero s at = let e : x ≡ s = cc in ap (λ (y : Step S). y ∷ []) e
  take_one (x ∷ xs) (suc i) s at = ap (λ (l : List (Step S)). x ∷ l) (take_one xs i s at)

  not_passed : (s : Step S) → is_passed param t s ≡ false → applies s ≡ false
  not_passed s h = off (nat_lt s.param param) (applies s) h where
    off : (a b : Bool) → (a || b) ≡ false → b ≡ false
    off true b h = absurd (cc)
    off false b h = h

  other_param : (s : Step S) → s.param ≢ param → applies s ≡ false
  other_param s ne = ap (λ (b : Bool). b && nat_le s.from t) (ne_eqb s.param param ne)

  -- no step from number e on is passed
  abbrev NonePassedFrom : List (Step S) → ℕ → Type 0
  NonePassedFrom xs e =
      (i : ℕ) (s : Step S) → e ≤ i → slice_get xs i ≡ Some s → is_passed param t s ≡ false

  rest_apply : (own : S) (xs : List (Step S)) (e : ℕ) → NonePassedFrom xs e
      → value_by own xs ≡ value_by own (take e xs)
  rest_apply own xs e rest =
      ap (value_by own) (sym (take-append-drop e xs))
      ∙ value-append own (take e xs) (drop e xs)
      ∙ none_apply (value_by own (take e xs)) (drop e xs)
      (λ i s at. not_passed s (rest (e + i) s (omega arith) (at_drop xs e i s at)))

  -- none is passed
  pub value_none : (own : S) (xs : List (Step S)) → NonePassedFrom xs 0
      → own ≡ number_at xs param t own
  value_none own xs rest = sym (rest_apply own xs 0 rest)

  -- the last that is passed is of the parameter
  pub value_last : (own : S) (xs : List (Step S)) (e : ℕ) (last : Step S)
      → slice_get xs e ≡ Some last → is_passed param t last ≡ true → last.param ≡ param
      → NonePassedFrom xs (suc e) → last.value ≡ number_at xs param t own
  value_last own xs e last at passed same rest =
      sym (
      rest_apply own xs (suc e) rest
      ∙ ap (value_by own) (take_one xs e last at)
      ∙ value-append own (take e xs) (last ∷ [])
      ∙ ap (λ (b : Bool). cond b last.value (value_by own (take e xs)))
      (come (nat_lt last.param param) (applies last) (ltb-true last.param param) passed)
      ) where
        come : (a b : Bool) → (a ≡ true → last.param < param) → (a || b) ≡ true → b ≡ true
        come true b f h = let lt : last.param < param = f refl in absurd (omega arith)
        come false b f h = h

  -- it is of another one
  pub value_other : (own : S) (xs : List (Step S)) (e : ℕ) (last : Step S) → AreAscending xs
      → slice_get xs e ≡ Some last → is_passed param t last ≡ true → last.param ≢ param
      → NonePassedFrom xs (suc e) → own ≡ value_by own xs
  value_other own xs e last up at passed ne rest =
      sym (rest_apply own xs (suc e) rest
      ∙ none_apply own (take (suc e) xs)
      (λ i s h. other_param s (apart i s (at_take xs (suc e) i s h)))) where
        below : (a : Bool) → (a ≡ true → last.param < param) → (a || applies last) ≡ true
            → last.param < param
        below true f h = f refl
        below false f h = absurd (let no : applies last ≡ false = other_param last ne in cc)

        less : last.param < param
        less = below (nat_lt last.param param) (ltb-true last.param param) passed

        apart : (i : ℕ) (s : Step S) → (i < suc e) × (slice_get xs i ≡ Some s) → s.param ≢ param
        apart i s (lt, h) same =
            let lt' : last.param < param = less in
            ⊎_elim
            (λ earlier.
            ⊎_elim (λ p. let q : s.param < last.param = p in omega arith)
            (λ p. let q : s.param ≡ last.param = p.0 in omega arith)
            (up i e s last earlier h at))
            (λ le.
            let k : i ≡ e = omega arith in
            let one : s ≡ last = same_at k in
            let q : s.param ≡ last.param = ap (λ (x : Step S). x.param) one in omega arith)
            (cases_lt i e) where
              same_at : i ≡ e → s ≡ last
              same_at k =
                  let there : slice_get xs e ≡ Some s =
                  subst (λ (j : ℕ). slice_get xs j ≡ Some s) k h in cc

  -- the step is of an earlier parameter, or of this one and has come
  abbrev HasPassed : Step S → Type 0
  HasPassed s = (s.param < param) ⊎ ((s.param ≡ param) × (s.from ≤ t))

  pub passed_is : (s : Step S) → Decides (is_passed param t s) (HasPassed s)
  passed_is s =
      Decides-or (nat_lt s.param param) (applies s) (Decides-ltb s.param param)
      (Decides-and (s.param == param) (nat_le s.from t) (Decides-eqb s.param param)
      (leb-true s.from t, le-leb s.from t))

  -- no step that is passed comes after one that is not
  earlier : (a b : Step S) → IsEarlier a b → HasPassed b → HasPassed a
  earlier a b order at_b =
      ⊎_elim
      (λ p.
      ⊎_elim (λ q. inl (omega (arith, p, q)))
      (λ q. let e : b.param ≡ param = q.0 in inl (omega (arith, p, e))) at_b)
      (λ p.
      let same : a.param ≡ b.param = p.0 in
      let less : a.from < b.from = p.1 in
      ⊎_elim (λ q. inl (omega (arith, same, q)))
      (λ q.
      let e : b.param ≡ param = q.0 in
      let f : b.from ≤ t = q.1 in inr (same ∙ e, omega arith)) at_b)
      order

  pub passed_before : (xs : List (Step S)) → AreAscending xs → (i j : ℕ) (a b : Step S) → i ≤ j
      → slice_get xs i ≡ Some a → slice_get xs j ≡ Some b → is_passed param t b ≡ true
      → is_passed param t a ≡ true
  passed_before xs up i j a b le at_i at_j on =
      ⊎_elim
      (λ lt. (passed_is a).1 (earlier a b (up i j a b lt at_i at_j) ((passed_is b).0 on)))
      (λ ge.
      let e : j ≡ i = omega arith in
      let there : slice_get xs i ≡ Some b = subst (λ (n : ℕ). slice_get xs n ≡ Some b) e at_j in
      let same : b ≡ a = cc in subst (λ (y : Step S). is_passed param t y ≡ true) same on)
      (cases_lt i j)

  pub passed_after : (xs : List (Step S)) → AreAscending xs → (i j : ℕ) (a b : Step S) → i ≤ j
      → slice_get xs i ≡ Some a → slice_get xs j ≡ Some b → is_passed param t a ≡ false
      → is_passed param t b ≡ false
  passed_after xs up i j a b le at_i at_j off =
      by (is_passed param t b) (λ on. passed_before xs up i j a b le at_i at_j on) where
        by : (v : Bool) → (v ≡ true → is_passed param t a ≡ true) → v ≡ false
        by true f = let on : is_passed param t a ≡ true = f refl in absurd (cc)
        by false f = refl

  -- the halves of a binary search
  pub record Halves (xs : List (Step S)) (low high : ℕ) : Type 0 where
    pub ordered : low ≤ high
    pub inside : high ≤ length xs
    pub below : (i : ℕ) (s : Step S) → i < low → slice_get xs i ≡ Some s
        → is_passed param t s ≡ true
    pub above : (i : ℕ) (s : Step S) → high ≤ i → slice_get xs i ≡ Some s
        → is_passed param t s ≡ false

  pub halves_up : (xs : List (Step S)) (low high middle : ℕ) (s : Step S) → AreAscending xs
      → Halves xs low high → middle < high → slice_get xs middle ≡ Some s
      → is_passed param t s ≡ true → Halves xs (middle + 1) high
  halves_up xs low high middle s up h lt at on = record {
    ordered = omega arith;
    inside = h.inside;
    below = λ i a less there. passed_before xs up i middle a s (omega arith) there at on;
    above = h.above;
  }

  pub halves_down : (xs : List (Step S)) (low high middle : ℕ) (s : Step S) → AreAscending xs
      → Halves xs low high → low ≤ middle → middle < high → slice_get xs middle ≡ Some s
      → is_passed param t s ≡ false → Halves xs low middle
  halves_down xs low high middle s up h le lt at off = record {
    ordered = le;
    inside = (let i : high ≤ length xs = h.inside in omega arith);
    below = h.below;
    above = λ i b more there. passed_after xs up middle i s b more at there off;
  }

  -- the first step that is not passed comes no later than any of the parameter that is to come
  next_comes : (xs : List (Step S)) (count i : ℕ) (next s : Step S) → AreAscending xs
      → IsParted param t xs count → slice_get xs count ≡ Some next → slice_get xs i ≡ Some s
      → s.param ≡ param → t < s.from → (next.param ≡ param) × (next.from ≤ s.from)
  next_comes xs count i next s up parted at_next at_s of to_come =
      ⊎_elim
      (λ before. let on : is_passed param t s ≡ true = parted.below i s before at_s in
      absurd (⊎_elim (λ p. let q : s.param < param = p in omega (arith, of))
      (λ p. let q : s.from ≤ t = p.1 in omega arith) ((passed_is s).0 on)))
      (λ le. ⊎_elim
      (λ lt. ⊎_elim
      (λ p. absurd (let less : next.param < s.param = p in
      let on : is_passed param t next ≡ true = (passed_is next).1 (inl (omega (arith, less, of))) in
      let off : is_passed param t next ≡ false = parted.above count next (omega arith) at_next in
      cc))
      (λ p. let same : next.param ≡ s.param = p.0 in
      let less : next.from < s.from = p.1 in (same ∙ of, omega arith))
      (up count i next s lt at_next at_s))
      (λ ge. let e : i ≡ count = omega arith in
      let there : slice_get xs count ≡ Some s =
      subst (λ (k : ℕ). slice_get xs k ≡ Some s) e at_s in
      let same : next ≡ s = cc in (
        ap (λ (x : Step S). x.param) same ∙ of,
        let f : next.from ≡ s.from = ap (λ (x : Step S). x.from) same in omega arith,
      ))
      (cases_lt count i))
      (cases_lt i count)

  -- so does what is read at its place
  pub read_comes : (xs : List (Step S)) (count i : ℕ) (next s : Step S) → ascend xs ≡ true
      → IsParted param t xs count → count < length xs → next ≡ get_or xs count next
      → slice_get xs i ≡ Some s → s.param ≡ param → t < s.from
      → (next.param ≡ param) × (next.from ≤ s.from)
  read_comes xs count i next s up parted inside read =
      next_comes xs count i next s (all_ascend xs up) parted
      (slice_get_read xs (length xs) count next refl inside read)
