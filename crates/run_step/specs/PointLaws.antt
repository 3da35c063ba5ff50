-- Over a box that holds one choice alone the interval history is, on both rails, the history at it.
use Rattle.std.proofs.Common.{◌≡◌, ℕ, ◌<◌, ◌≤◌, Bool, true, false, refl, sym, ◌∙◌, ap, subst, arith}
use Rattle.model_history.specs.Rails.{Rails, Ends, Covers, RailsCover, IsPartOf, both, single}
use Rattle.model_history.specs.Rails.{must_of}
use Rattle.model_logic.specs.Choice.{Choice, Box, IsIn, IsWithin, IsBoxWithin, DelaysFromOne}
use Rattle.model_logic.specs.Choice.{LeastFromOne, point_box}
use Rattle.model_logic.specs.Histories.{History, IsLineHistory, PairHistory, IsPairHistory}
use Rattle.model_logic.specs.Histories.{IsBothRails, CoversHistory, CoversPairHistory, must_history}
use Rattle.model_logic.specs.Logic.{key_tree, trip_tree}
use Rattle.model_logic.specs.Laws.{LineLaws}
use Rattle.model_line.specs.{declared.line.Line.Line, Parameters.terminal_count}
use Rattle.model_line.specs.declared.script.Script.{Script}
use Rattle.run_step.specs.Runs.{IsPoint, IsExactAt}

-- rails that allow only the value, and that the value allows, are both the value
closed_in : (x y : Rails) (v : Bool) → Covers x v → y ≡ both v → RailsCover y x → x ≡ both v
closed_in x y v outer is inner =
    let inside : RailsCover (both v) x = subst (λ (z : Rails). RailsCover z x) is inner in
    squeezed x v outer inside
  where
    squeezed : (x : Rails) (v : Bool) → Covers x v → RailsCover (both v) x → x ≡ both v
    squeezed x true outer inside =
        let must : x.must ≡ true = inside.must refl in
        let may : x.may ≡ true = outer.may refl in
        ap (λ (b : Bool). record { must = b; may = x.may }) must
        ∙ ap (λ (b : Bool). record { must = true; may = b }) may
    squeezed x false outer inside =
        let must : x.must ≡ false = off x.must outer.must in
        let may : x.may ≡ false = off x.may inside.may in
        ap (λ (b : Bool). record { must = b; may = x.may }) must
        ∙ ap (λ (b : Bool). record { must = false; may = b }) may
      where
        off : (b : Bool) → (b ≡ true → (let f : Bool = false in f ≡ true)) → b ≡ false
        off true h = sym (h refl)
        off false h = refl

module _ (laws : LineLaws) (line : Line) (script : Script) (box : Box) (d : LeastFromOne line box)
    (choice : Choice) (point : IsPoint line box choice) where
  pub delays_from_one : DelaysFromOne line choice
  delays_from_one c t lt early =
      subst (λ (e : Ends). 1 ≤ e.least) (point.delays c t lt early) (d c t lt early)

  -- the choice lies in the box, and the box in that of the choice alone
  within : IsWithin line choice box
  within = record {
    numbers = λ i lt.
        subst (λ (e : Ends). IsIn (choice.number i) e) (sym (point.numbers i lt))
        (record { least = omega arith; greatest = omega arith });
    delays = λ c t lt early.
        subst (λ (e : Ends). IsIn (choice.delay c t) e) (sym (point.delays c t lt early))
        (record { least = omega arith; greatest = omega arith });
  }

  part_of : (n : ℕ) (e : Ends) → e ≡ single n → IsPartOf e (single n)
  part_of n e is =
      subst (λ (x : Ends). IsPartOf x (single n)) (sym is)
      (record { least = omega arith; greatest = omega arith })

  narrow : IsBoxWithin line box (point_box choice)
  narrow = record {
    numbers = λ i lt. part_of (choice.number i) (box.ends i) (point.numbers i lt);
    delays = λ c t lt early.
        part_of (choice.delay c t) (box.delay c t) (point.delays c t lt early);
  }

  alone : LeastFromOne line (point_box choice)
  alone c t lt early = delays_from_one c t lt early

  module _ (w : PairHistory) (is_w : IsPairHistory line script box w) (h : History)
      (is_h : IsLineHistory line script choice h) (v : PairHistory)
      (is_v : IsPairHistory line script (point_box choice) v) where
    over : CoversHistory line w h
    over = laws.boxes.choices line script box choice w h d within is_w is_h

    under : CoversPairHistory line v w
    under = laws.boxes.boxes line script box (point_box choice) w v alone narrow is_w is_v

    level : IsBothRails line v h
    level = laws.points.both line script choice v h delays_from_one is_v is_h

    keys_are : (k t : ℕ) → k < terminal_count line → t < line.horizon
        → w.key k t ≡ both (h.key k t)
    keys_are k t kn lt =
        closed_in (w.key k t) (v.key k t) (h.key k t) (over.keys k t kn lt) (level.keys k t kn lt)
        (under.keys k t kn lt)

    trips_are : (k t : ℕ) → k < terminal_count line → t < line.horizon
        → w.trip k t ≡ both (h.trip k t)
    trips_are k t kn lt =
        closed_in (w.trip k t) (v.trip k t) (h.trip k t) (over.trips k t kn lt)
        (level.trips k t kn lt) (under.trips k t kn lt)

    -- the must rails are the history, so they are one
    exact_by : IsExactAt line script choice w
    exact_by = record {
      is = record {
        keys = λ k t kn lt.
            ap must_of (keys_are k t kn lt) ∙ is_h.keys k t kn lt
            ∙ laws.values.value line script choice h.key (must_history w).key (key_tree line k) t
            delays_from_one lt (laws.trees.keys line k kn)
            (λ j r jn before. sym (ap must_of (keys_are j r jn (omega arith))));
        trips = λ k t kn lt.
            ap must_of (trips_are k t kn lt) ∙ is_h.trips k t kn lt
            ∙ laws.values.value line script choice h.key (must_history w).key (trip_tree line k) t
            delays_from_one lt (laws.trees.trips line k kn)
            (λ j r jn before. sym (ap must_of (keys_are j r jn (omega arith))));
      };
      both = record {
        keys = λ k t kn lt.
            keys_are k t kn lt
            ∙ ap (λ (b : Bool). both b) (sym (ap must_of (keys_are k t kn lt)));
        trips = λ k t kn lt.
            trips_are k t kn lt
            ∙ ap (λ (b : Bool). both b) (sym (ap must_of (trips_are k t kn lt)));
      };
    }

  pub exact_at : (w : PairHistory) → IsPairHistory line script box w
      → IsExactAt line script choice w
  exact_at w is_w =
      let (h, is_h) = laws.histories.exists line script choice delays_from_one in
      let (v, is_v) = laws.interval_histories.exists line script (point_box choice) alone in
      exact_by w is_w h is_h v is_v
