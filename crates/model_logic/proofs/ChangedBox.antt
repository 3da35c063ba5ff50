-- The declared box of a line with another interval for one parameter.
use Rattle.std.proofs.Common.{◌≡◌, ◌<◌, ℕ, List, length, get_or, set, sym, ◌∙◌, ap, arith, inl, inr}
use Rattle.std.proofs.lemmas.Bool.{cases_eq}
use Rattle.std.proofs.lemmas.List.{length-map, get_or-set_same, get_or-set_other}
use Rattle.std.specs.Prelude.{IsTrue}
use Rattle.model_history.specs.Rails.{Ends}
use Rattle.model_line.specs.Parameters.{param_count, channel_count, delay_param, is_delay}
use Rattle.model_line.specs.Parameters.{declared_ends}
use Rattle.model_line.specs.Intervals.{leasts, greatests}
use Rattle.model_line.specs.SameCountLaws.{delay_same}
use Rattle.model_line.specs.{declared.line.Line.Line, WithBounds.IsWithBounds, DelayLaws.delay_at}
use Rattle.model_logic.specs.Boxes.{ends_with, box_with, declared_with, IsSameBox}
use Rattle.model_logic.specs.Choice.{declared_box}
use Rattle.model_logic.specs.BoxLaws.{ends_with-here, ends_with-elsewhere}

ends_made : ℕ → ℕ → Ends
ends_made least greatest = record { least = least; greatest = greatest }

both_ends : (a b c d : ℕ) → a ≡ c → b ≡ d
    → (let x : Ends = record { least = a; greatest = b } in x) ≡ record { least = c; greatest = d }
both_ends a b c d e f =
    let first : ℕ → Ends = λ n. record { least = n; greatest = b } in
    let second : ℕ → Ends = λ n. record { least = c; greatest = n } in
    ap first e ∙ ap second f

module _ (line other : Line) (param least greatest : ℕ) (here : param < param_count line)
    (is : IsWithBounds line param least greatest other) where
  abbrev new_ends : Ends
  new_ends = record { least = least; greatest = greatest }

  pub ends_changed : (i : ℕ)
      → declared_ends other i ≡ ends_with (declared_ends line) param new_ends i
  ends_changed i =
      let ls : length (leasts line.params.items) ≡ param_count line = simp length-map in
      let gs : length (greatests line.params.items) ≡ param_count line = simp length-map in
      let l : get_or (leasts other.params.items) i 0
      ≡ get_or (set (leasts line.params.items) param least) i 0 =
      ap (λ (xs : List ℕ). get_or xs i 0) is.params.least_of in
      let g : get_or (greatests other.params.items) i 0
      ≡ get_or (set (greatests line.params.items) param greatest) i 0 =
      ap (λ (xs : List ℕ). get_or xs i 0) is.params.greatest_of in
      elim (cases_eq i param) [
        | inl same ↦
            both_ends _ _ least greatest
            (l ∙ ap (λ k. get_or (set (leasts line.params.items) param least) k 0) same
            ∙ get_or-set_same (leasts line.params.items) param least 0 (omega arith))
            (g ∙ ap (λ k. get_or (set (greatests line.params.items) param greatest) k 0) same
            ∙ get_or-set_same (greatests line.params.items) param greatest 0 (omega arith))
            ∙ sym (ends_with-here (declared_ends line) param new_ends i same)
        | inr apart ↦
            both_ends _ _ (declared_ends line i).least (declared_ends line i).greatest
            (l ∙ get_or-set_other (leasts line.params.items) param i least 0 apart)
            (g ∙ get_or-set_other (greatests line.params.items) param i greatest 0 apart)
            ∙ sym (ends_with-elsewhere (declared_ends line) param new_ends i apart)
      ]

  delay_changed : (c : ℕ) → declared_ends other (delay_param other c)
      ≡ ends_with (declared_ends line) param new_ends (delay_param line c)
  delay_changed c =
      ap (λ (i : ℕ). declared_ends other i) (delay_same line other is.rest c) ∙ ends_changed (delay_param line c)

  pub box_changed : IsSameBox line (declared_box other) (declared_with line param new_ends)
  unfolding declared_box
  box_changed = record {
    numbers = λ i lt. ends_changed i;
    delays = λ c t lt early. delay_changed c;
  }

  -- a delay's number is another one
  delay_apart : ¬ (IsTrue (is_delay line param)) → (c : ℕ) → c < channel_count line
      → delay_param line c ≡ param → ⊥
  delay_apart no_delay c lt same = no_delay (delay_at line c param lt same)

  pub number_changed : ¬ (IsTrue (is_delay line param))
      → IsSameBox line (declared_box other) (box_with (declared_box line) param new_ends)
  unfolding declared_box
  number_changed no_delay = record {
    numbers = λ i lt. ends_changed i;
    delays = λ c t lt early.
        delay_changed c
        ∙ ends_with-elsewhere (declared_ends line) param new_ends (delay_param line c)
        (delay_apart no_delay c lt);
  }
