-- Views of boxes, and of their halves.
use Rattle.std.proofs.Common.{◌≡◌, ◌≢◌, ◌<◌, ◌≤◌, ◌⊎◌, ℕ, List, [], ◌∷◌, Some, length}
use Rattle.std.proofs.Common.{sym, ◌∙◌, ap, subst, arith, ⊎_elim, inl, inr, length-set}
use Rattle.std.proofs.lemmas.Option.{slice_get-get_or}
use Rattle.std.proofs.lemmas.List.Elements.{All-nil, All-cons}
use Rattle.std.specs.Prelude.{IsTrue, slice_get, slice_set}
use Rattle.model_history.specs.Rails.{Ends, single}
use Rattle.model_line.specs.Parameters.{param_count, channel_count, delay_param, declared_ends}
use Rattle.model_line.specs.Parameters.{is_delay}
use Rattle.model_line.specs.{declared.line.Line.Line, Laws.DelaysAreParameters}
use Rattle.model_line.specs.DelayLaws.{delay_within}
use Rattle.model_logic.specs.Boxes.{box_with}
use Rattle.model_logic.specs.Choice.{Box, declared_box}
use Rattle.model_logic.specs.BoxLaws.{ends_with-here, ends_with-elsewhere}
use Rattle.model_settle.specs.Assumed.{Assumption, HasSpan, HaveSpans, span_of}
use Rattle.judge_cases.specs.declared.view.View.{View}
use Rattle.model_logic.specs.Boxes.{interval_of}
use Rattle.judge_cases.specs.Views.{IsView, Views}
use Rattle.model_history.specs.ListLaws.{at_set}

read : (es : List Ends) (i : ℕ) → i < length es → slice_get es i ≡ Some (interval_of es i)
read es i lt = slice_get-get_or es i (single 0) lt

one_read : (es : List Ends) (i : ℕ) (x y : Ends) → slice_get es i ≡ Some x
    → slice_get es i ≡ Some y → x ≡ y
one_read es i x y e f = cc

-- the intervals with one written
set_ends : (es : List Ends) (param : ℕ) (new : Ends) (i : ℕ) → i < length es
    → ((i ≡ param) × (interval_of (slice_set es param new) i ≡ new))
    ⊎ ((i ≢ param) × (interval_of (slice_set es param new) i ≡ interval_of es i))
set_ends es param new i lt =
    let longer : i < length (slice_set es param new) =
    subst (λ (n : ℕ). i < n) (sym (length-set es param new)) lt in
    ⊎_elim
    (λ p. inl (p.0, sym p.1))
    (λ p. inr (p.0, one_read es i _ _ p.1 (read es i lt)))
    (at_set es param new i (interval_of (slice_set es param new) i)
    (read (slice_set es param new) i longer))

module _ (delays : DelaysAreParameters) (line : Line) where
  pub declared_is : (view : View) → length view.ends.items ≡ param_count line
      → ((i : ℕ) (e : Ends) → slice_get view.ends.items i ≡ Some e → e ≡ declared_ends line i)
      → view.assumed.items ≡ [] → Views line (declared_box line) [] view
  unfolding declared_box
  declared_is view count each none =
      let own : (i : ℕ) → i < param_count line
      → interval_of view.ends.items i ≡ declared_ends line i =
      λ i lt. each i _ (read view.ends.items i (omega (arith, count, lt))) in
      record {
        is = record {
          count = count;
          delays = λ c t lt early.
              subst (λ (e : Ends). 1 ≤ e.least) (sym (own (delay_param line c) (delay_within line c lt)))
              (delays.from_one line (delay_param line c) (delays.told line c lt));
          spans = subst (HaveSpans line) (sym none)
              (All-nil (λ (a : Assumption). HasSpan line (span_of a)));
        };
        same = record {
          numbers = own;
          delays = λ c t lt early. own (delay_param line c) (delay_within line c lt);
        };
        assumes = none;
      }

  module _ (view half : View) (param : ℕ) (new : Ends)
      (set : half.ends.items ≡ slice_set view.ends.items param new)
      (kept : half.assumed.items ≡ view.assumed.items) (number : ¬ (IsTrue (is_delay line param)))
      (is : IsView line view) where
    apart : (c : ℕ) → c < channel_count line → delay_param line c ≢ param
    apart c lt e =
        number (subst (λ (i : ℕ). IsTrue (is_delay line i)) e (delays.told line c lt))

    here : (i : ℕ) → interval_of half.ends.items i
        ≡ interval_of (slice_set view.ends.items param new) i
    here i = ap (λ (es : List Ends). interval_of es i) set

    half_delay : (c : ℕ) → c < channel_count line → interval_of half.ends.items (delay_param line c)
        ≡ interval_of view.ends.items (delay_param line c)
    half_delay c lt =
        here (delay_param line c)
        ∙ ⊎_elim (λ p. absurd (apart c lt p.0)) (λ p. p.1)
        (set_ends view.ends.items param new (delay_param line c)
        (subst (λ (n : ℕ). delay_param line c < n) (sym is.count) (delay_within line c lt)))

    pub half_is : IsView line half
    half_is = record {
      count = ap length set ∙ length-set view.ends.items param new ∙ is.count;
      delays = λ c t lt early.
          subst (λ (e : Ends). 1 ≤ e.least) (sym (half_delay c lt)) (is.delays c t lt early);
      spans = subst (HaveSpans line) (sym kept) is.spans;
    }

    pub half_views : (box : Box) (assumed : List Assumption) → Views line box assumed view
        → Views line (box_with box param new) assumed half
    half_views box assumed views = record {
      is = half_is;
      same = record {
        numbers = λ i lt.
            here i
            ∙ ⊎_elim
            (λ p. p.1 ∙ sym (ends_with-here box.ends param new i p.0))
            (λ p. p.1 ∙ views.same.numbers i lt ∙ sym (ends_with-elsewhere box.ends param new i p.0))
            (set_ends view.ends.items param new i
            (subst (λ (n : ℕ). i < n) (sym is.count) lt));
        delays = λ c t lt early. half_delay c lt ∙ views.same.delays c t lt early;
      };
      assumes = kept ∙ views.assumes;
    }

-- with one assumption more
pub assumed_is : (line : Line) (view other : View) (new : Assumption) → HasSpan line (span_of new)
    → other.ends.items ≡ view.ends.items → other.assumed.items ≡ new ∷ view.assumed.items
    → (box : Box) (assumed : List Assumption) → Views line box assumed view
    → Views line box (new ∷ assumed) other
assumed_is line view other new has ends longer box assumed views =
    record {
      is = record {
        count = ap length ends ∙ views.is.count;
        delays = λ c t lt early.
            subst (λ (es : List Ends). 1 ≤ (interval_of es (delay_param line c)).least) (sym ends)
            (views.is.delays c t lt early);
        spans = subst (HaveSpans line) (sym longer)
            (All-cons (λ (a : Assumption). HasSpan line (span_of a)) new view.assumed.items has
            views.is.spans);
      };
      same = record {
        numbers = λ i lt.
            ap (λ (es : List Ends). interval_of es i) ends ∙ views.same.numbers i lt;
        delays = λ c t lt early.
            ap (λ (es : List Ends). interval_of es (delay_param line c)) ends
            ∙ views.same.delays c t lt early;
      };
      assumes = longer ∙ ap (λ (l : List Assumption). new ∷ l) views.assumes;
    }
