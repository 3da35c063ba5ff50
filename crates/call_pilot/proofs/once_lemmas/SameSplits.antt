-- What a search finds, and the split trees that say it, rest on the values of a line and of scripts
-- alone.
use Rattle.std.proofs.Common.{◌≡◌, ◌<◌, ◌≤◌, ◌-◌, ◌+◌, ◌/◌, ℕ, suc, Bool, cond, List, map, refl}
use Rattle.std.proofs.Common.{sym, ◌∙◌, ap, subst}
use Rattle.std.proofs.Math.Path.{fun_ext}
use Rattle.model_history.specs.Rails.{Ends}
use Rattle.model_line.specs.Laws.{CountsRestOnNoInterval}
use Rattle.model_line.specs.Parameters.{declared_ends, is_delay, param_count, declared_middle}
use Rattle.model_line.specs.{declared.line.Line.Line, declared.script.Script.Script}
use Rattle.model_line.specs.{declared.line.Param.Param, SetBounds.SameButParams}
use Rattle.model_line.specs.{SetBounds.WithBounds, WithBounds.IsWithBounds}
use Rattle.model_logic.specs.IntervalLaws.{HistoriesRestOnNoInterval}
use Rattle.file_line.specs.Lines.{line_values}
use Rattle.file_tables.specs.script.Values.{values_of}
use Rattle.judge_verdict.specs.declared.verdict.verdict.Verdict.{Verdict}
use Rattle.judge_verdict.specs.declared.verdict.verdict.Verdict.TheVariants as verdict
use Rattle.judge_split.specs.{Found.IsFound, Trees.Split, declared.node.Outcome.Outcome}
use Rattle.judge_split.specs.declared.node.Outcome.TheVariants as outcome
use Rattle.judge_split.specs.Search.{Fails, Found, IsLower, IsSearch, IsSplitAt, IsUpper}
use Rattle.judge_split.specs.Search.{IsVerdictOf, Tree, deepest, first_fails, narrow, no}
use Rattle.judge_split.specs.Search.{second_fails, split, yes}
use Rattle.judge_split.specs.Widths.{IsNarrow, IsWidest, width}
use Rattle.cert_split.specs.text.Grammar.{SplitResult}
use Rattle.cert_own.specs.Searched.{AreSearched}
use Rattle.call_pilot.specs.commands.Split.{split_answer}
use Rattle.call_answer.specs.declared.done.Done.{Done}
use Rattle.call_pilot.specs.top.SameFactLaws.{ends_same, pair_history_on, same_params}
use Rattle.call_pilot.specs.{top.SameTextLaws.split_same, top.SameValueLaws.same_but_params}
use Rattle.call_pilot.proofs.{once_lemmas.SameVerdicts.verdict_on, once_lemmas.TwinLists.zip_on}

-- ---- where a box is split

module _ (counts : CountsRestOnNoInterval) (histories : HistoriesRestOnNoInterval) (a b : Line)
    (lines : line_values b ≡ line_values a) where
  others : SameButParams a b
  others = same_but_params a b lines

  width_same : (p : ℕ) → width b p ≡ width a p
  unfolding width
  width_same p =
      let made : Bool → (ℕ → Ends) → ℕ = λ told ends.
      cond told 0 ((ends p).greatest - (ends p).least) in
      ap (λ (told : Bool). made told (declared_ends b)) (counts.told a b p others)
      ∙ ap (made (is_delay a p)) (ends_same counts histories a b lines)

  widths_same : width a ≡ width b
  widths_same = fun_ext (λ p. sym (width_same p))

  params_in : (i : ℕ) → i < param_count b → i < param_count a
  params_in i lt = subst (λ (n : ℕ). i < n) (counts.params a b others) lt

  widest_on : (p : ℕ) → IsWidest a p → IsWidest b p
  widest_on p is = record {
    exists = subst (λ (n : ℕ). p < n) (sym (counts.params a b others)) is.exists;
    free = subst (λ (f : ℕ → ℕ). 0 < f p) widths_same is.free;
    widest = λ i lt.
        subst (λ (f : ℕ → ℕ). f i ≤ f p) widths_same (is.widest i (params_in i lt));
    first = λ i lt. subst (λ (f : ℕ → ℕ). f i < f p) widths_same (is.first i lt);
  }

  narrow_on : IsNarrow a → IsNarrow b
  narrow_on is = record {
    narrow = λ i lt. width_same i ∙ is.narrow i (params_in i lt);
  }

  middle_same : (p : ℕ) → declared_middle b p ≡ declared_middle a p
  middle_same p =
      ap (λ (ends : ℕ → Ends). ((ends p).least + (ends p).greatest) / 2)
      (ends_same counts histories a b lines)

  bounds_on : (p least greatest : ℕ) (other : Line) → IsWithBounds a p least greatest other
      → IsWithBounds b p least greatest other
  bounds_on p least greatest other is = record {
    params = subst (λ (ps : List Param). WithBounds ps other.params.items p least greatest)
        (sym (same_params a b lines)) is.params;
    rest = record {
      tick_us = is.rest.tick_us ∙ sym others.tick_us;
      horizon = is.rest.horizon ∙ sym others.horizon;
      scheme = is.rest.scheme ∙ sym others.scheme;
      zone1_trip = is.rest.zone1_trip ∙ sym others.zone1_trip;
      terminals = is.rest.terminals ∙ sym others.terminals;
      channels = is.rest.channels ∙ sym others.channels;
    };
  }

  lower_on : (p : ℕ) (first : Line) → IsLower a p first → IsLower b p first
  lower_on p first is =
      subst (λ (ends : ℕ → Ends).
      IsWithBounds b p (ends p).least (((ends p).least + (ends p).greatest) / 2) first)
      (sym (ends_same counts histories a b lines))
      (bounds_on p (declared_ends a p).least (declared_middle a p) first is)

  upper_on : (p : ℕ) (second : Line) → IsUpper a p second → IsUpper b p second
  upper_on p second is =
      subst (λ (ends : ℕ → Ends).
      IsWithBounds b p (((ends p).least + (ends p).greatest) / 2 + 1) (ends p).greatest second)
      (sym (ends_same counts histories a b lines))
      (bounds_on p (declared_middle a p + 1) (declared_ends a p).greatest second is)

-- ---- a search

module _ (counts : CountsRestOnNoInterval) (histories : HistoriesRestOnNoInterval) (s r : Script)
    (values : values_of r ≡ values_of s) (k : ℕ) where
  said_on : (a b : Line) → line_values b ≡ line_values a → (v : Verdict) → IsVerdictOf a s k v
      → IsVerdictOf b r k v
  said_on a b lines v said = λ w is.
      verdict_on counts histories a b lines s r values k w v
      (said w (pair_history_on counts histories b a (sym lines) r s (sym values) w is))

  at_on : (a b : Line) → line_values b ≡ line_values a → (p : ℕ) → IsSplitAt a s k p
      → IsSplitAt b r k p
  at_on a b lines p is = record {
    undecided = said_on a b lines verdict.Undecided is.undecided;
    widest = widest_on counts histories a b lines p is.widest;
  }

  search_on : (n : ℕ) (a : Line) (found : Found) → IsSearch s k n a found → (b : Line)
      → line_values b ≡ line_values a → IsSearch r k n b found
  search_on _ _ _ (yes n a said) b lines = yes n b (said_on a b lines verdict.Yes said)
  search_on _ _ _ (no n a timing said) b lines =
      no n b timing (said_on a b lines (verdict.No timing) said)
  search_on _ _ _ (deepest a said) b lines = deepest b (said_on a b lines verdict.Undecided said)
  search_on _ _ _ (narrow n a said none) b lines =
      narrow n b (said_on a b lines verdict.Undecided said)
      (narrow_on counts histories a b lines none)
  search_on _ _ _ (first_fails n a p first timing at is_lower below) b lines =
      first_fails n b p first timing (at_on a b lines p at)
      (lower_on counts histories a b lines p first is_lower)
      (search_on n first (Fails timing) below first refl)
  search_on _ _ _ (second_fails n a p first second lower timing at is_lower below is_upper above)
      b lines =
      second_fails n b p first second lower timing (at_on a b lines p at)
      (lower_on counts histories a b lines p first is_lower)
      (search_on n first (Tree lower) below first refl)
      (upper_on counts histories a b lines p second is_upper)
      (search_on n second (Fails timing) above second refl)
  search_on _ _ _ (split n a p first second lower upper at is_lower below is_upper above) b lines =
      subst (λ (mid : ℕ). IsSearch r k (suc n) b (Tree (Split p mid lower upper)))
      (middle_same counts histories a b lines p)
      (split n b p first second lower upper (at_on a b lines p at)
      (lower_on counts histories a b lines p first is_lower)
      (search_on n first (Tree lower) below first refl)
      (upper_on counts histories a b lines p second is_upper)
      (search_on n second (Tree upper) above second refl))

-- ---- what is searched

module _ (counts : CountsRestOnNoInterval) (histories : HistoriesRestOnNoInterval) (a b : Line)
    (lines : line_values b ≡ line_values a) (n : ℕ) where
  found_on : (s r : Script) → values_of r ≡ values_of s → (k : ℕ) (found : Outcome)
      → IsFound a s k n found → IsFound b r k n found
  found_on s r values k (outcome.Tree nodes) is = record {
    tree = is.tree;
    are = is.are;
    found = search_on counts histories s r values k n a (Tree is.tree) is.found b lines;
  }
  found_on s r values k (outcome.Fails timing) is =
      search_on counts histories s r values k n a (Fails timing) is b lines

  searched_on : (s r : Script) → values_of r ≡ values_of s → (results : List SplitResult)
      → AreSearched a n s results → AreSearched b n r results
  searched_on s r values results is = record {
    searches = is.searches;
    found = record {
      count = is.found.count ∙ sym (counts.terminals a b (same_but_params a b lines));
      each = λ k found at. found_on s r values k found (is.found.each k found at);
    };
    written = is.written;
  }

  pub split_on : (xs ys : List Script) → map values_of ys ≡ map values_of xs → (d : Done)
      (text : List ℕ) → split_answer a xs n d text → split_answer b ys n d text
  split_on xs ys scripts d text is = record {
    parts = is.parts;
    searched = zip_on (AreSearched a n) (AreSearched b n) searched_on xs ys scripts is.parts
        is.searched;
    status_is = is.status_is;
    text_is = is.text_is
        ∙ sym (split_same a b (same_but_params a b lines) (same_params a b lines) xs ys is.parts
        scripts);
  }
