-- The answer of `recheck` rests on the values of a line and of scripts alone.
use Rattle.std.proofs.Common.{◌≡◌, ◌++◌, ◌∷◌, ℕ, List, [], map, get_or, refl, sym, ◌∙◌, ap, subst}
use Rattle.std.specs.Prelude.{codes, decimal}
use Rattle.std.specs.List.{concat, flat_map}
use Rattle.model_line.specs.Laws.{CountsRestOnNoInterval}
use Rattle.model_line.specs.{declared.line.Line.Line, declared.script.Script.Script}
use Rattle.model_line.specs.{declared.line.Terminal.Terminal, Parameters.param_count}
use Rattle.model_line.specs.{SetBounds.SameButParams}
use Rattle.model_logic.specs.Choice.{Box, declared_box}
use Rattle.model_logic.specs.IntervalLaws.{HistoriesRestOnNoInterval}
use Rattle.file_line.specs.Lines.{line_values}
use Rattle.file_tables.specs.script.Values.{ScriptValues, values_of}
use Rattle.base_text.specs.lines.Grammar.{text_places, text_said}
use Rattle.base_text.specs.lines.Lines.{LeavesAt, Lines}
use Rattle.cert_claims.specs.text.Grammar.{AreNumbers, end_text, script_text, terminal_names}
use Rattle.judge_split.specs.Leaves.{Splits}
use Rattle.model_logic.specs.Boxes.{lower_half, upper_half}
use Rattle.judge_split.specs.Trees.{Split, SplitTree, Undecided, Yes}
use Rattle.judge_split.specs.declared.node.Node.{Node}
use Rattle.judge_split.specs.declared.node.Node.TheVariants as node
use Rattle.cert_split.specs.text.Grammar.{HasOneEach, IsSplitResult, IsSplitText, LeavesGrammar}
use Rattle.cert_split.specs.text.Grammar.{MayStand, Place, Said, SplitResult, Stands, fails, fixed}
use Rattle.cert_split.specs.text.Grammar.{head_text, node_over, opens, part_places, result_over}
use Rattle.cert_split.specs.text.Grammar.{says_fails, says_node, says_nothing, script_parts, tree}
use Rattle.cert_split.specs.text.Grammar.{deepest, tree_places, tree_text}
use Rattle.cert_split.specs.check.Check.{IsAccepted, IsScriptFault, IsSplitFault}
use Rattle.cert_split.specs.check.Results.{AreSupported, IsFirstFault}
use Rattle.cert_split.specs.check.Counts.{all_verdicts}
use Rattle.cert_split.specs.declared.check.fault.ResultFault.{ResultFault}
use Rattle.cert_split.specs.declared.check.fault.ResultFault.TheVariants as wrong
use Rattle.cert_split.specs.declared.check.fault.SplitFault.{SplitFault}
use Rattle.cert_split.specs.declared.check.fault.SplitFault.TheVariants as fault
use Rattle.cert_claims.specs.declared.check.counts.Counts.{Counts}
use Rattle.cert_claims.specs.declared.check.no.NoFault.TheVariants as of_no
use Rattle.call_pilot.specs.{commands.Recheck.recheck_answer, commands.Recheck.rejected_pieces}
use Rattle.call_answer.specs.declared.done.Done.{Done}
use Rattle.call_answer.specs.declared.done.Done.TheVariants as done
use Rattle.call_pilot.specs.top.SameFactLaws.{box_same, same_params}
use Rattle.call_pilot.proofs.once_lemmas.SameFaults.{outside_same, passes_same, place_same}
use Rattle.call_pilot.specs.top.SameTextLaws.{heads_same, node_same}
use Rattle.call_pilot.proofs.once_lemmas.SameTrees.{can_on, result_fault_on, results_on}
use Rattle.call_pilot.specs.{top.SameValueLaws.same_but_params}
use Rattle.call_pilot.proofs.{once_lemmas.TwinTexts.lengths_same}
use Rattle.call_pilot.proofs.once_lemmas.TextLines.{leaves_on, lines_on}
use Rattle.call_pilot.proofs.once_lemmas.TwinTexts.{all_good_on, first_wrong_on}

-- ---- what can stand in a line

module _ (counts : CountsRestOnNoInterval) (a b : Line)
    (lines : line_values b ≡ line_values a) where
  others : SameButParams a b
  others = same_but_params a b lines

  numbers_on : (numbers : List ℕ) → AreNumbers (param_count a) numbers
      → AreNumbers (param_count b) numbers
  numbers_on numbers is = record {
    many = is.many ∙ sym (counts.params a b others);
    small = is.small;
  }

  may_on : (n : ℕ) (box : Box) (x : Node) → MayStand a n box x → MayStand b n box x
  may_on n box node.Yes is = tt
  may_on n box node.Undecided is = tt
  may_on n box (node.Split param mid) is = record {
    left = is.left;
    number = is.number;
    can = can_on counts a b others box param mid is.can;
  }

  pub stands_on : (place : Place) (said : Said) (bytes : List ℕ) → Stands a place said bytes
      → Stands b place said bytes
  stands_on (fixed text) said bytes is = is
  stands_on (result_over box) says_nothing bytes is = absurd is
  stands_on (result_over box) (says_fails numbers) bytes is = (numbers_on numbers is.0, is.1)
  stands_on (result_over box) (says_node x) bytes is = (
    may_on deepest box x is.0,
    is.1 ∙ sym (node_same a b others (same_params a b lines) x),
  )
  stands_on (node_over n box) says_nothing bytes is = absurd is
  stands_on (node_over n box) (says_fails numbers) bytes is = absurd is
  stands_on (node_over n box) (says_node x) bytes is = (
    may_on n box x is.0,
    is.1 ∙ sym (node_same a b others (same_params a b lines) x),
  )

  splits_on : (box : Box) (all : SplitTree) → Splits a box all → Splits b box all
  splits_on box Yes is = tt
  splits_on box Undecided is = tt
  splits_on box (Split param mid first second) is = (
    can_on counts a b others box param mid is.0,
    (
      splits_on (lower_half box param mid) first is.1.0,
      splits_on (upper_half box param mid) second is.1.1,
    ),
  )

-- ---- the text

-- the lines of a whole text
abbrev places_by : List Place → List Place
places_by parts = fixed head_text ∷ (parts ++ fixed end_text ∷ [])

module _ (counts : CountsRestOnNoInterval) (histories : HistoriesRestOnNoInterval) (a b : Line)
    (lines : line_values b ≡ line_values a) where
  result_on : (result : SplitResult) → IsSplitResult a result → IsSplitResult b result
  result_on (tree nodes) is = record {
    tree = is.tree;
    are = is.are;
    splits = subst (λ (box : Box). Splits b box is.tree)
        (sym (box_same counts histories a b lines))
        (splits_on counts a b lines (declared_box a) is.tree is.splits);
    low = is.low;
  }
  result_on (fails numbers) is = numbers_on counts a b lines numbers is

  one_each_on : (results : List SplitResult) → HasOneEach a results → HasOneEach b results
  one_each_on results is = record {
    many = is.many ∙ sym (counts.terminals a b (same_but_params a b lines));
    each = λ i d lt. result_on (get_or results i d) (is.each i d lt);
  }

  trees_same : flat_map (tree_places b) (terminal_names b)
      ≡ flat_map (tree_places a) (terminal_names a)
  trees_same =
      let made : Box → List Terminal → List Place = λ box terminals.
      flat_map (λ (name : List ℕ). fixed (tree_text name) ∷ (result_over box ∷ []))
      (map (λ (t : Terminal). t.name) terminals) in
      ap (λ (box : Box). made box b.terminals.items) (box_same counts histories a b lines)
      ∙ ap (made (declared_box a)) (same_but_params a b lines).terminals

  part_same : (x y : Script) → values_of y ≡ values_of x → part_places b y ≡ part_places a x
  part_same x y values =
      ap (λ (v : ScriptValues).
      fixed (script_text v.name) ∷ flat_map (tree_places b) (terminal_names b)) values
      ∙ ap (λ (places : List Place). fixed (script_text x.name) ∷ places) trees_same

  places_same : (xs ys : List Script) → map values_of ys ≡ map values_of xs
      → flat_map (part_places b) ys ≡ flat_map (part_places a) xs
  places_same [] [] same = refl
  places_same [] (y ∷ ys) same = absurd (cc)
  places_same (x ∷ xs) [] same = absurd (cc)
  places_same (x ∷ xs) (y ∷ ys) same =
      let heads =
      heads_same (values_of y) (values_of x) (map values_of ys) (map values_of xs) same in
      ap (λ (places : List Place). places ++ flat_map (part_places b) ys) (part_same x y heads.0)
      ∙ ap (λ (places : List Place). part_places a x ++ places) (places_same xs ys heads.1)

  module _ (xs ys : List Script) (scripts : map values_of ys ≡ map values_of xs) (bytes : List ℕ)
    where
      pub split_text_on : (parts : List (List SplitResult)) → IsSplitText a xs parts bytes
          → IsSplitText b ys parts bytes
      split_text_on parts is = record {
        many = is.many ∙ sym (lengths_same xs ys scripts);
        each = λ i d lt. one_each_on (get_or parts i d) (is.each i d lt);
        lines = subst (λ (of : List Place).
            Lines (Stands b) opens (places_by of) (text_said (script_parts a) parts) bytes [] [])
            (sym (places_same xs ys scripts))
            (lines_on (Stands a) (Stands b) opens (stands_on counts a b lines)
            (text_places (script_parts a) head_text xs end_text)
            (text_said (script_parts a) parts) bytes [] [] is.lines);
      }

      pub grammar_on : (n : ℕ) → LeavesGrammar a xs bytes n → LeavesGrammar b ys bytes n
      grammar_on n is =
          subst (λ (of : List Place). LeavesAt (Stands b) opens (places_by of) bytes 1 n)
          (sym (places_same xs ys scripts))
          (leaves_on (Stands a) (Stands b) opens (stands_on counts a b lines)
          (stands_on counts b a (sym lines)) (text_places (script_parts a) head_text xs end_text)
          bytes 1 n is)

-- ---- the answer

module _ (counts : CountsRestOnNoInterval) (histories : HistoriesRestOnNoInterval) (a b : Line)
    (lines : line_values b ≡ line_values a) (xs ys : List Script)
    (scripts : map values_of ys ≡ map values_of xs) (bytes : List ℕ) where
  accepted_on : (counted : Counts) → IsAccepted a xs bytes counted → IsAccepted b ys bytes counted
  accepted_on =
      all_good_on (λ parts. IsSplitText a xs parts bytes) (λ parts. IsSplitText b ys parts bytes)
      (AreSupported a) (AreSupported b) xs ys scripts
      (split_text_on counts histories a b lines xs ys scripts bytes)
      (results_on counts histories a b lines) all_verdicts

  script_fault_on : (i : ℕ) (f : ResultFault) → IsScriptFault a xs bytes i f
      → IsScriptFault b ys bytes i f
  script_fault_on =
      first_wrong_on (λ parts. IsSplitText a xs parts bytes) (λ parts. IsSplitText b ys parts bytes)
      (AreSupported a) (AreSupported b) xs ys scripts
      (split_text_on counts histories a b lines xs ys scripts bytes)
      (results_on counts histories a b lines) (IsFirstFault a) (IsFirstFault b)
      (result_fault_on counts histories a b lines)

  first_on : (f : SplitFault) → IsSplitFault a xs bytes f → IsSplitFault b ys bytes f
  first_on (fault.Line n) is = grammar_on counts histories a b lines xs ys scripts bytes n is
  first_on (fault.NotHeld i k n) is = script_fault_on i (wrong.NotHeld k n) is
  first_on (fault.Outside i k p value) is =
      script_fault_on i (wrong.No k (of_no.Outside p value)) is
  first_on (fault.Passes i k t) is = script_fault_on i (wrong.No k (of_no.Passes t)) is

  pieces_same : (f : SplitFault) → rejected_pieces b ys f ≡ rejected_pieces a xs f
  pieces_same (fault.Line n) = refl
  pieces_same (fault.NotHeld i k n) =
      ap (λ (at : List ℕ).
      codes "rejected NotHeld" ∷ at ∷ codes " " ∷ decimal n ∷ codes "\n" ∷ [])
      (place_same a b lines xs ys scripts i k)
  pieces_same (fault.Outside i k p value) =
      outside_same a b lines xs ys scripts i k p value
  pieces_same (fault.Passes i k t) = passes_same a b lines xs ys scripts i k t

  pub recheck_on : (d : Done) (text : List ℕ) → recheck_answer a xs bytes d text
      → recheck_answer b ys bytes d text
  recheck_on done.Good text is = record {
    counts = is.counts;
    accepted = accepted_on is.counts is.accepted;
    text_is = is.text_is;
  }
  recheck_on done.Rejected text is = record {
    why = is.why;
    first = first_on is.why is.first;
    text_is = is.text_is ∙ sym (ap (λ (l : List (List ℕ)). concat l) (pieces_same is.why));
  }
  recheck_on done.SomeNo text is = absurd is
  recheck_on done.SomeUndecided text is = absurd is
