-- Lines of a timing, read one after another.
use Rattle.std.proofs.Common.{◌≡◌, ◌≢◌, ◌+◌, ℕ, List, [], ◌∷◌, ◌++◌, map, refl, sym}
use Rattle.std.proofs.Common.{◌∙◌, ap, subst, arith}
use Rattle.std.proofs.Common.{true, Option, None, Some, ◌-◌, length, suc, length-append}
use Rattle.std.specs.Prelude.{slice_get}
use Rattle.model_history.specs.ListLaws.{after_append}
use Rattle.std.proofs.lemmas.Bool.{and_parts, and_from}
use Rattle.std.proofs.lemmas.List.{map-append}
use Rattle.std.proofs.lemmas.List.Elements.{All-nil, All-cons, All-append}
use Rattle.model_line.specs.{declared.line.Line.Line, Parameters.param_count}
use Rattle.model_logic.specs.Choice.{Box}
use Rattle.model_timing.specs.{declared.step.Step.Step, Inside.IsStepInside}
use Rattle.model_timing.specs.Timing.{comes_before, ascend}
use Rattle.base_text.specs.lines.Lines.{BeginsWith, LeavesAt}
use Rattle.base_text.specs.lines.LineLaws.{goes_one, goes_then, leaves_later, refused, absent}
use Rattle.cert_claims.specs.text.Grammar.{AreNumbers, no_words}
use Rattle.cert_settle.specs.Reading.{GoesOn, AreSteps, AreRead, IsNoNode, last_of}
use Rattle.cert_settle.specs.Reading.{timing_place}
use Rattle.cert_settle.specs.Grammar.{Place, Said, says_nothing, says_step, says_no, says_node}
use Rattle.cert_settle.specs.Grammar.{Stands, opens, after_step, result_over, Follows}
use Rattle.cert_settle.specs.Grammar.{step_text}

-- ---- steps that ascend

-- the last of one, of more, and of some and one
last_single : (s : Step ℕ) → last_of (s ∷ []) ≡ Some s
last_single s =
    let n : length (s ∷ []) - 1 ≡ 0 = omega arith in
    ap (λ (m : ℕ). slice_get (s ∷ []) m) n

last_later : (s t : Step ℕ) (steps : List (Step ℕ))
    → last_of (s ∷ t ∷ steps) ≡ last_of (t ∷ steps)
last_later s t steps =
    let n : length (s ∷ t ∷ steps) - 1 ≡ suc (length (t ∷ steps) - 1) = omega arith in
    ap (λ (m : ℕ). slice_get (s ∷ t ∷ steps) m) n

pub last_added : (steps : List (Step ℕ)) (step : Step ℕ) → last_of (steps ++ step ∷ []) ≡ Some step
last_added steps step =
    let n : length (steps ++ step ∷ []) - 1 ≡ length steps + 0 =
    omega (arith, length-append steps (step ∷ [])) in
    ap (λ (m : ℕ). slice_get (steps ++ step ∷ []) m) n ∙ after_append steps (step ∷ []) 0

-- a step after the last
ascend_with : (steps : List (Step ℕ)) (step : Step ℕ) → ascend steps ≡ true
    → Follows (last_of steps) step → ascend (steps ++ step ∷ []) ≡ true
ascend_with [] step up follows = refl
ascend_with (s ∷ []) step up follows =
    and_from (comes_before s step) true
    (subst (λ (o : Option (Step ℕ)). Follows o step) (last_single s) follows) refl
ascend_with (s ∷ t ∷ steps) step up follows =
    let parts = and_parts (comes_before s t) (ascend (t ∷ steps)) up in
    and_from (comes_before s t) (ascend (t ∷ (steps ++ step ∷ []))) parts.0
    (ascend_with (t ∷ steps) step parts.1
    (subst (λ (o : Option (Step ℕ)). Follows o step) (last_later s t steps) follows))

pub no_steps : (line : Line) (steps : List (Step ℕ)) → steps ≡ [] → AreSteps line steps
no_steps line steps is =
    subst (λ (l : List (Step ℕ)). AreSteps line l) (sym is)
    (record { inside = All-nil (IsStepInside line); ascending = refl })

pub one_step_more : (line : Line) (steps more : List (Step ℕ)) (step : Step ℕ)
    → AreSteps line steps → IsStepInside line step → Follows (last_of steps) step
    → more ≡ steps ++ step ∷ [] → AreSteps line more
one_step_more line steps more step are inside follows is =
    subst (λ (l : List (Step ℕ)). AreSteps line l) (sym is) (record {
      inside = All-append (IsStepInside line) steps (step ∷ []) are.inside
          (All-cons (IsStepInside line) step [] inside (All-nil (IsStepInside line)));
      ascending = ascend_with steps step are.ascending follows;
    })

-- ---- lines

-- the line of a step
step_goes : (line : Line) (box : Box) (last : Option (Step ℕ)) (step : Step ℕ)
    (later : List Place) (text bytes rest : List ℕ) (a b : ℕ) → BeginsWith text bytes rest
    → b ≡ a + 1 → IsStepInside line step → Follows last step → bytes ≡ step_text line step
    → GoesOn line (timing_place box last ∷ later) (says_step step ∷ []) text a
    (after_step step ∷ later) rest b
step_goes line box None step later text bytes rest a b begins next inside follows is =
    goes_one (Stands line) opens (result_over box) later (says_step step) text bytes rest a b begins
    (inside, (follows, is)) next
step_goes line box (Some last) step later text bytes rest a b begins next inside follows is =
    goes_one (Stands line) opens (after_step last) later (says_step step) text bytes rest a b begins
    (inside, (follows, is)) next

-- the line of a `no`
no_goes : (line : Line) (box : Box) (last : Option (Step ℕ)) (numbers : List ℕ)
    (later : List Place) (text bytes rest : List ℕ) (a b : ℕ) → BeginsWith text bytes rest
    → b ≡ a + 1 → AreNumbers (param_count line) numbers → bytes ≡ no_words numbers
    → GoesOn line (timing_place box last ∷ later) (says_no numbers ∷ []) text a later rest b
no_goes line box None numbers later text bytes rest a b begins next are is =
    goes_one (Stands line) opens (result_over box) later (says_no numbers) text bytes rest a b begins
    (are, is) next
no_goes line box (Some last) numbers later text bytes rest a b begins next are is =
    goes_one (Stands line) opens (after_step last) later (says_no numbers) text bytes rest a b begins
    (are, is) next

-- neither
not_timing : (line : Line) (box : Box) (last : Option (Step ℕ)) (first bytes : List ℕ)
    → (last ≡ None → bytes ≡ first) → IsNoNode line box first
    → ((step : Step ℕ) → IsStepInside line step → Follows last step
    → bytes ≢ step_text line step)
    → ((numbers : List ℕ) → AreNumbers (param_count line) numbers → bytes ≢ no_words numbers)
    → (said : Said) → ¬ (Stands line (timing_place box last) said bytes)
not_timing line box None first bytes fresh none steps numbers says_nothing is = is
not_timing line box None first bytes fresh none steps numbers (says_step s) is =
    steps s is.0 is.1.0 is.1.1
not_timing line box None first bytes fresh none steps numbers (says_no ns) is = numbers ns is.0 is.1
not_timing line box None first bytes fresh none steps numbers (says_node n) is =
    none n is.0 (sym (fresh refl) ∙ is.1)
not_timing line box (Some last) first bytes fresh none steps numbers says_nothing is = is
not_timing line box (Some last) first bytes fresh none steps numbers (says_step s) is =
    steps s is.0 is.1.0 is.1.1
not_timing line box (Some last) first bytes fresh none steps numbers (says_no ns) is =
    numbers ns is.0 is.1
not_timing line box (Some last) first bytes fresh none steps numbers (says_node n) is = is

-- ---- lines that were read

module _ (line : Line) (box : Box) (later : List Place) (text : List ℕ) (a : ℕ) where
  -- none was read yet
  pub none_read : (steps : List (Step ℕ)) (bytes rest : List ℕ) → steps ≡ []
      → BeginsWith text bytes rest → AreRead line box later text a steps bytes rest a
  none_read steps bytes rest is begins =
      subst (λ (l : List (Step ℕ)). AreRead line box later text a l bytes rest a) (sym is)
      (record {
        at = text;
        reads = record { lines = (refl, refl); number = omega arith };
        next = begins;
      })

  module _ (steps : List (Step ℕ)) (bytes rest : List ℕ) (b c : ℕ)
      (read : AreRead line box later text a steps bytes rest b) (after : c ≡ b + 1) where
    -- a step's line was the next
    step_read : (step : Step ℕ) → IsStepInside line step → Follows (last_of steps) step
        → bytes ≡ step_text line step
        → GoesOn line (result_over box ∷ later) (map says_step (steps ++ step ∷ [])) text a
        (after_step step ∷ later) rest c
    step_read step inside follows is =
        let P : List Said → Type 0 = λ l. GoesOn line (result_over box ∷ later) l text a
        (after_step step ∷ later) rest c in
        subst P (sym (map-append says_step steps (step ∷ [])))
        (goes_then (Stands line) opens (result_over box ∷ later) (map says_step steps) text a
        (timing_place box (last_of steps) ∷ later) read.at b (says_step step ∷ [])
        (after_step step ∷ later) rest c read.reads
        (step_goes line box (last_of steps) step later read.at bytes rest b c read.next after inside
        follows is))

    pub one_more_read : (step : Step ℕ) (more : List (Step ℕ)) (line_bytes left : List ℕ)
        → IsStepInside line step → Follows (last_of steps) step → bytes ≡ step_text line step
        → more ≡ steps ++ step ∷ [] → BeginsWith rest line_bytes left
        → AreRead line box later text a more line_bytes left c
    one_more_read step more line_bytes left inside follows is added begins =
        let places : Option (Step ℕ) → List Place = λ o. timing_place box o ∷ later in
        subst (λ (l : List (Step ℕ)). AreRead line box later text a l line_bytes left c)
        (sym added) (record {
          at = rest;
          reads = subst (λ (o : Option (Step ℕ)). GoesOn line (result_over box ∷ later)
              (map says_step (steps ++ step ∷ [])) text a (places o) rest c)
              (sym (last_added steps step)) (step_read step inside follows is);
          next = begins;
        })

    -- and no line comes after it
    pub missing : (step : Step ℕ) (n : ℕ) → IsStepInside line step
        → Follows (last_of steps) step → bytes ≡ step_text line step → n ≡ c
        → ((other left : List ℕ) → ¬ (BeginsWith rest other left))
        → LeavesAt (Stands line) opens (result_over box ∷ later) text a n
    missing step n inside follows is said never =
        subst (λ (m : ℕ). LeavesAt (Stands line) opens (result_over box ∷ later) text a m)
        (sym said)
        (leaves_later (Stands line) opens (result_over box ∷ later)
        (map says_step (steps ++ step ∷ [])) text a (after_step step ∷ later) rest c c
        (step_read step inside follows is)
        (absent (Stands line) opens (after_step step) later rest c never))

    -- the numbers of a `no` were the next
    pub no_read : (numbers : List ℕ) → AreNumbers (param_count line) numbers
        → bytes ≡ no_words numbers
        → GoesOn line (result_over box ∷ later) (map says_step steps ++ says_no numbers ∷ []) text a
        later rest c
    no_read numbers are is =
        goes_then (Stands line) opens (result_over box ∷ later) (map says_step steps) text a
        (timing_place box (last_of steps) ∷ later) read.at b (says_no numbers ∷ []) later rest c
        read.reads
        (no_goes line box (last_of steps) numbers later read.at bytes rest b c read.next after are is)

    -- the next line cannot stand
    pub refused_here : (first : List ℕ) → (last_of steps ≡ None → bytes ≡ first)
        → IsNoNode line box first
        → ((step : Step ℕ) → IsStepInside line step → Follows (last_of steps) step
        → bytes ≢ step_text line step)
        → ((numbers : List ℕ) → AreNumbers (param_count line) numbers → bytes ≢ no_words numbers)
        → LeavesAt (Stands line) opens (result_over box ∷ later) text a b
    refused_here first fresh none steps_none numbers_none =
        leaves_later (Stands line) opens (result_over box ∷ later) (map says_step steps) text a
        (timing_place box (last_of steps) ∷ later) read.at b b read.reads
        (refused (Stands line) opens (timing_place box (last_of steps)) later read.at bytes rest b
        read.next
        (not_timing line box (last_of steps) first bytes fresh none steps_none numbers_none))
