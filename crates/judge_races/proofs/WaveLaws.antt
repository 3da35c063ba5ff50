-- Waves of gates over an interval history, and what they tell of signals.
use Rattle.std.proofs.Common.{◌≡◌, ◌<◌, ℕ, Bool, false, List, [], ◌∷◌, ◌++◌, length, refl, sym, ◌∙◌, ap, subst, arith}
use Rattle.std.specs.Prelude.{get_or, Option, Vec}
use Rattle.std.specs.declared.alloc.Global.{Global}
use Rattle.model_history.specs.Rails.{may_of}
use Rattle.judge_races.specs.Lasting.{may_be}
use Rattle.judge_races.specs.Races.{Column, columns_of}
use Rattle.std.proofs.lemmas.List.{get_or-map}
use Rattle.std.proofs.lemmas.Option.{slice_get-get_or}
use Rattle.model_line.specs.{declared.line.Line.Line, declared.script.Script.Script}
use Rattle.model_line.specs.Parameters.{terminal_count}
use Rattle.model_logic.specs.Choice.{declared_box, LeastFromOne}
use Rattle.model_logic.specs.Histories.{PairHistory, IsSamePairHistory}
use Rattle.model_logic.specs.{Laws.ValuesRestOnEarlierKeys, PairMean.PairSignals, Names.Names}
use Rattle.model_logic.specs.Tree.{Tree, Const, Seal}
use Rattle.net_gates.specs.declared.{gate.Gate.Gate, gate.GateId.GateId}
use Rattle.net_gates.specs.Formulas.{formula_of}
use Rattle.run_signal.specs.declared.tern.Tern.{Tern}
use Rattle.run_waves.specs.waves.Waves.{wave_at, AreWaves}
use Rattle.run_waves.specs.derived.Claims.{AreGateWaves, pairs_of}
use Rattle.judge_verdict.specs.verdict.Verdicts.{AreKeys}
use Rattle.judge_races.specs.Stretches.{AreOffs, Longest}
use Rattle.judge_races.specs.Lacks.{IsColumn}
use Rattle.net_gates.specs.Formulas.{trees_of}
use Rattle.judge_races.specs.declared.stretch.Stretch.{Stretch}

-- the keys that waves were taken of are those of the interval history
pub keys_same : (line : Line) (own w : PairHistory) (keys : List (List Tern)) → AreKeys line own keys
    → IsSamePairHistory line own w → (k r : ℕ) → k < terminal_count line → r < line.horizon
    → pairs_of keys k r ≡ w.key k r
keys_same line own w keys are same k r terminal within =
    (are.each k (get_or keys k []) (slice_get-get_or keys k [] (omega (arith, are.count, terminal)))).values
    r within
    ∙ same.keys k r terminal within

pub waves_over : ValuesRestOnEarlierKeys → (line : Line) (script : Script) (gates : List Gate)
    (claims keys : PairSignals) (waves : List (List Tern)) → LeastFromOne line (declared_box line)
    → ((i : ℕ) → Names line (formula_of gates i))
    → ((k r : ℕ) → k < terminal_count line → r < line.horizon → claims k r ≡ keys k r)
    → AreGateWaves line script gates claims waves → AreGateWaves line script gates keys waves
waves_over values line script gates claims keys waves least names same are = record {
  many = are.many;
  each = λ gate within. record {
    long = (are.each gate within).long;
    values = λ t lt. (are.each gate within).values t lt
        ∙ values.pair line script (declared_box line) claims keys (formula_of gates gate) t least lt
        (names gate) (λ k r terminal before. same k r terminal (omega (arith, before, lt)));
  };
}

-- signals that are the same below n are off at the same ticks
pub offs_same : (u v : ℕ → Bool) (n : ℕ) (offs : List ℕ) → ((t : ℕ) → t < n → u t ≡ v t)
    → AreOffs u n offs → AreOffs v n offs
offs_same u v n offs same are = record {
  count = are.count;
  each = λ r e at.
      let is = are.each r e at in
      record {
        later = is.later;
        within = is.within;
        on = λ s low high. sym (same s (omega (arith, high, is.within))) ∙ is.on s low high;
        off = λ lt. sym (same e lt) ∙ is.off lt;
      };
}

own_length : (u : ℕ → Bool) (n : ℕ) (offs read : List ℕ) → read ≡ offs → AreOffs u n offs
    → AreOffs u (length read) read
own_length u n offs read same are =
    let P : List ℕ → Type 0 = λ l. AreOffs u (length l) l in
    let Q : ℕ → Type 0 = λ m. AreOffs u m offs in
    subst P (sym same) (subst Q (sym are.count) are)

read_length : (u : ℕ → Bool) (n : ℕ) (offs read : List ℕ) → read ≡ offs → AreOffs u n offs
    → length read ≡ n
read_length u n offs read same are = ap length same ∙ are.count

-- what a wave's ticks tell of a signal that it has below n
pub column_told : (u v : ℕ → Bool) (n p : ℕ) (offs read : List ℕ) (column : List (Option ℕ))
    → read ≡ offs → AreOffs u n offs → ((t : ℕ) → t < n → u t ≡ v t)
    → ((x : ℕ → Bool) → AreOffs x (length read) read → IsColumn x p (length read) column)
    → IsColumn v p n column
column_told u v n p offs read column is are same told =
    let of_v : AreOffs v n offs = offs_same u v n offs same are in
    let P : ℕ → Type 0 = λ m. IsColumn v p m column in
    subst P (read_length v n offs read is of_v) (told v (own_length v n offs read is of_v))

pub longest_told : (u v : ℕ → Bool) (n : ℕ) (offs read : List ℕ) (found : Option Stretch)
    → read ≡ offs → AreOffs u n offs → ((t : ℕ) → t < n → u t ≡ v t)
    → ((x : ℕ → Bool) → AreOffs x (length read) read → Longest x (length read) found)
    → Longest v n found
longest_told u v n offs read found is are same told =
    let of_v : AreOffs v n offs = offs_same u v n offs same are in
    let P : ℕ → Type 0 = λ m. Longest v m found in
    subst P (read_length v n offs read is of_v) (told v (own_length v n offs read is of_v))

-- the tree that a gate of these stands for
pub tree_there : (gates : List Gate) (ids : List GateId) (trees : List Tree) (i : ℕ) (id : GateId)
    → trees_of gates ids ≡ trees → i < length ids → id ≡ get_or ids i id
    → formula_of gates id.0 ≡ get_or trees i (Const false)
tree_there gates ids trees i id same within is =
    ap (λ (x : GateId). formula_of gates x.0) is
    ∙ sym (get_or-map (λ (x : GateId). formula_of gates x.0) ids i id (Const false) within)
    ∙ ap (λ (l : List Tree). get_or l i (Const false)) same

pub seal_set : (a b x y : Tree) → Seal a b ≡ Seal x y → a ≡ x
seal_set a b x y e = let same : a ≡ x = cc in same

-- the wave of a gate tells where its tree may be on
pub wave_same : (line : Line) (script : Script) (gates : List Gate) (w : PairHistory)
    (waves : List (List Tern)) (wave : List Tern) (gate : ℕ) (tree : Tree)
    → wave ≡ get_or waves gate [] → AreGateWaves line script gates w.key waves → gate < length gates
    → formula_of gates gate ≡ tree → (t : ℕ) → t < line.horizon
    → may_of (wave_at wave t) ≡ may_be line script w tree t
wave_same line script gates w waves wave gate tree is are within stands t lt =
    ap (λ (l : List Tern). may_of (wave_at l t)) is ∙ ap may_of ((are.each gate within).values t lt)
    ∙ ap (λ x. may_be line script w x t) stands

-- what the wave of a gate tells it tells of all ticks
pub own_offs : (k n : ℕ) (waves : List (List Tern)) (wave : List Tern) (gate : ℕ) (offs : List ℕ)
    → wave ≡ get_or waves gate [] → AreWaves k n waves → gate < k
    → AreOffs (λ t. may_of (wave_at wave t)) (length wave) offs
    → AreOffs (λ t. may_of (wave_at wave t)) n offs
own_offs k n waves wave gate offs is are within offs_are =
    let P : ℕ → Type 0 = λ m. AreOffs (λ t. may_of (wave_at wave t)) m offs in
    subst P (ap (λ (l : List Tern). length l) is ∙ are.long gate within) offs_are

pub tree_at_index : (gates : List Gate) (ids : List GateId) (i : ℕ) (d : GateId) → i < length ids
    → formula_of gates (get_or ids i d).0 ≡ get_or (trees_of gates ids) i (Const false)
tree_at_index gates ids i d within =
    sym (get_or-map (λ (x : GateId). formula_of gates x.0) ids i d (Const false) within)

pushed : (columns : List (Vec (Option ℕ) Global)) (x : Vec (Option ℕ) Global)
    → columns_of (columns ++ x ∷ []) ≡ columns_of columns ++ x.items ∷ []
pushed [] x = refl
pushed (y ∷ columns) x = ap (λ (l : List Column). y.items ∷ l) (pushed columns x)

pub columns_push : (columns new : List (Vec (Option ℕ) Global)) (x : Vec (Option ℕ) Global)
    → new ≡ columns ++ x ∷ [] → columns_of new ≡ columns_of columns ++ x.items ∷ []
columns_push columns new x is = ap columns_of is ∙ pushed columns x
