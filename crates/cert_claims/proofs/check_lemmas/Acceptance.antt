-- What the waves of gates say of keys, trips and verdicts.
use Rattle.std.proofs.Common.{◌≡◌, ℕ, ◌<◌, List, length, ◌∙◌, ap}
use Rattle.std.specs.Prelude.{get_or, Result, Ok, Err, IfOk, MatchResult, []}
use Rattle.base_memory.specs.{Gives.OfFault, declared.stopped.Stopped.Stopped}
use Rattle.base_memory.specs.declared.stopped.Stopped.TheVariants as stopped
use Rattle.run_signal.specs.declared.tern.Tern.{Tern}
use Rattle.model_line.specs.{declared.script.Script.Script, declared.line.Line.Line}
use Rattle.model_logic.specs.PairMean.{PairSignals, pair_mean}
use Rattle.model_logic.specs.{Choice.declared_box, Histories.AreCovered, Tree.Tree}
use Rattle.net_gates.specs.{declared.gate.Gate.Gate, Formulas.formula_of}
use Rattle.run_waves.specs.waves.Waves.{wave_at}
use Rattle.cert_claims.specs.text.Grammar.{Claims}
use Rattle.cert_claims.specs.declared.check.claim.ClaimFault.{ClaimFault}
use Rattle.cert_claims.specs.declared.check.claim.ClaimFault.TheVariants.{NotCovered, NotHeld, No}
use Rattle.run_waves.specs.derived.Claims.{AreGateWaves, declared_world, pairs_of}
use Rattle.cert_claims.specs.check.Verdicts.{IsVerdictFault, IsFirstFault, AreSupported, AreAccepted}

-- the wave of a gate has the pairs of its tree
pub tree_pairs : (line : Line) (script : Script) (gates : List Gate) (claims : PairSignals)
    (waves : List (List Tern)) (gate : ℕ) (tree : Tree) (wave : List Tern)
    → AreGateWaves line script gates claims waves → gate < length gates
    → formula_of gates gate ≡ tree → wave ≡ get_or waves gate []
    → (t : ℕ) → t < line.horizon
    → wave_at wave t ≡ pair_mean (declared_world line script) claims tree t
tree_pairs line script gates claims waves gate tree wave are there is same t early =
    ap (λ (l : List Tern). wave_at l t) same
    ∙ (are.each gate there).values t early
    ∙ ap (λ (x : Tree). pair_mean (declared_world line script) claims x t) is

-- where the keys cover, the first fault is that of the verdicts
pub after_keys : (line : Line) (script : Script) (said : Claims) (fault : ClaimFault)
    → AreCovered line script (declared_box line) (pairs_of said.keys)
    → IsVerdictFault line script (pairs_of said.keys) said.verdicts fault
    → IsFirstFault line script said fault
after_keys line script said (NotCovered u) covered h = absurd h.wrong
after_keys line script said (NotHeld k) covered h = record { covered = covered; verdict = h }
after_keys line script said (No k fault) covered h = record { covered = covered; verdict = h }

-- the answer for the verdicts is that for all, where the keys cover
pub with_keys : {U : Type 0} (line : Line) (script : Script) (said : Claims)
    → AreCovered line script (declared_box line) (pairs_of said.keys)
    → (r : Result U (Stopped ClaimFault))
    → MatchResult r (λ _. AreSupported line script (pairs_of said.keys) said.verdicts)
    (OfFault (IsVerdictFault line script (pairs_of said.keys) said.verdicts))
    → MatchResult r (λ _. AreAccepted line script said) (OfFault (IsFirstFault line script said))
with_keys line script said covered (Ok x) h = record { covered = covered; supported = h }
with_keys line script said covered (Err (stopped.Fault fault)) h =
    after_keys line script said fault covered h
with_keys line script said covered (Err stopped.Memory) h = tt

-- what follows from an answer that is good
pub where_good : {U E : Type 0} (good told : Type 0) (wrong : E → Type 0) (r : Result U E)
    → MatchResult r (λ _. good) wrong → (good → told) → IfOk r (λ _. told)
where_good good told wrong (Ok x) h f = f h
where_good good told wrong (Err fault) h f = tt
