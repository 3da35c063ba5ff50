-- Scripts of the bench, one more.
use Rattle.std.proofs.Common.{◌≡◌, ℕ, ◌+◌, List, [], ◌∷◌, ◌++◌, length, length-append, sym, ◌∙◌, ap}
use Rattle.std.proofs.Common.{subst, arith}
use Rattle.std.proofs.lemmas.List.Elements.{All-push}
use Rattle.std.specs.List.{All}
use Rattle.model_line.specs.{declared.line.Line.Line, declared.script.Script.Script, Fits.Fits}
use Rattle.call_pilot.specs.commands.BenchScripts.{AreBenchScripts, AreScriptsFrom, IsBenchScript}

scripts_push : (i : ℕ) (scripts : List Script) (script : Script) → AreScriptsFrom i scripts
    → IsBenchScript (i + length scripts) script → AreScriptsFrom i (scripts ++ script ∷ [])
scripts_push i [] script are is =
    let first : i + 0 ≡ i = omega arith in
    (subst (λ (n : ℕ). IsBenchScript n script) first is, tt)
scripts_push i (s ∷ scripts) script are is =
    let later : i + length (s ∷ scripts) ≡ i + 1 + length scripts = omega arith in (
      are.0,
      scripts_push (i + 1) scripts script are.1
          (subst (λ (n : ℕ). IsBenchScript n script) later is),
    )

pub scripts_more : (n : ℕ) (old new : List Script) (script : Script) → new ≡ old ++ script ∷ []
    → AreBenchScripts n old → IsBenchScript (n + 1) script → AreBenchScripts (n + 1) new
scripts_more n old new script is are here =
    let count = are.count in
    let number : n + 1 ≡ 1 + length old = omega arith in
    subst (AreBenchScripts (n + 1)) (sym is)
    (record {
      count = length-append old (script ∷ []) ∙ ap (λ (k : ℕ). k + 1) count;
      each = scripts_push 1 old script are.each
          (subst (λ (k : ℕ). IsBenchScript k script) number here);
    })

pub fits_more : (line : Line) (old new : List Script) (script : Script) → new ≡ old ++ script ∷ []
    → All (Fits line) old → Fits line script → All (Fits line) new
fits_more line old new script is fit here =
    subst (All (Fits line)) (sym is) (All-push (Fits line) old script fit here)
