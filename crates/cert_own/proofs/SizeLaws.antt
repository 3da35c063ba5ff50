-- The text of a certificate is short.
use Rattle.std.proofs.Common.{◌≡◌, ◌≤◌, ◌<◌, ◌+◌, ◌*◌, ◌==◌, ◌^◌, ◌⊎◌, ℕ, suc, Bool, true, false, cond, refl, List, []}
use Rattle.std.proofs.Common.{◌∷◌, ◌++◌, length, map, ap, arith, decimal, length-append, inl, inr}
use Rattle.std.proofs.lemmas.Bool.{cases_lt}
use Rattle.std.proofs.lemmas.Fmt.{length-decimal-le}
use Rattle.std.proofs.lemmas.List.Elements.{All-head, All-tail}
use Rattle.std.specs.List.{All, join_with_byte}
use Rattle.model_line.specs.{declared.line.Line.Line, declared.script.Script.Script, Fits.Fits}
use Rattle.model_line.specs.Parameters.{param_count, terminal_count}
use Rattle.run_signal.specs.declared.tern.Tern.{Tern}
use Rattle.run_waves.specs.waves.Text.{begin_with, item_text, level_letter, runs_of, runs_text}
use Rattle.run_waves.specs.waves.Waves.{run_of}
use Rattle.base_text.specs.lines.SpacedNumberLaws.{numbers_short}
use Rattle.base_text.specs.lines.SpacedNumbers.{numbers_text}
use Rattle.cert_claims.specs.text.Grammar.{Claims, HasNumbers, Place, Said, Verdict, key_of, verdict_of}
use Rattle.cert_claims.specs.text.Grammar.{yes, no, undecided, says_key, says_verdict, script_text, key_text}
use Rattle.cert_claims.specs.text.Grammar.{no_words, terminal_names, verdict_text, verdict_words, claim_places}
use Rattle.cert_claims.specs.text.Grammar.{claims_said, end_text, head_text}
use Rattle.cert_claims.specs.text.NameLaws.{names_count}
use Rattle.cert_claims.specs.text.Text.{CanBeWritten, fed, lines_text, part_text, parts_text}
use Rattle.cert_split.specs.text.NameLaws.{IsLineUpTo, name_stands, terminals_stand}

-- ---- waves

-- three more than the ticks of each run
abbrev weight : {R : Type 0} → List R → (R → ℕ) → ℕ
weight [] ticks = 0
weight (run ∷ runs) ticks = 3 + ticks run + weight runs ticks

-- each has a tick at least
abbrev AreSome : {R : Type 0} → List R → (R → ℕ) → Type 0
AreSome [] ticks = Unit {0}
AreSome (run ∷ runs) ticks = (1 ≤ ticks run) × AreSome runs ticks

-- a number from 1 on has no more digits than it says
digits_few : (n : ℕ) → 1 ≤ n → n < 1000000000 → length (decimal n) ≤ n
digits_few n some small =
    elim (cases_lt n 10) [
      | inl less ↦
          let e = length-decimal-le 1 n (omega arith) (omega arith) (omega arith) in
          omega (arith, e, some)
      | inr more ↦
          let e = length-decimal-le 10 n (omega arith) (omega arith) (omega arith) in
          omega (arith, e, more)
    ]

module _ {R : Type 0} (ticks : R → ℕ) (text : R → List ℕ)
    (long : (run : R) → length (text run) ≡ 2 + length (decimal (ticks run))) where
  items_short : (runs : List R) → AreSome runs ticks → weight runs ticks < 1000000000
      → length (join_with_byte 32 (map text runs)) ≤ weight runs ticks
  items_short [] some small = omega arith
  items_short (run ∷ []) some small =
      omega (arith, long run, digits_few (ticks run) some.0 (omega (arith, small)))
  items_short (run ∷ next ∷ runs) some small =
      let more = items_short (next ∷ runs) some.1 (omega (arith, small)) in
      omega (
        arith,
        more,
        long run,
        digits_few (ticks run) some.0 (omega (arith, small)),
        length-append (text run) (32 ∷ join_with_byte 32 (map text (next ∷ runs))),
      )

-- runs that are made tick by tick
module _ {R : Type 0} (begun : Tern → List R → List R) (ticks : R → ℕ)
    (first : (l : Tern) → (weight (begun l []) ticks ≤ 4) × AreSome (begun l []) ticks)
    (more : (l : Tern) (run : R) (runs : List R)
    → (weight (begun l (run ∷ runs)) ticks ≤ 4 + weight (run ∷ runs) ticks)
    × (AreSome (run ∷ runs) ticks → AreSome (begun l (run ∷ runs)) ticks)) where
  begun_few : (l : Tern) (runs : List R) → AreSome runs ticks
      → (weight (begun l runs) ticks ≤ 4 + weight runs ticks) × AreSome (begun l runs) ticks
  begun_few l [] some = first l
  begun_few l (run ∷ runs) some = ((more l run runs).0, (more l run runs).1 some)

  all_few : (all : List Tern → List R) → all [] ≡ []
      → ((l : Tern) (ls : List Tern) → all (l ∷ ls) ≡ begun l (all ls)) → (wave : List Tern)
      → (weight (all wave) ticks ≤ 4 * length wave) × AreSome (all wave) ticks
  all_few all none next [] = rw none (omega arith, tt)
  all_few all none next (l ∷ ls) =
      let before = all_few all none next ls in
      let now = begun_few l (all ls) before.1 in
      rw (next l ls) (omega (arith, before.0, now.0), now.1)

wave_short : (wave : List Tern) → length wave ≤ 4000 → length (runs_text wave) ≤ 16000
wave_short wave few =
    let all = all_few begin_with (λ run. run.ticks) (λ l. (omega arith, (omega arith, tt)))
    (λ l run runs. elim (level_letter l == level_letter run.level) as (λ b.
    (weight (cond b (run_of l (suc run.ticks) ∷ runs) (run_of l 1 ∷ run ∷ runs)) (λ r. r.ticks)
    ≤ 4 + weight (run ∷ runs) (λ r. r.ticks))
    × (AreSome (run ∷ runs) (λ r. r.ticks)
    → AreSome (cond b (run_of l (suc run.ticks) ∷ runs) (run_of l 1 ∷ run ∷ runs)) (λ r. r.ticks))) [
      | true ↦ (omega arith, λ some. (omega arith, some.1))
      | false ↦ (omega arith, λ some. (omega arith, some))
    ]) runs_of refl (λ l ls. refl) wave in
    omega (
      arith,
      all.0,
      items_short (λ run. run.ticks) item_text (λ run. omega arith) (runs_of wave) all.1 (omega (arith, all.0)),
    )

-- ---- lines

key_short : (name : List ℕ) (wave : List Tern) → length name ≤ 16 → length wave ≤ 4000
    → length (fed (key_text name wave)) ≤ 16022
key_short name wave short few =
    let text : List ℕ = runs_text wave in
    omega (
      arith,
      short,
      wave_short wave few,
      length-append name (32 ∷ text),
      length-append (key_text name wave) (10 ∷ []),
    )

words_short : (line : Line) (few : param_count line ≤ 63) (v : Verdict) → HasNumbers line v
    → length (verdict_words v) ≤ 695
words_short line few yes has = omega arith
words_short line few (no numbers) has =
    omega (arith, few, has.many, numbers_short numbers has.small)
words_short line few undecided has = omega arith

verdict_short : (line : Line) (few : param_count line ≤ 63) (name : List ℕ) (v : Verdict)
    → length name ≤ 16 → HasNumbers line v → length (fed (verdict_text name v)) ≤ 721
verdict_short line few name v short has =
    let words : List ℕ = verdict_words v in
    omega (
      arith,
      short,
      words_short line few v has,
      length-append name (32 ∷ words),
      length-append (verdict_text name v) (10 ∷ []),
    )

module _ (line : Line) (few : param_count line ≤ 63) where
  keys_short : (names : List (List ℕ)) (keys : List (List Tern)) (places : List Place)
      (said : List Said) → length keys ≡ length names → All (IsLineUpTo 16) names
      → All (λ wave. length wave ≡ line.horizon) keys
      → length (lines_text (map key_of names ++ places) (map says_key keys ++ said))
      ≤ 16022 * length names + length (lines_text places said)
  keys_short [] [] places said many plain waves = omega arith
  keys_short [] (wave ∷ keys) places said many plain waves = absurd (omega arith)
  keys_short (name ∷ names) [] places said many plain waves = absurd (omega arith)
  keys_short (name ∷ names) (wave ∷ keys) places said many plain waves =
      let P : List Tern → Type 0 = λ wave. length wave ≡ line.horizon in
      let more = keys_short names keys places said (omega (arith, many))
      (All-tail (IsLineUpTo 16) name names plain) (All-tail P wave keys waves) in
      let short = (All-head (IsLineUpTo 16) name names plain).short in
      let long : length wave ≡ line.horizon = All-head P wave keys waves in
      omega (
        arith,
        more,
        key_short name wave short (omega (arith, long, line.horizon_in_range.1)),
        length-append (fed (key_text name wave))
            (lines_text (map key_of names ++ places) (map says_key keys ++ said)),
      )

  verdicts_short : (names : List (List ℕ)) (verdicts : List Verdict)
      → All (IsLineUpTo 16) names → All (HasNumbers line) verdicts
      → length (lines_text (map verdict_of names) (map says_verdict verdicts)) ≤ 721 * length names
  verdicts_short [] verdicts plain numbers = omega arith
  verdicts_short (name ∷ names) [] plain numbers = omega arith
  verdicts_short (name ∷ names) (v ∷ verdicts) plain numbers =
      let more = verdicts_short names verdicts (All-tail (IsLineUpTo 16) name names plain)
      (All-tail (HasNumbers line) v verdicts numbers) in
      let short = (All-head (IsLineUpTo 16) name names plain).short in
      omega (
        arith,
        more,
        verdict_short line few name v short (All-head (HasNumbers line) v verdicts numbers),
        length-append (fed (verdict_text name v))
            (lines_text (map verdict_of names) (map says_verdict verdicts)),
      )

  part_short : (script : Script) (claims : Claims) → Fits line script → CanBeWritten line claims
      → length (part_text line script claims) ≤ 50253
  part_short script claims fits can =
      let names : List (List ℕ) = terminal_names line in
      let three = line.two_or_three.1 in
      let short = (name_stands script.name fits.plain_name).short in
      let keys = keys_short names claims.keys (map verdict_of names) (map says_verdict claims.verdicts)
      (omega (arith, names_count line, can.each.keys)) (terminals_stand line) can.waves in
      omega (
        arith,
        short,
        three,
        names_count line,
        keys,
        verdicts_short names claims.verdicts (terminals_stand line) can.numbers,
        length-append (script_text script.name) (10 ∷ []),
        length-append (fed (script_text script.name)) (lines_text (claim_places line) (claims_said claims)),
      )

  pub parts_short : (scripts : List Script) (claims : List Claims) → All (Fits line) scripts
      → All (CanBeWritten line) claims
      → length (parts_text line scripts claims) ≤ 50253 * length scripts
  parts_short [] claims fit can = omega arith
  parts_short (script ∷ scripts) [] fit can = omega arith
  parts_short (script ∷ scripts) (c ∷ claims) fit can =
      omega (
        arith,
        part_short script c (All-head (Fits line) script scripts fit)
            (All-head (CanBeWritten line) c claims can),
        parts_short scripts claims (All-tail (Fits line) script scripts fit)
            (All-tail (CanBeWritten line) c claims can),
        length-append (part_text line script c) (parts_text line scripts claims),
      )
