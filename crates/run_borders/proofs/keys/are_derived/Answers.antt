use Rattle.std.proofs.Common.{◌≡◌, ℕ, [], refl, sym, ◌∙◌, ap, arith, subst, ⊎_elim}
use Rattle.std.proofs.lemmas.Bool.{cases_lt}
use Rattle.std.specs.Prelude.{get_or}
use Rattle.net_gates.specs.NetOf.{key_of}
use Rattle.run_borders.proofs.keys.are_derived.Goals as goal

pub loop-k-preserved : goal.loop-k-preserved
loop-k-preserved c =
    let waves = c.args.waves.now in
    let keys = c.args.keys.now in
    let now : get_or keys c.loop-k.k [] ≡ get_or waves (key_of c.args.net.now c.loop-k.k) [] =
    sym c.nth-key.ensures ∙ c.if-not-is_like.ensures refl ∙ c.nth-derived.ensures
    ∙ ap (λ (g : ℕ). get_or waves g []) c.key_gate-gate.ensures.is in
    record {
      each = λ j lt.
          ⊎_elim (λ early. c.loop-k.invariant.each j early)
          (λ late.
          let here : c.loop-k.k ≡ j = omega (arith, lt, late) in
          subst (λ (i : ℕ). get_or keys i [] ≡ get_or waves (key_of c.args.net.now i) []) here now)
          (cases_lt j c.loop-k.k);
    }
