use Rattle.std.proofs.Common.{◌≡◌, ◌+◌, ◌<◌, ◌∙◌, ℕ, List, length, get_or, sym, subst, ap, arith}
use Rattle.model_line.specs.{declared.line.Line.Line, declared.script.Script.Script, Fits.Fits}
use Rattle.call_page.specs.Parts.{fault_name}
use Rattle.call_facts.specs.Drawings.{IsBandsOf}
use Rattle.call_page.proofs.There.{at_read}
use Rattle.call_page.proofs.fault.fault.Goals as goal

pub bands-requires : goal.bands-requires
bands-requires c =
    let study = c.args.known.now.study.now in
    let i : ℕ = c.args.part.start + c.shown.result in
    let script : Script = c.index-scripts-part.result in
    let there : i < length study.scripts.items =
    omega (arith, c.requires.within, c.shown.ensures.among) in
    record {
      fits = subst (Fits study.line)
          (sym (subst (λ (ss : List Script). script ≡ get_or ss i script)
          c.as_slice-scripts.ensures.value c.index-scripts-part.is))
          (c.requires.known.study.fit i script there);
    }

pub returns : goal.returns
returns c =
    let study = c.args.known.now.study.now in
    let line : Line = study.line in
    let scripts : List Script = study.scripts.items in
    let part = c.args.part in
    let slice : List Script = c.as_slice-scripts.result.now in
    let same : slice ≡ scripts = c.as_slice-scripts.ensures.value in
    let first : Script = c.index-scripts-part-2.result in
    let worst : Script = c.index-scripts-part.result in
    let is_first : part.start < length scripts =
    omega (arith, c.requires.within, c.requires.some) in
    let is_worst : part.start + c.shown.result < length scripts =
    omega (arith, c.requires.within, c.shown.ensures.among) in
    record {
      name = c.in_ok-name.ensures
          ∙ ap (λ (ss : List Script). fault_name c.args.known.now.groups.now ss part.start) same;
      kind = at_read scripts slice part.start first
          (λ (s : Script). (get_or slice part.start first).kind ≡ s.kind) same is_first
          c.index-scripts-part-2.is
          (ap (λ (s : Script). s.kind) (sym c.index-scripts-part-2.is));
      cases = c.in_ok-cases.ensures;
      verdicts = c.in_ok-verdicts.ensures;
      shown = c.shown.result;
      is_shown = c.shown.ensures;
      named = at_read scripts slice (part.start + c.shown.result) worst
          (λ (s : Script). c.in_ok-shown.shown.items ≡ s.name) same is_worst
          c.index-scripts-part.is (c.in_ok-shown.ensures.items ∙ c.bytes.ensures.same);
      bands = at_read scripts slice (part.start + c.shown.result) worst
          (λ (s : Script). IsBandsOf line s c.in_ok-bands.bands) same is_worst
          c.index-scripts-part.is c.in_ok-bands.ensures;
    }
