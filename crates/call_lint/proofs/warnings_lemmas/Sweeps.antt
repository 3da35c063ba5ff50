-- What is told of the swept times of a stage, and of a fault, more.
use Rattle.std.proofs.Common.{◌≡◌, ◌+◌, ◌<◌, ◌++◌, ℕ, List, [], ap, ◌∙◌, sym, append_assoc, drop}
use Rattle.std.proofs.Common.{get_or, length, map}
use Rattle.std.proofs.lemmas.List.{drop_more, drop_all, append-nil}
use Rattle.file_study.specs.study.Faults.{fault_values, stage_values}
use Rattle.file_study.specs.declared.study.stage.{Stage.Stage, SweptFault.SweptFault}
use Rattle.call_lint.specs.declared.warnings.warning.Warning.{Warning}
use Rattle.call_lint.specs.declared.warnings.warning.Warning.TheVariants.{Coarse}
use Rattle.call_lint.specs.declared.warnings.warning.SweptTime.TheVariants.{Lasts}
use Rattle.call_lint.specs.warnings.Listed.{told_if}
use Rattle.call_lint.specs.warnings.SweepTests.{is_coarse, stage_sweeps, fault_sweeps, sweep_warnings}

pub stage_more : (i s : ℕ) (stages : List Stage) (d : Stage) (list new all : List Warning)
    → s < length stages
    → list ++ stage_sweeps i s (map stage_values (drop s stages)) ≡ all
    → new ≡ list ++ told_if (is_coarse (get_or stages s d).lasts.items) (Coarse i (Lasts s))
    → new ++ stage_sweeps i (s + 1) (map stage_values (drop (s + 1) stages)) ≡ all
unfolding stage_sweeps
stage_more i s stages d list new all h before now =
    let rest = stage_sweeps i (s + 1) (map stage_values (drop (s + 1) stages)) in
    ap (λ (l : List Warning). l ++ rest) now
    ∙ append_assoc list (told_if (is_coarse (get_or stages s d).lasts.items) (Coarse i (Lasts s))) rest
    ∙ sym (ap (λ (l : List Stage). list ++ stage_sweeps i s (map stage_values l)) (drop_more stages s d h))
    ∙ before

pub fault_more : (i : ℕ) (faults : List SweptFault) (d : SweptFault) (list new all : List Warning)
    → i < length faults
    → list ++ sweep_warnings i (map fault_values (drop i faults)) ≡ all
    → new ≡ list ++ fault_sweeps i (fault_values (get_or faults i d))
    → new ++ sweep_warnings (i + 1) (map fault_values (drop (i + 1) faults)) ≡ all
unfolding sweep_warnings
fault_more i faults d list new all h before now =
    let rest = sweep_warnings (i + 1) (map fault_values (drop (i + 1) faults)) in
    ap (λ (l : List Warning). l ++ rest) now
    ∙ append_assoc list (fault_sweeps i (fault_values (get_or faults i d))) rest
    ∙ sym (ap (λ (l : List SweptFault). list ++ sweep_warnings i (map fault_values l)) (drop_more faults i d h))
    ∙ before
