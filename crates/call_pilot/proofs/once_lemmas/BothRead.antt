-- What two readings of the same files have in common: the refusal, or lines and scripts of the same
-- values, the same timings, records or parameter.
use Rattle.std.proofs.Common.{◌≡◌, ℕ, List, Option, None, Some, Result, Ok, Err, map, sym, ◌∙◌}
use Rattle.std.proofs.Common.{subst}
use Rattle.std.specs.List.{All}
use Rattle.model_line.specs.{declared.line.Line.Line, declared.script.Script.Script, Fits.Fits}
use Rattle.file_line.specs.{LineFiles.line_of, Lines.LineValues, Lines.line_values}
use Rattle.file_document.specs.declared.fault.DocumentFault.{DocumentFault}
use Rattle.file_tables.specs.{script.Scripts.scripts_of, script.Values.ScriptValues, script.Values.values_of}
use Rattle.file_tables.specs.declared.script.fault.ScriptFault.{ScriptFault}
use Rattle.file_tables.specs.declared.timing.fault.TimingFault.{TimingFault}
use Rattle.model_timing.specs.{Inside.IsTimingInside}
use Rattle.model_timing.specs.NamedValues.{NamedValues}
use Rattle.judge_match.specs.{matching.Waves.SeenValues, declared.matching.fault.SeenFault.SeenFault}
use Rattle.call_files.specs.Said.{of_line, of_parameter, of_record, of_scripts, of_study}
use Rattle.call_files.specs.Said.{of_timings}
use Rattle.call_files.specs.{declared.refusal.Refusal.Refusal}
use Rattle.call_files.specs.declared.refusal.Refusal.TheVariants as refusal
use Rattle.call_pilot.specs.{top.SameScriptLaws.scripts_same, top.SameValueLaws.same_but_params}

-- R and S are of two refusals, and G is what comes of both readings
module _ {G : Type 0} (R S : Refusal → Type 0) (refused : (why : Refusal) → R why → S why → G)
  where
    pub both_lines : (H K : Line → Type 0)
        → ((a b : Line) → line_values b ≡ line_values a → H a → K b → G)
        → (said : Result LineValues DocumentFault) → of_line said R H → of_line said S K → G
    both_lines H K both (Ok values) p q = both p.0 q.0 (q.1 ∙ sym p.1) p.2 q.2
    both_lines H K both (Err why) p q = refused (refusal.Line why) p q

    both_scripts : (a b : Line) (H K : List Script → Type 0)
        → ((xs ys : List Script) → map values_of ys ≡ map values_of xs → All (Fits a) xs
        → All (Fits b) ys → H xs → K ys → G)
        → (said : Result (List ScriptValues) ScriptFault) → of_scripts a said R H
        → of_scripts b said S K → G
    both_scripts a b H K both (Ok values) p q = both p.0 q.0 (q.1 ∙ sym p.1) p.2 q.2 p.3 q.3
    both_scripts a b H K both (Err why) p q = refused (refusal.Scripts why) p q

    pub both_studies : (line_bytes scripts_bytes : List ℕ) (H K : Line → List Script → Type 0)
        → ((a b : Line) → line_values b ≡ line_values a → (xs ys : List Script)
        → map values_of ys ≡ map values_of xs → All (Fits a) xs → All (Fits b) ys → H a xs → K b ys
        → G) → of_study line_bytes scripts_bytes R H → of_study line_bytes scripts_bytes S K → G
    both_studies line_bytes scripts_bytes H K both =
        both_lines (λ line. of_scripts line (scripts_of line scripts_bytes) R (H line))
        (λ line. of_scripts line (scripts_of line scripts_bytes) S (K line))
        (λ a b lines p q.
        both_scripts a b (H a) (K b) (both a b lines) (scripts_of a scripts_bytes) p
        (subst (λ (said : Result (List ScriptValues) ScriptFault). of_scripts b said S (K b))
        (scripts_same a b (same_but_params a b lines) scripts_bytes) q))
        (line_of line_bytes)

    timings_by : (a b : Line) (H K : List NamedValues → Type 0)
        → ((timings : List NamedValues) → All (λ timing. IsTimingInside b timing.timing) timings
        → H timings → K timings → G) → (said : Result (List NamedValues) TimingFault)
        → of_timings a said R H → of_timings b said S K → G
    timings_by a b H K both (Ok timings) p q = both timings q.0 p.1 q.1
    timings_by a b H K both (Err why) p q = refused (refusal.Timings why) p q

    pub both_timings : (a b : Line) (H K : List NamedValues → Type 0)
        → ((timings : List NamedValues) → All (λ timing. IsTimingInside b timing.timing) timings
        → H timings → K timings → G) → (said other : Result (List NamedValues) TimingFault)
        → other ≡ said → of_timings a said R H → of_timings b other S K → G
    both_timings a b H K both said other same p q =
        timings_by a b H K both said p
        (subst (λ (said : Result (List NamedValues) TimingFault). of_timings b said S K) same q)

    pub both_records : (H K : List SeenValues → Type 0)
        → ((records : List SeenValues) → H records → K records → G)
        → (said : Result (List SeenValues) SeenFault) → of_record said R H → of_record said S K → G
    both_records H K both (Ok records) p q = both records p q
    both_records H K both (Err why) p q = refused (refusal.Record why) p q

    pub both_parameters : (H K : ℕ → Type 0) → ((param : ℕ) → H param → K param → G)
        → (said : Option ℕ) → of_parameter said R H → of_parameter said S K → G
    both_parameters H K both (Some param) p q = both param p q
    both_parameters H K both None p q = refused refusal.UnknownParameter p q
