use Rattle.std.proofs.Common.{[], ◌∷◌, ◌∙◌, ap, arith}
use Rattle.std.proofs.lemmas.List.Elements.{All-nil, All-cons}
use Rattle.model_timing.specs.{NamedValues.NamedValues}
use Rattle.file_tables.specs.timing.Printed.{MayStand}
use Rattle.file_tables.specs.timing.Timings.{timings_in}
use Rattle.file_tables.proofs.timing_lemmas.{ReadBack.file_read, Standing.records_stand}
use Rattle.file_tables.proofs.timing.laws.timings_are_read_back.Goals as goal

pub returns-clause-records : goal.returns-clause-records
returns-clause-records c = λ line timings may one_file.
    records_stand c.delays_are_parameters.ensures line
    (c.parameters_have_names_of_their_own.ensures line) timings may one_file

pub returns-clause-bytes : goal.returns-clause-bytes
returns-clause-bytes c = λ line timings may one_file.
    ap (timings_in line) (file_read line timings)
    ∙ records_stand c.delays_are_parameters.ensures line
    (c.parameters_have_names_of_their_own.ensures line) timings may one_file

pub returns-clause-choices : goal.returns-clause-choices
returns-clause-choices c = λ line choice name inside plain.
    let found = c.each_choice_inside_is_a_timing.ensures.choice line choice inside in
    let v : NamedValues = record { name = name; timing = found.0 } in (
      found.0,
      found.3,
      records_stand c.delays_are_parameters.ensures line
          (c.parameters_have_names_of_their_own.ensures line) (v ∷ [])
          (All-cons (MayStand line) v []
          (record {
            plain_name = plain;
            inside = found.1;
            ascending = found.2;
          })
          (All-nil (MayStand line)))
          (record {
            some = omega arith;
            few = omega arith;
            once = λ j k less below. absurd (omega arith);
          }),
    )
