use Rattle.std.proofs.Common.{◌≡◌, ◌*◌, Ok, [], ◌∷◌, refl, ap, ◌∙◌, arith}
use Rattle.file_study.specs.{times.Times.interval, times.Units.whole}
use Rattle.file_study.proofs.times_lemmas.ReadBack.{read_back}
use Rattle.file_study.proofs.times.laws.whole_numbers_of_a_unit_are_read_back.Goals as goal

pub returns-clause-milliseconds : goal.returns-clause-milliseconds
returns-clause-milliseconds c hertz n small =
    read_back (109 ∷ 115 ∷ []) 1000 refl refl refl refl hertz (λ _. refl) n small

pub returns-clause-microseconds : goal.returns-clause-microseconds
returns-clause-microseconds c hertz n small =
    let same : n * 1 ≡ n = omega arith in
    read_back (117 ∷ 115 ∷ []) 1 refl refl refl refl hertz (λ _. refl) n small
    ∙ ap (λ k. Ok (interval (whole k) (whole k))) same
