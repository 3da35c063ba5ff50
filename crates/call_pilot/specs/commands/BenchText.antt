-- The two lines of the bench.
use Rattle.std.specs.Prelude.{◌++◌, ℕ, List, codes, decimal}
use Rattle.cert_claims.specs.declared.check.counts.Counts.{Counts}

-- a word and a number
abbrev pub told : List ℕ → ℕ → List ℕ
told word n = word ++ decimal n

-- `scripts N yes Y no M undecided U`
abbrev pub scripts_line : ℕ → Counts → List ℕ
scripts_line n c =
    told (codes "scripts ") n ++ (told (codes " yes ") c.yes
    ++ (told (codes " no ") c.no ++ (told (codes " undecided ") c.undecided ++ codes "\n")))

-- `accepted Y M U`
abbrev pub accepted_line : Counts → List ℕ
accepted_line c =
    told (codes "accepted ") c.yes ++ (told (codes " ") c.no
    ++ (told (codes " ") c.undecided ++ codes "\n"))

abbrev pub bench_text : ℕ → Counts → List ℕ
bench_text n c = scripts_line n c ++ accepted_line c
