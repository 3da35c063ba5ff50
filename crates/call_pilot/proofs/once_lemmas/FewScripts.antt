-- Words name a bench of at most 64 scripts.
use Rattle.std.proofs.Common.{◌≡◌, ◌≤◌, ◌&&◌, ℕ, Bool, true, false, List, [], ◌∷◌, Option, None}
use Rattle.std.proofs.Common.{Some, cond, leb-true, nat_le, refl}
use Rattle.std.specs.Prelude.{codes, option_map}
use Rattle.std.specs.Str.{bytes_eq}
use Rattle.base_text.specs.store.Number.{number_of}
use Rattle.call_pilot.specs.top.Words.{Command, bench, bench_size, command_of}
use Rattle.call_pilot.specs.top.Words.{command_of_four, command_of_three, command_of_two}
use Rattle.call_pilot.specs.top.Words.{one_file, split, split_depth, three_files, two_files}

abbrev pub IsFew : Option Command → Type 0
IsFew None = Unit {0}
IsFew (Some (one_file command line)) = Unit {0}
IsFew (Some (two_files command line scripts)) = Unit {0}
IsFew (Some (three_files command line scripts third)) = Unit {0}
IsFew (Some (bench n)) = n ≤ 64

either : (c : Bool) (x y : Option Command) → IsFew x → IsFew y → IsFew (cond c x y)
either true x y p q = p
either false x y p q = q

bench_by : (n : ℕ) (low high : Bool) → nat_le n 64 ≡ high
    → IsFew (option_map bench (cond (low && high) (Some n) None))
bench_by n true true is = leb-true n 64 is
bench_by n true false is = tt
bench_by n false high is = tt

few_bench : (o : Option ℕ) → IsFew (option_map bench (bench_size o))
few_bench None = tt
few_bench (Some n) = bench_by n (nat_le 1 n) (nat_le n 64) refl

few_split : (first second : List ℕ) (o : Option ℕ)
    → IsFew (option_map (λ n. two_files (split n) first second) o)
few_split first second None = tt
few_split first second (Some n) = tt

few_two : (word name : List ℕ) → IsFew (command_of_two word name)
few_two word name =
    either (bytes_eq word (codes "net")) _ _ tt
    (either (bytes_eq word (codes "line")) _ _ tt
    (either (bytes_eq word (codes "migrate")) _ _ tt
    (either (bytes_eq word (codes "bench")) _ _ (few_bench (number_of name)) tt)))

few_three : (word first second : List ℕ) → IsFew (command_of_three word first second)
few_three word first second =
    either (bytes_eq word (codes "certify")) _ _ tt
    (either (bytes_eq word (codes "report")) _ _ tt tt)

few_four : (word first second third : List ℕ) → IsFew (command_of_four word first second third)
few_four word first second third =
    either (bytes_eq word (codes "play")) _ _ tt
    (either (bytes_eq word (codes "check")) _ _ tt
    (either (bytes_eq word (codes "match")) _ _ tt
    (either (bytes_eq word (codes "recheck")) _ _ tt
    (either (bytes_eq word (codes "margin")) _ _ tt
    (either (bytes_eq word (codes "split")) _ _
    (few_split first second (split_depth (number_of third))) tt)))))

pub few_words : (words : List (List ℕ)) → IsFew (command_of words)
few_words [] = tt
few_words (word ∷ []) = tt
few_words (word ∷ a ∷ []) = few_two word a
few_words (word ∷ a ∷ b ∷ []) = few_three word a b
few_words (word ∷ a ∷ b ∷ c ∷ []) = few_four word a b c
few_words (word ∷ a ∷ b ∷ c ∷ d ∷ more) = tt
