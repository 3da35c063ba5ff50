-- A span of a list that is joined to another one.
use Rattle.std.proofs.Common.{◌≡◌, ◌+◌, ◌<◌, ◌++◌, List, ◌∷◌, sym, ◌∙◌, ap, ℕ, suc, arith}
use Rattle.std.proofs.Common.{length, get_or, take, drop, slice_set}
use Rattle.std.proofs.lemmas.List.{drop_more, set_split}
use Rattle.model_line.specs.declared.script.SeenSpan.{SeenSpan}
use Rattle.file_study.specs.sweeps.Spans.{joined_first}

pub joined_at : (new old : SeenSpan) (s : List SeenSpan) (i : ℕ) → i < length s
    → old ≡ get_or s i old
    → slice_set s i (record { what = old.what; from = old.from; to = new.to })
    ≡ take i s ++ joined_first new (drop i s)
joined_at new old s i h is =
    let new_one : SeenSpan = record { what = old.what; from = old.from; to = new.to } in
    let next : suc i ≡ i + 1 = omega arith in
    set_split s i new_one h
    ∙ (ap (λ n. take i s ++ new_one ∷ drop n s) next
    ∙ ap (λ r. take i s ++ r) (sym (ap (joined_first new)
    (drop_more s i old h ∙ ap (λ o. o ∷ drop (i + 1) s) (sym is)))))
