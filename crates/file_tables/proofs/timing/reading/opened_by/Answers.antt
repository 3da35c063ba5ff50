use Rattle.std.proofs.Common.{◌≡◌, ◌∙◌, ◌++◌, ℕ, List, [], ◌∷◌, map, Ok, true, false, sym, ap}
use Rattle.std.proofs.Common.{arith}
use Rattle.std.proofs.lemmas.List.{map-append}
use Rattle.model_line.specs.declared.line.Line.{Line}
use Rattle.std.specs.List.{list_any}
use Rattle.std.specs.Str.{bytes_eq}
use Rattle.model_timing.specs.NamedValues.{values_of}
use Rattle.file_tables.specs.timing.SoFar.{open_of, closed, opened}
use Rattle.model_timing.specs.declared.named_timing.NamedTiming.{NamedTiming}
use Rattle.file_tables.specs.timing.Checks.{Opening}
use Rattle.file_tables.proofs.timing_lemmas.Earlier.{out_of_order, too_many, opens, opening_same}
use Rattle.file_tables.proofs.timing.reading.opened_by.Goals as goal

pub returns-then-is_any-clause-said : goal.returns-then-is_any-clause-said
returns-then-is_any-clause-said c =
    let ts : List NamedTiming = c.args.reading.done.items in
    let name : List ℕ = c.args.name.now in
    let other : bytes_eq c.in-Some.timing.name name ≡ false =
    ap (λ b. bytes_eq b name) (sym c.bytes.ensures.same) ∙ sym c.is.ensures ∙ c.if-is.false in
    let found : list_any (λ x. bytes_eq x.name name) ts ≡ true =
    ap (λ xs. list_any (λ x. bytes_eq x.name name) xs) (sym c.as_slice.ensures.value)
    ∙ sym c.is_any.ensures ∙ c.if-is_any.true in
    rw c.in-Some.is
    (out_of_order c.args.line.now ts c.args.n name (open_of c.in-Some.timing) other found)

pub returns-then-len-ge15-clause-said : goal.returns-then-len-ge15-clause-said
returns-then-len-ge15-clause-said c =
    let ts : List NamedTiming = c.args.reading.done.items in
    let name : List ℕ = c.args.name.now in
    let other : bytes_eq c.in-Some.timing.name name ≡ false =
    ap (λ b. bytes_eq b name) (sym c.bytes.ensures.same) ∙ sym c.is.ensures ∙ c.if-is.false in
    let none : list_any (λ x. bytes_eq x.name name) ts ≡ false =
    ap (λ xs. list_any (λ x. bytes_eq x.name name) xs) (sym c.as_slice.ensures.value)
    ∙ sym c.is_any.ensures ∙ c.if-is_any.false in
    rw c.in-Some.is
    (too_many c.args.line.now ts c.args.n name (open_of c.in-Some.timing) other none
    (omega arith))

pub returns-clause-said : goal.returns-clause-said
returns-clause-said c =
    let line : Line = c.args.line.now in
    let ts : List NamedTiming = c.args.reading.done.items in
    let name : List ℕ = c.args.name.now in
    let other : bytes_eq c.in-Some.timing.name name ≡ false =
    ap (λ b. bytes_eq b name) (sym c.bytes.ensures.same) ∙ sym c.is.ensures ∙ c.if-is.false in
    let none : list_any (λ x. bytes_eq x.name name) ts ≡ false =
    ap (λ xs. list_any (λ x. bytes_eq x.name name) xs) (sym c.as_slice.ensures.value)
    ∙ sym c.is_any.ensures ∙ c.if-is_any.false in
    let pushed : c.push.new.self.items ≡ ts ++ c.in_ok-closed.field-0 ∷ [] = c.in_ok-push.ensures.items in
    let done : map values_of c.push.new.self.items
    ≡ map values_of ts ++ closed (open_of c.in-Some.timing) ∷ [] =
    ap (λ xs. map values_of xs) pushed ∙ map-append values_of ts (c.in_ok-closed.field-0 ∷ [])
    ∙ ap (λ v. map values_of ts ++ v ∷ []) c.in_ok-closed.ensures in
    let opening : opened line c.plain-2.result ≡ open_of c.in_ok-timing-2.timing =
    sym c.in_ok-timing-2.ensures.said in
    let timing : opened line name ≡ open_of c.in_ok-timing-2.timing =
    ap (opened line) (sym c.plain-2.ensures) ∙ opening in
    rw c.in-Some.is
    (opens line ts c.args.n name (open_of c.in-Some.timing) other none (omega arith)
    ∙ ap (λ (x : Opening). Ok x) (opening_same done timing))
