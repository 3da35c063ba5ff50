use Rattle.std.proofs.Common.{◌≡◌, ℕ, ◌<◌, ◌≤◌, Some, length, refl, sym, ◌∙◌, ap, arith, subst, ⊎_elim}
use Rattle.std.proofs.lemmas.Bool.{cases_lt}
use Rattle.std.proofs.lemmas.Option.{slice_get_read, slice_get_within}
use Rattle.std.specs.Prelude.{slice_get, get_or}
use Rattle.net_gates.specs.NetOf.{id_at, key_of}
use Rattle.run_changes.specs.changes.Hears.{IsLastKey}
use Rattle.model_history.specs.ListLaws.{one_value}
use Rattle.run_step.specs.SendLaws.{number_read}
use Rattle.run_changes.proofs.changes.hear.keys_stay.Goals as goal

pub offset_bounds-column-gates : goal.offset_bounds-column-gates
offset_bounds-column-gates g c =
    let k = c.loop-k.k in
    let net = c.args.net.now in
    let gates = c.key_gates-gates.result.now in
    let is = c.key_gates-gates.ensures in
    let there : id_at gates k < length net.gates =
    subst (λ ids. id_at ids k < length net.gates) (sym is)
    (c.requires.laws.keys k (subst (λ ids. k < length ids) is c.loop-k-test.true)) in
    subst (λ (n : ℕ). n ≤ length c.args.column.now) (number_read gates k _ c.loop-k-test.true)
    (omega (arith, there, c.requires.column))

pub bounds-column-gates : goal.bounds-column-gates
bounds-column-gates g c =
    let k = c.loop-k.k in
    let net = c.args.net.now in
    let gates = c.key_gates-gates.result.now in
    let is = c.key_gates-gates.ensures in
    let there : id_at gates k < length net.gates =
    subst (λ ids. id_at ids k < length net.gates) (sym is)
    (c.requires.laws.keys k (subst (λ ids. k < length ids) is c.loop-k-test.true)) in
    subst (λ (n : ℕ). n < length c.args.column.now) (number_read gates k _ c.loop-k-test.true)
    (omega (arith, there, c.requires.column))

pub loop-k-preserved : goal.loop-k-preserved
loop-k-preserved g c = λ j s x lt sa xa.
    let k = c.loop-k.k in
    let net = c.args.net.now in
    let sent = c.args.sent.now in
    let column = c.args.column.now in
    let gates = c.key_gates-gates.result.now in
    let is = c.key_gates-gates.ensures in
    let inside : k < length net.keys = subst (λ ids. k < length ids) is c.loop-k-test.true in
    ⊎_elim
    (λ low. c.loop-k.invariant j s x low sa xa)
    (λ ge.
    let here : j ≡ k = omega (arith, lt, ge) in
    let key = c.index-sent-k.result in
    let value = c.index-column-gates.result in
    let there : key_of net k < length column =
    let low = c.requires.laws.keys k inside in omega (arith, low, c.requires.column) in
    let number : key_of net k ≡ (get_or gates k _).0 =
    ap (λ ids. id_at ids k) (sym is) ∙ number_read gates k _ c.loop-k-test.true in
    let ka : slice_get sent k ≡ Some key =
    slice_get_read sent (length sent) k key refl (omega (arith, inside, c.requires.terminals))
    c.index-sent-k.is in
    let va : slice_get column (key_of net k) ≡ Some value =
    slice_get_read column (length column) (key_of net k) value refl there
    (c.index-column-gates.is ∙ ap (λ (i : ℕ). get_or column i value) (sym number)) in
    subst (λ y. IsLastKey g.V.Signal.signal s.keys y)
    (one_value column (key_of net k) (key_of net j) value x (ap (key_of net) (sym here)) va xa)
    (subst (λ y. IsLastKey g.V.Signal.signal y.keys value)
    (one_value sent k j key s (sym here) ka sa)
    (c.if-not-is_last.ensures refl)))
    (cases_lt j k)

pub returns : goal.returns
returns g c = λ _ k s x sa xa.
    let within : k < length c.args.sent.now = slice_get_within c.args.sent.now k s sa in
    let over : length c.key_gates-gates.result.now ≤ c.loop-k.k = c.loop-k-test.false in
    let same : length c.key_gates-gates.result.now ≡ length c.args.net.now.keys =
    ap length c.key_gates-gates.ensures in
    c.loop-k.invariant k s x (omega (arith, within, over, same, c.requires.terminals)) sa xa

pub bounds-sent-k : goal.bounds-sent-k
bounds-sent-k g c =
    omega (
      arith,
      c.loop-k-test.true,
      ap length c.key_gates-gates.ensures,
      c.requires.terminals,
    )

pub offset_bounds-sent-k : goal.offset_bounds-sent-k
offset_bounds-sent-k g c =
    omega (
      arith,
      c.loop-k-test.true,
      ap length c.key_gates-gates.ensures,
      c.requires.terminals,
    )
