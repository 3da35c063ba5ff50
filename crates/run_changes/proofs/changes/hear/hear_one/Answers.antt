use Rattle.std.proofs.Common.{◌≡◌, ℕ, ◌+◌, ◌≤◌, Some, refl, sym, subst, inl, inr, get_or, ◌<◌, ◌∙◌, ap, length, arith}
use Rattle.std.proofs.lemmas.Option.{slice_get-get_or, slice_get_read}
use Rattle.std.specs.Prelude.{slice_get}
use Rattle.net_gates.specs.{Readers.AreBelow, NetOf.key_of}
use Rattle.run_changes.specs.changes.Hears.{IsLastKey}
use Rattle.run_step.specs.DelayLaws.{sender_inside}
use Rattle.model_history.specs.ListLaws.{one_value}
use Rattle.run_changes.proofs.changes_lemmas.HearLaws.{few_channels, hastened_none, offset_fits}
use Rattle.run_changes.proofs.changes.hear.hear_one.Goals as goal

pub bounds-moment-delay : goal.bounds-moment-delay
bounds-moment-delay g c =
    sender_inside g.V.Signal.signal c.args.moment.now c.args.channel
    c.index-moment-channel.result c.requires.moment (subst (λ (n : ℕ). c.args.channel < n)
    c.requires.moment.delays.count c.requires.inside)

pub offset_bounds-moment-delay : goal.offset_bounds-moment-delay
offset_bounds-moment-delay g c =
    let inside =
    sender_inside g.V.Signal.signal c.args.moment.now c.args.channel
    c.index-moment-channel.result c.requires.moment (subst (λ (n : ℕ). c.args.channel < n)
    c.requires.moment.delays.count c.requires.inside) in
    record { fits = offset_fits _ (length c.args.moment.now.sent.now) _ inside c.type_inv.moment.1.1.0.0.1.1 }

pub hasten-requires-clause-inside : goal.hasten-requires-clause-inside
hasten-requires-clause-inside g c =
    subst (λ (n : ℕ). AreBelow n c.hearers.result.now) (sym c.requires.dues) c.hearers.ensures.inside

pub returns-clause-heard : goal.returns-clause-heard
returns-clause-heard g c = λ d at. inr (λ i due gate ga hears da.
    let channel = c.args.channel in
    let moment = c.args.moment.now in
    let delays = moment.delays.now in
    let e = get_or delays channel c.index-moment-channel.result in
    let ea : slice_get delays channel ≡ Some e =
    slice_get-get_or delays channel c.index-moment-channel.result c.requires.inside in
    let same : e ≡ d = one_value delays channel channel e d refl ea at in
    let (k, ka) = c.hearers.ensures.all i gate ga hears in
    subst (λ y. due ≤ moment.t + y.soonest) same (c.hasten.ensures.soon k i due ka da))

pub returns-then-is_last-clause-heard : goal.returns-then-is_last-clause-heard
returns-then-is_last-clause-heard g c = λ d at. inl (λ s x sa xa.
    let channel = c.args.channel in
    let moment = c.args.moment.now in
    let delays = moment.delays.now in
    let sent = moment.sent.now in
    let net = c.args.net.now in
    let column = c.args.column.now in
    let key = c.index-column-key_gate.result in
    let e = get_or delays channel c.index-moment-channel.result in
    let y = get_or sent e.from c.index-moment-delay.result in
    let ea : slice_get delays channel ≡ Some e =
    slice_get-get_or delays channel c.index-moment-channel.result c.requires.inside in
    let same : e ≡ d = one_value delays channel channel e d refl ea at in
    let inside =
    sender_inside g.V.Signal.signal moment channel c.index-moment-channel.result
    c.requires.moment (subst (λ (n : ℕ). channel < n) c.requires.moment.delays.count
    c.requires.inside) in
    let ya : slice_get sent e.from ≡ Some y =
    slice_get-get_or sent e.from c.index-moment-delay.result inside in
    let sent_is : y ≡ s = one_value sent e.from d.from y s (ap (λ z. z.from) same) ya sa in
    let ka : slice_get column (key_of net e.from) ≡ Some key =
    slice_get_read column (length column) (key_of net e.from) key refl
    (omega (arith, c.requires.column, c.key_gate.ensures.exists, c.key_gate.ensures.is))
    (c.index-column-key_gate.is ∙ ap (λ (i : ℕ). get_or column i key) c.key_gate.ensures.is) in
    let key_is : key ≡ x =
    one_value column (key_of net e.from) (key_of net d.from) key x
    (ap (λ z. key_of net z.from) same) ka xa in
    subst (λ k. IsLastKey g.V.Signal.signal s.keys k) key_is
    (subst (λ z. IsLastKey g.V.Signal.signal z.keys key) sent_is
    (c.is_last.ensures c.if-is_last.true)))

pub overflow_add-first : goal.overflow_add-first
overflow_add-first g c =
    let delays = c.args.moment.now.delays.now in
    let e = get_or delays c.args.channel c.index-moment-channel.result in
    let ea : slice_get delays c.args.channel ≡ Some e =
    slice_get-get_or delays c.args.channel c.index-moment-channel.result c.requires.inside in
    let soon = c.requires.soonest c.args.channel e ea in
    let limited : e.soonest ≤ 4000 = soon.limited in
    let early : c.args.moment.now.t < c.args.moment.now.line.now.horizon =
    c.requires.moment.tick in
    record {
      fits = omega (arith, limited, early, c.args.moment.now.line.now.horizon_in_range.1);
    }

pub hasten-requires-clause-later : goal.hasten-requires-clause-later
hasten-requires-clause-later g c =
    let delays = c.args.moment.now.delays.now in
    let e = get_or delays c.args.channel c.index-moment-channel.result in
    let ea : slice_get delays c.args.channel ≡ Some e =
    slice_get-get_or delays c.args.channel c.index-moment-channel.result c.requires.inside in
    let soon = c.requires.soonest c.args.channel e ea in
    let some : 1 ≤ e.soonest = soon.some in
    omega (arith, some)

pub key_gate-requires : goal.key_gate-requires
key_gate-requires g c =
    let inside =
    sender_inside g.V.Signal.signal c.args.moment.now c.args.channel
    c.index-moment-channel.result c.requires.moment (subst (λ (n : ℕ). c.args.channel < n)
    c.requires.moment.delays.count c.requires.inside) in
    omega (arith, inside, c.requires.moment.sent.count, c.requires.terminals)

pub bounds-column-key_gate : goal.bounds-column-key_gate
bounds-column-key_gate g c =
    subst (λ (n : ℕ). c.key_gate.result.0 < n) (sym c.requires.column) c.key_gate.ensures.exists

pub overflow_cast-key : goal.overflow_cast-key
overflow_cast-key g c =
    record { fits = omega (arith, c.key_gate.ensures.exists, c.requires.laws.gates.few) }

pub offset_bounds-column-key_gate : goal.offset_bounds-column-key_gate
offset_bounds-column-key_gate g c = omega (arith, c.key_gate.ensures.exists, c.requires.column)

pub overflow_cast-channel : goal.overflow_cast-channel
overflow_cast-channel g c =
    record {
      fits = omega (
        arith,
        c.requires.inside,
        c.requires.moment.delays.count,
        few_channels c.args.moment.now.line.now,
      );
    }

pub returns-then-is_last-clause-hastened : goal.returns-then-is_last-clause-hastened
returns-then-is_last-clause-hastened g c = hastened_none c.args.dues.now.items

pub returns-clause-hastened : goal.returns-clause-hastened
returns-clause-hastened g c = c.hasten.ensures.hastened

pub bounds-moment-channel : goal.bounds-moment-channel
bounds-moment-channel g c = c.requires.inside

pub hasten-requires-clause-marks : goal.hasten-requires-clause-marks
hasten-requires-clause-marks g c = c.requires.marks

pub hasten-requires-clause-next : goal.hasten-requires-clause-next
hasten-requires-clause-next g c = c.requires.next

pub offset_bounds-moment-channel : goal.offset_bounds-moment-channel
offset_bounds-moment-channel g c =
    record {
      fits = offset_fits _ (length c.args.moment.now.delays.now) _ c.requires.inside c.type_inv.moment.1.0.0.1.1;
    }
