use Rattle.std.proofs.Common.{◌≡◌, ◌≢◌, ℕ, ◌+◌, ◌*◌, ◌/◌, ◌%◌, ◌<◌, ◌≤◌, length, refl, ◌∙◌, arith}
use Rattle.std.proofs.Common.{⊎_elim, inl, inr, length-set, ap}
use Rattle.std.proofs.lemmas.Bool.{cases_lt}
use Rattle.std.proofs.lemmas.List.{get_or-set_other}
use Rattle.std.proofs.lemmas.Nat.{mul-add-lt}
use Rattle.run_changes.proofs.changes_lemmas.MarkLaws.{agenda_word, all_woken, joined_first, joined_more}
use Rattle.run_changes.proofs.changes_lemmas.MarkLaws.{marked_same, other_row, planned_bit}
use Rattle.run_changes.proofs.changes.marks.wake_due.Goals as goal

pub loop-k-preserved : goal.loop-k-preserved
loop-k-preserved c =
    let inv = c.loop-k.invariant in
    let old = c.args.marks.now in
    let words = c.loop-k.marks.words.items in
    let agenda = c.loop-k.marks.agenda.items in
    let k = c.loop-k.k in
    let row = c.args.t % 512 in
    let wide = length old.words.items in
    let word = c.index_mut.result.now in
    let due = c.index-due.result.now in
    let width : c.len-width.result ≡ wide = omega (arith, c.len-width.ensures, old.words.ok.0) in
    let before : k < c.len-width.result = c.loop-k-test.true in
    let inside : k < length words = omega (arith, before, width, inv.words) in
    let same : row * c.len-width.result ≡ row * wide = ap (λ (n : ℕ). row * n) width in
    let room : 512 * wide ≤ length old.agenda.items = c.requires.room.agenda in
    let there : row * c.len-width.result + k < length agenda =
    omega (
      arith,
      mul-add-lt row wide k 512 (omega arith) (omega (arith, before, width)),
      room,
      same,
      inv.agenda,
    ) in
    record {
      within = omega (arith, before, width);
      words = length-set words k _ ∙ inv.words;
      agenda = length-set agenda (row * c.len-width.result + k) 0 ∙ inv.agenda;
      ticks = inv.ticks;
      horizon = inv.horizon;
      stay = λ i m. joined_first words k word due inside c.index_mut.ensures.value i (inv.stay i m);
      came = λ i lt on.
          ⊎_elim
          (λ low. joined_first words k word due inside c.index_mut.ensures.value i (inv.came i low on))
          (λ ge. let here : i / 64 ≡ k = omega (arith, lt, ge) in
          joined_more words k word due i inside here
          (planned_bit agenda wide row i k (row * c.len-width.result + k) due
          (omega (arith, same)) there c.index-due.ensures here
          (marked_same old.agenda.items agenda (64 * (row * wide) + i)
          (inv.others ((64 * (row * wide) + i) / 64) (inr (omega (arith, agenda_word wide row i, here))))
          on)))
          (cases_lt (i / 64) k);
      others = λ n away.
          let ne : n ≢ row * c.len-width.result + k =
          ⊎_elim (λ low is. omega (arith, low, is, same)) (λ high is. omega (arith, high, is, same))
          away in
          get_or-set_other agenda (row * c.len-width.result + k) n 0 0 ne
          ∙ inv.others n (⊎_elim inl (λ high. inr (omega (arith, high))) away);
    }

pub returns-clause-marks : goal.returns-clause-marks
returns-clause-marks c = λ dues marked.
    let inv = c.loop-k.invariant in
    let old = c.args.marks.now in
    let now = c.args.t % 512 in
    let wide = length old.words.items in
    let width : c.len-width.result ≡ wide = omega (arith, c.len-width.ensures, old.words.ok.0) in
    let over : c.len-width.result ≤ c.loop-k.k = c.loop-k-test.false in
    let within : c.loop-k.k ≤ wide = inv.within in
    all_woken dues old (record c.loop-k.marks { next = c.args.t + 1 }) c.args.t c.requires.tick
    c.requires.reached inv.words inv.agenda inv.ticks inv.horizon refl inv.stay
    (λ i lt on. inv.came i (omega (arith, lt, over, width)) on)
    (λ row i ne lt on.
    let is : (64 * (row * wide) + i) / 64 ≡ row * wide + i / 64 = agenda_word wide row i in
    marked_same old.agenda.items c.loop-k.marks.agenda.items (64 * (row * wide) + i)
    (inv.others ((64 * (row * wide) + i) / 64)
    (⊎_elim (λ low. inl (omega (arith, low, is))) (λ high. inr (omega (arith, high, is, within)))
    (other_row wide now row (i / 64) ne (omega (arith, lt)))))
    on)
    marked
