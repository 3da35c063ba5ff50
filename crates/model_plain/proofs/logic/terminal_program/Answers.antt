use Rattle.std.proofs.Common.{sym, ap}
use Rattle.model_logic.specs.Elements.{zone1}
use Rattle.model_logic.specs.Logic.{key_by, pilot_by, blocking_key, blocking_pilot}
use Rattle.model_logic.specs.Logic.{underreach_pilot, transfer_pilot}
use Rattle.model_plain.proofs.Counts.{zone1_few, underreach_pilot_few, transfer_pilot_few}
use Rattle.model_plain.proofs.Counts.{blocking_key_few, blocking_pilot_few}
use Rattle.model_plain.proofs.logic.terminal_program.Goals as goal

pub returns-in-Putt : goal.returns-in-Putt
returns-in-Putt c =
    let line = c.args.line.now in
    let k = c.args.terminal in
    c.closed_program.ensures (zone1 line k) (underreach_pilot line k)
    (record { is = sym (ap (λ s. key_by s line k) c.in-Putt.is); few = zone1_few line k })
    (record {
      is = sym (ap (λ s. pilot_by s line k) c.in-Putt.is);
      few = underreach_pilot_few line k;
    })
    c.element_formula-key.ensures.is c.underreach_pilot.ensures

pub returns-in-Dtt : goal.returns-in-Dtt
returns-in-Dtt c =
    let line = c.args.line.now in
    let k = c.args.terminal in
    c.closed_program-in-Dtt.ensures (zone1 line k) (transfer_pilot line k)
    (record { is = sym (ap (λ s. key_by s line k) c.in-Dtt.is); few = zone1_few line k })
    (record {
      is = sym (ap (λ s. pilot_by s line k) c.in-Dtt.is);
      few = transfer_pilot_few line k;
    })
    c.element_formula-key-in-Dtt.ensures.is c.transfer_pilot.ensures

pub returns-in-Dcb : goal.returns-in-Dcb
returns-in-Dcb c =
    let line = c.args.line.now in
    let k = c.args.terminal in
    c.closed_program-in-Dcb.ensures (blocking_key line k) (blocking_pilot line k)
    (record { is = sym (ap (λ s. key_by s line k) c.in-Dcb.is); few = blocking_key_few line k })
    (record {
      is = sym (ap (λ s. pilot_by s line k) c.in-Dcb.is);
      few = blocking_pilot_few line k;
    })
    c.blocking_key-key.ensures c.blocking_pilot.ensures
