use Rattle.std.proofs.Common.{sym}
use Rattle.run_waves.proofs.waves_lemmas.FirstTicks.{first_here, first_nowhere, here_first, nowhere_first}
use Rattle.run_waves.proofs.waves.laws.the_first_tick_is_the_least.Goals as goal

pub returns : goal.returns
returns c = record {
  some = λ u n t. (here_first u n t, λ h. sym (first_here u n t h.0 h.1 h.2));
  none = λ u n. (nowhere_first u n, λ off. sym (first_nowhere u n off));
}
