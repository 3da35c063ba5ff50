use Rattle.std.proofs.Common.{◌≡◌, ◌++◌, ℕ, List, refl, sym, subst, arith}
use Rattle.std.proofs.lemmas.List.{append-nil}
use Rattle.std.specs.Prelude.{IfOk}
use Rattle.model_history.specs.{Each.each_below, EachLaws.list_more}
use Rattle.model_line.specs.Parameters.{channel_count}
use Rattle.model_plain.specs.declared.role.Role.{Role}
use Rattle.model_plain.specs.Roles.{AreNamedParts, channel_roles}
use Rattle.model_plain.proofs.named.with_channels.Goals as goal

pub loop-c-init : goal.loop-c-init
loop-c-init c roles all =
    subst (λ rs. IfOk c.args.parts (λ ps. AreNamedParts c.args.line.now rs ps.items))
    (sym (append-nil roles)) all

pub loop-c-preserved : goal.loop-c-preserved
loop-c-preserved c roles all =
    let line = c.args.line.now in
    let n = c.loop-c.c in
    let each : ℕ → List Role = channel_roles line c.args.k in
    let before : List Role = roles ++ each_below n each in
    subst (λ rs. IfOk c.with_channel-all.result (λ ps. AreNamedParts line rs ps.items))
    (list_more roles before (before ++ each n) each n refl refl)
    (c.with_channel-all.ensures before (c.loop-c.invariant roles all))

pub returns : goal.returns
returns c roles all =
    let line = c.args.line.now in
    let end : c.loop-c.c ≡ channel_count line =
    omega (arith, c.len-c-end.ensures, c.loop-c-test.false, c.loop-c.auto.c-end) in
    subst (λ (n : ℕ). IfOk c.loop-c.all
    (λ ps. AreNamedParts line (roles ++ each_below n (channel_roles line c.args.k)) ps.items))
    end (c.loop-c.invariant roles all)
