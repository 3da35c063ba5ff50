use Rattle.std.proofs.Common.{◌≡◌, ◌+◌, ◌*◌, ℕ, subst, arith}
use Rattle.model_line.specs.Parameters.{terminal_count}
use Rattle.judge_map.specs.{Asked.box_of, Cells.IsKnownAt}
use Rattle.judge_map.proofs.KnownLaws.{known_more}
use Rattle.judge_map.proofs.search.push_ruled.Goals as goal

pub loop-k-preserved : goal.loop-k-preserved
loop-k-preserved c =
    let asked = c.args.asked.now in
    let line = asked.line.now in
    let s : ℕ = c.args.s in
    let k : ℕ = c.loop-k.k in
    let many : c.len-many.result ≡ terminal_count line = omega (arith, c.len-many.ensures) in
    let here = c.requires.ruled.each (s * c.len-many.result + k) c.ruled_at.result c.ruled_at.ensures in
    known_more line asked.scripts.now (box_of asked) (s * terminal_count line + k)
    (s * terminal_count line + (k + 1)) c.loop-k.known.items c.push.new.self.items c.ruled_at.result
    (omega arith) c.in_ok-push.ensures.items
    (subst (λ (n : ℕ). IsKnownAt line asked.scripts.now (box_of asked) (s * n + k) c.ruled_at.result)
    many here)
    c.loop-k.invariant
