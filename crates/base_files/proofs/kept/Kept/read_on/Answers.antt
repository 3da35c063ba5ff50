use Rattle.std.proofs.Common.{◌≡◌, ◌∙◌, ◌+◌, ◌-◌, ◌≤◌, ◌++◌, ap, arith, take, drop, length}
use Rattle.std.proofs.Common.{length-take, length-drop}
use Rattle.base_files.proofs.kept_lemmas.KeptLaws.{front_kept, items_read, read_behind}
use Rattle.base_files.proofs.kept.Kept.read_on.Goals as goal

pub returns-in-Ok-clause-whole : goal.returns-in-Ok-clause-whole
returns-in-Ok-clause-whole g c =
    let old = c.self.inside.bytes.items in
    let room = c.deref_mut.result.now in
    let kept = c.len-kept.result in
    let is : kept ≡ length old = c.len-kept.ensures ∙ c.self.inside.bytes.ok.0 in
    let front : take kept room ≡ old =
    front_kept old room _ _ (kept + 65536) is (omega arith)
    (c.deref_mut.ensures.value ∙ c.in_ok-resize.ensures.items) in
    let within = c.in-Ok.ensures.bound.0 in
    let asked = c.read.auto.buf in
    let taken = length-take (length room - kept) (drop kept room) in
    let behind = length-drop kept room in
    let same = ap (λ x. length x) c.deref_mut.ensures.value in
    let size = c.resize.new.self.ok.0 in
    let grown = c.in_ok-resize.ensures.len in
    let fits : kept + c.in-Ok.count ≤ c.resize.new.self.len =
    omega (arith, within, asked, taken, behind, same, size, grown) in
    let items : c.truncate.new.self.items ≡ old ++ take c.in-Ok.count c.read.new.buf =
    items_read old room c.read.new.buf _ _ _ kept c.in-Ok.count _ front is fits within
    c.truncate.ensures.items in
    rw (← c.self.view_is, items) (read_behind old _ _ _ c.in-Ok.ensures.bytes.0)
