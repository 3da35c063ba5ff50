use Rattle.std.proofs.Common.{◌≡◌, ◌<◌, ◌+◌, ℕ, [], ◌∷◌, ◌++◌, length, map, drop, sym, ◌∙◌, ap}
use Rattle.std.proofs.Common.{arith, length-append}
use Rattle.std.proofs.lemmas.List.{map-append}
use Rattle.std.proofs.lemmas.List.Elements.{All-same, All-push}
use Rattle.std.proofs.lemmas.Result.{err_from_is_err_and}
use Rattle.std.specs.List.{flat_map}
use Rattle.base_text.specs.lines.Reading.{left_as, said_as, all_parts, parts_more}
use Rattle.base_text.specs.lines.ReadLaws.{fault_there, one_stretch}
use Rattle.base_text.proofs.lines.part.read_each.Goals as goal

pub returns-in_err-part : goal.returns-in_err-part
returns-in_err-part g c =
    let p = err_from_is_err_and c.from_residual.result c.from_residual.ensures.1 in
    let parts = g.R.PartReader.parts c.args.reader.now in
    let kind = parts.grammar in
    let of = parts.places in
    let items = c.args.items.now in
    let k : ℕ = c.loop-item.item-index in
    let item = c.item-item.result in
    let inside : k < length items = omega arith in
    rw (p.1, p.2) (λ later.
    fault_there kind of items k item inside c.item-item.is (flat_map of items ++ later) later _
    c.args.lines.now.rest.now c.args.lines.now.number c.loop-item.lines.rest.now
    c.loop-item.lines.number c.in_err-part.field-0.0 (c.loop-item.invariant.reads later)
    (c.in_err-part.ensures (flat_map of (drop (k + 1) items) ++ later)))

pub loop-item-preserved : goal.loop-item-preserved
loop-item-preserved g c =
    let reader = g.R.PartReader in
    let parts = reader.parts c.args.reader.now in
    let kind = parts.grammar in
    let of = parts.places in
    let told = parts.said in
    let whole = parts.IsWhole in
    let items = c.args.items.now in
    let k : ℕ = c.loop-item.item-index in
    let item = c.item-item.result in
    let inside : k < length items = omega arith in
    let part = c.in_ok-part.part in
    let before = c.loop-item.parts.items in
    let more : c.push.new.self.items ≡ before ++ part ∷ [] = c.in_ok-push.ensures.items in
    record {
      count = omega (
        arith,
        ap length more,
        length-append before (part ∷ []),
        c.loop-item.invariant.count,
      );
      each = All-same whole (map reader.meaning c.push.new.self.items)
          (map reader.meaning before ++ reader.meaning part ∷ [])
          (ap (map reader.meaning) more ∙ map-append reader.meaning before (part ∷ []))
          (All-push whole (map reader.meaning before) (reader.meaning part)
          c.loop-item.invariant.each (c.in_ok-part.ensures []).0);
      reads = λ later.
          let rest = flat_map of (drop (k + 1) items) ++ later in
          let said = flat_map told (map reader.meaning before) in
          said_as kind.stands kind.opens (flat_map of items ++ later)
          (said ++ told (reader.meaning part))
          (flat_map told (map reader.meaning c.push.new.self.items))
          c.args.lines.now.rest.now c.args.lines.now.number rest c.read.new.lines.rest.now
          c.read.new.lines.number
          (sym (parts_more told reader.meaning before c.push.new.self.items part more))
          (one_stretch kind of items k item inside c.item-item.is (flat_map of items ++ later) later said
          (told (reader.meaning part)) c.args.lines.now.rest.now c.args.lines.now.number
          c.loop-item.lines.rest.now c.loop-item.lines.number c.read.new.lines.rest.now
          c.read.new.lines.number (c.loop-item.invariant.reads later)
          (c.in_ok-part.ensures rest).1);
    }

pub returns : goal.returns
returns g c = λ later.
    let parts = g.R.PartReader.parts c.args.reader.now in
    let kind = parts.grammar in
    let of = parts.places in
    let items = c.args.items.now in
    let all : c.loop-item.item-index ≡ length items = omega arith in (
      c.loop-item.invariant.count ∙ all,
      c.loop-item.invariant.each,
      left_as kind.stands kind.opens (flat_map of items ++ later) _ c.args.lines.now.rest.now
          c.args.lines.now.number (flat_map of (drop c.loop-item.item-index items) ++ later) later
          c.loop-item.lines.rest.now c.loop-item.lines.number
          (all_parts of items c.loop-item.item-index later (omega (arith, all)))
          (c.loop-item.invariant.reads later),
    )
