-- The brackets of the search.
use Rattle.std.proofs.Common.{◌≡◌, ◌≤◌, ◌<◌, ◌+◌, ◌-◌, ℕ, Bool, true, false, List, Some, None}
use Rattle.std.proofs.Common.{Option, subst, sym, ◌∙◌, ap, arith, refl, length}
use Rattle.std.proofs.lemmas.Option.{slice_get_within}
use Rattle.std.specs.Prelude.{slice_get}
use Rattle.model_history.specs.ListLaws.{exists_at}
use Rattle.judge_report.specs.declared.upper_end.Lost.{Lost}
use Rattle.judge_margins.specs.{margins.Known.Known, declared.margins.end.End.End, declared.margins.group.Group.Group}
use Rattle.judge_margins.specs.{declared.margins.bracket.Bracket.Bracket, margins.Ends.HaveRoom}
use Rattle.judge_margins.specs.declared.margins.ask.Ask.{Ask}
use Rattle.judge_margins.specs.margins.Groups.{IsGroup, IsFirstOf}
use Rattle.judge_margins.specs.margins.Asks.{AreAsks, AreTold, IsTold}
use Rattle.judge_margins.specs.margins.Brackets.{AreAsksOf, AreBrackets, AreBracketsOf, AreHalves, AreOpen}
use Rattle.judge_margins.specs.margins.Brackets.{AreSlots, IsHalf, IsNarrow, IsSlot}
use Rattle.judge_margins.specs.margins.Brackets.{ask_for, half_of, left_of, tried}
use Rattle.judge_margins.specs.margins.Widened.{param_at, side_at, widened}
use Rattle.judge_margins.proofs.margins_lemmas.WidenedLaws.{room_small, within_params}
use Rattle.judge_margins.proofs.margins_lemmas.KeptLaws.{group_unmoved}

ap_by : (a b : Ask) → a ≡ b → a.by ≡ b.by
ap_by a b same = ap (λ (x : Ask). x.by) same

-- the number that is tried lies in the bracket
tried_above : (whole : Bool) (b : Bracket) → b.near < b.far → b.near < tried whole b
tried_above true b wide = wide
tried_above false b wide = omega (arith, wide)

tried_within : (whole : Bool) (b : Bracket) → b.near < b.far → tried whole b ≤ b.far
tried_within true b wide = omega arith
tried_within false b wide = omega (arith, wide)

-- what is left is no wider than a half, where the middle is tried
left_above : (whole : Bool) (width : ℕ) (b : Bracket) → b.near < b.far → b.far ≤ b.near + width
    → b.far ≤ tried whole b + left_of whole width
left_above true width b wide narrow = omega arith
left_above false width b wide narrow = omega (arith, wide, narrow)

left_below : (whole : Bool) (width : ℕ) (b : Bracket) → b.near < b.far → b.far ≤ b.near + width
    → tried whole b - 1 ≤ b.near + left_of whole width
left_below true width b wide narrow = omega (arith, wide, narrow)
left_below false width b wide narrow = omega (arith, wide, narrow)

left_closed : (whole : Bool) (width : ℕ) (b : Bracket) → b.far ≤ b.near
    → b.far ≤ b.near + left_of whole width
left_closed whole width b closed = omega (arith, closed)

module _ (of : Group) where
  -- an open bracket by what is told of the number that is tried
  half_bracket : (whole : Bool) (width place slack : ℕ) (b : Bracket) (t : Option Lost)
      → b.near < b.far → IsNarrow of width place slack b
      → IsTold of (ask_for whole place b) t
      → IsNarrow of (left_of whole width) place slack (half_of (tried whole b) b t)
  half_bracket whole width place slack b None wide is told =
      let high = tried_within whole b wide in
      record {
        is = record {
          ordered = high;
          within = is.is.within;
          held = told;
          lost = is.is.lost;
        };
        narrow = left_above whole width b wide is.narrow;
      }
  half_bracket whole width place slack b (Some o) wide is told =
      let high = tried_within whole b wide in
      let low = tried_above whole b wide in
      let within = is.is.within in
      let again : tried whole b ≡ tried whole b - 1 + 1 = omega (arith, low) in
      record {
        is = record {
          ordered = omega (arith, low);
          within = omega (arith, high, within);
          held = is.is.held;
          lost = λ _. record {
            first = o;
            is = refl;
            lost = subst (λ (n : ℕ).
                IsFirstOf of (widened of.compiled.line.now (param_at place) (side_at place) n) o)
                again told;
          };
        };
        narrow = left_below whole width b wide is.narrow;
      }

  -- a bracket by its slot
  by_slot : (whole : Bool) (width place slack : ℕ) (b new : Bracket) (slot : Option ℕ)
      (asks : List Ask) (told : List (Option Lost)) → AreTold of asks told (length asks)
      → IsNarrow of width place slack b → IsSlot whole asks place b slot
      → IsHalf whole told b slot new → IsNarrow of (left_of whole width) place slack new
  by_slot whole width place slack b new None asks told are is closed half =
      subst (λ (x : Bracket). IsNarrow of (left_of whole width) place slack x) (sym half)
      (record { is = is.is; narrow = left_closed whole width b closed })
  by_slot whole width place slack b new (Some j) asks told are is slot half =
      let inside : j < length asks = slice_get_within asks j (ask_for whole place b) slot.1 in
      let count = are.count in
      let (t, at) = exists_at told j (omega (arith, inside, count)) in
      subst (λ (x : Bracket). IsNarrow of (left_of whole width) place slack x) (sym (half t at))
      (half_bracket whole width place slack b t slot.0 is
      (are.each j (ask_for whole place b) t slot.1 at))

  -- the halves of all
  pub halved : (ends : List End) (whole : Bool) (width : ℕ) (before after : List Bracket)
      (slots : List (Option ℕ)) (asks : List Ask) (told : List (Option Lost))
      → AreBrackets of ends width before
      → AreSlots whole before slots asks (length before) → AreTold of asks told (length asks)
      → AreHalves whole slots told before after
      → AreBrackets of ends (left_of whole width) after
  halved ends whole width before after slots asks told are slotted tell halves = record {
    count = halves.count ∙ are.count;
    each = λ place end new at there.
        let inside : place < length after = slice_get_within after place new there in
        let a = halves.count in let b = slotted.count in
        let (old, at_old) = exists_at before place (omega (arith, inside, a)) in
        let (slot, at_slot) = exists_at slots place (omega (arith, inside, a, b)) in
        by_slot whole width place end.slack old new slot asks told tell
        (are.each place end old at at_old) (slotted.each place old slot at_old at_slot)
        (halves.each place old new at_old there slot at_slot);
  }

  -- as wide as the widest
  pub as_wide : (ends : List End) (width : ℕ) (brackets : List Bracket)
      → AreBracketsOf of ends brackets
      → ((place : ℕ) (b : Bracket) → slice_get brackets place ≡ Some b → b.far ≤ b.near + width)
      → AreBrackets of ends width brackets
  as_wide ends width brackets are narrow = record {
    count = are.count;
    each = λ place end b at there.
        record { is = are.each place end b at there; narrow = narrow place b there };
  }

  pub however_wide : (ends : List End) (width : ℕ) (brackets : List Bracket)
      → AreBrackets of ends width brackets → AreBracketsOf of ends brackets
  however_wide ends width brackets are = record {
    count = are.count;
    each = λ place end b at there. (are.each place end b at there).is;
  }

  -- before anything is asked
  pub opened_are : (known : Known) (is : IsGroup of) (ends : List End) (brackets : List Bracket)
      → HaveRoom of.compiled.line.now ends → AreOpen ends brackets → AreBrackets of ends 4000
      brackets
  opened_are known is ends brackets have wide = record {
    count = wide.count;
    each = λ place end b at there.
        subst (λ (x : Bracket). IsNarrow of 4000 place end.slack x)
        (sym (wide.each place end b at there))
        (let inside : place < length ends = slice_get_within ends place end at in
        let count = have.count in
        let limit = have.each place end at in
        let small = room_small known of.compiled.line.now (param_at place) (side_at place)
        (within_params of.compiled.line.now place (omega (arith, inside, count))) in record {
          is = record {
            ordered = omega arith;
            within = omega arith;
            held = group_unmoved known of is (param_at place) (side_at place);
            lost = λ lt. absurd (omega (arith, lt));
          };
          narrow = omega (arith, limit, small);
        });
  }

  -- what is asked of brackets can be asked
  pub asks_are : (ends : List End) (whole : Bool) (brackets : List Bracket) (asks : List Ask)
      → HaveRoom of.compiled.line.now ends → AreBracketsOf of ends brackets
      → AreAsksOf whole brackets asks → AreAsks of.compiled.line.now asks
  asks_are ends whole brackets asks have are from j ask at =
      let is = from j ask at in
      let b = is.bracket in
      let inside : ask.place < length brackets = slice_get_within brackets ask.place b is.at in
      let a = are.count in let c = have.count in
      let (end, at_end) = exists_at ends ask.place (omega (arith, inside, a)) in
      let within = (are.each ask.place end b at_end is.at).within in
      let limit = have.each ask.place end at_end in
      let high = tried_within whole b is.wide in
      let by : ask.by ≡ tried whole b = ap_by ask (ask_for whole ask.place b) is.is in
      record {
        place = omega (arith, inside, a, c);
        by = omega (arith, by, high, within, limit);
      }

  -- brackets are in order, and small
  pub brackets_ordered : (ends : List End) (brackets : List Bracket) → AreBracketsOf of ends brackets
      → (place : ℕ) (b : Bracket) → slice_get brackets place ≡ Some b → b.near ≤ b.far
  brackets_ordered ends brackets are place b there =
      let inside : place < length brackets = slice_get_within brackets place b there in
      let a = are.count in
      let (end, at) = exists_at ends place (omega (arith, inside, a)) in
      (are.each place end b at there).ordered

  pub brackets_small : (known : Known) (ends : List End) (brackets : List Bracket)
      → HaveRoom of.compiled.line.now ends → AreBracketsOf of ends brackets
      → (place : ℕ) (b : Bracket) → slice_get brackets place ≡ Some b → b.far ≤ 4000
  brackets_small known ends brackets have are place b there =
      let inside : place < length brackets = slice_get_within brackets place b there in
      let a = are.count in let c = have.count in
      let (end, at) = exists_at ends place (omega (arith, inside, a)) in
      let within = (are.each place end b at there).within in
      let limit = have.each place end at in
      let small = room_small known of.compiled.line.now (param_at place) (side_at place)
      (within_params of.compiled.line.now place (omega (arith, inside, a, c))) in
      omega (arith, within, limit, small)

-- each slot has its answer
pub slot_told : (of : Group) (whole : Bool) (brackets : List Bracket) (slots : List (Option ℕ))
    (asks : List Ask) (told : List (Option Lost)) → AreSlots whole brackets slots asks (length brackets)
    → AreTold of asks told (length asks) → (place j : ℕ) → slice_get slots place ≡ Some (Some j)
    → j < length told
slot_told of whole brackets slots asks told are tell place j at =
    let low = slice_get_within slots place (Some j) at in
    let count = are.count in
    let (b, here) = exists_at brackets place (omega (arith, low, count)) in
    let is = are.each place b (Some j) here at in
    let inside = slice_get_within asks j (ask_for whole place b) is.1 in
    let long = tell.count in
    omega (arith, inside, long)
