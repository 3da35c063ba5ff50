use Rattle.std.proofs.Common.{List, refl, subst}
use Rattle.call_facts.specs.declared.firsts.Firsts.{Firsts}
use Rattle.call_page.specs.{Pages.IsPageOf, Sources.words_of}
use Rattle.call_page.proofs.said.text_of_rows.Goals as goal

pub returns : goal.returns
returns c =
    let study = c.args.study.now in
    record {
      rows = c.args.rows.now;
      are_rows = c.requires.rows;
      firsts = c.in_ok-firsts.firsts.items;
      are_firsts = c.in_ok-firsts.ensures;
      page = c.in_ok-page.page;
      of = subst (λ (firsts : List Firsts). IsPageOf study.line study.scripts.items
          c.args.groups.now (words_of c.args.asked.now) c.args.rows.now firsts c.in_ok-page.page)
          c.as_slice.ensures.value c.in_ok-page.ensures;
      status_is = refl;
      text_is = c.in_ok-text.ensures;
    }
