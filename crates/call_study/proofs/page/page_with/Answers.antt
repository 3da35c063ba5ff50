use Rattle.std.proofs.Common.{◌≡◌, ◌∙◌, List, None, Some, length, refl, subst, sym}
use Rattle.std.specs.Prelude.{string_bytes}
use Rattle.std.specs.Option.{option_copied}
use Rattle.call_page.specs.{Pages.IsPageText, Sources.SourceFile}
use Rattle.call_work.specs.load.Reading.{at_most}
use Rattle.call_study.proofs.page.page_with.Goals as goal

pub returns-in-Some : goal.returns-in-Some
returns-in-Some c =
    let is : at_most 4096000 (length c.args.loaded.now.study.scripts.items) ≡ Some c.in-Some.why =
    (rw c.as_slice.ensures.value at (sym c.at_most.ensures)) ∙ c.in-Some.is in
    λ named from same. rw is (refl, refl)

pub returns-in_ok-said-in-None : goal.returns-in_ok-said-in-None
returns-in_ok-said-in-None c =
    let few : at_most 4096000 (length c.args.loaded.now.study.scripts.items) ≡ None =
    (rw c.as_slice.ensures.value at (sym c.at_most.ensures)) ∙ c.in-None.is in
    let loaded = c.args.loaded.now in
    let imprint = c.args.imprint in
    let said = c.in_ok-said-in-None.said in
    λ named from same.
    rw few
    (subst (λ (sources : List SourceFile). IsPageText loaded.study.line loaded.study.scripts.items
    loaded.groups.items (record {
      title = string_bytes loaded.title;
      made = imprint.made.now;
      date = option_copied imprint.date;
      sources = sources;
    }) said.status said.text.items) same
    (rw (c.as_slice-in-None.ensures.value, c.as_bytes.ensures.value, c.date_bytes.ensures)
    at c.in_ok-said-in-None.ensures))
