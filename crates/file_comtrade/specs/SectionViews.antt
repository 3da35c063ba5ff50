-- What definitions see of sections.
use Rattle.std.specs.Prelude.{Some, Option, None, if◌then◌else◌}
use Rattle.file_comtrade.specs.Sections.{Found, Parts, is_wanted}
use Rattle.file_comtrade.specs.declared.sections.Found as code_found
use Rattle.file_comtrade.specs.declared.sections.Head.{Head}
use Rattle.file_comtrade.specs.declared.sections.Parts as code
use Rattle.file_comtrade.specs.declared.sections.Wanted.{Wanted}

abbrev pub found_of : code_found.Found → Found
found_of f = record {
  line = f.line;
  head = Some f.head;
  before = f.before.now;
  rest = f.rest.now;
}

abbrev pub parts_values : code.Parts → Parts
parts_values p = record {
  config = p.config.now;
  config_line = p.config_line;
  samples = p.samples.now;
  samples_line = p.samples_line;
}

-- what a line names, where that is wanted
abbrev pub if_wanted : Wanted → Option Head → Option Head
if_wanted what head = if is_wanted what head then head else None
