-- The command that the code's value stands for.
use Rattle.call_pilot.specs.top.Words as words
use Rattle.call_pilot.specs.declared.top.words.Command.{Command}
use Rattle.call_pilot.specs.declared.top.words.Command.TheVariants as command
use Rattle.call_pilot.specs.declared.top.words.TwoFiles.{TwoFiles}
use Rattle.call_pilot.specs.declared.top.words.TwoFiles.TheVariants as two

abbrev pub two_files_view : TwoFiles → words.TwoFiles
two_files_view two.Certify = words.certify
two_files_view two.Report = words.report
two_files_view (two.Margin parameter) = words.margin parameter.now
two_files_view (two.Split depth) = words.split depth.splits

abbrev pub command_view : Command → words.Command
command_view (command.Bench size) = words.bench size.scripts
command_view (command.OneFile work line) = words.one_file work line.now
command_view (command.TwoFiles work line scripts) =
    words.two_files (two_files_view work) line.now scripts.now
command_view (command.ThreeFiles work line scripts third) =
    words.three_files work line.now scripts.now third.now
